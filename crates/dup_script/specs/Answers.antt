-- What is written of the answers to commands.
use Rattle.std.specs.Prelude.{true, false, [], ◌++◌, length}
use Rattle.dup_names.specs.Lines.{line}
use Rattle.dup_names.specs.Words.{Word}
use Rattle.dup_machine.specs.World.Told.{Absent, Ahead, Committed, Delivered, Evicted, NodeMade, NodeTaken, NoNode}
use Rattle.dup_model.specs.Answers.{How}
use Rattle.dup_model.specs.Answers.How.{Hit, Miss, MissUnkept}
use Rattle.dup_model.specs.Commits.{BadBody, JournalFull, KindFull, NoRow, UnknownField, UnknownKind, UnknownTemplate}
use Rattle.dup_records.specs.declared.refusal.CommitRefusal.{CommitRefusal}
use Rattle.dup_records.specs.declared.refusal.CommitRefusal.TheVariants as refused
use Rattle.dup_transcript.specs.Texts.{bad_feed_text, bad_line_text, found_line, not_built_text, refusal_text, settled_text, status_text, told_text}
use Rattle.dup_script.specs.declared.said.HowWord.{HowWord}
use Rattle.dup_script.specs.declared.said.HowWord.TheVariants as how
use Rattle.dup_script.specs.declared.said.Said.{Said}
use Rattle.dup_script.specs.declared.said.Said.TheVariants as said

abbrev pub how_of : HowWord → How
how_of how.Hit = Hit
how_of how.Miss = Miss
how_of how.Unkept = MissUnkept

-- what is written of a commit that is refused; want of memory is none of its causes
abbrev pub refused_text : CommitRefusal → Word
refused_text (refused.UnknownKind n) = refusal_text (UnknownKind n)
refused_text (refused.UnknownField n) = refusal_text (UnknownField n)
refused_text (refused.NoRow n) = refusal_text (NoRow n)
refused_text (refused.KindFull n) = refusal_text (KindFull n)
refused_text (refused.JournalFull commits bytes) = refusal_text (JournalFull commits bytes)
refused_text (refused.UnknownTemplate n) = refusal_text (UnknownTemplate n)
refused_text (refused.BadBody n why) = refusal_text (BadBody n why)
refused_text refused.NoMemory = []

-- the line of an answer
abbrev pub said_line : Said → Word
said_line (said.Node node) = told_text (NodeMade node)
said_line (said.NodeTaken node) = told_text (NodeTaken node)
said_line (said.NoNode node) = told_text (NoNode node)
said_line (said.Committed version) = told_text (Committed version)
said_line (said.Refused why) = refused_text why
said_line (said.BadFeed why) = bad_feed_text why
said_line (said.Settled version edition bundles expanded joined kept) =
    settled_text edition bundles
    (record { version = version; expanded = expanded; joined = joined; kept = kept })
said_line (said.Delivered node edition entries) = told_text (Delivered node edition entries)
said_line (said.Found edition version how bytes) = found_line edition version (how_of how) (length bytes)
said_line (said.Absent edition) = told_text (Absent edition)
said_line (said.Ahead pass edition) = told_text (Ahead pass edition)
said_line said.Evicted = told_text (Evicted true)
said_line said.NotKept = told_text (Evicted false)
said_line (said.Status version work target edition pending) =
    status_text (record {
      version = version;
      work = work;
      target = target;
      edition = edition;
      pending = pending;
    })
said_line (said.NotBuilt number) = not_built_text number
said_line (said.BadLine number) = bad_line_text number

-- what is written of an answer: its line, and behind that of a page the page
abbrev pub said_text : Said → Word
said_text (said.Found edition version how bytes) =
    said_line (said.Found edition version how bytes) ++ line bytes
said_text s = said_line s

-- an answer of one line
abbrev pub IsLine : Said → Type 0
IsLine (said.Found edition version how bytes) = ⊥
IsLine s = Unit {0}
