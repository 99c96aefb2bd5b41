-- What is written of the machine's replies.
use Rattle.std.specs.Prelude.{ℕ, Bool, true, false, [], ◌++◌, Option, Some, None, codes, length}
use Rattle.std.specs.Fmt.{decimal}
use Rattle.dup_names.specs.Lines.{line}
use Rattle.dup_names.specs.Words.{Word}
use Rattle.dup_model.specs.Commits.{BadBody, JournalFull, KindFull, NoRow, Refusal, UnknownField}
use Rattle.dup_model.specs.Commits.{UnknownKind, UnknownTemplate}
use Rattle.dup_model.specs.declared.feed_refusal.FeedRefusal.{FeedRefusal}
use Rattle.dup_model.specs.declared.feed_refusal.FeedRefusal.TheVariants.{NotJson, Shape, TooMany, NoMemory}
use Rattle.dup_transcript.specs.BadSites.{rule_text}
use Rattle.dup_model.specs.Answers.{How}
use Rattle.dup_model.specs.Answers.How.{Hit, Miss, MissUnkept}
use Rattle.dup_model.specs.Editions.{Page}
use Rattle.dup_machine.specs.Status.{Status}
use Rattle.dup_machine.specs.World.{Counts, Told}
use Rattle.dup_machine.specs.World.Told.{Committed, Refused, NodeMade, NodeTaken, NoNode, Delivered, Found, Absent, Ahead, Evicted}

abbrev pub refusal_text : Refusal → Word
refusal_text (UnknownKind n) = line (codes "refused unknown kind at " ++ decimal n)
refusal_text (UnknownField n) = line (codes "refused unknown field at " ++ decimal n)
refusal_text (NoRow n) = line (codes "refused no row at " ++ decimal n)
refusal_text (KindFull n) = line (codes "refused kind full at " ++ decimal n)
refusal_text (JournalFull commits bytes) = line (codes "refused journal full")
refusal_text (UnknownTemplate n) = line (codes "refused unknown template at " ++ decimal n)
refusal_text (BadBody n why) = line (codes "refused bad body at " ++ decimal n ++ codes ": " ++ rule_text why)

abbrev pub how_word : How → Word
how_word Hit = codes "hit"
how_word Miss = codes "miss"
how_word MissUnkept = codes "unkept"

-- a page of an edition by its version, how it was found, and how many bytes it has
abbrev pub found_line : ℕ → ℕ → How → ℕ → Word
found_line edition version how bytes =
    line (codes "found " ++ decimal edition ++ codes " " ++ decimal version ++ codes " " ++ how_word how
    ++ codes " " ++ decimal bytes)

-- the line, and the page's bytes
abbrev pub found_text : ℕ → Page → How → Word
found_text edition page how =
    found_line edition page.version how (length page.look.bytes) ++ line page.look.bytes

-- what is written of one reply, of those that a script meets today
abbrev pub told_text : Told → Word
told_text (Committed version) = line (codes "committed " ++ decimal version)
told_text (Refused why) = refusal_text why
told_text (NodeMade node) = line (codes "node " ++ decimal node)
told_text (NodeTaken node) = line (codes "node " ++ decimal node ++ codes " taken")
told_text (NoNode node) = line (codes "no node " ++ decimal node)
told_text (Delivered node edition entries) =
    line (codes "delivered " ++ decimal node ++ codes " edition " ++ decimal edition ++ codes " entries "
    ++ decimal entries)
told_text (Found edition page how) = found_text edition page how
told_text (Absent edition) = line (codes "absent " ++ decimal edition)
told_text (Ahead pass edition) = line (codes "ahead " ++ decimal pass ++ codes " " ++ decimal edition)
told_text (Evicted true) = line (codes "evicted")
told_text (Evicted false) = line (codes "not kept")
told_text _ = []

-- what is written of settling: the edition, the bundles that made it, and what the work's report says
abbrev pub settled_text : ℕ → ℕ → Counts → Word
settled_text edition bundles counts =
    line (codes "settled " ++ decimal counts.version ++ codes " edition " ++ decimal edition
    ++ codes " bundles " ++ decimal bundles
    ++ codes " expanded " ++ decimal counts.expanded ++ codes " joined " ++ decimal counts.joined
    ++ codes " kept " ++ decimal counts.kept)

abbrev pub version_word : Option ℕ → Word
version_word (Some version) = decimal version
version_word None = codes "-"

abbrev pub yes_or_no : Bool → Word
yes_or_no true = codes "yes"
yes_or_no false = codes "no"

-- what is written of a status
abbrev pub status_text : Status → Word
status_text s =
    line (codes "version " ++ decimal s.version ++ codes " work " ++ version_word s.work
    ++ codes " target " ++ version_word s.target ++ codes " edition " ++ decimal s.edition
    ++ codes " pending " ++ yes_or_no s.pending)

-- what is written of a feed message that says no commit; want of memory is none of its causes
abbrev pub bad_feed_text : FeedRefusal → Word
bad_feed_text NotJson = line (codes "refused not json")
bad_feed_text (Shape n) = line (codes "refused shape " ++ decimal n)
bad_feed_text (TooMany n) = line (codes "refused too many changes")
bad_feed_text NoMemory = []

-- what is written of a line that is no command
abbrev pub bad_line_text : ℕ → Word
bad_line_text number = line (codes "bad line " ++ decimal number)

-- what is written of a command that isn't built
abbrev pub not_built_text : ℕ → Word
not_built_text number = line (codes "not built " ++ decimal number)
