-- What each command does to a hall is what the machine does from where it stands.
use Rattle.std.proofs.Common.{◌≡◌, ◌≢◌, ℕ, refl, sym, ap, ◌∙◌, subst, List, []}
use Rattle.std.specs.Prelude.{OnOk, Option, Some, None, Result, Ok, Err}
use Rattle.std.specs.FinMap as fin
use Rattle.std.specs.Map.{lookup}
use Rattle.std.specs.Ordering.{is_eq, nat_cmp}
use Rattle.std.proofs.lemmas.Option.{none-some}
use Rattle.dup_names.specs.Words.{Word}
use Rattle.dup_template.specs.declared.site.Parts.{Parts}
use Rattle.dup_model.specs.Commits.{Commit, Refusal}
use Rattle.dup_model.specs.Editions.{Bundle}
use Rattle.dup_model.specs.Journal.{Limits, commit_refusal}
use Rattle.dup_machine.specs.Presses.{Press, commit_step}
use Rattle.dup_machine.specs.World.{Told, World}
use Rattle.dup_machine.specs.World.Told.{Committed, Refused}
use Rattle.dup_records.specs.Refusals.{Names}
use Rattle.dup_records.specs.declared.refusal.CommitRefusal.{CommitRefusal}
use Rattle.dup_records.specs.declared.refusal.CommitRefusal.TheVariants as cause
use Rattle.dup_cache.specs.Holding.{BeginsWith}
use Rattle.dup_cache.proofs.Holding.{growing_holds}
use Rattle.dup_press.specs.Pressed.{IsSamePlace, Pressed, Tells, pressed}
use Rattle.dup_press.specs.Told.{IsSettled, IsStatus}
use Rattle.dup_press.specs.declared.answers.Status.{Status}
use Rattle.dup_press.specs.declared.answers.Summary.{Summary}
use Rattle.dup_transcript.specs.Commands.{Command}
use Rattle.dup_transcript.specs.Texts.{refusal_text, settled_text, status_text, told_text}
use Rattle.dup_transcript.specs.Turns.{Turns, first_standing}
use Rattle.dup_transcript.specs.declared.command.Command.TheVariants as command
use Rattle.dup_transcript.proofs.MachineTurns.{settles_grow, turns_commit, turns_settle, turns_status}
use Rattle.dup_hall.specs.Serving.{AllHold, Nodes, TurnsNodes, cache_at, standing_at}
use Rattle.dup_hall.specs.declared.hall.Hall.{Hall as Kept}
use Rattle.dup_hall.specs.Kept.{Acts, IsSound, WritesAnswer, answer_text, limits_of, site_of, standing}

-- the hall with another press
abbrev pub with_press : Kept → Pressed → Kept
with_press s p = record s { press = p }

-- why a commit is refused there
abbrev pub refused_in : Kept → Commit → Option Refusal
refused_in s commit = commit_refusal s.press.works.journal.site s.press.works.journal.limits s.press.works.journal.commits commit

pub accepted_acts : (s : Kept) (new : Pressed) (commit : Commit) (version : ℕ) (text : Word)
    → Tells (commit_step commit (refused_in s commit)) s.press (Committed version) new → text ≡ told_text (Committed version)
    → Acts s (with_press s new) 0 (command.Commit commit) text
accepted_acts s new commit version text tells said =
    subst (λ (t : Word). Acts s (with_press s new) 0 (command.Commit commit) t) (sym said)
    (turns_commit (site_of s) (limits_of s) (standing s) 0 commit (Committed version) (pressed new) tells)

-- a refusal that is no want of memory names a cause
named : (why : CommitRefusal) → Names why None → why ≢ cause.NoMemory → ⊥
named (cause.UnknownKind n) names other = absurd (cc)
named (cause.UnknownField n) names other = absurd (cc)
named (cause.NoRow n) names other = absurd (cc)
named (cause.KindFull n) names other = absurd (cc)
named (cause.JournalFull commits bytes) names other = absurd (cc)
named (cause.UnknownTemplate n) names other = absurd (cc)
named (cause.BadBody n rule) names other = absurd (cc)
named cause.NoMemory names other = absurd (other refl)

-- a commit that is refused leaves the press
pub refused_acts : (s : Kept) (new : Pressed) (commit : Commit) (why : CommitRefusal) (text : Word) → new ≡ s.press → Names why (refused_in s commit) → why ≢ cause.NoMemory
    → ((due : Refusal) → Names why (Some due) → text ≡ refusal_text due) → Acts s (with_press s new) 0 (command.Commit commit) text
refused_acts s new commit why text same names other says = by_cause (refused_in s commit) refl names
  where
    by_cause : (o : Option Refusal) → refused_in s commit ≡ o → Names why o → Acts s (with_press s new) 0 (command.Commit commit) text
    by_cause None is n = absurd (named why n other)
    by_cause (Some due) is n =
        let at : commit_step commit (refused_in s commit) (pressed s.press) ≡ (Refused due, pressed new) =
        ap (λ (o : Option Refusal). commit_step commit o (pressed s.press)) is ∙ ap (λ (p : Pressed). let r : Told × Press = (Refused due, pressed p) in r) (sym same) in
        subst (λ (t : Word). Acts s (with_press s new) 0 (command.Commit commit) t) (sym (says due n)) (turns_commit (site_of s) (limits_of s) (standing s) 0 commit (Refused due) (pressed new) at)

pub settle_acts : (s : Kept) (new : Pressed) (summary : Summary) (text : Word) → IsSettled s.press summary new
    → text ≡ settled_text summary.edition summary.bundles (record { version = summary.version; expanded = summary.expanded; joined = summary.joined; kept = summary.kept })
    → Acts s (with_press s new) 0 command.Settle text
settle_acts s new summary text settled said = turns_settle (site_of s) (limits_of s) (standing s) (pressed new) 0 text (λ w is slot.
    let h = settled (limits_of s) w is slot in (
      h.counts,
      said ∙ ap (λ (t : Summary). settled_text t.edition t.bundles (record { version = t.version; expanded = t.expanded; joined = t.joined; kept = t.kept })) h.says,
      (h.events, h.settles, h.press),
    ))

-- the status of a press is that of each machine that stands so
pub status_acts : (s : Kept) (told : Status) (text : Word) → IsStatus s.press told
    → text ≡ status_text (record { version = told.version; work = told.work; target = told.target; edition = told.edition; pending = told.pending })
    → Acts s s 0 command.Status text
status_acts s told text is said =
    subst (λ (t : Word). Acts s s 0 command.Status t) (sym said)
    (turns_status (site_of s) (limits_of s) (standing s) 0 (record { version = told.version; work = told.work; target = told.target; edition = told.edition; pending = told.pending }) is)

-- a commit leaves the log
commit_log : (commit : Commit) (why : Option Refusal) (old new : Pressed) (told : Told) → Tells (commit_step commit why) old told new → new.log ≡ old.log
commit_log commit why old new told tells = ap (λ (r : Told × Press). r.1.log) (sym tells)

pub accepted_sound : (s : Kept) (new : Pressed) (commit : Commit) (version : ℕ) → IsSound s → Tells (commit_step commit (refused_in s commit)) s.press (Committed version) new
    → IsSound (with_press s new)
accepted_sound s new commit version sound tells =
    subst (AllHold s.nodes) (sym (commit_log commit (refused_in s commit) s.press new (Committed version) tells)) sound

pub refused_sound : (s : Kept) (new : Pressed) → IsSound s → new ≡ s.press → IsSound (with_press s new)
refused_sound s new sound same = subst (λ (p : Pressed). IsSound (with_press s p)) (sym same) sound

-- a settle lets the log grow
abbrev world_of : Pressed → World
world_of p = let m : Press = pressed p in record { commits = m.commits; target = m.target; work = m.work; log = m.log; nodes = fin.empty; slots = fin.empty; replies = [] }

settled_log : (limits : Limits) (old new : Pressed) (summary : Summary) → IsSettled old summary new → BeginsWith new.log old.log
settled_log limits old new summary settled =
    let h = settled limits (world_of old) refl (fin.get-empty nat_cmp 0) in
    let grown = settles_grow old.works.journal.site limits (world_of old) h.events h.counts h.settles in
    (grown.0, grown.1 ∙ ap (λ (p : Press). p.log) h.press)

pub settled_sound : (s : Kept) (new : Pressed) (summary : Summary) → IsSound s → IsSettled s.press summary new → IsSound (with_press s new)
settled_sound s new summary sound settled =
    λ n cache is. growing_holds new.log s.press.log cache (settled_log (limits_of s) s.press new summary settled) (sound n cache is)

-- a command of nodes leaves the press
abbrev pub with_nodes : Kept → Nodes → Kept
with_nodes s nodes = record s { nodes = nodes }

pub nodes_act : (s : Kept) (nodes : Nodes) (c : Command) (text : Word) (log : List Bundle) → log ≡ s.press.log → TurnsNodes log s.nodes c text nodes
    → Turns (site_of s) (limits_of s) (standing s) 0 c text (standing (with_nodes s nodes))
nodes_act s nodes c text log same turns = turns (site_of s) (limits_of s) (pressed s.press) (sym same)

pub nodes_sound : (s : Kept) (nodes : Nodes) (log : List Bundle) → log ≡ s.press.log → AllHold nodes log → IsSound (with_nodes s nodes)
nodes_sound s nodes log same holds = subst (AllHold nodes) same holds

pub always_ok : {T : Type 0} {E : Type 0} {P : Type 0} (result : Result T E) → P → OnOk result P
always_ok (Ok x) is = is
always_ok (Err why) is = tt

-- before any command
empty_at : (nodes : Nodes) (n : ℕ) → nodes.entries ≡ [] → cache_at nodes n ≡ None
empty_at nodes n empty = ap (lookup (λ k. is_eq (nat_cmp n k))) empty

pub empty_stands : (press : Pressed) (nodes : Nodes) → pressed press ≡ first_standing.press → nodes.entries ≡ [] → standing_at (pressed press) nodes ≡ first_standing
empty_stands press nodes first empty = λ i. record { press = first i; nodes = λ n. empty_at nodes n empty i }

pub empty_sound : (press : Pressed) (nodes : Nodes) → nodes.entries ≡ [] → AllHold nodes press.log
empty_sound press nodes empty n cache is = absurd (none-some cache (sym (empty_at nodes n empty) ∙ is))
