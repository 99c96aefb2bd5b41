-- The text of a refused commit, by the refusal that it names.
use Rattle.std.proofs.Common.{◌≡◌, ◌≢◌, refl, sym, ap}
use Rattle.std.specs.Prelude.{Some}
use Rattle.std.proofs.lemmas.Option.{same_Some}
use Rattle.dup_model.specs.Commits.{Refusal}
use Rattle.dup_records.specs.Refusals.{Names}
use Rattle.dup_records.specs.declared.refusal.CommitRefusal.{CommitRefusal}
use Rattle.dup_records.specs.declared.refusal.CommitRefusal.TheVariants as cause
use Rattle.dup_transcript.specs.Texts.{refusal_text}
use Rattle.dup_script.specs.Answers.{refused_text}

pub named_text : (why : CommitRefusal) (due : Refusal) → why ≢ cause.NoMemory → Names why (Some due) → refused_text why ≡ refusal_text due
named_text (cause.UnknownKind n) due other is = ap refusal_text (same_Some _ due (sym is))
named_text (cause.UnknownField n) due other is = ap refusal_text (same_Some _ due (sym is))
named_text (cause.NoRow n) due other is = ap refusal_text (same_Some _ due (sym is))
named_text (cause.KindFull n) due other is = ap refusal_text (same_Some _ due (sym is))
named_text (cause.JournalFull commits bytes) due other is = ap refusal_text (same_Some _ due (sym is))
named_text (cause.UnknownTemplate n) due other is = ap refusal_text (same_Some _ due (sym is))
named_text (cause.BadBody n why) due other is = ap refusal_text (same_Some _ due (sym is))
named_text cause.NoMemory due other is = absurd (other refl)
