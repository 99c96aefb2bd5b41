-- The capacity that a line commands is one that a cache can have.
use Rattle.std.proofs.Common.{◌≡◌, inl, inr, sym, subst, arith}
use Rattle.std.specs.Prelude.{Result, Ok, Err}
use Rattle.std.proofs.lemmas.Bool.Decides.{nat_tests}
use Rattle.dup_names.specs.Words.{Word}
use Rattle.dup_model.specs.Commits.{Commit}
use Rattle.dup_model.specs.declared.feed_refusal.FeedRefusal.{FeedRefusal}
use Rattle.dup_feed.specs.Feed.{feed_says}
use Rattle.dup_transcript.specs.Commands.{Command, of_message}
use Rattle.dup_transcript.specs.OnlyTable.{IsInTable}
use Rattle.dup_transcript.specs.OnlyTable.IsInTable.{alone, blank, comment, commit, settle, status, node, deliver, get, evict, with_slot}
use Rattle.dup_transcript.proofs.OnlyTable.{only_the_table}
use Rattle.dup_script.specs.Commands.{HasRoom, command_of}

of_a_message : (m : Result Commit FeedRefusal) → HasRoom (of_message m)
of_a_message (Ok said) = tt
of_a_message (Err why) = tt

in_table : (text : Word) (c : Command) → IsInTable feed_says text c → HasRoom c
in_table text _ (blank is) = tt
in_table text _ (comment rest is) = tt
in_table text _ (commit message is some) = of_a_message (feed_says message)
in_table text _ (settle is) = tt
in_table text _ (status is) = tt
in_table text _ (alone word comes is) = tt
in_table text _ (with_slot word slot comes fits is) = tt
in_table text _ (node number capacity mode is_node fits is) = (grind (arith, nat_tests), grind (arith, nat_tests))
in_table text _ (deliver number is_node is) = tt
in_table text _ (get number pass path is_node small good is) = tt
in_table text _ (evict number path is_node good is) = tt

pub has_room : (text : Word) → HasRoom (command_of text)
has_room text = elim (only_the_table feed_says text) [
  | inl row ↦ in_table text (command_of text) row
  | inr other ↦ subst HasRoom (sym other) tt
]

pub reads_room : (c : Command) (text : Word) → c ≡ command_of text → HasRoom c
reads_room c text is = subst HasRoom (sym is) (has_room text)
