-- Each reply of the tables can be sent: its code has a reason, and its length is the body's.
use Rattle.std.specs.Prelude.{ℕ, IsSome}
use Rattle.dup_names.specs.Words.{Word}
use Rattle.dup_model.specs.Answers.{Reply}
use Rattle.dup_http.specs.declared.ask.Ask.{Ask}
use Rattle.dup_http.specs.Replies.{reason}
use Rattle.dup_serve.specs.Sent.{IsSendable, refused}
use Rattle.dup_serve.specs.NodeReplies.{node_table}
use Rattle.dup_serve.specs.DeskReplies.{Took, desk_table}

-- so have the replies of both tables, and those for a refused head; a code that is refused with has a reason
pub record TablesAreSendable : Type 0 where
  pub node : (ask : Ask) (reply : Word → Reply) → IsSendable (node_table ask reply)
  pub desk : (ask : Ask) (answer : Took) (words : Word) → IsSendable (desk_table ask answer words)
  pub bad : (code : ℕ) → IsSome (reason code) → IsSendable (refused code)
