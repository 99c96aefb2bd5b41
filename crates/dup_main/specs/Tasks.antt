-- What the words of a command line ask for.
use Rattle.std.specs.Prelude.{List, [], ◌∷◌, codes, if◌then◌else◌, Option, Some, None, String, string_bytes}
use Rattle.std.specs.declared.alloc.Global.{Global}
use Rattle.dup_names.specs.Words.{Word, same}
use Rattle.dup_transcript.specs.declared.task.Task.{Task}
use Rattle.dup_transcript.specs.declared.task.Task.TheVariants.{Play, Check, Render}

abbrev pub task_named : Word → Option Task
task_named word =
    if same word (codes "play") then Some Play else
    (if same word (codes "check") then Some Check else
    (if same word (codes "render") then Some Render else None))

-- one word, `play`, `check` or `render`
abbrev pub task_of : List (String Global) → Option Task
task_of (word ∷ []) = task_named (string_bytes word)
task_of words = None
