-- What a work joins next, which object is handed next, and how a work begins, moves and grows. The law above:
-- `settle_law`.
use Rattle.std.specs.Prelude.{ℕ, ◌+◌, ◌-◌, ◌^◌, List, [], ◌∷◌, ◌++◌, min, Option, Some, None, length}
use Rattle.std.specs.List.{filter, find, list_all}
use Rattle.std.specs.Option.{option_or}
use Rattle.std.specs.Ordering.{is_lt}
use Rattle.dup_names.specs.Order.{obj_cmp}
use Rattle.dup_names.specs.declared.object.Obj.{Obj}
use Rattle.dup_names.specs.Words.{in_order}
use Rattle.dup_model.specs.Content.{Content}
use Rattle.dup_model.specs.Skeletons.{embeds}
use Rattle.dup_model.specs.Pages.{live}
use Rattle.dup_model.specs.Found.{found}
use Rattle.dup_names.specs.Objects.{is_in}
use Rattle.dup_model.specs.Touched.{without, touched, affected}
use Rattle.dup_machine.specs.World.{Work}

-- the found objects without a look
abbrev pub unjoined : Content → Work → List Obj
unjoined c work = without (is_in work.looked) (found c work.done)

-- those of them whose embedded objects all have looks
abbrev pub level : Content → Work → List Obj
level c work = filter (λ o. list_all (is_in work.looked) (embeds c o)) (unjoined c work)

-- a work at a version, from no target
abbrev pub first_work : ℕ → Work
first_work v = record {
  version = v;
  last_handed = None;
  done = [];
  looked = [];
  once = [];
  expanded = 0;
  joined = 0;
}

-- a work at version v with content b, from a target with content a
abbrev pub work_from : Content → ℕ → Content → Work
work_from a v b = record {
  version = v;
  last_handed = None;
  done = without (touched a b) (live a);
  looked = without (affected a b) (live a);
  once = [];
  expanded = 0;
  joined = 0;
}

-- a work at content a, moved to version v with content b
abbrev pub moved : Content → ℕ → Content → Work → Work
moved a v b work = record work {
  version = v;
  last_handed = None;
  done = without (touched a b) work.done;
  looked = without (affected a b) work.looked;
}

abbrev pub first_of : List Obj → Option Obj
first_of [] = None
first_of (o ∷ os) = Some o

-- the least after the one last handed, or the least of all
abbrev pub next_of : Option Obj → List Obj → Option Obj
next_of None os = first_of os
next_of (Some last) os = option_or (find (λ o. is_lt (obj_cmp last o)) os) (first_of os)

-- a count that stays at 2^64 - 1
abbrev pub more : ℕ → ℕ → ℕ
more count n = min (count + n) (2 ^ 64 - 1)

abbrev pub with_done : Obj → Work → Work
with_done o work = record work { done = in_order obj_cmp (o ∷ work.done); expanded = more work.expanded 1 }

abbrev pub with_joined : List Obj → Work → Work
with_joined os work = record work {
  looked = in_order obj_cmp (os ++ work.looked);
  once = in_order obj_cmp (os ++ work.once);
  joined = more work.joined (length os);
}
