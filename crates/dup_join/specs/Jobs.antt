-- What a job gives.
use Rattle.std.specs.Prelude.{map}
use Rattle.dup_names.specs.declared.value.Look.{Look}
use Rattle.dup_model.specs.JoinedLooks.{joined_look}
use Rattle.dup_join.specs.declared.joining.JoinJob.{JoinJob}

-- the look of a job's object by its skeleton and its parts
abbrev pub look_of : JoinJob → Look
look_of job = joined_look job.obj job.skeleton.value (map (λ p. p.value) job.parts)
