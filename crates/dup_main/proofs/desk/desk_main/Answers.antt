use Rattle.std.proofs.Common.{◌≡◌, inl, inr, IsSomeAnd, Some, arith, rules}
use Rattle.dup_main.specs.Tasks.{task_of}
use Rattle.dup_main.specs.Transcript.{WritesTranscript}
use Rattle.dup_main.proofs.Endings.{broken_told, fault_told, none_cut, part_told}
use Rattle.dup_main.proofs.PlayedRuns.{played_runs, stopped_runs}
use Rattle.dup_main.proofs.desk.desk_main.Goals as goal

pub returns-in-Ok-clause-run : goal.returns-in-Ok-clause-run
returns-in-Ok-clause-run g c = λ done is.
    let w : IsSomeAnd (task_of c.args.words.now) (λ task.
    WritesTranscript task (g.S.Source.left c.args.input.now) (g.K.Sink.written c.args.out.now) (g.K.Sink.written c.perform.new.out) 0) = search rules in
    played_runs (task_of c.args.words.now) _ _ _ 0 is w

pub returns-in-Err-clause-run : goal.returns-in-Err-clause-run
returns-in-Err-clause-run g c = λ done is. elim done [
  | inl zero ↦ absurd (grind (arith, zero, c.finish.ensures.others))
  | inr seven ↦
      let asked : task_of c.args.words.now ≡ Some c.in-Some.task = search rules in
      stopped_runs (task_of c.args.words.now) c.in-Some.task c.in-Err.stop _ _ _ _ c.finish.result is asked c.in-Err.ensures.stopped (c.finish.ensures.written (inr seven))
]

pub returns-in-Err-clause-read_fault_line : goal.returns-in-Err-clause-read_fault_line
returns-in-Err-clause-read_fault_line g c = λ three.
    fault_told (task_of c.args.words.now) c.in-Some.task c.in-Err.stop _ _ _ _ _ (search rules) (c.finish.ensures.read three) c.in-Err.ensures.breaks (c.finish.ensures.reading three)

pub returns-in-Err-clause-part : goal.returns-in-Err-clause-part
returns-in-Err-clause-part g c = λ four.
    part_told (task_of c.args.words.now) c.in-Some.task c.in-Err.stop _ _ _ _ _ (search rules) (c.finish.ensures.part four) c.in-Err.ensures.breaks c.in-Err.ensures.stopped

pub returns-in-Err-clause-broken : goal.returns-in-Err-clause-broken
returns-in-Err-clause-broken g c = λ six.
    broken_told (task_of c.args.words.now) c.in-Some.task c.in-Err.stop _ _ _ _ _ (search rules) (c.finish.ensures.memory six) c.in-Err.ensures.breaks (c.finish.ensures.nothing six)

pub returns-in-Err-clause-complete : goal.returns-in-Err-clause-complete
returns-in-Err-clause-complete g c = λ good.
    let asked : task_of c.args.words.now ≡ Some c.in-Some.task = search rules in (
      λ two. absurd (grind (arith, two, c.finish.ensures.others)),
      λ five.
          let z : c.finish.result ≡ 0 = none_cut (task_of c.args.words.now) c.in-Some.task c.in-Err.stop _ _ _ _ c.finish.result asked c.in-Err.ensures.stopped (c.finish.ensures.written (inl five)) good in
          absurd (omega (arith, five, z)),
      λ seven.
          let z : c.finish.result ≡ 0 = none_cut (task_of c.args.words.now) c.in-Some.task c.in-Err.stop _ _ _ _ c.finish.result asked c.in-Err.ensures.stopped (c.finish.ensures.written (inr seven)) good in
          absurd (omega (arith, seven, z)),
    )
