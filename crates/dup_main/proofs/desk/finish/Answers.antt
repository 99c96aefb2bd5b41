use Rattle.dup_main.proofs.desk.finish.Goals as goal

pub returns-in-InputTooLong-clause-part : goal.returns-in-InputTooLong-clause-part
returns-in-InputTooLong-clause-part g c = rw c.in-InputTooLong.is (λ four. (λ e. absurd (cc), c.end-in-InputTooLong.ensures.part four))
