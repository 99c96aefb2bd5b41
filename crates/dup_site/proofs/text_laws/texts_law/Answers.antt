use Rattle.dup_site.proofs.text_laws.texts_law.Goals as goal
use Rattle.dup_site.proofs.LinesAgain.{texts_are_canonical}
use Rattle.dup_site.proofs.BadLines.{bad_lines_stay}
use Rattle.dup_site.proofs.LinesGoOn.{lines_go_on}

pub returns-clause-canonical : goal.returns-clause-canonical
returns-clause-canonical c = texts_are_canonical

pub returns-clause-bad : goal.returns-clause-bad
returns-clause-bad c = bad_lines_stay

pub returns-clause-before : goal.returns-clause-before
returns-clause-before c = lines_go_on
