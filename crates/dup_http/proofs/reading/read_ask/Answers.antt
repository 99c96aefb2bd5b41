use Rattle.std.proofs.Common.{length}
use Rattle.std.proofs.lemmas.Result.{IfOk-weaker}
use Rattle.dup_http.specs.Readings.{window, Reads, ReadsItsHead, RefusesManyFields, ReadsHoweverCut, IsInBounds}
use Rattle.dup_http.proofs.Cuts.{says_head, says_many, says_in_bounds, says_cut}
use Rattle.dup_http.proofs.reading.read_ask.Goals as goal

pub returns-clause-whole : goal.returns-clause-whole
returns-clause-whole c =
    let w = window c.args.bytes.now in
    IfOk-weaker _ (Reads w) (ReadsItsHead w) (says_head w) (rw c.window.ensures at c.read_window.ensures)

pub returns-clause-many : goal.returns-clause-many
returns-clause-many c =
    let w = window c.args.bytes.now in
    IfOk-weaker _ (Reads w) (RefusesManyFields w) (says_many w) (rw c.window.ensures at c.read_window.ensures)

pub returns-clause-bounds : goal.returns-clause-bounds
returns-clause-bounds c =
    let bytes = c.args.bytes.now in
    IfOk-weaker _ (Reads (window bytes)) (IsInBounds (length bytes)) (says_in_bounds bytes) (rw c.window.ensures at c.read_window.ensures)

pub returns-clause-cut : goal.returns-clause-cut
returns-clause-cut c =
    let bytes = c.args.bytes.now in
    IfOk-weaker _ (Reads (window bytes)) (ReadsHoweverCut bytes)
    (λ reading reads h rest more plain same. says_cut bytes more rest h plain same reading reads) (rw c.window.ensures at c.read_window.ensures)
