-- The replies of the worked examples that look a page up in the edition.
use Rattle.std.proofs.Common.{◌≡◌, Bool, true, false, refl, ap, ◌∙◌}
use Rattle.std.specs.Prelude.{Option, Some, None, codes, ◌++◌}
use Rattle.std.specs.Fmt.{digits}
use Rattle.std.specs.FinMap as fin
use Rattle.std.specs.Cmp.Lexicographic.{nat_list_cmp_total}
use Rattle.dup_names.specs.Order.{text_cmp}
use Rattle.dup_names.specs.Words.{Word}
use Rattle.dup_model.specs.Editions.{Page, edition}
use Rattle.dup_model.specs.Caches.{catch_up}
use Rattle.dup_model.specs.Answers.{missed}
use Rattle.dup_http.specs.declared.ask.Method.TheVariants.{Get}
use Rattle.dup_serve.specs.Sent.{sent_text}
use Rattle.dup_serve.specs.NodeReplies.{replied}
use Rattle.dup_serve.specs.Examples.{log, empty, event_page, event_head, plain_head}

page_there : fin.get (edition log) event_page.path ≡ Some event_page
page_there = fin.get-insert nat_list_cmp_total fin.empty event_page.path event_page event_page.path

page_absent : fin.get (edition log) (codes "/event/e2") ≡ None
page_absent =
    fin.get-insert nat_list_cmp_total fin.empty event_page.path event_page (codes "/event/e2") ∙ fin.get-empty text_cmp (codes "/event/e2")

-- what is written where the edition has this at the path
abbrev text_of : Bool → Option Page → Word
text_of kept found = sent_text Get (replied (missed (catch_up log empty) kept found).reply)

found_text : text_of true (Some event_page) ≡ event_head (codes "miss") ++ codes "<h1>100m</h1>"
unfolding digits
found_text = refl

unkept_text : text_of false (Some event_page) ≡ event_head (codes "unkept") ++ codes "<h1>100m</h1>"
unfolding digits
unkept_text = refl

absent_text : text_of true None ≡ plain_head (codes "404 Not Found") (codes "7") (codes "DUP-Edition: 1\r\n") ++ codes "absent\n"
unfolding digits
absent_text = refl

pub finds : text_of true (fin.get (edition log) event_page.path) ≡ event_head (codes "miss") ++ codes "<h1>100m</h1>"
finds = ap (text_of true) page_there ∙ found_text

pub finds_unkept : text_of false (fin.get (edition log) event_page.path) ≡ event_head (codes "unkept") ++ codes "<h1>100m</h1>"
finds_unkept = ap (text_of false) page_there ∙ unkept_text

pub finds_none : text_of true (fin.get (edition log) (codes "/event/e2"))
    ≡ plain_head (codes "404 Not Found") (codes "7") (codes "DUP-Edition: 1\r\n") ++ codes "absent\n"
finds_none = ap (text_of true) page_absent ∙ absent_text
