-- What each kind of statement shows.
use Rattle.std.proofs.Common.{◌≡◌, ℕ, Bool, true, false, List, [], ◌∷◌, ◌++◌, refl, sym, ap, ◌∙◌, append-nil, append_assoc}
use Rattle.std.specs.Prelude.{Option, Some, None, codes, if◌then◌else◌, ◌==◌, length}
use Rattle.std.specs.List.{flat_map}
use Rattle.std.proofs.lemmas.Grind.{flat_map-append}
use Rattle.dup_names.specs.Grammar.{is_key}
use Rattle.dup_names.specs.Words.{Word, Path}
use Rattle.dup_names.specs.declared.object.Obj.{Obj}
use Rattle.dup_names.specs.declared.object.Item.{Item}
use Rattle.dup_names.specs.declared.object.Item.TheVariants as item
use Rattle.dup_template.specs.declared.statement.Statement.{Statement}
use Rattle.dup_model.specs.declared.mark.Mark.{Mark}
use Rattle.dup_model.specs.declared.mark.Mark.TheVariants as mark
use Rattle.dup_model.specs.Content.{Content, text, keys, group}
use Rattle.dup_model.specs.Names.{kind_at, field_at, kind_named}
use Rattle.dup_model.specs.Here.{row_at}
use Rattle.dup_model.specs.Links.{link, linked_to, closing, target_path}
use Rattle.dup_model.specs.Turns.{bodies, rows_by, order_reads, turns}
use Rattle.dup_model.specs.Marks.{statement_marks, body_marks}
use Rattle.dup_model.specs.Show.{show, shown}
use Rattle.dup_model.specs.Embeddings.{EmbedsEarlier}
use Rattle.dup_model.specs.Shows.{body_shows, as_link, for_rows, ShowsEach, EachIsShown}
use Rattle.dup_model.proofs.Earlier.{show_of_marks}
use Rattle.dup_model.proofs.Equations.{marks-Say, marks-Nl, marks-Field, marks-Key, marks-If, marks-Each, marks-Embed, marks-Embed-via, marks-Link, marks-Link-via}

module _ (c : Content) where
  abbrev bytes : List Mark → Word
  bytes ms = flat_map (shown (show c)) ms

  bytes-append : (xs ys : List Mark) → bytes (xs ++ ys) ≡ bytes xs ++ bytes ys
  bytes-append xs ys = flat_map-append (shown (show c)) xs ys

  bytes-order : (kind : ℕ) (order : Option Word) (ks : List Word) → bytes (order_reads c kind order ks) ≡ []
  bytes-order kind None ks = refl
  bytes-order kind (Some order) [] = refl
  bytes-order kind (Some order) (q ∷ ks) = bytes-order kind (Some order) ks

  bytes-bodies : (kind : ℕ) (body : List Statement) (ks : List Word) → bytes (bodies kind (body_marks c body) ks) ≡ for_rows c kind body ks
  bytes-bodies kind body [] = refl
  bytes-bodies kind body (q ∷ ks) =
      bytes-append (body_marks c body (row_at kind (Some q))) (bodies kind (body_marks c body) ks)
      ∙ ap (λ rest. body_shows c body (row_at kind (Some q)) ++ rest) (bytes-bodies kind body ks)

  bytes-turns : (kind : ℕ) (order : Option Word) (body : List Statement) (it : Item) (ks : List Word) →
      bytes (turns c kind order (body_marks c body) it ks) ≡ for_rows c kind body (rows_by c kind order ks)
  bytes-turns kind order body it ks =
      bytes-append (order_reads c kind order ks) (bodies kind (body_marks c body) (rows_by c kind order ks))
      ∙ ap (λ front. front ++ bytes (bodies kind (body_marks c body) (rows_by c kind order ks))) (bytes-order kind order ks)
      ∙ bytes-bodies kind body (rows_by c kind order ks)

  bytes-linked : (path : Option Path) (ms : List Mark) → bytes (linked_to path ms) ≡ as_link path (bytes ms)
  bytes-linked None ms = refl
  bytes-linked (Some path) ms =
      let front : Word = codes "<a href=\"" ++ path ++ codes "\">" in
      ap (λ rest. front ++ rest) (bytes-append ms closing ∙ ap (λ rest. bytes ms ++ rest) (append-nil (codes "</a>")))
      ∙ sym (append_assoc front (bytes ms) (codes "</a>"))

  bytes-link : (name : Word) (kind : Option ℕ) (key : Option Word) (ms : List Mark) → bytes (link c name kind key ms) ≡ as_link (target_path c name kind key) (bytes ms)
  bytes-link name None key ms = bytes-linked (target_path c name None key) ms
  bytes-link name (Some kind) None ms = refl
  bytes-link name (Some kind) (Some key) ms = bytes-linked (target_path c name (Some kind) (Some key)) ms

  either-link : (b : Bool) (path : Option Path) (xs ms : List Mark) → bytes xs ≡ as_link path (bytes ms) → bytes (if b then xs else ms) ≡ as_link (if b then path else None) (bytes ms)
  either-link true path xs ms is = is
  either-link false path xs ms is = refl

  either-hole : (b : Bool) (o : Obj) → bytes (if b then mark.Hole o ∷ [] else []) ≡ (if b then show c o else [])
  either-hole true o = append-nil (show c o)
  either-hole false o = refl

  either-body : (b : Bool) (ms : List Mark) → bytes (if b then [] else ms) ≡ (if b then [] else bytes ms)
  either-body true ms = refl
  either-body false ms = refl

  pub shows_each : EmbedsEarlier c → ShowsEach c
  shows_each earlier = record {
    object = λ o. show_of_marks c earlier o;
    no_statement = λ here. refl;
    one_after_another = λ first rest here. bytes-append (statement_marks c first here) (body_marks c rest here);
    say = λ words here. ap bytes (marks-Say c here words) ∙ append-nil words;
    nl = λ here. ap bytes (marks-Nl c here);
    field = λ name key kind. ap bytes (marks-Field c (row_at kind (Some key)) name) ∙ append-nil _;
    key = λ key kind. ap bytes (marks-Key c (row_at kind (Some key))) ∙ append-nil key;
    if_field = λ name key kind body. ap bytes (marks-If c (row_at kind (Some key)) name body)
        ∙ either-body (length (text c kind key (field_at c.frame kind name)) == 0) (body_marks c body (row_at kind (Some key)));
    each = λ name order body here. ap bytes (marks-Each c here name None order body)
        ∙ bytes-turns (kind_at c.frame name) order body (item.List (kind_at c.frame name)) (keys c (kind_at c.frame name));
    each_by = λ name by key current order body. ap bytes (marks-Each c (row_at current (Some key)) name (Some by) order body)
        ∙ bytes-turns (kind_at c.frame name) order body (item.Group (kind_at c.frame name) (field_at c.frame (kind_at c.frame name) by) key)
        (group c (kind_at c.frame name) (field_at c.frame (kind_at c.frame name) by) key);
    embed = λ name here. ap bytes (marks-Embed c here name) ∙ append-nil _;
    embed_via = λ name via key kind. ap bytes (marks-Embed-via c (row_at kind (Some key)) name via) ∙ either-hole (is_key (text c kind key (field_at c.frame kind via))) _;
    link = λ name body here. ap bytes (marks-Link c here name body) ∙ bytes-link name (kind_named c.frame name) here.key (body_marks c body here);
    link_via = λ name via key kind body.
        let to : Word = text c kind key (field_at c.frame kind via) in
        let ms : List Mark = body_marks c body (row_at kind (Some key)) in
        ap bytes (marks-Link-via c (row_at kind (Some key)) name via body)
        ∙ either-link (is_key to) (target_path c name (kind_named c.frame name) (Some to)) (link c name (kind_named c.frame name) (Some to) ms) ms
        (bytes-link name (kind_named c.frame name) (Some to) ms);
  }

pub each_is_shown : EachIsShown
each_is_shown c earlier = shows_each c earlier
