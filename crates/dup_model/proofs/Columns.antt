-- What each kind of statement reads, embeds and links to.
use Rattle.std.proofs.Common.{◌≡◌, ℕ, Bool, true, false, List, [], ◌∷◌, ◌++◌, refl, ap, sym, ◌∙◌, append-nil}
use Rattle.std.specs.Prelude.{Option, Some, None, if◌then◌else◌, ◌==◌, length}
use Rattle.std.specs.List.{flat_map}
use Rattle.std.proofs.lemmas.Grind.{flat_map-append}
use Rattle.dup_names.specs.Grammar.{is_key}
use Rattle.dup_names.specs.Words.{Word, Path}
use Rattle.dup_names.specs.declared.object.Obj.{Obj}
use Rattle.dup_names.specs.declared.object.Item.{Item}
use Rattle.dup_names.specs.declared.object.Item.TheVariants as item
use Rattle.dup_template.specs.declared.statement.Statement.{Statement}
use Rattle.dup_model.specs.declared.mark.Mark.{Mark}
use Rattle.dup_model.specs.declared.mark.Mark.TheVariants as mark
use Rattle.dup_model.specs.Content.{Content, text, keys, group}
use Rattle.dup_model.specs.Names.{kind_at, field_at, kind_named}
use Rattle.dup_model.specs.Here.{row_at}
use Rattle.dup_model.specs.Links.{link, linked_to, closing, target_path}
use Rattle.dup_model.specs.Turns.{bodies, rows_by, order_reads, turns}
use Rattle.dup_model.specs.Marks.{statement_marks, body_marks}
use Rattle.dup_model.specs.Skeletons.{goes_by, hole_of, read_by}
use Rattle.dup_model.specs.Columns.{AddsEach, EachEmbeds, EachGoes, EachReads, order_items, path_in, target_items}
use Rattle.dup_model.proofs.Equations.{marks-Say, marks-Nl, marks-Field, marks-Key, marks-If, marks-Each, marks-Embed, marks-Embed-via, marks-Link, marks-Link-via}

-- a column: what each mark adds to it
module _ {X : Type 0} (adds : Mark → List X) (c : Content) where
  abbrev column : List Mark → List X
  column ms = flat_map adds ms

  column-append : (xs ys : List Mark) → column (xs ++ ys) ≡ column xs ++ column ys
  column-append xs ys = flat_map-append adds xs ys

  column-bodies : (kind : ℕ) (body : List Statement) (ks : List Word) →
      column (bodies kind (body_marks c body) ks) ≡ flat_map (λ q. column (body_marks c body (row_at kind (Some q)))) ks
  column-bodies kind body [] = refl
  column-bodies kind body (q ∷ ks) =
      column-append (body_marks c body (row_at kind (Some q))) (bodies kind (body_marks c body) ks)
      ∙ ap (λ rest. column (body_marks c body (row_at kind (Some q))) ++ rest) (column-bodies kind body ks)

  column-if : (b : Bool) (ms : List Mark) → column (if b then [] else ms) ≡ (if b then [] else column ms)
  column-if true ms = refl
  column-if false ms = refl

-- what is read
reads-order : (c : Content) (kind : ℕ) (order : Option Word) (ks : List Word) → flat_map read_by (order_reads c kind order ks) ≡ order_items c kind order ks
reads-order c kind None ks = refl
reads-order c kind (Some order) [] = refl
reads-order c kind (Some order) (q ∷ ks) = ap (λ rest. item.Field kind q (field_at c.frame kind order) ∷ rest) (reads-order c kind (Some order) ks)

reads-turns : (c : Content) (kind : ℕ) (order : Option Word) (body : List Statement) (it : Item) (ks : List Word) →
    flat_map read_by (turns c kind order (body_marks c body) it ks)
    ≡ it ∷ (order_items c kind order ks ++ flat_map (λ q. flat_map read_by (body_marks c body (row_at kind (Some q)))) (rows_by c kind order ks))
reads-turns c kind order body it ks =
    ap (λ rest. it ∷ rest) (column-append read_by c (order_reads c kind order ks) (bodies kind (body_marks c body) (rows_by c kind order ks))
    ∙ (λ i. reads-order c kind order ks i ++ column-bodies read_by c kind body (rows_by c kind order ks) i))

reads-linked : (c : Content) (path : Option Path) (ms : List Mark) → flat_map read_by (linked_to path ms) ≡ flat_map read_by ms
reads-linked c None ms = refl
reads-linked c (Some path) ms = column-append read_by c ms closing ∙ append-nil (flat_map read_by ms)

reads-link : (c : Content) (name : Word) (kind : Option ℕ) (key : Option Word) (ms : List Mark) →
    flat_map read_by (link c name kind key ms) ≡ target_items kind key ++ flat_map read_by ms
reads-link c name None key ms = reads-linked c (target_path c name None key) ms
reads-link c name (Some kind) None ms = refl
reads-link c name (Some kind) (Some key) ms = ap (λ rest. item.Row kind key ∷ rest) (reads-linked c (target_path c name (Some kind) (Some key)) ms)

reads-either : (b : Bool) (xs ms : List Mark) (front : List Item) → flat_map read_by xs ≡ front ++ flat_map read_by ms →
    flat_map read_by (if b then xs else ms) ≡ (if b then front else []) ++ flat_map read_by ms
reads-either true xs ms front is = is
reads-either false xs ms front is = refl

no_reads : (b : Bool) (o : Obj) → flat_map read_by (if b then mark.Hole o ∷ [] else []) ≡ []
no_reads true o = refl
no_reads false o = refl

pub each_reads : EachReads
each_reads c = record {
  object = λ o. refl;
  no_statement = λ here. refl;
  one_after_another = λ first rest here. column-append read_by c (statement_marks c first here) (body_marks c rest here);
  say = λ words here. ap (flat_map read_by) (marks-Say c here words);
  nl = λ here. ap (flat_map read_by) (marks-Nl c here);
  field = λ name key kind. ap (flat_map read_by) (marks-Field c (row_at kind (Some key)) name);
  key = λ key kind. ap (flat_map read_by) (marks-Key c (row_at kind (Some key)));
  if_field = λ name key kind body. ap (flat_map read_by) (marks-If c (row_at kind (Some key)) name body)
      ∙ ap (λ rest. item.Field kind key (field_at c.frame kind name) ∷ rest)
      (column-if read_by c (length (text c kind key (field_at c.frame kind name)) == 0) (body_marks c body (row_at kind (Some key))));
  each = λ name order body here. ap (flat_map read_by) (marks-Each c here name None order body)
      ∙ reads-turns c (kind_at c.frame name) order body (item.List (kind_at c.frame name)) (keys c (kind_at c.frame name));
  each_by = λ name by key current order body. ap (flat_map read_by) (marks-Each c (row_at current (Some key)) name (Some by) order body)
      ∙ reads-turns c (kind_at c.frame name) order body (item.Group (kind_at c.frame name) (field_at c.frame (kind_at c.frame name) by) key)
      (group c (kind_at c.frame name) (field_at c.frame (kind_at c.frame name) by) key);
  embed = λ name here. ap (flat_map read_by) (marks-Embed c here name);
  embed_via = λ name via key kind. ap (flat_map read_by) (marks-Embed-via c (row_at kind (Some key)) name via)
      ∙ ap (λ rest. item.Field kind key (field_at c.frame kind via) ∷ rest) (no_reads (is_key (text c kind key (field_at c.frame kind via))) _);
  link = λ name body here. ap (flat_map read_by) (marks-Link c here name body) ∙ reads-link c name (kind_named c.frame name) here.key (body_marks c body here);
  link_via = λ name via key kind body.
      let to : Word = text c kind key (field_at c.frame kind via) in
      let ms : List Mark = body_marks c body (row_at kind (Some key)) in
      ap (flat_map read_by) (marks-Link-via c (row_at kind (Some key)) name via body)
      ∙ ap (λ rest. item.Field kind key (field_at c.frame kind via) ∷ rest)
      (reads-either (is_key to) (link c name (kind_named c.frame name) (Some to) ms) ms (target_items (kind_named c.frame name) (Some to))
      (reads-link c name (kind_named c.frame name) (Some to) ms));
}

-- a column to which what is read adds nothing
module _ {A : Type 0} (adds : Mark → List A) (embedding : Obj → List A) (linking : Option Path → List A)
    (plain : (w : Word) → adds (mark.Plain w) ≡ []) (read : (it : Item) → adds (mark.Read it) ≡ [])
    (hole : (o : Obj) → adds (mark.Hole o) ≡ embedding o) (to : (path : Path) → adds (mark.Goes path) ≡ linking (Some path))
    (nowhere : linking None ≡ []) (c : Content) where
  abbrev of : List Mark → List A
  of ms = flat_map adds ms

  past_read : (it : Item) (ms : List Mark) → of (mark.Read it ∷ ms) ≡ of ms
  past_read it ms = ap (λ front. front ++ of ms) (read it)

  past_plain : (w : Word) (ms : List Mark) → of (mark.Plain w ∷ ms) ≡ of ms
  past_plain w ms = ap (λ front. front ++ of ms) (plain w)

  past_field : (it : Item) (w : Word) → of (mark.Read it ∷ (mark.Plain w ∷ [])) ≡ []
  past_field it w = past_read it (mark.Plain w ∷ []) ∙ past_plain w []

  of_order : (kind : ℕ) (order : Option Word) (ks : List Word) → of (order_reads c kind order ks) ≡ []
  of_order kind None ks = refl
  of_order kind (Some order) [] = refl
  of_order kind (Some order) (q ∷ ks) = past_read _ _ ∙ of_order kind (Some order) ks

  of_turns : (kind : ℕ) (order : Option Word) (body : List Statement) (it : Item) (ks : List Word) →
      of (turns c kind order (body_marks c body) it ks) ≡ flat_map (λ q. of (body_marks c body (row_at kind (Some q)))) (rows_by c kind order ks)
  of_turns kind order body it ks =
      past_read _ _ ∙ column-append adds c (order_reads c kind order ks) (bodies kind (body_marks c body) (rows_by c kind order ks))
      ∙ (λ i. of_order kind order ks i ++ column-bodies adds c kind body (rows_by c kind order ks) i)

  of_hole : (o : Obj) → of (mark.Hole o ∷ []) ≡ embedding o
  of_hole o = append-nil (adds (mark.Hole o)) ∙ hole o

  hole_where : (b : Bool) (o : Obj) → of (if b then mark.Hole o ∷ [] else []) ≡ (if b then embedding o else [])
  hole_where true o = of_hole o
  hole_where false o = refl

  of_closed : (ms : List Mark) → of (ms ++ closing) ≡ of ms
  of_closed ms = column-append adds c ms closing ∙ ap (λ rest. of ms ++ rest) (past_plain _ []) ∙ append-nil (of ms)

  of_linked : (path : Option Path) (ms : List Mark) → of (linked_to path ms) ≡ linking path ++ of ms
  of_linked None ms = ap (λ front. front ++ of ms) (sym nowhere)
  of_linked (Some path) ms = past_plain _ (mark.Goes path ∷ (ms ++ closing)) ∙ (λ i. to path i ++ of_closed ms i)

  of_link : (name : Word) (kind : Option ℕ) (key : Option Word) (ms : List Mark) →
      of (link c name kind key ms) ≡ linking (target_path c name kind key) ++ of ms
  of_link name None key ms = of_linked (target_path c name None key) ms
  of_link name (Some kind) None ms = of_linked None ms
  of_link name (Some kind) (Some key) ms = past_read _ _ ∙ of_linked (target_path c name (Some kind) (Some key)) ms

  of_either : (b : Bool) (xs ms : List Mark) (front : List A) → of xs ≡ front ++ of ms → of (if b then xs else ms) ≡ (if b then front else []) ++ of ms
  of_either true xs ms front is = is
  of_either false xs ms front is = refl

  adds_each : AddsEach adds embedding linking c
  adds_each = record {
    no_statement = λ here. refl;
    one_after_another = λ first rest here. column-append adds c (statement_marks c first here) (body_marks c rest here);
    say = λ words here. ap of (marks-Say c here words) ∙ past_plain _ [];
    nl = λ here. ap of (marks-Nl c here) ∙ past_plain _ [];
    field = λ name key kind. ap of (marks-Field c (row_at kind (Some key)) name) ∙ past_field _ _;
    key = λ key kind. ap of (marks-Key c (row_at kind (Some key))) ∙ past_plain _ [];
    if_field = λ name key kind body. ap of (marks-If c (row_at kind (Some key)) name body) ∙ past_read _ _
        ∙ column-if adds c (length (text c kind key (field_at c.frame kind name)) == 0) (body_marks c body (row_at kind (Some key)));
    each = λ name order body here. ap of (marks-Each c here name None order body)
        ∙ of_turns (kind_at c.frame name) order body (item.List (kind_at c.frame name)) (keys c (kind_at c.frame name));
    each_by = λ name by key current order body. ap of (marks-Each c (row_at current (Some key)) name (Some by) order body)
        ∙ of_turns (kind_at c.frame name) order body (item.Group (kind_at c.frame name) (field_at c.frame (kind_at c.frame name) by) key)
        (group c (kind_at c.frame name) (field_at c.frame (kind_at c.frame name) by) key);
    embed = λ name here. ap of (marks-Embed c here name) ∙ of_hole _;
    embed_via = λ name via key kind. ap of (marks-Embed-via c (row_at kind (Some key)) name via) ∙ past_read _ _
        ∙ hole_where (is_key (text c kind key (field_at c.frame kind via))) _;
    link = λ name body here. ap of (marks-Link c here name body) ∙ of_link name (kind_named c.frame name) here.key (body_marks c body here);
    link_via = λ name via key kind body.
        let word : Word = text c kind key (field_at c.frame kind via) in
        let ms : List Mark = body_marks c body (row_at kind (Some key)) in
        ap of (marks-Link-via c (row_at kind (Some key)) name via body) ∙ past_read _ _
        ∙ of_either (is_key word) (link c name (kind_named c.frame name) (Some word) ms) ms (linking (target_path c name (kind_named c.frame name) (Some word)))
        (of_link name (kind_named c.frame name) (Some word) ms);
  }

-- what is embedded
pub each_embeds : EachEmbeds
each_embeds c = record {
  object = λ o. refl;
  statements = adds_each hole_of (λ o. o ∷ []) (λ path. []) (λ w. refl) (λ it. refl) (λ o. refl) (λ path. refl) refl c;
}

-- where links go
pub each_goes : EachGoes
each_goes c = record {
  object = λ o. refl;
  statements = adds_each goes_by (λ o. []) path_in (λ w. refl) (λ it. refl) (λ o. refl) (λ path. refl) refl c;
}
