-- The keys of what an object reads are keys.
use Rattle.std.proofs.Common.{◌≡◌, ℕ, zero, suc, Bool, true, false, cond, not, List, [], ◌∷◌, ◌++◌, map, length, refl, sym, subst}
use Rattle.std.specs.Prelude.{Option, Some, None, if◌then◌else◌, ◌==◌, IsTrue, slice_set}
use Rattle.std.specs.List.{flat_map, filter, fold, slice_get, AllByRecursion}
use Rattle.std.specs.Option.{unwrap_or}
use Rattle.std.specs.declared.cmp.Ordering.{Ordering}
use Rattle.std.specs.declared.cmp.Ordering.TheVariants.{Less, Equal, Greater}
use Rattle.dup_names.specs.Grammar.{is_key}
use Rattle.dup_names.specs.Order.{text_cmp, item_cmp}
use Rattle.dup_names.specs.Words.{Word, Path, same}
use Rattle.dup_names.specs.declared.object.Obj.{Obj}
use Rattle.dup_names.specs.declared.object.Item.{Item}
use Rattle.dup_names.specs.declared.object.Item.TheVariants as item
use Rattle.dup_template.specs.Paths.{KeyOk}
use Rattle.dup_template.specs.declared.statement.Statement.{Statement}
use Rattle.dup_template.specs.declared.statement.Statement.TheVariants as s
use Rattle.dup_model.specs.declared.edit.Edit.{Edit}
use Rattle.dup_model.specs.declared.edit.Edit.TheVariants.{Put, Remove, Replace}
use Rattle.dup_model.specs.declared.mark.Mark.{Mark}
use Rattle.dup_model.specs.declared.mark.Mark.TheVariants as mark
use Rattle.dup_model.specs.Content.{Content, Entry, Table, start, table, text, texts_at, keys, group, body_at}
use Rattle.dup_model.specs.Names.{kind_at, field_at, template_at, kind_named, object_of}
use Rattle.dup_model.specs.Here.{Here, row_at, on_key, by_field}
use Rattle.dup_model.specs.Links.{link, link_via, linked_to, opening, closing, target_path}
use Rattle.dup_model.specs.Turns.{bodies, rows_by, order_reads, turns, each_marks, group_marks}
use Rattle.dup_model.specs.Marks.{marks, statement_marks, body_marks, here_at, field_marks, if_marks, via_marks}
use Rattle.dup_model.specs.Skeletons.{read_by}
use Rattle.dup_model.specs.Commits.{Commit, put_row, put_row_at, edited, after}
use Rattle.dup_model.specs.Touched.{is_item}
use Rattle.dup_model.specs.ChangedItems.{KeysAreKeys, EditHasKey, VersionsHaveKeys, ReadsAreItems, TouchedByChanges}
use Rattle.dup_model.proofs.EachMark.{all_append}
use Rattle.dup_model.proofs.Ordering.{all_in_order}
use Rattle.dup_model.proofs.Induction.{ByForms, all_by_forms}
use Rattle.dup_model.proofs.Equations.{marks-Say, marks-Nl, marks-Field, marks-Key, marks-If, marks-Each, marks-Embed, marks-Embed-via, marks-Link, marks-Link-via}
use Rattle.dup_model.proofs.ChangedItems.{touched_from}

abbrev AllKeys : List Word → Type 0
AllKeys ks = AllByRecursion (λ q. is_key q ≡ true) ks

abbrev KeyedRows : Table → Type 0
KeyedRows es = AllByRecursion (λ e. IsTrue (is_key e.0)) es

keys_of_rows : (es : Table) → KeyedRows es → AllKeys (map (λ e. e.0) es)
keys_of_rows [] all = tt
keys_of_rows (e ∷ es) all = (all.0, keys_of_rows es all.1)

filtered_rows : (f : Entry → Bool) (es : Table) → KeyedRows es → KeyedRows (filter f es)
filtered_rows f [] all = tt
filtered_rows f (e ∷ es) all = by_test (f e) (filtered_rows f es all.1)
  where
    by_test : (b : Bool) → KeyedRows (filter f es) → KeyedRows (cond b (e ∷ filter f es) (filter f es))
    by_test true rest = (all.0, rest)
    by_test false rest = rest

rows_at : (tables : List Table) (k : ℕ) → AllByRecursion KeyedRows tables → KeyedRows (unwrap_or (slice_get tables k) [])
rows_at [] k all = tt
rows_at (t ∷ ts) zero all = all.0
rows_at (t ∷ ts) (suc k) all = rows_at ts k all.1

module _ (c : Content) (keyed : KeysAreKeys c) where
  abbrev ReadFits : Mark → Type 0
  ReadFits (mark.Read it) = is_item it ≡ true
  ReadFits _ = Unit {0}

  abbrev All : List Mark → Type 0
  All = AllByRecursion ReadFits

  abbrev Fine : Statement → Type 0
  Fine x = (here : Here) → KeyOk here.key → All (statement_marks c x here)

  of_body : (body : List Statement) → AllByRecursion Fine body → (here : Here) → KeyOk here.key → All (body_marks c body here)
  of_body [] all here ok = tt
  of_body (x ∷ xs) all here ok = all_append ReadFits (statement_marks c x here) (body_marks c xs here) (all.0 here ok) (of_body xs all.1 here ok)

  of_key : (key : Option Word) (f : Word → List Mark) → KeyOk key → ((k : Word) → is_key k ≡ true → All (f k)) → All (on_key key f)
  of_key None f ok each = tt
  of_key (Some k) f ok each = each k ok

  either : (b : Bool) (xs ys : List Mark) → All xs → All ys → All (if b then xs else ys)
  either true xs ys h k = h
  either false xs ys h k = k

  of_order : (kind : ℕ) (order : Option Word) (ks : List Word) → AllKeys ks → All (order_reads c kind order ks)
  of_order kind None ks all = tt
  of_order kind (Some order) [] all = tt
  of_order kind (Some order) (q ∷ ks) all = (all.0, of_order kind (Some order) ks all.1)

  of_rows_by : (kind : ℕ) (order : Option Word) (ks : List Word) → AllKeys ks → AllKeys (rows_by c kind order ks)
  of_rows_by kind None ks all = all
  of_rows_by kind (Some order) ks all = all_in_order (by_field c kind (field_at c.frame kind order)) (λ q. is_key q ≡ true) ks all

  of_bodies : (kind : ℕ) (body : List Statement) → AllByRecursion Fine body → (ks : List Word) → AllKeys ks → All (bodies kind (body_marks c body) ks)
  of_bodies kind body each [] all = tt
  of_bodies kind body each (q ∷ ks) all =
      all_append ReadFits (body_marks c body (row_at kind (Some q))) (bodies kind (body_marks c body) ks)
      (of_body body each (row_at kind (Some q)) all.0) (of_bodies kind body each ks all.1)

  of_turns : (kind : ℕ) (order : Option Word) (body : List Statement) → AllByRecursion Fine body → (it : Item) → is_item it ≡ true → (ks : List Word) → AllKeys ks → All (turns c kind order (body_marks c body) it ks)
  of_turns kind order body each it fine ks all = (
    fine,
    all_append ReadFits (order_reads c kind order ks) (bodies kind (body_marks c body) (rows_by c kind order ks))
        (of_order kind order ks all) (of_bodies kind body each (rows_by c kind order ks) (of_rows_by kind order ks all)),
  )

  kind_keys : (kind : ℕ) → AllKeys (keys c kind)
  kind_keys kind = keys_of_rows (table c kind) (rows_at c.tables kind keyed)

  group_keys : (kind field : ℕ) (key : Word) → AllKeys (group c kind field key)
  group_keys kind field key =
      keys_of_rows (filter (λ e. same (texts_at (Some e.1) field) key) (table c kind))
      (filtered_rows (λ e. same (texts_at (Some e.1) field) key) (table c kind) (rows_at c.tables kind keyed))

  of_each : (name : Word) (by order : Option Word) (body : List Statement) → AllByRecursion Fine body → (key : Option Word) → KeyOk key → All (each_marks c name by order (body_marks c body) key)
  of_each name None order body each key ok = of_turns (kind_at c.frame name) order body each (item.List (kind_at c.frame name)) refl (keys c (kind_at c.frame name)) (kind_keys (kind_at c.frame name))
  of_each name (Some by) order body each key ok =
      of_key key (group_marks c name by order (body_marks c body)) ok (λ k fine.
      of_turns (kind_at c.frame name) order body each (item.Group (kind_at c.frame name) (field_at c.frame (kind_at c.frame name) by) k) fine
      (group c (kind_at c.frame name) (field_at c.frame (kind_at c.frame name) by) k) (group_keys (kind_at c.frame name) (field_at c.frame (kind_at c.frame name) by) k))

  of_linked : (path : Option Path) (ms : List Mark) → All ms → All (linked_to path ms)
  of_linked None ms all = all
  of_linked (Some path) ms all = all_append ReadFits (opening path) (ms ++ closing) (tt, (tt, tt)) (all_append ReadFits ms closing all (tt, tt))

  of_link : (name : Word) (kind : Option ℕ) (key : Option Word) → KeyOk key → (ms : List Mark) → All ms → All (link c name kind key ms)
  of_link name None key ok ms all = of_linked (target_path c name None key) ms all
  of_link name (Some kind) None ok ms all = all
  of_link name (Some kind) (Some key) ok ms all = (ok, of_linked (target_path c name (Some kind) (Some key)) ms all)

  -- a link by a field whose text may be no key
  of_link_via : (name to : Word) (kind : Option ℕ) (ms : List Mark) → All ms → All (if is_key to then link c name kind (Some to) ms else ms)
  of_link_via name to kind ms all = by_test (is_key to) refl
    where
      by_test : (b : Bool) → is_key to ≡ b → All (if b then link c name kind (Some to) ms else ms)
      by_test true is = of_link name kind (Some to) is ms all
      by_test false is = all

  from : {xs ys : List Mark} → xs ≡ ys → All ys → All xs
  from is all = subst All (sym is) all

  forms : ByForms Fine
  forms = record {
    say = λ words here ok. from (marks-Say c here words) (tt, tt);
    nl = λ here ok. from (marks-Nl c here) (tt, tt);
    field = λ name here ok. from (marks-Field c here name) (of_key here.key (field_marks c here.kind name) ok (λ k fine. (fine, (tt, tt))));
    key = λ here ok. from (marks-Key c here) (of_key here.key (λ key. mark.Plain key ∷ []) ok (λ k fine. (tt, tt)));
    if_field = λ name body each here ok. from (marks-If c here name body)
        (of_key here.key (if_marks c here.kind name (body_marks c body here)) ok (λ k fine.
        (fine, either (length (text c here.kind k (field_at c.frame here.kind name)) == 0) [] (body_marks c body here) tt (of_body body each here ok))));
    each = λ name by order body each here ok. from (marks-Each c here name by order body) (of_each name by order body each here.key ok);
    embed = λ name via here ok. of_embed name via here ok;
    link = λ name via body each here ok. of_link_form name via body each here ok;
  }
    where
      of_embed : (name : Word) (via : Option Word) (here : Here) → KeyOk here.key → All (statement_marks c (s.Embed name via) here)
      of_embed name None here ok = from (marks-Embed c here name) (tt, tt)
      of_embed name (Some via) here ok = from (marks-Embed-via c here name via)
          (of_key here.key (via_marks c here.kind name via) ok (λ k fine.
          (fine, either (is_key (text c here.kind k (field_at c.frame here.kind via))) (mark.Hole (object_of c.frame (template_at c.frame name) (Some (text c here.kind k (field_at c.frame here.kind via)))) ∷ []) [] (tt, tt) tt)))

      of_link_form : (name : Word) (via : Option Word) (body : List Statement) → AllByRecursion Fine body → (here : Here) → KeyOk here.key → All (statement_marks c (s.Link name via body) here)
      of_link_form name None body each here ok = from (marks-Link c here name body) (of_link name (kind_named c.frame name) here.key ok (body_marks c body here) (of_body body each here ok))
      of_link_form name (Some via) body each here ok = from (marks-Link-via c here name via body)
          (of_key here.key (link_via c here.kind name via (body_marks c body here)) ok (λ k fine.
          (fine, of_link_via name (text c here.kind k (field_at c.frame here.kind via)) (kind_named c.frame name) (body_marks c body here) (of_body body each here ok))))

  marks_fit : (o : Obj) → KeyOk o.key → All (marks c o)
  marks_fit o ok = (refl, of_body (body_at c o.template) (all_by_forms Fine forms (body_at c o.template)) (here_at c o) ok)

  reads_of : (ms : List Mark) → All ms → AllByRecursion (λ it. IsTrue (is_item it)) (flat_map read_by ms)
  reads_of [] all = tt
  reads_of (mark.Plain w ∷ ms) all = reads_of ms all.1
  reads_of (mark.Hole o ∷ ms) all = reads_of ms all.1
  reads_of (mark.Read it ∷ ms) all = (all.0, reads_of ms all.1)
  reads_of (mark.Goes q ∷ ms) all = reads_of ms all.1

pub reads_are_items : ReadsAreItems
reads_are_items c o keyed ok = all_in_order item_cmp (λ it. IsTrue (is_item it)) (flat_map read_by (marks c o)) (reads_of c keyed (marks c o) (marks_fit c keyed o ok))

pub touched_by_changes : TouchedByChanges
touched_by_changes a b items o are keyed ok = touched_from a b items o are (reads_are_items a o keyed ok)

-- the keys of each version
keyed_put_at : (r : Ordering) (new e : Entry) (es rest : Table) → IsTrue (is_key new.0) → KeyedRows (e ∷ es) → KeyedRows rest → KeyedRows (put_row_at r new e es rest)
keyed_put_at Less new e es rest fine all more = (fine, all)
keyed_put_at Equal new e es rest fine all more = (fine, all.1)
keyed_put_at Greater new e es rest fine all more = (all.0, more)

keyed_put : (new : Entry) (es : Table) → IsTrue (is_key new.0) → KeyedRows es → KeyedRows (put_row new es)
keyed_put new [] fine all = (fine, tt)
keyed_put new (e ∷ es) fine all = keyed_put_at (text_cmp new.0 e.0) new e es (put_row new es) fine all (keyed_put new es fine all.1)

keyed_set : (tables : List Table) (k : ℕ) (t : Table) → AllByRecursion KeyedRows tables → KeyedRows t → AllByRecursion KeyedRows (slice_set tables k t)
keyed_set [] k t all h = tt
keyed_set (x ∷ xs) zero t all h = (h, all.1)
keyed_set (x ∷ xs) (suc k) t all h = (all.0, keyed_set xs k t all.1 h)

edited_keyed : (c : Content) (e : Edit) → EditHasKey e → KeysAreKeys c → KeysAreKeys (edited c e)
edited_keyed c (Put name key fields) fine all = keyed_set c.tables (kind_at c.frame name) _ all (keyed_put _ (table c (kind_at c.frame name)) fine (rows_at c.tables (kind_at c.frame name) all))
edited_keyed c (Remove name key) fine all =
    keyed_set c.tables (kind_at c.frame name) _ all (filtered_rows (λ e. not (same e.0 key)) (table c (kind_at c.frame name)) (rows_at c.tables (kind_at c.frame name) all))
edited_keyed c (Replace name body) fine all = all

after_keyed : (c : Content) (es : Commit) → AllByRecursion EditHasKey es → KeysAreKeys c → KeysAreKeys (after c es)
after_keyed c [] fine all = all
after_keyed c (e ∷ es) fine all = after_keyed (edited c e) es fine.1 (edited_keyed c e fine.0 all)

pub fold_keyed : (commits : List Commit) (c : Content) → AllByRecursion (λ commit. AllByRecursion EditHasKey commit) commits → KeysAreKeys c → KeysAreKeys (fold after c commits)
fold_keyed [] c fine all = all
fold_keyed (commit ∷ commits) c fine all = fold_keyed commits (after c commit) fine.1 (after_keyed c commit fine.0 all)

start_keyed : {K : Type 0} (kinds : List K) → AllByRecursion KeyedRows (map (λ k. []) kinds)
start_keyed [] = tt
start_keyed (k ∷ ks) = (tt, start_keyed ks)

pub versions_have_keys : VersionsHaveKeys
versions_have_keys site commits fine = fold_keyed commits (start site) fine (start_keyed site.kinds)
