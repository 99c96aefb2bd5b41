-- What calls of a table do to its pages.
use Rattle.std.proofs.Common.{rules, true≢false, ◌≡◌, ℕ, zero, suc, ◌<◌, ◌≤◌, ◌-◌, Bool, true, false, not, ◌||◌, cond, List, [], ◌∷◌, length, take, Option, Some, None, refl, sym, ap, subst, ◌∙◌, arith}
use Rattle.std.specs.Prelude.{Err, IsOk, IsSome, Ok, Result, bytes_eq}
use Rattle.std.specs.List.{AllByRecursion, IsDistinct, cons_option, find}
use Rattle.std.specs.Option.{is_some, option_map, option_map_or}
use Rattle.std.specs.Map.{keys_of, lookup, lookup_entry, remove_entry, set_value}
use Rattle.std.specs.Cmp.Lexicographic.{nat_list_eq_equiv}
use Rattle.std.specs.declared.alloc.Global.{Global}
use Rattle.std.specs.declared.sync.Arc.{Arc}
use Rattle.std.proofs.lemmas.Map.Keys.{IsDistinct-head, IsDistinct-tail}
use Rattle.std.proofs.lemmas.Slice.Eq.{bytes_eq-Decides}
use Rattle.std.proofs.lemmas.List.{length-map, take_all}
use Rattle.lru.specs.LruCache.{LruCache, promoted, put_entries}
use Rattle.dup_names.specs.Words.{Path}
use Rattle.dup_model.specs.Editions.{Page}
use Rattle.dup_cache.specs.Entries.{has_path, without}
use Rattle.dup_cache.specs.Kept.{IsKeyed, Table, pages_of}
use Rattle.dup_cache.specs.Renewing.{renewed}
use Rattle.dup_cache.specs.declared.path_key.PathKey.{PathKey}

abbrev pub at : Path → PathKey → Bool
at p k = bytes_eq p k.path

abbrev pub same_key : PathKey → PathKey → Bool
same_key a b = bytes_eq a.path b.path

-- no entry has this path
abbrev Differ : Path → Table → Type 0
Differ p es = AllByRecursion (λ k. bytes_eq p k.path ≡ false) (keys_of es)

module _ (p : Path) where
  -- an entry's key passes where its page's path is this one
  turn : (e : PathKey × Arc Page Global) → e.0.path ≡ e.1.value.path → bytes_eq p e.0.path ≡ bytes_eq e.1.value.path p
  turn e k = nat_list_eq_equiv.symm p e.0.path ∙ ap (λ q. bytes_eq q p) k

  pub find_pages : (es : Table) → IsKeyed es → option_map (λ q. q.value) (lookup (at p) es) ≡ find (λ page. bytes_eq page.path p) (pages_of es)
  find_pages [] k = refl
  find_pages (e ∷ es) k = rw (turn e k.0) (elim (bytes_eq e.1.value.path p) as
      (λ b. option_map (λ q. q.value) (cond b (Some e.1) (lookup (at p) es)) ≡ cond b (Some e.1.value) (find (λ page. bytes_eq page.path p) (pages_of es))) [
        | true ↦ refl
        | false ↦ find_pages es k.1
      ])

  pub has_pages : (es : Table) → IsKeyed es → is_some (lookup (at p) es) ≡ has_path (pages_of es) p
  has_pages [] k = refl
  has_pages (e ∷ es) k = rw (turn e k.0) (elim (bytes_eq e.1.value.path p) as
      (λ b. is_some (cond b (Some e.1) (lookup (at p) es)) ≡ (b || has_path (pages_of es) p)) [
        | true ↦ refl
        | false ↦ has_pages es k.1
      ])

  found_entry : (es : Table) → IsKeyed es → option_map (λ e. e.1.value) (lookup_entry (at p) es) ≡ find (λ page. bytes_eq page.path p) (pages_of es)
  found_entry [] k = refl
  found_entry (e ∷ es) k = rw (turn e k.0) (elim (bytes_eq e.1.value.path p) as
      (λ b. option_map (λ e. e.1.value) (cond b (Some e) (lookup_entry (at p) es)) ≡ cond b (Some e.1.value) (find (λ page. bytes_eq page.path p) (pages_of es))) [
        | true ↦ refl
        | false ↦ found_entry es k.1
      ])

  differ_behind : (e : PathKey × Arc Page Global) (es : Table) → IsDistinct same_key (keys_of (e ∷ es)) → bytes_eq p e.0.path ≡ true → Differ p es
  differ_behind e es d is =
      subst (λ q. AllByRecursion (λ (k : PathKey). bytes_eq q k.path ≡ false) (keys_of es)) (sym ((bytes_eq-Decides p e.0.path).0 is)) (IsDistinct-head same_key e.0 (keys_of es) d)

  renewed_others : (o : Option Page) (es : Table) → IsKeyed es → Differ p es → renewed (pages_of es) (p, o) ≡ pages_of es
  renewed_others o [] k d = refl
  renewed_others o (e ∷ es) k d = rw (sym (turn e k.0) ∙ d.0) (ap (λ l. e.1.value ∷ l) (renewed_others o es k.1 d.1))

  pub without-renewed : (pages : List Page) → without pages p ≡ renewed pages (p, None)
  without-renewed [] = refl
  without-renewed (page ∷ pages) = elim (bytes_eq page.path p) as
      (λ b. cond (not b) (page ∷ without pages p) (without pages p) ≡ cons_option (cond b None (Some page)) (renewed pages (p, None))) [
        | true ↦ without-renewed pages
        | false ↦ ap (λ l. page ∷ l) (without-renewed pages)
      ]

  set_pages : (w : Arc Page Global) (es : Table) → IsKeyed es → IsDistinct same_key (keys_of es) → pages_of (set_value (at p) es w) ≡ renewed (pages_of es) (p, Some w.value)
  set_pages w [] k d = refl
  set_pages w (e ∷ es) k d = (elim (bytes_eq p e.0.path) as
      (λ b. bytes_eq p e.0.path ≡ b → pages_of (cond b ((e.0, w) ∷ es) (e ∷ set_value (at p) es w)) ≡ renewed (pages_of (e ∷ es)) (p, Some w.value)) [
        | true ↦ λ is. rw (sym (turn e k.0) ∙ is) (ap (λ l. w.value ∷ l) (sym (renewed_others (Some w.value) es k.1 (differ_behind e es d is))))
        | false ↦ λ is. rw (sym (turn e k.0) ∙ is) (ap (λ l. e.1.value ∷ l) (set_pages w es k.1 (IsDistinct-tail same_key e.0 (keys_of es) d)))
      ]) refl

  remove_pages : (es : Table) → IsKeyed es → IsDistinct same_key (keys_of es) → pages_of (remove_entry (at p) es) ≡ renewed (pages_of es) (p, None)
  remove_pages [] k d = refl
  remove_pages (e ∷ es) k d = (elim (bytes_eq p e.0.path) as
      (λ b. bytes_eq p e.0.path ≡ b → pages_of (cond b es (e ∷ remove_entry (at p) es)) ≡ renewed (pages_of (e ∷ es)) (p, None)) [
        | true ↦ λ is. rw (sym (turn e k.0) ∙ is) (sym (renewed_others None es k.1 (differ_behind e es d is)))
        | false ↦ λ is. rw (sym (turn e k.0) ∙ is) (ap (λ l. e.1.value ∷ l) (remove_pages es k.1 (IsDistinct-tail same_key e.0 (keys_of es) d)))
      ]) refl

  pub taken_pages : (es : Table) → IsKeyed es → IsDistinct same_key (keys_of es) → pages_of (remove_entry (at p) es) ≡ without (pages_of es) p
  taken_pages es k d = remove_pages es k d ∙ sym (without-renewed (pages_of es))

  pub set_over : (w : Arc Page Global) (es : Table) → IsKeyed es → IsDistinct same_key (keys_of es) → pages_of (set_value (at p) es w) ≡ renewed (pages_of es) (p, Some w.value)
  set_over = set_pages

  absent_differs : (es : Table) → lookup (at p) es ≡ None → Differ p es
  absent_differs [] is = tt
  absent_differs (f ∷ es) is = (elim (at p f.0) as (λ b. at p f.0 ≡ b → cond b (Some f.1) (lookup (at p) es) ≡ None → Differ p (f ∷ es)) [
    | true ↦ λ t h. absurd (cc)
    | false ↦ λ t h. (t, absent_differs es h)
  ]) refl is

  pub absent_over : (o : Option Page) (es : Table) → IsKeyed es → lookup (at p) es ≡ None → pages_of es ≡ renewed (pages_of es) (p, o)
  absent_over o es k is = sym (renewed_others o es k (absent_differs es is))

  -- what leaves leaves the rest keyed
  pub removed_keyed : (es : Table) → IsKeyed es → IsKeyed (remove_entry (at p) es)
  removed_keyed [] k = tt
  removed_keyed (e ∷ es) k = elim (at p e.0) as (λ b. IsKeyed (cond b es (e ∷ remove_entry (at p) es))) [
    | true ↦ k.1
    | false ↦ (k.0, removed_keyed es k.1)
  ]

  pub set_keyed : (w : Arc Page Global) (es : Table) → w.value.path ≡ p → IsKeyed es → IsKeyed (set_value (at p) es w)
  set_keyed w [] own k = tt
  set_keyed w (e ∷ es) own k = (elim (at p e.0) as (λ b. at p e.0 ≡ b → IsKeyed (cond b ((e.0, w) ∷ es) (e ∷ set_value (at p) es w))) [
    | true ↦ λ is. (sym ((bytes_eq-Decides p e.0.path).0 is) ∙ sym own, k.1)
    | false ↦ λ is. (k.0, set_keyed w es own k.1)
  ]) refl

  found_keyed : (es : Table) (e : PathKey × Arc Page Global) → lookup_entry (at p) es ≡ Some e → IsKeyed es → (e.0.path ≡ e.1.value.path) × (p ≡ e.0.path)
  found_keyed [] e is k = absurd (cc)
  found_keyed (f ∷ es) e is k = (elim (at p f.0) as (λ b. at p f.0 ≡ b → cond b (Some f) (lookup_entry (at p) es) ≡ Some e → (e.0.path ≡ e.1.value.path) × (p ≡ e.0.path)) [
    | true ↦ λ t h. let same : f ≡ e = cc in subst (λ (g : PathKey × Arc Page Global). (g.0.path ≡ g.1.value.path) × (p ≡ g.0.path)) same (k.0, (bytes_eq-Decides p f.0.path).0 t)
    | false ↦ λ t h. found_keyed es e h k.1
  ]) refl is

  removed_length : (es : Table) (e : PathKey × Arc Page Global) → lookup_entry (at p) es ≡ Some e → suc (length (remove_entry (at p) es)) ≡ length es
  removed_length [] e is = absurd (cc)
  removed_length (f ∷ es) e is = (elim (at p f.0) as (λ b. at p f.0 ≡ b → cond b (Some f) (lookup_entry (at p) es) ≡ Some e → suc (length (cond b es (f ∷ remove_entry (at p) es))) ≡ suc (length es)) [
    | true ↦ λ t h. refl
    | false ↦ λ t h. ap suc (removed_length es e h)
  ]) refl is

  absent_differ : (es : Table) → lookup_entry (at p) es ≡ None → Differ p es
  absent_differ [] is = tt
  absent_differ (f ∷ es) is = (elim (at p f.0) as (λ b. at p f.0 ≡ b → cond b (Some f) (lookup_entry (at p) es) ≡ None → Differ p (f ∷ es)) [
    | true ↦ λ t h. absurd (cc)
    | false ↦ λ t h. (t, absent_differ es h)
  ]) refl is

  -- what stands before others, within the room
  in_front : (cap : ℕ) (x : Page) (es : Table) (e : PathKey × Arc Page Global) → IsKeyed es → IsDistinct same_key (keys_of es) → length es ≤ cap → lookup_entry (at p) es ≡ Some e →
      x ∷ pages_of (remove_entry (at p) es) ≡ take cap (x ∷ without (pages_of es) p)
  in_front cap x es e k d fits is =
      let same = taken_pages es k d in
      let long : length (without (pages_of es) p) ≡ length (remove_entry (at p) es) = ap length (sym same) ∙ length-map (remove_entry (at p) es) (λ f. f.1.value) in
      ap (λ l. x ∷ l) same ∙ sym (take_all cap (x ∷ without (pages_of es) p) (omega (arith, long, removed_length es e is)))

  promoted_by : (cap : ℕ) (es : Table) → IsKeyed es → IsDistinct same_key (keys_of es) → length es ≤ cap → (o : Option (PathKey × Arc Page Global)) → lookup_entry (at p) es ≡ o →
      pages_of (option_map_or (λ e. e ∷ remove_entry (at p) es) o es)
      ≡ option_map_or (λ page. take cap (page ∷ without (pages_of es) p)) (option_map (λ e. e.1.value) o) (pages_of es)
  promoted_by cap es k d fits None is = refl
  promoted_by cap es k d fits (Some e) is = in_front cap e.1.value es e k d fits is

  pub promoted_pages : (cap : ℕ) (es : Table) → IsKeyed es → IsDistinct same_key (keys_of es) → length es ≤ cap →
      pages_of (promoted (at p) es) ≡ option_map_or (λ page. take cap (page ∷ without (pages_of es) p)) (find (λ page. bytes_eq page.path p) (pages_of es)) (pages_of es)
  promoted_pages cap es k d fits =
      promoted_by cap es k d fits (lookup_entry (at p) es) refl
      ∙ ap (λ o. option_map_or (λ page. take cap (page ∷ without (pages_of es) p)) o (pages_of es)) (found_entry es k)

  promoted_keyed_by : (es : Table) → IsKeyed es → (o : Option (PathKey × Arc Page Global)) → lookup_entry (at p) es ≡ o → IsKeyed (option_map_or (λ e. e ∷ remove_entry (at p) es) o es)
  promoted_keyed_by es k None is = k
  promoted_keyed_by es k (Some e) is = ((found_keyed es e is k).0, removed_keyed es k)

  pub promoted_keyed : (es : Table) → IsKeyed es → IsKeyed (promoted (at p) es)
  promoted_keyed es k = promoted_keyed_by es k (lookup_entry (at p) es) refl

taken_keyed : (n : ℕ) (es : Table) → IsKeyed es → IsKeyed (take n es)
taken_keyed zero es k = tt
taken_keyed (suc n) [] k = tt
taken_keyed (suc n) (e ∷ es) k = (k.0, taken_keyed n es k.1)

take_pages : (n : ℕ) (es : Table) → pages_of (take n es) ≡ take n (pages_of es)
take_pages zero es = refl
take_pages (suc n) [] = refl
take_pages (suc n) (e ∷ es) = ap (λ l. e.1.value ∷ l) (take_pages n es)

first_of_take : (cap : ℕ) (x : Page) (pages : List Page) → 0 < cap → x ∷ take (cap - 1) pages ≡ take cap (x ∷ pages)
first_of_take zero x pages some = absurd (omega arith)
first_of_take (suc n) x pages some = ap (λ m. x ∷ take m pages) (omega arith)

module _ (c : LruCache PathKey (Arc Page Global)) (key : PathKey) (w : Arc Page Global) (own : key.path ≡ w.value.path) (k : IsKeyed c.entries) where
  put_by : IsDistinct same_key (keys_of c.entries) → length c.entries ≤ c.cap → 0 < c.cap → (o : Option (PathKey × Arc Page Global)) → lookup_entry (same_key key) c.entries ≡ o →
      pages_of (option_map_or (λ e. (e.0, w) ∷ remove_entry (same_key key) c.entries) o ((key, w) ∷ take (c.cap - 1) c.entries))
      ≡ take c.cap (w.value ∷ without (pages_of c.entries) key.path)
  put_by d fits some None is =
      ap (λ l. w.value ∷ l) (take_pages (c.cap - 1) c.entries ∙ ap (take (c.cap - 1)) (sym (without-renewed key.path (pages_of c.entries) ∙ renewed_others key.path None c.entries k (absent_differ key.path c.entries is))))
      ∙ first_of_take c.cap w.value (without (pages_of c.entries) key.path) some
  put_by d fits some (Some e) is = in_front key.path c.cap w.value c.entries e k d fits is

  pub put_pages : IsDistinct same_key (keys_of c.entries) → length c.entries ≤ c.cap → 0 < c.cap →
      pages_of (put_entries same_key c key w) ≡ take c.cap (w.value ∷ without (pages_of c.entries) w.value.path)
  put_pages d fits some =
      put_by d fits some (lookup_entry (same_key key) c.entries) refl
      ∙ ap (λ q. take c.cap (w.value ∷ without (pages_of c.entries) q)) own

  put_keyed_by : (o : Option (PathKey × Arc Page Global)) → lookup_entry (same_key key) c.entries ≡ o →
      IsKeyed (option_map_or (λ e. (e.0, w) ∷ remove_entry (same_key key) c.entries) o ((key, w) ∷ take (c.cap - 1) c.entries))
  put_keyed_by None is = (own, taken_keyed (c.cap - 1) c.entries k)
  put_keyed_by (Some e) is = (sym (found_keyed key.path c.entries e is k).1 ∙ own, removed_keyed key.path c.entries k)

  pub put_keyed : IsKeyed (put_entries same_key c key w)
  put_keyed = put_keyed_by (lookup_entry (same_key key) c.entries) refl

pub IsSome-is_some : {X : Type 0} (o : Option X) → is_some o ≡ true → IsSome o
IsSome-is_some None h = absurd (true≢false (sym h))
IsSome-is_some (Some x) h = search rules

-- what is refused isn't granted
pub not_both : {X E Q : Type 0} (r : Result X E) {e : E} → r ≡ Err e → IsOk r → Q
not_both (Ok x) is ok = absurd (cc)
not_both (Err e) is ok = absurd (search rules)
