-- What is kept goes along with what the lines say, behind a statement that is too deep.
use Rattle.std.proofs.Common.{◌≡◌, ℕ, zero, suc, ◌+◌, ◌<◌, ◌≤◌, inl, inr, List, [], ◌∷◌, ◌++◌, length, refl, ap, sym, subst, ◌∙◌, arith}
use Rattle.std.specs.Prelude.{Bool, true, false, nat_lt, Option, Some, option_map}
use Rattle.std.proofs.lemmas.Bool.{ltb-true, ltb-false, lt-ltb, le-ltb}
use Rattle.std.proofs.lemmas.List.{map-append, length-map}
use Rattle.dup_template.specs.Good.{size as template_size, body_size}
use Rattle.dup_template.specs.declared.site.KindPart.{KindPart}
use Rattle.dup_template.specs.declared.site.TemplatePart.{TemplatePart}
use Rattle.dup_template.specs.declared.site.PageRule.{PageRule}
use Rattle.dup_template.specs.declared.statement.Statement.{Statement}
use Rattle.dup_template.specs.declared.statement.Statement.TheVariants as s
use Rattle.dup_site.specs.declared.site_line.SiteLine.TheVariants as line
use Rattle.dup_site.specs.declared.site_line.Head.{Head}
use Rattle.dup_site.specs.declared.site_line.Head.TheVariants as head
use Rattle.dup_site.specs.Draft.{Open, step, put, close, open_statement}
use Rattle.dup_site.specs.KeptStatements.{AreKeptOf, BreakSame, Keeping, head_size, counted, pass_end, passing, mark}
use Rattle.dup_site.proofs.StatementSizes.{stack_size, size-more, size_Nl, size_If, size_Each, size_Link}
use Rattle.dup_site.proofs.GoesAlong.{heads, AllInner, Goes_along, Along, kept-more, dr, closed-along}
use Rattle.dup_site.proofs.SameFirstFault.{same_deep, same_left, same_right, same_If, same_Each, same_Link}
use Rattle.dup_site.proofs.GoesAlongPast.{at}

-- what stands for a statement, with room and without
pub mark-over : (k : Keeping) (n : ℕ) → 4096 < k.begun → mark k n ≡ passing k n
mark-over k n many = rw (le-ltb k.begun 4097 (omega arith)) refl

mark-room : (k : Keeping) (n : ℕ) → k.begun < 4097 →
    mark k n ≡ option_map (λ d. record { draft = d; begun = k.begun + 1; passed = n; deep = true }) (put s.Nl k.draft k.draft.stack)
mark-room k n few = rw (lt-ltb k.begun 4097 few) refl

-- the parts of what is spoiled
pub record Spoil (n passed : ℕ) (a b : Open) (outer inside : List Open) : Type 0 where
  pub same_head : b.head ≡ a.head
  pub count : length inside ≡ passed
  pub inner : AllInner (heads inside)
  pub kept_size : n ≡ stack_size (a ∷ outer)
  pub size : n ≡ stack_size (inside ++ b ∷ outer)
  pub next : (x : Statement) → BreakSame (length (a ∷ outer)) a.done (b.done ++ x ∷ [])
  pub now : passed ≡ 0 → BreakSame (length (a ∷ outer)) a.done b.done

module _ (ks : List KindPart) (ps : List PageRule) (ts us : List TemplatePart) (all : AreKeptOf ts us) where
  spoil-by : (n passed : ℕ) (a b : Open) (outer inside : List Open) → Spoil n passed a b outer inside → (e : Bool) → nat_lt n 4097 ≡ e →
      Goes_along (at ks ps ts us all n passed true (a ∷ outer)) (dr ks ps us (inside ++ b ∷ outer))
  spoil-by n passed a b outer inside x true is =
      record {
        kinds = refl;
        pages = refl;
        templates = all;
        stacks = inr (inr (
          ltb-true n 4097 is,
          refl,
          record {
            top = a;
            below = b;
            inside = inside;
            outer = outer;
            ks_are = refl;
            ds_are = refl;
            same_head = x.same_head;
            count = x.count;
            inner = x.inner;
            kept_size = x.kept_size;
            size = x.size;
            next = x.next;
            now = x.now;
          },
        ));
      }
  spoil-by n passed a b outer inside x false is =
      let many : 4097 ≤ n = ltb-false n 4097 is in
      let k = x.kept_size in
      let d = x.size in
      let same : heads (inside ++ b ∷ outer) ≡ heads inside ++ (a.head ∷ heads outer) =
      map-append (λ (o : Open). o.head) inside (b ∷ outer) ∙ ap (λ h. heads inside ++ h ∷ heads outer) x.same_head in
      record {
        kinds = refl;
        pages = refl;
        templates = all;
        stacks = inr (inl (record {
          many = omega arith;
          inside = heads inside;
          heads_are = same;
          count = length-map inside (λ (o : Open). o.head) ∙ x.count;
          inner = x.inner;
          kept_more = omega arith;
          more = omega arith;
        }));
      }

  pub spoil-along : (n passed : ℕ) (a b : Open) (outer inside : List Open) → Spoil n passed a b outer inside →
      Goes_along (at ks ps ts us all n passed true (a ∷ outer)) (dr ks ps us (inside ++ b ∷ outer))
  spoil-along n passed a b outer inside x = spoil-by n passed a b outer inside x (nat_lt n 4097) refl

  -- a statement more, of any size
  into-spoiled : (n passed : ℕ) (a b : Open) (outer inside : List Open) (x : Statement) → b.head ≡ a.head → length inside ≡ passed → AllInner (heads inside) →
      n ≡ stack_size (a ∷ outer) → n ≡ template_size x + stack_size (inside ++ b ∷ outer) →
      ((y : Statement) → BreakSame (length (a ∷ outer)) a.done (b.done ++ y ∷ [])) →
      Along (Some (at ks ps ts us all n passed true (a ∷ outer))) (put x (dr ks ps us (inside ++ b ∷ outer)) (inside ++ b ∷ outer))
  into-spoiled n passed a b outer [] x same count inner kept sizes next =
      spoil-along n passed a (record { head = b.head; done = b.done ++ x ∷ [] }) outer []
      (record {
        same_head = same;
        count = count;
        inner = inner;
        kept_size = kept;
        size = (let e = size-more b.done x in omega arith);
        next = λ y. same_right (length (a ∷ outer)) a.done (b.done ++ x ∷ []) (y ∷ []) (next x);
        now = λ _. next x;
      })
  into-spoiled n passed a b outer (i ∷ inside) x same count inner kept sizes next =
      spoil-along n passed a b outer (record { head = i.head; done = i.done ++ x ∷ [] } ∷ inside)
      (record {
        same_head = same;
        count = count;
        inner = inner;
        kept_size = kept;
        size = (let e = size-more i.done x in omega arith);
        next = next;
        now = λ z. absurd (omega (arith, count, z));
      })

  -- one that is passed over, with room for what stands for it
  pub put-spoiled : (n passed : ℕ) (a b : Open) (outer inside : List Open) (x : Statement) → template_size x ≡ 1 → n < 4097 → Spoil n passed a b outer inside →
      Along (mark (at ks ps ts us all n passed true (a ∷ outer)) passed) (put x (dr ks ps us (inside ++ b ∷ outer)) (inside ++ b ∷ outer))
  put-spoiled n passed a b outer inside x is few p =
      let k = p.kept_size in
      let d = p.size in
      let e = size-more a.done s.Nl in
      let one = size_Nl in
      subst (λ (m : Option Keeping). Along m (put x (dr ks ps us (inside ++ b ∷ outer)) (inside ++ b ∷ outer))) (sym (mark-room (at ks ps ts us all n passed true (a ∷ outer)) passed few))
      (into-spoiled (n + 1) passed (record { head = a.head; done = a.done ++ s.Nl ∷ [] }) b outer inside x p.same_head p.count p.inner (omega arith) (omega arith)
      (λ y. same_left (length (a ∷ outer)) a.done (b.done ++ y ∷ []) (s.Nl ∷ []) (p.next y)))

  open-on : (n passed : ℕ) (a b : Open) (outer inside : List Open) (h : Head) → head_size h ≡ 1 → Spoil n passed a b outer inside →
      Goes_along (at ks ps ts us all (n + 1) (passed + 1) true (record { head = a.head; done = a.done ++ s.Nl ∷ [] } ∷ outer))
      (dr ks ps us (record { head = h; done = [] } ∷ (inside ++ b ∷ outer)))
  open-on n passed a b outer inside h is p =
      let k = p.kept_size in
      let d = p.size in
      let c = p.count in
      let e = size-more a.done s.Nl in
      let one = size_Nl in
      spoil-along (n + 1) (passed + 1) (record { head = a.head; done = a.done ++ s.Nl ∷ [] }) b outer (record { head = h; done = [] } ∷ inside)
      (record {
        same_head = p.same_head;
        count = omega arith;
        inner = (is, p.inner);
        kept_size = omega arith;
        size = omega arith;
        next = λ y. same_left (length (a ∷ outer)) a.done (b.done ++ y ∷ []) (s.Nl ∷ []) (p.next y);
        now = λ z. absurd (omega arith);
      })

  pub open-spoiled : (n passed : ℕ) (a b : Open) (outer inside : List Open) (h : Head) → head_size h ≡ 1 → n < 4097 → Spoil n passed a b outer inside →
      Along (mark (at ks ps ts us all n passed true (a ∷ outer)) (passed + 1)) (open_statement h (dr ks ps us (inside ++ b ∷ outer)) (inside ++ b ∷ outer))
  open-spoiled n passed a b outer [] h is few p =
      subst (λ (m : Option Keeping). Along m (open_statement h (dr ks ps us (b ∷ outer)) (b ∷ outer))) (sym (mark-room (at ks ps ts us all n passed true (a ∷ outer)) (passed + 1) few))
      (open-on n passed a b outer [] h is p)
  open-spoiled n passed a b outer (i ∷ inside) h is few p =
      subst (λ (m : Option Keeping). Along m (open_statement h (dr ks ps us (i ∷ (inside ++ b ∷ outer))) (i ∷ (inside ++ b ∷ outer)))) (sym (mark-room (at ks ps ts us all n passed true (a ∷ outer)) (passed + 1) few))
      (open-on n passed a b outer (i ∷ inside) h is p)

  -- the first that is too deep
  pub first-deep : (n : ℕ) (o : Open) (outer : List Open) (h : Head) → head_size h ≡ 1 → n < 4097 → 8 < length (o ∷ outer) → n ≡ stack_size (o ∷ outer) →
      Along (mark (at ks ps ts us all n 0 false (o ∷ outer)) 1) (open_statement h (dr ks ps us (o ∷ outer)) (o ∷ outer))
  first-deep n o outer h is few deep counts =
      let e = size-more o.done s.Nl in
      let one = size_Nl in
      subst (λ (m : Option Keeping). Along m (open_statement h (dr ks ps us (o ∷ outer)) (o ∷ outer))) (sym (mark-room (at ks ps ts us all n 0 false (o ∷ outer)) 1 few))
      (spoil-along (n + 1) 1 (record { head = o.head; done = o.done ++ s.Nl ∷ [] }) o outer (record { head = h; done = [] } ∷ [])
      (record {
        same_head = refl;
        count = refl;
        inner = (is, tt);
        kept_size = omega arith;
        size = omega arith;
        next = λ x. same_deep (length (o ∷ outer)) o.done s.Nl x deep;
        now = λ z. absurd (omega arith);
      }))

  -- closed on both sides
  put-closed : (n : ℕ) (x y : Statement) (outer : List Open) → ((zs : List Statement) → BreakSame (length outer) (zs ++ x ∷ []) (zs ++ y ∷ [])) →
      n ≡ template_size x + stack_size outer → n ≡ template_size y + stack_size outer →
      Along (option_map (counted n true) (put x (dr ks ps ts outer) outer)) (put y (dr ks ps us outer) outer)
  put-closed n x y [] same a b = tt
  put-closed n x y (p ∷ outer) same a b =
      let e = size-more p.done x in
      let g = size-more p.done y in
      spoil-along n 0 (record { head = p.head; done = p.done ++ x ∷ [] }) (record { head = p.head; done = p.done ++ y ∷ [] }) outer []
      (record {
        same_head = refl;
        count = refl;
        inner = tt;
        kept_size = omega arith;
        size = omega arith;
        next = λ z. same_right (length (p ∷ outer)) (p.done ++ x ∷ []) (p.done ++ y ∷ []) (z ∷ []) (same p.done);
        now = λ _. same p.done;
      })

  deeper : (outer : List Open) (xs ys : List Statement) (a : Open) → BreakSame (length (a ∷ outer)) xs ys → BreakSame (length outer + 1) xs ys
  deeper outer xs ys a r = let e : length (a ∷ outer) ≡ length outer + 1 = omega arith in subst (λ (d : ℕ). BreakSame d xs ys) e r

  close-closed : (n : ℕ) (h : Head) (xs ys : List Statement) (a : Open) (outer : List Open) → BreakSame (length (a ∷ outer)) xs ys →
      n ≡ head_size h + body_size xs + stack_size outer → n ≡ head_size h + body_size ys + stack_size outer →
      Along (option_map (counted n true) (close h xs (dr ks ps ts outer) outer)) (close h ys (dr ks ps us outer) outer)
  close-closed n (head.Template name kind) xs ys a [] r x y =
      closed-along ks ps (ts ++ (record { name = name; kind = kind; body = xs }) ∷ []) (us ++ (record { name = name; kind = kind; body = ys }) ∷ [])
      (kept-more ts us _ _ all (refl, refl, inr (inr (omega arith, r)))) n true
  close-closed n (head.Template name kind) xs ys a (p ∷ outer) r x y = tt
  close-closed n (head.If f) xs ys a outer r x y =
      let e = size_If f xs in let g = size_If f ys in
      put-closed n (s.If f xs) (s.If f ys) outer (λ zs. same_If (length outer) zs xs ys f (deeper outer xs ys a r)) (omega arith) (omega arith)
  close-closed n (head.Each of by order) xs ys a outer r x y =
      let e = size_Each of by order xs in let g = size_Each of by order ys in
      put-closed n (s.Each of by order xs) (s.Each of by order ys) outer (λ zs. same_Each (length outer) zs xs ys of by order (deeper outer xs ys a r)) (omega arith) (omega arith)
  close-closed n (head.Link name via) xs ys a outer r x y =
      let e = size_Link name via xs in let g = size_Link name via ys in
      put-closed n (s.Link name via xs) (s.Link name via ys) outer (λ zs. same_Link (length outer) zs xs ys name via (deeper outer xs ys a r)) (omega arith) (omega arith)

  -- one that was passed over is closed
  close-passed : (n passed : ℕ) (a b : Open) (outer inside : List Open) (h : Head) (ys : List Statement) → head_size h ≡ 1 → b.head ≡ a.head → length inside ≡ passed →
      AllInner (heads inside) → n ≡ stack_size (a ∷ outer) → n ≡ head_size h + body_size ys + stack_size (inside ++ b ∷ outer) →
      ((y : Statement) → BreakSame (length (a ∷ outer)) a.done (b.done ++ y ∷ [])) →
      Along (Some (at ks ps ts us all n passed true (a ∷ outer))) (close h ys (dr ks ps us (inside ++ b ∷ outer)) (inside ++ b ∷ outer))
  close-passed n passed a b outer inside (head.Template name kind) ys is same count inner kept sizes next = absurd (omega arith)
  close-passed n passed a b outer inside (head.If f) ys is same count inner kept sizes next =
      let e = size_If f ys in into-spoiled n passed a b outer inside (s.If f ys) same count inner kept (omega arith) next
  close-passed n passed a b outer inside (head.Each of by order) ys is same count inner kept sizes next =
      let e = size_Each of by order ys in into-spoiled n passed a b outer inside (s.Each of by order ys) same count inner kept (omega arith) next
  close-passed n passed a b outer inside (head.Link name via) ys is same count inner kept sizes next =
      let e = size_Link name via ys in into-spoiled n passed a b outer inside (s.Link name via ys) same count inner kept (omega arith) next

  pub end-spoiled : (n passed : ℕ) (a b : Open) (outer inside : List Open) → Spoil n passed a b outer inside →
      Along (pass_end (at ks ps ts us all n passed true (a ∷ outer)) passed) (step (dr ks ps us (inside ++ b ∷ outer)) line.End)
  end-spoiled n zero a b outer [] p =
      let k = p.kept_size in
      let d = p.size in
      let d' : n ≡ head_size a.head + body_size b.done + stack_size outer = rw (← p.same_head) d in
      subst (λ (h : Head). Along (option_map (counted n true) (close a.head a.done (dr ks ps ts outer) outer)) (close h b.done (dr ks ps us outer) outer)) (sym p.same_head)
      (close-closed n a.head a.done b.done a outer (p.now refl) k d')
  end-spoiled n zero a b outer (i ∷ inside) p = absurd (let c = p.count in omega arith)
  end-spoiled n (suc passed) a b outer [] p = absurd (let c = p.count in omega arith)
  end-spoiled n (suc passed) a b outer (i ∷ inside) p =
      let c = p.count in
      close-passed n passed a b outer inside i.head i.done p.inner.0 p.same_head (omega arith) p.inner.1 p.kept_size p.size p.next
