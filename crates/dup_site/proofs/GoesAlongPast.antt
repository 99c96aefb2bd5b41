-- What is kept goes along with what the lines say, past the statements that are kept.
use Rattle.std.proofs.Common.{◌≡◌, ℕ, zero, suc, ◌+◌, ◌<◌, inl, inr, List, [], ◌∷◌, ◌++◌, length, refl, ap, sym, subst, arith}
use Rattle.std.specs.Prelude.{Bool, true, false, ◌&&◌, if◌then◌else◌, Option, Some, None, option_map}
use Rattle.dup_names.specs.Words.{Word}
use Rattle.dup_template.specs.Good.{size, body_size}
use Rattle.dup_template.specs.declared.site.KindPart.{KindPart}
use Rattle.dup_template.specs.declared.site.TemplatePart.{TemplatePart}
use Rattle.dup_template.specs.declared.site.PageRule.{PageRule}
use Rattle.dup_template.specs.declared.statement.Statement.{Statement}
use Rattle.dup_template.specs.declared.statement.Statement.TheVariants as s
use Rattle.dup_site.specs.declared.site_line.SiteLine.TheVariants as line
use Rattle.dup_site.specs.declared.site_line.Head.{Head}
use Rattle.dup_site.specs.declared.site_line.Head.TheVariants as head
use Rattle.dup_site.specs.Draft.{Open, is_none, step, put, close, open_statement}
use Rattle.dup_site.specs.KeptStatements.{AreKeptOf, Keeping, head_size, counted, pass_end}
use Rattle.dup_site.proofs.StatementSizes.{stack_size, size-more, size_If, size_Each, size_Link}
use Rattle.dup_site.proofs.GoesAlong.{heads, AllInner, Over, Goes_along, Along, kept-more, dr, closed-along}

module _ (ks : List KindPart) (ps : List PageRule) (ts us : List TemplatePart) (all : AreKeptOf ts us) where
  abbrev pub at : ℕ → ℕ → Bool → List Open → Keeping
  at n passed deep os = record { draft = dr ks ps ts os; begun = n; passed = passed; deep = deep }

  pub over-along : (deep : Bool) (n passed : ℕ) (os bs : List Open) → Over n passed os bs → Goes_along (at n passed deep os) (dr ks ps us bs)
  over-along deep n passed os bs o = record { kinds = refl; pages = refl; templates = all; stacks = inr (inl o) }

  -- a statement more below what was passed over
  pub put-beyond : (deep : Bool) (n passed : ℕ) (os bs : List Open) (x : Statement) → Over n passed os bs → Along (Some (at n passed deep os)) (put x (dr ks ps us bs) bs)
  put-beyond deep n passed os [] x o = absurd (let e = o.more in omega arith)
  put-beyond deep n passed os (b ∷ bs) x o =
      over-along deep n passed os (record { head = b.head; done = b.done ++ x ∷ [] } ∷ bs)
      (record { many = o.many; inside = o.inside; heads_are = o.heads_are; count = o.count; inner = o.inner; kept_more = o.kept_more; more = (let e = size-more b.done x in let m = o.more in omega arith) })

  pub open-beyond : (deep : Bool) (n passed : ℕ) (os bs : List Open) (h : Head) → head_size h ≡ 1 → Over n passed os bs →
      Along (Some (at n (passed + 1) deep os)) (open_statement h (dr ks ps us bs) bs)
  open-beyond deep n passed os [] h is o = absurd (let e = o.more in omega arith)
  open-beyond deep n passed os (b ∷ bs) h is o =
      over-along deep n (passed + 1) os (record { head = h; done = [] } ∷ (b ∷ bs))
      (record {
        many = o.many;
        inside = h ∷ o.inside;
        heads_are = ap (λ hs. h ∷ hs) o.heads_are;
        count = (let e = o.count in omega arith);
        inner = (is, o.inner);
        kept_more = o.kept_more;
        more = (let m = o.more in omega arith);
      })

  pub template-beyond : (n passed : ℕ) (os bs : List Open) (name : Word) (kind : Option Word) → Over n passed os bs →
      Along None (step (dr ks ps us bs) (line.Open (head.Template name kind)))
  template-beyond n passed os [] name kind o = absurd (let e = o.more in omega arith)
  template-beyond n passed os (b ∷ bs) name kind o =
      elim ps as (λ qs. Along None (if is_none qs then None else None)) [ [] ↦ tt | q ∷ qs ↦ tt ]

  pub page-beyond : (n passed : ℕ) (os bs : List Open) (rule : PageRule) → Over n passed os bs → Along None (step (dr ks ps us bs) (line.Page rule))
  page-beyond n passed os [] rule o = absurd (let e = o.more in omega arith)
  page-beyond n passed os (b ∷ bs) rule o = tt

  pub kind-beyond : (n passed : ℕ) (os bs : List Open) (name : Word) (fields : List Word) → Over n passed os bs →
      Along None (step (dr ks ps us bs) (line.Kind name fields))
  kind-beyond n passed os [] name fields o = absurd (let e = o.more in omega arith)
  kind-beyond n passed os (b ∷ bs) name fields o =
      elim (is_none us && is_none ps) as (λ e. Along None (if e then None else None)) [ true ↦ tt | false ↦ tt ]

  -- the same head on both sides, closed with bodies of their own
  put-both : (deep : Bool) (n : ℕ) (os bs : List Open) (x y : Statement) → heads bs ≡ heads os → 4096 < n →
      4096 < size x + stack_size os → 4096 < size y + stack_size bs →
      Along (option_map (counted n deep) (put x (dr ks ps ts os) os)) (put y (dr ks ps us bs) bs)
  put-both deep n [] [] x y same many a b = tt
  put-both deep n [] (q ∷ bs) x y same many a b = cc
  put-both deep n (p ∷ os) [] x y same many a b = cc
  put-both deep n (p ∷ os) (q ∷ bs) x y same many a b =
      over-along deep n 0 (record { head = p.head; done = p.done ++ x ∷ [] } ∷ os) (record { head = q.head; done = q.done ++ y ∷ [] } ∷ bs)
      (record {
        many = many;
        inside = [];
        heads_are = same;
        count = refl;
        inner = tt;
        kept_more = (let e = size-more p.done x in omega arith);
        more = (let e = size-more q.done y in omega arith);
      })

  close-both : (deep : Bool) (n : ℕ) (h : Head) (xs ys : List Statement) (os bs : List Open) → heads bs ≡ heads os → 4096 < n →
      4096 < head_size h + body_size xs + stack_size os → 4096 < head_size h + body_size ys + stack_size bs →
      Along (option_map (counted n deep) (close h xs (dr ks ps ts os) os)) (close h ys (dr ks ps us bs) bs)
  close-both deep n (head.Template name kind) xs ys [] [] same many a b =
      closed-along ks ps (ts ++ (record { name = name; kind = kind; body = xs }) ∷ []) (us ++ (record { name = name; kind = kind; body = ys }) ∷ [])
      (kept-more ts us _ _ all (refl, refl, inr (inl (omega arith, omega arith)))) n deep
  close-both deep n (head.Template name kind) xs ys [] (q ∷ bs) same many a b = cc
  close-both deep n (head.Template name kind) xs ys (p ∷ os) [] same many a b = cc
  close-both deep n (head.Template name kind) xs ys (p ∷ os) (q ∷ bs) same many a b = tt
  close-both deep n (head.If f) xs ys os bs same many a b =
      let e = size_If f xs in let g = size_If f ys in put-both deep n os bs (s.If f xs) (s.If f ys) same many (omega arith) (omega arith)
  close-both deep n (head.Each of by order) xs ys os bs same many a b =
      let e = size_Each of by order xs in let g = size_Each of by order ys in
      put-both deep n os bs (s.Each of by order xs) (s.Each of by order ys) same many (omega arith) (omega arith)
  close-both deep n (head.Link name via) xs ys os bs same many a b =
      let e = size_Link name via xs in let g = size_Link name via ys in
      put-both deep n os bs (s.Link name via xs) (s.Link name via ys) same many (omega arith) (omega arith)

  end-both : (deep : Bool) (n : ℕ) (os bs : List Open) → heads bs ≡ heads os → 4096 < n → 4096 < stack_size os → 4096 < stack_size bs →
      Along (option_map (counted n deep) (step (dr ks ps ts os) line.End)) (step (dr ks ps us bs) line.End)
  end-both deep n [] bs same many a b = absurd (omega arith)
  end-both deep n (p ∷ os) [] same many a b = absurd (omega arith)
  end-both deep n (p ∷ os) (q ∷ bs) same many a b =
      let first : q.head ≡ p.head = cc in
      let others : heads bs ≡ heads os = cc in
      let b' : 4096 < head_size p.head + body_size q.done + stack_size bs = rw (← first) b in
      subst (λ (h : Head). Along (option_map (counted n deep) (close p.head p.done (dr ks ps ts os) os)) (close h q.done (dr ks ps us bs) bs)) (sym first)
      (close-both deep n p.head p.done q.done os bs others many a b')

  end-zero : (deep : Bool) (n : ℕ) (os bs : List Open) (inside : List Head) → heads bs ≡ inside ++ heads os → length inside ≡ 0 → 4096 < n → 4096 < stack_size os → 4096 < stack_size bs →
      Along (option_map (counted n deep) (step (dr ks ps ts os) line.End)) (step (dr ks ps us bs) line.End)
  end-zero deep n os bs [] same count many a b = end-both deep n os bs same many a b
  end-zero deep n os bs (h ∷ hs) same count many a b = absurd (omega arith)

  -- one that was passed over is closed
  put-inside : (deep : Bool) (n passed : ℕ) (os bs : List Open) (inside : List Head) (x : Statement) → heads bs ≡ inside ++ heads os → length inside ≡ passed → AllInner inside → 4096 < n →
      4096 < stack_size os → 4096 < size x + stack_size bs → Along (Some (at n passed deep os)) (put x (dr ks ps us bs) bs)
  put-inside deep n passed [] bs inside x same count inner many a b = absurd (omega arith)
  put-inside deep n passed (p ∷ os) [] [] x same count inner many a b = cc
  put-inside deep n passed (p ∷ os) [] (h ∷ hs) x same count inner many a b = cc
  put-inside deep n passed (p ∷ os) (q ∷ bs) inside x same count inner many a b =
      over-along deep n passed (p ∷ os) (record { head = q.head; done = q.done ++ x ∷ [] } ∷ bs)
      (record { many = many; inside = inside; heads_are = same; count = count; inner = inner; kept_more = a; more = (let e = size-more q.done x in omega arith) })

  close-inside : (deep : Bool) (n passed : ℕ) (h : Head) (ys : List Statement) (os bs : List Open) (inside : List Head) → head_size h ≡ 1 → heads bs ≡ inside ++ heads os →
      length inside ≡ passed → AllInner inside → 4096 < n → 4096 < stack_size os → 4096 < head_size h + body_size ys + stack_size bs →
      Along (Some (at n passed deep os)) (close h ys (dr ks ps us bs) bs)
  close-inside deep n passed (head.Template name kind) ys os bs inside is same count inner many a b = absurd (omega arith)
  close-inside deep n passed (head.If f) ys os bs inside is same count inner many a b =
      let e = size_If f ys in put-inside deep n passed os bs inside (s.If f ys) same count inner many a (omega arith)
  close-inside deep n passed (head.Each of by order) ys os bs inside is same count inner many a b =
      let e = size_Each of by order ys in put-inside deep n passed os bs inside (s.Each of by order ys) same count inner many a (omega arith)
  close-inside deep n passed (head.Link name via) ys os bs inside is same count inner many a b =
      let e = size_Link name via ys in put-inside deep n passed os bs inside (s.Link name via ys) same count inner many a (omega arith)

  end-inside : (deep : Bool) (n passed : ℕ) (os bs : List Open) (inside : List Head) → heads bs ≡ inside ++ heads os → length inside ≡ suc passed → AllInner inside → 4096 < n →
      4096 < stack_size os → 4096 < stack_size bs → Along (Some (at n passed deep os)) (step (dr ks ps us bs) line.End)
  end-inside deep n passed os bs [] same count inner many a b = absurd (omega arith)
  end-inside deep n passed os [] (h ∷ hs) same count inner many a b = absurd (omega arith)
  end-inside deep n passed os (q ∷ bs) (h ∷ hs) same count inner many a b =
      let first : q.head ≡ h = cc in
      let others : heads bs ≡ hs ++ heads os = cc in
      close-inside deep n passed q.head q.done os bs hs (rw first inner.0) others (omega arith) inner.1 many a b

  pub end-beyond : (deep : Bool) (n passed : ℕ) (os bs : List Open) → Over n passed os bs → Along (pass_end (at n passed deep os) passed) (step (dr ks ps us bs) line.End)
  end-beyond deep n zero os bs o = end-zero deep n os bs o.inside o.heads_are o.count o.many o.kept_more o.more
  end-beyond deep n (suc passed) os bs o = end-inside deep n passed os bs o.inside o.heads_are o.count o.inner o.many o.kept_more o.more
