use Rattle.std.proofs.Common.{◌∙◌, ap, sym, subst, length, length-set, map}
use Rattle.std.specs.Prelude.{slice_set}
use Rattle.dup_model.specs.Content.{Content}
use Rattle.dup_model.specs.Names.{fields_at}
use Rattle.dup_template.specs.Frame.{frame_of, bodies_of}
use Rattle.dup_records.specs.Fits.{HaveTexts, TablesFit}
use Rattle.dup_records.proofs.Fits.{fit_set}
use Rattle.dup_records.proofs.Tables.{as_many, replaced, still_rising}
use Rattle.dup_records.proofs.content.Content.with_rows.Goals as goal

pub invariant_of-result : goal.invariant_of-result
invariant_of-result c =
    let same = c.in_ok-tables.ensures ∙ ap (map (λ t. t.value)) c.deref.ensures.value in (
      simp length-set (as_many (λ t. t.value) c.in_ok-tables.tables.items c.self.inside.tables.items same ∙ c.self.invariant.0 ∙ ap (λ s. length s.kinds) (sym c.in_ok-site.ensures)),
      still_rising (λ t. t.value) c.in_ok-tables.tables.items c.self.inside.tables.items c.from.result c.in_ok-tables-2.field-0 c.args.rows
          same c.in_ok-tables-2.ensures.ok c.self.invariant.1 c.requires.rising,
      subst (λ f. TablesFit f (map (λ t. t.value) (slice_set c.in_ok-tables.tables.items c.from.result c.in_ok-tables-2.field-0))) (ap frame_of (sym c.in_ok-site.ensures))
          (subst (TablesFit (frame_of c.self.inside.site.value)) (sym (replaced (λ t. t.value) c.in_ok-tables.tables.items c.self.inside.tables.items c.from.result c.in_ok-tables-2.field-0 c.args.rows
          same c.in_ok-tables-2.ensures.ok))
          (fit_set (frame_of c.self.inside.site.value) (map (λ t. t.value) c.self.inside.tables.items) c.from.result c.args.rows c.self.invariant.2
          (subst (λ (s : Content). HaveTexts (length (fields_at s.frame c.from.result)) c.args.rows) (sym c.self.view_is)
          (subst (λ n. HaveTexts (length (fields_at c.args.self.now.frame n)) c.args.rows) (sym c.from.ensures) c.requires.fit)))),
      c.in_ok-none.ensures ∙ c.self.invariant.3,
    )

pub returns : goal.returns
returns c =
    let same = c.in_ok-tables.ensures ∙ ap (map (λ t. t.value)) c.deref.ensures.value in
    rw (← c.self.view_is, ← c.from.ensures)
    (let tables = replaced (λ t. t.value) c.in_ok-tables.tables.items c.self.inside.tables.items c.from.result c.in_ok-tables-2.field-0 c.args.rows
    same c.in_ok-tables-2.ensures.ok in
    λ i. record { frame = frame_of (c.in_ok-site.ensures i); bodies = bodies_of (c.in_ok-site.ensures i); tables = tables i })
