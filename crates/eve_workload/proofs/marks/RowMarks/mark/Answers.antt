use Rattle.std.proofs.Common.{◌≡◌, ℕ, Bool, true, false, refl, sym, ap, ◌∙◌, take, arith}
use Rattle.std.specs.Prelude.{◌==◌, ◌&&◌, ◌||◌}
use Rattle.std.specs.List.{list_any}
use Rattle.std.proofs.Math.Bool.{and-or_distrib_right}
use Rattle.std.proofs.lemmas.List.Folds.{list_any_more}
use Rattle.std.proofs.lemmas.Option.{get_or_from_slice_get, slice_get_within}
use Rattle.eve_smallbank.specs.declared.entry.Kind.{Kind}
use Rattle.eve_workload.specs.Mixers.{collide}
use Rattle.eve_workload.specs.inner.Marks.{is_barred}
use Rattle.eve_workload.proofs.marks.RowMarks.mark.Goals as goal

regroup : (o a b g : Bool) → ((o || (a && g)) || (b && g)) ≡ (o || ((a || b) && g))
regroup true a b g = refl
regroup false a b g = sym (and-or_distrib_right a b g)

pub loop-index-preserved : goal.loop-index-preserved
loop-index-preserved c =
    let before = c.loop-index.invariant in
    let there = slice_get_within c.args.rows.now c.loop-index.index c.at-row.result c.at-row.ensures in
    let here = get_or_from_slice_get c.args.rows.now c.loop-index.index c.at-row.result c.at-row.result
    c.at-row.ensures in (
      omega (arith, before.0, c.in_ok-place.ensures.len, c.mark_at.ensures.len),
      λ row other.
          let meets : ℕ × Kind → Bool = collide row in
          let done : Bool = list_any meets (take c.loop-index.index c.args.rows.now) in
          let more = list_any_more meets c.args.rows.now c.loop-index.index c.at-row.result there in
          c.mark_at.ensures.marks c.at-row.result.0 c.in_ok-place.ensures.place row other
          ∙ ap (λ b. b || (meets c.at-row.result && (other == c.args.group)))
          (c.in_ok-place.ensures.same row other ∙ before.1 row other)
          ∙ regroup (is_barred c.args.self.now row other) done (meets c.at-row.result) (other == c.args.group)
          ∙ ap (λ b. is_barred c.args.self.now row other || (b && (other == c.args.group)))
          (sym (more ∙ ap (λ r. done || meets r) here)),
    )
