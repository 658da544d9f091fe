use Rattle.std.proofs.Common.{◌≡◌, ◌<◌, not, length, sym, ap, subst, ◌∙◌, arith}
use Rattle.std.specs.Prelude.{List, Option}
use Rattle.eve_agree.specs.Marks.{marked_count}
use Rattle.eve_agree.proofs.MarkLaws.{one_less}
use Rattle.eve_smallbank.specs.declared.versioned.Versioned.{Versioned}
use Rattle.eve_agree.proofs.first_seen.FirstSeen.mark.Goals as goal

pub overflow_add-self : goal.overflow_add-self
overflow_add-self c =
    let there : c.number-row.result < length c.self.inside.rows.items =
    subst (λ (rows : List (Option Versioned)). c.number-row.result < length rows) (sym c.self.view_is)
    (subst (λ n. n < length c.args.self.now) (sym c.number-row.ensures.number) c.requires) in
    let less = one_less c.self.inside.rows.items c.number-row.result c.index.result.now there c.index.ensures
    (c.is_none.ensures ∙ ap not c.if-is_none.true) in
    let count : c.self.inside.count ≡ marked_count c.self.inside.rows.items = c.self.invariant in
    omega (arith, c.self.ranges)
