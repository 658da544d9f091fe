use Rattle.std.proofs.Common.{ap, sym, ◌∙◌, arith}
use Rattle.std.specs.List.{list_all}
use Rattle.eve_grammar.specs.Limits.{row_count, is_rising, is_restore}
use Rattle.eve_write.specs.Data.{rollback}
use Rattle.eve_write.proofs.PartTests.{rollback_is}
use Rattle.eve_write.proofs.rollback.RollbackData.is_right.Goals as goal

pub returns-then-is_rising : goal.returns-then-is_rising
returns-then-is_rising c =
    let r = c.args.self.now in
    let rows = row_count c.args.head.now in
    let same = c.as_slice-restores.ensures.value in
    let rising = ap (λ xs. is_rising xs) (sym same) ∙ sym c.is_rising.ensures ∙ c.if-is_rising.true in
    rollback_is rows (rollback r) c.all_right.result (omega arith) (omega arith) rising
    (c.all_right.ensures ∙ ap (list_all (is_restore rows)) same)
