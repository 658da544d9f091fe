use Rattle.std.proofs.Common.{◌≡◌, length, eqb, eq-eqb, sym, ◌∙◌, ap, arith}
use Rattle.std.specs.List.{list_all}
use Rattle.eve_grammar.specs.Limits.{row_count, is_access}
use Rattle.eve_write.proofs.PartTests.{and_true}
use Rattle.eve_write.proofs.attempt.AttemptData.has_accesses.Goals as goal

pub returns-then-len : goal.returns-then-len
returns-then-len c =
    let a = c.args.self.now in
    let rows = row_count c.args.head.now in
    let many : length a.accesses ≡ length a.certificate.items =
    omega (arith, c.if-len.true, c.len.ensures, c.len-2.ensures, a.certificate.ok) in
    c.are_within.ensures ∙ ap (λ n. list_all (is_access n) a.accesses) c.row_count.ensures
    ∙ sym (and_true (eqb (length a.accesses) (length a.certificate.items)) (list_all (is_access rows) a.accesses)
    (eq-eqb _ _ many))
