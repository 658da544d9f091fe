use Rattle.std.proofs.Common.{◌≡◌, ℕ, true, false, List, None, Some, arith}
use Rattle.eve_grammar.specs.Limits.{is_no_debt}
use Rattle.eve_grammar.specs.inner.Scans.{saved_at}
use Rattle.eve_grammar.proofs.Loops.{saved_more, saved_none, saved_debt, saved_all}
use Rattle.eve_grammar.proofs.PassedParts.{rows_passed}
use Rattle.eve_grammar.proofs.transfer.pass_rows.Goals as goal

pub returns-in_default : goal.returns-in_default
returns-in_default c =
    rows_passed (λ (rest : List ℕ). rest) None c.args.rows c.args.bytes.now
    (saved_none c.loop-row.row c.args.rows c.loop-row.rest.now (saved_at 0 c.args.rows c.args.bytes.now) (omega arith)
    c.in_default.ensures c.loop-row.invariant)

pub returns-then-not-is_no_debt : goal.returns-then-not-is_no_debt
returns-then-not-is_no_debt c =
    let debt : is_no_debt c.loop-row.row c.in-Some.versioned ≡ false = cc in
    rows_passed (λ (rest : List ℕ). rest) None c.args.rows c.args.bytes.now
    (saved_debt c.loop-row.row c.args.rows c.loop-row.rest.now c.in-Some.more.now c.in-Some.versioned
    (saved_at 0 c.args.rows c.args.bytes.now) (omega arith) c.in-Some.ensures debt c.loop-row.invariant)

pub loop-row-preserved : goal.loop-row-preserved
loop-row-preserved c =
    let right : is_no_debt c.loop-row.row c.in-Some.versioned ≡ true = cc in
    saved_more c.loop-row.row c.args.rows c.loop-row.rest.now c.in-Some.more.now c.in-Some.versioned
    (saved_at 0 c.args.rows c.args.bytes.now) (omega arith) c.in-Some.ensures right c.loop-row.invariant

pub returns : goal.returns
returns c =
    rows_passed (λ (rest : List ℕ). rest) (Some c.loop-row.rest.now) c.args.rows c.args.bytes.now
    (saved_all c.loop-row.row c.args.rows c.loop-row.rest.now (saved_at 0 c.args.rows c.args.bytes.now) (omega arith)
    c.loop-row.invariant)
