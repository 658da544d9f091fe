use Rattle.std.proofs.Common.{◌≡◌, ◌&&◌, ◌≤◌, false, leb, arith}
use Rattle.std.proofs.lemmas.Bool.{lt-leb}
use Rattle.std.proofs.lemmas.Bool.{and_left, and_right}
use Rattle.eve_grammar.proofs.PassedParts.{sizes_passed, sizes_none, sizes_wrong}
use Rattle.eve_grammar.proofs.batch.pass_sizes.Goals as goal
use Rattle.eve_grammar.proofs.batch.pass_sizes.Goals.{
  then-count-eq0-via-then-count-eq0,
  then-count-eq0-via-else-count-eq0+then-total-gt-MOST_REQUESTS,
}

pub returns-in_default-total_at : goal.returns-in_default-total_at
returns-in_default-total_at c = sizes_none c.in-Some.count c.args.bytes.now c.in-Some.rest.now c.in-Some.ensures
    c.in_default-total_at.ensures

pub returns-then-count-eq0 : goal.returns-then-count-eq0
returns-then-count-eq0 c =
    let count = c.in-Some.count in
    let total = c.in-Some-total_at.total in
    let wrong : (leb 1 count && leb total 256) ≡ false = elim c.then-count-eq0.branch [
      | then-count-eq0-via-then-count-eq0 w ↦
          let none = w.if-count-eq0.true in and_left (leb 1 count) (leb total 256) (lt-leb 1 count (omega arith))
      | then-count-eq0-via-else-count-eq0+then-total-gt-MOST_REQUESTS w ↦
          and_right (leb 1 count) (leb total 256) (lt-leb total 256 w.if-total-gt-MOST_REQUESTS.true)
    ] in
    sizes_wrong count total c.args.bytes.now c.in-Some.rest.now c.in-Some-total_at.behind.now c.in-Some.ensures
    c.in-Some-total_at.ensures wrong

pub returns : goal.returns
returns c =
    let some : 1 ≤ c.in-Some.count = omega (arith, c.if-count-eq0.false) in
    sizes_passed c.in-Some.count c.in-Some-total_at.total c.args.bytes.now c.in-Some.rest.now
    c.in-Some-total_at.behind.now
    c.in-Some.ensures some c.if-total-gt-MOST_REQUESTS.false c.in-Some-total_at.ensures
