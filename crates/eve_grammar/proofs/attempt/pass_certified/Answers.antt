use Rattle.std.proofs.Common.{◌≡◌, ◌≤◌, ◌*◌, drop, Some, None, sym, ap, ◌∙◌, arith}
use Rattle.eve_grammar.specs.Places.{bytes_from}
use Rattle.eve_grammar.specs.Readers.{many_at, reply_at}
use Rattle.eve_grammar.proofs.PassedParts.{certified_passed, certified_short, certified_none, certified_out}
use Rattle.eve_grammar.proofs.attempt.pass_certified.Goals as goal
use Rattle.eve_grammar.proofs.attempt.pass_certified.Goals.{
  then-count-eq0-via-then-count-eq0,
  then-count-eq0-via-else-count-eq0+then-count-gt-MOST_REQUESTS,
  then-count-eq0-via-else-count-eq0+else-count-gt-MOST_REQUESTS+then-rest-count,
}

pub returns-then-count-eq0 : goal.returns-then-count-eq0
returns-then-count-eq0 c =
    elim c.then-count-eq0.branch [
      | then-count-eq0-via-then-count-eq0 w
          ↦ certified_out c.in-Some.count c.args.bytes.now c.in-Some.rest.now c.in-Some.ensures
          (λ low high. let e = w.if-count-eq0.true in omega arith)
      | then-count-eq0-via-else-count-eq0+then-count-gt-MOST_REQUESTS w
          ↦ certified_out c.in-Some.count c.args.bytes.now c.in-Some.rest.now c.in-Some.ensures
          (λ low high. let e = w.if-count-gt-MOST_REQUESTS.true in omega arith)
      | then-count-eq0-via-else-count-eq0+else-count-gt-MOST_REQUESTS+then-rest-count w
          ↦ certified_short c.in-Some.count c.args.bytes.now c.in-Some.rest.now c.in-Some.ensures
          w.if-rest-count.true
    ]

pub returns-in_default-pass_replies : goal.returns-in_default-pass_replies
unfolding bytes_from
returns-in_default-pass_replies c =
    let count = c.in-Some.count in
    let none : many_at reply_at count (drop (2 * count) c.in-Some.rest.now) ≡ None =
    ap (many_at reply_at count) (sym c.bytes_from.ensures) ∙ c.in_default-pass_replies.ensures in
    certified_none count c.args.bytes.now c.in-Some.rest.now c.in-Some.ensures c.if-rest-count.false none

pub returns : goal.returns
unfolding bytes_from
returns c =
    let count = c.in-Some.count in
    let low : 1 ≤ count = omega (arith, c.if-count-eq0.false) in
    let replies = c.in-Some-pass_replies.ensures in
    let some : many_at reply_at count (drop (2 * count) c.in-Some.rest.now)
    ≡ Some (replies.0, c.in-Some-pass_replies.behind.now) =
    ap (many_at reply_at count) (sym c.bytes_from.ensures) ∙ replies.1 in
    certified_passed count c.args.bytes.now c.in-Some.rest.now c.in-Some-pass_replies.behind.now replies.0
    c.in-Some.ensures low c.if-count-gt-MOST_REQUESTS.false c.if-rest-count.false some
