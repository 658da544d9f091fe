use Rattle.std.proofs.Common.{◌≡◌, take, sym, ap, subst, ◌∙◌}
use Rattle.eve_workload.specs.Steps.{IsRightBehind}
use Rattle.eve_workload.specs.inner.Decoded.{line_decoded}
use Rattle.eve_workload.specs.inner.Words.{bytes_of, IsFirstLine}
use Rattle.eve_workload.specs.Lines.{line_text, line_words, text_of_words}
use Rattle.eve_workload.proofs.LineLaws.{line_few, line_inside, no_line_here, line_here, some_bytes}
use Rattle.eve_workload.proofs.draft.Draft.take_line.Goals as goal

pub returns-in_default-clause-accepted : goal.returns-in_default-clause-accepted
returns-in_default-clause-accepted c = λ before keeps line behind is right.
    let none = c.in_default.ensures.none in
    none (line_words line) behind (line_few line) (line_inside line right.ranges) is

pub returns-in_default-line_of-clause-accepted : goal.returns-in_default-line_of-clause-accepted
returns-in_default-line_of-clause-accepted c = λ before keeps line behind is right.
    let found = c.in-Some.ensures.found in
    let first = subst (λ words. IsFirstLine c.args.text.now (bytes_of words) c.in-Some.len)
    (sym c.as_slice.ensures.value) found in
    no_line_here c.args.text.now (bytes_of c.as_slice.result.now) c.in-Some.len first c.in_default-line_of.ensures.none
    line behind is right.ranges

pub returns-else-accepted-clause-accepted : goal.returns-else-accepted-clause-accepted
returns-else-accepted-clause-accepted c = λ before keeps line behind is right.
    let found = c.in-Some.ensures.found in
    let first = subst (λ words. IsFirstLine c.args.text.now (bytes_of words) c.in-Some.len)
    (sym c.as_slice.ensures.value) found in
    let some = c.in-Some-line_of.ensures.some in
    let same = line_here c.args.text.now (bytes_of c.as_slice.result.now) c.in-Some.len
    (line_decoded c.in-Some-line_of.line)
    first some.0 some.1 line behind is right.ranges in
    let refused = rw c.if-accepted.false at (c.in_ok-accepted.ensures.accepted before keeps) in
    refused (subst (IsRightBehind _ before) same right)

pub returns-then-accepted-clause-accepted : goal.returns-then-accepted-clause-accepted
returns-then-accepted-clause-accepted c = λ before keeps.
    let found = c.in-Some.ensures.found in
    let first = subst (λ words. IsFirstLine c.args.text.now (bytes_of words) c.in-Some.len)
    (sym c.as_slice.ensures.value) found in
    let some = c.in-Some-line_of.ensures.some in
    let kept = rw c.if-accepted.true at (c.in_ok-accepted.ensures.accepted before keeps) in
    let spelled : take c.in-Some.len c.args.text.now ≡ line_text (line_decoded c.in-Some-line_of.line) = first.line
    ∙ ap text_of_words (sym some.0) in (
      line_decoded c.in-Some-line_of.line,
      spelled,
      first.within,
      some_bytes c.in-Some.len c.args.text.now
          (line_decoded c.in-Some-line_of.line) spelled,
      kept,
    )
