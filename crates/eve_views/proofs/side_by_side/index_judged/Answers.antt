use Rattle.std.proofs.Common.{◌≡◌, ℕ, Option, IfSome, length, take, sym, subst, rules}
use Rattle.eve_grammar.specs.Limits.{row_count}
use Rattle.eve_views.specs.inner.SideBySide.{AreRightFrames}
use Rattle.eve_views.specs.declared.progress.Progress.{Progress}
use Rattle.eve_views.proofs.side_by_side.index_judged.Goals as goal

pub judge_behind-requires-clause-judged : goal.judge_behind-requires-clause-judged
judge_behind-requires-clause-judged g c = λ _ _.
    let rows = row_count c.args.head in
    let bytes = c.args.bytes.now in
    let count = length c.in-Some.walked.offsets.items in
    let on = c.in-Some-found.on in
    let many : c.len-count.result ≡ count = search rules in
    let judged = subst (λ (o : Option Progress). IfSome o (λ x. AreRightFrames rows bytes (take count x.offsets.items)))
    c.in-Some-found.is c.in_ok-found.ensures.judged in
    subst (λ (n : ℕ). AreRightFrames rows bytes (take n on.offsets.items)) (sym many) judged
