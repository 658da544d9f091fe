use Rattle.std.proofs.Common.{◌≡◌, ◌∙◌, ap, subst, Option, IfOk, IfSome, length, length-append, arith}
use Rattle.std.specs.Prelude.{Result}
use Rattle.std.specs.declared.alloc.AllocError.{AllocError}
use Rattle.eve_grammar.specs.Limits.{row_count}
use Rattle.eve_views.specs.inner.SideBySide.{AreRightFrames, IsWalkedUnjudged, WalksOn}
use Rattle.eve_views.specs.declared.progress.Progress.{Progress}
use Rattle.eve_views.proofs.UnjudgedFrames.{right_prefix}
use Rattle.eve_views.proofs.side_by_side.go_on_and_judge.Goals as goal

pub returns-then-right-clause-judged : goal.returns-then-right-clause-judged
returns-then-right-clause-judged g c =
    let rows = row_count c.args.head in
    let bytes = c.args.bytes.now in
    let before = c.args.walked in
    let both = c.judge_and_go_on-right in
    let all : c.in_ok-before.before.items ≡ before.offsets.items = c.in_ok-before.ensures.items
    ∙ c.as_slice.ensures.value in
    let found = subst (λ (r : Result (Option Progress) AllocError). IfOk r (λ o. IfSome o (WalksOn before)))
    c.in_ok-on.was both.ensures.kept in
    let goes : WalksOn before c.in-Some.on = subst (λ (o : Option Progress). IfSome o (WalksOn before)) c.in-Some.is
    found in
    right_prefix rows bytes before.offsets.items goes.more c.in-Some.on.offsets.items goes.offsets
    (subst (AreRightFrames rows bytes) all (both.ensures.right c.if-right.true))

pub judge_and_go_on-right-requires-clause-walked : goal.judge_and_go_on-right-requires-clause-walked
judge_and_go_on-right-requires-clause-walked g c = λ _ _. c.requires.walked

pub returns-then-right-clause-walked : goal.returns-then-right-clause-walked
returns-then-right-clause-walked g c =
    let P = IsWalkedUnjudged c.args.head c.args.bytes.now in
    let found = subst (λ (r : Result (Option Progress) AllocError). IfOk r (λ o. IfSome o P)) c.in_ok-on.was
    c.judge_and_go_on-right.ensures.walked in
    subst (λ (o : Option Progress). IfSome o P) c.in-Some.is found

pub returns-then-right-clause-there : goal.returns-then-right-clause-there
returns-then-right-clause-there g c =
    let before = c.args.walked in
    let found = subst (λ (r : Result (Option Progress) AllocError). IfOk r (λ o. IfSome o (WalksOn before)))
    c.in_ok-on.was c.judge_and_go_on-right.ensures.kept in
    let goes : WalksOn before c.in-Some.on = subst (λ (o : Option Progress). IfSome o (WalksOn before)) c.in-Some.is
    found in
    omega (arith, ap length goes.offsets, length-append before.offsets.items goes.more)
