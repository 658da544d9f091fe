use Rattle.std.proofs.Common.{◌≡◌, ◌+◌, ℕ, suc, length, ap, ◌∙◌, arith}
use Rattle.eve_grammar.specs.Trace.{head_of}
use Rattle.eve_grammar.proofs.HeadLimits.{head_has_limits}
use Rattle.eve_views.specs.inner.FramesBefore.{before_verifier}
use Rattle.eve_views.proofs.CutLaws.{votes_cut, votes_are_there}
use Rattle.eve_views.proofs.trace.Trace.votes.Goals as goal

pub new-requires : goal.new-requires
new-requires c =
    let t = c.args.self.now in
    let more : c.args.v + 1 ≡ suc c.args.v = omega arith in
    let next : c.verifier_from-to.result ≡ length (before_verifier t (suc c.args.v)) =
    c.verifier_from-to.ensures ∙ ap (λ (k : ℕ). length (before_verifier t k)) more in
    votes_cut t c.args.v (c.verifier_from.result + 1) c.verifier_from-to.result c.recall_limits.ensures
    (head_has_limits (head_of t) c.recall_limits.ensures.head).few_batches c.requires
    (ap (λ (k : ℕ). k + 1) c.verifier_from.ensures) next

pub returns : goal.returns
returns c =
    let t = c.args.self.now in
    let more : c.args.v + 1 ≡ suc c.args.v = omega arith in
    let next : c.verifier_from-to.result ≡ length (before_verifier t (suc c.args.v)) =
    c.verifier_from-to.ensures ∙ ap (λ (k : ℕ). length (before_verifier t k)) more in
    c.new.ensures
    ∙ votes_are_there t c.args.v (c.verifier_from.result + 1) c.verifier_from-to.result c.recall_limits.ensures
    (head_has_limits (head_of t) c.recall_limits.ensures.head).few_batches c.requires
    (ap (λ (k : ℕ). k + 1) c.verifier_from.ensures) next
