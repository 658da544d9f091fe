use Rattle.std.proofs.Common.{ℕ, ◌<◌, ◌*◌, length, sym, subst, ◌∙◌, below_more, arith}
use Rattle.std.proofs.lemmas.List.Elements.{at_read}
use Rattle.eve_replica.proofs.TokenCounts.{IsNoMajority, bound, none_decided}
use Rattle.eve_replica.proofs.run_state.decided.Goals as goal
use Rattle.eve_replica.proofs.run_state.decided.Goals.{in-Some+else-count_with-half, in_default}

pub loop-server-preserved : goal.loop-server-preserved
loop-server-preserved c =
    below_more _ _ c.loop-server.invariant
    (at_read c.args.servers.now (IsNoMajority c.args.servers.now) c.loop-server.server-index c.server-item.result
    (omega arith) c.server-item.is
    (λ token e. elim c.match-next_token.branch [
      | in-Some+else-count_with-half w ↦ bound c.args.servers.now token w.in-Some.token w.count_with.result
          (sym w.in-Some.is ∙ c.next_token.ensures.is ∙ e) w.count_with.ensures w.if-count_with-half.false
      | in_default w ↦ absurd (w.in_default.not-Some token (c.next_token.ensures.is ∙ e))
    ]))

pub returns : goal.returns
returns c = none_decided c.args.servers.now (λ k below d. c.loop-server.invariant k (omega arith) d)

pub returns-then-count_with-half : goal.returns-then-count_with-half
returns-then-count_with-half c =
    subst (λ (n : ℕ). length c.args.servers.now < 2 * n) c.count_with.ensures (omega arith)
