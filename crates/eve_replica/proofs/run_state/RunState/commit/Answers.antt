use Rattle.std.proofs.Common.{◌≡◌, ◌-◌, ◌<◌, Some, List, All, length, map, sym, ◌∙◌, subst, arith}
use Rattle.eve_grammar.specs.Trace.{Vote}
use Rattle.eve_write.specs.Data.{vote}
use Rattle.eve_replica.specs.declared.server.Server.{Server}
use Rattle.eve_replica.specs.RunFaults.{IsLongOnly}
use Rattle.eve_replica.specs.Sections.{RunPlan}
use Rattle.eve_replica.specs.inner.RunInvariant.{Serves, IsDecision, IsUnderWay, after_commit, count_with, states_len}
use Rattle.eve_replica.proofs.RunProgress.{commit_ends}
use Rattle.eve_replica.proofs.Moves.{lent_serve, lent_undecided, moved}
use Rattle.eve_replica.proofs.RunsUnderWay.{batch_left, lent_majority, lent_before, lent_spends, lent_transferred}
use Rattle.eve_replica.proofs.Endings.{at_err}
use Rattle.eve_replica.proofs.run_state.RunState.commit.Goals as goal

pub commit_each-requires-clause-awaits : goal.commit_each-requires-clause-awaits
commit_each-requires-clause-awaits c =
    let was = c.requires.under_way.1 in
    let d = c.args.self.now in
    record {
      plan = c.requires.under_way.0;
      at = d.standing;
      votes = map vote d.votes.items;
      serve = lent_serve c.requires.under_way.0 d c.as_mut_slice.result.now was c.as_mut_slice.ensures.value;
      version = was.version;
      customers = was.customers;
      next = omega arith;
      awaits = omega arith;
    }

pub commit_each-requires-clause-version : goal.commit_each-requires-clause-version
commit_each-requires-clause-version c = c.requires.under_way.1.known

pub commit_each-requires-clause-decided : goal.commit_each-requires-clause-decided
commit_each-requires-clause-decided c =
    subst (λ (ss : List Server). IsDecision (Some c.args.token) ss) (sym c.as_mut_slice.ensures.value)
    c.requires.decided

pub returns-clause-under_way : goal.returns-clause-under_way
returns-clause-under_way c = λ p was.
    let d = c.args.self.now in
    let due = was.due in
    let as_many = c.commit_each.auto.servers ∙ c.as_mut_slice.ensures.len in
    let lent = c.as_mut_slice.result.now in
    let same = c.as_mut_slice.ensures.value in
    let votes = map vote d.votes.items in
    let serve = lent_serve p d lent was same in
    let left = batch_left p d was in
    let made = c.in_ok-commit_each.ensures.on in
    moved p d c.commit_each.new.servers (after_commit d.standing) c.vote_for_commit.new.votes c.commit_each.new.room was
    as_many (omega arith) c.in_ok-vote_for_commit.ensures.on
    (subst (λ (vs : List Vote). All (Serves p (after_commit d.standing) vs) c.commit_each.new.servers)
    (sym c.in_ok-vote_for_commit.ensures.added) (made.serve p d.standing votes serve left))
    (made.majority (lent_majority p d lent was same)) (made.committed (lent_before p d lent was same))
    (made.transferred p d.standing votes serve left (lent_transferred p d lent was same))
    (made.undecided (lent_undecided p d lent was same))
    (λ two. lent_spends p d lent c.commit_each.new.servers c.commit_each.new.room was same two
    (c.in_ok-commit_each.ensures.spent two))

pub returns-in_err-commit_each-clause-why : goal.returns-in_err-commit_each-clause-why
returns-in_err-commit_each-clause-why c =
    let d = c.args.self.now in
    let same = c.as_mut_slice.ensures.value in
    let why = c.in_err-commit_each.field-0.0 in
    at_err c.from_residual-in_err-commit_each.result _ why c.from_residual-in_err-commit_each.ensures.1
    (λ (p : RunPlan) (was : IsUnderWay p d).
    commit_ends p d c.args.token why was (omega (arith, was.due)) c.requires.decided
    (subst (λ (ss : List Server). IsLongOnly ((d.head.version ≡ 2)
    × (d.room < states_len d.head.customers (length ss - count_with c.args.token ss))) why) same
    c.in_err-commit_each.ensures.why))
