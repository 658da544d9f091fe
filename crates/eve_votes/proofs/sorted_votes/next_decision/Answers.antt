use Rattle.std.proofs.Common.{get_or, sym, ◌∙◌, arith}
use Rattle.std.proofs.lemmas.Bool.{false≢true}
use Rattle.std.proofs.lemmas.Option.{slice_get-get_or}
use Rattle.eve_votes.specs.declared.ballots.Ballot.{Ballot}
use Rattle.eve_votes.proofs.VoteOrder.{begins}
use Rattle.eve_votes.proofs.UndecidedBatches.{undecided_more, undecided_on, none_further, none_at_all, next_here}
use Rattle.eve_votes.proofs.sorted_votes.next_decision.Goals as goal
use Rattle.eve_votes.proofs.sorted_votes.next_decision.Goals.{then-not-continues+in_default, else-not-continues}

abbrev none : Ballot
none = record { seq = 0; view = 0; verifier = 0; place = 0 }

pub loop-i-init : goal.loop-i-init
loop-i-init c j b after less = absurd (omega arith)

pub returns-then-ballot-n-clause-none : goal.returns-then-ballot-n-clause-none
returns-then-ballot-n-clause-none c =
    let xs = c.args.ballots.now in
    let i = c.loop-i.i in
    none_further c.args.trace.now xs c.requires c.start_of-start.result c.args.n c.args.from c.start_of-start.ensures
    c.recall_limits.ensures i (get_or xs i none) (slice_get-get_or xs i none c.loop-i-test.true) c.loop-i.auto.i
    c.if-ballot-n.true c.loop-i.invariant

pub decision_from-requires-clause-start : goal.decision_from-requires-clause-start
decision_from-requires-clause-start c =
    let xs = c.args.ballots.now in
    let i = c.loop-i.i in
    begins xs i (get_or xs i none) c.requires.order (slice_get-get_or xs i none c.loop-i-test.true)
    (λ h. false≢true (sym c.if-not-continues.true ∙ c.continues.ensures.1 h))

pub returns-in-Some-clause-next : goal.returns-in-Some-clause-next
returns-in-Some-clause-next c =
    let xs = c.args.ballots.now in
    let i = c.loop-i.i in
    next_here c.args.trace.now xs c.requires c.start_of-start.result c.args.n c.args.from c.start_of-start.ensures
    c.recall_limits.ensures i (get_or xs i none) c.in-Some.decided
    (slice_get-get_or xs i none c.loop-i-test.true) c.loop-i.auto.i c.if-ballot-n.false c.in-Some.ensures.view
    c.in-Some.ensures.is c.loop-i.invariant

pub loop-i-preserved : goal.loop-i-preserved
loop-i-preserved c =
    let t = c.args.trace.now in
    let xs = c.args.ballots.now in
    let i = c.loop-i.i in
    let b = get_or xs i none in
    let got = slice_get-get_or xs i none c.loop-i-test.true in
    elim c.if-not-continues.branch [
      | then-not-continues+in_default w ↦
          undecided_more t xs c.start_of-start.result i b got w.in_default.ensures.none c.loop-i.invariant
      | else-not-continues w ↦
          undecided_on t xs c.requires c.start_of-start.result c.args.n c.args.from c.start_of-start.ensures i b got
          c.loop-i.auto.i c.if-ballot-n.false (c.continues.ensures.0 w.if-not-continues.false) c.loop-i.invariant
    ]

pub returns-clause-none : goal.returns-clause-none
returns-clause-none c =
    none_at_all c.args.trace.now c.args.ballots.now c.requires c.start_of-start.result c.args.n c.args.from
    c.start_of-start.ensures c.recall_limits.ensures c.loop-i.i c.loop-i-test.false c.loop-i.invariant
