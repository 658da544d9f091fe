use Rattle.std.proofs.Common.{ℕ, ◌+◌, get_or, Vec, Global, Option, sym, ap, subst, ◌∙◌, arith}
use Rattle.std.proofs.lemmas.Bool.{false≢true}
use Rattle.std.proofs.lemmas.Option.{slice_get-get_or}
use Rattle.eve_votes.specs.Decisions.{Judging, AreDecisions}
use Rattle.eve_votes.specs.declared.ballots.Ballot.{Ballot}
use Rattle.eve_votes.specs.declared.decisions.Decision.{Decision}
use Rattle.eve_votes.proofs.VoteOrder.{begins}
use Rattle.eve_votes.proofs.DecisionLaws.{AreJudged, start_judged, first_judged, unnoted_there, judged_there}
use Rattle.eve_votes.proofs.DecisionLaws.{judged_further, all_found, clashes_below, decisions_exact, IfNone_from}
use Rattle.eve_votes.proofs.decisions.decide.Goals as goal
use Rattle.eve_votes.proofs.decisions.decide.Goals.{then-not-continues, else-not-continues}

abbrev Table : Type 0
Table = Vec (Option Decision) Global

abbrev none : Ballot
none = record { seq = 0; view = 0; verifier = 0; place = 0 }

pub loop-i-init : goal.loop-i-init
loop-i-init c = record {
  judging = first_judged c.args.trace.now c.args.decisions.now.items c.requires.long c.requires.none;
  judged = start_judged c.args.trace.now c.args.ballots.now c.args.decisions.now.items c.requires.none;
}

pub judge-least-requires-clause-start : goal.judge-least-requires-clause-start
judge-least-requires-clause-start c =
    let xs = c.args.ballots.now in
    let i = c.loop-i.i in
    begins xs i (get_or xs i none) c.requires.cast.order (slice_get-get_or xs i none c.loop-i-test.true)
    (λ h. false≢true (sym c.if-not-continues.true ∙ c.continues.ensures.1 h))

pub judge-least-requires-clause-unnoted : goal.judge-least-requires-clause-unnoted
judge-least-requires-clause-unnoted c =
    let xs = c.args.ballots.now in
    let i = c.loop-i.i in
    let b = get_or xs i none in
    let start = begins xs i b c.requires.cast.order (slice_get-get_or xs i none c.loop-i-test.true)
    (λ h. false≢true (sym c.if-not-continues.true ∙ c.continues.ensures.1 h)) in
    unnoted_there c.args.trace.now xs i b.seq b.view c.loop-i.decisions.items c.loop-i.least start
    c.loop-i.invariant.judged

pub loop-i-preserved : goal.loop-i-preserved
loop-i-preserved c =
    let t = c.args.trace.now in
    let xs = c.args.ballots.now in
    let i = c.loop-i.i in
    let b = get_or xs i none in
    let got = slice_get-get_or xs i none c.loop-i-test.true in
    elim c.if-not-continues.branch [
      | then-not-continues w ↦
          let items = ap (λ (v : Table). v.items) w.decisions-is in
          record {
            judging = subst (λ (o : Option ℕ). Judging t c.if-not-continues.decisions.items o) (sym w.least-is)
                (subst (λ ds. Judging t ds w.judge-least.result) (sym items) w.judge-least.ensures.judging);
            judged = subst (λ (o : Option ℕ). AreJudged t xs (i + 1) c.if-not-continues.decisions.items o)
                (sym w.least-is)
                (subst (λ ds. AreJudged t xs (i + 1) ds w.judge-least.result) (sym items)
                (judged_there t xs i b c.loop-i.decisions.items w.judge-least.new.decisions.items c.loop-i.least
                w.judge-least.result got w.judge-least.ensures.notes w.judge-least.ensures.lowers
                w.judge-least.ensures.agrees c.loop-i.invariant.judged));
          }
      | else-not-continues w ↦
          let items = ap (λ (v : Table). v.items) w.decisions-is in
          record {
            judging = subst (λ (o : Option ℕ). Judging t c.if-not-continues.decisions.items o) (sym w.least-is)
                (subst (λ ds. Judging t ds c.loop-i.least) (sym items) c.loop-i.invariant.judging);
            judged = subst (λ (o : Option ℕ). AreJudged t xs (i + 1) c.if-not-continues.decisions.items o)
                (sym w.least-is)
                (subst (λ ds. AreJudged t xs (i + 1) ds c.loop-i.least) (sym items)
                (judged_further t xs i c.loop-i.decisions.items c.loop-i.least
                (c.continues.ensures.0 w.if-not-continues.false) c.loop-i.invariant.judged));
          }
    ]

pub returns-clause-least : goal.returns-clause-least
returns-clause-least c =
    let t = c.args.trace.now in
    let xs = c.args.ballots.now in
    let ds = c.loop-i.decisions.items in
    let all_before = subst (λ (k : ℕ). AreJudged t xs k ds c.loop-i.least)
    (omega (arith, c.loop-i-test.false, c.loop-i.auto.i-end)) c.loop-i.invariant.judged in
    record {
      stands = c.loop-i.invariant.judging.stands;
      below = clashes_below t ds c.loop-i.least
          (all_found t xs ds c.loop-i.least c.recall_limits.ensures c.requires.cast all_before);
    }

pub returns-clause-decided : goal.returns-clause-decided
returns-clause-decided c =
    let t = c.args.trace.now in
    let xs = c.args.ballots.now in
    let ds = c.loop-i.decisions.items in
    let all_before = subst (λ (k : ℕ). AreJudged t xs k ds c.loop-i.least)
    (omega (arith, c.loop-i-test.false, c.loop-i.auto.i-end)) c.loop-i.invariant.judged in
    IfNone_from c.loop-i.least (AreDecisions t ds)
    (λ none. decisions_exact t ds c.loop-i.least c.recall_limits.ensures
    (all_found t xs ds c.loop-i.least c.recall_limits.ensures c.requires.cast all_before)
    c.loop-i.invariant.judging none)
