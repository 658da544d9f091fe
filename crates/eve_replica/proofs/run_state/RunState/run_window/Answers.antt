use Rattle.std.proofs.Common.{◌-◌, ◌<◌, ℕ, List, Option, None, All, get_or, length, map, take, drop, refl, sym, ap, ◌∙◌}
use Rattle.std.proofs.Common.{subst, arith}
use Rattle.std.proofs.lemmas.List.{append-nil, length-map}
use Rattle.std.proofs.lemmas.List.Elements.{All-drop, All-take}
use Rattle.eve_grammar.specs.declared.head.Head.{Head}
use Rattle.eve_write.specs.Data.{batch, vote}
use Rattle.eve_workload.specs.declared.mixer.MixedBatch.{MixedBatch}
use Rattle.eve_replica.specs.declared.server.Server.{Server}
use Rattle.eve_replica.specs.declared.standing.Standing.{Standing}
use Rattle.eve_replica.specs.inner.RunInvariant.{AttemptsIfLive, IsRightMixed, IsUnderWay, AreWholeWindow, Move}
use Rattle.eve_replica.specs.inner.RunInvariant.{IsDecision, attempt_move}
use Rattle.eve_replica.specs.RunFaults.{EndsSoFar, run_fault_of}
use Rattle.eve_replica.specs.Sections.{RunPlan}
use Rattle.eve_replica.proofs.RunProgress.{amid, attempt_ends}
use Rattle.eve_replica.proofs.Moves.{due, lent_serve, lent_undecided, none_missing, window_open, window_len, window_due}
use Rattle.eve_replica.proofs.CommonMoves.{all_moved}
use Rattle.eve_replica.proofs.UndecidedBatches.{still_undecided}
use Rattle.eve_replica.proofs.Windows.{window_attempted}
use Rattle.eve_replica.proofs.Endings.{at_err}
use Rattle.eve_replica.proofs.run_state.RunState.run_window.Goals as goal

-- the attempts of a window
abbrev attempts_of : List MixedBatch → Move
attempts_of window = attempt_move (length window) (map (λ m. batch m.batch) window)

pub attempt_each-requires-clause-due : goal.attempt_each-requires-clause-due
attempt_each-requires-clause-due g c κs within = λ k s there.
    let p = c.requires.under_way.0 in
    let was = c.requires.under_way.1 in
    let d = c.args.self.now in
    let from : ℕ = d.standing.committed in
    let window = take (c.min-end.result - from) (drop from d.batches.now) in
    let least = c.min-end.ensures in
    let many = window_len d.batches.now from c.min-end.result (omega arith) (omega arith) in
    let one : Server = get_or c.as_mut_slice.result.now k s in
    let serves = lent_serve p d c.as_mut_slice.result.now was c.as_mut_slice.ensures.value k s there in record {
      may = λ live. record {
        whole = serves.whole;
        due = due p (length window) d.standing (map vote d.votes.items) one
            (omega (arith, was.few, was.window, c.requires.none_open))
            (omega (arith, was.few, c.requires.none_open)) serves live;
        mixed = subst (λ (ns : List (List ℕ)). All (IsRightMixed ns) window) (sym serves.names)
            (All-take (IsRightMixed p.names) (c.min-end.result - from) (drop from d.batches.now)
            (All-drop (IsRightMixed p.names) from d.batches.now was.mixed));
      };
      none_missing = λ live.
          none_missing p d.standing (map vote d.votes.items) one c.requires.none_open serves live;
    }

pub loop-self-init : goal.loop-self-init
loop-self-init g c = record {
  under_way = λ p was.
      let d = c.args.self.now in
      let from : ℕ = d.standing.committed in
      let window = take (c.min-end.result - from) (drop from d.batches.now) in
      let many = window_len d.batches.now from c.min-end.result (omega arith) (omega arith) in
      let some : 0 < length window = omega (arith, was.room) in
      let now : Standing =
      record { view = d.standing.view; committed = from; opened = length window } in
      let whole : AreWholeWindow p d.standing (length window) = record {
        none_open = c.requires.none_open;
        some = some;
        whole = omega (arith, many, was.window, ap length was.batches, length-map d.batches.now (λ m. batch m.batch));
      } in
      let lent = c.as_mut_slice.result.now in
      let given = c.attempt_each.new.servers in
      let same = c.as_mut_slice.ensures.value in
      let all = c.in_ok-attempt_each.ensures.on in
      all_moved p d (attempts_of window) now lent given d.votes was same all
      (λ none. c.requires.none_open, window_due p d c.min-end.result was c.requires.none_open)
      (λ k s there live. window_attempted p d.standing (length window) (map (λ m. batch m.batch) window) whole)
      (sym (window_open (length window) d.standing c.requires.none_open)) (sym (append-nil (map vote d.votes.items)))
      refl refl (omega (arith, many)) was.votes
      (still_undecided (AttemptsIfLive window) lent given all
      (λ view old new m. m.0.given_up view (λ enters. omega arith)) (lent_undecided p d lent was same))
      (c.attempt_each.auto.servers ∙ c.as_mut_slice.ensures.len);
  same = (refl, refl);
  view = omega arith;
  never_back = omega arith;
  further = λ none.
      let from : ℕ = c.args.self.now.standing.committed in
      let many = window_len c.args.self.now.batches.now from c.min-end.result (omega arith) (omega arith) in
      absurd (omega (arith, many, none, c.min-end.ensures, c.requires.under_way.1.room, c.requires.under_way.1.due));
  same_view = λ some. refl;
}

pub returns-in_err-attempt_each-clause-why : goal.returns-in_err-attempt_each-clause-why
returns-in_err-attempt_each-clause-why g c =
    let d = c.args.self.now in
    let why = c.in_err-attempt_each.field-0.0 in
    at_err c.from_residual.result _ (run_fault_of why) c.from_residual.ensures.1
    (λ (p : RunPlan) (was : IsUnderWay p d). attempt_ends p d.head.replicas why (amid p d was c.requires.left))

pub returns-in_err-commit-in-Some-clause-why : goal.returns-in_err-commit-in-Some-clause-why
returns-in_err-commit-in-Some-clause-why g c =
    let d = c.args.self.now in
    let why = c.in_err-commit-in-Some.field-0.0 in
    at_err c.from_residual-in_err-commit-in-Some.result _ why c.from_residual-in_err-commit-in-Some.ensures.1
    (λ (p : RunPlan) (was : IsUnderWay p d).
    let made = c.in_err-commit-in-Some.ensures.why p (c.loop-self.invariant.under_way p was) in
    subst (λ (h : Head). EndsSoFar p h.replicas why) c.loop-self.invariant.same.0 made)

pub roll_back-requires-clause-undecided : goal.roll_back-requires-clause-undecided
roll_back-requires-clause-undecided g c =
    subst (λ (ss : List Server). IsDecision None ss) c.as_slice.ensures.value
    (subst (λ (o : Option (List ℕ)). IsDecision o c.as_slice.result.now) c.in-None.is c.decided.ensures)
