use Rattle.std.proofs.Common.{◌≡◌, ◌∙◌, arith}
use Rattle.eve_frames.specs.Decoded.{transfer_decoded}
use Rattle.eve_evidence_outcomes.proofs.TransferredStates.{no_state, other_state, right_state, transferred_at}
use Rattle.eve_evidence_outcomes.proofs.state.at_number.Goals as goal

pub returns-in_default-clause-none : goal.returns-in_default-clause-none
returns-in_default-clause-none c =
    let t = c.args.trace.now in
    no_state t c.args.e c.args.n c.args.place c.history_at-history.result.now c.history_at-history.ensures
    c.requires.one
    (c.numbers_are_reached.ensures.told_transfer t c.args.e c.args.n) c.in_default.ensures.none

pub returns-then-offset-place-clause-none : goal.returns-then-offset-place-clause-none
returns-then-offset-place-clause-none c =
    let t = c.args.trace.now in
    other_state t c.args.e c.args.n c.args.place c.history_at-history.result.now c.history_at-history.ensures
    c.requires.one (c.numbers_are_reached.ensures.told_transfer t c.args.e c.args.n) c.in-Some.state.offset
    (transfer_decoded c.in-Some.state) c.in-Some.ensures.some
    (λ at. absurd (omega (arith, c.if-offset-place.true, c.offset.ensures, at)))

pub returns-in-Ok-Some-clause-told : goal.returns-in-Ok-Some-clause-told
returns-in-Ok-Some-clause-told c =
    let t = c.args.trace.now in
    let at : c.in-Some.state.offset ≡ c.args.place = omega (arith, c.if-offset-place.false, c.offset.ensures) in
    let transferred = transferred_at t c.args.e c.args.n c.args.place c.history_at-history.result.now
    c.history_at-history.ensures
    (λ i one got. c.numbers_are_reached.ensures.tells_transfer t c.args.e c.args.n i one got) c.in-Some.state.offset
    (transfer_decoded c.in-Some.state) at c.in-Some.ensures.some in (
      c.args.n,
      transferred.0,
      (
        c.told_transfer.ensures ∙ transferred.1,
        rw c.in-Ok-Some.field-0-is at c.in-Ok-Some.ensures.told,
      ),
    )

pub returns-in-Ok-None-clause-none : goal.returns-in-Ok-None-clause-none
returns-in-Ok-None-clause-none c =
    let t = c.args.trace.now in
    right_state t c.args.e c.args.n c.args.place
    (λ at x told_reached. c.states_are_the_balances.ensures t c.args.e c.args.n at x c.recall_limits.ensures
    (c.recall_right.ensures.section t c.args.e c.history_at-history.ensures) told_reached)
    (rw c.in-Ok-None.field-0-is at c.in-Ok-None.ensures.none)
