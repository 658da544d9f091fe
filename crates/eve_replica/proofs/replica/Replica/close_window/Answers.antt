use Rattle.std.proofs.Common.{◌≡◌, ℕ, List, refl, sym, ◌∙◌, ap, map, length, option_map, subst, true, arith}
use Rattle.std.proofs.lemmas.Slice.Zip.{AllZip-long}
use Rattle.std.proofs.lemmas.Option.{slice_get-map, slice_get_read}
use Rattle.eve_write.specs.Data.{batch}
use Rattle.eve_workload.specs.declared.mixer.MixedBatch.{MixedBatch}
use Rattle.eve_replica.specs.declared.standing.Standing.{Standing}
use Rattle.eve_replica.specs.inner.RunInvariant.{GoesOn, IsNotedAs, IsRightMixed, attempt_move}
use Rattle.eve_replica.specs.inner.RunInvariant.{server_with}
use Rattle.eve_stamps.specs.Applied.{Applied}
use Rattle.eve_floor.specs.Recording.{AreNotedOf}
use Rattle.eve_replica.proofs.Moves.{one_more}
use Rattle.eve_replica.proofs.Noted.{noted_at}
use Rattle.eve_replica.proofs.Steps.{none_made}
use Rattle.eve_replica.proofs.replica.Replica.close_window.Goals as goal

pub loop-place-init : goal.loop-place-init
loop-place-init c =
    none_made (map (λ (m : MixedBatch). batch m.batch) c.args.window.now)
    (server_with c.args.self.now c.args.steps.now)

pub loop-place-preserved : goal.loop-place-preserved
loop-place-preserved c =
    one_more c.loop-place.place (map (λ m. batch m.batch) c.args.window.now) (batch c.index-window-place.result.batch)
    (server_with c.args.self.now c.args.steps.now) (server_with c.loop-place.self c.loop-place.steps)
    (server_with c.add_attempt.new.self c.add_attempt.new.steps)
    (slice_get-map (λ (m : MixedBatch). batch m.batch) c.args.window.now c.loop-place.place
    ∙ ap (option_map (λ m. batch m.batch))
    (slice_get_read c.args.window.now (length c.args.window.now) c.loop-place.place c.index-window-place.result refl
    (omega arith) c.index-window-place.is))
    refl c.loop-place.invariant c.in-Ok.ensures.on

pub returns-clause-on : goal.returns-clause-on
returns-clause-on c =
    let window = map (λ (m : MixedBatch). batch m.batch) c.args.window.now in
    let all : c.loop-place.place ≡ length c.args.window.now = omega arith in
    subst
    (λ (n : ℕ). GoesOn (attempt_move n window) (server_with c.args.self.now c.args.steps.now)
    (server_with c.loop-place.self c.loop-place.steps))
    all c.loop-place.invariant

pub add_attempt-requires-clause-due : goal.add_attempt-requires-clause-due
add_attempt-requires-clause-due c =
    let was = c.requires.due.due in
    let now = (c.loop-place.invariant.live refl).1 in
    let committed = ap (λ (s : Standing). s.committed) now in
    let opened = ap (λ (s : Standing). s.opened) now in
    let room = c.loop-place.invariant.room in
    record { last = omega (arith, was.last); room = omega (arith, was.room) }

pub add_attempt-requires-clause-mixed : goal.add_attempt-requires-clause-mixed
add_attempt-requires-clause-mixed c =
    let one : MixedBatch = c.index-window-place.result in
    subst (λ (names : List (List ℕ)). IsRightMixed names one) (sym c.loop-place.invariant.names)
    (subst (IsRightMixed c.args.self.now.names) (sym c.index-window-place.is)
    (c.requires.due.mixed c.loop-place.place one (omega arith)))

pub add_attempt-requires-clause-whole : goal.add_attempt-requires-clause-whole
add_attempt-requires-clause-whole c = c.loop-place.invariant.whole c.requires.due.whole

pub add_attempt-requires-clause-noted : goal.add_attempt-requires-clause-noted
add_attempt-requires-clause-noted c =
    let b = batch c.index-window-place.result.batch in
    subst (λ (rs : List Applied). AreNotedOf c.loop-place.self.names b rs) (sym c.as_slice.ensures.value)
    (subst (λ (names : List (List ℕ)). AreNotedOf names b c.index-noted-place.result.items)
    (sym c.loop-place.invariant.names)
    (noted_at c.args.self.now.names c.args.window.now c.args.noted.now c.loop-place.place c.index-window-place.result
    c.index-noted-place.result c.requires.noted (omega arith) c.index-window-place.is c.index-noted-place.is))

pub bounds-noted-place : goal.bounds-noted-place
bounds-noted-place c =
    let long = AllZip-long (IsNotedAs c.args.self.now.names) c.args.window.now c.args.noted.now c.requires.noted in
    omega (arith, long, c.loop-place-test.true)
