use Rattle.std.proofs.Common.{◌≡◌, ◌+◌, ℕ, true, false, List, [], ◌∷◌, ◌++◌, length, drop, refl, sym, ap, subst, ◌∙◌}
use Rattle.std.proofs.Common.{rules, arith}
use Rattle.std.specs.Prelude.{IsTrue}
use Rattle.std.proofs.lemmas.List.{length-drop}
use Rattle.eve_grammar.specs.Frames.{is_allowed}
use Rattle.eve_grammar.specs.Kinds.{kind_byte}
use Rattle.eve_grammar.specs.declared.head.Head.{Head}
use Rattle.eve_grammar.proofs.HeadLimits.{few_customers}
use Rattle.eve_grammar.specs.declared.place.Place.{Place}
use Rattle.eve_views.specs.inner.PartStarts.{no_starts, noted}
use Rattle.eve_views.specs.Indexes.{kept_in}
use Rattle.eve_views.specs.declared.starts.Starts.{Starts}
use Rattle.eve_views.specs.inner.WalkProgress.{Walking}
use Rattle.eve_views.proofs.WalkSteps.{step_here, fault_here, step_allowed, reached_fault, few_offsets}
use Rattle.eve_views.proofs.WalkSteps.{walking_start, walking_more, walking_end, room_of, replica_room, verifier_room}
use Rattle.eve_views.proofs.walk.index_of.Goals as goal
use Rattle.eve_views.proofs.walk.index_of.Goals.{then-not-reached, else-not-reached+then-at-bytes}

pub returns-in-Err-clause-fault : goal.returns-in-Err-clause-fault
returns-in-Err-clause-fault c =
    let h = c.args.head in
    let p = c.frames.reached.place in
    let w = c.frames.invariant.0 in
    let more : IsTrue c.frames.reached.place.ended → drop c.frames.at c.args.bytes.now ≡ []
    → ⊥ = λ ended nothing. elim c.if-not-reached.branch [
      | then-not-reached b ↦ let going : c.frames.reached.place.ended ≡ false = b.if-not-reached.true in
          let e : c.frames.reached.place.ended ≡ true = ended in cc
      | else-not-reached+then-at-bytes b ↦ let lt = b.if-at-bytes.true in
          omega (arith, lt, ap length nothing, length-drop c.frames.at c.args.bytes.now)
    ] in
    let stop = fault_here h c.frames.reached.head p c.args.bytes.now c.frames.at c.in-Err.code
    c.frames.invariant.1 c.in-Err.ensures in
    record {
      stands = reached_fault h c.args.bytes.now c.frames.at p c.frames.offsets.items c.in-Err.code
          c.requires.says w.reached stop more;
      outside = refl;
    }

pub first_frame-requires : goal.first_frame-requires
first_frame-requires c =
    let small = few_customers c.args.head c.requires.says.limits in
    omega (arith, small, ap (λ (h : Head). h.customers) c.frames.invariant.1)

pub overflow_cast-len : goal.overflow_cast-len
overflow_cast-len c =
    let w = c.frames.invariant.0 in
    let few = few_offsets c.args.head c.args.bytes.now c.frames.at c.frames.reached.place
    c.frames.offsets.items w.reached in
    let count : c.len.result ≡ length c.frames.offsets.items = search rules in
    record { fits = omega (arith, count, few, w.reached.within, c.requires.length) }

pub note-requires-clause-replica : goal.note-requires-clause-replica
note-requires-clause-replica c =
    let h = c.args.head in
    let p = c.frames.reached.place in
    let s = step_here h c.frames.reached.head p c.args.bytes.now c.frames.at
    (kept_in c.in-Ok.frame) c.requires.says.limits (λ i. omega (arith, c.type_inv.bytes i))
    c.frames.invariant.0.reached.within c.frames.invariant.1 c.in-Ok.ensures in
    (λ is. replica_room h p (kind_byte c.in-Ok.frame.kind) (room_of h c.requires.says.limits)
    (step_allowed h p c.args.bytes.now c.frames.at (kept_in c.in-Ok.frame) s) (ap kind_byte is))

pub note-requires-clause-verifier : goal.note-requires-clause-verifier
note-requires-clause-verifier c =
    let h = c.args.head in
    let p = c.frames.reached.place in
    let s = step_here h c.frames.reached.head p c.args.bytes.now c.frames.at
    (kept_in c.in-Ok.frame) c.requires.says.limits (λ i. omega (arith, c.type_inv.bytes i))
    c.frames.invariant.0.reached.within c.frames.invariant.1 c.in-Ok.ensures in
    (λ is. verifier_room h p (kind_byte c.in-Ok.frame.kind) (room_of h c.requires.says.limits)
    (step_allowed h p c.args.bytes.now c.frames.at (kept_in c.in-Ok.frame) s) (ap kind_byte is))

pub pass-requires : goal.pass-requires
pass-requires c =
    let h = c.args.head in
    let p = c.frames.reached.place in
    let s = step_here h c.frames.reached.head p c.args.bytes.now c.frames.at
    (kept_in c.in-Ok.frame) c.requires.says.limits (λ i. omega (arith, c.type_inv.bytes i))
    c.frames.invariant.0.reached.within c.frames.invariant.1 c.in-Ok.ensures in
    ap (λ (g : Head). is_allowed g p (kind_byte c.in-Ok.frame.kind)) c.frames.invariant.1
    ∙ step_allowed h p c.args.bytes.now c.frames.at (kept_in c.in-Ok.frame) s

pub overflow_add-at : goal.overflow_add-at
overflow_add-at c =
    let h = c.args.head in
    let p = c.frames.reached.place in
    let s = step_here h c.frames.reached.head p c.args.bytes.now c.frames.at
    (kept_in c.in-Ok.frame) c.requires.says.limits (λ i. omega (arith, c.type_inv.bytes i))
    c.frames.invariant.0.reached.within c.frames.invariant.1 c.in-Ok.ensures in
    record { fits = omega (arith, s.within, c.requires.length) }

pub frames-smaller : goal.frames-smaller
frames-smaller c =
    let h = c.args.head in
    let p = c.frames.reached.place in
    let s = step_here h c.frames.reached.head p c.args.bytes.now c.frames.at
    (kept_in c.in-Ok.frame) c.requires.says.limits (λ i. omega (arith, c.type_inv.bytes i))
    c.frames.invariant.0.reached.within c.frames.invariant.1 c.in-Ok.ensures in
    omega (arith, s.within, s.len)

pub frames-preserved : goal.frames-preserved
frames-preserved c =
    let h = c.args.head in
    let p = c.frames.reached.place in
    let bytes = c.args.bytes.now in
    let s = step_here h c.frames.reached.head p c.args.bytes.now c.frames.at
    (kept_in c.in-Ok.frame) c.requires.says.limits (λ i. omega (arith, c.type_inv.bytes i))
    c.frames.invariant.0.reached.within c.frames.invariant.1 c.in-Ok.ensures in
    let w = walking_more h c.args.bytes.now c.frames.at p c.frames.offsets.items c.frames.starts (kept_in c.in-Ok.frame)
    (room_of h c.requires.says.limits) c.frames.invariant.0 s in
    let count : c.len.result ≡ length c.frames.offsets.items = search rules in
    let noted_is : noted c.frames.starts p (kind_byte c.in-Ok.frame.kind) (length c.frames.offsets.items)
    ≡ c.note.new.self = ap (noted c.frames.starts p (kind_byte c.in-Ok.frame.kind)) (sym count)
    ∙ sym c.note.ensures in
    let one = subst (λ (q : Place). Walking h c.args.bytes.now (c.frames.at + c.in-Ok.frame.len) q
    (c.frames.offsets.items ++ c.frames.at ∷ [])
    (noted c.frames.starts p (kind_byte c.in-Ok.frame.kind) (length c.frames.offsets.items)))
    (sym c.pass.ensures.place) w in
    let two = subst (λ (xs : List ℕ). Walking h c.args.bytes.now (c.frames.at + c.in-Ok.frame.len)
    c.pass.new.self.place xs
    (noted c.frames.starts p (kind_byte c.in-Ok.frame.kind) (length c.frames.offsets.items)))
    (sym c.in_ok-push-in-Ok.ensures.items) one in
    let three = subst (λ (t : Starts). Walking h c.args.bytes.now (c.frames.at + c.in-Ok.frame.len)
    c.pass.new.self.place c.push.new.self.items t) noted_is two in
    (three, c.pass.ensures.head ∙ c.frames.invariant.1)

pub frames-init : goal.frames-init
frames-init c =
    let h = c.args.head in
    let w = walking_start h c.args.bytes.now c.requires.header in
    let one = subst (λ (q : Place). Walking h c.args.bytes.now 32 q [] no_starts) (sym c.start-reached.ensures.place) w
    in
    let two = subst (λ (s : Starts). Walking h c.args.bytes.now 32 c.start-reached.result.place [] s)
    (sym c.new-starts.ensures) one in (
      subst (λ (xs : List ℕ). Walking h c.args.bytes.now 32 c.start-reached.result.place xs c.new-starts.result)
          (sym c.new-offsets.ensures.items) two,
      c.start-reached.ensures.head,
    )

pub returns-clause-found : goal.returns-clause-found
returns-clause-found c =
    let w = walking_end c.args.head c.args.bytes.now c.frames.at c.frames.reached.place
    c.frames.offsets.items c.frames.starts c.frames.invariant.0 c.if-not-reached.false c.if-at-bytes.false in
    record { frames = w.0; run = w.1; text = w.2; offsets = w.3; starts = w.4 }
