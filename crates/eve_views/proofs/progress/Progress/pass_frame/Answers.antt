use Rattle.std.proofs.Common.{◌≡◌, ◌+◌, ◌-◌, ◌∙◌, drop, ℕ, List, [], ◌∷◌, ◌++◌, length, sym, ap, subst, rules, arith}
use Rattle.std.specs.Prelude.{IsTrue}
use Rattle.std.proofs.lemmas.List.{length-append, length-drop, length-take}
use Rattle.eve_grammar.specs.Frames.{is_allowed}
use Rattle.eve_grammar.specs.Kinds.{kind_byte}
use Rattle.eve_grammar.specs.Limits.{row_count}
use Rattle.eve_grammar.specs.declared.place.Place.{Place}
use Rattle.eve_grammar.specs.declared.head.Head.{Head}
use Rattle.eve_grammar.proofs.HeadLimits.{few_customers}
use Rattle.eve_views.specs.inner.PartStarts.{noted}
use Rattle.eve_views.specs.Indexes.{kept_in}
use Rattle.eve_views.specs.inner.SideBySide.{AreRightFrames}
use Rattle.eve_views.specs.inner.WalkProgress.{Walking}
use Rattle.eve_views.specs.declared.starts.Starts.{Starts}
use Rattle.eve_views.proofs.WalkSteps.{room_of, replica_room, verifier_room}
use Rattle.eve_views.proofs.UnjudgedFrames.{walking_unjudged}
use Rattle.eve_views.proofs.progress.Progress.pass_frame.Goals as goal

pub frame_unjudged-requires : goal.frame_unjudged-requires
frame_unjudged-requires c =
    let small = few_customers c.args.head c.requires.says.limits in
    omega (arith, small, ap (λ (h : Head). h.customers) c.requires.walked.head)

pub note-requires-clause-replica : goal.note-requires-clause-replica
note-requires-clause-replica c =
    let p = c.args.self.now.reached.place in
    let kind = kind_byte c.in-Some.frame.kind in
    let allowed = subst (λ (g : Head). IsTrue (is_allowed g p kind)) c.requires.walked.head c.in-Some.ensures.allowed in
    (λ is. replica_room c.args.head p kind (room_of c.args.head c.requires.says.limits) allowed (ap kind_byte is))

pub note-requires-clause-verifier : goal.note-requires-clause-verifier
note-requires-clause-verifier c =
    let p = c.args.self.now.reached.place in
    let kind = kind_byte c.in-Some.frame.kind in
    let allowed = subst (λ (g : Head). IsTrue (is_allowed g p kind)) c.requires.walked.head c.in-Some.ensures.allowed in
    (λ is. verifier_room c.args.head p kind (room_of c.args.head c.requires.says.limits) allowed (ap kind_byte is))

pub returns-clause-walked : goal.returns-clause-walked
returns-clause-walked c = λ _.
    let h = c.args.head in
    let self = c.args.self.now in
    let p = self.reached.place in
    let bytes = c.args.bytes.now in
    let at = self.at in
    let xs = self.offsets.items in
    let k = kept_in c.in-Some.frame in
    let framed = c.in-Some.ensures in
    let before = c.requires.walked in
    let more = at + c.in-Some.frame.len in
    let count : c.len-number.result ≡ length xs = search rules in
    let items : c.push.new.self.items ≡ xs ++ at ∷ [] = c.in_ok-push.ensures.items in
    let noted_is : noted self.starts p (kind_byte c.in-Some.frame.kind) (length xs) ≡ c.note.new.self =
    ap (noted self.starts p (kind_byte c.in-Some.frame.kind)) (sym count) ∙ sym c.note.ensures in
    let walked : AreRightFrames (row_count h) bytes c.push.new.self.items
    → Walking h bytes more c.pass.new.self.place c.push.new.self.items c.note.new.self = λ right.
    let w = walking_unjudged h self.reached.head p bytes at xs self.starts k
    c.requires.says.limits (λ i. omega (arith, c.type_inv.bytes i)) before.within before.head framed before.walking
    (subst (AreRightFrames (row_count h) bytes) items right) in
    let one = subst (λ (q : Place). Walking h bytes more q (xs ++ at ∷ [])
    (noted self.starts p (kind_byte c.in-Some.frame.kind) (length xs))) (sym c.pass.ensures.place) w in
    let two = subst (λ (ys : List ℕ). Walking h bytes more c.pass.new.self.place ys
    (noted self.starts p (kind_byte c.in-Some.frame.kind) (length xs))) (sym items) one in
    subst (λ (s : Starts). Walking h bytes more c.pass.new.self.place c.push.new.self.items s) noted_is two
    in
    record {
      head = c.pass.ensures.head ∙ before.head;
      within = omega (
        arith,
        framed.within,
        length-drop at bytes,
        length-take (length bytes - at) (drop at bytes),
        before.within,
      );
      few = omega (arith, ap length items, length-append xs (at ∷ []), framed.some, before.few);
      walking = walked;
    }
