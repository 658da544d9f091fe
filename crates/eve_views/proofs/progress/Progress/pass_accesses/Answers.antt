use Rattle.std.proofs.Common.{◌≡◌, ◌+◌, ◌-◌, ◌∙◌, drop, ℕ, List, [], ◌∷◌, ◌++◌, length, sym, ap, subst, arith}
use Rattle.std.proofs.Common.{append_assoc}
use Rattle.std.proofs.lemmas.List.{append-nil, length-append, length-drop, length-take}
use Rattle.eve_grammar.specs.Limits.{row_count}
use Rattle.eve_grammar.specs.declared.place.Place.{Place}
use Rattle.eve_views.specs.inner.SideBySide.{AreRightFrames, access_kept}
use Rattle.eve_views.specs.inner.WalkProgress.{Walking}
use Rattle.eve_views.proofs.UnjudgedFrames.{access_again, walking_unjudged}
use Rattle.eve_views.proofs.progress.Progress.pass_accesses.Goals as goal

pub frames-preserved : goal.frames-preserved
frames-preserved c =
    let h = c.args.head in
    let self = c.frames.self in
    let p = self.reached.place in
    let bytes = c.args.bytes.now in
    let at = self.at in
    let xs = self.offsets.items in
    let allowed = c.frames.invariant.allowed c.frames-test.true in
    let framed = c.in-Some.ensures self.reached.head p allowed in
    let before = c.frames.invariant.walked in
    let more = at + c.in-Some.len in
    let items : c.push.new.self.items ≡ xs ++ at ∷ [] = c.in_ok-push.ensures.items in
    let walked : AreRightFrames (row_count h) bytes c.push.new.self.items
    → Walking h bytes more c.pass.new.self.place c.push.new.self.items self.starts = λ right.
    let w = walking_unjudged h self.reached.head p bytes at xs self.starts (access_kept c.in-Some.len)
    c.requires.says.limits (λ i. omega (arith, c.type_inv.bytes i)) before.within before.head framed before.walking
    (subst (AreRightFrames (row_count h) bytes) items right) in
    let one = subst (λ (q : Place). Walking h bytes more q (xs ++ at ∷ []) self.starts) (sym c.pass.ensures.place) w in
    subst (λ (ys : List ℕ). Walking h bytes more c.pass.new.self.place ys self.starts) (sym items) one
    in
    let kept = c.frames.invariant.kept in
    record {
      walked = record {
        head = c.pass.ensures.head ∙ before.head;
        within = omega (
          arith,
          framed.within,
          length-drop at bytes,
          length-take (length bytes - at) (drop at bytes),
          before.within,
        );
        few = omega (arith, ap length items, length-append xs (at ∷ []), framed.some, before.few);
        walking = walked;
      };
      kept = record {
        more = kept.more ++ at ∷ [];
        offsets = items ∙ ap (λ (ys : List ℕ). ys ++ at ∷ []) kept.offsets
            ∙ append_assoc c.args.self.now.offsets.items kept.more (at ∷ []);
      };
      on = omega (arith, c.frames.invariant.on);
      allowed = λ more. access_again self.reached.head c.pass.new.self.head p c.pass.new.self.place c.pass.ensures.head
          c.pass.ensures.place allowed more;
    }

pub frames-init : goal.frames-init
frames-init c = record {
  walked = c.requires.walked;
  kept = record { more = []; offsets = sym (append-nil c.args.self.now.offsets.items) };
  on = omega arith;
  allowed = λ some. sym c.allows.ensures ∙ c.if-not-allows.false;
}

pub frames-smaller : goal.frames-smaller
frames-smaller c =
    let self = c.frames.self in
    let bytes = c.args.bytes.now in
    let allowed = c.frames.invariant.allowed c.frames-test.true in
    let framed = c.in-Some.ensures self.reached.head self.reached.place allowed in
    omega (
      arith,
      framed.some,
      framed.within,
      length-drop self.at bytes,
      length-take (length bytes - self.at) (drop self.at bytes),
      c.frames.invariant.walked.within,
    )
