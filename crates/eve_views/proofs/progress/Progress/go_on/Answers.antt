use Rattle.std.proofs.Common.{List, ℕ, ◌++◌, ap, ◌∙◌, append_assoc, arith}
use Rattle.eve_views.specs.declared.progress.Progress.{Progress}
use Rattle.eve_views.specs.inner.SideBySide.{WalksOn}
use Rattle.eve_views.proofs.progress.Progress.go_on.Goals as goal

walks_on : (first next last : Progress) → WalksOn first next → WalksOn next last → WalksOn first last
walks_on first next last one other = record {
  more = one.more ++ other.more;
  offsets = other.offsets ∙ ap (λ (xs : List ℕ). xs ++ other.more) one.offsets
      ∙ append_assoc first.offsets.items one.more other.more;
}

pub frames-preserved : goal.frames-preserved
frames-preserved c = record {
  found = c.in_ok-pass_accesses.ensures.walked c.if-not-branch-2.false;
  kept = walks_on c.args.self c.pass_frame.new.self c.pass_accesses.new.self
      (walks_on c.args.self c.frames.walked c.pass_frame.new.self c.frames.invariant.kept
      (c.in_ok-pass_frame.ensures.kept c.if-not-branch.false))
      (c.in_ok-pass_accesses.ensures.kept c.if-not-branch-2.false);
}

pub frames-smaller : goal.frames-smaller
frames-smaller c =
    let frame = c.in_ok-pass_frame.ensures.on c.if-not-branch.false in
    let accesses = c.in_ok-pass_accesses.ensures.on c.if-not-branch-2.false in
    let walked = c.in_ok-pass_accesses.ensures.walked c.if-not-branch-2.false in
    omega (arith, frame, accesses, walked.within)
