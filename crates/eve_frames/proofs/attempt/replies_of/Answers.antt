use Rattle.std.proofs.Common.{◌≡◌, ℕ, ◌+◌, ◌-◌, ◌*◌, take, drop, ap, ◌∙◌, arith}
use Rattle.eve_frames.proofs.AttemptPlaces.{attempt_replies}
use Rattle.eve_frames.proofs.attempt.replies_of.Goals as goal

pub returns : goal.returns
returns c =
    let bytes = c.args.frame.now in
    let count = c.args.count in
    let at : ℕ = 16 + 2 * count in
    let size : (16 + 2 * count + 9 * count) - (16 + 2 * count) ≡ 9 * count = omega arith in
    ap (λ (k : ℕ). take k (drop at bytes)) size
    ∙ ap (λ (k : ℕ). take (9 * k) (drop (16 + 2 * k) bytes)) c.requires.count
    ∙ attempt_replies bytes c.requires.frame (λ i. omega (arith, c.type_inv.frame i))
