use Rattle.std.proofs.Common.{◌≡◌, ℕ, ◌+◌, ◌-◌, ◌*◌, take, drop, sym, ap, ◌∙◌, arith}
use Rattle.eve_frames.proofs.AttemptPlaces.{requests_of, attempt_token}
use Rattle.eve_frames.proofs.attempt.AttemptView.token.Goals as goal

pub returns : goal.returns
returns c =
    let bytes = c.args.self.now.bytes.now in
    let at : ℕ = 16 + 11 * c.len.result in
    let size : (16 + 11 * c.len.result + 32) - (16 + 11 * c.len.result) ≡ 32 = omega arith in
    let place : 16 + 11 * c.len.result ≡ 16 + 11 * requests_of bytes = omega (arith, c.len.ensures.certificate) in
    ap (λ (k : ℕ). take k (drop at bytes)) size ∙ ap (λ (k : ℕ). take 32 (drop k bytes)) place
    ∙ sym (attempt_token bytes c.args.self.now.whole)
