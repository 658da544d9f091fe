use Rattle.std.proofs.Common.{◌≡◌, ℕ, ◌-◌, take, drop, sym, ap, ◌∙◌, arith}
use Rattle.eve_frames.proofs.CustomerPlaces.{name_length, customer_name}
use Rattle.eve_frames.proofs.customer.CustomerView.name.Goals as goal

pub returns : goal.returns
returns c =
    let bytes = c.args.self.now.bytes.now in
    let size : c.name_end-end.result - 6 ≡ name_length bytes = omega (arith, c.name_end-end.ensures) in
    ap (λ (k : ℕ). take k (drop 6 bytes)) size ∙ sym (customer_name bytes c.args.self.now.whole)
