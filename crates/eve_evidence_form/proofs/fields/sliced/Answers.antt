use Rattle.std.proofs.Common.{◌≡◌, ℕ, ◌+◌, ◌-◌, take, drop, ap, arith}
use Rattle.eve_evidence_form.proofs.fields.sliced.Goals as goal

pub returns : goal.returns
returns c =
    let count : c.args.from + c.args.count - c.args.from ≡ c.args.count = omega arith in
    ap (λ (n : ℕ). take n (drop c.args.from c.args.bytes.now)) count
