use Rattle.std.proofs.Common.{◌≡◌, ℕ, ◌≤◌, ◌<◌, List, length, sum, subst, ap, ◌∙◌, arith}
use Rattle.eve_grammar.specs.Trace.{Batch}
use Rattle.eve_grammar.specs.Certificate.{is_certificate}
use Rattle.eve_frames.specs.Views.{batch_in}
use Rattle.eve_grammar.proofs.GroupOrder.{few_requests}
use Rattle.eve_history.proofs.certificate.is_certificate.Goals as goal

few : (b : Batch) (order : List ℕ) → (length b.requests ≡ sum b.sizes) × (sum b.sizes ≤ 256) → length order
    ≡ length b.requests → length order ≤ 256
few b order requests count = let one = requests.0 in let two = requests.1 in omega arith

pub is_certificate-requires : goal.is_certificate-requires
is_certificate-requires c =
    let b = (batch_in c.args.batch.now.bytes.now).1 in
    few b c.args.order.now (few_requests b c.requires.whole) c.requires.count

pub returns : goal.returns
returns c =
    let b = (batch_in c.args.batch.now.bytes.now).1 in
    let order = c.args.order.now in
    c.is_certificate.ensures b.sizes (λ i lt. c.groups_of.ensures i (subst (λ (n : ℕ). i < n) c.requires.count lt))
    ∙ ap (λ (n : ℕ). is_certificate b.sizes n c.args.serial order) c.requires.count
