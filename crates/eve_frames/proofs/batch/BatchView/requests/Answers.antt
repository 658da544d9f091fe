use Rattle.std.proofs.Common.{ℕ, ◌+◌, ◌*◌, sum, ap, ◌∙◌}
use Rattle.eve_grammar.specs.Readers.{asked_at}
use Rattle.eve_frames.specs.Views.{batch_in}
use Rattle.eve_frames.proofs.BatchPlaces.{groups_of, batch_placed}
use Rattle.eve_frames.proofs.Lists.{passes_from}
use Rattle.eve_frames.proofs.batch.BatchView.requests.Goals as goal

pub new-requires : goal.new-requires
new-requires c =
    let bytes = c.args.self.now.bytes.now in
    let placed = batch_placed bytes c.args.self.now.whole in
    (passes_from asked_at (sum (batch_in bytes).1.sizes) (11 + 2 * c.groups.result) c.len-count.result
    (11 + 2 * groups_of bytes) bytes placed.rest (batch_in bytes).1.requests placed.requests
    (c.len-count.ensures ∙ placed.total) (ap (λ (k : ℕ). 11 + 2 * k) c.groups.ensures)).there

pub returns : goal.returns
returns c =
    let bytes = c.args.self.now.bytes.now in
    let placed = batch_placed bytes c.args.self.now.whole in
    c.new.ensures ∙ (passes_from asked_at (sum (batch_in bytes).1.sizes) (11 + 2 * c.groups.result) c.len-count.result
    (11 + 2 * groups_of bytes) bytes placed.rest (batch_in bytes).1.requests placed.requests
    (c.len-count.ensures ∙ placed.total) (ap (λ (k : ℕ). 11 + 2 * k) c.groups.ensures)).list
