use Rattle.std.proofs.Common.{ℕ, ◌+◌, ◌*◌, ap, ◌∙◌}
use Rattle.eve_grammar.specs.Readers.{reply_at}
use Rattle.eve_frames.specs.Views.{attempt_in}
use Rattle.eve_frames.proofs.AttemptPlaces.{requests_of, attempt_placed}
use Rattle.eve_frames.proofs.Lists.{stand_passes}
use Rattle.eve_frames.proofs.attempt.AttemptView.replies.Goals as goal

pub new-requires : goal.new-requires
new-requires c =
    let bytes = c.args.self.now.bytes.now in
    (stand_passes 9 (requests_of bytes) (16 + 2 * requests_of bytes) reply_at bytes (attempt_in bytes).replies
    (attempt_placed bytes c.args.self.now.whole).replies c.len-count.result (16 + 2 * c.len-count.result)
    c.len-count.ensures.certificate (ap (λ (k : ℕ). 16 + 2 * k) c.len-count.ensures.certificate)).there

pub returns : goal.returns
returns c =
    let bytes = c.args.self.now.bytes.now in
    c.new.ensures ∙ (stand_passes 9 (requests_of bytes) (16 + 2 * requests_of bytes) reply_at bytes
    (attempt_in bytes).replies (attempt_placed bytes c.args.self.now.whole).replies c.len-count.result
    (16 + 2 * c.len-count.result) c.len-count.ensures.certificate
    (ap (λ (k : ℕ). 16 + 2 * k) c.len-count.ensures.certificate)).list
