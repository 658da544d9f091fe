use Rattle.std.proofs.Common.{refl, ◌∙◌}
use Rattle.eve_grammar.specs.Readers.{number_at}
use Rattle.eve_frames.specs.Views.{attempt_in}
use Rattle.eve_frames.proofs.AttemptPlaces.{requests_of, attempt_placed}
use Rattle.eve_frames.proofs.Lists.{stand_passes}
use Rattle.eve_frames.proofs.attempt.AttemptView.certificate.Goals as goal

pub new-requires : goal.new-requires
new-requires c =
    let bytes = c.args.self.now.bytes.now in
    (stand_passes 2 (requests_of bytes) 16 (number_at 2) bytes (attempt_in bytes).certificate
    (attempt_placed bytes c.args.self.now.whole).certificate c.len-count.result 16 c.len-count.ensures.certificate
    refl).there

pub returns : goal.returns
returns c =
    let bytes = c.args.self.now.bytes.now in
    c.new.ensures ∙ (stand_passes 2 (requests_of bytes) 16 (number_at 2) bytes (attempt_in bytes).certificate
    (attempt_placed bytes c.args.self.now.whole).certificate c.len-count.result 16 c.len-count.ensures.certificate
    refl).list
