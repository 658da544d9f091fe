use Rattle.std.proofs.Common.{rules}
use Rattle.eve_grammar.specs.Places.{IsBytes}
use Rattle.eve_frames.specs.Views.{attempt_in}
use Rattle.eve_agree.proofs.AnsweredRequests.{replies_fit}
use Rattle.eve_agree.proofs.agreement.recall_replies.Goals as goal

pub returns : goal.returns
returns c =
    let bytes = c.args.frame.now in
    let are_bytes : IsBytes bytes = search rules in
    replies_fit (attempt_in bytes) (c.frames_say_what_fits.ensures.attempts bytes are_bytes c.requires).0
