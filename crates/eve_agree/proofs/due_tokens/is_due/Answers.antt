use Rattle.std.proofs.Common.{rules}
use Rattle.eve_frames.specs.Views.{attempt_in}
use Rattle.eve_frames.proofs.AttemptPlaces.{attempt_some}
use Rattle.eve_agree.proofs.due_tokens.is_due.Goals as goal

pub token-due-requires-clause-some : goal.token-due-requires-clause-some
token-due-requires-clause-some c =
    let frame = c.args.attempt.now in
    ((attempt_in frame.bytes.now).replies, attempt_some frame.bytes.now frame.whole, c.reply_bytes.ensures)

-- Written, so that a wrong body fails soon.
pub returns-clause-due : goal.returns-clause-due
returns-clause-due c = search rules
