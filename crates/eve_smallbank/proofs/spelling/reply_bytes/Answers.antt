use Rattle.std.proofs.Common.{rules}
use Rattle.eve_smallbank.proofs.spelling.reply_bytes.Goals as goal

pub returns : goal.returns
returns c = search rules
