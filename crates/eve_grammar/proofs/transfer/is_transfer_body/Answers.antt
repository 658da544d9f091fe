use Rattle.std.proofs.Common.{rules}
use Rattle.eve_grammar.specs.Readers.{transfer_of}
use Rattle.eve_grammar.proofs.transfer.is_transfer_body.Goals as goal

pub returns-in_default-pass_rows : goal.returns-in_default-pass_rows
unfolding transfer_of
returns-in_default-pass_rows c = search rules

pub returns : goal.returns
unfolding transfer_of
returns c = search rules
