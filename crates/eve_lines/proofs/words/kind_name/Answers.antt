use Rattle.std.proofs.Common.{◌≡◌, rules}
use Rattle.eve_frames.specs.Kinds.{kind_name}
use Rattle.eve_grammar.specs.Kinds.{kind_byte}
use Rattle.eve_lines.proofs.KindNames.{named_short}
use Rattle.eve_lines.proofs.words.kind_name.Goals as goal

pub returns-clause-short : goal.returns-clause-short
returns-clause-short c =
    let is : c.kind_name.result.now ≡ kind_name (kind_byte c.args.kind) = search rules in
    named_short c.kind_name.result.now (kind_byte c.args.kind) is
