use Rattle.std.proofs.Common.{arith, refl}
use Rattle.eve_grammar.specs.Spelling.{versioned_text}
use Rattle.eve_grammar.proofs.Scans.{text_length}
use Rattle.eve_write.proofs.transfer.body_len.Goals as goal

pub returns : goal.returns
returns c =
    let rows = c.args.transfer.now.rows.items in
    omega (
      arith,
      text_length 16 versioned_text (λ x. refl) rows,
      c.len.ensures,
    )
