use Rattle.std.proofs.Common.{arith, refl}
use Rattle.eve_grammar.specs.Spelling.{restore_text}
use Rattle.eve_grammar.proofs.Scans.{text_length}
use Rattle.eve_write.proofs.rollback.RollbackData.body_len.Goals as goal

pub returns : goal.returns
returns c =
    let restores = c.args.self.now.restores.items in
    omega (
      arith,
      text_length 20 restore_text (λ r. refl) restores,
      c.len.ensures,
    )
