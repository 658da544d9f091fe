use Rattle.std.proofs.Common.{◌++◌}
use Rattle.std.specs.Prelude.{codes, decimal}
use Rattle.eve_lines.specs.FrameLines.{header_words}
use Rattle.eve_lines.proofs.AppendedParts.{eight}
use Rattle.eve_lines.proofs.heads.put_header.Goals as goal

pub returns-clause-items : goal.returns-clause-items
unfolding header_words
returns-clause-items c =
    rw (
      ← c.from.ensures,
      ← c.from-2.ensures,
      ← c.from-3.ensures,
      ← c.from-4.ensures,
      ← c.from-5.ensures,
      ← c.from-6.ensures,
      ← c.from-7.ensures,
      ← c.from-8.ensures,
    )
    (eight (codes " version " ++ decimal c.from.result)
    (codes " replicas " ++ decimal c.from-2.result)
    (codes " verifiers " ++ decimal c.from-3.result)
    (codes " quorum " ++ decimal c.from-4.result)
    (codes " window " ++ decimal c.from-5.result)
    (codes " workers " ++ decimal c.from-6.result)
    (codes " customers " ++ decimal c.from-7.result)
    (codes " batches " ++ decimal c.from-8.result)
    _ _ _ _ _ _ _ _ _
    c.put_word.ensures.items
    c.put_word-2.ensures.items
    c.put_word-3.ensures.items
    c.put_word-4.ensures.items
    c.put_word-5.ensures.items
    c.put_word-6.ensures.items
    c.put_word-7.ensures.items
    c.put_word-8.ensures.items)
