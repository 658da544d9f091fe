use Rattle.std.proofs.Common.{append_assoc}
use Rattle.eve_lines.specs.Words.{asked_words}
use Rattle.eve_lines.proofs.words.put_request.Goals as goal

pub returns-clause-items : goal.returns-clause-items
unfolding asked_words
returns-clause-items c =
    rw (
      c.put_operands.ensures.items,
      c.put-2.ensures.items,
      c.put_numbered.ensures.items,
      c.put_number.ensures.items,
      c.put.ensures.items,
      c.request_word.ensures.word,
      c.from.ensures,
    )
    (simp append_assoc)
