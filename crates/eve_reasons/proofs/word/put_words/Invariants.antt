-- What stands and the words that are left are together what they were, and there is room for these.
use Rattle.std.proofs.Common.{◌≡◌, ◌+◌, ◌≤◌, ◌++◌, drop}
use Rattle.arrayvec.specs.ArrayVec.{array_vec_len}
use Rattle.eve_reasons.specs.Words.{words_text, words_room}
use Rattle.eve_reasons.proofs.word.put_words.Given as goal

abbrev pub invariant-words : goal.invariant-words
invariant-words l =
    (l.line.items ++ words_text (drop l.word-index l.words) ≡ l.initial.line.items ++ words_text l.words)
    × (array_vec_len l.line + words_room (drop l.word-index l.words)
    ≤ array_vec_len l.initial.line + words_room l.words)
