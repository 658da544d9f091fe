-- The words of a table one after another.
use Rattle.std.proofs.Common.{◌≡◌, List, [], ◌∷◌, ◌++◌, sym, append_assoc}
use Rattle.std.proofs.lemmas.List.{append-nil}
use Rattle.eve_reasons.specs.declared.word.Word.{Word}
use Rattle.eve_reasons.specs.Words.{told_value_words, words_text}

-- a table is the first label, its value, and then the others
pub words-cons : (w : Word) (rest : List Word)
    → words_text (w ∷ rest) ≡ (w.0.now ++ told_value_words w.1) ++ words_text rest
words-cons w [] = sym (append-nil (w.0.now ++ told_value_words w.1))
words-cons w (x ∷ rest) = sym (append_assoc w.0.now (told_value_words w.1) (words_text (x ∷ rest)))

pub ruleset words_steps = words-cons
