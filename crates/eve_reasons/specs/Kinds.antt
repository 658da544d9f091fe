-- Kinds of frames, one after another.
use Rattle.std.specs.Prelude.{Bool, true, false, List, ℕ, [], ◌++◌, codes}
use Rattle.eve_grammar.specs.declared.frame_kind.FrameKind.{FrameKind}
use Rattle.eve_reasons.specs.Words.{kind_words}

-- a kind, if it is told; behind others, if there is one before
abbrev pub kind_if : (any told : Bool) → FrameKind → List ℕ
kind_if any false k = []
kind_if false true k = kind_words k
kind_if true true k = codes ", " ++ kind_words k
