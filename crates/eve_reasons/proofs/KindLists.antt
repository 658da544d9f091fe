-- Kinds of frames that are appended, one after another.
use Rattle.std.proofs.Common.{◌≡◌, ℕ, ◌+◌, Bool, true, false, ◌||◌, List, ◌∷◌, ◌++◌, drop, Some}
use Rattle.std.proofs.Common.{ap, sym, ◌∙◌, append_assoc, append-nil}
use Rattle.std.specs.List.{slice_get}
use Rattle.eve_grammar.specs.declared.frame_kind.FrameKind.{FrameKind}
use Rattle.eve_grammar.proofs.Lists.{drop_here}
use Rattle.eve_reasons.specs.Kinds.{kind_if}
use Rattle.eve_reasons.specs.Words.{listed_kinds, more_kinds, told_kinds}

-- kinds that are still to come, behind others or not
abbrev pub kinds_behind : Bool → List FrameKind → List ℕ
kinds_behind true kinds = more_kinds kinds
kinds_behind false kinds = listed_kinds kinds

-- of the kinds that are told those from number i on
abbrev pub kinds_left : Bool → ℕ → List FrameKind → List Bool → List ℕ
kinds_left any i kinds told = kinds_behind any (told_kinds (drop i kinds) (drop i told))

step : (s r : List ℕ) (any told : Bool) (k : FrameKind) (kinds : List FrameKind) (rest : List Bool)
    → r ≡ s ++ kind_if any told k
    → r ++ kinds_behind (any || told) (told_kinds kinds rest)
    ≡ s ++ kinds_behind any (told_kinds (k ∷ kinds) (told ∷ rest))
step s r true true k kinds rest put =
    ap (λ l. l ++ more_kinds (told_kinds kinds rest)) put
    ∙ append_assoc s (kind_if true true k) (more_kinds (told_kinds kinds rest))
step s r false true k kinds rest put =
    ap (λ l. l ++ more_kinds (told_kinds kinds rest)) put
    ∙ append_assoc s (kind_if false true k) (more_kinds (told_kinds kinds rest))
step s r true false k kinds rest put = ap (λ l. l ++ more_kinds (told_kinds kinds rest)) (put ∙ append-nil s)
step s r false false k kinds rest put = ap (λ l. l ++ listed_kinds (told_kinds kinds rest)) (put ∙ append-nil s)

-- the next kind
pub puts_kind : (s r : List ℕ) (any next told : Bool) (k : FrameKind) (kinds : List FrameKind) (all : List Bool) (i : ℕ)
    → slice_get kinds i ≡ Some k → slice_get all i ≡ Some told → r ≡ s ++ kind_if any told k → next ≡ (any || told)
    → r ++ kinds_left next (i + 1) kinds all ≡ s ++ kinds_left any i kinds all
puts_kind s r any next told k kinds all i at here put is =
    ap (λ b. r ++ kinds_left b (i + 1) kinds all) is
    ∙ step s r any told k (drop (i + 1) kinds) (drop (i + 1) all) put
    ∙ ap (λ l. s ++ kinds_behind any (told_kinds l (told ∷ drop (i + 1) all))) (sym (drop_here kinds i k at))
    ∙ ap (λ l. s ++ kinds_behind any (told_kinds (drop i kinds) l)) (sym (drop_here all i told here))
