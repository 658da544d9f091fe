-- In which row a rollback restores something else, and a token that is not the one due. docs/USING.md, "What `explain`
-- prints".
use Rattle.std.specs.Prelude.{ℕ, List, [], ◌∷◌, ◌++◌, codes, decimal}
use Rattle.eve_lines.specs.Words.{token_words}
use Rattle.eve_evidence.specs.declared.evidence.RestoreFault.{RestoreFault}
use Rattle.eve_evidence.specs.declared.evidence.RestoreFault.TheVariants as restore
use Rattle.eve_evidence.specs.declared.evidence.ToldAttempt.{ToldAttempt}
use Rattle.eve_evidence.specs.declared.evidence.ToldState.{ToldState}
use Rattle.eve_evidence.specs.declared.evidence.TokenMatch.{TokenMatch}
use Rattle.eve_evidence.specs.declared.evidence.TokenMatch.TheVariants as made_as
use Rattle.eve_reasons.specs.Shared.{attempt_line}
use Rattle.eve_reasons.specs.Words.{has_words, told_row_words}

-- a row and what it has: `missing: row 1 (checking of ann), version 1, value 100`
abbrev pub state_line : List ℕ → ToldState → List ℕ
state_line label s = label ++ (told_row_words s.row ++ (codes ", " ++ has_words s.has))

-- the first row in which restores differ from those that are due
abbrev pub restore_lines : RestoreFault → List (List ℕ)
restore_lines (restore.Missing s) = state_line (codes "missing: ") s ∷ []
restore_lines (restore.Extra s) = state_line (codes "extra: ") s ∷ []
restore_lines (restore.Another found due) =
    state_line (codes "found: ") found ∷ (codes "due: " ++ has_words due.has) ∷ []

-- of what a token is made that is not the one due
abbrev pub match_line : TokenMatch → List ℕ
match_line made_as.Before = codes "matches: the balances before the attempt"
match_line made_as.Ordered = codes "matches: the replies in the certificate's order"
match_line made_as.BeforeOrdered =
    codes "matches: the balances before the attempt and the replies in the certificate's order"
match_line (made_as.Batch number) = codes "matches: batch " ++ decimal number
match_line (made_as.Version version) = codes "matches: version " ++ decimal version
match_line made_as.Nothing = codes "matches: nothing that was tried"

-- an attempt's token that is not the one due
abbrev pub token_lines : ToldAttempt → List ℕ → List ℕ → TokenMatch → List (List ℕ)
token_lines a found due matches =
    attempt_line a ∷ (codes "found: " ++ token_words found) ∷ (codes "due: " ++ token_words due)
    ∷ match_line matches ∷ []
