-- Lines that several kinds of evidence have. docs/USING.md, "What `explain` prints".
use Rattle.std.specs.Prelude.{ℕ, List, [], ◌∷◌, ◌++◌, codes, decimal}
use Rattle.eve_grammar.specs.declared.frame_kind.FrameKind.TheVariants as kind
use Rattle.eve_lines.specs.Words.{mode_words}
use Rattle.eve_evidence.specs.declared.evidence.Numbers.{Numbers}
use Rattle.eve_evidence.specs.declared.evidence.ToldAttempt.{ToldAttempt}
use Rattle.eve_evidence.specs.declared.evidence.ToldTransfer.{ToldTransfer}
use Rattle.eve_reasons.specs.Words.{batch_view_words, frame_at_words}

-- `attempt: batch 1, view 0, parallel, Attempt at byte 126`
abbrev pub attempt_line : ToldAttempt → List ℕ
attempt_line a =
    codes "attempt: " ++ (batch_view_words a.batch a.view ++ (codes ", " ++ (mode_words a.serial ++ (codes ", "
    ++ frame_at_words kind.Attempt a.at))))

-- `transfer: batch 2, view 1, Transfer at byte 1235`
abbrev pub transfer_line : ToldTransfer → List ℕ
transfer_line s =
    codes "transfer: " ++ (batch_view_words s.batch s.view ++ (codes ", " ++ frame_at_words kind.Transfer s.at))

-- an Access frame: `frame: Access at byte 196`
abbrev pub access_line : ℕ → List ℕ
access_line at = codes "frame: " ++ frame_at_words kind.Access at

-- a field, the number that was found in it, and the one that was due, behind how that bounds it
abbrev pub numbers_lines : List ℕ → Numbers → List ℕ → List (List ℕ)
numbers_lines field is due =
    (codes "field: " ++ field) ∷ (codes "found: " ++ decimal is.found) ∷ (due ++ decimal is.due) ∷ []
