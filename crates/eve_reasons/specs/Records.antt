-- In what a record differs from what its request must note, and which entry doesn't see what it must. docs/USING.md,
-- "What `explain` prints".
use Rattle.std.specs.Prelude.{ℕ, List, [], ◌∷◌, ◌++◌, Option, None, Some, codes, decimal, Bool, if◌then◌else◌}
use Rattle.std.specs.Fmt.{signed_decimal}
use Rattle.eve_grammar.specs.declared.frame_kind.FrameKind.TheVariants as kind
use Rattle.eve_lines.specs.Words.{kind_word, reply_words}
use Rattle.eve_evidence.specs.declared.evidence.RecordFault.{RecordFault}
use Rattle.eve_evidence.specs.declared.evidence.RecordFault.TheVariants as record_fault
use Rattle.eve_evidence.specs.declared.evidence.SeenFrom.{SeenFrom}
use Rattle.eve_evidence.specs.declared.evidence.SeenFrom.TheVariants as seen
use Rattle.eve_evidence.specs.declared.evidence.Source.{Source}
use Rattle.eve_evidence.specs.declared.evidence.ToldAttempt.{ToldAttempt}
use Rattle.eve_evidence.specs.declared.evidence.ToldRequest.{ToldRequest}
use Rattle.eve_evidence.specs.declared.evidence.WrongEntry.{WrongEntry}
use Rattle.eve_reasons.specs.Shared.{access_line, attempt_line}
use Rattle.eve_reasons.specs.Words.{frame_at_words, has_words, told_request_words, told_row_words, source_words}

-- which record it is: its attempt, its request, and its Access frame, and then these lines
abbrev pub record_at : ToldAttempt → ToldRequest → ℕ → List (List ℕ) → List (List ℕ)
record_at a r at rest = attempt_line a ∷ (codes "request: " ++ told_request_words r) ∷ access_line at ∷ rest

-- the field in which a record differs, what was found in it, and what was due
abbrev pub record_fault_lines : RecordFault → List (List ℕ)
record_fault_lines (record_fault.Entries found due) =
    codes "field: entries" ∷ (codes "found: " ++ decimal found) ∷ (codes "due: " ++ decimal due) ∷ []
record_fault_lines (record_fault.Row entry found due) =
    (codes "field: row of entry " ++ decimal entry) ∷ (codes "found: " ++ told_row_words found)
    ∷ (codes "due: " ++ told_row_words due) ∷ []
record_fault_lines (record_fault.Kind entry found due) =
    (codes "field: kind of entry " ++ decimal entry) ∷ (codes "found: " ++ kind_word found)
    ∷ (codes "due: " ++ kind_word due) ∷ []
record_fault_lines (record_fault.After entry found due) =
    (codes "field: after of entry " ++ decimal entry) ∷ (codes "found: " ++ signed_decimal found)
    ∷ (codes "due: " ++ signed_decimal due) ∷ []
record_fault_lines (record_fault.Reply found due) =
    codes "field: reply" ∷ (codes "found: " ++ reply_words found) ∷ (codes "due: " ++ reply_words due) ∷ []

abbrev pub record_lines : ToldAttempt → ToldRequest → ℕ → RecordFault → List (List ℕ)
record_lines a r at wrong = record_at a r at (record_fault_lines wrong)

-- what a rollback did to the row, behind its frame
abbrev pub restoring : Bool → List ℕ
restoring restores = if restores then codes ", which restores the row" else codes ", which leaves the row out"

-- where what an entry saw comes from
abbrev pub seen_line : SeenFrom → List ℕ
seen_line (seen.Overwritten s) = codes "seen from: " ++ (source_words s ++ codes ", overwritten since")
seen_line (seen.BehindIt s) = codes "seen from: " ++ (source_words s ++ codes ", behind it in the certificate")
seen_line (seen.Restored at) = codes "seen from: " ++ (frame_at_words kind.Rollback at ++ codes ", which restores that")
seen_line (seen.RolledBack s by restores) =
    codes "seen from: " ++ (source_words s ++ (codes ", discarded by " ++ (frame_at_words kind.Rollback by
    ++ restoring restores)))
seen_line (seen.Discarded s by) =
    codes "seen from: " ++ (source_words s ++ (codes ", discarded by " ++ frame_at_words kind.Transfer by))
seen_line (seen.BeforeState s state) =
    codes "seen from: " ++ (source_words s ++ (codes ", before " ++ frame_at_words kind.Transfer state))
seen_line (seen.Later s) = codes "seen from: " ++ (source_words s ++ codes ", later in the section")
seen_line seen.Nobody = codes "seen from: nobody"

-- and that line, where it is told, and then these
abbrev pub seen_from : Option SeenFrom → List (List ℕ) → List (List ℕ)
seen_from None rest = rest
seen_from (Some from) rest = seen_line from ∷ rest

-- who saw what an entry left, before it in the certificate
abbrev pub seen_by_lines : Option Source → List (List ℕ)
seen_by_lines None = []
seen_by_lines (Some s) = (codes "seen by: " ++ (source_words s ++ codes ", before it in the certificate")) ∷ []

-- which entry it is: `entry: 0, write of row 1 (checking of ann)`
abbrev pub entry_line : WrongEntry → List ℕ
entry_line w =
    codes "entry: " ++ (decimal w.entry ++ (codes ", " ++ (kind_word w.kind ++ (codes " of " ++ told_row_words w.row))))

-- the first entry of a record that doesn't see what it must
abbrev pub chain_lines : ToldAttempt → ToldRequest → ℕ → WrongEntry → Option SeenFrom → List (List ℕ)
chain_lines a r at w from =
    record_at a r at (entry_line w ∷ (codes "saw: " ++ has_words w.saw)
    ∷ seen_from from ((codes "due: " ++ has_words w.due) ∷ (codes "left by: " ++ source_words w.left_by)
    ∷ seen_by_lines w.seen_by))
