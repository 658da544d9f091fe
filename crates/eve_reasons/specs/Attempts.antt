-- What is wrong with an attempt, its certificate, or where its records stand. docs/USING.md, "What `explain` prints".
use Rattle.std.specs.Prelude.{ℕ, Bool, if◌then◌else◌, List, [], ◌∷◌, ◌++◌, codes, decimal}
use Rattle.eve_grammar.specs.declared.frame_kind.FrameKind.TheVariants as kind
use Rattle.eve_lines.specs.Words.{mode_words}
use Rattle.eve_evidence.specs.declared.evidence.AccessFault.{AccessFault}
use Rattle.eve_evidence.specs.declared.evidence.AccessFault.TheVariants as access
use Rattle.eve_evidence.specs.declared.evidence.AttemptFault.{AttemptFault}
use Rattle.eve_evidence.specs.declared.evidence.AttemptFault.TheVariants as attempt
use Rattle.eve_evidence.specs.declared.evidence.CertificateFault.{CertificateFault}
use Rattle.eve_evidence.specs.declared.evidence.CertificateFault.TheVariants as certificate
use Rattle.eve_evidence.specs.declared.evidence.Numbers.{Numbers}
use Rattle.eve_evidence.specs.declared.evidence.ToldAttempt.{ToldAttempt}
use Rattle.eve_reasons.specs.Shared.{attempt_line, access_line, numbers_lines}
use Rattle.eve_reasons.specs.Words.{frame_at_words}

-- its number, view, requests or mode
abbrev pub attempt_fault_lines : AttemptFault → List (List ℕ)
attempt_fault_lines (attempt.Number is) = numbers_lines (codes "number") is (codes "due: ")
attempt_fault_lines (attempt.PastBatches is) = numbers_lines (codes "number") is (codes "due: at most ")
attempt_fault_lines (attempt.PastWindow is) = numbers_lines (codes "number") is (codes "due: at most ")
attempt_fault_lines (attempt.View is) = numbers_lines (codes "view") is (codes "due: ")
attempt_fault_lines (attempt.Requests is) = numbers_lines (codes "requests") is (codes "due: ")
attempt_fault_lines (attempt.Mode found due) =
    codes "field: mode" ∷ (codes "found: " ++ mode_words found) ∷ (codes "due: " ++ mode_words due) ∷ []

-- which index stands where in its certificate
abbrev pub index_line : CertificateFault → List ℕ
index_line (certificate.NoRequest index place requests) =
    codes "found: index " ++ (decimal index ++ (codes " at place " ++ decimal place))
index_line (certificate.Again index place first) =
    codes "found: index " ++ (decimal index ++ (codes " at places " ++ (decimal first ++ (codes " and "
    ++ decimal place))))
index_line (certificate.OutOfOrder index place) =
    codes "found: index " ++ (decimal index ++ (codes " at place " ++ decimal place))
index_line (certificate.BeforeGroup index place before) =
    codes "found: index " ++ (decimal index ++ (codes " at place " ++ (decimal place ++ (codes " before index "
    ++ decimal before))))

-- what was due there
abbrev pub due_index_line : CertificateFault → List ℕ
due_index_line (certificate.NoRequest index place requests) = codes "due: below " ++ decimal requests
due_index_line (certificate.Again index place first) = codes "due: each index once"
due_index_line (certificate.OutOfOrder index place) = codes "due: index " ++ (decimal place ++ codes ", in serial mode")
due_index_line (certificate.BeforeGroup index place before) = codes "due: parallelBatch after parallelBatch"

abbrev pub certificate_lines : ToldAttempt → CertificateFault → List (List ℕ)
certificate_lines a wrong = attempt_line a ∷ index_line wrong ∷ due_index_line wrong ∷ []

-- a worker that isn't there: in serial mode there is worker 0 alone
abbrev pub worker_lines : Bool → Numbers → List (List ℕ)
worker_lines serial is =
    if serial then codes "field: worker" ∷ (codes "found: " ++ decimal is.found) ∷ codes "due: 0" ∷ []
    else numbers_lines (codes "worker") is (codes "due: below ")

-- the worker or the index of a record
abbrev pub access_fault_lines : Bool → AccessFault → List (List ℕ)
access_fault_lines serial (access.Worker is) = worker_lines serial is
access_fault_lines serial (access.Index is) = numbers_lines (codes "index") is (codes "due: below ")
access_fault_lines serial (access.Again index first) =
    codes "field: index" ∷ (codes "found: " ++ decimal index) ∷ codes "due: once"
    ∷ (codes "first: " ++ frame_at_words kind.Access first) ∷ []

abbrev pub access_lines : ToldAttempt → ℕ → AccessFault → List (List ℕ)
access_lines a at wrong = attempt_line a ∷ access_line at ∷ access_fault_lines a.serial wrong

-- a record that isn't its worker's next
abbrev pub worker_order_lines : ToldAttempt → ℕ → Numbers → List (List ℕ)
worker_order_lines a at place =
    attempt_line a ∷ access_line at ∷ numbers_lines (codes "place") place (codes "due: ")
