-- How a batch came out otherwise, and what is wrong with a reply that was sent. docs/USING.md, "What `explain` prints".
use Rattle.std.specs.Prelude.{ℕ, ℤ, Bool, if◌then◌else◌, List, [], ◌∷◌, ◌++◌, codes, decimal, Option, Some, None}
use Rattle.std.specs.Fmt.{signed_decimal}
use Rattle.eve_grammar.specs.declared.frame_kind.FrameKind.TheVariants as kind
use Rattle.eve_lines.specs.Words.{reply_words}
use Rattle.eve_evidence.specs.declared.evidence.ToldAttempt.{ToldAttempt}
use Rattle.eve_evidence.specs.declared.evidence.ToldSent.{ToldSent}
use Rattle.eve_evidence.specs.declared.evidence.ToldTransfer.{ToldTransfer}
use Rattle.eve_evidence.specs.declared.evidence.GivenBy.{GivenBy}
use Rattle.eve_evidence.specs.declared.evidence.OutcomeFault.{OutcomeFault}
use Rattle.eve_evidence.specs.declared.evidence.OutcomeFault.TheVariants as outcome
use Rattle.eve_evidence.specs.declared.evidence.StateFault.{StateFault}
use Rattle.eve_evidence.specs.declared.evidence.StateFault.TheVariants as state
use Rattle.eve_evidence.specs.declared.evidence.SentFault.{SentFault}
use Rattle.eve_evidence.specs.declared.evidence.SentFault.TheVariants as sent
use Rattle.eve_reasons.specs.Words.{frame_at_words, told_request_words, told_row_words}
use Rattle.eve_reasons.specs.Shared.{attempt_line, transfer_line}

-- the replica that a batch is compared with, and its attempt
abbrev pub first_line : ℕ → ℕ → List ℕ
first_line first first_at =
    codes "first: replica " ++ (decimal first ++ (codes ", " ++ frame_at_words kind.Attempt first_at))

-- the amount of money that was found, and the one that was due
abbrev pub amount_lines : ℤ → ℤ → List (List ℕ)
amount_lines found due = (codes "found: " ++ signed_decimal found) ∷ (codes "due: " ++ signed_decimal due) ∷ []

-- how an outcome differs: the row or the request, what was found, and what was due
abbrev pub difference_lines : OutcomeFault → List (List ℕ)
difference_lines (outcome.Row row found due) = (codes "row: " ++ told_row_words row) ∷ amount_lines found due
difference_lines (outcome.Reply request found due) =
    (codes "reply: " ++ told_request_words request) ∷ (codes "found: " ++ reply_words found)
    ∷ (codes "due: " ++ reply_words due) ∷ []

-- an attempt, the first replica's, and how their outcomes differ
abbrev pub outcome_lines : ToldAttempt → ℕ → ℕ → OutcomeFault → List (List ℕ)
outcome_lines attempt first first_at wrong =
    attempt_line attempt ∷ first_line first first_at ∷ difference_lines wrong

-- how a state that was transferred differs from the one that was committed
abbrev pub state_lines : StateFault → List (List ℕ)
state_lines state.NoneCommitted = codes "first: none" ∷ []
state_lines (state.Row first first_at row found due) =
    first_line first first_at ∷ (codes "row: " ++ told_row_words row) ∷ amount_lines found due

-- a state that was transferred, and how it differs
abbrev pub state_fault_lines : ToldTransfer → StateFault → List (List ℕ)
state_fault_lines transfer wrong = transfer_line transfer ∷ state_lines wrong

-- a reply that was sent
abbrev pub sent_line : ToldSent → List ℕ
sent_line s =
    codes "sent: client " ++ (decimal s.client ++ (codes " number " ++ (decimal s.number ++ (codes ", replica "
    ++ (decimal s.replica ++ (codes ", batch " ++ (decimal s.batch ++ (codes ", " ++ reply_words s.reply))))))))

-- whether an attempt that gave a reply is open
abbrev pub open_words : Bool → List ℕ
open_words is_open = if is_open then codes ", open" else codes ", discarded"

-- which attempt gave the reply and wasn't committed
abbrev pub given_line : Option GivenBy → List ℕ
given_line None = codes "given by: nobody"
given_line (Some by) = codes "given by: " ++ (frame_at_words kind.Attempt by.at ++ open_words by.open)

-- what is wrong with it, and who gave it
abbrev pub sent_wrong_lines : ToldSent → Option GivenBy → SentFault → List (List ℕ)
sent_wrong_lines s given sent.NoRequest =
    (codes "found: no request " ++ (decimal s.client ++ (codes " " ++ (decimal s.number ++ (codes " in batch "
    ++ decimal s.batch))))) ∷ []
sent_wrong_lines s given sent.NotCommitted =
    (codes "found: batch " ++ (decimal s.batch ++ (codes " not committed by an attempt of replica "
    ++ decimal s.replica))) ∷ given_line given ∷ []
sent_wrong_lines s given (sent.Another request due) =
    (codes "request: " ++ told_request_words request) ∷ (codes "found: " ++ reply_words s.reply)
    ∷ (codes "due: " ++ reply_words due) ∷ given_line given ∷ []

-- a reply that was sent, what is wrong with it, and who gave it
abbrev pub sent_fault_lines : ToldSent → SentFault → Option GivenBy → List (List ℕ)
sent_fault_lines s wrong given = sent_line s ∷ sent_wrong_lines s given wrong
