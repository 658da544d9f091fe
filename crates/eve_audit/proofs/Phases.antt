-- Public: other crates cite these lemmas. The phase of each kind of fault.
use Rattle.std.proofs.Common.{◌≡◌, ℕ, List, refl}
use Rattle.eve_grammar.specs.Trace.{Trace}
use Rattle.eve_views.specs.Code.{phase_of}
use Rattle.eve_views.specs.Form.{StandsInForm, IsFaultSomewhere, IsFaultOutside, IsFaultIn}
use Rattle.eve_views.specs.declared.fault.Code.{Code}
use Rattle.eve_views.specs.declared.fault.Code.TheVariants as code
use Rattle.eve_views.specs.declared.fault.Fault.{Fault}
use Rattle.eve_history.specs.Order.{StandsInOrders}
use Rattle.eve_history.specs.Structure.{StandsInStructure}
use Rattle.eve_chains.specs.Faults.{StandsInRecords, StandsInChains}
use Rattle.eve_agree.specs.Restores.{StandsInRestores}
use Rattle.eve_agree.specs.DueTokens.{StandsInTokens}
use Rattle.eve_votes.specs.Faults.{StandsInVotes}
use Rattle.eve_agree.specs.Majority.{StandsInMajorities}
use Rattle.eve_agree.specs.Agreement.{StandsInAgreement}
use Rattle.eve_agree.specs.SentReplies.{StandsInReplies}

pub form_phase : (bytes : List ℕ) (f : Fault) → IsFaultOutside StandsInForm bytes f → phase_of f.code ≡ 1
form_phase bytes f is = by f.code is.stands
  where
    by : (c : Code) → StandsInForm c bytes f.offset → phase_of c ≡ 1
    by code.Length stands = refl
    by code.Magic stands = refl
    by code.Head stands = refl
    by code.Frame stands = refl
    by code.Body stands = refl
    by c stands = absurd stands

pub order_phase : (t : Trace) (f : Fault) → IsFaultOutside StandsInOrders t f → phase_of f.code ≡ 2
order_phase t f is = by f.code is.stands
  where
    by : (c : Code) → StandsInOrders c t f.offset → phase_of c ≡ 2
    by code.SameName stands = refl
    by code.SameRequest stands = refl
    by c stands = absurd stands

pub structure_phase : (t : Trace) (e : ℕ) (f : Fault) → IsFaultIn StandsInStructure t e f → phase_of f.code ≡ 3
structure_phase t e f is = by f.code is.stands
  where
    by : (c : Code) → StandsInStructure c t e f.offset → phase_of c ≡ 3
    by code.Attempt stands = refl
    by code.Certificate stands = refl
    by code.Access stands = refl
    by code.WorkerOrder stands = refl
    by code.Commit stands = refl
    by code.Rollback stands = refl
    by code.Transfer stands = refl
    by c stands = absurd stands

pub record_phase : (t : Trace) (e : ℕ) (f : Fault) → IsFaultIn StandsInRecords t e f → phase_of f.code ≡ 4
record_phase t e f is = by f.code is.stands
  where
    by : (c : Code) → StandsInRecords c t e f.offset → phase_of c ≡ 4
    by code.Record stands = refl
    by c stands = absurd stands

pub chain_phase : (t : Trace) (e : ℕ) (f : Fault) → IsFaultIn StandsInChains t e f → phase_of f.code ≡ 5
chain_phase t e f is = by f.code is.stands
  where
    by : (c : Code) → StandsInChains c t e f.offset → phase_of c ≡ 5
    by code.Version stands = refl
    by code.Value stands = refl
    by c stands = absurd stands

pub restore_phase : (t : Trace) (e : ℕ) (f : Fault) → IsFaultIn StandsInRestores t e f → phase_of f.code ≡ 6
restore_phase t e f is = by f.code is.stands
  where
    by : (c : Code) → StandsInRestores c t e f.offset → phase_of c ≡ 6
    by code.Restore stands = refl
    by c stands = absurd stands

pub token_phase : (t : Trace) (e : ℕ) (f : Fault) → IsFaultIn StandsInTokens t e f → phase_of f.code ≡ 7
token_phase t e f is = by f.code is.stands
  where
    by : (c : Code) → StandsInTokens c t e f.offset → phase_of c ≡ 7
    by code.Token stands = refl
    by c stands = absurd stands

pub vote_phase : (t : Trace) (f : Fault) → IsFaultOutside StandsInVotes t f → phase_of f.code ≡ 8
vote_phase t f is = by f.code is.stands
  where
    by : (c : Code) → StandsInVotes c t f.offset → phase_of c ≡ 8
    by code.TwoVotes stands = refl
    by code.TwoDecisions stands = refl
    by c stands = absurd stands

pub majority_phase : (t : Trace) (f : Fault) → IsFaultSomewhere StandsInMajorities t f → phase_of f.code ≡ 9
majority_phase t f is = by f.code is.1.stands
  where
    by : (c : Code) → StandsInMajorities c t is.0 f.offset → phase_of c ≡ 9
    by code.NoMajority stands = refl
    by code.RollbackNoMajority stands = refl
    by code.TransferNoMajority stands = refl
    by c stands = absurd stands

pub outcome_phase : (t : Trace) (f : Fault) → IsFaultSomewhere StandsInAgreement t f → phase_of f.code ≡ 10
outcome_phase t f is = by f.code is.1.stands
  where
    by : (c : Code) → StandsInAgreement c t is.0 f.offset → phase_of c ≡ 10
    by code.Outcome stands = refl
    by code.TransferBalances stands = refl
    by c stands = absurd stands

pub reply_phase : (t : Trace) (f : Fault) → IsFaultOutside StandsInReplies t f → phase_of f.code ≡ 11
reply_phase t f is = by f.code is.stands
  where
    by : (c : Code) → StandsInReplies c t f.offset → phase_of c ≡ 11
    by code.Reply stands = refl
    by c stands = absurd stands
