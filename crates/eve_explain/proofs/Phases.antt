-- The phases of codes, and a fault of a trace by its phase.
use Rattle.std.proofs.Common.{◌≡◌, ℕ, ◌+◌, ◌<◌, ◌≤◌, Bool, true, false, length, refl, arith}
use Rattle.std.specs.Prelude.{◌/◌, if◌then◌else◌, nat_lt}
use Rattle.std.proofs.lemmas.Bool.{false≢true}
use Rattle.eve_grammar.specs.Trace.{Trace}
use Rattle.eve_views.specs.Code.{code_number, phase_of}
use Rattle.eve_views.specs.declared.fault.Code.{Code}
use Rattle.eve_views.specs.declared.fault.Code.TheVariants as code
use Rattle.eve_views.specs.declared.fault.Fault.{Fault}
use Rattle.eve_views.specs.Form.{IsFaultIn, IsFaultOutside, IsFaultSomewhere}
use Rattle.eve_history.specs.Order.{StandsInOrders}
use Rattle.eve_agree.specs.Restores.{StandsInRestores}
use Rattle.eve_agree.specs.DueTokens.{StandsInTokens}
use Rattle.eve_agree.specs.Majority.{StandsInMajorities}
use Rattle.eve_agree.specs.Agreement.{StandsInAgreement}
use Rattle.eve_agree.specs.SentReplies.{StandsInReplies}
use Rattle.eve_votes.specs.Faults.{StandsInVotes}
use Rattle.eve_audit.specs.Verdict.{IsOwnFault, of_structure, of_records, of_chains, of_restores, of_tokens}
use Rattle.eve_audit.specs.Verdict.{IsCommonFault, of_votes, of_majorities, of_agreement, of_replies}
use Rattle.eve_audit.specs.Verdict.{IsTraceFault, in_orders, in_section, in_common}
use Rattle.eve_audit.proofs.FirstFaults.{own_phase, common_phase}
use Rattle.eve_audit.proofs.Phases.{order_phase, structure_phase, record_phase, chain_phase, restore_phase, token_phase}
use Rattle.eve_audit.proofs.Phases.{vote_phase, majority_phase, outcome_phase, reply_phase}
use Rattle.eve_explain.specs.Explained.{is_of_majority, is_of_orders, is_told_along}

-- ---- the codes of one kind

pub orders_phase : (c : Code) → is_of_orders c ≡ true → phase_of c ≡ 2
orders_phase code.SameName told = refl
orders_phase code.SameRequest told = refl
orders_phase c told = absurd (false≢true told)

pub along_phase : (c : Code) → is_told_along c ≡ true → (3 ≤ phase_of c) × (phase_of c ≤ 5)
along_phase code.Attempt told = (omega arith, omega arith)
along_phase code.Certificate told = (omega arith, omega arith)
along_phase code.Access told = (omega arith, omega arith)
along_phase code.WorkerOrder told = (omega arith, omega arith)
along_phase code.Commit told = (omega arith, omega arith)
along_phase code.Rollback told = (omega arith, omega arith)
along_phase code.Transfer told = (omega arith, omega arith)
along_phase code.Record told = (omega arith, omega arith)
along_phase code.Version told = (omega arith, omega arith)
along_phase code.Value told = (omega arith, omega arith)
along_phase c told = absurd (false≢true told)

pub majority_code_phase : (c : Code) → is_of_majority c ≡ true → phase_of c ≡ 9
majority_code_phase code.NoMajority told = refl
majority_code_phase code.RollbackNoMajority told = refl
majority_code_phase code.TransferNoMajority told = refl
majority_code_phase c told = absurd (false≢true told)

-- ---- a fault of one phase

module _ (t : Trace) (f : Fault) where
  pub orders_in : IsTraceFault t f → phase_of f.code ≡ 2 → StandsInOrders f.code t f.offset
  orders_in (in_orders is) two = is.stands
  orders_in (in_section is) two = absurd (omega (arith, two, (own_phase t is.0 f is.2).0))
  orders_in (in_common is) two = absurd (omega (arith, two, common_phase t f is))

  pub own_in : IsTraceFault t f → 3 ≤ phase_of f.code → phase_of f.code ≤ 7
      → (e : ℕ) × (e < length t.sections) × IsOwnFault t e f
  own_in (in_orders is) low high = absurd (omega (arith, low, order_phase t f is))
  own_in (in_section is) low high = is
  own_in (in_common is) low high = absurd (omega (arith, high, common_phase t f is))

  pub restores_in : (e : ℕ) → IsOwnFault t e f → phase_of f.code ≡ 6 → IsFaultIn StandsInRestores t e f
  restores_in e (of_structure is) six = absurd (omega (arith, six, structure_phase t e f is))
  restores_in e (of_records is) six = absurd (omega (arith, six, record_phase t e f is))
  restores_in e (of_chains is) six = absurd (omega (arith, six, chain_phase t e f is))
  restores_in e (of_restores is) six = is
  restores_in e (of_tokens is) six = absurd (omega (arith, six, token_phase t e f is))

  pub tokens_in : (e : ℕ) → IsOwnFault t e f → phase_of f.code ≡ 7 → IsFaultIn StandsInTokens t e f
  tokens_in e (of_structure is) seven = absurd (omega (arith, seven, structure_phase t e f is))
  tokens_in e (of_records is) seven = absurd (omega (arith, seven, record_phase t e f is))
  tokens_in e (of_chains is) seven = absurd (omega (arith, seven, chain_phase t e f is))
  tokens_in e (of_restores is) seven = absurd (omega (arith, seven, restore_phase t e f is))
  tokens_in e (of_tokens is) seven = is

  common_in : IsTraceFault t f → 8 ≤ phase_of f.code → IsCommonFault t f
  common_in (in_orders is) late = absurd (omega (arith, late, order_phase t f is))
  common_in (in_section is) late = absurd (omega (arith, late, (own_phase t is.0 f is.2).1))
  common_in (in_common is) late = is

  votes_of : IsCommonFault t f → phase_of f.code ≡ 8 → IsFaultOutside StandsInVotes t f
  votes_of (of_votes is) eight = is
  votes_of (of_majorities is) eight = absurd (omega (arith, eight, majority_phase t f is))
  votes_of (of_agreement is) eight = absurd (omega (arith, eight, outcome_phase t f is))
  votes_of (of_replies is) eight = absurd (omega (arith, eight, reply_phase t f is))

  majorities_of : IsCommonFault t f → phase_of f.code ≡ 9 → IsFaultSomewhere StandsInMajorities t f
  majorities_of (of_votes is) nine = absurd (omega (arith, nine, vote_phase t f is))
  majorities_of (of_majorities is) nine = is
  majorities_of (of_agreement is) nine = absurd (omega (arith, nine, outcome_phase t f is))
  majorities_of (of_replies is) nine = absurd (omega (arith, nine, reply_phase t f is))

  agreement_of : IsCommonFault t f → phase_of f.code ≡ 10 → IsFaultSomewhere StandsInAgreement t f
  agreement_of (of_votes is) ten = absurd (omega (arith, ten, vote_phase t f is))
  agreement_of (of_majorities is) ten = absurd (omega (arith, ten, majority_phase t f is))
  agreement_of (of_agreement is) ten = is
  agreement_of (of_replies is) ten = absurd (omega (arith, ten, reply_phase t f is))

  replies_of : IsCommonFault t f → phase_of f.code ≡ 11 → IsFaultOutside StandsInReplies t f
  replies_of (of_votes is) eleven = absurd (omega (arith, eleven, vote_phase t f is))
  replies_of (of_majorities is) eleven = absurd (omega (arith, eleven, majority_phase t f is))
  replies_of (of_agreement is) eleven = absurd (omega (arith, eleven, outcome_phase t f is))
  replies_of (of_replies is) eleven = is

  pub votes_in : IsTraceFault t f → phase_of f.code ≡ 8 → StandsInVotes f.code t f.offset
  votes_in is eight = (votes_of (common_in is (omega (arith, eight))) eight).stands

  pub majorities_in : IsTraceFault t f → phase_of f.code ≡ 9 → IsFaultSomewhere StandsInMajorities t f
  majorities_in is nine = majorities_of (common_in is (omega (arith, nine))) nine

  pub agreement_in : IsTraceFault t f → phase_of f.code ≡ 10 → IsFaultSomewhere StandsInAgreement t f
  agreement_in is ten = agreement_of (common_in is (omega (arith, ten))) ten

  pub replies_in : IsTraceFault t f → phase_of f.code ≡ 11 → StandsInReplies f.code t f.offset
  replies_in is eleven = (replies_of (common_in is (omega (arith, eleven))) eleven).stands
