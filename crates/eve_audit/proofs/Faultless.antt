-- A trace without a fault is accepted.
use Rattle.std.proofs.Common.{◌≡◌, ℕ, ◌<◌, inl, inr, List, length}
use Rattle.std.proofs.lemmas.Bool.{cases_lt}
use Rattle.std.specs.Prelude.{AllPairs, ◌≢◌}
use Rattle.eve_smallbank.specs.SmallBank.{Request}
use Rattle.eve_smallbank.specs.Access.{Executed, Fits}
use Rattle.eve_smallbank.specs.Chain.{Table}
use Rattle.eve_smallbank.specs.inner.Seen.{as_seen}
use Rattle.eve_smallbank.specs.Execution.{executed_on}
use Rattle.eve_grammar.specs.Trace.{Trace}
use Rattle.eve_grammar.specs.Limits.{HasLimits}
use Rattle.eve_grammar.specs.FrameOrder.{Spells}
use Rattle.eve_views.specs.declared.fault.Code.TheVariants as code
use Rattle.eve_history.specs.SectionHistory.{names_of, IsRightSection}
use Rattle.eve_history.specs.Order.{StandsInOrders}
use Rattle.eve_history.specs.Structure.{StandsInStructure}
use Rattle.eve_votes.specs.Votes.{IsDecided}
use Rattle.eve_votes.specs.inner.VotedFor.{IsVotedFor}
use Rattle.eve_votes.specs.Faults.{AreVotesSound, StandsInVotes}
use Rattle.eve_chains.specs.Visible.{executed_by}
use Rattle.eve_chains.specs.Committed.{batch_request_ids}
use Rattle.eve_chains.specs.Sound.{OfSettledAccesses, RecordsFit, EntriesSee, SettledAreSound}
use Rattle.eve_chains.specs.Faults.{HasNoFault}
use Rattle.eve_audit.specs.Accepted.{IsAccepted}
use Rattle.eve_audit.specs.Audited.{IsAudited}
use Rattle.eve_audit.specs.declared.verdict.Summary.{Summary}
use Rattle.eve_audit.specs.declared.verdict.Verdict.TheVariants.{Yes}
use Rattle.eve_audit.specs.Verdict.{Stands, IsVerdict, SpellsAudited, IsOwnFault, of_structure, of_records, of_chains}
use Rattle.eve_audit.specs.Verdict.{of_restores, of_tokens, IsTraceFault, of_votes, of_majorities, of_agreement}
use Rattle.eve_audit.specs.Verdict.{of_replies, in_orders, in_section, in_common}
use Rattle.eve_views.specs.Form.{HasNone, IsFaultIn, IsFaultOutside, IsFaultSomewhere}
use Rattle.eve_agree.specs.Majority.{AllAreBacked, StandsInMajorities}
use Rattle.eve_audit.specs.Reports.{IsSoundReplica, IsSoundTogether}
use Rattle.eve_audit.proofs.Accepted.{no_request_again, accepted_of}
use Rattle.eve_audit.proofs.KeptReplicas.{sound_beyond}
use Rattle.eve_audit.proofs.Verdicts.{stands_in_bytes}
use Rattle.eve_audit.proofs.FittingRecords.{fits_decided}
use Rattle.eve_audit.proofs.ReplicasWithoutFaults.{records_fit, right_restores, due_tokens}
use Rattle.eve_audit.proofs.TraceWithoutFaults.{all_backed, all_agree, all_replied}

-- what the laws of the crates below say where faults don't stand
pub record Laws : Type 0 where
  pub fit : (names : List (List ℕ)) (table : Table) (request : Request) → Fits names (executed_on names table request)
  pub only : (names : List (List ℕ)) (x : Executed) → Fits names x
      → x ≡ executed_on names (as_seen x.entries) x.request
  pub apart : (t : Trace) → ((at : ℕ) → ¬ StandsInOrders code.SameRequest t at)
      → AllPairs (λ a b. a ≢ b) (batch_request_ids t)
  pub see : (t : Trace) (e : ℕ) → HasNoFault t e → EntriesSee t e
  pub refuted : (t : Trace) (e : ℕ) → HasNoFault t e
      → OfSettledAccesses t e (λ p x. ¬ ¬ Fits (names_of t) (executed_by t p.attempt x))
  pub sound : (t : Trace) (e : ℕ) → HasLimits t → IsRightSection t e → RecordsFit t e → EntriesSee t e
      → SettledAreSound t e
  pub right : (t : Trace) (e : ℕ) → HasNone (IsFaultIn StandsInStructure t e) → IsRightSection t e
  pub votes : (t : Trace) → HasLimits t → HasNone (IsFaultOutside StandsInVotes t) → AreVotesSound t
  pub voted : (t : Trace) (n view : ℕ) (token : List ℕ) → HasLimits t → IsDecided t n view token
      → IsVotedFor t n view token

module _ (laws : Laws) (t : Trace) (limits : HasLimits t) where
  -- a replica without a fault of its own
  own_sound : (e : ℕ) → HasNone (IsOwnFault t e) → IsSoundReplica t e
  own_sound e none =
      let right = laws.right t e (λ f is. none f (of_structure is)) in
      let attempts : HasNoFault t e =
      record { records = λ f is. none f (of_records is); chains = λ f is. none f (of_chains is) } in
      record {
        right = right;
        sound = laws.sound t e limits right
            (records_fit t e (fits_decided laws.fit laws.only) (laws.refuted t e attempts)) (laws.see t e attempts);
        restores = right_restores t e (λ f is. none f (of_restores is));
        tokens = due_tokens t e (λ f is. none f (of_tokens is));
      }

  -- so all replicas, where none has one
  pub all_sound : ((e : ℕ) → e < length t.sections → HasNone (IsOwnFault t e)) → (e : ℕ) → IsSoundReplica t e
  all_sound none e = elim (cases_lt e (length t.sections)) [
    | inl lt ↦ own_sound e (none e lt)
    | inr le ↦ sound_beyond t e le
  ]

  pub votes_hold : HasNone (IsFaultOutside StandsInVotes t) → AreVotesSound t
  votes_hold none = laws.votes t limits none

  pub steps_backed : HasNone (IsFaultSomewhere StandsInMajorities t) → AllAreBacked t
  steps_backed none = all_backed t (λ n view token. laws.voted t n view token limits) none

  module _ (none : HasNone (IsTraceFault t)) where
    together : IsSoundTogether t
    together = record {
      votes = votes_hold (λ f is. none f (in_common (of_votes is)));
      backed = steps_backed (λ f is. none f (in_common (of_majorities is)));
      agree = all_agree t (λ f is. none f (in_common (of_agreement is)));
      replied = all_replied t (λ f is. none f (in_common (of_replies is)));
    }

    pub unfaulted_accepted : IsAccepted t
    unfaulted_accepted = accepted_of t limits (laws.apart t (no_request_again t (λ f is. none f (in_orders is))))
        (all_sound (λ e lt f is. none f (in_section (e, lt, is)))) together

-- where nothing stands in the bytes, nothing does in the trace
pub faultless_trace : (bytes : List ℕ) (t : Trace) → ((u : Trace) → Spells bytes u → u ≡ t) → Spells bytes t
    → HasNone (Stands bytes) → HasNone (IsTraceFault t)
faultless_trace bytes t once spells none f is = none f (stands_in_bytes bytes t spells once f is)

-- a yes is said of such bytes alone
pub yes_audited : Laws → ((bytes : List ℕ) (t : Trace) → Spells bytes t → HasLimits t)
    → ((t : Trace) → IsAccepted t → IsAudited t)
    → ((bytes : List ℕ) (t u : Trace) → Spells bytes t → Spells bytes u → t ≡ u) → (bytes : List ℕ) (s : Summary)
    → IsVerdict bytes (Yes s) → SpellsAudited bytes
yes_audited laws limits audited once bytes s is =
    let t : Trace = is.0 in
    let spells : Spells bytes t = is.1 in (
      t,
      spells,
      audited t (unfaulted_accepted laws t (limits bytes t spells)
          (faultless_trace bytes t (λ u other. once bytes u t other spells) spells is.2)),
    )
