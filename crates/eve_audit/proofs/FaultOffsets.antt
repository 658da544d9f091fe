-- Faults stand within the trace.
use Rattle.std.proofs.Common.{◌≡◌, ℕ, ◌+◌, ◌≤◌, List, ◌∷◌, ◌++◌, length, subst, arith}
use Rattle.eve_grammar.specs.Trace.{Batch, Vote, Sent, Trace}
use Rattle.eve_grammar.specs.Frames.{OfVote, OfSent}
use Rattle.eve_grammar.specs.Spelling.{frame_text, batch_text, batches_start, sections_start, verifiers_start}
use Rattle.eve_grammar.specs.Spelling.{sent_start, batches_at, votes_at, sent_at, length_of}
use Rattle.eve_grammar.specs.FrameOrder.{Spells}
use Rattle.eve_views.specs.inner.PartPlaces.{LiesBetween}
use Rattle.eve_views.specs.declared.fault.Code.{Code}
use Rattle.eve_views.specs.declared.fault.Code.TheVariants as code
use Rattle.eve_views.specs.declared.fault.Fault.{Fault}
use Rattle.eve_votes.specs.Faults.{StandsInVotes}
use Rattle.eve_agree.specs.SentReplies.{StandsInReplies}
use Rattle.eve_views.specs.Form.{StandsInForm, IsFaultOutside}
use Rattle.eve_audit.specs.Verdict.{Stands, in_form, in_trace, IsOwnFault, of_structure, of_records, of_chains}
use Rattle.eve_audit.specs.Verdict.{of_restores, of_tokens, IsTraceFault, of_votes, of_majorities, of_agreement}
use Rattle.eve_audit.specs.Verdict.{of_replies, in_orders, in_section, in_common}
use Rattle.eve_audit.proofs.Sections.{LiesIn, IsLaidOut}
use Rattle.eve_audit.proofs.SectionPlaces.{at_place}
use Rattle.eve_audit.proofs.FaultPlaces.{structure_lies, record_lies, chain_lies, restore_lies, token_lies}
use Rattle.eve_audit.proofs.FaultPlaces.{majority_lies}
use Rattle.eve_audit.proofs.FaultPlaces.{outcome_lies}
use Rattle.eve_history.specs.Order.{StandsInOrders}

module _ (t : Trace) (laid : IsLaidOut t) where
  section_within : (e at : ℕ) → LiesIn t e at → at ≤ length_of t
  section_within e at lies =
      let last = laid.parts.last_section (e + 1) in
      let behind : verifiers_start t ≤ sent_start t = omega arith in
      let end = laid.parts.end in
      omega (arith, lies.1, last, behind, end)

  batch_within : (before : List (ℕ × (ℕ × Batch))) (b : ℕ × (ℕ × Batch)) (rest : List (ℕ × (ℕ × Batch))) → batches_at t
      ≡ before ++ b ∷ rest → b.0 ≤ length_of t
  batch_within before b rest is =
      let within = at_place (λ x. LiesBetween (batches_start t) (sections_start t) x.0 (length (batch_text x.1)))
      (batches_at t) before b rest is laid.parts.batches in
      let behind : sections_start t ≤ sent_start t = omega arith in
      let end = laid.parts.end in
      omega (arith, within.1, behind, end)

  sent_within : (before : List (ℕ × Sent)) (s : ℕ × Sent) (rest : List (ℕ × Sent)) → sent_at t ≡ before ++ s ∷ rest
      → s.0 ≤ length_of t
  sent_within before s rest is =
      let within = at_place (λ x. LiesBetween (sent_start t) (length_of t) x.0 (length (frame_text (OfSent x.1))))
      (sent_at t) before s rest is laid.parts.sent in
      omega (arith, within.1)

  vote_within : (v : ℕ) (before : List (ℕ × Vote)) (w : ℕ × Vote) (rest : List (ℕ × Vote)) → votes_at t v
      ≡ before ++ w ∷ rest → w.0 ≤ length_of t
  vote_within v before w rest is =
      let within = at_place
      (λ x. LiesBetween (verifiers_start t) (sent_start t) x.0 (length (frame_text (OfVote x.1))))
      (votes_at t v) before w rest is (laid.parts.votes v) in
      let end = laid.parts.end in
      omega (arith, within.1, end)

  vote_fault_within : (c : Code) (at : ℕ) → StandsInVotes c t at → at ≤ length_of t
  vote_fault_within code.TwoVotes at stands = let place = stands.1 in subst (λ (x : ℕ). x ≤ length_of t) place.holds.0
      (vote_within stands.0 place.before place.item place.rest place.is)
  vote_fault_within code.TwoDecisions at stands = subst (λ (x : ℕ). x ≤ length_of t) stands.holds.0
      (batch_within stands.before stands.item stands.rest stands.is)
  vote_fault_within c at stands = absurd stands

  reply_fault_within : (c : Code) (at : ℕ) → StandsInReplies c t at → at ≤ length_of t
  reply_fault_within code.Reply at stands = subst (λ (x : ℕ). x ≤ length_of t) stands.holds.0
      (sent_within stands.before stands.item stands.rest stands.is)
  reply_fault_within c at stands = absurd stands

  module _ (orders : (f : Fault) → IsFaultOutside StandsInOrders t f → f.offset ≤ length_of t) where
    own_fault_within : (e : ℕ) (f : Fault) → IsOwnFault t e f → f.offset ≤ length_of t
    own_fault_within e f (of_structure is) =
        section_within e f.offset (structure_lies t laid e f.code f.offset is.stands)
    own_fault_within e f (of_records is) =
        section_within e f.offset (record_lies t laid e f.code f.offset is.stands)
    own_fault_within e f (of_chains is) =
        section_within e f.offset (chain_lies t laid e f.code f.offset is.stands)
    own_fault_within e f (of_restores is) = section_within e f.offset (restore_lies t laid e f.code f.offset is.stands)
    own_fault_within e f (of_tokens is) =
        section_within e f.offset (token_lies t laid e f.code f.offset is.stands)

    pub trace_fault_within : (f : Fault) → IsTraceFault t f → f.offset ≤ length_of t
    trace_fault_within f (in_orders is) = orders f is
    trace_fault_within f (in_section below) = own_fault_within below.0 f below.2
    trace_fault_within f (in_common (of_votes is)) = vote_fault_within f.code f.offset is.stands
    trace_fault_within f (in_common (of_majorities is)) =
        section_within is.0 f.offset (majority_lies t laid is.0 f.code f.offset is.1.stands)
    trace_fault_within f (in_common (of_agreement is)) =
        section_within is.0 f.offset (outcome_lies t laid is.0 f.code f.offset is.1.stands)
    trace_fault_within f (in_common (of_replies is)) = reply_fault_within f.code f.offset is.stands

form_within : (bytes : List ℕ) (c : Code) (at : ℕ) → StandsInForm c bytes at → at ≤ length bytes
form_within bytes code.Length at stands = let is = stands.0 in omega arith
form_within bytes code.Magic at stands = let is = stands.0 in omega arith
form_within bytes code.Head at stands = let is = stands.0 in omega arith
form_within bytes code.Frame at stands = stands.0.within
form_within bytes code.Body at stands = stands.0.within
form_within bytes c at stands = absurd stands

module _ (long : (bytes : List ℕ) (t : Trace) → Spells bytes t → length bytes ≡ length_of t)
    (orders : (t : Trace) (f : Fault) → IsFaultOutside StandsInOrders t f → f.offset ≤ length_of t)
    (laid : (t : Trace) → IsLaidOut t) where
  of_trace : (bytes : List ℕ) (f : Fault) (t : Trace) → Spells bytes t → IsTraceFault t f → f.offset ≤ length bytes
  of_trace bytes f t spells is = let within = trace_fault_within t (laid t) (orders t) f is in let same =
      long bytes t spells in omega (arith, within, same)

  -- a fault of any phase
  pub stands_within : (bytes : List ℕ) (f : Fault) → Stands bytes f → f.offset ≤ length bytes
  stands_within bytes f (in_form is) = form_within bytes f.code f.offset is.stands
  stands_within bytes f (in_trace t spells is) = of_trace bytes f t spells is
