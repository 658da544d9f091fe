-- What stands before the sections, or after them, lies in none.
use Rattle.std.proofs.Common.{◌≡◌, ℕ, ◌+◌, ◌<◌, ◌≤◌, List, ◌∷◌, ◌++◌, length, subst, arith}
use Rattle.eve_grammar.specs.Trace.{Customer, Batch, Vote, Sent, Trace}
use Rattle.eve_grammar.specs.Frames.{OfCustomer, OfBatch, OfVote, OfSent}
use Rattle.eve_grammar.specs.Spelling.{frame_text, customer_text, batch_text, batches_start, sections_start}
use Rattle.eve_grammar.specs.Spelling.{section_start, verifiers_start, sent_start, length_of, customers_at, batches_at}
use Rattle.eve_grammar.specs.Spelling.{votes_at, sent_at}
use Rattle.eve_views.specs.inner.PartPlaces.{LiesBetween, StandInOrder}
use Rattle.eve_views.specs.declared.fault.Code.{Code}
use Rattle.eve_views.specs.declared.fault.Code.TheVariants as code
use Rattle.eve_history.specs.Order.{StandsInOrders}
use Rattle.eve_votes.specs.Faults.{StandsInVotes}
use Rattle.eve_agree.specs.SentReplies.{StandsInReplies}
use Rattle.eve_audit.proofs.Sections.{LiesIn}
use Rattle.eve_audit.proofs.SectionPlaces.{at_place, frame_has_text}

-- before the first section, or after the last
pub data IsOutside (t : Trace) (at : ℕ) : Type 0 where
  early : at < sections_start t → IsOutside t at
  late : verifiers_start t ≤ at → IsOutside t at

module _ (t : Trace) (parts : StandInOrder t) where
  pub in_none : (e at : ℕ) → IsOutside t at → LiesIn t e at → ⊥
  in_none e at (early lt) lies = let low : sections_start t ≤ section_start t e = omega arith in
      omega (arith, lies.0, lt, low)
  in_none e at (late le) lies = let last = parts.last_section (e + 1) in omega (arith, lies.1, le, last)

  customer_outside : (before : List (ℕ × Customer)) (c : ℕ × Customer) (rest : List (ℕ × Customer)) → customers_at t
      ≡ before ++ c ∷ rest → IsOutside t c.0
  customer_outside before c rest is =
      let within = at_place (λ x. LiesBetween 32 (batches_start t) x.0 (length (customer_text x.1)))
      (customers_at t) before c rest is parts.customers in
      let some = frame_has_text (OfCustomer c.1) in
      let behind : batches_start t ≤ sections_start t = omega arith in
      early (omega (arith, within.1, some, behind))

  batch_outside : (before : List (ℕ × (ℕ × Batch))) (b : ℕ × (ℕ × Batch)) (rest : List (ℕ × (ℕ × Batch))) → batches_at t
      ≡ before ++ b ∷ rest → IsOutside t b.0
  batch_outside before b rest is =
      let within = at_place (λ x. LiesBetween (batches_start t) (sections_start t) x.0 (length (batch_text x.1)))
      (batches_at t) before b rest is parts.batches in
      let some = frame_has_text (OfBatch b.1.0 b.1.1) in
      early (omega (arith, within.1, some))

  vote_outside : (v : ℕ) (before : List (ℕ × Vote)) (w : ℕ × Vote) (rest : List (ℕ × Vote)) → votes_at t v
      ≡ before ++ w ∷ rest → IsOutside t w.0
  vote_outside v before w rest is =
      late (at_place (λ x. LiesBetween (verifiers_start t) (sent_start t) x.0 (length (frame_text (OfVote x.1))))
      (votes_at t v) before w rest is (parts.votes v)).0

  sent_outside : (before : List (ℕ × Sent)) (s : ℕ × Sent) (rest : List (ℕ × Sent)) → sent_at t ≡ before ++ s ∷ rest
      → IsOutside t s.0
  sent_outside before s rest is =
      let within = at_place (λ x. LiesBetween (sent_start t) (length_of t) x.0 (length (frame_text (OfSent x.1))))
      (sent_at t) before s rest is parts.sent in
      let behind : verifiers_start t ≤ sent_start t = omega arith in
      late (omega (arith, within.0, behind))

  pub order_outside : (c : Code) (at : ℕ) → StandsInOrders c t at → IsOutside t at
  order_outside code.SameName at stands =
      subst (IsOutside t) stands.holds.0 (customer_outside stands.before stands.item stands.rest stands.is)
  order_outside code.SameRequest at stands =
      subst (IsOutside t) stands.holds.0 (batch_outside stands.before stands.item stands.rest stands.is)
  order_outside c at stands = absurd stands

  pub vote_fault_outside : (c : Code) (at : ℕ) → StandsInVotes c t at → IsOutside t at
  vote_fault_outside code.TwoVotes at stands = let place = stands.1 in subst (IsOutside t) place.holds.0
      (vote_outside stands.0 place.before place.item place.rest place.is)
  vote_fault_outside code.TwoDecisions at stands =
      subst (IsOutside t) stands.holds.0 (batch_outside stands.before stands.item stands.rest stands.is)
  vote_fault_outside c at stands = absurd stands

  pub reply_outside : (c : Code) (at : ℕ) → StandsInReplies c t at → IsOutside t at
  reply_outside code.Reply at stands =
      subst (IsOutside t) stands.holds.0 (sent_outside stands.before stands.item stands.rest stands.is)
  reply_outside c at stands = absurd stands
