-- Requests of a batch, gone through for a client and a number.
use Rattle.std.proofs.Common.{◌≡◌, ◌≢◌, ℕ, zero, suc, ◌+◌, ◌-◌, ◌<◌, ◌≤◌, true, List, [], ◌∷◌}
use Rattle.std.proofs.Common.{length}
use Rattle.std.proofs.Common.{take, drop, slice_get, Some, refl, sym, ap, subst, ◌∙◌, arith}
use Rattle.std.specs.Option.{option_map}
use Rattle.std.proofs.lemmas.Option.{get_or_from_slice_get, slice_get_within}
use Rattle.eve_grammar.specs.declared.limits.TheConstants.{MOST_REQUESTS}
use Rattle.eve_grammar.specs.Trace.{Asked, Batch, RequestId, Sent, Trace, request_id, no_request}
use Rattle.eve_grammar.specs.Bodies.{borrowed_asked}
use Rattle.eve_grammar.specs.Frames.{OfSent}
use Rattle.eve_grammar.specs.Spelling.{frame_text, batches_at, sent_at, sent_start}
use Rattle.eve_grammar.specs.Limits.{is_batch, HasLimits}
use Rattle.eve_grammar.proofs.Lists.{all-slice_get, drop_here, same_first, same_others}
use Rattle.eve_views.specs.Form.{SomePlace}
use Rattle.eve_views.proofs.FrameOffsets.{located_get}
use Rattle.eve_votes.proofs.Places.{get_place}
use Rattle.eve_history.specs.Section.{batch_at}
use Rattle.eve_history.proofs.Lookups.{named_batch}
use Rattle.eve_evidence.specs.declared.evidence.ToldRequest.{ToldRequest}
use Rattle.eve_evidence.specs.Told.{IsToldRequest}
use Rattle.eve_evidence.proofs.Lists.{all_more}
use Rattle.eve_evidence_outcomes.specs.Sent.{NoneHas, HasAt, IsFoundRequest}
use Rattle.eve_evidence_outcomes.proofs.DecidedViews.{all_true, batch_there}

-- ---- one after another

-- those before this index have another client or number, and these are still to come
pub record IsLooking (id : RequestId) (own rest : List Asked) (index : ℕ) : Type 0 where
  pub left : drop index own ≡ rest
  pub none : NoneHas id (take index own)
  pub few : index + length rest ≤ MOST_REQUESTS

item_here : (xs : List Asked) (i : ℕ) (x : Asked) (rest : List Asked) → drop i xs ≡ x ∷ rest → slice_get xs i ≡ Some x
item_here [] zero x rest e = absurd cc
item_here [] (suc i) x rest e = absurd cc
item_here (y ∷ xs) zero x rest e = ap Some (same_first y x xs rest e)
item_here (y ∷ xs) (suc i) x rest e = item_here xs i x rest e

module _ (id : RequestId) (own : List Asked) (i : ℕ) where
  pub looking_found : (x : Asked) (rest : List Asked) → IsLooking id own (x ∷ rest) i → slice_get own i ≡ Some x
  looking_found x rest looking = item_here own i x rest looking.left

  pub looking_more : (x : Asked) (rest : List Asked) → IsLooking id own (x ∷ rest) i → request_id x ≢ id
      → IsLooking id own rest (i + 1)
  looking_more x rest looking other =
      let here = item_here own i x rest looking.left in
      record {
        left = same_others x x (drop (i + 1) own) rest (sym (drop_here own i x here) ∙ looking.left);
        none = all_more (λ (r : Asked). request_id r ≢ id) own i x here looking.none other;
        few = omega (arith, looking.few);
      }

-- ---- of a batch of the trace

-- it is within the limits
pub batch_right : (t : Trace) (i : ℕ) (b : ℕ × (ℕ × Batch)) → HasLimits t → slice_get (batches_at t) i ≡ Some b
    → is_batch b.1.1 ≡ true
batch_right t i b limits got =
    all-slice_get (λ (x : Batch). is_batch x ≡ true) t.batches i b.1.1 (all_true is_batch t.batches limits.batches)
    (batch_there t i b got)

module _ (t : Trace) (n seq : ℕ) (b : ℕ × (ℕ × Batch)) (is : seq ≡ n)
    (got : slice_get (batches_at t) (seq - 1) ≡ Some b) where
  batch_is : batch_at t n ≡ b.1.1
  batch_is = named_batch t n seq b is got

  pub none_there : (id : RequestId) → NoneHas id b.1.1.requests → NoneHas id (batch_at t n).requests
  none_there id none = subst (λ (c : Batch). NoneHas id c.requests) (sym batch_is) none

  module _ (id : RequestId) (r : ToldRequest) (found : IsFoundRequest id b.1.1.requests r) where
    there : slice_get (batch_at t n).requests r.index ≡ Some (borrowed_asked r.asked)
    there = ap (λ (c : Batch). slice_get c.requests r.index) batch_is ∙ found.there

    pub has_there : HasAt id (batch_at t n).requests r.index
    has_there = ap (option_map request_id) there ∙ ap Some found.has

    pub told_there : r.batch ≡ seq → IsToldRequest t n r.index r
    told_there same = record {
      index_is = refl;
      batch_is = same ∙ is;
      asked_is = sym (get_or_from_slice_get (batch_at t n).requests r.index (borrowed_asked r.asked) no_request there);
    }

-- ---- replies sent

sent_there : (t : Trace) (i : ℕ) (s : ℕ × Sent) → slice_get (sent_at t) i ≡ Some s → slice_get t.sent i ≡ Some s.1
unfolding sent_at
sent_there t i s e = located_get (λ x. frame_text (OfSent x)) (sent_start t) t.sent i s e

-- the reply that stands there is one of them
pub sent_stands : (t : Trace) (P : List (ℕ × Sent) → ℕ × Sent → Type 0) → (place : SomePlace (sent_at t) P)
    → length place.before < length t.sent
sent_stands t P place =
    slice_get_within t.sent (length place.before) place.item.1
    (sent_there t (length place.before) place.item (get_place (sent_at t) place))
