-- Public: other crates cite these lemmas. Frames that run are those of the trace that they make up.
use Rattle.std.proofs.Common.{◌≡◌, ℕ, ◌<◌, ◌⊎◌, true, false, List, [], ◌∷◌, length, refl, sym, inl, inr, subst, arith}
use Rattle.std.specs.Prelude.{IsTrue}
use Rattle.std.specs.List.{list_all}
use Rattle.std.proofs.lemmas.Bool.{both_ways}
use Rattle.std.proofs.lemmas.List.{nil_from_length}
use Rattle.eve_grammar.specs.Trace.{head_of}
use Rattle.eve_grammar.specs.Frames.{Frame, End, frames_of, kind_of, start_place, next_place, is_allowed}
use Rattle.eve_grammar.specs.Limits.{is_head, is_step, is_vote, is_sent, row_count, HasLimits, FitsAt}
use Rattle.eve_grammar.specs.FrameOrder.{Follow, after, AreAllFrames}
use Rattle.eve_grammar.specs.GatheredTraces.{Gathered, gather, gathered, trace_of}
use Rattle.eve_grammar.proofs.FramePlaces.{of_end, not_ended}
use Rattle.eve_grammar.proofs.Runs.{some_verifier}
use Rattle.eve_grammar.proofs.RestParts.{IsCounted, counted_more, HasAllReplicas, all_replicas_more, IsOwned}
use Rattle.eve_grammar.proofs.RestParts.{owned_more, IsWithin, within_more, AreOfVersion, of_version_more}
use Rattle.eve_grammar.proofs.RestFrames.{frames_from, frames_more}
use Rattle.eve_grammar.specs.declared.head.Head.{Head}
use Rattle.eve_grammar.specs.declared.place.Place.{Place}

-- ---- from a place to the end

-- these frames say what is gathered, which is as the place and the limits have it
record IsRest (h : Head) (p : Place) (fs : List Frame) (g : Gathered) : Type 0 where
  frames : frames_from p g ≡ fs
  counted : IsCounted h p g
  within : IsWithin h g
  kinds : AreOfVersion h g
  owned : IsOwned p g

rest_more : (f : Frame) (h : Head) (p : Place) (fs : List Frame) (g : Gathered) → 0 < h.verifiers
    → (next_place p f).ended
    ≡ false → HasAllReplicas h p → FitsAt h p f
    → IsRest h (next_place p f) fs g → IsRest h p (f ∷ fs) (gather f g)
rest_more f h p fs g some on all fits r = record {
  frames = frames_more f h p g fs some fits.allowed fits.body on all r.counted r.owned r.frames;
  counted = counted_more f h p g some fits.allowed r.counted;
  within = within_more f h p g fits.body r.counted r.within;
  kinds = of_version_more f h p g fits.allowed r.kinds;
  owned = owned_more f h p g fits.allowed r.owned;
}

-- no frame follows the end
rest_end : (h : Head) (p : Place) (fs : List Frame) → HasAllReplicas h p → IsTrue (is_allowed h p 127)
    → Follow h (next_place p End) fs → IsRest h p (End ∷ fs) (gathered (End ∷ fs))
rest_end h p [] all t follow =
    let at = of_end h p t in
    let replicas = all at.0.votes in
    record {
      frames = refl;
      counted = (omega arith, omega arith, omega arith, omega arith, omega arith);
      within = (refl, refl, refl, refl, refl, refl, refl, refl);
      kinds = (refl, refl);
      owned = (λ e. refl, λ e. refl, λ e. refl, λ e. refl);
    }
rest_end h p (f ∷ fs) all t follow =
    absurd (both_ways true (not_ended h (next_place p End) (kind_of f) follow.0.allowed) refl)

goes_on : (f : Frame) (p : Place) → p.ended ≡ false → (f ≡ End) ⊎ ((next_place p f).ended ≡ false)
goes_on End p e = inl refl
goes_on _ p e = inr e

rest_of : (fs : List Frame) (h : Head) (p : Place) → 0 < h.verifiers → p.ended ≡ false → HasAllReplicas h p
    → Follow h p fs → IsTrue (after p fs).ended → IsRest h p fs (gathered fs)
rest_of [] h p some e all follow ended = absurd (both_ways p.ended e ended)
rest_of (f ∷ fs) h p some e all follow ended =
    let t = follow.0.allowed in
    elim (goes_on f p e) [
      | inl last ↦ subst (λ (f : Frame). IsTrue (is_allowed h p (kind_of f)) → Follow h (next_place p f) fs
          → IsRest h p (f ∷ fs) (gather f (gathered fs))) (sym last) (rest_end h p fs all) t follow.1
      | inr more ↦ rest_more f h p fs (gathered fs) some more all follow.0
          (rest_of fs h (next_place p f) some more (all_replicas_more f h p some t all) follow.1 ended)
    ]

-- ---- the whole

rest_of_run : (h : Head) (fs : List Frame) → IsTrue (is_head h) → AreAllFrames h fs
    → IsRest h start_place fs (gathered fs)
rest_of_run h fs head run = rest_of fs h start_place (some_verifier h head) refl (λ v. absurd (omega arith)) run.follow
    run.ended

-- frames that run are those of the trace that they make up
pub frames_of-trace_of : (h : Head) (fs : List Frame) → IsTrue (is_head h) → AreAllFrames h fs
    → frames_of (trace_of h fs) ≡ fs
unfolding frames_of trace_of
frames_of-trace_of h fs head run =
    let r = rest_of_run h fs head run in
    let accesses = nil_from_length (gathered fs).accesses r.counted.2 in
    rw (accesses, r.owned.0 refl, r.owned.2 refl) at r.frames

abbrev counting : Head → ℕ → ℕ → ℕ → ℕ → Head
counting h replicas verifiers customers batches =
    record h { replicas = replicas; verifiers = verifiers; customers = customers; batches = batches }

same_head : (h : Head) (replicas verifiers customers batches : ℕ) → replicas ≡ h.replicas → verifiers ≡ h.verifiers
    → customers ≡ h.customers → batches ≡ h.batches
    → counting h replicas verifiers customers batches ≡ h
same_head h replicas verifiers customers batches r v c b = rw (r, v, c, b) refl

pub head_of-trace_of : (h : Head) (fs : List Frame) → IsTrue (is_head h) → AreAllFrames h fs → head_of (trace_of h fs)
    ≡ h
unfolding trace_of
head_of-trace_of h fs head run =
    let g = gathered fs in
    let n = (rest_of_run h fs head run).counted in
    same_head h (length g.sections) (length g.verifiers) (length g.customers) (length g.batches) (omega arith)
    (omega arith) (omega arith) (omega arith)

pub limits_of-trace_of : (h : Head) (fs : List Frame) → IsTrue (is_head h) → AreAllFrames h fs
    → HasLimits (trace_of h fs)
unfolding trace_of
limits_of-trace_of h fs head run =
    let g = gathered fs in
    let rest = rest_of_run h fs head run in
    let w = rest.within in
    let same = sym (head_of-trace_of h fs head run) in
    record {
      counts = same;
      head = subst (λ (k : Head). IsTrue (is_head k)) same head;
      customers = w.0;
      batches = w.1;
      sections = subst (λ (k : Head). IsTrue (list_all (list_all (is_step (row_count k))) g.sections)) same w.4;
      kinds = rest.kinds.1;
      votes = subst (λ (k : Head). IsTrue (list_all (list_all (is_vote k.batches)) g.verifiers)) same w.6;
      sent = subst (λ (k : Head). IsTrue (list_all (is_sent k.replicas k.batches) g.sent)) same w.7;
    }
