-- Public: other crates cite these lemmas. The parts of a trace that bytes spell lie within their limits, and parts that
-- do are spelled.
use Rattle.std.proofs.Common.{ℕ, ◌≤◌, ◌^◌, List, [], ◌∷◌, ◌++◌, map, refl, subst, sym}
use Rattle.std.specs.Prelude.{IsTrue}
use Rattle.std.specs.List.{flat_map}
use Rattle.eve_grammar.specs.Trace.{Trace}
use Rattle.eve_grammar.specs.Frames.{Frame, OfCustomer, OfBatch, OfSent, End, start_place, next_place, frames_of}
use Rattle.eve_grammar.specs.Frames.{batches_of, sections_of, verifiers_of, section_frames, verifier_frames}
use Rattle.eve_grammar.specs.Spelling.{length_of, spelling}
use Rattle.eve_grammar.specs.Limits.{HasLimits, is_head}
use Rattle.eve_grammar.specs.FrameOrder.{after, Spells, Follow}
use Rattle.eve_grammar.proofs.Gatherings.{trace_of-frames_of}
use Rattle.eve_grammar.proofs.Rests.{limits_of-trace_of}
use Rattle.eve_grammar.proofs.Runs.{run_of_trace}
use Rattle.eve_grammar.specs.declared.head.Head.{Head}
use Rattle.eve_grammar.specs.declared.place.Place.{Place}

-- frames end where their last ones do
abbrev pub EndsAnywhere : List Frame → Type 0
EndsAnywhere fs = (p : Place) → IsTrue (after p fs).ended

ends_behind : (fs gs : List Frame) → EndsAnywhere gs → EndsAnywhere (fs ++ gs)
ends_behind [] gs ends p = ends p
ends_behind (f ∷ fs) gs ends p = ends_behind fs gs ends (next_place p f)

pub frames_end : (t : Trace) → EndsAnywhere (frames_of t)
unfolding frames_of
frames_end t =
    ends_behind (map OfCustomer t.customers) _ (ends_behind (map (λ b. OfBatch b.0 b.1) (batches_of t)) _
    (ends_behind (flat_map section_frames (sections_of t)) _
    (ends_behind (flat_map verifier_frames (verifiers_of t)) _
    (ends_behind (map OfSent t.sent) (End ∷ []) (λ p. refl)))))

pub limits_of_spelled : (bytes : List ℕ) (t : Trace) → Spells bytes t → HasLimits t
limits_of_spelled bytes t s =
    subst HasLimits (trace_of-frames_of t)
    (limits_of-trace_of t.head (frames_of t) s.head (record { follow = s.follow; ended = frames_end t start_place }))

pub spelled_within : (t : Trace) → HasLimits t → length_of t ≤ 2 ^ 30 → Spells (spelling t) t
spelled_within t limits short = record {
  head = subst (λ (h : Head). IsTrue (is_head h)) (sym limits.counts) limits.head;
  follow = subst (λ (h : Head). Follow h start_place (frames_of t)) (sym limits.counts)
      (run_of_trace t limits short).follow;
  short = short;
  spelled = refl;
}
