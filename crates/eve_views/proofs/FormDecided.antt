-- Bytes have a first fault of form, or they spell a trace.
use Rattle.std.proofs.Common.{◌≡◌, ℕ, zero, suc, true, false, ◌+◌, ◌^◌, ◌<◌, ◌≤◌, ◌⊎◌, inl, inr, Result, Ok, Err}
use Rattle.std.proofs.Common.{Option, Some, None, List, [], ◌∷◌, ◌++◌, length, drop, refl, sym, ap, subst, ◌∙◌, arith}
use Rattle.std.specs.Prelude.{IsTrue}
use Rattle.std.proofs.lemmas.Bool.{cases_Bool, false≢true}
use Rattle.std.proofs.lemmas.List.{append-nil, length-append}
use Rattle.eve_grammar.specs.Trace.{Trace}
use Rattle.eve_grammar.specs.Frames.{Frame, start_place}
use Rattle.eve_grammar.specs.FrameOrder.{AreAllFrames, Spells}
use Rattle.eve_grammar.specs.Readers.{header_of}
use Rattle.eve_grammar.specs.Spelling.{frame_text, frames_text}
use Rattle.eve_grammar.proofs.Codec.{IsBytes}
use Rattle.eve_grammar.specs.declared.head.Head.{Head}
use Rattle.eve_grammar.specs.declared.place.Place.{Place}
use Rattle.eve_views.specs.Form.{is_sized, has_magic, head_bytes, SaysHead, IsLeast, StandsInForm, IsFaultOutside}
use Rattle.eve_views.specs.inner.Header.{IsHeader}
use Rattle.eve_views.specs.Walk.{frame_at}
use Rattle.eve_views.specs.Indexes.{kept}
use Rattle.eve_views.specs.declared.fault.Code.TheVariants as code
use Rattle.eve_views.specs.declared.fault.Fault.{Fault}
use Rattle.eve_views.proofs.HeaderLaws.{says_head, header_again_of, Sized-from, header_spelled}
use Rattle.eve_views.proofs.FormLaws.{refused_at_header, refused_behind}
use Rattle.eve_views.specs.inner.WalkProgress.{Reached}
use Rattle.eve_views.proofs.WalkSteps.{reached_start, step_of, reached_more, split_at, reached_fault}
use Rattle.eve_views.proofs.WalkLaws.{prefix_short}
use Rattle.eve_views.proofs.WholeTraces.{SpellsFrames, spells_trace}

result_cases : {A B C : Type 0} (r : Result A B) → ((x : A) → r ≡ Ok x → C) → ((y : B) → r ≡ Err y → C) → C
result_cases (Ok x) ok err = ok x refl
result_cases (Err y) ok err = err y refl

-- the bytes after the header are the frames of a trace
record IsEnded (h : Head) (bytes : List ℕ) : Type 0 where
  frames : List Frame
  run : AreAllFrames h frames
  text : drop 32 bytes ≡ frames_text frames

-- a fault of form stands
record IsStopped (bytes : List ℕ) : Type 0 where
  fault : Fault
  stands : IsFaultOutside StandsInForm bytes fault

module _ (h : Head) (bytes : List ℕ) (says : SaysHead bytes h) (fits : IsBytes bytes) where
  -- no frame is left
  ended : (at : ℕ) (p : Place) (offsets : List ℕ) → Reached h bytes at p offsets → IsTrue p.ended → drop at bytes ≡ []
      → IsEnded h bytes
  ended at p offsets r end none = record {
    frames = r.prefix;
    run = record { follow = r.right; ended = subst (λ (q : Place). IsTrue q.ended) (sym r.place_is) end };
    text = split_at at bytes (frames_text r.prefix) r.at_is r.within r.before
        ∙ ap (λ (b : List ℕ). frames_text r.prefix ++ b) none ∙ append-nil (frames_text r.prefix);
  }

  some_byte : (b : ℕ) (bs : List ℕ) → ◌≡◌ {A = List ℕ} (b ∷ bs) [] → ⊥
  some_byte b bs e = cc

  -- whether no frame is left, and none is due
  open_or_ended : (at : ℕ) (p : Place) → ((IsTrue p.ended) × (drop at bytes ≡ []))
      ⊎ (IsTrue p.ended → drop at bytes ≡ [] → ⊥)
  open_or_ended at p = by (drop at bytes) refl (cases_Bool p.ended)
    where
      by : (rest : List ℕ) → drop at bytes ≡ rest → (p.ended ≡ true) ⊎ (p.ended ≡ false)
          → ((IsTrue p.ended) × (drop at bytes ≡ [])) ⊎ (IsTrue p.ended → drop at bytes ≡ [] → ⊥)
      by [] is (inl end) = inl (end, is)
      by [] is (inr more) = inr (λ end _. false≢true (sym more ∙ end))
      by (b ∷ bs) is ends = inr (λ _ none. some_byte b bs (sym is ∙ none))

  walked : (fuel at : ℕ) (p : Place) (offsets : List ℕ) → length bytes < fuel + at → Reached h bytes at p offsets
      → IsEnded h bytes ⊎ IsStopped bytes
  walked zero at p offsets lt r = absurd (let within = r.within in omega (arith, lt, within))
  walked (suc fuel) at p offsets lt r = elim (open_or_ended at p) [
    | inl end ↦ inl (ended at p offsets r end.0 end.1)
    | inr more ↦ result_cases (kept (drop at bytes) (frame_at h p (drop at bytes)))
        (λ k is.
        let step = step_of h p bytes at k says.limits fits r.within is in
        let some = prefix_short (step.frame ∷ []) in
        let one = length-append (frame_text step.frame) [] in
        walked fuel (at + k.len) _ _ (omega (arith, lt, step.len, some, one))
        (reached_more h bytes at p offsets k r step))
        (λ c is. inr (record {
          fault = record { code = c; offset = at; replica = None };
          stands = record { stands = reached_fault h bytes at p offsets c says r is more; outside = refl };
        }))
  ]

-- the first fault of form, or the trace that is spelled
abbrev Found : List ℕ → Type 0
Found bytes = ((f : Fault) × IsLeast (IsFaultOutside StandsInForm bytes) f) ⊎ ((t : Trace) × Spells bytes t)

module _ (bytes : List ℕ) (fits : IsBytes bytes) where
  with_header : (h : Head) → IsHeader bytes h → Found bytes
  with_header h is =
      let says = says_head bytes h fits is.decoded in
      let sized = Sized-from bytes is.sized in
      by says sized.short (walked h bytes says fits (suc (length bytes)) 32 start_place [] (omega arith)
      (reached_start h bytes sized.long))
    where
      by : SaysHead bytes h → length bytes ≤ 2 ^ 30 → IsEnded h bytes ⊎ IsStopped bytes → Found bytes
      by says short (inr stopped) =
          inl (stopped.fault, (refused_behind bytes h stopped.fault is fits stopped.stands).least)
      by says short (inl found) =
          let spelled : SpellsFrames bytes h found.frames =
          record {
            limits = says.limits;
            run = found.run;
            short = short;
            spelled = header_spelled bytes h
                (frames_text found.frames) fits is found.text;
          } in
          inr (_, spells_trace bytes h found.frames spelled)

  pub form_found : Found bytes
  form_found = elim (cases_Bool (is_sized bytes)) [
    | inr unsized ↦ inl (_, (refused_at_header code.Length bytes unsized).least)
    | inl sized ↦ elim (cases_Bool (has_magic bytes)) [
      | inr other ↦ inl (_, (refused_at_header code.Magic bytes (sized, other)).least)
      | inl magic ↦ by sized magic (header_of (head_bytes bytes)) refl
    ]
  ]
    where
      by : IsTrue (is_sized bytes) → IsTrue (has_magic bytes) → (o : Option Head) → header_of (head_bytes bytes) ≡ o
          → Found bytes
      by sized magic None is = inl (_, (refused_at_header code.Head bytes (sized, magic, is)).least)
      by sized magic (Some h) is = with_header h (record { sized = sized; magic = magic; decoded = is })

-- where a fault of form stands nothing is spelled
pub nothing_spelled : (bytes : List ℕ) (f : Fault) → IsBytes bytes → IsFaultOutside StandsInForm bytes f → (t : Trace)
    → ¬ Spells bytes t
nothing_spelled bytes f fits is t spelled =
    (refused_behind bytes t.head f (header_again_of bytes t spelled).0 fits is).none t spelled
