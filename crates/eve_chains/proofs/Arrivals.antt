-- Where no fault of orders stands, no two requests of the batches have one client and number.
use Rattle.std.proofs.Common.{◌≡◌, ℕ, ◌+◌, List, [], ◌∷◌, ◌++◌, map, length, Contains, refl, sym, subst, ap, ◌∙◌, inl}
use Rattle.std.proofs.Common.{inr, ◌⊎◌, append_assoc, append-nil}
use Rattle.std.specs.Prelude.{⊤, AllPairs, ◌≢◌}
use Rattle.std.specs.List.{flat_map, enumerate_from}
use Rattle.std.proofs.lemmas.Grind.{flat_map-append}
use Rattle.eve_grammar.specs.Trace.{Batch, Trace}
use Rattle.eve_grammar.specs.Frames.{batches_of}
use Rattle.eve_grammar.specs.Spelling.{located, batch_text, batches_start, batches_at}
use Rattle.eve_views.specs.declared.fault.Code.TheVariants as code
use Rattle.eve_views.specs.Form.{SomePlace}
use Rattle.eve_history.specs.Order.{request_ids_at, StandsInOrders}
use Rattle.eve_grammar.specs.Trace.{RequestId, request_id}
use Rattle.eve_smallbank.proofs.Members.{In, here, in_prefix, in_cons}
use Rattle.eve_chains.specs.Committed.{batch_request_ids}
use Rattle.eve_chains.proofs.Distinct.{Distinct, in_right}
use Rattle.eve_chains.proofs.DistinctRequests.{place_in, distinct_pairs}

-- ---- each is new after those before

abbrev Fresh : List RequestId → List RequestId → Type 0
Fresh before [] = ⊤
Fresh before (x ∷ xs) = (In x before → ⊥) × Fresh (before ++ x ∷ []) xs

fresh_append : (before xs ys : List RequestId) → Fresh before xs → Fresh (before ++ xs) ys → Fresh before (xs ++ ys)
fresh_append before [] ys f g = subst (λ (b : List RequestId). Fresh b ys) (append-nil before) g
fresh_append before (x ∷ xs) ys f g = (
  f.0,
  fresh_append (before ++ x ∷ []) xs ys f.1
      (subst (λ (b : List RequestId). Fresh b ys) (sym (append_assoc before (x ∷ []) xs)) g),
)

fresh_distinct : (before xs : List RequestId) → Fresh before xs → Distinct xs
    × ((z : RequestId) → In z before → In z xs → ⊥)
fresh_distinct before [] f = (tt, λ z i j. elim j [ ])
fresh_distinct before (x ∷ xs) f =
    let rest = fresh_distinct (before ++ x ∷ []) xs f.1 in
    ((λ i. rest.1 x (in_right before (x ∷ []) here) i, rest.0), λ z i j. apart z i rest.1 (in_cons xs j))
  where
    apart : (z : RequestId) → In z before → ((y : RequestId) → In y (before ++ x ∷ []) → In y xs → ⊥) → (z ≡ x)
        ⊎ In z xs → ⊥
    apart z i rest (inl e) = f.0 (subst (λ (y : RequestId). In y before) e i)
    apart z i rest (inr j) = rest z (in_prefix (x ∷ []) i) j

-- ---- one batch after another

contained : {x : RequestId} (xs : List RequestId) → In x xs → Contains xs x
contained xs i = let p = place_in xs i in (p.place, p.within, p.is)

own_fresh : (noted prefix own : List RequestId)
    → ((earlier : List RequestId) (x : RequestId) (rest : List RequestId) → prefix ++ own ≡ earlier ++ x ∷ rest
    → Contains (noted ++ earlier) x → ⊥)
    → Fresh (noted ++ prefix) own
own_fresh noted prefix [] none = tt
own_fresh noted prefix (x ∷ own) none = (
  λ i. none prefix x own refl (contained (noted ++ prefix) i),
  subst (λ (b : List RequestId). Fresh b own) (sym (append_assoc noted prefix (x ∷ [])))
      (own_fresh noted (prefix ++ x ∷ []) own
      (λ earlier y rest e c. none earlier y rest (sym (append_assoc prefix (x ∷ []) own) ∙ e) c)),
)

-- a batch with its number and its offset
abbrev Numbered : Type 0
Numbered = ℕ × (ℕ × Batch)

abbrev NoneAgain : List Numbered → Type 0
NoneAgain bs =
    (before : List Numbered) (b : Numbered) (after : List Numbered) → bs ≡ before ++ b ∷ after
    → SomePlace (request_ids_at b) (λ earlier own. Contains (flat_map request_ids_at before ++ earlier) own) → ⊥

all_fresh : (prefix rest : List Numbered) → NoneAgain (prefix ++ rest)
    → Fresh (flat_map request_ids_at prefix) (flat_map request_ids_at rest)
all_fresh prefix [] none = tt
all_fresh prefix (b ∷ rest) none =
    let noted : List RequestId = flat_map request_ids_at prefix in
    fresh_append noted (request_ids_at b) (flat_map request_ids_at rest)
    (subst (λ (l : List RequestId). Fresh l (request_ids_at b)) (append-nil noted)
    (own_fresh noted [] (request_ids_at b)
    (λ earlier x after e c. none prefix b rest refl
    (record { before = earlier; item = x; rest = after; is = e; holds = c }))))
    (subst (λ (l : List RequestId). Fresh l (flat_map request_ids_at rest))
    (flat_map-append request_ids_at prefix (b ∷ [])
    ∙ ap (λ (l : List RequestId). noted ++ l) (append-nil (request_ids_at b)))
    (all_fresh (prefix ++ b ∷ []) rest
    (λ before c after e. none before c after (sym (append_assoc prefix (b ∷ []) rest) ∙ e))))

request_ids_located : (text : ℕ × Batch → List ℕ) (at : ℕ) (bs : List (ℕ × Batch))
    → flat_map request_ids_at (located text at bs) ≡ flat_map (λ b. map request_id b.1.requests) bs
request_ids_located text at [] = refl
request_ids_located text at (b ∷ bs) = ap (λ (l : List RequestId). map request_id b.1.requests ++ l)
    (request_ids_located text (at + length (text b)) bs)

request_ids_numbered : (n : ℕ) (bs : List Batch) → flat_map (λ b. map request_id b.1.requests) (enumerate_from n bs)
    ≡ flat_map (λ b. map request_id b.requests) bs
request_ids_numbered n [] = refl
request_ids_numbered n (b ∷ bs) = ap (λ (l : List RequestId). map request_id b.requests ++ l)
    (request_ids_numbered (n + 1) bs)

pub request_ids_apart : (t : Trace) → ((at : ℕ) → ¬ StandsInOrders code.SameRequest t at)
    → AllPairs (λ a b. a ≢ b) (batch_request_ids t)
unfolding batch_request_ids batches_at
request_ids_apart t none =
    let whole : flat_map request_ids_at (batches_at t) ≡ flat_map (λ b. map request_id b.requests) t.batches =
    request_ids_located batch_text (batches_start t) (batches_of t) ∙ request_ids_numbered 1 t.batches in
    let fresh : Fresh [] (flat_map request_ids_at (batches_at t)) = all_fresh [] (batches_at t)
    (λ before b after e again. none b.0
    (record { before = before; item = b; rest = after; is = e; holds = (refl, again) })) in
    distinct_pairs (flat_map (λ b. map request_id b.requests) t.batches)
    (subst Distinct whole (fresh_distinct [] (flat_map request_ids_at (batches_at t)) fresh).0)
