-- Public: other crates cite these lemmas. The numbers of a right section's rollbacks lie within their types.
use Rattle.std.proofs.Common.{◌≡◌, ℕ, ◌+◌, ◌-◌, ◌^◌, ◌<◌, ◌≤◌, ◌==◌, nat_lt, List, [], ◌∷◌}
use Rattle.std.proofs.Common.{length, IsTrue, arith}
use Rattle.std.specs.List.{AllByRecursion}
use Rattle.std.proofs.lemmas.Bool.{and_parts, eqb-true, ltb-true}
use Rattle.eve_grammar.specs.Trace.{Step, Attempts, Commits, RollsBack, Transfers, Trace}
use Rattle.eve_grammar.specs.declared.limits.TheConstants.{MOST_BATCHES}
use Rattle.eve_history.specs.Section.{SectionState, next, is_right, are_right}
use Rattle.eve_agree.specs.inner.Unbacked.{HasRoom}

-- a right rollback has room
pub room_along : (t : Trace) (s : SectionState) (steps : List (ℕ × Step)) → length t.batches ≤ MOST_BATCHES
    → IsTrue (are_right t s steps) → AllByRecursion (λ x. HasRoom x.1) steps
room_along t s [] few right = tt
room_along t s ((at, Attempts a) ∷ steps) few right =
    (tt, room_along t (next s (at, Attempts a)) steps few (and_parts (is_right t s (Attempts a)) _ right).1)
room_along t s ((at, Commits c) ∷ steps) few right =
    (tt, room_along t (next s (at, Commits c)) steps few (and_parts (is_right t s (Commits c)) _ right).1)
room_along t s ((at, RollsBack r) ∷ steps) few right =
    let parts = and_parts (is_right t s (RollsBack r)) _ right in
    let to = and_parts (r.to == s.last) _ parts.0 in
    let view = and_parts (nat_lt s.last (length t.batches)) _ to.1 in (
      room r.to s.last r.view s.view (length t.batches) (eqb-true r.to s.last to.0)
          (ltb-true s.last (length t.batches) view.0) few (eqb-true r.view (s.view + 1) view.1),
      room_along t (next s (at, RollsBack r)) steps few parts.1,
    )
  where
    room : (to last view before n : ℕ) → to ≡ last → last < n → n ≤ MOST_BATCHES → view ≡ before + 1 → (to + 1 < 2 ^ 32)
        × (1 ≤ view)
    room to last view before n e lt few f = (omega arith, omega arith)
room_along t s ((at, Transfers x) ∷ steps) few right =
    (tt, room_along t (next s (at, Transfers x)) steps few (and_parts (is_right t s (Transfers x)) _ right).1)
