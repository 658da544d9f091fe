-- Public: other crates cite these lemmas. The access records of attempts lie within the limits.
use Rattle.std.proofs.Common.{◌≡◌, ℕ, ◌+◌, ◌==◌, Bool, true, false, cond, List, [], ◌∷◌, map}
use Rattle.std.proofs.Common.{length, refl}
use Rattle.std.proofs.Common.{IsTrue}
use Rattle.std.specs.Prelude.{nat_le}
use Rattle.std.specs.List.{AllByRecursion, list_all}
use Rattle.std.proofs.lemmas.Bool.{and_parts, and_from, eqb-true}
use Rattle.eve_smallbank.proofs.Members.{all_in, all_from_in}
use Rattle.eve_grammar.specs.Trace.{Access, Attempt, Step, Attempts, Commits, RollsBack, Transfers, Trace}
use Rattle.eve_grammar.specs.Trace.{head_of}
use Rattle.eve_grammar.specs.Frames.{OfAccess}
use Rattle.eve_grammar.specs.Spelling.{frame_text, located, steps_at, accesses_at}
use Rattle.eve_grammar.specs.Limits.{is_number, is_entry, is_access, is_attempt, is_whole_attempt, is_step, row_count}
use Rattle.eve_grammar.specs.Limits.{HasLimits}
use Rattle.eve_history.specs.Section.{Placed}
use Rattle.eve_history.specs.SectionHistory.{access_with, ordered}
use Rattle.eve_history.specs.SectionHistory.{attempts_among, placed_at}
use Rattle.eve_history.proofs.SectionSteps.{steps_fit}
use Rattle.eve_chains.specs.Along.{AreWithin}

-- an attempt's access records, in its certificate's order
abbrev pub own : Placed → List (ℕ × Access)
own p = ordered p.offset p.attempt

-- ---- within the limits

-- entries within the limits, and as many records as the certificate has indexes
pub record IsWithin (rows : ℕ) (x : ℕ × Attempt) : Type 0 where
  pub within : AreWithin rows (ordered x.0 x.1)
  pub complete : length x.1.accesses ≡ length x.1.certificate

pub its_entries : (rows : ℕ) (x : Access) → IsTrue (is_access rows x) → IsTrue (list_all (is_entry rows) x.entries)
its_entries rows x h =
    (and_parts (nat_le (length x.entries) 3) (list_all (is_entry rows) x.entries)
    (and_parts (is_number 2 x.index) _
    (and_parts (is_number 2 x.place) _ (and_parts (is_number 1 x.worker) _ h).1).1).1).1

pub within_found : (rows at : ℕ) (xs : List Access) (index : ℕ) → IsTrue (list_all (is_access rows) xs)
    → IsTrue (list_all (is_entry rows) (access_with (located (λ y. frame_text (OfAccess y)) at xs) index).1.entries)
within_found rows at [] index h = refl
within_found rows at (x ∷ xs) index h =
    let parts = and_parts (is_access rows x) (list_all (is_access rows) xs) h in
    pick (x.index == index) (access_with
    (located (λ y. frame_text (OfAccess y)) (at + length (frame_text (OfAccess x))) xs) index)
    (its_entries rows x parts.0) (within_found rows (at + length (frame_text (OfAccess x))) xs index parts.1)
  where
    pick : (b : Bool) (y : ℕ × Access) → IsTrue (list_all (is_entry rows) x.entries)
        → IsTrue (list_all (is_entry rows) y.1.entries) → IsTrue (list_all (is_entry rows) (cond b (at, x) y).1.entries)
    pick true y this other = this
    pick false y this other = other

pub within_ordered : (rows at : ℕ) (a : Attempt) → IsTrue (list_all (is_access rows) a.accesses)
    → AreWithin rows (ordered at a)
within_ordered rows at a h = along a.certificate
  where
    along : (order : List ℕ) → AreWithin rows (map (access_with (accesses_at at a)) order)
    along [] = refl
    along (i ∷ order) =
        and_from (list_all (is_entry rows) (access_with (accesses_at at a) i).1.entries)
        (list_all (λ (x : ℕ × Access). list_all (is_entry rows) x.1.entries)
        (map (access_with (accesses_at at a)) order))
        (within_found rows _ a.accesses i h) (along order)

-- an attempt that fits as a whole
within_whole : (rows : ℕ) (x : ℕ × Attempt) → IsTrue (is_whole_attempt rows x.1) → IsWithin rows x
within_whole rows x h =
    let own = and_parts (length x.1.accesses == length x.1.certificate) (list_all (is_access rows) x.1.accesses)
    (and_parts (is_attempt x.1) _ h).1 in
    record {
      within = within_ordered rows x.0 x.1 own.1;
      complete = eqb-true (length x.1.accesses) (length x.1.certificate) own.0;
    }

whole_among : (rows : ℕ) (steps : List (ℕ × Step)) → IsTrue (list_all (λ x. is_step rows x.1) steps)
    → AllByRecursion (λ x. IsTrue (is_whole_attempt rows x.1)) (attempts_among steps)
whole_among rows [] h = tt
whole_among rows ((at, Attempts a) ∷ steps) h =
    let parts = and_parts (is_step rows (Attempts a)) (list_all (λ x. is_step rows x.1) steps) h in
    (parts.0, whole_among rows steps parts.1)
whole_among rows ((at, Commits c) ∷ steps) h = whole_among rows steps
    (and_parts (is_step rows (Commits c)) (list_all (λ x. is_step rows x.1) steps) h).1
whole_among rows ((at, RollsBack r) ∷ steps) h = whole_among rows steps
    (and_parts (is_step rows (RollsBack r)) (list_all (λ x. is_step rows x.1) steps) h).1
whole_among rows ((at, Transfers x) ∷ steps) h = whole_among rows steps
    (and_parts (is_step rows (Transfers x)) (list_all (λ x. is_step rows x.1) steps) h).1

-- all attempts of a section
pub whole_section : (t : Trace) (e : ℕ) → HasLimits t
    → AllByRecursion (λ x. IsTrue (is_whole_attempt (row_count (head_of t)) x.1)) (attempts_among (steps_at t e))
whole_section t e limits = whole_among (row_count (head_of t)) (steps_at t e) (steps_fit t e limits)

pub within_section : (t : Trace) (e : ℕ) → HasLimits t → AllByRecursion (IsWithin (row_count (head_of t)))
    (attempts_among (steps_at t e))
within_section t e limits =
    let rows = row_count (head_of t) in
    all_from_in (IsWithin rows) (attempts_among (steps_at t e)) (λ x i. within_whole rows x
    (all_in (λ y. IsTrue (is_whole_attempt rows y.1)) (whole_section t e limits) i))

pub within_own : (rows : ℕ) (ps : List Placed) → AllByRecursion (λ p. IsWithin rows (placed_at p)) ps
    → AllByRecursion (λ p. AreWithin rows (own p)) ps
within_own rows [] all = tt
within_own rows (p ∷ ps) all = (all.0.within, within_own rows ps all.1)
