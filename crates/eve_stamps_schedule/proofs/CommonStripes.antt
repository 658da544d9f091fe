-- Requests whose records have a row in common need a stripe in common.
use Rattle.std.proofs.Common.{◌≡◌, ℕ, ◌<◌, true, ◌||◌, ◌==◌, List, [], ◌∷◌, map, subst, ap, eq-eqb, inl, inr, arith}
use Rattle.std.specs.List.{list_any}
use Rattle.std.proofs.lemmas.Bool.{or_right, or_cases, eqb-true, false≢true}
use Rattle.eve_smallbank.specs.declared.entry.Entry.{Entry}
use Rattle.eve_smallbank.specs.SmallBank.{Request}
use Rattle.eve_smallbank.specs.Access.{Executed, RowKinds}
use Rattle.eve_smallbank.specs.Chain.{Table}
use Rattle.eve_smallbank.specs.Execution.{executed_on}
use Rattle.eve_smallbank.specs.Touch.{touched_of, rows_in}
use Rattle.eve_smallbank.proofs.Members.{In, here, there}
use Rattle.eve_smallbank.proofs.FittingRecords.{always_fits}
use Rattle.eve_smallbank.proofs.Records.{touches_rows}
use Rattle.eve_stamps.specs.Applied.{Applied}
use Rattle.eve_stamps.specs.declared.limits.TheConstants.{STRIPES}
use Rattle.eve_stamps.specs.OpeningRows.{stripe_of}
use Rattle.eve_stamps_schedule.specs.Stripes.{needs}
use Rattle.eve_stamps_schedule.specs.World.{Plan, executed_record}
use Rattle.eve_stamps_schedule.specs.Events.{needs_at}
use Rattle.eve_stamps_schedule.proofs.WorldInvariant.{IsMade}

pub in_map : {A B : Type 0} (f : A → B) {x : A} {xs : List A} → In x xs → In (f x) (map f xs)
in_map f here = here
in_map f (there i) = there (in_map f i)

-- a row that is among the rows lies in a stripe that one of them is in
pub in_stripe : (rows : RowKinds) (row : ℕ) → In row (map (λ r. r.0) rows)
    → list_any (λ r. stripe_of r.0 == stripe_of row) rows ≡ true
in_stripe [] row i = elim i [ ]
in_stripe (r ∷ rows) row here = ap (λ b. b || list_any (λ q. stripe_of q.0 == stripe_of r.0) rows)
    (eq-eqb (stripe_of r.0) (stripe_of r.0) (λ _. stripe_of r.0))
in_stripe (r ∷ rows) row (there i) = or_right (stripe_of r.0 == stripe_of row)
    (list_any (λ q. stripe_of q.0 == stripe_of row) rows) (in_stripe rows row i)

pub needed : (names : List (List ℕ)) (table : Table) (request : Request) (e : Entry)
    → In e (executed_on names table request).entries → needs names request (stripe_of e.row) ≡ true
needed names table request e i =
    in_stripe (rows_in (touched_of names request)) e.row
    (subst (In e.row) (touches_rows names (executed_on names table request) (always_fits names table request))
    (in_map (λ (f : Entry). f.row) i))

pub needed_by : (p : Plan) (x : Applied) → IsMade p x → (e : Entry) → In e x.entries
    → needs_at p x.index (stripe_of e.row) ≡ true
needed_by p x made e i = needed p.names made.0 (executed_record p x).request e
    (subst (λ (y : Executed). In e y.entries) made.1 i)

pub stripe_below : (row : ℕ) → stripe_of row < STRIPES
stripe_below row = omega arith

-- a request needs stripes that are there
pub needs_small : (names : List (List ℕ)) (request : Request) (s : ℕ) → needs names request s ≡ true → s < STRIPES
needs_small names request s need = by (rows_in (touched_of names request)) need
  where
    by : (rows : RowKinds) → list_any (λ r. stripe_of r.0 == s) rows ≡ true → s < STRIPES
    by [] need = absurd (false≢true need)
    by (r ∷ rows) need = elim (or_cases (stripe_of r.0 == s) (list_any (λ q. stripe_of q.0 == s) rows) need) [
      | inl first ↦ subst (λ k. k < STRIPES) (eqb-true (stripe_of r.0) s first) (stripe_below r.0)
      | inr rest ↦ by rows rest
    ]
