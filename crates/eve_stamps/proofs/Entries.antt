-- One entry for each row seen.
use Rattle.std.proofs.Common.{◌≡◌, ℕ, zero, suc, ◌<◌, List, [], ◌∷◌, length, slice_get, Some, refl, ap, ◌∙◌, arith}
use Rattle.std.proofs.lemmas.Option.{get_or_from_slice_get, slice_get_within}
use Rattle.eve_smallbank.specs.declared.entry.Entry.{Entry}
use Rattle.eve_smallbank.specs.declared.decision.Effect.{Effect}
use Rattle.eve_stamps.specs.Stripes.{HeldRow}
use Rattle.eve_stamps.specs.HeldRows.{entries_on}

abbrev entry_on : HeldRow → Effect → Entry
entry_on r e = record { row = r.row; kind = e.kind; version = r.version; seen = r.value; after = e.after }

pub entry_on_place : (seen : List HeldRow) (effects : List Effect) (place : ℕ) (r : HeldRow) (e : Effect)
    → slice_get seen place ≡ Some r → slice_get effects place ≡ Some e
    → slice_get (entries_on seen effects) place ≡ Some (entry_on r e)
entry_on_place [] effects place r e there is =
    let within : place < 0 = slice_get_within [] place r there in
    absurd (omega arith)
entry_on_place (q ∷ seen) [] place r e there is =
    let within : place < 0 = slice_get_within [] place e is in
    absurd (omega arith)
entry_on_place (q ∷ seen) (f ∷ effects) zero r e there is =
    ap (λ x. Some (entry_on x f)) (get_or_from_slice_get (q ∷ seen) 0 r r there)
    ∙ ap (λ x. Some (entry_on r x)) (get_or_from_slice_get (f ∷ effects) 0 e e is)
entry_on_place (q ∷ seen) (f ∷ effects) (suc place) r e there is = entry_on_place seen effects place r e there is

pub as_many_entries : (seen : List HeldRow) (effects : List Effect) → length effects ≡ length seen
    → length (entries_on seen effects) ≡ length seen
as_many_entries [] effects each = refl
as_many_entries (r ∷ seen) [] each = absurd (omega arith)
as_many_entries (r ∷ seen) (e ∷ effects) each = ap suc (as_many_entries seen effects (omega arith))
