-- Public: other crates cite these lemmas. Records one after another: the tables between them, and the first thing that
-- is wrong.
use Rattle.std.proofs.Common.{◌≡◌, ℕ, suc, ◌+◌, true, false, List, [], ◌∷◌, ◌++◌, take}
use Rattle.std.proofs.Common.{drop, length, get_or, slice_get, Some, refl, sym, subst, ap, ◌∙◌, inl, inr}
use Rattle.std.proofs.Common.{◌⊎◌, append-nil, arith, IsTrue}
use Rattle.std.specs.List.{list_all}
use Rattle.std.proofs.lemmas.Grind.{flat_map-append}
use Rattle.eve_smallbank.specs.declared.entry.Entry.{Entry}
use Rattle.eve_smallbank.specs.Access.{Executed}
use Rattle.eve_smallbank.specs.Chain.{Table, table_after, table_after_all}
use Rattle.eve_grammar.specs.Trace.{Access}
use Rattle.eve_grammar.specs.Limits.{is_entry}
use Rattle.eve_views.specs.Code.{phase_of}
use Rattle.eve_views.specs.Form.{IsUpTo}
use Rattle.eve_views.specs.declared.fault.Fault.{Fault}
use Rattle.eve_grammar.proofs.Lists.{take_one_more}
use Rattle.eve_chains.specs.Along.{entries_along, AreWithin}
use Rattle.eve_chains.proofs.ByRow.{record_within}
use Rattle.eve_views.specs.First.{is_before}
use Rattle.eve_views.proofs.Firsts.{before_precedes, behind_precedes, up_to_from}

-- ---- one list of entries after another

pub table_after_all-append : (table : Table) (xs ys : List Executed) → table_after_all table (xs ++ ys)
    ≡ table_after_all (table_after_all table xs) ys
table_after_all-append table [] ys = refl
table_after_all-append table (x ∷ xs) ys = table_after_all-append (table_after table x.entries) xs ys

-- ---- one record more

entries_along-push : (xs : List (ℕ × Access)) (x : ℕ × Access) → entries_along (xs ++ x ∷ [])
    ≡ entries_along xs ++ x.1.entries
entries_along-push xs x =
    flat_map-append (λ (y : ℕ × Access). y.1.entries) xs (x ∷ []) ∙ ap (λ (es : List Entry). entries_along xs ++ es)
    (append-nil x.1.entries)

pub entries_more : (xs : List (ℕ × Access)) (k : ℕ) (x : ℕ × Access) → slice_get xs k ≡ Some x
    → entries_along (take (k + 1) xs) ≡ entries_along (take k xs) ++ x.1.entries
entries_more xs k x at = ap entries_along (take_one_more xs k x at) ∙ entries_along-push (take k xs) x

-- the record at this place is met, with its entries
pub record IsCheckedRecord (xs : List (ℕ × Access)) (k : ℕ) (x : ℕ × Access) (es : List Entry) : Type 0 where
  pub there : slice_get xs k ≡ Some x
  pub entries : es ≡ x.1.entries

-- they lie within, where the table has that many rows
pub checked_within : {xs : List (ℕ × Access)} {k : ℕ} {x : ℕ × Access} {es : List Entry} (rows n : ℕ)
    → IsCheckedRecord xs k x es
    → AreWithin rows xs → n ≡ rows → IsTrue (list_all (is_entry n) es)
checked_within {xs} {k} {x} rows n checked within many =
    subst (λ (es : List Entry). IsTrue (list_all (is_entry n) es)) (sym checked.entries)
    (subst (λ m. IsTrue (list_all (is_entry m) x.1.entries)) (sym many)
    (record_within rows xs k x within checked.there))

-- What takes one list of entries after another takes those of the records up to a place, and then of one record more.
module _ {T : Type 0} (after : T → List Entry → T)
    (joined : (base : T) (es fs : List Entry) → after base (es ++ fs) ≡ after (after base es) fs) where
  pub after_more : {xs : List (ℕ × Access)} {k : ℕ} {x : ℕ × Access} {es : List Entry} (base old new : T)
      → IsCheckedRecord xs k x es → old ≡ after base (entries_along (take k xs)) → new ≡ after old es
      → new ≡ after base (entries_along (take (k + 1) xs))
  after_more {xs} {k} {x} {es} base old new checked so step =
      step ∙ ap (λ (t : T). after t es) so ∙ ap (after (after base (entries_along (take k xs)))) checked.entries
      ∙ sym (joined base (entries_along (take k xs)) x.1.entries)
      ∙ ap (after base) (sym (entries_more xs k x checked.there))

-- ---- places in a list with one more

pub split_last : {A : Type 0} (xs : List A) (x : A) (before : List A) (y : A) (rest : List A) → xs ++ x ∷ []
    ≡ before ++ y ∷ rest
    → ((before ≡ xs) × (y ≡ x)) ⊎ ((others : List A) × (xs ≡ before ++ y ∷ others))
split_last {A} [] x [] y rest e = inl (refl, sym (ap (λ zs. get_or zs 0 x) e))
split_last {A} [] x (b ∷ before) y rest e = absurd (none (before) (ap (λ zs. drop 1 zs) e))
  where
    none : (bs : List A) → [] ≡ bs ++ y ∷ rest → ⊥
    none [] h = let n : 0 ≡ suc (length rest) = ap length h in omega arith
    none (z ∷ bs) h = let n : 0 ≡ suc (length (bs ++ y ∷ rest)) = ap length h in omega arith
split_last {A} (z ∷ xs) x [] y rest e = inr (xs, ap (λ w. w ∷ xs) (ap (λ zs. get_or zs 0 z) e))
split_last {A} (z ∷ xs) x (b ∷ before) y rest e =
    let head : z ≡ b = ap (λ zs. get_or zs 0 z) e in
    elim (split_last xs x before y rest (ap (λ zs. drop 1 zs) e)) [
      | inl last ↦ inl (ap (λ zs. b ∷ zs) last.0 ∙ ap (λ w. w ∷ xs) (sym head), last.1)
      | inr prefix ↦ inr (prefix.0, ap (λ w. w ∷ xs) head ∙ ap (λ zs. b ∷ zs) prefix.1)
    ]

-- ---- the order of faults

pub before_up : (f g : Fault) → phase_of f.code ≡ 5 → phase_of g.code ≡ 5 → is_before f g ≡ true → IsUpTo f g
before_up f g one other before = up_to_from f g (one ∙ sym other) (before_precedes f g before)

pub not_before_up : (f g : Fault) → phase_of f.code ≡ 5 → phase_of g.code ≡ 5 → is_before f g ≡ false → IsUpTo g f
not_before_up f g one other behind = up_to_from g f (other ∙ sym one) (behind_precedes f g behind)
