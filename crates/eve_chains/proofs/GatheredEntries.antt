-- Entries that are gathered row by row, part after part.
use Rattle.std.proofs.Common.{◌≡◌, ℕ, zero, suc, ◌+◌, ◌<◌, ◌==◌, Bool, true, false, cond, List, [], ◌∷◌, ◌++◌}
use Rattle.std.proofs.Common.{map, length, take, get_or, refl, sym, subst, ap, ◌∙◌, append-nil, append_assoc}
use Rattle.std.proofs.Common.{All, arith}
use Rattle.std.specs.List.{AllByRecursion}
use Rattle.std.proofs.lemmas.Grind.{flat_map-append}
use Rattle.std.proofs.lemmas.List.{map-append, take_more}
use Rattle.std.proofs.lemmas.List.Elements.{filter-append, All-nil, All-push}
use Rattle.eve_chains.specs.inner.Gathered.{as_noted, own_in, own_along, AreGathered, HasGathered}
use Rattle.eve_chains.specs.inner.Grouped.{with_key, standing_at, HasGroups}
use Rattle.eve_chains.specs.Rows.{Noted, of_row}
use Rattle.eve_chains.specs.declared.note.Note.{Note}
use Rattle.eve_chains.specs.declared.grouped.Grouped.{Grouped}
use Rattle.eve_chains.proofs.ToldAttempts.{IsRowBelow}

-- ---- of one row

of_row-append : (row : ℕ) (ns ms : List Noted) → of_row row (ns ++ ms) ≡ of_row row ns ++ of_row row ms
of_row-append row ns ms = filter-append (λ n. n.entry.row == row) ns ms

-- those with the row's number are the row's own
own_noted : (row : ℕ) (notes : List Note)
    → map as_noted (with_key (λ n. n.row) row notes) ≡ of_row row (map as_noted notes)
own_noted row [] = refl
own_noted row (n ∷ notes) = by (n.row == row) (own_noted row notes)
  where
    by : (b : Bool) → map as_noted (with_key (λ m. m.row) row notes) ≡ of_row row (map as_noted notes)
        → map as_noted (cond b (n ∷ with_key (λ m. m.row) row notes) (with_key (λ m. m.row) row notes))
        ≡ cond b (as_noted n ∷ of_row row (map as_noted notes)) (of_row row (map as_noted notes))
    by true rest = ap (λ (ms : List Noted). as_noted n ∷ ms) rest
    by false rest = rest

along-append : (row : ℕ) (ps qs : List (Grouped Note)) → own_along row (ps ++ qs) ≡ own_along row ps ++ own_along row qs
along-append row ps qs = flat_map-append (own_in row) ps qs

-- one part more
pub along_more : (row : ℕ) (ps : List (Grouped Note)) (k : ℕ) (p : Grouped Note) → k < length ps → get_or ps k p ≡ p
    → own_along row (take (k + 1) ps) ≡ own_along row (take k ps) ++ own_in row p
along_more row ps k p lt is =
    ap (own_along row) (take_more ps k p lt ∙ ap (λ (q : Grouped Note). take k ps ++ q ∷ []) is)
    ∙ along-append row (take k ps) (p ∷ [])
    ∙ ap (λ (ns : List Noted). own_along row (take k ps) ++ ns) (append-nil (own_in row p))

-- one note more
pub noted_more : (notes : List Note) (k : ℕ) (n : Note) → k < length notes → get_or notes k n ≡ n
    → map as_noted (take (k + 1) notes) ≡ map as_noted (take k notes) ++ as_noted n ∷ []
noted_more notes k n lt is =
    ap (map as_noted) (take_more notes k n lt ∙ ap (λ (m : Note). take k notes ++ m ∷ []) is)
    ∙ map-append as_noted (take k notes) (n ∷ [])

-- ---- in parts, and then in notes

pub none_gathered : (rows : ℕ) (parts : List (Grouped Note)) (notes : List Note) → parts ≡ [] → notes ≡ []
    → HasGathered rows [] parts notes
none_gathered rows parts notes none empty =
    subst (λ (ps : List (Grouped Note)). HasGathered rows [] ps notes) (sym none)
    (subst (HasGathered rows [] []) (sym empty) (record { own = λ row lt. refl; groups = All-nil (HasGroups rows) }))

-- notes more
pub notes_more : (rows : ℕ) (ns ms : List Noted) (parts : List (Grouped Note)) (notes more : List Note)
    → map as_noted more ≡ map as_noted notes ++ ms → HasGathered rows ns parts notes
    → HasGathered rows (ns ++ ms) parts more
notes_more rows ns ms parts notes more is known = record {
  own = λ row lt.
      ap (λ (xs : List Noted). own_along row parts ++ of_row row xs) is
      ∙ ap (λ (xs : List Noted). own_along row parts ++ xs) (of_row-append row (map as_noted notes) ms)
      ∙ sym (append_assoc (own_along row parts) (of_row row (map as_noted notes)) (of_row row ms))
      ∙ ap (λ (xs : List Noted). xs ++ of_row row ms) (known.own row lt)
      ∙ sym (of_row-append row ns ms);
  groups = known.groups;
}

-- the notes put behind the parts
pub put_behind : (rows : ℕ) (ns : List Noted) (parts : List (Grouped Note)) (notes : List Note) (part : Grouped Note)
    → HasGroups rows part
    → ((row : ℕ) → row < rows → standing_at row part ≡ with_key (λ n. n.row) row notes)
    → HasGathered rows ns parts notes → HasGathered rows ns (parts ++ part ∷ []) []
put_behind rows ns parts notes part groups own known = record {
  own = λ row lt.
      append-nil (own_along row (parts ++ part ∷ []))
      ∙ along-append row parts (part ∷ [])
      ∙ ap (λ (xs : List Noted). own_along row parts ++ xs)
      (append-nil (own_in row part) ∙ ap (map as_noted) (own row lt) ∙ own_noted row notes)
      ∙ known.own row lt;
  groups = All-push (HasGroups rows) parts part known.groups groups;
}

-- where no note is left
pub gathered_whole : (rows : ℕ) (ns : List Noted) (parts : List (Grouped Note)) (notes : List Note) → notes ≡ []
    → HasGathered rows ns parts notes → AreGathered rows ns parts
gathered_whole rows ns parts notes none known = record {
  own = λ row lt.
      sym (append-nil (own_along row parts))
      ∙ ap (λ (xs : List Note). own_along row parts ++ of_row row (map as_noted xs)) (sym none)
      ∙ known.own row lt;
  groups = known.groups;
}

-- ---- two lists of parts, one behind another

all-both : {A : Type 0} (P : A → Type 0) (xs ys : List A) → All P xs → All P ys → All P (xs ++ ys)
all-both P [] ys one other k d lt = other k d lt
all-both P (x ∷ xs) ys one other zero d lt = one zero d (omega arith)
all-both P (x ∷ xs) ys one other (suc k) d lt =
    all-both P xs ys (λ i e less. one (suc i) e (omega (arith, less))) other k d (omega (arith, lt))

pub both_gathered : (rows : ℕ) (ns ms : List Noted) (ps qs : List (Grouped Note)) → AreGathered rows ns ps
    → AreGathered rows ms qs → AreGathered rows (ns ++ ms) (ps ++ qs)
both_gathered rows ns ms ps qs one other = record {
  own = λ row lt.
      along-append row ps qs ∙ (λ i. one.own row lt i ++ other.own row lt i) ∙ sym (of_row-append row ns ms);
  groups = all-both (HasGroups rows) ps qs one.groups other.groups;
}

-- ---- rows that there are

pub below_noted : (rows : ℕ) (notes : List Note) → All (λ n. n.row < rows) notes
    → AllByRecursion (IsRowBelow rows) (map as_noted notes)
below_noted rows [] all = tt
below_noted rows (n ∷ notes) all =
    (all zero n (omega arith), below_noted rows notes (λ k d lt. all (suc k) d (omega (arith, lt))))

pub noted_below : (rows : ℕ) (notes : List Note) → AllByRecursion (IsRowBelow rows) (map as_noted notes)
    → All (λ n. n.row < rows) notes
noted_below rows [] all k d lt = absurd (omega (arith, lt))
noted_below rows (n ∷ notes) all zero d lt = all.0
noted_below rows (n ∷ notes) all (suc k) d lt = noted_below rows notes all.1 k d (omega (arith, lt))
