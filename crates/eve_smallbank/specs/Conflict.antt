-- In which order requests of one attempt that touch the same row took effect.
-- docs/MODEL.md, "Conflict order, serial order".
use Rattle.std.specs.Prelude.{◌≡◌, nat_lt, ◌==◌, Bool, not, ◌&&◌, ◌||◌, IsFalse, List, [], ◌∷◌, ◌++◌, ⊤}
use Rattle.std.specs.List.{AllByRecursion, list_any}
use Rattle.eve_smallbank.specs.declared.entry.Entry.{Entry}
use Rattle.eve_smallbank.specs.Access.{Executed, is_write}

-- Of two entries of one row, one of them a write, the first precedes the second: it saw a smaller
-- version, or the same one and only the second is a write.
abbrev pub entry_precedes : Entry → Entry → Bool
entry_precedes e f =
    (e.row == f.row) && ((is_write e.kind || is_write f.kind)
    && (nat_lt e.version f.version || ((e.version == f.version) && (not (is_write e.kind) && is_write f.kind))))

-- some entry of the one precedes some entry of the other
abbrev pub precedes : Executed → Executed → Bool
precedes x y = list_any (λ e. list_any (entry_precedes e) y.entries) x.entries

-- an order in which no request stands after one that it precedes
abbrev pub AgreesWithConflicts : List Executed → Type 0
AgreesWithConflicts [] = ⊤
AgreesWithConflicts (x ∷ xs) = AllByRecursion (λ y. IsFalse (precedes y x)) xs × AgreesWithConflicts xs

-- the second list has the elements of the first, each as often, in some order
abbrev pub IsReordering : {A : Type 0} → List A → List A → Type 0
IsReordering [] ys = ys ≡ []
IsReordering {A} (x ∷ xs) ys =
    (before : List A) × (rest : List A) × (ys ≡ before ++ x ∷ rest) × IsReordering xs (before ++ rest)
