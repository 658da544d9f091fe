-- Public: other crates cite these lemmas. Entries within the limits.
use Rattle.std.proofs.Common.{◌≡◌, ℕ, ◌<◌, nat_lt, List, ◌∷◌, subst, IsTrue}
use Rattle.std.proofs.lemmas.Bool.{and_parts, ltb-true}
use Rattle.std.specs.List.{list_all}
use Rattle.eve_smallbank.specs.declared.entry.Entry.{Entry}
use Rattle.eve_grammar.specs.Limits.{is_entry}

-- its row is there
pub row_there : (rows : ℕ) (e : Entry) → IsTrue (is_entry rows e) → e.row < rows
row_there rows e right = ltb-true e.row rows (and_parts (nat_lt e.row rows) _ right).0

both : (rows : ℕ) (es : List Entry) (e : Entry) (rest : List Entry) → es ≡ e ∷ rest
    → IsTrue (list_all (is_entry rows) es) → IsTrue (is_entry rows e) × IsTrue (list_all (is_entry rows) rest)
both rows es e rest is right = and_parts (is_entry rows e) (list_all (is_entry rows) rest)
    (subst (λ (xs : List Entry). IsTrue (list_all (is_entry rows) xs)) is right)

-- the first of several
pub first_right : (rows : ℕ) (es : List Entry) (e : Entry) (rest : List Entry) → es ≡ e ∷ rest
    → IsTrue (list_all (is_entry rows) es) → IsTrue (is_entry rows e)
first_right rows es e rest is right = (both rows es e rest is right).0

-- and the others
pub rest_right : (rows : ℕ) (es : List Entry) (e : Entry) (rest : List Entry) → es ≡ e ∷ rest
    → IsTrue (list_all (is_entry rows) es) → IsTrue (list_all (is_entry rows) rest)
rest_right rows es e rest is right = (both rows es e rest is right).1
