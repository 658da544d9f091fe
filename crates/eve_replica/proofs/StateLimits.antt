-- What is right of a state that may be transferred: it has all rows, and their versions lie within the limit.
use Rattle.std.proofs.Common.{◌≡◌, ℕ, ◌==◌, nat_le, List, [], ◌∷◌, IsTrue, length}
use Rattle.std.proofs.lemmas.Bool.{and_parts, eqb-true, leb-true}
use Rattle.std.specs.List.{list_all}
use Rattle.eve_smallbank.specs.declared.versioned.Versioned.{Versioned}
use Rattle.eve_grammar.specs.Trace.{Transfer}
use Rattle.eve_grammar.specs.Limits.{is_number, are_no_debts, is_transfer, is_versioned}
use Rattle.eve_grammar.specs.declared.limits.TheConstants.{MOST_VERSIONS}
use Rattle.eve_stamps.specs.Stripes.{HaveRightVersions}

-- its rows
rows_right : (rows : ℕ) (x : Transfer) → IsTrue (is_transfer rows x)
    → (length x.rows ≡ rows) × IsTrue (list_all is_versioned x.rows)
rows_right rows x fits =
    let one = and_parts (is_number 4 x.seq) _ fits in
    let two = and_parts (is_number 4 x.view) _ one.1 in
    let three = and_parts (are_no_debts 0 x.rows) _ two.1 in
    let four = and_parts (length x.rows == rows) _ three.1 in (
      eqb-true (length x.rows) rows four.0,
      four.1,
    )

versions_of : (rows : List Versioned) → IsTrue (list_all is_versioned rows) → HaveRightVersions rows
versions_of [] fit = tt
versions_of (r ∷ rows) fit =
    let parts = and_parts (is_versioned r) (list_all is_versioned rows) fit in (
      leb-true r.version MOST_VERSIONS (and_parts (nat_le r.version MOST_VERSIONS) _ parts.0).0,
      versions_of rows parts.1,
    )

pub versions_right : (rows : ℕ) (x : Transfer) → IsTrue (is_transfer rows x) → HaveRightVersions x.rows
versions_right rows x fits = versions_of x.rows (rows_right rows x fits).1
