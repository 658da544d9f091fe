-- What shows that a customer's name stands twice. docs/MODEL.md, "Evidence".
use Rattle.std.specs.Prelude.{◌≡◌, ◌≢◌, ℕ, List, length}
use Rattle.std.specs.List.{AllByRecursion}
use Rattle.eve_grammar.specs.Trace.{Customer, Trace}
use Rattle.eve_grammar.specs.Spelling.{customers_at}
use Rattle.eve_views.specs.Form.{SomePlace}

-- none of these customers has the name
abbrev pub NoneNamed : List ℕ → List (ℕ × Customer) → Type 0
NoneNamed name cs = AllByRecursion (λ c. c.1.name ≢ name) cs

-- the first of them that has the name is the one of this number, whose frame begins at this byte
abbrev pub IsFirstNamed : List ℕ → List (ℕ × Customer) → ℕ → ℕ → Type 0
IsFirstNamed name cs number at =
    SomePlace cs (λ before c. (c.1.name ≡ name) × (number ≡ length before) × (at ≡ c.0) × NoneNamed name before)

-- the customer whose frame begins at this byte has the name, and an earlier one has it: the first that does
abbrev pub IsNamedAgain : Trace → ℕ → List ℕ → ℕ → ℕ → Type 0
IsNamedAgain t at name first first_at =
    SomePlace (customers_at t) (λ before c. (c.0 ≡ at) × (c.1.name ≡ name) × IsFirstNamed name before first first_at)
