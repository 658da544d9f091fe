-- Customers by name, in the order in which they came. docs/MODEL.md, "Names".
use Rattle.std.specs.Prelude.{ℕ, ◌-◌, ◌<◌, ◌≤◌, ◌≢◌, Bool, ◌&&◌, IsTrue, nat_le, List, ◌++◌, length, replicate, All}
use Rattle.std.specs.Prelude.{AllPairs, Contains, Option}
use Rattle.std.specs.List.{list_all, position_from}
use Rattle.std.specs.declared.cmp.Ordering.{Ordering}
use Rattle.std.specs.Ordering.{nat_cmp, is_eq}
use Rattle.std.specs.Cmp.Lexicographic.{slice_cmp}
use Rattle.eve_accounts.specs.declared.limits.TheConstants.{MOST_NAMES, MOST_NAME_BYTES, FIRST_NAME_BYTE}
use Rattle.eve_accounts.specs.declared.limits.TheConstants.{LAST_NAME_BYTE}

-- a byte of printed ASCII, not a space
abbrev pub is_printable : ℕ → Bool
is_printable byte = nat_le FIRST_NAME_BYTE byte && nat_le byte LAST_NAME_BYTE

-- 1 to 24 printable bytes
abbrev pub is_name : List ℕ → Bool
is_name name = nat_le 1 (length name) && (nat_le (length name) MOST_NAME_BYTES && list_all is_printable name)

-- the bytes of a name, and zeros after them up to the 24 that a name may have
abbrev pub padded : List ℕ → List ℕ
padded name = name ++ replicate (MOST_NAME_BYTES - length name) 0

-- the order of names, byte by byte
abbrev pub name_cmp : List ℕ → List ℕ → Ordering
name_cmp = slice_cmp nat_cmp

-- whether two names are the same
abbrev pub same_name : List ℕ → List ℕ → Bool
same_name a b = is_eq (name_cmp a b)

-- a customer's number: the place of the first of that name, from 0
unfoldable pub customer_named : List (List ℕ) → List ℕ → Option ℕ
customer_named names name = position_from (same_name name) 0 names

-- customers by number, and how many there may be
pub record NameList : Type 0 where
  pub items : List (List ℕ)
  pub limit : ℕ

-- what is true of every list of customers: distinct names, and no more of them than the limit
pub record IsNameList (names : NameList) : Type 0 where
  pub named : All (λ name. IsTrue (is_name name)) names.items
  pub distinct : AllPairs (λ a b. a ≢ b) names.items
  pub within : length names.items ≤ names.limit
  pub small : names.limit ≤ MOST_NAMES

-- the name may be added: it is one, no customer has it, and there is room
pub record CanTake (names : NameList) (name : List ℕ) : Type 0 where
  pub named : IsTrue (is_name name)
  pub new : ¬ Contains names.items name
  pub room : length names.items < names.limit
