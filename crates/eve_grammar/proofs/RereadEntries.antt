-- An entry that is known to stand in front of bytes, by its places.
use Rattle.std.proofs.Common.{◌≡◌, ℕ, ◌<◌, ◌≤◌, Bool, true, false, ◌||◌, cond, ltb, List, length, get_or, Option}
use Rattle.std.proofs.Common.{Some, None, is_some, refl, sym, subst, ◌∙◌}
use Rattle.std.specs.Prelude.{IsTrue}
use Rattle.std.specs.Ordering.{int_eq}
use Rattle.std.proofs.lemmas.Bool.{ltb-false, ltb-true}
use Rattle.std.proofs.lemmas.Option.{same_Some}
use Rattle.eve_accounts.specs.Money.{is_balance}
use Rattle.eve_grammar.specs.declared.limits.TheConstants.{MOST_ROWS}
use Rattle.eve_smallbank.specs.Access.{is_write}
use Rattle.eve_smallbank.specs.declared.entry.Kind.{Kind}
use Rattle.eve_grammar.specs.Places.{number_in, signed_in}
use Rattle.eve_grammar.specs.Readers.{◌>>=◌, kind_from, entry_at}
use Rattle.eve_grammar.proofs.Codec.{IsBytes}
use Rattle.eve_grammar.proofs.FixedFields.{entry_found, entry_if, entry_is}

-- what is known of the bytes
pub record EntryStands (rows : ℕ) (bytes : List ℕ) : Type 0 where
  pub long : 29 ≤ length bytes
  pub row : number_in 4 0 bytes < rows
  pub coded : IsTrue (is_some (kind_from (get_or bytes 4 0)))
  pub seen : IsTrue (is_balance (signed_in 13 bytes))
  pub after : IsTrue (is_balance (signed_in 21 bytes))
  pub is : (kind : Kind) → kind_from (get_or bytes 4 0) ≡ Some kind → entry_at rows bytes ≡ entry_found bytes kind

tested : (bytes : List ℕ) (kind : Kind) (a b c d e : Bool)
    → (is_write kind || int_eq (signed_in 21 bytes) (signed_in 13 bytes)) ≡ e
    → IsTrue (is_some (cond a (Some (signed_in 13 bytes)) None >>= λ seen. cond b (Some (signed_in 21 bytes)) None
    >>= λ after. cond c (cond d (cond (is_write kind || int_eq after seen) (entry_found bytes kind) None) None) None))
    → (a ≡ true) × (b ≡ true) × (c ≡ true) × (d ≡ true) × (e ≡ true)
tested bytes kind true true true true true t there = (refl, refl, refl, refl, refl)
tested bytes kind true true true true false t there =
    absurd (let f = subst (λ x. IsTrue (is_some (cond x (entry_found bytes kind) None))) t there in cc)
tested bytes kind true true true false e t there = absurd cc
tested bytes kind true true false d e t there = absurd cc
tested bytes kind true false c d e t there = absurd cc
tested bytes kind false b c d e t there = absurd cc

pub entry_stands : (rows : ℕ) (bytes : List ℕ) → IsBytes bytes → IsTrue (is_some (entry_at rows bytes))
    → EntryStands rows bytes
entry_stands rows bytes fits there =
    by (ltb (length bytes) 29) (kind_from (get_or bytes 4 0)) refl refl
    (subst (λ o. IsTrue (is_some o)) (entry_is rows bytes fits) there)
  where
    by : (short : Bool) (k : Option Kind) → ltb (length bytes) 29 ≡ short → kind_from (get_or bytes 4 0) ≡ k
        → IsTrue (is_some (cond short None (k >>= entry_if rows bytes))) → EntryStands rows bytes
    by true k e f some = absurd cc
    by false None e f some = absurd cc
    by false (Some kind) e f some =
        let t = tested bytes kind _ _ _ _ _ refl some in
        let found : entry_at rows bytes ≡ entry_found bytes kind
        = entry_is rows bytes fits ∙ rw (e, f, t.0, t.1, t.2, t.3, t.4) refl in
        record {
          long = ltb-false _ _ e;
          row = ltb-true _ _ t.2;
          coded = rw f refl;
          seen = t.0;
          after = t.1;
          is = λ other g.
              subst (λ k. entry_at rows bytes ≡ entry_found bytes k) (same_Some kind other (sym f ∙ g)) found;
        }

-- of so many rows as there are names for, which is all that the code knows
pub entry_known : (bytes : List ℕ) → IsBytes bytes
    → (found : (rows : ℕ) × (rows ≤ MOST_ROWS) × IsTrue (is_some (entry_at rows bytes)))
    → EntryStands found.0 bytes
entry_known bytes fits found = entry_stands found.0 bytes fits found.2
