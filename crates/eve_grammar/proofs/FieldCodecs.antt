-- Public: other crates cite these lemmas. The fields are codecs.
use Rattle.std.proofs.Common.{◌≡◌, ◌*◌, ◌/◌, ◌%◌, ◌-◌, ℕ, ℤ, pos, negsuc, suc, ◌+◌, ◌^◌, ◌<◌, ◌≤◌, Bool, true, false}
use Rattle.std.proofs.Common.{◌&&◌, cond, ltb, leb, eqb, List, [], ◌∷◌, ◌++◌, length, take, drop, Some, None, refl, sym}
use Rattle.std.proofs.Common.{ap, subst, ◌∙◌, append_assoc, arith, inl, inr}
use Rattle.std.specs.Prelude.{IsTrue}
use Rattle.std.specs.Int.{w64, cast_signed, cast_unsigned}
use Rattle.std.specs.Int.RustNames.{FitsSigned, int_le}
use Rattle.std.specs.List.{list_all}
use Rattle.std.proofs.lemmas.Bool.{cases_lt, ltb-false, ltb-true, lt-ltb, le-ltb, le-leb, leb-true, eqb-true, eq-eqb}
use Rattle.std.proofs.lemmas.Bool.{and_parts, and_from}
use Rattle.std.proofs.lemmas.Int.{to_z-of_z, of_z-to_z, to_z_pos}
use Rattle.std.proofs.lemmas.Nat.{be_bytes_2, be_bytes_4, be_bytes_8}
use Rattle.std.proofs.lemmas.List.{take_at, drop_at, take-append-drop, length-append, length-take}
use Rattle.std.proofs.lemmas.Option.{same_Some}
use Rattle.byteorder.specs.Endian.{big_bytes, big_number}
use Rattle.byteorder.specs.Numbers.{big_number-reads_back, big_from-take, big_from-lt, length-bytes_high_first}
use Rattle.eve_accounts.specs.Money.{is_balance, is_saving, is_amount}
use Rattle.eve_accounts.specs.Names.{is_printable, is_name}
use Rattle.eve_smallbank.specs.Spelling.{money_text}
use Rattle.eve_grammar.specs.Limits.{is_number}
use Rattle.eve_grammar.specs.Spelling.{name_text}
use Rattle.eve_grammar.specs.Readers.{Reader, number_at, bytes_at, signed_at, led_by, behind, only, balance_at}
use Rattle.eve_grammar.specs.Readers.{saving_at, amount_at, name_at, move_at, token_at}
use Rattle.eve_grammar.proofs.Codec.{IsBytes, IsBytes-drop, IsBytes-take, bind_some, guard_some, guard_none}
use Rattle.eve_grammar.proofs.Codec.{Takes, Takes-then, Codec, Codec-as, Codec-made, Codec-led_by, Codec-both}
use Rattle.eve_grammar.proofs.Codec.{Codec-only}

-- ---- numbers

-- a number of n bytes is its bytes again
record IsWide (n : ℕ) : Type 0 where
  back : (bytes : List ℕ) → length bytes ≡ n → IsBytes bytes → big_bytes n (big_number n bytes) ≡ bytes

one_back : (bytes : List ℕ) → length bytes ≡ 1 → IsBytes bytes → big_bytes 1 (big_number 1 bytes) ≡ bytes
one_back [] len fits = absurd (omega (arith, len))
one_back (b ∷ []) len fits = let h : b < 256 = fits 0 in let e : (b * 1 + 0) % 256 ≡ b = omega arith in rw e refl
one_back (b ∷ c ∷ bytes) len fits = absurd (omega (arith, len))

wide1 : IsWide 1
wide1 = record { back = λ bytes len fits. one_back bytes len fits }

wide2 : IsWide 2
wide2 = record { back = λ bytes len fits. be_bytes_2 bytes _ len fits (omega arith) }

three_back : (bytes : List ℕ) → length bytes ≡ 3 → IsBytes bytes → big_bytes 3 (big_number 3 bytes) ≡ bytes
three_back [] len fits = absurd (omega (arith, len))
three_back (a ∷ []) len fits = absurd (omega (arith, len))
three_back (a ∷ b ∷ []) len fits = absurd (omega (arith, len))
three_back (a ∷ b ∷ c ∷ []) len fits =
    let x : a < 256 = fits 0 in
    let y : b < 256 = fits 1 in
    let z : c < 256 = fits 2 in
    let n : ℕ = a * 65536 + (b * 256 + (c * 1 + 0)) in
    let first : n / 65536 % 256 ≡ a = omega arith in
    let second : n / 256 % 256 ≡ b = omega arith in
    let third : n % 256 ≡ c = omega arith in
    rw (first, second, third) refl
three_back (a ∷ b ∷ c ∷ d ∷ bytes) len fits = absurd (omega (arith, len))

wide3 : IsWide 3
wide3 = record { back = λ bytes len fits. three_back bytes len fits }

wide4 : IsWide 4
wide4 = record { back = λ bytes len fits. be_bytes_4 bytes _ len fits (omega arith) }

wide8 : IsWide 8
wide8 = record { back = λ bytes len fits. be_bytes_8 bytes _ len fits (omega arith) }

Codec-wide : (n : ℕ) → IsWide n → Codec (big_bytes n) (is_number n) (number_at n)
Codec-wide n wide = record {
  takes = λ bytes x fits e.
      let g = guard_none (ltb (length bytes) n) (Some (big_number n bytes, drop n bytes)) x e in
      let long : n ≤ length bytes = ltb-false _ _ g.0 in
      let there : ℕ × List ℕ = (big_number n bytes, drop n bytes) in
      let same : big_number n (take n bytes) ≡ big_number n bytes = big_from-take 0 n n bytes (omega arith) in
      let prefix : big_bytes n (big_number n bytes) ≡ take n bytes = ap (big_bytes n) (sym same)
      ∙ wide.back (take n bytes) (omega (arith, length-take n bytes)) (IsBytes-take n bytes fits) in
      subst (λ (y : ℕ × List ℕ). Takes bytes (big_bytes n y.0) y.1 × IsTrue (is_number n y.0)) (same_Some there x g.1) (
        record { parts = rw prefix (sym (take-append-drop n bytes)); rest_fits = IsBytes-drop n bytes fits },
        lt-ltb _ _ (big_from-lt 0 n bytes fits),
      );
  again = λ x rest fits.
      let len : length (big_bytes n x) ≡ n = length-bytes_high_first n x in
      let long : ltb (length (big_bytes n x ++ rest)) n ≡ false =
      le-ltb _ _ (omega (arith, length-append (big_bytes n x) rest)) in
      rw (long, drop_at (big_bytes n x) rest n len, big_number-reads_back n x rest (ltb-true _ _ fits)) refl;
}

pub Codec-number1 : Codec (big_bytes 1) (is_number 1) (number_at 1)
Codec-number1 = Codec-wide 1 wide1

pub Codec-number2 : Codec (big_bytes 2) (is_number 2) (number_at 2)
Codec-number2 = Codec-wide 2 wide2

pub Codec-number3 : Codec (big_bytes 3) (is_number 3) (number_at 3)
Codec-number3 = Codec-wide 3 wide3

pub Codec-number4 : Codec (big_bytes 4) (is_number 4) (number_at 4)
Codec-number4 = Codec-wide 4 wide4

pub Codec-number8 : Codec (big_bytes 8) (is_number 8) (number_at 8)
Codec-number8 = Codec-wide 8 wide8

-- ---- bytes as they are

all_bytes : (bytes : List ℕ) → IsBytes bytes → IsTrue (list_all (is_number 1) bytes)
all_bytes [] fits = refl
all_bytes (b ∷ bytes) fits = and_from (ltb b 256) (list_all (is_number 1) bytes) (lt-ltb b 256 (fits 0))
    (all_bytes bytes (λ i. fits (suc i)))

abbrev pub are_bytes : ℕ → List ℕ → Bool
are_bytes n x = eqb (length x) n && list_all (is_number 1) x

pub Codec-bytes : (n : ℕ) → Codec (λ (x : List ℕ). x) (are_bytes n) (bytes_at n)
Codec-bytes n = record {
  takes = λ bytes x fits e.
      let there : List ℕ × List ℕ = (take n bytes, drop n bytes) in
      let g = guard_none (ltb (length bytes) n) (Some there) x e in
      let long : n ≤ length bytes = ltb-false _ _ g.0 in
      let len : length (take n bytes) ≡ n = omega (arith, length-take n bytes) in
      subst (λ (y : List ℕ × List ℕ). Takes bytes y.0 y.1 × IsTrue (are_bytes n y.0)) (same_Some there x g.1) (
        record { parts = sym (take-append-drop n bytes); rest_fits = IsBytes-drop n bytes fits },
        and_from (eqb (length (take n bytes)) n) (list_all (is_number 1) (take n bytes)) (eq-eqb _ _ len)
            (all_bytes (take n bytes) (IsBytes-take n bytes fits)),
      );
  again = λ x rest fits.
      let len : length x ≡ n = eqb-true (length x) n (and_parts (eqb (length x) n) (list_all (is_number 1) x) fits).0 in
      let long : ltb (length (x ++ rest)) n ≡ false = le-ltb _ _ (omega (arith, length-append x rest)) in
      rw (long, take_at x rest n len, drop_at x rest n len) refl;
}

pub Codec-token : Codec (λ (x : List ℕ). x) (are_bytes 32) token_at
unfolding token_at
Codec-token = Codec-bytes 32

-- ---- money

-- a number of 64 bits
abbrev pub is_signed : ℤ → Bool
is_signed z = int_le (negsuc (2 ^ 63 - 1)) z && int_le z (pos (2 ^ 63 - 1))

signed_fits : (z : ℤ) → FitsSigned w64 z → IsTrue (is_signed z)
signed_fits (pos n) f = let h = f.sfits in le-leb n (2 ^ 63 - 1) (omega arith)
signed_fits (negsuc n) f = let h = f.sfits in and_from (leb n (2 ^ 63 - 1)) true (le-leb n (2 ^ 63 - 1) (omega arith))
    refl

fits_signed : (z : ℤ) → IsTrue (is_signed z) → FitsSigned w64 z
fits_signed (pos n) h = let p = and_parts true (leb n (2 ^ 63 - 1)) h in let q = leb-true n (2 ^ 63 - 1) p.1 in
    record { sfits = omega arith }
fits_signed (negsuc n) h = let p = and_parts (leb n (2 ^ 63 - 1)) true h in let q = leb-true n (2 ^ 63 - 1) p.0 in
    record { sfits = omega arith }

fits_from_bits : (x : ℕ) → x < 256 ^ 8 → FitsSigned w64 (cast_signed w64 x)
fits_from_bits x h =
    elim (cases_lt x (2 ^ 63)) [
      | inl lt ↦ let e : cast_signed w64 x ≡ pos x = to_z_pos w64 x lt in rw e (record { sfits = lt })
      | inr le ↦ let test : ltb x (2 ^ 63) ≡ false = le-ltb x (2 ^ 63) le in rw test (record { sfits = omega arith })
    ]

bits_below : (z : ℤ) → FitsSigned w64 z → cast_unsigned w64 z < 256 ^ 8
bits_below (pos n) f = let h = f.sfits in omega arith
bits_below (negsuc n) f = omega arith

pub Codec-signed : Codec money_text is_signed signed_at
Codec-signed =
    Codec-made (big_bytes 8) (is_number 8) (number_at 8) (cast_signed w64) (cast_unsigned w64) is_signed
    (λ x fits. let h = ltb-true x (256 ^ 8) fits in
    (of_z-to_z w64 x h, signed_fits (cast_signed w64 x) (fits_from_bits x h)))
    (λ z fits. let h = fits_signed z fits in
    (to_z-of_z w64 z h, lt-ltb (cast_unsigned w64 z) (256 ^ 8) (bits_below z h))) Codec-number8

-- a range within 64 bits
within : (low high : ℕ) (z : ℤ) → low < 2 ^ 63 → high < 2 ^ 63 → IsTrue (int_le (negsuc low) z && int_le z (pos high))
    → IsTrue (is_signed z)
within low high (pos n) l h fits = let p = and_parts true (leb n high) fits in let q = leb-true n high p.1 in
    le-leb n (2 ^ 63 - 1) (omega arith)
within low high (negsuc n) l h fits = let p = and_parts (leb n low) true fits in let q = leb-true n low p.0 in
    and_from (leb n (2 ^ 63 - 1)) true (le-leb n (2 ^ 63 - 1) (omega arith)) refl

-- a signed number that passes a test, within 64 bits
Codec-within : (test : ℤ → Bool) → ((z : ℤ) → IsTrue (test z) → IsTrue (is_signed z))
    → Codec money_text test (only test signed_at)
Codec-within test small =
    Codec-as money_text money_text (λ z. test z && is_signed z) test (only test signed_at) (λ z fits. refl)
    (λ z fits. (and_parts (test z) (is_signed z) fits).0)
    (λ z fits. and_from (test z) (is_signed z) fits (small z fits))
    (Codec-only money_text is_signed signed_at test Codec-signed)

pub balance_signed : (z : ℤ) → IsTrue (is_balance z) → IsTrue (is_signed z)
balance_signed z fits = within 999999999999999 1000000000000000 z (omega arith) (omega arith) fits

pub Codec-balance : Codec money_text is_balance balance_at
unfolding balance_at
Codec-balance = Codec-within is_balance balance_signed

pub Codec-saving : Codec money_text is_saving saving_at
unfolding saving_at
Codec-saving = Codec-within is_saving (λ z fits. balance_signed z (and_parts (is_balance z) (int_le (pos 0) z) fits).0)

pub Codec-amount : Codec money_text is_amount amount_at
unfolding amount_at
Codec-amount = Codec-within is_amount (λ z fits. within 999999999999 1000000000000 z (omega arith) (omega arith) fits)

-- ---- names

one_byte : (x : ℕ) → x < 256 → big_bytes 1 x ≡ x ∷ []
one_byte x h = let e : x % 256 ≡ x = omega arith in rw e refl

printable_bytes : (name : List ℕ) → IsTrue (list_all is_printable name) → IsTrue (list_all (is_number 1) name)
printable_bytes [] fits = refl
printable_bytes (b ∷ name) fits =
    let p = and_parts (is_printable b) (list_all is_printable name) fits in
    let q = leb-true b 126 (and_parts (leb 33 b) (leb b 126) p.0).1 in
    and_from (ltb b 256) (list_all (is_number 1) name) (lt-ltb b 256 (omega arith)) (printable_bytes name p.1)

abbrev is_counted : List ℕ → Bool
is_counted name = is_number 1 (length name) && are_bytes (length name) name

name_counted : (name : List ℕ) → IsTrue (is_name name) → IsTrue (is_counted name)
name_counted name fits =
    let p = and_parts (leb 1 (length name)) (leb (length name) 24 && list_all is_printable name) fits in
    let q = and_parts (leb (length name) 24) (list_all is_printable name) p.1 in
    let r = leb-true (length name) 24 q.0 in
    and_from (is_number 1 (length name)) (are_bytes (length name) name) (lt-ltb (length name) 256 (omega arith))
    (and_from (eqb (length name) (length name)) (list_all (is_number 1) name) (eq-eqb (length name) (length name) refl)
    (printable_bytes name q.1))

pub Codec-name : Codec name_text is_name name_at
unfolding name_at
Codec-name =
    Codec-as (λ (name : List ℕ). big_bytes 1 (length name) ++ name) name_text (λ name. is_name name && is_counted name)
    is_name (only is_name (led_by (number_at 1) bytes_at))
    (λ name fits. let p = and_parts (is_name name) (is_counted name) fits in
    let q = and_parts (is_number 1 (length name)) (are_bytes (length name) name) p.1 in
    ap (λ (b : List ℕ). b ++ name) (one_byte (length name) (ltb-true (length name) 256 q.0)))
    (λ name fits. (and_parts (is_name name) (is_counted name) fits).0)
    (λ name fits. and_from (is_name name) (is_counted name) fits (name_counted name fits))
    (Codec-only (λ (name : List ℕ). big_bytes 1 (length name) ++ name) is_counted (led_by (number_at 1) bytes_at)
    is_name
    (Codec-led_by (big_bytes 1) (is_number 1) (number_at 1) (λ (x : List ℕ). x) are_bytes bytes_at
    (λ (x : List ℕ). length x)
    (λ n x fits. eqb-true (length x) n (and_parts (eqb (length x) n) (list_all (is_number 1) x) fits).0) Codec-number1
    Codec-bytes))

abbrev pub move_text : List ℕ × ℤ → List ℕ
move_text m = name_text m.0 ++ money_text m.1

abbrev pub is_move : List ℕ × ℤ → Bool
is_move m = is_name m.0 && is_amount m.1

pub Codec-move : Codec move_text is_move move_at
unfolding move_at
Codec-move = Codec-both name_text is_name name_at money_text is_amount amount_at Codec-name Codec-amount

-- ---- a field after a number that is always the same

pub Codec-behind : {A : Type 0} (n number : ℕ) (ta : A → List ℕ) (fa : A → Bool) (ra : Reader A)
    → Codec (big_bytes n) (is_number n) (number_at n) → IsTrue (is_number n number) → Codec ta fa ra
    → Codec (λ a. big_bytes n number ++ ta a) fa (behind n number ra)
Codec-behind {A = A} n number ta fa ra wide fit one = record {
  takes = λ bytes x fits e.
      let a = bind_some (number_at n bytes) (λ a. cond (eqb a.0 number) (ra a.1) None) x e in
      let g = guard_some (eqb a.0.0 number) (ra a.0.1) x a.2 in
      let first = wide.takes bytes a.0 fits a.1 in
      let here : Takes bytes (big_bytes n number) a.0.1 = subst (λ (k : ℕ). Takes bytes (big_bytes n k) a.0.1)
      (eqb-true a.0.0 number g.0) first.0 in
      let second = one.takes a.0.1 x first.0.rest_fits g.1 in
      (Takes-then bytes (big_bytes n number) a.0.1 (ta x.0) x.1 here second.0, second.1);
  again = λ x rest fits.
      let regrouped : (big_bytes n number ++ ta x) ++ rest ≡ big_bytes n number ++ (ta x ++ rest) =
      append_assoc (big_bytes n number) (ta x) rest in
      let same : eqb number number ≡ true = eq-eqb number number refl in
      ap (behind n number ra) regrouped ∙ rw (wide.again number (ta x ++ rest) fit, same) (one.again x rest fits);
}
