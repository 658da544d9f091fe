-- Numbers and their one spelling.
use Rattle.std.proofs.Common.{Option, Some, None, IfNone, int_lt, IsTrue, ℤ, pos, negsuc, leb-true, ◌≡◌, ◌≢◌, ℕ, zero}
use Rattle.std.proofs.Common.{suc, ◌+◌, ◌-◌, ◌*◌, ◌^◌, ◌<◌, ◌<ℤ◌, ◌≤◌, List, ◌∷◌, length, take, drop, get_or, sym, ap}
use Rattle.std.proofs.Common.{subst, ◌∙◌, arith}
use Rattle.std.specs.Fmt.{decimal, signed_decimal}
use Rattle.std.specs.Int.RustNames.{int_le}
use Rattle.eve_accounts.specs.declared.limits.TheConstants.{MOST_BALANCE}
use Rattle.eve_accounts.specs.Money.{is_balance, is_saving, is_amount, amount_of}
use Rattle.std.specs.Char.{digit_value}
use Rattle.std.specs.Str.Parse.{digits_value, AllDigits}
use Rattle.std.proofs.lemmas.Fmt.{decimal_is_IsNumeral, decimal-digits_value, first_decimal, decimal_digit}
use Rattle.std.proofs.lemmas.Fmt.{decimal_injective, signed_decimal_injective}
use Rattle.std.proofs.lemmas.Bool.{and_parts, cond-true, ltb-true}
use Rattle.std.proofs.lemmas.Int.{ints}
use Rattle.std.proofs.lemmas.Int.Digits.{digits_value_more, digits_more}
use Rattle.std.proofs.lemmas.Str.Parse.{IsNumeralModel, numerals_by_value, tells_digits, digit_at, digits_value-take-le}
use Rattle.std.proofs.lemmas.Bool.Decides.{nat_tests}
use lib.Signed.{mag}
use Rattle.eve_workload.specs.inner.Words.{BeginsAsNumber}

own : IsNumeralModel (AllDigits 10) (digits_value 10)
own = numerals_by_value (AllDigits 10) tells_digits

value_of_digit : (c : ℕ) → 48 ≤ c → c ≤ 57 → digit_value c ≡ c - 48
value_of_digit c low high = grind (arith, nat_tests)

-- one more digit
pub number_more : (word : List ℕ) (i value digit next : ℕ) → i < length word → digit ≡ get_or word i 0
    → value ≡ digits_value 10 (take i word) → AllDigits 10 (take i word) → 48 ≤ digit → digit ≤ 57
    → next ≡ value * 10 + (digit - 48) → (next ≡ digits_value 10 (take (i + 1) word)) × AllDigits 10 (take (i + 1) word)
number_more word i value digit next there read so_far digits low high more =
    let here : digit_value (get_or word i 0) ≡ digit - 48 = subst (λ c. digit_value c ≡ digit - 48) read
    (value_of_digit digit low high) in
    let step = digits_value_more 10 word i there in
    (omega (arith, step, here, so_far, more), digits_more 10 word i there digits (omega (arith, here)))

-- a digit that isn't one, or too high a number
pub number_stops : (word : List ℕ) (i value digit n : ℕ) → i < length word → digit ≡ get_or word i 0
    → value ≡ digits_value 10 (take i word) → (48 ≤ digit → digit ≤ 57 → 2 ^ 64 ≤ value * 10 + (digit - 48))
    → n < 2 ^ 64 → word ≢ decimal n
number_stops word i value digit n there read so_far stops small spelled =
    let numeral = decimal_is_IsNumeral n small in
    let digits : AllDigits 10 word = subst (AllDigits 10) (sym spelled) numeral.0.1 in
    let whole : digits_value 10 word ≡ n = ap (digits_value 10) spelled ∙ numeral.1 in
    let range = digit_at word i digits there in
    let high = stops (omega (arith, read, range.0)) (omega (arith, read, range.1)) in
    let here : digit_value (get_or word i 0) ≡ digit - 48 = subst (λ c. digit_value c ≡ digit - 48) read
    (value_of_digit digit (omega (arith, read, range.0)) (omega (arith, read, range.1))) in
    let step = digits_value_more 10 word i there in
    let most = digits_value-take-le 10 word (i + 1) (omega arith) in
    omega (arith, step, here, so_far, most, whole, high)

-- how the spelling of a number begins
pub number_begins : (word : List ℕ) (n : ℕ) → n < 2 ^ 64 → word ≡ decimal n → BeginsAsNumber word
number_begins word zero small spelled =
    let one = ap length spelled ∙ ap length (decimal_digit 0 (omega arith)) in
    record { some = omega (arith, one); leads = λ _. one }
number_begins word (suc n) small spelled =
    let first = first_decimal (suc n) (omega arith) small in
    record {
      some = omega (arith, (decimal_is_IsNumeral (suc n) small).0.0, ap length spelled);
      leads = λ zero_first. absurd (omega (arith, first, zero_first, ap (λ w. get_or w 0 0) spelled));
    }

-- all digits
pub number_whole : (word : List ℕ) (value : ℕ) → BeginsAsNumber word → value ≡ digits_value 10 word → AllDigits 10 word
    → value < 2 ^ 64 → word ≡ decimal value
number_whole word value begins is digits small =
    sym (ap decimal is ∙ decimal-digits_value own word digits begins.some begins.leads (omega (arith, is, small)))

-- a number past a limit
pub too_high : (word : List ℕ) (value limit n : ℕ) → word ≡ decimal value → value < 2 ^ 64 → limit ≤ value → n < limit
    → word ≢ decimal n
too_high word value limit n is small high low spelled =
    omega (arith, decimal_injective value n small (omega arith) (sym is ∙ spelled))

-- ---- with a sign

not_minus : (n : ℕ) (digits : List ℕ) → n < 2 ^ 64 → 45 ∷ digits ≢ decimal n
not_minus n digits small spelled =
    let numeral = decimal_is_IsNumeral n small in
    let range = digit_at (decimal n) 0 numeral.0.1 numeral.0.0 in
    omega (arith, range.0, ap (λ w. get_or w 0 0) spelled)

balance_pos : (n : ℕ) → IsTrue (is_balance (pos n)) → n ≤ 1000000000000000
balance_pos n right = leb-true _ _
    (and_parts (int_le (negsuc 999999999999999) (pos n)) (int_le (pos n) (pos 1000000000000000)) right).1

balance_negsuc : (n : ℕ) → IsTrue (is_balance (negsuc n)) → n ≤ 999999999999999
balance_negsuc n right =
    leb-true _ _ (and_parts (int_le (negsuc 999999999999999) (negsuc n)) (int_le (negsuc n) (pos 1000000000000000))
    right).0

pub negative_unread : (digits : List ℕ) → ((n : ℕ) → n < 2 ^ 64 → digits ≢ decimal n) → (z : ℤ) → IsTrue (is_balance z)
    → 45 ∷ digits ≢ signed_decimal z
negative_unread digits unread (pos n) right spelled = not_minus n digits (omega (arith, balance_pos n right)) spelled
negative_unread digits unread (negsuc n) right spelled =
    unread (suc n) (omega (arith, balance_negsuc n right)) (ap (drop 1) spelled)

pub negative_outside : (digits : List ℕ) (value : ℕ) → digits ≡ decimal value → value < 2 ^ 64
    → (1 ≤ value → MOST_BALANCE <ℤ pos value) → (z : ℤ) → IsTrue (is_balance z) → 45 ∷ digits ≢ signed_decimal z
negative_outside digits value is small outside (pos n) right spelled =
    not_minus n digits (omega (arith, balance_pos n right)) spelled
negative_outside digits value is small outside (negsuc n) right spelled =
    let low = balance_negsuc n right in
    let same : value ≡ suc n = decimal_injective value (suc n) small (omega arith) (sym is ∙ ap (drop 1) spelled) in
    let high = outside (omega arith) in
    omega (arith, ints)

pub positive_outside : (word : List ℕ) (value : ℕ) → word ≡ decimal value → value < 2 ^ 64
    → MOST_BALANCE <ℤ pos value → get_or word 0 0 ≢ 45 → (z : ℤ) → IsTrue (is_balance z) → word ≢ signed_decimal z
positive_outside word value is small high plain (pos n) right spelled =
    let low = balance_pos n right in
    omega (arith, ints, decimal_injective value n small (omega arith) (sym is ∙ spelled))
positive_outside word value is small high plain (negsuc n) right spelled = plain (ap (λ w. get_or w 0 0) spelled)

balance_mag : (z : ℤ) → IsTrue (is_balance z) → mag z < 2 ^ 63
balance_mag (pos n) right = omega (arith, balance_pos n right)
balance_mag (negsuc n) right = omega (arith, balance_negsuc n right)

-- a word spells one balance
pub same_balance : (word : List ℕ) (y z : ℤ) → IsTrue (is_balance y) → IsTrue (is_balance z) → word ≡ signed_decimal y
    → word ≡ signed_decimal z → y ≡ z
same_balance word y z right_y right_z is_y is_z =
    signed_decimal_injective y z (balance_mag y right_y) (balance_mag z right_z) (sym is_y ∙ is_z)

pub saving_balance : (z : ℤ) → IsTrue (is_saving z) → IsTrue (is_balance z)
saving_balance z right = (and_parts (is_balance z) (int_le (pos 0) z) right).0

pub amount_balance : (z : ℤ) → IsTrue (is_amount z) → IsTrue (is_balance z)
amount_balance (pos n) right = grind (arith, nat_tests)
amount_balance (negsuc n) right = grind (arith, nat_tests)

pub amount_outside : (word : List ℕ) (cents : ℤ) (r : Option ℤ) → r ≡ amount_of cents → IsTrue (is_balance cents)
    → word ≡ signed_decimal cents → IfNone r ((z : ℤ) → IsTrue (is_amount z) → word ≢ signed_decimal z)
amount_outside word cents (Some x) is right spelled = tt
amount_outside word cents None is right spelled = λ z amount other.
    let same : cents ≡ z = same_balance word cents z right (amount_balance z amount) spelled other in
    let there : amount_of z ≡ Some z = cond-true (is_amount z) (Some z) None amount in
    let missing : None ≡ amount_of z = is ∙ ap amount_of same in
    cc

pub saving_outside : (word : List ℕ) (cents : ℤ) → IsTrue (int_lt cents (pos 0)) → IsTrue (is_balance cents)
    → word ≡ signed_decimal cents → (z : ℤ) → IsTrue (is_saving z) → word ≢ signed_decimal z
saving_outside word cents low right spelled z saves other =
    let same : cents ≡ z = same_balance word cents z right (saving_balance z saves) spelled other in
    not_low z (subst (λ y. IsTrue (int_lt y (pos 0))) same low) (and_parts (is_balance z) (int_le (pos 0) z) saves).1
  where
    not_low : (y : ℤ) → IsTrue (int_lt y (pos 0)) → IsTrue (int_le (pos 0) y) → ⊥
    not_low (pos n) low high = omega (arith, ltb-true n 0 low)
    not_low (negsuc n) low high = cc
