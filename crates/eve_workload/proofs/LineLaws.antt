-- A line is spelled once, and its words have no space and no line feed in them.
use Rattle.std.proofs.Common.{◌≡◌, ◌≢◌, ℕ, ℤ, pos, negsuc, suc, ◌^◌, ◌<◌, ◌≤◌, true, false, ◌&&◌, IsTrue}
use Rattle.std.proofs.Common.{nat_le, List, [], ◌∷◌, ◌++◌, length, drop, get_or, refl, sym, ap, ◌∙◌, arith, leb-true}
use Rattle.std.proofs.Common.{append_assoc, zero, take, length-append}
use Rattle.std.specs.List.{list_all, join_with_byte}
use Rattle.std.specs.Fmt.{decimal, signed_decimal}
use Rattle.std.specs.Int.RustNames.{int_le}
use Rattle.std.specs.Str.Parse.{AllDigits}
use Rattle.std.proofs.lemmas.Bool.{and_parts, and_from, lt-ltb, ltb-true, false≢true}
use Rattle.std.proofs.lemmas.Fmt.{decimal_is_IsNumeral, decimal_injective}
use Rattle.std.proofs.lemmas.Str.Parse.{digit_from_value}
use Rattle.std.proofs.lemmas.List.{take-append-drop}
use Rattle.eve_accounts.specs.Money.{is_balance, is_saving, is_amount}
use Rattle.eve_accounts.specs.Names.{is_printable, is_name}
use Rattle.eve_smallbank.specs.SmallBank.{Request, Balance, DepositChecking, TransactSaving, Amalgamate, WriteCheck}
use Rattle.eve_grammar.specs.Trace.{Customer, Asked}
use Rattle.eve_grammar.specs.Limits.{is_number, is_customer, is_request, is_asked}
use Rattle.eve_workload.specs.Lines.{Line, HeadLine, CustomerLine, BatchLine, RequestLine, line_words, line_text}
use Rattle.eve_workload.specs.Lines.{request_words, text_of_words}
use Rattle.eve_workload.specs.Steps.{is_line}
use Rattle.eve_workload.specs.inner.Words.{is_inside, IsFirstLine}
use Rattle.eve_workload.proofs.Decimals.{same_balance, saving_balance, amount_balance}
use Rattle.eve_workload.proofs.Deployments.{word_at, deployment_small, same_deployment}
use Rattle.eve_workload.proofs.SplitLines.{spaced, IsSplit}

-- ---- words without spaces

digits_inside : (digits : List ℕ) → AllDigits 10 digits → IsTrue (list_all is_inside digits)
digits_inside [] all = refl
digits_inside (c ∷ digits) all =
    let range = digit_from_value c all.0 in
    and_from (is_inside c) (list_all is_inside digits) (lt-ltb 32 c (omega (arith, range.0)))
    (digits_inside digits all.1)

decimal_inside : (n : ℕ) → n < 2 ^ 64 → IsTrue (list_all is_inside (decimal n))
decimal_inside n small = digits_inside (decimal n) (decimal_is_IsNumeral n small).0.1

balance_inside : (z : ℤ) → IsTrue (is_balance z) → IsTrue (list_all is_inside (signed_decimal z))
balance_inside (pos n) right =
    let most = leb-true _ _ (and_parts (int_le (negsuc 999999999999999) (pos n)) (int_le (pos n) (pos 1000000000000000))
    right).1 in
    decimal_inside n (omega (arith, most))
balance_inside (negsuc n) right =
    let most = leb-true _ _ (and_parts (int_le (negsuc 999999999999999) (negsuc n))
    (int_le (negsuc n) (pos 1000000000000000)) right).0 in
    decimal_inside (suc n) (omega (arith, most))

printable_inside : (name : List ℕ) → IsTrue (list_all is_printable name) → IsTrue (list_all is_inside name)
printable_inside [] all = refl
printable_inside (c ∷ name) all =
    let parts = and_parts (is_printable c) (list_all is_printable name) all in
    let low = leb-true 33 c (and_parts (nat_le 33 c) (nat_le c 126) parts.0).0 in
    and_from (is_inside c) (list_all is_inside name) (lt-ltb 32 c (omega (arith, low)))
    (printable_inside name parts.1)

name_inside : (name : List ℕ) → IsTrue (is_name name) → IsTrue (list_all is_inside name)
name_inside name right =
    printable_inside name
    (and_parts (nat_le (length name) 24) (list_all is_printable name)
    (and_parts (nat_le 1 (length name)) (nat_le (length name) 24 && list_all is_printable name) right).1).1

-- ---- one line for its words

first_byte : List (List ℕ) → ℕ
first_byte words = get_or (get_or words 0 []) 0 0

same_amount : (y z : ℤ) → IsTrue (is_amount y) → IsTrue (is_amount z) → signed_decimal y ≡ signed_decimal z → y ≡ z
same_amount y z right right' same = same_balance (signed_decimal y) y z (amount_balance y right)
    (amount_balance z right') refl same

same_request : (client number client' number' : List ℕ) (r q : Request) → IsTrue (is_request r) → IsTrue (is_request q)
    → request_words client number r ≡ request_words client' number' q → r ≡ q
unfolding first_byte word_at
same_request client number client' number' (Balance name) (Balance other_name) right right' same =
    ap Balance (ap (word_at 3) same)
same_request client number client' number' (Balance name) (DepositChecking other_name other_amount) right right' same =
    absurd (omega (arith, ap first_byte same))
same_request client number client' number' (Balance name) (TransactSaving other_name other_amount) right right' same =
    absurd (omega (arith, ap first_byte same))
same_request client number client' number' (Balance name) (Amalgamate other_from other_to) right right' same =
    absurd (omega (arith, ap first_byte same))
same_request client number client' number' (Balance name) (WriteCheck other_name other_amount) right right' same =
    absurd (omega (arith, ap first_byte same))
same_request client number client' number' (DepositChecking name amount) (Balance other_name) right right' same =
    absurd (omega (arith, ap first_byte same))
same_request client number client' number' (DepositChecking name amount) (DepositChecking other_name other_amount) right
    right' same = (λ k. DepositChecking (ap (word_at 3) same k)
    (same_amount amount other_amount (and_parts (is_name name) (is_amount amount) right).1
    (and_parts (is_name other_name) (is_amount other_amount) right').1 (ap (word_at 4) same) k))
same_request client number client' number' (DepositChecking name amount) (TransactSaving other_name other_amount) right
    right' same = absurd (omega (arith, ap first_byte same))
same_request client number client' number' (DepositChecking name amount) (Amalgamate other_from other_to) right right'
    same = absurd (omega (arith, ap first_byte same))
same_request client number client' number' (DepositChecking name amount) (WriteCheck other_name other_amount) right
    right' same = absurd (omega (arith, ap first_byte same))
same_request client number client' number' (TransactSaving name amount) (Balance other_name) right right' same =
    absurd (omega (arith, ap first_byte same))
same_request client number client' number' (TransactSaving name amount) (DepositChecking other_name other_amount) right
    right' same = absurd (omega (arith, ap first_byte same))
same_request client number client' number' (TransactSaving name amount) (TransactSaving other_name other_amount) right
    right' same = (λ k. TransactSaving (ap (word_at 3) same k)
    (same_amount amount other_amount (and_parts (is_name name) (is_amount amount) right).1
    (and_parts (is_name other_name) (is_amount other_amount) right').1 (ap (word_at 4) same) k))
same_request client number client' number' (TransactSaving name amount) (Amalgamate other_from other_to) right right'
    same = absurd (omega (arith, ap first_byte same))
same_request client number client' number' (TransactSaving name amount) (WriteCheck other_name other_amount) right
    right' same = absurd (omega (arith, ap first_byte same))
same_request client number client' number' (Amalgamate from to) (Balance other_name) right right' same =
    absurd (omega (arith, ap first_byte same))
same_request client number client' number' (Amalgamate from to) (DepositChecking other_name other_amount) right right'
    same = absurd (omega (arith, ap first_byte same))
same_request client number client' number' (Amalgamate from to) (TransactSaving other_name other_amount) right right'
    same = absurd (omega (arith, ap first_byte same))
same_request client number client' number' (Amalgamate from to) (Amalgamate other_from other_to) right right' same =
    (λ k. Amalgamate (ap (word_at 3) same k) (ap (word_at 4) same k))
same_request client number client' number' (Amalgamate from to) (WriteCheck other_name other_amount) right right' same =
    absurd (omega (arith, ap first_byte same))
same_request client number client' number' (WriteCheck name amount) (Balance other_name) right right' same =
    absurd (omega (arith, ap first_byte same))
same_request client number client' number' (WriteCheck name amount) (DepositChecking other_name other_amount) right
    right' same = absurd (omega (arith, ap first_byte same))
same_request client number client' number' (WriteCheck name amount) (TransactSaving other_name other_amount) right
    right' same = absurd (omega (arith, ap first_byte same))
same_request client number client' number' (WriteCheck name amount) (Amalgamate other_from other_to) right right' same =
    absurd (omega (arith, ap first_byte same))
same_request client number client' number' (WriteCheck name amount) (WriteCheck other_name other_amount) right right'
    same = (λ k. WriteCheck (ap (word_at 3) same k)
    (same_amount amount other_amount (and_parts (is_name name) (is_amount amount) right).1
    (and_parts (is_name other_name) (is_amount other_amount) right').1 (ap (word_at 4) same) k))

words_of_request : (client number : List ℕ) (r : Request) → (word_at 1 (request_words client number r) ≡ client)
    × (word_at 2 (request_words client number r) ≡ number)
unfolding word_at
words_of_request client number (Balance name) = (refl, refl)
words_of_request client number (DepositChecking name amount) = (refl, refl)
words_of_request client number (TransactSaving name amount) = (refl, refl)
words_of_request client number (Amalgamate from to) = (refl, refl)
words_of_request client number (WriteCheck name amount) = (refl, refl)

same_asked : (a b : Asked) → IsTrue (is_asked a) → IsTrue (is_asked b) → line_words (RequestLine a)
    ≡ line_words (RequestLine b) → a ≡ b
same_asked a b right right' same =
    let parts = and_parts (is_number 4 a.client) (is_number 8 a.number && is_request a.request) right in
    let parts' = and_parts (is_number 4 b.client) (is_number 8 b.number && is_request b.request) right' in
    let rest = and_parts (is_number 8 a.number) (is_request a.request) parts.1 in
    let rest' = and_parts (is_number 8 b.number) (is_request b.request) parts'.1 in
    let words = words_of_request (decimal a.client) (decimal a.number) a.request in
    let words' = words_of_request (decimal b.client) (decimal b.number) b.request in
    let low = ltb-true a.client (256 ^ 4) parts.0 in
    let low' = ltb-true b.client (256 ^ 4) parts'.0 in
    let client = decimal_injective a.client b.client (omega arith) (omega arith)
    (sym words.0 ∙ ap (word_at 1) same ∙ words'.0) in
    let number = decimal_injective a.number b.number (ltb-true a.number (256 ^ 8) rest.0)
    (ltb-true b.number (256 ^ 8) rest'.0) (sym words.1 ∙ ap (word_at 2) same ∙ words'.1) in
    let request = same_request _ _ _ _ a.request b.request rest.1 rest'.1 same in
    (λ k. record { client = client k; number = number k; request = request k })

-- ---- the same for all kinds

same_customer : (c e : Customer) → IsTrue (is_customer c) → IsTrue (is_customer e) → line_words (CustomerLine c)
    ≡ line_words (CustomerLine e) → c ≡ e
unfolding word_at
same_customer c e right right' same =
    let money = (and_parts (is_name c.name) (is_saving c.saving && is_balance c.checking) right).1 in
    let money' = (and_parts (is_name e.name) (is_saving e.saving && is_balance e.checking) right').1 in
    let parts = and_parts (is_saving c.saving) (is_balance c.checking) money in
    let parts' = and_parts (is_saving e.saving) (is_balance e.checking) money' in
    let saving = same_balance (signed_decimal c.saving) c.saving e.saving (saving_balance c.saving parts.0)
    (saving_balance e.saving parts'.0) refl (ap (word_at 2) same) in
    let checking = same_balance (signed_decimal c.checking) c.checking e.checking parts.1 parts'.1 refl
    (ap (word_at 3) same) in
    (λ k. record { name = ap (word_at 1) same k; saving = saving k; checking = checking k })

four_or_five : (client number : List ℕ) (r : Request) → (4 ≤ length (request_words client number r))
    × (length (request_words client number r) ≤ 5)
four_or_five client number (Balance name) = (omega arith, omega arith)
four_or_five client number (DepositChecking name amount) = (omega arith, omega arith)
four_or_five client number (TransactSaving name amount) = (omega arith, omega arith)
four_or_five client number (Amalgamate from to) = (omega arith, omega arith)
four_or_five client number (WriteCheck name amount) = (omega arith, omega arith)

not_customer : (c : Customer) (client number : List ℕ) (r : Request) → line_words (CustomerLine c)
    ≡ request_words client number r → ⊥
unfolding first_byte
not_customer c client number (Balance name) same = omega (arith, ap first_byte same)
not_customer c client number (DepositChecking name amount) same = omega (arith, ap first_byte same)
not_customer c client number (TransactSaving name amount) same = omega (arith, ap first_byte same)
not_customer c client number (Amalgamate from to) same = omega (arith, ap first_byte same)
not_customer c client number (WriteCheck name amount) same = omega (arith, ap length same)

pub same_line : (l m : Line) → IsTrue (is_line l) → IsTrue (is_line m) → line_words l ≡ line_words m → l ≡ m
same_line (HeadLine d) (HeadLine e) right right' same =
    ap HeadLine (same_deployment d e (deployment_small d right) (deployment_small e right') same)
same_line (HeadLine d) (CustomerLine e) right right' same = absurd (omega (arith, ap length same))
same_line (HeadLine d) BatchLine right right' same = absurd (omega (arith, ap length same))
same_line (HeadLine d) (RequestLine b) right right' same =
    absurd (omega (arith, ap length same, (four_or_five (decimal b.client) (decimal b.number) b.request).1))
same_line (CustomerLine c) (HeadLine e) right right' same = absurd (omega (arith, ap length same))
same_line (CustomerLine c) (CustomerLine e) right right' same = ap CustomerLine (same_customer c e right right' same)
same_line (CustomerLine c) BatchLine right right' same = absurd (omega (arith, ap length same))
same_line (CustomerLine c) (RequestLine b) right right' same = absurd (not_customer c _ _ b.request same)
same_line BatchLine (HeadLine e) right right' same = absurd (omega (arith, ap length same))
same_line BatchLine (CustomerLine e) right right' same = absurd (omega (arith, ap length same))
same_line BatchLine BatchLine right right' same = refl
same_line BatchLine (RequestLine b) right right' same =
    absurd (omega (arith, ap length same, (four_or_five (decimal b.client) (decimal b.number) b.request).0))
same_line (RequestLine a) (HeadLine e) right right' same =
    absurd (omega (arith, ap length same, (four_or_five (decimal a.client) (decimal a.number) a.request).1))
same_line (RequestLine a) (CustomerLine e) right right' same = absurd (not_customer e _ _ a.request (sym same))
same_line (RequestLine a) BatchLine right right' same =
    absurd (omega (arith, ap length same, (four_or_five (decimal a.client) (decimal a.number) a.request).0))
same_line (RequestLine a) (RequestLine b) right right' same = ap RequestLine (same_asked a b right right' same)

-- ---- a line has its words inside

three : (a b c : List ℕ) → IsTrue (list_all is_inside a) → IsTrue (list_all is_inside b) → IsTrue (list_all is_inside c)
    → IsTrue (list_all (list_all is_inside) (a ∷ b ∷ c ∷ []))
three a b c x y z =
    and_from (list_all is_inside a) (list_all is_inside b && (list_all is_inside c && true)) x
    (and_from (list_all is_inside b) (list_all is_inside c && true) y (and_from (list_all is_inside c) true z refl))

four : (a b c d : List ℕ) → IsTrue (list_all is_inside a) → IsTrue (list_all is_inside b)
    → IsTrue (list_all is_inside c) → IsTrue (list_all is_inside d)
    → IsTrue (list_all (list_all is_inside) (a ∷ b ∷ c ∷ d ∷ []))
four a b c d w x y z = and_from (list_all is_inside a) (list_all (list_all is_inside) (b ∷ c ∷ d ∷ [])) w
    (three b c d x y z)

request_inside : (client number : List ℕ) (r : Request) → IsTrue (list_all is_inside client)
    → IsTrue (list_all is_inside number) → IsTrue (is_request r)
    → IsTrue (list_all (list_all is_inside) (request_words client number r))
request_inside client number (Balance name) first second right = three client number name first second
    (name_inside name right)
request_inside client number (DepositChecking name amount) first second right =
    let parts = and_parts (is_name name) (is_amount amount) right in
    four client number name (signed_decimal amount) first second (name_inside name parts.0)
    (balance_inside amount (amount_balance amount parts.1))
request_inside client number (TransactSaving name amount) first second right =
    let parts = and_parts (is_name name) (is_amount amount) right in
    four client number name (signed_decimal amount) first second (name_inside name parts.0)
    (balance_inside amount (amount_balance amount parts.1))
request_inside client number (Amalgamate from to) first second right =
    let parts = and_parts (is_name from) (is_name to) right in
    four client number from to first second (name_inside from parts.0) (name_inside to parts.1)
request_inside client number (WriteCheck name amount) first second right =
    let parts = and_parts (is_name name) (is_amount amount) right in
    four client number name (signed_decimal amount) first second (name_inside name parts.0)
    (balance_inside amount (amount_balance amount parts.1))

pub line_inside : (l : Line) → IsTrue (is_line l) → IsTrue (list_all (list_all is_inside) (line_words l))
line_inside (HeadLine d) right =
    let small = deployment_small d right in
    and_from (list_all is_inside (decimal d.replicas))
    (list_all (list_all is_inside)
    (decimal d.verifiers ∷ decimal d.quorum ∷ decimal d.window ∷ decimal d.workers ∷ []))
    (decimal_inside d.replicas (omega (arith, small.replicas)))
    (four (decimal d.verifiers) (decimal d.quorum) (decimal d.window) (decimal d.workers)
    (decimal_inside d.verifiers (omega (arith, small.verifiers)))
    (decimal_inside d.quorum (omega (arith, small.quorum)))
    (decimal_inside d.window (omega (arith, small.window))) (decimal_inside d.workers (omega (arith, small.workers))))
line_inside (CustomerLine c) right =
    let parts = and_parts (is_name c.name) (is_saving c.saving && is_balance c.checking) right in
    let money = and_parts (is_saving c.saving) (is_balance c.checking) parts.1 in
    three c.name (signed_decimal c.saving) (signed_decimal c.checking) (name_inside c.name parts.0)
    (balance_inside c.saving (saving_balance c.saving money.0)) (balance_inside c.checking money.1)
line_inside BatchLine right = refl
line_inside (RequestLine a) right =
    let parts = and_parts (is_number 4 a.client) (is_number 8 a.number && is_request a.request) right in
    let rest = and_parts (is_number 8 a.number) (is_request a.request) parts.1 in
    let low = ltb-true a.client (256 ^ 4) parts.0 in
    request_inside (decimal a.client) (decimal a.number) a.request
    (decimal_inside a.client (omega arith)) (decimal_inside a.number (ltb-true a.number (256 ^ 8) rest.0)) rest.1

-- no line has more than six words
pub line_few : (l : Line) → length (line_words l) ≤ 6
line_few (HeadLine d) = omega arith
line_few (CustomerLine c) = omega arith
line_few BatchLine = omega arith
line_few (RequestLine a) = omega (arith, (four_or_five (decimal a.client) (decimal a.number) a.request).1)

pub line_some : (l : Line) → 1 ≤ length (line_words l)
line_some (HeadLine d) = omega arith
line_some (CustomerLine c) = omega arith
line_some BatchLine = omega arith
line_some (RequestLine a) = omega (arith, (four_or_five (decimal a.client) (decimal a.number) a.request).0)

-- ---- words in front of a text

first_word : (w v : List ℕ) (x y : ℕ) (r s : List ℕ) → IsTrue (list_all is_inside w) → IsTrue (list_all is_inside v)
    → is_inside x ≡ false → is_inside y ≡ false → w ++ (x ∷ r) ≡ v ++ (y ∷ s) → (w ≡ v) × (x ≡ y) × (r ≡ s)
first_word [] [] x y r s in_w in_v out_x out_y same = (refl, ap (λ t. get_or t 0 0) same, ap (drop 1) same)
first_word [] (b ∷ v) x y r s in_w in_v out_x out_y same =
    absurd (false≢true (sym out_x ∙ ap (λ t. is_inside (get_or t 0 0)) same
    ∙ (and_parts (is_inside b) (list_all is_inside v) in_v).0))
first_word (a ∷ w) [] x y r s in_w in_v out_x out_y same =
    absurd (false≢true (sym out_y ∙ ap (λ t. is_inside (get_or t 0 0)) (sym same)
    ∙ (and_parts (is_inside a) (list_all is_inside w) in_w).0))
first_word (a ∷ w) (b ∷ v) x y r s in_w in_v out_x out_y same =
    let rest = first_word w v x y r s (and_parts (is_inside a) (list_all is_inside w) in_w).1
    (and_parts (is_inside b) (list_all is_inside v) in_v).1 out_x out_y (ap (drop 1) same) in
    ((λ k. ap (λ t. get_or t 0 0) same k ∷ rest.0 k), rest.1, rest.2)

one_word : (w r : List ℕ) → text_of_words (w ∷ []) ++ r ≡ w ++ (10 ∷ r)
one_word w r = append_assoc w (10 ∷ []) r

more_words : (w v : List ℕ) (ws : List (List ℕ)) (r : List ℕ) → text_of_words (w ∷ v ∷ ws) ++ r
    ≡ w ++ (32 ∷ (text_of_words (v ∷ ws) ++ r))
more_words w v ws r =
    let rest = join_with_byte 32 (v ∷ ws) in
    append_assoc (w ++ (32 ∷ rest)) (10 ∷ []) r ∙ append_assoc w (32 ∷ rest) (10 ∷ r)
    ∙ ap (λ t. w ++ (32 ∷ t)) (sym (append_assoc rest (10 ∷ []) r))

pub unique_words : (ws vs : List (List ℕ)) (r s : List ℕ) → 1 ≤ length ws → 1 ≤ length vs
    → IsTrue (list_all (list_all is_inside) ws) → IsTrue (list_all (list_all is_inside) vs) → text_of_words ws ++ r
    ≡ text_of_words vs ++ s → ws ≡ vs
unique_words [] vs r s some some' in_ws in_vs same = absurd (omega arith)
unique_words (w ∷ ws) [] r s some some' in_ws in_vs same = absurd (omega arith)
unique_words (w ∷ []) (v ∷ []) r s some some' in_ws in_vs same =
    let first = first_word w v 10 10 r s (and_parts (list_all is_inside w) true in_ws).0
    (and_parts (list_all is_inside v) true in_vs).0 refl refl (sym (one_word w r) ∙ same ∙ one_word v s) in
    ap (λ x. x ∷ []) first.0
unique_words (w ∷ []) (v ∷ v' ∷ vs) r s some some' in_ws in_vs same =
    let first = first_word w v 10 32 r (text_of_words (v' ∷ vs) ++ s) (and_parts (list_all is_inside w) true in_ws).0
    (and_parts (list_all is_inside v) (list_all (list_all is_inside) (v' ∷ vs)) in_vs).0 refl refl
    (sym (one_word w r) ∙ same ∙ more_words v v' vs s) in
    absurd (omega (arith, first.1))
unique_words (w ∷ w' ∷ ws) (v ∷ []) r s some some' in_ws in_vs same =
    let first = first_word w v 32 10 (text_of_words (w' ∷ ws) ++ r) s
    (and_parts (list_all is_inside w) (list_all (list_all is_inside) (w' ∷ ws)) in_ws).0
    (and_parts (list_all is_inside v) true in_vs).0 refl refl (sym (more_words w w' ws r) ∙ same ∙ one_word v s) in
    absurd (omega (arith, first.1))
unique_words (w ∷ w' ∷ ws) (v ∷ v' ∷ vs) r s some some' in_ws in_vs same =
    let parts = and_parts (list_all is_inside w) (list_all (list_all is_inside) (w' ∷ ws)) in_ws in
    let parts' = and_parts (list_all is_inside v) (list_all (list_all is_inside) (v' ∷ vs)) in_vs in
    let first = first_word w v 32 32 (text_of_words (w' ∷ ws) ++ r) (text_of_words (v' ∷ vs) ++ s) parts.0 parts'.0 refl
    refl (sym (more_words w w' ws r) ∙ same ∙ more_words v v' vs s) in
    let rest = unique_words (w' ∷ ws) (v' ∷ vs) r s (omega arith) (omega arith) parts.1 parts'.1 first.2 in
    (λ k. first.0 k ∷ rest k)

spaced_words : (w : List ℕ) (ws : List (List ℕ)) (r : List ℕ) → spaced (w ∷ ws) ++ r ≡ w ++ (32 ∷ (spaced ws ++ r))
spaced_words w ws r = append_assoc (w ++ 32 ∷ []) (spaced ws) r ∙ append_assoc w (32 ∷ []) (spaced ws ++ r)

-- a line that begins with these words and a space after each has one more
more_than : (ws : List (List ℕ)) (v : List ℕ) (vs : List (List ℕ)) (r s : List ℕ)
    → IsTrue (list_all (list_all is_inside) ws) → IsTrue (list_all (list_all is_inside) (v ∷ vs)) → spaced ws ++ r
    ≡ text_of_words (v ∷ vs) ++ s → length ws ≤ length vs
more_than [] v vs r s in_ws in_vs same = omega arith
more_than (w ∷ ws) v [] r s in_ws in_vs same =
    let first = first_word w v 32 10 (spaced ws ++ r) s
    (and_parts (list_all is_inside w) (list_all (list_all is_inside) ws) in_ws).0
    (and_parts (list_all is_inside v) true in_vs).0 refl refl (sym (spaced_words w ws r) ∙ same ∙ one_word v s) in
    absurd (omega (arith, first.1))
more_than (w ∷ ws) v (v' ∷ vs) r s in_ws in_vs same =
    let parts = and_parts (list_all is_inside w) (list_all (list_all is_inside) ws) in_ws in
    let parts' = and_parts (list_all is_inside v) (list_all (list_all is_inside) (v' ∷ vs)) in_vs in
    let first = first_word w v 32 32 (spaced ws ++ r) (text_of_words (v' ∷ vs) ++ s) parts.0 parts'.0 refl refl
    (sym (spaced_words w ws r) ∙ same ∙ more_words v v' vs s) in
    let rest = more_than ws v' vs r s parts.1 parts'.1 first.2 in
    omega arith

-- a text that is split into so many words with more behind them begins with no line of so few
pub no_line_of_few : (text : List ℕ) (words : List (List ℕ)) (at : ℕ) → IsSplit text words at at → 1 ≤ length words
    → (ws : List (List ℕ)) (behind : List ℕ) → length ws ≤ length words → IsTrue (list_all (list_all is_inside) ws)
    → text ≢ text_of_words ws ++ behind
no_line_of_few text words at split some [] behind few inside is =
    let most = more_than words [] [] (drop at text) behind split.inside refl
    (sym (ap (λ t. t ++ drop at text) split.text_is) ∙ take-append-drop at text ∙ is) in
    omega arith
no_line_of_few text words at split some (w ∷ ws) behind few inside is =
    let most = more_than words w ws (drop at text) behind split.inside inside
    (sym (ap (λ t. t ++ drop at text) split.text_is) ∙ take-append-drop at text ∙ is) in
    omega arith

-- ---- the line in front of a text

words_here : (text : List ℕ) (words : List (List ℕ)) (len : ℕ) (line : Line) (behind : List ℕ)
    → IsFirstLine text words len → text ≡ line_text line ++ behind → IsTrue (is_line line) → line_words line ≡ words
words_here text words len line behind first is right =
    unique_words (line_words line) words behind (drop len text) (line_some line) first.some (line_inside line right)
    first.inside
    (sym is ∙ sym (take-append-drop len text) ∙ ap (λ t. t ++ drop len text) first.line)

pub no_line_here : (text : List ℕ) (words : List (List ℕ)) (len : ℕ) → IsFirstLine text words len
    → ((l : Line) → IsTrue (is_line l) → line_words l ≢ words) → (line : Line) (behind : List ℕ)
    → text ≡ line_text line ++ behind → IsTrue (is_line line) → ⊥
no_line_here text words len first none line behind is right =
    none line right (words_here text words len line behind first is right)

pub line_here : (text : List ℕ) (words : List (List ℕ)) (len : ℕ) (l : Line) → IsFirstLine text words len → line_words l
    ≡ words → IsTrue (is_line l) → (line : Line) (behind : List ℕ) → text ≡ line_text line ++ behind
    → IsTrue (is_line line) → line ≡ l
line_here text words len l first decoded right_l line behind is right =
    same_line line l right right_l (words_here text words len line behind first is right ∙ sym decoded)

-- a line has some bytes
pub some_bytes : (len : ℕ) (text : List ℕ) (line : Line) → take len text ≡ line_text line → 0 < len
some_bytes zero text line is =
    absurd (omega (arith, ap length is, length-append (join_with_byte 32 (line_words line)) (10 ∷ [])))
some_bytes (suc len) text line is = omega arith
