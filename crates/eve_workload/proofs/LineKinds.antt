-- The kind of a line by the number of its words.
use Rattle.std.proofs.Common.{◌≡◌, ◌≢◌, ℕ, List, [], ◌∷◌, length, get_or, codes, IsTrue, ap, sym, ◌∙◌, refl, arith}
use Rattle.eve_smallbank.specs.SmallBank.{Request, Balance, DepositChecking, TransactSaving, Amalgamate, WriteCheck}
use Rattle.eve_grammar.specs.Trace.{Asked, Customer}
use Rattle.eve_grammar.specs.Limits.{is_asked, is_customer}
use Rattle.eve_workload.specs.declared.deployment.Deployment.{Deployment}
use Rattle.eve_workload.specs.Lines.{Line, HeadLine, CustomerLine, BatchLine, RequestLine, line_words, request_words}
use Rattle.eve_workload.specs.Steps.{is_line}

short_request : (client number : List ℕ) (r : Request) → length (request_words client number r) ≡ 6 → ⊥
short_request client number (Balance name) six = omega (arith, six)
short_request client number (DepositChecking name amount) six = omega (arith, six)
short_request client number (TransactSaving name amount) six = omega (arith, six)
short_request client number (Amalgamate from to) six = omega (arith, six)
short_request client number (WriteCheck name amount) six = omega (arith, six)

pub with_five : (l : Line) (words : List (List ℕ)) → length words ≡ 5 → line_words l ≡ words
    → ((a : Asked) → l ≡ RequestLine a → ⊥) → ⊥
with_five (HeadLine d) words five is other = omega (arith, five, ap length is)
with_five (CustomerLine c) words five is other = omega (arith, five, ap length is)
with_five BatchLine words five is other = omega (arith, five, ap length is)
with_five (RequestLine a) words five is other = other a refl

pub with_six : (l : Line) (words : List (List ℕ)) → length words ≡ 6 → line_words l ≡ words
    → ((d : Deployment) → l ≡ HeadLine d → ⊥) → ⊥
with_six (HeadLine d) words six is other = other d refl
with_six (CustomerLine c) words six is other = omega (arith, six, ap length is)
with_six BatchLine words six is other = omega (arith, six, ap length is)
with_six (RequestLine a) words six is other = short_request _ _ a.request (ap length is ∙ six)

abbrev FourWords : List ℕ → List ℕ → List ℕ → List ℕ → List (List ℕ)
FourWords kind a b d = kind ∷ a ∷ b ∷ d ∷ []

short_kind : (client number kind a b d : List ℕ) (r : Request) → request_words client number r ≡ FourWords kind a b d
    → codes "balance" ≡ kind
short_kind client number kind a b d (Balance name) is = ap (λ ws. get_or ws 0 []) is
short_kind client number kind a b d (DepositChecking name amount) is = absurd (omega (arith, ap length is))
short_kind client number kind a b d (TransactSaving name amount) is = absurd (omega (arith, ap length is))
short_kind client number kind a b d (Amalgamate from to) is = absurd (omega (arith, ap length is))
short_kind client number kind a b d (WriteCheck name amount) is = absurd (omega (arith, ap length is))

-- a line of four words of which the first is `customer` is a customer
pub no_customer : (l : Line) (kind a b d : List ℕ) → kind ≡ codes "customer" → IsTrue (is_line l)
    → ((c : Customer) → IsTrue (is_customer c) → line_words (CustomerLine c) ≢ FourWords (codes "customer") a b d)
    → line_words l ≢ FourWords kind a b d
no_customer (HeadLine h) kind a b d named right none is = omega (arith, ap length is)
no_customer (CustomerLine c) kind a b d named right none is =
    none c right (is ∙ ap (λ k. FourWords k a b d) named)
no_customer BatchLine kind a b d named right none is = omega (arith, ap length is)
no_customer (RequestLine r) kind a b d named right none is =
    let first : 98 ≡ 99 = ap (λ w. get_or w 0 0) (short_kind _ _ kind a b d r.request is ∙ named) in
    omega (arith, first)

-- any other line of four words is a request
pub no_short_request : (l : Line) (kind a b d : List ℕ) → kind ≢ codes "customer" → IsTrue (is_line l)
    → ((r : Asked) → IsTrue (is_asked r) → line_words (RequestLine r) ≢ FourWords kind a b d)
    → line_words l ≢ FourWords kind a b d
no_short_request (HeadLine h) kind a b d other right none is = omega (arith, ap length is)
no_short_request (CustomerLine c) kind a b d other right none is = other (sym (ap (λ ws. get_or ws 0 []) is))
no_short_request BatchLine kind a b d other right none is = omega (arith, ap length is)
no_short_request (RequestLine r) kind a b d other right none is = none r right is

-- the words of a request are four or five
many_words : (client number : List ℕ) (r : Request) (n : ℕ) → length (request_words client number r) ≡ n → n ≢ 4 → n ≢ 5
    → ⊥
many_words client number (Balance name) n is four five = four (omega (arith, is))
many_words client number (DepositChecking name amount) n is four five = five (omega (arith, is))
many_words client number (TransactSaving name amount) n is four five = five (omega (arith, is))
many_words client number (Amalgamate from to) n is four five = five (omega (arith, is))
many_words client number (WriteCheck name amount) n is four five = five (omega (arith, is))

-- no line has another number of words
pub no_such_line : (l : Line) (words : List (List ℕ)) → length words ≢ 1 → length words ≢ 4 → length words ≢ 5
    → length words ≢ 6 → line_words l ≢ words
no_such_line (HeadLine d) words one four five six is = six (omega (arith, ap length is))
no_such_line (CustomerLine c) words one four five six is = four (omega (arith, ap length is))
no_such_line BatchLine words one four five six is = one (omega (arith, ap length is))
no_such_line (RequestLine a) words one four five six is = many_words _ _ a.request (length words)
    (ap length is) four five
