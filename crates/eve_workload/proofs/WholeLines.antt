-- The lines of a workload are right one after another, and its text has no bad line.
use Rattle.std.proofs.Common.{◌≡◌, ◌≢◌, ℕ, ◌+◌, ◌≤◌, true, nat_le, List, [], ◌∷◌, ◌++◌, map, length, AllPairs}
use Rattle.std.proofs.Common.{Contains, inl, inr, refl, sym, ap, subst, ◌∙◌, arith, length-append, append_assoc}
use Rattle.std.specs.List.{list_all, flat_map, join_with_byte}
use Rattle.std.proofs.lemmas.Bool.{and_parts, leb-true, lt-ltb, false≢true, cases_order}
use Rattle.std.proofs.lemmas.List.{append-nil, map-append, get_or_append_left, get_or_at}
use Rattle.eve_grammar.specs.Trace.{Customer, Asked}
use Rattle.eve_grammar.specs.Limits.{is_between, is_customer, is_asked, most_customers}
use Rattle.eve_workload.specs.Workload.{Workload, IsWorkload, is_listed, customer_names, requests_of}
use Rattle.eve_grammar.specs.Trace.{request_id}
use Rattle.eve_workload.specs.Lines.{Line, HeadLine, CustomerLine, BatchLine, RequestLine, line_words, line_text}
use Rattle.eve_workload.specs.Lines.{batch_lines, lines_of, workload_text}
use Rattle.eve_workload.specs.Steps.{customers_in, requests_in, batches_in, last_requests, may_follow, may_end}
use Rattle.eve_workload.specs.Steps.{IsRightBehind, AreRightLines, text_before, IsBadLine}
use Rattle.eve_workload.proofs.OneAnswer.{same_lines, follows_fewer}

-- lines with more lines after them; the nearest first
abbrev pub onto : List Line → List Line → List Line
onto before [] = before
onto before (line ∷ lines) = onto (line ∷ before) lines

pub onto-append : (before lines more : List Line) → onto before (lines ++ more) ≡ onto (onto before lines) more
onto-append before [] more = refl
onto-append before (line ∷ lines) more = onto-append (line ∷ before) lines more

onto_text : (before lines : List Line) → text_before (onto before lines)
    ≡ text_before before ++ flat_map line_text lines
onto_text before [] = sym (append-nil (text_before before))
onto_text before (line ∷ lines) = onto_text (line ∷ before) lines ∙ append_assoc (text_before before) (line_text line)
    (flat_map line_text lines)

-- ---- elements that differ

fresh : {A : Type 0} (xs ys : List A) (x : A) → AllPairs (λ a b. a ≢ b) (xs ++ x ∷ ys) → ¬ Contains xs x
fresh xs ys x apart found =
    apart found.0 (length xs) x found.1 (omega (arith, length-append xs (x ∷ ys)))
    (get_or_append_left xs (x ∷ ys) x found.0 found.1 ∙ found.2 ∙ sym (get_or_at xs x ys x (length xs) refl))

-- a text may end here, or a batch may be opened
pub record IsClosed (before : List Line) : Type 0 where
  pub ends : may_end before ≡ true
  pub opens : may_follow before BatchLine ≡ true

-- ---- customers

customers_closed : (before : List Line) (cs : List Customer) → IsClosed before
    → IsClosed (onto before (map CustomerLine cs))
customers_closed before [] closed = closed
customers_closed before (c ∷ cs) closed = customers_closed (CustomerLine c ∷ before) cs record
    { ends = refl; opens = refl }

customers_no_batches : (before : List Line) (cs : List Customer) → batches_in (onto before (map CustomerLine cs))
    ≡ batches_in before
customers_no_batches before [] = refl
customers_no_batches before (c ∷ cs) = customers_no_batches (CustomerLine c ∷ before) cs

customers_no_requests : (before : List Line) (cs : List Customer) → requests_in (onto before (map CustomerLine cs))
    ≡ requests_in before
customers_no_requests before [] = refl
customers_no_requests before (c ∷ cs) = customers_no_requests (CustomerLine c ∷ before) cs

customers_right : (format : ℕ) (before : List Line) (cs : List Customer) → AreRightLines format before
    → ((c : Customer) → may_follow before (CustomerLine c) ≡ true) → list_all is_customer cs ≡ true
    → length (customers_in before) + length cs ≤ most_customers format
    → AllPairs (λ a b. a ≢ b) (customer_names (customers_in before ++ cs))
    → AreRightLines format (onto before (map CustomerLine cs))
customers_right format before [] right follows all few apart = right
customers_right format before (c ∷ cs) right follows all few apart =
    let parts = and_parts (is_customer c) (list_all is_customer cs) all in
    let names = subst (AllPairs (λ a b. a ≢ b)) (map-append (λ (e : Customer). e.name) (customers_in before) (c ∷ cs))
    apart in
    let here : IsRightBehind format before (CustomerLine c) = record {
      follows = follows c;
      ranges = parts.0;
      room = lt-ltb (length (customers_in before)) (most_customers format) (omega arith);
      new = fresh (customer_names (customers_in before)) (customer_names cs) c.name names;
    } in
    customers_right format (CustomerLine c ∷ before) cs (here, right) (λ e. refl) parts.1
    (omega (arith, length-append (customers_in before) (c ∷ [])))
    (subst (λ xs. AllPairs (λ a b. a ≢ b) (customer_names xs)) (sym (append_assoc (customers_in before) (c ∷ []) cs))
    apart)

-- ---- requests

requests_closed : (before : List Line) (rs : List Asked) → IsClosed before → IsClosed (onto before (map RequestLine rs))
requests_closed before [] closed = closed
requests_closed before (r ∷ rs) closed = requests_closed (RequestLine r ∷ before) rs record
    { ends = refl; opens = refl }

some_closed : (before : List Line) (rs : List Asked) → 1 ≤ length rs → IsClosed (onto before (map RequestLine rs))
some_closed before [] some = absurd (omega arith)
some_closed before (r ∷ rs) some = requests_closed (RequestLine r ∷ before) rs record { ends = refl; opens = refl }

requests_no_batches : (before : List Line) (rs : List Asked) → batches_in (onto before (map RequestLine rs))
    ≡ batches_in before
requests_no_batches before [] = refl
requests_no_batches before (r ∷ rs) = requests_no_batches (RequestLine r ∷ before) rs

requests_listed : (before : List Line) (rs : List Asked) → requests_in (onto before (map RequestLine rs))
    ≡ requests_in before ++ rs
requests_listed before [] = sym (append-nil (requests_in before))
requests_listed before (r ∷ rs) = requests_listed (RequestLine r ∷ before) rs
    ∙ append_assoc (requests_in before) (r ∷ []) rs

requests_right : (format : ℕ) (before : List Line) (rs more : List Asked) → AreRightLines format before
    → ((a : Asked) → may_follow before (RequestLine a) ≡ true) → list_all is_asked rs ≡ true
    → last_requests before + length rs ≤ 256
    → AllPairs (λ p q. p ≢ q) (map request_id (requests_in before ++ (rs ++ more)))
    → AreRightLines format (onto before (map RequestLine rs))
requests_right format before [] more right follows all few apart = right
requests_right format before (r ∷ rs) more right follows all few apart =
    let parts = and_parts (is_asked r) (list_all is_asked rs) all in
    let ids = subst (AllPairs (λ p q. p ≢ q)) (map-append request_id (requests_in before) (r ∷ (rs ++ more))) apart in
    let here : IsRightBehind format before (RequestLine r) = record {
      follows = follows r;
      ranges = parts.0;
      room = lt-ltb (last_requests before) 256 (omega arith);
      new = fresh (map request_id (requests_in before)) (map request_id (rs ++ more)) (request_id r) ids;
    } in
    requests_right format (RequestLine r ∷ before) rs more (here, right) (λ a. refl) parts.1 (omega arith)
    (subst (λ xs. AllPairs (λ p q. p ≢ q) (map request_id xs))
    (sym (append_assoc (requests_in before) (r ∷ []) (rs ++ more))) apart)

-- ---- batches

batches_right : (format : ℕ) (before : List Line) (parts : List (List Asked)) → AreRightLines format before
    → IsClosed before
    → list_all is_listed parts ≡ true → batches_in before + length parts ≤ 65535
    → AllPairs (λ p q. p ≢ q) (map request_id (requests_in before ++ requests_of parts))
    → AreRightLines format (onto before (flat_map batch_lines parts))
    × IsClosed (onto before (flat_map batch_lines parts))
batches_right format before [] right closed all few apart = (right, closed)
batches_right format before (part ∷ parts) right closed all few apart =
    let both = and_parts (is_listed part) (list_all is_listed parts) all in
    let listed = and_parts (is_between 1 256 (length part)) (list_all is_asked part) both.0 in
    let count = and_parts (nat_le 1 (length part)) (nat_le (length part) 256) listed.0 in
    let opened : IsRightBehind format before BatchLine = record {
      follows = closed.opens;
      ranges = refl;
      room = lt-ltb (batches_in before) 65535 (omega arith);
      new = tt;
    } in
    let inside : List Line = onto (BatchLine ∷ before) (map RequestLine part) in
    let inside_right = requests_right format (BatchLine ∷ before) part (requests_of parts) (opened, right) (λ a. refl)
    listed.1 (let most = leb-true (length part) 256 count.1 in omega arith) apart in
    let inside_closed = some_closed (BatchLine ∷ before) part (leb-true 1 (length part) count.0) in
    let rest = batches_right format inside parts inside_right inside_closed both.1
    (omega (arith, requests_no_batches (BatchLine ∷ before) part))
    (subst (λ xs. AllPairs (λ p q. p ≢ q) (map request_id xs))
    (sym (ap (λ xs. xs ++ requests_of parts) (requests_listed (BatchLine ∷ before) part)
    ∙ append_assoc (requests_in before) part (requests_of parts))) apart) in
    subst (λ lines. AreRightLines format lines × IsClosed lines)
    (sym (onto-append (BatchLine ∷ before) (map RequestLine part) (flat_map batch_lines parts))) rest

-- ---- all lines

pub line_long : (line : Line) → 1 ≤ length (line_text line)
line_long line = omega (arith, length-append (join_with_byte 32 (line_words line)) (10 ∷ []))

module _ (w : Workload) (is : IsWorkload w) where
  -- the lines, the nearest first
  abbrev pub lines_back : List Line
  lines_back = onto [] (lines_of w)

  some_customers_closed : (before : List Line) (cs : List Customer) → 1 ≤ length cs
      → IsClosed (onto before (map CustomerLine cs))
  some_customers_closed before [] some = absurd (omega arith)
  some_customers_closed before (c ∷ cs) some = customers_closed (CustomerLine c ∷ before) cs record
      { ends = refl; opens = refl }

  pub back_right : AreRightLines w.format lines_back × IsClosed lines_back
  back_right =
      let head : List Line = HeadLine w.deployment ∷ [] in
      let head_right : AreRightLines w.format head =
      (record { follows = refl; ranges = is.deployment; room = refl; new = tt }, tt)
      in
      let inside : List Line = onto head (map CustomerLine w.customers) in
      let right : AreRightLines w.format inside = customers_right w.format head w.customers head_right (λ c. refl)
      is.customers (omega (arith, is.few_customers)) is.names in
      let closed : IsClosed inside = some_customers_closed head w.customers is.some_customers in
      let all = batches_right w.format inside w.batches right closed is.batches
      (omega (arith, is.few_batches, customers_no_batches head w.customers))
      (subst (λ xs. AllPairs (λ p q. p ≢ q) (map request_id (xs ++ requests_of w.batches)))
      (sym (customers_no_requests head w.customers)) is.request_ids) in
      subst (λ lines. AreRightLines w.format lines × IsClosed lines)
      (sym (onto-append head (map CustomerLine w.customers) (flat_map batch_lines w.batches))) all

  pub back_text : workload_text w ≡ text_before lines_back ++ []
  back_text = sym (onto_text [] (lines_of w)) ∙ sym (append-nil (text_before lines_back))

  pub no_bad_line : (n : ℕ) → ¬ IsBadLine w.format (workload_text w) n
  no_bad_line n bad =
      elim (cases_order (length bad.before) (length lines_back)) [
        | inl equal ↦
            let same = same_lines w.format w.format bad.before lines_back bad.rest [] bad.right back_right.0 equal
            (sym bad.text ∙ back_text) in
            false≢true (sym (bad.unended same.1) ∙ ap may_end same.0 ∙ back_right.1.ends)
        | inr apart ↦
            elim apart [
              | inl less ↦
                  let next = follows_fewer w.format bad.before lines_back bad.rest [] bad.right back_right.0 less
                  (sym bad.text ∙ back_text) in
                  bad.wrong next.0 next.1 next.2 next.3
              | inr more ↦
                  let next = follows_fewer w.format lines_back bad.before [] bad.rest back_right.0 bad.right more
                  (sym back_text ∙ bad.text) in
                  let long = ap length next.2 in
                  omega (arith, long, length-append (line_text next.0) next.1, line_long next.0)
            ]
      ]
