-- The lines of a text that may end make up a workload.
use Rattle.std.proofs.Common.{◌≡◌, ◌≢◌, ℕ, ◌+◌, ◌<◌, ◌≤◌, Bool, true, false, ◌&&◌, IsTrue, nat_le, List, [], ◌∷◌}
use Rattle.std.proofs.Common.{◌++◌, map, length, Some, IfSome, AllPairs, Contains, refl, sym, ap}
use Rattle.std.proofs.Common.{subst, ◌∙◌, arith, length-append, append_assoc}
use Rattle.std.specs.List.{list_all, flat_map}
use Rattle.std.proofs.lemmas.Bool.{false≢true, and_parts, and_from, le-leb, ltb-true}
use Rattle.std.proofs.lemmas.Option.{IfSome_then}
use Rattle.std.proofs.lemmas.List.{append-nil, map_push, get_or_default}
use Rattle.std.proofs.lemmas.List.Quantifiers.{all_pairs_push}
use Rattle.std.proofs.lemmas.List.Folds.{list_all-append}
use Rattle.std.proofs.lemmas.List.Concat.{flat_map-append}
use Rattle.eve_grammar.specs.Trace.{Customer, Asked}
use Rattle.eve_grammar.specs.Limits.{is_customer, is_asked}
use Rattle.eve_workload.specs.declared.deployment.Deployment.{Deployment}
use Rattle.eve_workload.specs.Workload.{Workload, IsWorkload, is_deployment, is_listed, customer_names}
use Rattle.eve_grammar.specs.Trace.{request_id}
use Rattle.eve_workload.specs.Workload.{requests_of}
use Rattle.eve_workload.specs.Lines.{Line, HeadLine, CustomerLine, BatchLine, RequestLine, line_text, batch_lines}
use Rattle.eve_workload.specs.Lines.{workload_text}
use Rattle.eve_workload.specs.Steps.{customers_in, requests_in, last_requests, may_follow, may_end}
use Rattle.eve_workload.specs.Steps.{AreRightLines, text_before}
use Rattle.eve_workload.specs.HeldWorkloads.{workload_of, IsHeldWorkload}
use Rattle.eve_workload.specs.declared.workload.Workload.TheInside.{Inside}
use Rattle.eve_workload.specs.declared.draft.Draft.{Draft}
use Rattle.eve_workload.specs.Batches.{push_last}
use Rattle.eve_workload.specs.inner.Drafts.{listed_in, deployment_in, Keeps}
use Rattle.eve_workload.proofs.TextLines.{in_batch, request_in_batch, customers_few, batches_few}
use Rattle.eve_workload.proofs.BatchLists.{batches_flat, push_last_some, batch_there, batches_counted}

lines-push_last : (part : List Asked) (parts : List (List Asked)) (a : Asked)
    → flat_map batch_lines (push_last (part ∷ parts) a) ≡ flat_map batch_lines (part ∷ parts) ++ RequestLine a ∷ []
lines-push_last part [] a =
    append-nil (batch_lines (part ++ a ∷ [])) ∙ ap (λ lines. BatchLine ∷ lines) (map_push RequestLine part a)
    ∙ ap (λ lines. lines ++ RequestLine a ∷ []) (sym (append-nil (batch_lines part)))
lines-push_last part (next ∷ parts) a =
    ap (λ rest. batch_lines part ++ rest) (lines-push_last next parts a)
    ∙ sym (append_assoc (batch_lines part) (flat_map batch_lines (next ∷ parts)) (RequestLine a ∷ []))

no_batches : (format : ℕ) (before : List Line) (c : Customer) → AreRightLines format before
    → IsTrue (may_follow before (CustomerLine c)) → listed_in before ≡ []
no_batches format [] c right follows = cc
no_batches format (HeadLine d ∷ []) c right follows = refl
no_batches format (HeadLine d ∷ (HeadLine e ∷ before)) c right follows = let wrong = right.0.follows in cc
no_batches format (HeadLine d ∷ (CustomerLine e ∷ before)) c right follows = let wrong = right.0.follows in cc
no_batches format (HeadLine d ∷ (BatchLine ∷ before)) c right follows = let wrong = right.0.follows in cc
no_batches format (HeadLine d ∷ (RequestLine e ∷ before)) c right follows = let wrong = right.0.follows in cc
no_batches format (CustomerLine e ∷ before) c right follows = no_batches format before e right.1 right.0.follows
no_batches format (BatchLine ∷ before) c right follows = cc
no_batches format (RequestLine a ∷ before) c right follows = cc

-- the lines so far, the head first
abbrev lines_so : Deployment → List Line → List Line
lines_so d before = HeadLine d ∷ (map CustomerLine (customers_in before) ++ flat_map batch_lines (listed_in before))

lines_push : (parts : List (List Asked)) (a : Asked) → 1 ≤ length parts → flat_map batch_lines (push_last parts a)
    ≡ flat_map batch_lines parts ++ RequestLine a ∷ []
lines_push [] a some = absurd (omega arith)
lines_push (part ∷ parts) a some = lines-push_last part parts a

customer_lines : (d : Deployment) (before : List Line) (c : Customer) → listed_in before ≡ []
    → lines_so d (CustomerLine c ∷ before) ≡ lines_so d before ++ CustomerLine c ∷ []
customer_lines d before c none =
    let behind : flat_map batch_lines (listed_in before) ≡ [] = ap (flat_map batch_lines) none in
    ap (λ lines. HeadLine d ∷ lines)
    ((λ k. map CustomerLine (customers_in before ++ c ∷ []) ++ behind k)
    ∙ append-nil (map CustomerLine (customers_in before ++ c ∷ []))
    ∙ map_push CustomerLine (customers_in before) c
    ∙ (λ k. (sym (append-nil (map CustomerLine (customers_in before)))
    ∙ ap (λ t. map CustomerLine (customers_in before) ++ t) (sym behind)) k ++ CustomerLine c ∷ []))

batch_line_so : (d : Deployment) (before : List Line) → lines_so d (BatchLine ∷ before)
    ≡ lines_so d before ++ BatchLine ∷ []
batch_line_so d before =
    let prefix = map CustomerLine (customers_in before) in
    ap (λ lines. HeadLine d ∷ (prefix ++ lines)) (flat_map-append batch_lines (listed_in before) ([] ∷ []))
    ∙ ap (λ lines. HeadLine d ∷ lines)
    (sym (append_assoc prefix (flat_map batch_lines (listed_in before)) (BatchLine ∷ [])))

request_line_so : (d : Deployment) (before : List Line) (a : Asked) → 1 ≤ length (listed_in before)
    → lines_so d (RequestLine a ∷ before) ≡ lines_so d before ++ RequestLine a ∷ []
request_line_so d before a some =
    let prefix = map CustomerLine (customers_in before) in
    ap (λ lines. HeadLine d ∷ (prefix ++ lines)) (lines_push (listed_in before) a some)
    ∙ ap (λ lines. HeadLine d ∷ lines)
    (sym (append_assoc prefix (flat_map batch_lines (listed_in before)) (RequestLine a ∷ [])))

text_more : (text : List ℕ) (lines more : List Line) (line : Line) → text ≡ flat_map line_text lines
    → more ≡ lines ++ line ∷ [] → text ++ line_text line ≡ flat_map line_text more
text_more text lines more line so_far are =
    (λ k. so_far k ++ sym (append-nil (line_text line)) k) ∙ sym (flat_map-append line_text lines (line ∷ []))
    ∙ ap (flat_map line_text) (sym are)

pub text_so : (format : ℕ) (before : List Line) → AreRightLines format before
    → IfSome (deployment_in before) (λ d. text_before before ≡ flat_map line_text (lines_so d before))
text_so format [] right = tt
text_so format (HeadLine d ∷ []) right = sym (append-nil (line_text (HeadLine d)))
text_so format (HeadLine d ∷ (HeadLine e ∷ before)) right = let wrong = right.0.follows in absurd (false≢true wrong)
text_so format (HeadLine d ∷ (CustomerLine c ∷ before)) right = let wrong = right.0.follows in absurd (false≢true wrong)
text_so format (HeadLine d ∷ (BatchLine ∷ before)) right = let wrong = right.0.follows in absurd (false≢true wrong)
text_so format (HeadLine d ∷ (RequestLine a ∷ before)) right = let wrong = right.0.follows in absurd (false≢true wrong)
text_so format (CustomerLine c ∷ before) right =
    IfSome_then (deployment_in before) (text_so format before right.1)
    (λ d so_far. text_more (text_before before) (lines_so d before) _ (CustomerLine c) so_far
    (customer_lines d before c (no_batches format before c right.1 right.0.follows)))
text_so format (BatchLine ∷ before) right =
    IfSome_then (deployment_in before) (text_so format before right.1)
    (λ d so_far. text_more (text_before before) (lines_so d before) _ BatchLine so_far (batch_line_so d before))
text_so format (RequestLine a ∷ before) right =
    IfSome_then (deployment_in before) (text_so format before right.1)
    (λ d so_far. text_more (text_before before) (lines_so d before) _ (RequestLine a) so_far
    (request_line_so d before a (batch_there before a right.0.follows)))

-- ---- limits

pub deployment_there : (format : ℕ) (before : List Line) → AreRightLines format before → 1 ≤ length before
    → (e : Deployment) × (deployment_in before ≡ Some e) × IsTrue (is_deployment e)
deployment_there format [] right some = absurd (omega arith)
deployment_there format (HeadLine d ∷ before) right some = (d, refl, right.0.ranges)
deployment_there format (CustomerLine c ∷ []) right some = absurd (false≢true right.0.follows)
deployment_there format (CustomerLine c ∷ (line ∷ before)) right some =
    deployment_there format (line ∷ before) right.1 (omega arith)
deployment_there format (BatchLine ∷ []) right some = absurd (false≢true right.0.follows)
deployment_there format (BatchLine ∷ (line ∷ before)) right some =
    deployment_there format (line ∷ before) right.1 (omega arith)
deployment_there format (RequestLine a ∷ []) right some = absurd (false≢true right.0.follows)
deployment_there format (RequestLine a ∷ (line ∷ before)) right some =
    deployment_there format (line ∷ before) right.1 (omega arith)

-- whether a line after the head is there
abbrev past_head : List Line → Bool
past_head [] = false
past_head (HeadLine d ∷ before) = false
past_head (CustomerLine c ∷ before) = true
past_head (BatchLine ∷ before) = true
past_head (RequestLine a ∷ before) = true

past_batch : (before : List Line) → IsTrue (may_follow before BatchLine) → past_head before ≡ true
past_batch [] follows = absurd (false≢true follows)
past_batch (HeadLine d ∷ before) follows = absurd (false≢true follows)
past_batch (CustomerLine c ∷ before) follows = refl
past_batch (BatchLine ∷ before) follows = refl
past_batch (RequestLine a ∷ before) follows = refl

past_request : (before : List Line) (a : Asked) → IsTrue (may_follow before (RequestLine a)) → past_head before ≡ true
past_request [] a follows = absurd (false≢true follows)
past_request (HeadLine d ∷ before) a follows = absurd (false≢true follows)
past_request (CustomerLine c ∷ before) a follows = refl
past_request (BatchLine ∷ before) a follows = refl
past_request (RequestLine b ∷ before) a follows = refl

customers_there : (format : ℕ) (before : List Line) → AreRightLines format before → past_head before ≡ true
    → 1 ≤ length (customers_in before)
customers_there format [] right past = absurd (false≢true past)
customers_there format (HeadLine d ∷ before) right past = absurd (false≢true past)
customers_there format (CustomerLine c ∷ before) right past =
    omega (arith, length-append (customers_in before) (c ∷ []))
customers_there format (BatchLine ∷ before) right past =
    customers_there format before right.1 (past_batch before right.0.follows)
customers_there format (RequestLine a ∷ before) right past =
    customers_there format before right.1 (past_request before a right.0.follows)

pub customers_some : (format : ℕ) (before : List Line) → AreRightLines format before → may_end before ≡ true
    → 1 ≤ length (customers_in before)
customers_some format [] right ends = absurd (false≢true ends)
customers_some format (HeadLine d ∷ before) right ends = absurd (false≢true ends)
customers_some format (CustomerLine c ∷ before) right ends = customers_there format (CustomerLine c ∷ before) right refl
customers_some format (BatchLine ∷ before) right ends = absurd (false≢true ends)
customers_some format (RequestLine a ∷ before) right ends = customers_there format (RequestLine a ∷ before) right refl

all_push : {A : Type 0} (p : A → Bool) (xs : List A) (x : A) → IsTrue (list_all p xs) → IsTrue (p x)
    → IsTrue (list_all p (xs ++ x ∷ []))
all_push p xs x all here = list_all-append p xs (x ∷ [])
    ∙ and_from (list_all p xs) (p x && true) all (and_from (p x) true here refl)

pub customers_right : (format : ℕ) (before : List Line) → AreRightLines format before
    → IsTrue (list_all is_customer (customers_in before))
customers_right format [] right = refl
customers_right format (HeadLine d ∷ before) right = customers_right format before right.1
customers_right format (CustomerLine c ∷ before) right = all_push is_customer (customers_in before) c
    (customers_right format before right.1) right.0.ranges
customers_right format (BatchLine ∷ before) right = customers_right format before right.1
customers_right format (RequestLine a ∷ before) right = customers_right format before right.1

requests_right : (format : ℕ) (before : List Line) → AreRightLines format before
    → IsTrue (list_all is_asked (requests_in before))
requests_right format [] right = refl
requests_right format (HeadLine d ∷ before) right = requests_right format before right.1
requests_right format (CustomerLine c ∷ before) right = requests_right format before right.1
requests_right format (BatchLine ∷ before) right = requests_right format before right.1
requests_right format (RequestLine a ∷ before) right = all_push is_asked (requests_in before) a
    (requests_right format before right.1) right.0.ranges

apart_push : {A : Type 0} (xs : List A) (x : A) → AllPairs (λ a b. a ≢ b) xs → ¬ Contains xs x
    → AllPairs (λ a b. a ≢ b) (xs ++ x ∷ [])
apart_push xs x apart new = all_pairs_push (λ a b. a ≢ b) xs x apart
    (λ k d there same. new (k, there, get_or_default xs k x d there ∙ same))

pub names_apart : (format : ℕ) (before : List Line) → AreRightLines format before
    → AllPairs (λ a b. a ≢ b) (customer_names (customers_in before))
names_apart format [] right = λ i j d below there. absurd (omega arith)
names_apart format (HeadLine d ∷ before) right = names_apart format before right.1
names_apart format (CustomerLine c ∷ before) right =
    subst (AllPairs (λ a b. a ≢ b)) (sym (map_push (λ (e : Customer). e.name) (customers_in before) c))
    (apart_push (customer_names (customers_in before)) c.name (names_apart format before right.1) right.0.new)
names_apart format (BatchLine ∷ before) right = names_apart format before right.1
names_apart format (RequestLine a ∷ before) right = names_apart format before right.1

pub ids_apart : (format : ℕ) (before : List Line) → AreRightLines format before
    → AllPairs (λ a b. a ≢ b) (map request_id (requests_in before))
ids_apart format [] right = λ i j d below there. absurd (omega arith)
ids_apart format (HeadLine d ∷ before) right = ids_apart format before right.1
ids_apart format (CustomerLine c ∷ before) right = ids_apart format before right.1
ids_apart format (BatchLine ∷ before) right = ids_apart format before right.1
ids_apart format (RequestLine a ∷ before) right =
    subst (AllPairs (λ p q. p ≢ q)) (sym (map_push request_id (requests_in before) a))
    (apart_push (map request_id (requests_in before)) (request_id a) (ids_apart format before right.1) right.0.new)

-- ---- each batch

abbrev has_some : List Asked → Bool
has_some part = nat_le 1 (length part)

abbrev has_few : List Asked → Bool
has_few part = nat_le (length part) 256

push_has_some : (parts : List (List Asked)) (a : Asked) → IsTrue (list_all has_some parts)
    → IsTrue (list_all has_some (push_last parts a))
push_has_some [] a all = refl
push_has_some (part ∷ []) a all = and_from (has_some (part ++ a ∷ [])) true
    (le-leb 1 (length (part ++ a ∷ [])) (omega (arith, length-append part (a ∷ [])))) refl
push_has_some (part ∷ next ∷ parts) a all =
    let both = and_parts (has_some part) (list_all has_some (next ∷ parts)) all in
    and_from (has_some part) (list_all has_some (push_last (next ∷ parts) a)) both.0
    (push_has_some (next ∷ parts) a both.1)

push_behind_empty : (parts : List (List Asked)) (a : Asked) → push_last (parts ++ [] ∷ []) a ≡ parts ++ (a ∷ []) ∷ []
push_behind_empty [] a = refl
push_behind_empty (part ∷ []) a = refl
push_behind_empty (part ∷ next ∷ parts) a = ap (λ rest. part ∷ rest) (push_behind_empty (next ∷ parts) a)

-- all but an open last batch have a request
record AreSome (before : List Line) : Type 0 where
  pushed : (a : Asked) → IsTrue (list_all has_some (push_last (listed_in before) a))
  closed : IsTrue (may_follow before BatchLine) → IsTrue (list_all has_some (listed_in before))

are_some : (format : ℕ) (before : List Line) → AreRightLines format before → AreSome before
are_some format [] right = record { pushed = λ a. refl; closed = λ _. refl }
are_some format (HeadLine d ∷ before) right =
    record { pushed = λ a. (are_some format before right.1).pushed a; closed = λ no. absurd (false≢true no) }
are_some format (CustomerLine c ∷ before) right =
    let none = no_batches format before c right.1 right.0.follows in
    record { pushed = λ a. (are_some format before right.1).pushed a; closed = λ _. ap (list_all has_some) none }
are_some format (BatchLine ∷ before) right =
    let closed = (are_some format before right.1).closed right.0.follows in
    record {
      pushed = λ a. ap (list_all has_some) (push_behind_empty (listed_in before) a)
          ∙ all_push has_some (listed_in before) (a ∷ []) closed refl;
      closed = λ no. absurd (false≢true no);
    }
are_some format (RequestLine b ∷ before) right =
    let pushed = (are_some format before right.1).pushed b in
    record { pushed = λ a. push_has_some (push_last (listed_in before) b) a pushed; closed = λ _. pushed }

last_len : List (List Asked) → ℕ
last_len [] = 0
last_len (part ∷ []) = length part
last_len (part ∷ next ∷ parts) = last_len (next ∷ parts)

last_len_cons : (part : List Asked) (parts : List (List Asked)) → 1 ≤ length parts → last_len (part ∷ parts)
    ≡ last_len parts
unfolding last_len
last_len_cons part [] some = absurd (omega arith)
last_len_cons part (next ∷ parts) some = refl

last_len_push : (parts : List (List Asked)) (a : Asked) → last_len (push_last parts a) ≡ last_len parts + 1
unfolding last_len
last_len_push [] a = refl
last_len_push (part ∷ []) a = length-append part (a ∷ [])
last_len_push (part ∷ next ∷ parts) a = last_len_cons part (push_last (next ∷ parts) a)
    (push_last_some (next ∷ parts) a) ∙ last_len_push (next ∷ parts) a

last_len_snoc : (parts : List (List Asked)) → last_len (parts ++ [] ∷ []) ≡ 0
unfolding last_len
last_len_snoc [] = refl
last_len_snoc (part ∷ []) = refl
last_len_snoc (part ∷ next ∷ parts) = last_len_snoc (next ∷ parts)

last_counts : (format : ℕ) (before : List Line) → AreRightLines format before → in_batch before ≡ true
    → last_len (listed_in before) ≡ last_requests before
last_counts format [] right inside = absurd (false≢true inside)
last_counts format (HeadLine d ∷ before) right inside = absurd (false≢true inside)
last_counts format (CustomerLine c ∷ before) right inside = absurd (false≢true inside)
last_counts format (BatchLine ∷ before) right inside = last_len_snoc (listed_in before)
last_counts format (RequestLine a ∷ before) right inside =
    last_len_push (listed_in before) a
    ∙ ap (λ n. n + 1) (last_counts format before right.1 (request_in_batch before a right.0.follows))

push_has_few : (parts : List (List Asked)) (a : Asked) → IsTrue (list_all has_few parts) → last_len parts < 256
    → IsTrue (list_all has_few (push_last parts a))
unfolding last_len
push_has_few [] a all low = refl
push_has_few (part ∷ []) a all low = and_from (has_few (part ++ a ∷ [])) true
    (le-leb (length (part ++ a ∷ [])) 256 (omega (arith, length-append part (a ∷ [])))) refl
push_has_few (part ∷ next ∷ parts) a all low =
    let both = and_parts (has_few part) (list_all has_few (next ∷ parts)) all in
    and_from (has_few part) (list_all has_few (push_last (next ∷ parts) a)) both.0
    (push_has_few (next ∷ parts) a both.1 low)

are_few : (format : ℕ) (before : List Line) → AreRightLines format before → IsTrue (list_all has_few (listed_in before))
are_few format [] right = refl
are_few format (HeadLine d ∷ before) right = are_few format before right.1
are_few format (CustomerLine c ∷ before) right = are_few format before right.1
are_few format (BatchLine ∷ before) right = all_push has_few (listed_in before) [] (are_few format before right.1) refl
are_few format (RequestLine a ∷ before) right =
    let count = last_counts format before right.1 (request_in_batch before a right.0.follows) in
    let low = ltb-true (last_requests before) 256 right.0.room in
    push_has_few (listed_in before) a (are_few format before right.1) (omega arith)

asked_parts : (parts : List (List Asked)) → IsTrue (list_all is_asked (requests_of parts))
    → IsTrue (list_all (list_all is_asked) parts)
asked_parts [] all = refl
asked_parts (part ∷ parts) all =
    let both = and_parts (list_all is_asked part) (list_all is_asked (requests_of parts))
    (sym (list_all-append is_asked part (requests_of parts)) ∙ all) in
    and_from (list_all is_asked part) (list_all (list_all is_asked) parts) both.0 (asked_parts parts both.1)

all_listed : (parts : List (List Asked)) → IsTrue (list_all has_some parts) → IsTrue (list_all has_few parts)
    → IsTrue (list_all (list_all is_asked) parts) → IsTrue (list_all is_listed parts)
all_listed [] some few asked_all = refl
all_listed (part ∷ parts) some few asked_all =
    let some_parts = and_parts (has_some part) (list_all has_some parts) some in
    let few_parts = and_parts (has_few part) (list_all has_few parts) few in
    let asked_both = and_parts (list_all is_asked part) (list_all (list_all is_asked) parts) asked_all in
    and_from (is_listed part) (list_all is_listed parts)
    (and_from (has_some part && has_few part) (list_all is_asked part)
    (and_from (has_some part) (has_few part) some_parts.0 few_parts.0) asked_both.0)
    (all_listed parts some_parts.1 few_parts.1 asked_both.1)

ends_closed : (before : List Line) → may_end before ≡ true → IsTrue (may_follow before BatchLine)
ends_closed [] ends = absurd (false≢true ends)
ends_closed (HeadLine d ∷ before) ends = absurd (false≢true ends)
ends_closed (CustomerLine c ∷ before) ends = refl
ends_closed (BatchLine ∷ before) ends = absurd (false≢true ends)
ends_closed (RequestLine a ∷ before) ends = refl

batches_listed : (format : ℕ) (before : List Line) → AreRightLines format before → may_end before ≡ true
    → IsTrue (list_all is_listed (listed_in before))
batches_listed format before right ends =
    all_listed (listed_in before) ((are_some format before right).closed (ends_closed before ends))
    (are_few format before right)
    (asked_parts (listed_in before) (ap (list_all is_asked) (batches_flat before) ∙ requests_right format before right))

-- ---- the workload of lines

abbrev pub workload_in : ℕ → Deployment → List Line → Workload
workload_in format d before =
    record { format = format; deployment = d; customers = customers_in before; batches = listed_in before }

workload_right : (format : ℕ) (d : Deployment) (before : List Line) → AreRightLines format before
    → may_end before ≡ true → IsTrue (is_deployment d) → IsWorkload (workload_in format d before)
workload_right format d before right ends ranges = record {
  deployment = ranges;
  some_customers = customers_some format before right ends;
  few_customers = customers_few format before right;
  few_batches = omega (arith, batches_counted format before right, batches_few format before right);
  customers = customers_right format before right;
  batches = batches_listed format before right ends;
  names = names_apart format before right;
  request_ids =
      subst (λ rs. AllPairs (λ p q. p ≢ q) (map request_id rs)) (sym (batches_flat before))
      (ids_apart format before right);
}

some_lines : (before : List Line) → may_end before ≡ true → 1 ≤ length before
some_lines [] ends = absurd (false≢true ends)
some_lines (line ∷ before) ends = omega arith

-- the fields of a draft whose text may end
module _ (d : Draft) (before : List Line) (keeps : Keeps d before) (ends : may_end before ≡ true) where
  abbrev pub inside_of : Inside
  inside_of = record { format = d.format; deployment = d.deployment; customers = d.customers; batches = d.batches }

  workload_is : workload_of inside_of ≡ workload_in d.format d.deployment before
  workload_is = (λ k. record {
    format = d.format;
    deployment = d.deployment;
    customers = keeps.customers k;
    batches = keeps.batches k;
  })

  the_head : (e : Deployment) × (deployment_in before ≡ Some e) × IsTrue (is_deployment e)
  the_head = deployment_there d.format before keeps.right (some_lines before ends)

  same_head : d.deployment ≡ the_head.0
  same_head = subst (λ o. IfSome o (λ e. d.deployment ≡ e)) the_head.1 keeps.deployment

  pub whole_right : IsWorkload (workload_of inside_of)
  whole_right =
      subst IsWorkload (sym workload_is)
      (workload_right d.format d.deployment before keeps.right ends
      (subst (λ e. IsTrue (is_deployment e)) (sym same_head) the_head.2))

  pub whole_held : IsHeldWorkload inside_of
  whole_held = record { workload = whole_right }

  pub whole_text : text_before before ≡ workload_text (workload_of inside_of)
  whole_text =
      subst (λ o. IfSome o (λ e. text_before before ≡ flat_map line_text (lines_so e before))) the_head.1
      (text_so d.format before keeps.right)
      ∙ ap (λ e. workload_text (workload_in d.format e before)) (sym same_head)
      ∙ ap workload_text (sym workload_is)
