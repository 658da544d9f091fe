-- A text is of at most one workload in a format.
use Rattle.std.proofs.Common.{◌≡◌, ◌<◌, List, [], ◌∷◌, ◌++◌, map, length, Some, inl, inr, refl, sym, ap, subst, ◌∙◌}
use Rattle.std.proofs.Common.{arith, length-append, append_assoc}
use Rattle.std.specs.List.{flat_map}
use Rattle.std.proofs.lemmas.Bool.{cases_order}
use Rattle.std.proofs.lemmas.List.{append-nil}
use Rattle.eve_grammar.specs.Trace.{Customer, Asked}
use Rattle.eve_workload.specs.Workload.{Workload, IsWorkload}
use Rattle.eve_workload.specs.Lines.{Line, HeadLine, CustomerLine, BatchLine, RequestLine, line_text, batch_lines}
use Rattle.eve_workload.specs.Lines.{lines_of, workload_text}
use Rattle.eve_workload.specs.Steps.{customers_in, AreRightLines}
use Rattle.eve_workload.specs.Batches.{push_last}
use Rattle.eve_workload.specs.inner.Drafts.{listed_in, deployment_in}
use Rattle.eve_workload.proofs.OneAnswer.{same_lines, follows_fewer}
use Rattle.eve_workload.proofs.WholeLines.{onto, onto-append, line_long, lines_back, back_right, back_text}

-- ---- what lines keep of those before them

module _ {A : Type 0} (f : List Line → A) (customer : (c : Customer) (before : List Line) → f (CustomerLine c ∷ before)
    ≡ f before) where
  past_customers : (before : List Line) (cs : List Customer) → f (onto before (map CustomerLine cs)) ≡ f before
  past_customers before [] = refl
  past_customers before (c ∷ cs) = past_customers (CustomerLine c ∷ before) cs ∙ customer c before

module _ {A : Type 0} (f : List Line → A) (batch : (before : List Line) → f (BatchLine ∷ before) ≡ f before)
    (request : (a : Asked) (before : List Line) → f (RequestLine a ∷ before) ≡ f before) where
  past_requests : (before : List Line) (rs : List Asked) → f (onto before (map RequestLine rs)) ≡ f before
  past_requests before [] = refl
  past_requests before (r ∷ rs) = past_requests (RequestLine r ∷ before) rs ∙ request r before

  past_batches : (before : List Line) (parts : List (List Asked)) → f (onto before (flat_map batch_lines parts))
      ≡ f before
  past_batches before [] = refl
  past_batches before (part ∷ parts) =
      ap f (onto-append (BatchLine ∷ before) (map RequestLine part) (flat_map batch_lines parts))
      ∙ past_batches (onto (BatchLine ∷ before) (map RequestLine part)) parts ∙ past_requests (BatchLine ∷ before) part
      ∙ batch before

-- ---- what lines add

customers_listed : (before : List Line) (cs : List Customer) → customers_in (onto before (map CustomerLine cs))
    ≡ customers_in before ++ cs
customers_listed before [] = sym (append-nil (customers_in before))
customers_listed before (c ∷ cs) = customers_listed (CustomerLine c ∷ before) cs
    ∙ append_assoc (customers_in before) (c ∷ []) cs

push_behind : (parts : List (List Asked)) (part : List Asked) (a : Asked) → push_last (parts ++ part ∷ []) a
    ≡ parts ++ (part ++ a ∷ []) ∷ []
push_behind [] part a = refl
push_behind (first ∷ []) part a = refl
push_behind (first ∷ next ∷ parts) part a = ap (λ rest. first ∷ rest) (push_behind (next ∷ parts) part a)

requests_joined : (before : List Line) (rs part : List Asked) (parts : List (List Asked)) → listed_in before
    ≡ parts ++ part ∷ [] → listed_in (onto before (map RequestLine rs)) ≡ parts ++ (part ++ rs) ∷ []
requests_joined before [] part parts are = are ∙ ap (λ p. parts ++ p ∷ []) (sym (append-nil part))
requests_joined before (r ∷ rs) part parts are =
    requests_joined (RequestLine r ∷ before) rs (part ++ r ∷ []) parts
    (ap (λ ps. push_last ps r) are ∙ push_behind parts part r)
    ∙ ap (λ p. parts ++ p ∷ []) (append_assoc part (r ∷ []) rs)

batches_listed : (before : List Line) (parts : List (List Asked))
    → listed_in (onto before (flat_map batch_lines parts)) ≡ listed_in before ++ parts
batches_listed before [] = sym (append-nil (listed_in before))
batches_listed before (part ∷ parts) =
    ap listed_in (onto-append (BatchLine ∷ before) (map RequestLine part) (flat_map batch_lines parts))
    ∙ batches_listed (onto (BatchLine ∷ before) (map RequestLine part)) parts
    ∙ ap (λ ps. ps ++ parts) (requests_joined (BatchLine ∷ before) part [] (listed_in before) refl)
    ∙ append_assoc (listed_in before) (part ∷ []) parts

-- ---- a workload from its lines

module _ (w : Workload) where
  -- the head's line and the customers'
  abbrev prefix : List Line
  prefix = onto (HeadLine w.deployment ∷ []) (map CustomerLine w.customers)

  all_lines : onto [] (lines_of w) ≡ onto prefix (flat_map batch_lines w.batches)
  all_lines = onto-append (HeadLine w.deployment ∷ []) (map CustomerLine w.customers) (flat_map batch_lines w.batches)

  deployment_is : deployment_in (onto [] (lines_of w)) ≡ Some w.deployment
  deployment_is =
      ap deployment_in all_lines ∙ past_batches deployment_in (λ before. refl) (λ a before. refl) prefix w.batches
      ∙ past_customers deployment_in (λ c before. refl) (HeadLine w.deployment ∷ []) w.customers

  customers_are : customers_in (onto [] (lines_of w)) ≡ w.customers
  customers_are =
      ap customers_in all_lines ∙ past_batches customers_in (λ before. refl) (λ a before. refl) prefix w.batches
      ∙ customers_listed (HeadLine w.deployment ∷ []) w.customers

  batches_are : listed_in (onto [] (lines_of w)) ≡ w.batches
  batches_are =
      ap listed_in all_lines ∙ batches_listed prefix w.batches
      ∙ ap (λ ps. ps ++ w.batches)
      (past_customers listed_in (λ c before. refl) (HeadLine w.deployment ∷ []) w.customers)

-- of two workloads with one text neither has fewer lines
not_fewer : (w v : Workload) (is : IsWorkload w) (is' : IsWorkload v) → w.format ≡ v.format
    → workload_text w ≡ workload_text v → ¬ (length (lines_back w is) < length (lines_back v is'))
not_fewer w v is is' format same fewer =
    let right = subst (λ f. AreRightLines f (lines_back v is')) (sym format) (back_right v is').0 in
    let next = follows_fewer w.format (lines_back w is) (lines_back v is') [] [] (back_right w is).0 right fewer
    (sym (back_text w is) ∙ same ∙ back_text v is') in
    let long = ap length next.2 in
    omega (arith, long, length-append (line_text next.0) next.1, line_long next.0)

pub one_workload : (w v : Workload) → IsWorkload w → IsWorkload v → w.format ≡ v.format
    → workload_text w ≡ workload_text v → w ≡ v
one_workload w v is is' format same =
    let count : length (lines_back w is) ≡ length (lines_back v is') =
    elim (cases_order (length (lines_back w is)) (length (lines_back v is'))) [
      | inl equal ↦ equal
      | inr apart ↦
          elim apart [
            | inl less ↦ absurd (not_fewer w v is is' format same less)
            | inr more ↦ absurd (not_fewer v w is' is (sym format) (sym same) more)
          ]
    ] in
    let lines : onto [] (lines_of w) ≡ onto [] (lines_of v) =
    (same_lines w.format v.format (lines_back w is) (lines_back v is') [] [] (back_right w is).0 (back_right v is').0
    count (sym (back_text w is) ∙ same ∙ back_text v is')).0 in
    let deployment : w.deployment ≡ v.deployment =
    (let e = sym (deployment_is w) ∙ ap deployment_in lines ∙ deployment_is v in cc) in
    let customers : w.customers ≡ v.customers = sym (customers_are w) ∙ ap customers_in lines ∙ customers_are v in
    let batches : w.batches ≡ v.batches = sym (batches_are w) ∙ ap listed_in lines ∙ batches_are v in
    (λ i. record {
      format = format i;
      deployment = deployment i;
      customers = customers i;
      batches = batches i;
    })
