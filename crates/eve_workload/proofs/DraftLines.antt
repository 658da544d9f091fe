-- What a draft keeps, line by line.
use Rattle.std.proofs.Common.{◌≡◌, ℕ, ◌+◌, ◌<◌, ◌≤◌, Bool, true, false, not, IsTrue, List, [], ◌∷◌, ◌++◌}
use Rattle.std.proofs.Common.{map, length, Vec, refl, sym, subst, ap, ◌∙◌, arith, length-append}
use Rattle.std.specs.Prelude.{if◌then◌else◌}
use Rattle.std.specs.List.{list_any}
use Rattle.std.specs.Borrow.{Bor}
use Rattle.std.specs.declared.alloc.Global.{Global}
use Rattle.std.proofs.lemmas.Bool.{lt-ltb, ltb-true, false≢true}
use Rattle.std.specs.BTreeSet.{BTreeSet}
use Rattle.std.proofs.lemmas.List.{length-map, map_push}
use Rattle.std.proofs.lemmas.Map.Views.{Contains-from_any}
use Rattle.eve_accounts.specs.Names.{same_name}
use Rattle.eve_grammar.specs.Trace.{Customer, Asked}
use Rattle.eve_grammar.specs.Limits.{is_customer, is_asked, most_customers}
use Rattle.eve_write.specs.Data.{customer, asked}
use Rattle.eve_write.specs.declared.customer.CustomerData.{CustomerData}
use Rattle.eve_write.specs.declared.request.RequestData.{RequestData}
use Rattle.eve_accounts.proofs.NameLemmas.{same_name-true, same_name-itself}
use Rattle.eve_workload.specs.declared.deployment.Deployment.{Deployment}
use Rattle.eve_workload.specs.declared.draft.Last.TheVariants as last
use Rattle.eve_workload.specs.declared.request_ids.RequestIds.{RequestIds}
use Rattle.eve_workload.specs.declared.draft.Draft.{Draft}
use Rattle.eve_workload.specs.Workload.{is_deployment, customer_names}
use Rattle.eve_grammar.specs.Trace.{request_id}
use Rattle.eve_workload.specs.Lines.{Line, HeadLine, CustomerLine, BatchLine, RequestLine}
use Rattle.eve_workload.specs.Steps.{customers_in, requests_in, batches_in, last_requests, may_follow}
use Rattle.eve_workload.specs.Steps.{IsRightBehind, AreRightLines}
use Rattle.eve_workload.specs.inner.RequestIds.{same_id, AreSeen}
use Rattle.eve_workload.specs.Batches.{asked_lists, push_last}
use Rattle.eve_workload.specs.inner.Drafts.{next_of, has_name, Keeps}
use Rattle.eve_workload.proofs.BatchLists.{batches_counted}
use Rattle.eve_workload.proofs.KnownIds.{same_id-true, same_id-itself}
use Rattle.eve_workload.proofs.SameKeys.{found, found_more}

-- how many batches a draft has
pub batches_kept : (d : Draft) (before : List Line) → Keeps d before → length d.batches.items ≡ batches_in before
batches_kept d before keeps =
    sym (length-map d.batches.items (λ (b : Vec RequestData Global). map asked b.items)) ∙ ap length keeps.batches
    ∙ batches_counted d.format before keeps.right

-- ---- lines taken

pub head_accepted : (d : Draft) (deployment : Deployment) (before : List Line) → IsTrue (is_deployment deployment)
    → IsTrue (may_follow before (HeadLine deployment)) → Keeps d before
    → Keeps (record d { last = last.Head; deployment = deployment }) (HeadLine deployment ∷ before)
head_accepted d deployment [] ranges follows keeps = record {
  right = (record { follows = follows; ranges = ranges; room = refl; new = tt }, keeps.right);
  last = refl;
  deployment = refl;
  customers = keeps.customers;
  batches = keeps.batches;
  requests = keeps.requests;
  count = keeps.count;
  names = keeps.names;
  request_ids = keeps.request_ids;
}
head_accepted d deployment (HeadLine e ∷ before) ranges follows keeps = cc
head_accepted d deployment (CustomerLine c ∷ before) ranges follows keeps = cc
head_accepted d deployment (BatchLine ∷ before) ranges follows keeps = cc
head_accepted d deployment (RequestLine a ∷ before) ranges follows keeps = cc

pub batch_accepted : (d : Draft) (batches : Vec (Vec RequestData Global) Global) (opened : Vec RequestData Global)
    (before : List Line) → batches.items ≡ d.batches.items ++ opened ∷ [] → opened.items ≡ []
    → length d.batches.items < 65535 → IsTrue (may_follow before BatchLine) → Keeps d before
    → Keeps (record d { last = last.Batch; batches = batches; count = 0 }) (BatchLine ∷ before)
batch_accepted d batches opened before pushed empty room follows keeps =
    let few : batches_in before < 65535 = omega (arith, batches_kept d before keeps) in
    record {
      right = (
        record { follows = follows; ranges = refl; room = lt-ltb (batches_in before) 65535 few; new = tt },
        keeps.right,
      );
      last = refl;
      deployment = keeps.deployment;
      customers = keeps.customers;
      batches = ap asked_lists pushed
          ∙ map_push (λ (b : Vec RequestData Global). map asked b.items) d.batches.items opened
          ∙ (λ k. keeps.batches k ++ map asked (empty k) ∷ []);
      requests = keeps.requests;
      count = refl;
      names = keeps.names;
      request_ids = keeps.request_ids;
    }

pub batch_refused : (d : Draft) (before : List Line) → 65535 ≤ length d.batches.items → Keeps d before
    → ¬ IsRightBehind d.format before BatchLine
batch_refused d before full keeps right =
    omega (arith, ltb-true (batches_in before) 65535 right.room, batches_kept d before keeps)

pub customer_refused : (d : Draft) (c : Customer) (before : List Line)
    → most_customers d.format ≤ length d.customers.items
    → Keeps d before → ¬ IsRightBehind d.format before (CustomerLine c)
customer_refused d c before full keeps right =
    omega (
      arith,
      ltb-true (length (customers_in before)) (most_customers d.format) right.room,
      ap length keeps.customers,
      length-map d.customers.items customer,
    )

no_requests : (before : List Line) (c : Customer) → IsTrue (may_follow before (CustomerLine c)) → last_requests before
    ≡ 0
no_requests [] c follows = cc
no_requests (HeadLine d ∷ before) c follows = refl
no_requests (CustomerLine e ∷ before) c follows = refl
no_requests (BatchLine ∷ before) c follows = cc
no_requests (RequestLine a ∷ before) c follows = cc

pub customer_accepted : (d : Draft) (customers : Vec CustomerData Global) (names : BTreeSet (Bor (List ℕ)))
    (added : CustomerData) (c : Customer) (before : List Line) → customers.items ≡ d.customers.items ++ added ∷ []
    → customer added ≡ c → length d.customers.items < most_customers d.format → IsTrue (is_customer c)
    → IsTrue (may_follow before (CustomerLine c)) → has_name d.names.keys c.name ≡ false
    → ((other : List ℕ) → has_name names.keys other
    ≡ (if same_name c.name other then true else has_name d.names.keys other)) → Keeps d before
    → Keeps (record d { last = last.Customer; customers = customers; names = names }) (CustomerLine c ∷ before)
customer_accepted d customers names added c before pushed same room ranges follows fresh kept keeps =
    let count : length d.customers.items ≡ length (customers_in before) = sym (length-map d.customers.items customer)
    ∙ ap length keeps.customers in
    record {
      right = (
        record {
          follows = follows;
          ranges = ranges;
          room = lt-ltb (length (customers_in before)) (most_customers d.format) (omega arith);
          new = λ known. false≢true
              (sym fresh ∙ keeps.names c.name
              ∙ found same_name same_name-true same_name-itself (customer_names (customers_in before)) c.name known);
        },
        keeps.right,
      );
      last = refl;
      deployment = keeps.deployment;
      customers = ap (map customer) pushed ∙ map_push customer d.customers.items added
          ∙ (λ k. keeps.customers k ++ same k ∷ []);
      batches = keeps.batches;
      requests = keeps.requests;
      count = keeps.count ∙ no_requests before c follows;
      names = λ other.
          found_more same_name same_name-true same_name-itself (customer_names (customers_in before)) c.name other
          (has_name names.keys other) (has_name d.names.keys other) (kept other) (keeps.names other)
          ∙ ap (list_any (same_name other)) (sym (map_push (λ (e : Customer). e.name) (customers_in before) c));
      request_ids = keeps.request_ids;
    }

pub name_refused : {format : ℕ} (d : Draft) (c : Customer) (before : List Line) → has_name d.names.keys c.name ≡ true
    → Keeps d before → ¬ IsRightBehind format before (CustomerLine c)
name_refused d c before known keeps right =
    right.new (Contains-from_any same_name-true c.name (customer_names (customers_in before))
    (sym (keeps.names c.name) ∙ known))

pub request_accepted : (d : Draft) (batches : Vec (Vec RequestData Global) Global) (ids : RequestIds)
    (requests count : ℕ)
    (a : Asked) (before : List Line) → asked_lists batches.items ≡ push_last (asked_lists d.batches.items) a
    → requests ≡ d.requests + 1 → count ≡ d.count + 1
    → d.count < 256 → IsTrue (is_asked a) → IsTrue (may_follow before (RequestLine a))
    → list_any (same_id (request_id a)) (map request_id (requests_in before)) ≡ false
    → AreSeen ids (map request_id (requests_in before) ++ request_id a ∷ []) → Keeps d before
    → Keeps (record d { last = last.Request; batches = batches; request_ids = ids; requests = requests; count = count })
    (RequestLine a ∷ before)
request_accepted d batches ids requests count a before added more counted room ranges follows fresh seen keeps =
    record {
      right = (
        record {
          follows = follows;
          ranges = ranges;
          room = lt-ltb (last_requests before) 256 (omega (arith, keeps.count));
          new = λ known. false≢true (sym fresh
              ∙ found same_id same_id-true same_id-itself (map request_id (requests_in before)) (request_id a) known);
        },
        keeps.right,
      );
      last = refl;
      deployment = keeps.deployment;
      customers = keeps.customers;
      batches = added ∙ ap (λ lists. push_last lists a) keeps.batches;
      requests = omega (arith, more, keeps.requests, length-append (requests_in before) (a ∷ []));
      count = counted ∙ ap (λ n. n + 1) keeps.count;
      names = keeps.names;
      request_ids = subst (AreSeen ids) (sym (map_push request_id (requests_in before) a)) seen;
    }

pub id_refused : {format : ℕ} (a : Asked) (before : List Line)
    → list_any (same_id (request_id a)) (map request_id (requests_in before)) ≡ true
    → ¬ IsRightBehind format before (RequestLine a)
id_refused a before known right =
    right.new (Contains-from_any same_id-true (request_id a) (map request_id (requests_in before)) known)

-- how many lines there are
pub line_count : (format : ℕ) (before : List Line) → AreRightLines format before → length before + 1
    ≡ next_of before + (length (customers_in before) + batches_in before + length (requests_in before))
line_count format [] right = refl
line_count format (HeadLine d ∷ []) right = refl
line_count format (HeadLine d ∷ (HeadLine e ∷ before)) right = let wrong = right.0.follows in cc
line_count format (HeadLine d ∷ (CustomerLine c ∷ before)) right = let wrong = right.0.follows in cc
line_count format (HeadLine d ∷ (BatchLine ∷ before)) right = let wrong = right.0.follows in cc
line_count format (HeadLine d ∷ (RequestLine a ∷ before)) right = let wrong = right.0.follows in cc
line_count format (CustomerLine c ∷ []) right = let wrong = right.0.follows in cc
line_count format (CustomerLine c ∷ (line ∷ before)) right =
    omega (arith, line_count format (line ∷ before) right.1, length-append (customers_in (line ∷ before)) (c ∷ []))
line_count format (BatchLine ∷ []) right = let wrong = right.0.follows in cc
line_count format (BatchLine ∷ (line ∷ before)) right = omega (arith, line_count format (line ∷ before) right.1)
line_count format (RequestLine a ∷ []) right = let wrong = right.0.follows in cc
line_count format (RequestLine a ∷ (line ∷ before)) right =
    omega (arith, line_count format (line ∷ before) right.1, length-append (requests_in (line ∷ before)) (a ∷ []))

-- ---- what an answer of a set says

pub is_known : (new known : Bool) → new ≡ not known → new ≡ false → known ≡ true
is_known new true is no_new = refl
is_known new false is no_new = absurd (false≢true (sym no_new ∙ is))

pub is_fresh : (new known : Bool) → new ≡ not known → new ≡ true → known ≡ false
is_fresh new true is newly = absurd (false≢true (sym is ∙ newly))
is_fresh new false is newly = refl
