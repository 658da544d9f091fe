-- What a workload holds.
use Rattle.std.proofs.Common.{◌≢◌, AllPairs, IsTrue, nat_le, map, ◌≡◌, ℕ, ◌<◌, ◌≤◌, List}
use Rattle.std.proofs.Common.{length, get_or, Some, Vec, option_map, refl, sym, ap, subst, ◌∙◌, arith}
use Rattle.std.proofs.Common.{leb-true}
use Rattle.std.specs.List.{list_all, slice_get}
use Rattle.std.proofs.lemmas.List.{length-map}
use Rattle.std.proofs.lemmas.Bool.{and_parts}
use Rattle.std.proofs.lemmas.Option.{slice_get-map, slice_get_read}
use Rattle.std.specs.declared.alloc.Global.{Global}
use Rattle.eve_grammar.specs.Trace.{Asked}
use Rattle.eve_grammar.specs.Limits.{is_between, is_customer, is_asked, is_head}
use Rattle.eve_grammar.specs.declared.limits.TheConstants.{MOST_CUSTOMERS, MOST_BATCHES, NEWEST_VERSION}
use Rattle.eve_grammar.proofs.HeadLimits.{most_are_few}
use Rattle.eve_grammar.proofs.GroupOrder.{all_at}
use Rattle.eve_grammar.specs.declared.head.Head.{Head}
use Rattle.eve_write.specs.Data.{customer, asked}
use Rattle.eve_write.specs.declared.customer.CustomerData.{CustomerData}
use Rattle.eve_write.specs.declared.request.RequestData.{RequestData}
use Rattle.eve_workload.specs.declared.workload.Workload.TheInside.{Inside}
use Rattle.eve_workload.specs.Workload.{Workload, IsWorkload, head_asked, customer_names, is_listed}
use Rattle.eve_workload.specs.Batches.{asked_lists}
use Rattle.eve_workload.specs.HeldWorkloads.{workload_of, IsHeldWorkload}
use Rattle.eve_workload.proofs.Deployments as deployments

-- how many there are, and within which limits
module _ (w : Inside) (value : Workload) (held : IsHeldWorkload w) (is : workload_of w ≡ value) where
  pub batch_count : (batches : List (Vec RequestData Global)) → batches ≡ w.batches.items → length batches
      ≡ length value.batches
  batch_count batches same =
      ap length same ∙ sym (length-map w.batches.items (λ (b : Vec RequestData Global). map asked b.items))
      ∙ ap (λ (v : Workload). length v.batches) is

  pub customer_count : (customers : List CustomerData) → customers ≡ w.customers.items → length customers
      ≡ length value.customers
  customer_count customers same =
      ap length same ∙ sym (length-map w.customers.items customer) ∙ ap (λ (v : Workload). length v.customers) is

  pub is_workload : IsWorkload value
  is_workload = subst IsWorkload is held.workload

  pub batches_few : length value.batches ≤ MOST_BATCHES
  batches_few = is_workload.few_batches

  pub customers_some : 1 ≤ length value.customers
  customers_some = is_workload.some_customers

  pub customers_few : length value.customers ≤ MOST_CUSTOMERS
  customers_few = omega (arith, is_workload.few_customers, most_are_few value.format)

  -- its customers, as the code reads them
  customers_are : (customers : List CustomerData) → customers ≡ w.customers.items → value.customers
      ≡ map customer customers
  customers_are customers same = ap (λ (v : Workload). v.customers) (sym is) ∙ ap (map customer) (sym same)

  pub customers_right : (customers : List CustomerData) → customers ≡ w.customers.items
      → IsTrue (list_all is_customer (map customer customers))
  customers_right customers same = subst (λ cs. IsTrue (list_all is_customer cs)) (customers_are customers same)
      is_workload.customers

  pub customers_differ : (customers : List CustomerData) → customers ≡ w.customers.items
      → AllPairs (λ a b. a ≢ b) (customer_names (map customer customers))
  customers_differ customers same = subst (λ cs. AllPairs (λ a b. a ≢ b) (customer_names cs))
      (customers_are customers same)
      is_workload.names

  -- the head with its counts, as the code reads them
  module _ (customers batches : ℕ) (customers_read : customers ≡ length w.customers.items)
      (batches_read : batches ≡ length w.batches.items) where
    abbrev pub head_read : Head
    head_read = record {
      version = w.format;
      replicas = w.deployment.replicas;
      verifiers = w.deployment.verifiers;
      quorum = w.deployment.quorum;
      window = w.deployment.window;
      workers = w.deployment.workers;
      customers = customers;
      batches = batches;
    }

    pub head_is : head_read ≡ head_asked value
    head_is =
        let customers_same = customers_read ∙ customer_count w.customers.items refl in
        let batches_same = batches_read ∙ batch_count w.batches.items refl in
        (λ k. record {
          version = (is k).format;
          replicas = (is k).deployment.replicas;
          verifiers = (is k).deployment.verifiers;
          quorum = (is k).deployment.quorum;
          window = (is k).deployment.window;
          workers = (is k).deployment.workers;
          customers = customers_same k;
          batches = batches_same k;
        })

    pub head_right : 1 ≤ value.format → value.format ≤ NEWEST_VERSION → IsTrue (is_head head_read)
    head_right some known = subst (λ h. IsTrue (is_head h)) (sym head_is)
        (deployments.head_right value is_workload some known)

-- the batch at a place of a workload, of its lists as the code reads them
module _ (w : Inside) (value : Workload) (batches : List (Vec RequestData Global)) (held : IsHeldWorkload w)
    (is : workload_of w ≡ value) (same : batches ≡ w.batches.items) (i : ℕ) (b : Vec RequestData Global)
    (read : b ≡ get_or batches i b) (there : i < length value.batches) (part : List RequestData) (lent : part ≡ b.items)
  where
    abbrev list : Vec RequestData Global → List Asked
    list x = map asked x.items

    batch_found : slice_get value.batches i ≡ Some (map asked part)
    batch_found =
        let lists : value.batches ≡ asked_lists batches = ap (λ (v : Workload). v.batches) (sym is)
        ∙ ap asked_lists (sym same) in
        let count = batch_count w value held is batches same in
        ap (λ ls. slice_get ls i) lists ∙ slice_get-map list batches i
        ∙ ap (option_map list) (slice_get_read batches (length batches) i b refl (omega arith) read)
        ∙ ap (λ rs. Some (map asked rs)) (sym lent)

    pub batch_listed : IsTrue (is_listed (map asked part))
    batch_listed = all_at is_listed value.batches i (map asked part) (rw (← is) held.workload.batches) batch_found

module _ (part : List RequestData) (listed : IsTrue (is_listed (map asked part))) where
  sized : IsTrue (is_between 1 256 (length (map asked part)))
  sized = (and_parts (is_between 1 256 (length (map asked part))) (list_all is_asked (map asked part)) listed).0

  pub listed_some : 1 ≤ length part
  listed_some =
      omega (
        arith,
        length-map part asked,
        leb-true _ _ (and_parts (nat_le 1 (length (map asked part))) (nat_le (length (map asked part)) 256) sized).0,
      )

  pub listed_few : length part ≤ 256
  listed_few =
      omega (
        arith,
        length-map part asked,
        leb-true _ _ (and_parts (nat_le 1 (length (map asked part))) (nat_le (length (map asked part)) 256) sized).1,
      )

  pub listed_right : IsTrue (list_all is_asked (map asked part))
  listed_right = (and_parts (is_between 1 256 (length (map asked part))) (list_all is_asked (map asked part)) listed).1
