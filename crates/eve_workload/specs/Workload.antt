-- A workload: what a deployment is asked to do. docs/DEPLOYMENT.md, "Workload".
use Rattle.std.specs.Prelude.{◌≢◌, ℕ, ◌≤◌, Bool, ◌&&◌, IsTrue, List, map, length, AllPairs}
use Rattle.std.specs.List.{list_all, flat_map}
use Rattle.eve_grammar.specs.declared.limits.TheConstants.{MOST_BATCHES, MOST_REQUESTS}
use Rattle.eve_grammar.specs.Trace.{Customer, Asked, request_id}
use Rattle.eve_grammar.specs.Limits.{is_between, is_customer, is_asked, most_customers, is_head}
use Rattle.eve_grammar.specs.declared.head.Head.{Head}
use Rattle.eve_workload.specs.declared.deployment.Deployment.{Deployment}

-- the version of the trace that is asked for, the deployment, its customers, and the requests of each batch as they are
-- listed
pub record Workload : Type 0 where
  pub format : ℕ
  pub deployment : Deployment
  pub customers : List Customer
  pub batches : List (List Asked)

-- the header of a trace of the deployment in a format, with this many customers and batches
abbrev pub head_with : ℕ → Deployment → ℕ → ℕ → Head
head_with format d customers batches = record {
  version = format;
  replicas = d.replicas;
  verifiers = d.verifiers;
  quorum = d.quorum;
  window = d.window;
  workers = d.workers;
  customers = customers;
  batches = batches;
}

-- the header of its trace
abbrev pub head_asked : Workload → Head
head_asked w = head_with w.format w.deployment (length w.customers) (length w.batches)

-- the numbers of line 1 lie in the ranges that they have in a header of any version, as in that of a trace of version 1
-- with one customer and no batch
abbrev pub is_deployment : Deployment → Bool
is_deployment d = is_head (head_with 1 d 1 0)

-- the customers' names, in their order
abbrev pub customer_names : List Customer → List (List ℕ)
customer_names customers = map (λ c. c.name) customers

-- all requests, batch by batch
abbrev pub requests_of : List (List Asked) → List Asked
requests_of batches = flat_map (λ requests. requests) batches

-- 1 to 256 requests
abbrev pub is_listed : List Asked → Bool
is_listed requests = is_between 1 MOST_REQUESTS (length requests) && list_all is_asked requests

-- the limits, of customers that of the format, names that differ, and request ids that differ over all batches
pub record IsWorkload (w : Workload) : Type 0 where
  pub deployment : IsTrue (is_deployment w.deployment)
  pub some_customers : 1 ≤ length w.customers
  pub few_customers : length w.customers ≤ most_customers w.format
  pub few_batches : length w.batches ≤ MOST_BATCHES
  pub customers : IsTrue (list_all is_customer w.customers)
  pub batches : IsTrue (list_all is_listed w.batches)
  pub names : AllPairs (λ a b. a ≢ b) (customer_names w.customers)
  pub request_ids : AllPairs (λ a b. a ≢ b) (map request_id (requests_of w.batches))
