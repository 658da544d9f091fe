-- Public: other crates cite these lemmas. A right header, limit by limit.
use Rattle.std.proofs.Common.{ℕ, ◌≤◌, ◌*◌, leb, ltb, rules, arith}
use Rattle.std.specs.Prelude.{IsTrue, Bool, true, false, if◌then◌else◌, ◌==◌}
use Rattle.std.proofs.lemmas.Bool.{le-leb, lt-ltb, and_from}
use Rattle.eve_grammar.specs.declared.limits.TheConstants.{MOST_CUSTOMERS, MOST_CUSTOMERS_OF_VERSION_1}
use Rattle.eve_grammar.specs.Limits.{is_head, is_between, most_customers, HasHeadLimits}
use Rattle.eve_grammar.specs.declared.head.Head.{Head}

pub head_has_limits : (h : Head) → IsTrue (is_head h) → HasHeadLimits h
head_has_limits h right = record {
  some_version = search rules;
  known_version = search rules;
  some_replicas = search rules;
  few_replicas = search rules;
  some_verifiers = search rules;
  few_verifiers = search rules;
  quorum = search rules;
  majority = search rules;
  some_window = search rules;
  few_window = search rules;
  some_workers = search rules;
  few_workers = search rules;
  some_customers = search rules;
  few_customers = search rules;
  few_batches = search rules;
}

-- a version's customers are customers
pub most_are_few : (version : ℕ) → most_customers version ≤ MOST_CUSTOMERS
most_are_few version = by (version == 1)
  where
    by : (b : Bool) → (if b then MOST_CUSTOMERS_OF_VERSION_1 else MOST_CUSTOMERS) ≤ MOST_CUSTOMERS
    by true = omega arith
    by false = omega arith

pub few_customers : (h : Head) → IsTrue (is_head h) → h.customers ≤ MOST_CUSTOMERS
few_customers h right = omega (arith, (head_has_limits h right).few_customers, most_are_few h.version)

between : (low high n : ℕ) → low ≤ n → n ≤ high → IsTrue (is_between low high n)
between low high n above below = and_from (leb low n) (leb n high) (le-leb low n above) (le-leb n high below)

pub head_from_limits : (h : Head) → HasHeadLimits h → IsTrue (is_head h)
head_from_limits h limits =
    and_from _ _ (between 1 _ h.version limits.some_version limits.known_version)
    (and_from _ _ (between 1 _ h.replicas limits.some_replicas limits.few_replicas)
    (and_from _ _ (between 1 _ h.verifiers limits.some_verifiers limits.few_verifiers)
    (and_from (leb h.quorum h.verifiers) _ (le-leb h.quorum h.verifiers limits.quorum)
    (and_from (ltb h.verifiers (2 * h.quorum)) _ (lt-ltb h.verifiers (2 * h.quorum) limits.majority)
    (and_from _ _ (between 1 _ h.window limits.some_window limits.few_window)
    (and_from _ _ (between 1 _ h.workers limits.some_workers limits.few_workers)
    (and_from _ _ (between 1 _ h.customers limits.some_customers limits.few_customers)
    (le-leb h.batches _ limits.few_batches))))))))
