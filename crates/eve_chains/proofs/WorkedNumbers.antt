-- A section's numbers, of which two are skipped, one is reached by a state that is transferred, and one by an attempt
-- behind it: what an entry must see, what a row's walk meets, and the values of each number. Each line computes.
use Rattle.std.proofs.Common.{◌≡◌, ℕ, zero, suc, ◌+◌, pos, Bool, true, false, List, [], ◌∷◌, map, flat_map, take}
use Rattle.std.proofs.Common.{replicate}
use Rattle.std.proofs.Common.{codes, length, refl}
use Rattle.eve_smallbank.specs.SmallBank.{DepositChecking}
use Rattle.eve_smallbank.specs.declared.request.Reply.TheVariants.{Done}
use Rattle.eve_smallbank.specs.declared.entry.Kind.TheVariants.{Write}
use Rattle.eve_smallbank.specs.declared.entry.Entry.{Entry}
use Rattle.eve_smallbank.specs.declared.versioned.Versioned.{Versioned}
use Rattle.eve_grammar.specs.Trace.{Attempt, Transfer, Step, Attempts, Commits, Transfers, Trace}
use Rattle.eve_history.specs.declared.fate.Fate.TheVariants.{Committed, Discarded}
use Rattle.eve_history.specs.Section.{Came, Ran, Transferred, Placed, HowReached, ByAttempt, ByTransfer, Skipped}
use Rattle.eve_history.specs.Section.{came_by}
use Rattle.eve_history.specs.Section.{start, state_after}
use Rattle.eve_chains.specs.Visible.{rows_after, visible_to}
use Rattle.eve_chains.specs.Rows.{Noted, to_come, due_on_row, pair_after}
use Rattle.eve_chains.specs.CommittedValues.{Settling, change_at, values_in, defined}

-- five batches of a deposit of five cents each
abbrev five_batches : Trace
five_batches = record {
  head = record {
    version = 1;
    replicas = 1;
    verifiers = 1;
    quorum = 1;
    window = 2;
    workers = 1;
    customers = 1;
    batches = 5;
  };
  customers = record { name = codes "ann"; saving = pos 0; checking = pos 0 } ∷ [];
  batches = replicate 5 (record {
    sizes = 1 ∷ [];
    requests = record { client = 7; number = 1; request = DepositChecking (codes "ann") (pos 5) } ∷ [];
  });
  sections = [] ∷ [];
  verifiers = [] ∷ [];
  sent = [];
}

abbrev deposit : ℕ → ℕ → Entry
deposit version seen =
    record { row = 1; kind = Write; version = version; seen = pos seen; after = pos (5 + seen) }

abbrev attempt_of_batch : ℕ → Entry → Attempt
attempt_of_batch n entry = record {
  seq = n;
  view = 0;
  serial = false;
  certificate = 0 ∷ [];
  replies = Done ∷ [];
  token = replicate 32 n;
  accesses = record { worker = 0; place = 0; index = 0; entries = entry ∷ [] } ∷ [];
}

abbrev placed_behind : List Came → Attempt → Placed
placed_behind path a = record { offset = 0; attempt = a; path = path }

-- what the row has for the request of an attempt of this path
abbrev seen_behind : List Came → ℕ → Versioned
seen_behind path row =
    visible_to five_batches (placed_behind path (attempt_of_batch 5 (deposit 0 0))) 0 row

-- ---- two attempts are open

abbrev both_open : List Came
both_open = Ran (attempt_of_batch 1 (deposit 0 0)) ∷ Ran (attempt_of_batch 2 (deposit 1 5)) ∷ []

behind_both : seen_behind both_open 1 ≡ record { version = 2; value = pos 10 }
behind_both = refl

-- ---- the state of batch 3 is transferred, and batch 4 is committed behind it

abbrev rows_of_three : List Versioned
rows_of_three = record { version = 0; value = pos 0 } ∷ record { version = 3; value = pos 15 } ∷ []

abbrev fourth : Attempt
fourth = attempt_of_batch 4 (deposit 3 15)

abbrev behind_the_state : List Came
behind_the_state = Transferred rows_of_three ∷ Ran fourth ∷ []

the_state_is_seen : seen_behind (Transferred rows_of_three ∷ []) 1 ≡ record { version = 3; value = pos 15 }
the_state_is_seen = refl

the_fourth_is_seen : seen_behind behind_the_state 1 ≡ record { version = 4; value = pos 20 }
the_fourth_is_seen = refl

-- a row past the state's end has version 0 and value 0
nothing_past_the_end : seen_behind behind_the_state 2 ≡ record { version = 0; value = pos 0 }
nothing_past_the_end = refl

-- ---- one row walked by itself

abbrev bases : ℕ → Versioned
bases zero = record { version = 0; value = pos 0 }
bases (suc k) = record { version = 3; value = pos 15 }

abbrev as_noted : ℕ → ℕ → Bool → Entry → Noted
as_noted transferred number commits entry =
    record { offset = 0; transferred = transferred; view = 0; number = number; commits = commits; entry = entry }

abbrev both_noted : List Noted
both_noted = as_noted 0 1 false (deposit 0 0) ∷ as_noted 0 2 false (deposit 1 5) ∷ []

-- the first entry behind the state meets the state, though no view began
the_state_is_met : due_on_row bases (pair_after bases both_noted) (as_noted 1 4 true (deposit 3 15))
    ≡ record { version = 3; value = pos 15 }
the_state_is_met = refl

-- and without the state it would have met what the open attempts left
without_the_state : due_on_row bases (pair_after bases both_noted) (as_noted 0 3 true (deposit 2 10))
    ≡ record { version = 2; value = pos 10 }
without_the_state = refl

-- ---- number by number

abbrev numbers : List HowReached
numbers =
    Skipped ∷ Skipped ∷ ByTransfer 60 (record { seq = 3; view = 0; rows = rows_of_three })
    ∷ ByAttempt (placed_behind (Transferred rows_of_three ∷ []) fourth) ∷ []

abbrev kept : Settling
kept = record { opening = pos 0 ∷ pos 0 ∷ []; numbers = map (change_at five_batches) numbers }

-- what is skipped leaves the values before it
values_kept : map (λ n. values_in kept n 1) (0 ∷ 1 ∷ 2 ∷ 3 ∷ 4 ∷ [])
    ≡ pos 0 ∷ pos 0 ∷ pos 0 ∷ pos 15 ∷ pos 20 ∷ []
unfolding values_in
values_kept = refl

values_of_the_path : map (λ n. (rows_after five_batches (flat_map came_by (take n numbers)) 1).value)
    (0 ∷ 1 ∷ 2 ∷ 3 ∷ 4 ∷ []) ≡ pos 0 ∷ pos 0 ∷ pos 0 ∷ pos 15 ∷ pos 20 ∷ []
values_of_the_path = refl

which_are_defined : map (defined kept) (0 ∷ 1 ∷ 2 ∷ 3 ∷ 4 ∷ 5 ∷ [])
    ≡ true ∷ false ∷ false ∷ true ∷ true ∷ false ∷ []
which_are_defined = refl

-- ---- step by step

abbrev state_of_three : Transfer
state_of_three = record { seq = 3; view = 0; rows = rows_of_three }

-- two attempts are open where the state is transferred, and one comes behind it
abbrev steps_over : List (ℕ × Step)
steps_over =
    (10, Attempts (attempt_of_batch 1 (deposit 0 0))) ∷ (20, Attempts (attempt_of_batch 2 (deposit 1 5)))
    ∷ (60, Transfers state_of_three) ∷ (80, Attempts fourth)
    ∷ (90, Commits (record { seq = 4; view = 0; token = replicate 32 4 })) ∷ []

what_becomes_of_each : map (λ y. y.fate) (to_come start steps_over) ≡ Discarded ∷ Discarded ∷ Committed ∷ []
what_becomes_of_each = refl

states_before_each : map (λ y. y.transferred) (to_come start steps_over) ≡ 0 ∷ 0 ∷ 1 ∷ []
states_before_each = refl

-- nothing before the state is in the path of what comes behind it
paths_of_each : map (λ y. length y.placed.path) (to_come start steps_over) ≡ 0 ∷ 1 ∷ 1 ∷ []
paths_of_each = refl

-- the numbers before the state's are skipped
how_numbers_are_reached : (state_after start steps_over).ways_reached
    ≡ Skipped ∷ Skipped ∷ ByTransfer 60 state_of_three
    ∷ ByAttempt (record { offset = 80; attempt = fourth; path = Transferred rows_of_three ∷ [] }) ∷ []
how_numbers_are_reached = refl
