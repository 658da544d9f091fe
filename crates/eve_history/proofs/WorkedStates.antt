-- A section step by step: two attempts open, a state that is transferred, an attempt and its commit behind it, and a
-- rollback behind that. Each line computes.
use Rattle.std.proofs.Common.{◌≡◌, ℕ, pos, true, false, List, [], ◌∷◌, ◌++◌, map, replicate, slice_get, codes, refl}
use Rattle.eve_smallbank.specs.SmallBank.{DepositChecking}
use Rattle.eve_smallbank.specs.declared.request.Reply.TheVariants.{Done}
use Rattle.eve_smallbank.specs.declared.versioned.Versioned.{Versioned}
use Rattle.eve_grammar.specs.Trace.{Attempt, Commit, Transfer, Step, Attempts, Commits}
use Rattle.eve_grammar.specs.Trace.{RollsBack, Transfers, Trace}
use Rattle.eve_history.specs.declared.fate.Fate.TheVariants.{Committed, Discarded, Open}
use Rattle.eve_history.specs.Section.{Ran, Transferred, Placed, ByAttempt, ByTransfer, Skipped, SectionState, start}
use Rattle.eve_history.specs.Section.{path_of, state_after, settled, are_right}
use Rattle.eve_history.specs.Fates.{fates_from}
use Rattle.eve_history.specs.SectionHistory.{told_reached_from, is_by_attempt, was_reached, transferred_from}

-- five batches of a deposit each, and a window of two
five_batches : Trace
five_batches = record {
  head = record {
    version = 1;
    replicas = 1;
    verifiers = 1;
    quorum = 1;
    window = 2;
    workers = 1;
    customers = 1;
    batches = 5;
  };
  customers = record { name = codes "ann"; saving = pos 0; checking = pos 0 } ∷ [];
  batches = replicate 5 (record {
    sizes = 1 ∷ [];
    requests = record { client = 7; number = 1; request = DepositChecking (codes "ann") (pos 5) } ∷ [];
  });
  sections = [] ∷ [];
  verifiers = [] ∷ [];
  sent = [];
}

attempt_of_batch : ℕ → Attempt
attempt_of_batch n = record {
  seq = n;
  view = 0;
  serial = false;
  certificate = 0 ∷ [];
  replies = Done ∷ [];
  token = replicate 32 n;
  accesses = record { worker = 0; place = 0; index = 0; entries = [] } ∷ [];
}

commit_of_batch : ℕ → Commit
commit_of_batch n = record { seq = n; view = 0; token = replicate 32 n }

rows_of_three : List Versioned
rows_of_three = record { version = 0; value = pos 0 } ∷ record { version = 3; value = pos 15 } ∷ []

-- ---- two attempts are open

two_attempts : List (ℕ × Step)
two_attempts = (40, Attempts (attempt_of_batch 1)) ∷ (50, Attempts (attempt_of_batch 2)) ∷ []

opened : SectionState
opened = state_after start two_attempts

they_are_right : are_right five_batches start two_attempts ≡ true
unfolding five_batches attempt_of_batch two_attempts
they_are_right = refl

both_are_on_the_path : path_of opened ≡ Ran (attempt_of_batch 1) ∷ Ran (attempt_of_batch 2) ∷ []
unfolding opened two_attempts
both_are_on_the_path = refl

-- ---- the state of batch 3 is transferred

abbrev state_of_three : Transfer
state_of_three = record { seq = 3; view = 0; rows = rows_of_three }

the_state : List (ℕ × Step)
the_state = (60, Transfers state_of_three) ∷ []

it_may_be_transferred : are_right five_batches opened the_state ≡ true
unfolding five_batches opened two_attempts the_state
it_may_be_transferred = refl

behind_the_state : SectionState
behind_the_state = state_after opened the_state

-- and not once more: its number is the last then
it_was_transferred : are_right five_batches behind_the_state the_state ≡ false
unfolding five_batches behind_the_state opened two_attempts the_state
it_was_transferred = refl

-- it alone is on the path, and the open attempts are discarded
the_state_is_the_path : path_of behind_the_state ≡ Transferred rows_of_three ∷ []
unfolding behind_the_state opened two_attempts the_state
the_state_is_the_path = refl

both_are_discarded : map (λ p. p.offset) behind_the_state.discarded ≡ 40 ∷ 50 ∷ []
unfolding behind_the_state opened two_attempts the_state
both_are_discarded = refl

-- ---- batch 4 is attempted and committed, and then a rollback comes

steps_behind : List (ℕ × Step)
steps_behind = (70, Attempts (attempt_of_batch 4)) ∷ (80, Commits (commit_of_batch 4)) ∷ []

ended : SectionState
ended = state_after behind_the_state steps_behind

these_are_right : are_right five_batches behind_the_state steps_behind ≡ true
unfolding five_batches attempt_of_batch commit_of_batch steps_behind behind_the_state opened two_attempts the_state
these_are_right = refl

-- the attempt's path begins with the state
fourth : Placed
fourth = record { offset = 70; attempt = attempt_of_batch 4; path = Transferred rows_of_three ∷ [] }

the_numbers : ended.ways_reached
    ≡ Skipped ∷ Skipped ∷ ByTransfer 60 state_of_three ∷ ByAttempt fourth ∷ []
unfolding ended steps_behind behind_the_state opened two_attempts fourth the_state
the_numbers = refl

reached : map (λ n. was_reached (slice_get ended.ways_reached n)) (0 ∷ 1 ∷ 2 ∷ 3 ∷ 4 ∷ [])
    ≡ false ∷ false ∷ true ∷ true ∷ false ∷ []
unfolding ended steps_behind behind_the_state opened two_attempts the_state
reached = refl

by_attempts : map is_by_attempt (told_reached_from 0 ended.ways_reached) ≡ false ∷ false ∷ false ∷ true ∷ []
unfolding ended steps_behind behind_the_state opened two_attempts the_state
by_attempts = refl

they_are_settled : map (λ p. p.offset) (settled ended) ≡ 70 ∷ 40 ∷ 50 ∷ []
unfolding ended steps_behind behind_the_state opened two_attempts the_state
they_are_settled = refl

-- a rollback leaves what was reached and the path, and begins the next view
last_step : List (ℕ × Step)
last_step = (90, RollsBack (record { to = 4; view = 1; restores = [] })) ∷ []

it_is_right : are_right five_batches ended last_step ≡ true
unfolding five_batches ended steps_behind behind_the_state opened two_attempts last_step the_state
it_is_right = refl

rolled_back : SectionState
rolled_back = state_after ended last_step

nothing_is_lost : path_of rolled_back ≡ Transferred rows_of_three ∷ Ran (attempt_of_batch 4) ∷ []
unfolding rolled_back last_step ended steps_behind behind_the_state opened two_attempts the_state
nothing_is_lost = refl

where_it_stands : (rolled_back.last ≡ 4) × (rolled_back.view ≡ 1)
unfolding rolled_back last_step ended steps_behind behind_the_state opened two_attempts the_state
where_it_stands = (refl, refl)

-- ---- fates

-- of two open attempts the first is committed and the other is discarded by a rollback; one behind it stays open
fates : fates_from 0 (
    (40, Attempts (attempt_of_batch 1)) ∷ (50, Attempts (attempt_of_batch 2)) ∷ (60, Commits (commit_of_batch 1)) ∷
    (70, RollsBack (record { to = 1; view = 1; restores = [] })) ∷ (80, Attempts (attempt_of_batch 2)) ∷ []
    ) ≡ Committed ∷ Discarded ∷ Open ∷ []
fates = refl

-- and a state that is transferred discards those that are open
all_steps : List (ℕ × Step)
all_steps = two_attempts ++ (the_state ++ steps_behind)

fates_with_a_state : fates_from 0 all_steps ≡ Discarded ∷ Discarded ∷ Committed ∷ []
unfolding all_steps two_attempts the_state steps_behind
fates_with_a_state = refl

-- one state was transferred before the last attempt
transferred_before_each : transferred_from 0 all_steps ≡ 0 ∷ 0 ∷ 1 ∷ []
unfolding all_steps two_attempts the_state steps_behind
transferred_before_each = refl
