-- What a run of a deployment keeps from window to window. docs/TRACE.md, "The deployment's procedure".
use Rattle.std.specs.Prelude.{◌≡◌, ◌≢◌, ℕ, ℤ, ◌+◌, ◌-◌, ◌*◌, ◌<◌, ◌≤◌, ◌⊎◌, Bool, true, false}
use Rattle.std.specs.Prelude.{if◌then◌else◌}
use Rattle.std.specs.Prelude.{All, IsTrue, List, [], ◌∷◌, ◌++◌, length, map, slice_get, vec_len, Option, Some, None}
use Rattle.std.specs.Prelude.{option_map, min, get_or}
use Rattle.std.specs.Prelude.{Vec}
use Rattle.std.specs.declared.alloc.Global.{Global}
use Rattle.std.specs.List.{AllByRecursion, count_by, list_all}
use Rattle.eve_grammar.specs.Trace.{Batch, Commit, Step, Commits, Transfer, Vote}
use Rattle.eve_grammar.specs.declared.limits.TheConstants.{MOST_BATCHES, MOST_BYTES}
use Rattle.eve_grammar.specs.declared.head.Head.{Head}
use Rattle.eve_grammar.specs.Limits.{is_batch, is_step, is_vote, is_sent}
use Rattle.eve_attempts.specs.ClosedAttempts.{touched_in_batch}
use Rattle.eve_attempts.specs.Ledgers.{Ledger, Opened, ledger_rows, opening}
use Rattle.eve_attempts.specs.Transfers.{IsStateOf}
use Rattle.eve_write.specs.Data.{batch as plain, section, vote, sent}
use Rattle.eve_write.specs.Writable.{fits_vote}
use Rattle.eve_write.specs.declared.step.Step as code
use Rattle.eve_write.specs.declared.vote.VoteData.{VoteData}
use Rattle.eve_write.specs.declared.sent.SentData.{SentData}
use Rattle.eve_workload.specs.declared.mixer.MixedBatch.{MixedBatch}
use Rattle.eve_stamps.specs.Applied.{Applied}
use Rattle.eve_floor.specs.Recording.{AreNotedOf}
use Rattle.eve_replica.specs.Replicas.{Replica}
use Rattle.eve_replica.specs.Decisions.{is_some_of, token_given_up, AreUndecided}
use Rattle.eve_replica.specs.Sections.{RunPlan, GoesThrough, AreVotesOf, place_due, commit_vote, rollback_vote}
use Rattle.eve_replica.specs.Sections.{reaches_batch}
use Rattle.eve_replica.specs.Transfers.{AreTransferredIn, AreCommittedByMost, states_in}
use Rattle.eve_replica.specs.Windows.{ComesTo, WindowState, window_with}
use Rattle.eve_replica.specs.declared.standing.Standing.{Standing}
use Rattle.eve_replica.specs.declared.server.Server.{Server}
use Rattle.eve_replica.specs.declared.run_state.RunState.{RunState}

-- a batch within the limits; what its requests touch was looked up among these names
pub record IsRightMixed (names : List (List ℕ)) (m : MixedBatch) : Type 0 where
  pub right : IsTrue (is_batch (plain m.batch))
  pub touched : m.touched.items ≡ touched_in_batch names (plain m.batch)

-- the plan of a run with these names, opening balances, numbers and batches
abbrev pub plan_with : List (List ℕ) → List ℤ → Head → List MixedBatch → RunPlan
plan_with names balances h batches = record {
  names = names;
  batches = map (λ m. plain m.batch) batches;
  first = opening h.version balances h.workers h.window;
}

-- whatever its batches are, the plan has these names, opening balances and numbers
abbrev pub IsPlanFor : List (List ℕ) → List ℤ → Head → RunPlan → Type 0
IsPlanFor names balances h p = (p.names ≡ names) × (p.first ≡ opening h.version balances h.workers h.window)

-- ---- where live replicas stand

-- Where a replica stands: its view, the last batch that it reached, and of how many batches of the window it awaits the
-- decision, be it with an attempt or without one.
abbrev pub standing_of : Server → Standing
standing_of s = record {
  view = s.replica.ledger.view;
  committed = s.replica.ledger.committed;
  opened = length s.replica.ledger.opened + s.missing;
}

-- at first
abbrev pub first_standing : Standing
first_standing = record { view = 0; committed = 0; opened = 0 }

-- this number of attempts on
abbrev pub after_attempts : ℕ → Standing → Standing
after_attempts many at = record { view = at.view; committed = at.committed; opened = at.opened + many }

-- one commit on
abbrev pub after_commit : Standing → Standing
after_commit at = record { view = at.view; committed = at.committed + 1; opened = at.opened - 1 }

-- one rollback on
abbrev pub after_rollback : Standing → Standing
after_rollback at = record { view = at.view + 1; committed = at.committed; opened = 0 }

-- this number of attempts are due: there is room for them, and for their numbers
pub record AreDue (many : ℕ) (s : Ledger) : Type 0 where
  pub last : s.committed + length s.opened + many ≤ MOST_BATCHES
  pub room : length s.opened + many ≤ s.window

-- ---- windows

-- the state of a window where a replica stands here
abbrev pub window_at : RunPlan → Standing → WindowState
window_at p at = window_with p.first.window (length p.batches - at.committed) at.opened

-- This is the number of attempts of a whole window: none is open; there is one for each batch that is left, but no more
-- than a window has.
pub record AreWholeWindow (p : RunPlan) (at : Standing) (many : ℕ) : Type 0 where
  pub none_open : at.opened ≡ 0
  pub some : 0 < many
  pub whole : many ≡ min p.first.window (length p.batches - at.committed)

-- ---- replicas of a run

-- a live replica, which did these steps
abbrev pub server_with : Replica → Vec code.Step Global → Server
server_with r steps = record { replica = r; is_live = true; missing = 0; steps = steps }

-- all that a replica did lies within the limits
abbrev pub AreRightSteps : Server → Type 0
AreRightSteps s = IsTrue (list_all (is_step (ledger_rows s.replica.ledger)) (section s.steps))

-- the open attempts are of the ledger's view
abbrev pub AreOfItsView : Ledger → Type 0
AreOfItsView s = All (λ o. o.view ≡ s.view) s.opened

-- The next of the votes is for the commit of the ledger's first open batch, with another token than its own.
pub record IsOutvoted (s : Ledger) (later : List Vote) : Type 0 where
  pub own : Opened
  pub others : List Opened
  pub opened : s.opened ≡ own ∷ others
  pub token : List ℕ
  pub rest : List Vote
  pub next : later ≡ commit_vote (s.committed + 1) s.view token ∷ rest
  pub other : own.token ≢ token

-- The first of the votes so far are those on which the replica took its steps. Where it is live they are all, and else
-- the next one says why it stopped.
pub record IsLedBy (votes : List Vote) (s : Server) : Type 0 where
  pub own : List Vote
  pub later : List Vote
  pub led : AreVotesOf (section s.steps) own
  pub first : votes ≡ own ++ later
  pub none_later : s.is_live ≡ true → later ≡ []
  pub stopped : s.is_live ≡ false → IsOutvoted s.replica.ledger later

-- A replica that had a state transferred is of version 2, and has no attempt open while it misses some.
pub record MissesRightly (s : Server) : Type 0 where
  pub version : 0 < s.missing → s.replica.ledger.version ≡ 2
  pub none_open : 0 < s.missing → s.replica.ledger.opened ≡ []

-- A replica of a run by this plan. It isn't broken. All that it did lies within the limits, is what its ledger went
-- through, on these votes, and goes window by window. In version 2 it is live. Where it is live it stands here, and
-- where it stopped it has committed less.
pub record Serves (p : RunPlan) (at : Standing) (votes : List Vote) (s : Server) : Type 0 where
  pub names : s.replica.names ≡ p.names
  pub rows : ledger_rows s.replica.ledger ≡ 2 * length p.names
  pub room : s.replica.ledger.window ≡ p.first.window
  pub version : s.replica.ledger.version ≡ p.first.version
  pub whole : s.replica.is_broken ≡ false
  pub steps : AreRightSteps s
  pub through : GoesThrough p (section s.steps) p.first s.replica.ledger
  pub windows : ComesTo p.first.window (length p.batches) (section s.steps)
      (window_at p (standing_of s))
  pub of_view : AreOfItsView s.replica.ledger
  pub led : IsLedBy votes s
  pub view : s.replica.ledger.view ≤ at.view
  pub missing : MissesRightly s
  pub stays_live : p.first.version ≡ 2 → s.is_live ≡ true
  pub live : s.is_live ≡ true → standing_of s ≡ at
  pub behind : s.is_live ≡ false → s.replica.ledger.committed < at.committed

-- ---- how a replica goes on

-- What live replicas do together: whether its steps reach a batch, how far it takes them, at which state of a window it
-- may come and to which it leads, which batches they attempt, and the votes on which they do it.
pub record Move : Type 1 where
  pub reaches : Bool
  pub further : Standing → Standing
  pub InWindow : (size : ℕ) → (old new : WindowState) → Type 0
  pub window : List Batch
  pub votes : Standing → List Vote

-- this number of attempts, of the first batches of a window
abbrev pub attempt_move : ℕ → List Batch → Move
attempt_move many window = record {
  reaches = false;
  further = after_attempts many;
  InWindow = λ size old new.
      (many ≤ old.due) × (new ≡ record old { due = old.due - many; opened = old.opened + many });
  window = window;
  votes = λ at. [];
}

-- the commit of the first open batch with this token, or the transfer of what others committed
abbrev pub commit_move : List ℕ → Move
commit_move token = record {
  reaches = true;
  further = after_commit;
  InWindow = λ size old new. (old.due ≡ 0) × (new ≡ window_with size (old.left - 1) (old.opened - 1));
  window = [];
  votes = λ at. commit_vote (at.committed + 1) at.view token ∷ [];
}

-- the rollback of the first open batch and all others
abbrev pub rollback_move : Move
rollback_move = record {
  reaches = false;
  further = after_rollback;
  InWindow = λ size old new. (old.due ≡ 0) × (new ≡ window_with size old.left 0);
  window = [];
  votes = λ at. rollback_vote (at.committed + 1) at.view ∷ [];
}

-- they come to this view by it, from where they stand
abbrev pub Enters : Move → Standing → ℕ → Type 0
Enters m at view = (at.view < view) × (view ≤ (m.further at).view)

-- the batches of the window are those from this place on
abbrev pub AreBatchesFrom : List Batch → ℕ → List Batch → Type 0
AreBatchesFrom batches place window =
    (k : ℕ) → k < length window → slice_get batches (place + k) ≡ slice_get window k

-- some batch is left, where the decision on one is awaited
abbrev pub IsLeft : List Batch → Standing → Type 0
IsLeft batches at = 0 < at.opened → at.committed < length batches

-- A replica went on. Its names, its rows, its version and how many attempts it may have open stay. It isn't broken if
-- it wasn't. The steps that it added reach a batch each where the move is to reach one, and else none. All that it did
-- lies within the limits if it did before. It is what its ledger went through where the batches of the window are due,
-- and goes on window by window where this may come now. What it gave up stays, but for the views that it comes to. If
-- it is still live it did so on these votes, and stands this much further, and else on none. Where it is live no more
-- its ledger stays, and where it stands. The next of these votes says why it stopped, if it did by this move.
pub record GoesOn (m : Move) (old new : Server) : Type 0 where
  pub names : new.replica.names ≡ old.replica.names
  pub rows : ledger_rows new.replica.ledger ≡ ledger_rows old.replica.ledger
  pub room : new.replica.ledger.window ≡ old.replica.ledger.window
  pub version : new.replica.ledger.version ≡ old.replica.ledger.version
  pub whole : old.replica.is_broken ≡ false → new.replica.is_broken ≡ false
  pub added : (more : List Step) × (section new.steps ≡ section old.steps ++ more)
      × AllByRecursion (λ x. reaches_batch x ≡ m.reaches) more
  pub steps : AreRightSteps old → AreRightSteps new
  pub through : (p : RunPlan) → old.replica.names ≡ p.names
      → (old.is_live ≡ true → AreBatchesFrom p.batches (place_due old.replica.ledger) m.window)
      → (old.is_live ≡ true → IsLeft p.batches (standing_of old))
      → GoesThrough p (section old.steps) p.first old.replica.ledger
      → GoesThrough p (section new.steps) p.first new.replica.ledger
  pub windows : (size batches : ℕ) (from to : WindowState) → (new.is_live ≡ true → m.InWindow size from to)
      → (new.is_live ≡ false → from ≡ to) → ComesTo size batches (section old.steps) from
      → ComesTo size batches (section new.steps) to
  pub of_view : AreOfItsView old.replica.ledger → AreOfItsView new.replica.ledger
  pub given_up : (view : ℕ) → ¬ Enters m (standing_of old) view
      → token_given_up view [] (section new.steps) ≡ token_given_up view [] (section old.steps)
  pub votes : AreOfItsView old.replica.ledger → (own : List Vote) → AreVotesOf (section old.steps) own
      → AreVotesOf (section new.steps) (own ++ (if new.is_live then m.votes (standing_of old) else []))
  pub view : (at : Standing) → old.replica.ledger.view ≤ at.view → new.replica.ledger.view ≤ (m.further at).view
  pub live : new.is_live ≡ true
      → (old.is_live ≡ true) × (standing_of new ≡ m.further (standing_of old))
  pub missing : MissesRightly old → MissesRightly new
  pub stays_live : old.replica.ledger.version ≡ 2 → old.is_live ≡ true → new.is_live ≡ true
  pub behind : (at : Standing) → (old.is_live ≡ true → standing_of old ≡ at)
      → (old.is_live ≡ false → old.replica.ledger.committed < at.committed)
      → new.is_live ≡ false → new.replica.ledger.committed < (m.further at).committed
  pub stays : new.is_live ≡ false → new.replica.ledger ≡ old.replica.ledger
  pub stands : new.is_live ≡ false → standing_of new ≡ standing_of old
  pub stops : new.is_live ≡ false → old.is_live ≡ true
      → IsOutvoted old.replica.ledger (m.votes (standing_of old))

-- ---- states handed on

-- the replica commits the batch that is next, in its view
pub record CommitsNext (old new : Server) : Type 0 where
  pub commit : Commit
  pub seq : commit.seq ≡ old.replica.ledger.committed + 1
  pub view : AreOfItsView old.replica.ledger → commit.view ≡ old.replica.ledger.view
  pub added : section new.steps ≡ section old.steps ++ Commits commit ∷ []

-- it is the state that the replica has committed: its last batch, its view, its rows as they are committed
pub record IsLentBy (s : Server) (x : Transfer) : Type 0 where
  pub seq : x.seq ≡ s.replica.ledger.committed
  pub view : x.view ≡ s.replica.ledger.view
  pub rows : IsStateOf s.replica.ledger x.rows

-- The replica is of version 2 and has nothing open while it misses attempts; it awaits a decision, and the state is of
-- the next batch, in its view.
pub record MayTransfer (x : Transfer) (s : Server) : Type 0 where
  pub version : s.replica.ledger.version ≡ 2
  pub missing : MissesRightly s
  pub awaits : 0 < (standing_of s).opened
  pub next : x.seq ≡ s.replica.ledger.committed + 1
  pub view : x.view ≡ s.replica.ledger.view

-- ---- what is decided

-- the token of its first open attempt, where a replica is live
abbrev pub next_token : Server → Option (List ℕ)
next_token s = if s.is_live then option_map (λ o. o.token) (slice_get s.replica.ledger.opened 0) else None

-- the number of live replicas that have this token for the next batch
abbrev pub count_with : List ℕ → List Server → ℕ
count_with token servers = count_by (λ s. is_some_of token (next_token s)) servers

-- A token is decided where more than half of all replicas are live and have it, and none is where no token is such.
abbrev pub IsDecision : Option (List ℕ) → List Server → Type 0
IsDecision (Some token) servers = length servers < 2 * count_with token servers
IsDecision None servers = (token : List ℕ) → 2 * count_with token servers ≤ length servers

-- By its rollback a replica gave up the token of its first open attempt, and where it has none or is live no more,
-- none.
abbrev pub GivesUpNext : RunPlan → Server → Server → Type 0
GivesUpNext p old new =
    p.first.opened ≡ [] → GoesThrough p (section old.steps) p.first old.replica.ledger
    → token_given_up (old.replica.ledger.view + 1) [] (section new.steps) ≡ next_token old

-- ---- votes and replies

-- votes on batches up to this number
pub record AreVotesOn (batches : ℕ) (votes : List VoteData) : Type 0 where
  pub limits : IsTrue (list_all (is_vote batches) (map vote votes))
  pub tokens : IsTrue (list_all fits_vote votes)

-- replies within the limits, by the numbers of replicas and batches
abbrev pub AreReplies : ℕ → ℕ → List SentData → Type 0
AreReplies replicas batches replies = IsTrue (list_all (is_sent replicas batches) (map sent replies))

-- ---- the run

-- what each replica did
abbrev pub sections_in : List Server → List (List Step)
sections_in servers = map (λ s. section s.steps) servers

-- the number of live replicas
abbrev pub live_in : List Server → ℕ
live_in servers = count_by (λ s. s.is_live) servers

-- the bytes of the frames of this number of states, beside this number of customers
abbrev pub states_len : (customers states : ℕ) → ℕ
states_len customers states = states * (13 + 16 * (2 * customers))

-- The state of a run by this plan, which begins with nothing committed and nothing open, in version 1 or 2. Its batches
-- are the plan's, and were looked up among its names. Each replica is one of this run, and each live one stands where
-- the run does. More than half of them are live. Each batch so far was committed by more than half of all. What was
-- transferred is what the lowest-numbered of these had committed, and in version 2 all that it takes from a trace's
-- room is gone from it. What was rolled back wasn't decided. Every vote so far lies within the limits.
pub record IsUnderWay (p : RunPlan) (d : RunState) : Type 0 where
  pub none_reached : p.first.committed ≡ 0
  pub begun : p.first.opened ≡ []
  pub customers : length p.names ≡ d.head.customers
  pub window : p.first.window ≡ d.head.window
  pub version : p.first.version ≡ d.head.version
  pub known : (d.head.version ≡ 1) ⊎ (d.head.version ≡ 2)
  pub batches : p.batches ≡ map (λ m. plain m.batch) d.batches.now
  pub few : length d.batches.now ≤ MOST_BATCHES
  pub room : 1 ≤ d.head.window
  pub mixed : All (IsRightMixed p.names) d.batches.now
  pub due : d.standing.committed + d.standing.opened ≤ length d.batches.now
  pub many : vec_len d.servers ≡ d.head.replicas
  pub servers : All (Serves p d.standing (map vote d.votes.items)) d.servers.items
  pub majority : length d.servers.items < 2 * live_in d.servers.items
  pub committed : AreCommittedByMost d.standing.committed (sections_in d.servers.items)
  pub transferred : AreTransferredIn p (sections_in d.servers.items)
  pub spent : d.head.version ≡ 2
      → MOST_BYTES ≤ d.room + states_len d.head.customers (states_in (sections_in d.servers.items))
  pub undecided : AreUndecided (sections_in d.servers.items)
  pub votes : AreVotesOn (length d.batches.now) d.votes.items

-- the numbers and the batches stay
abbrev pub IsSameRun : RunState → RunState → Type 0
IsSameRun old new = (new.head ≡ old.head) × (new.batches ≡ old.batches)

-- ---- a window of attempts

-- The batches may be attempted, one after another: the replica isn't broken, there is room for as many attempts and for
-- their numbers, and what their requests touch was looked up among its names.
pub record MayAttemptAll (r : Replica) (window : List MixedBatch) : Type 0 where
  pub whole : r.is_broken ≡ false
  pub due : AreDue (length window) r.ledger
  pub mixed : All (IsRightMixed r.names) window

-- what was noted of such a batch
abbrev pub IsNotedAs : List (List ℕ) → MixedBatch → Vec Applied Global → Type 0
IsNotedAs names m records = AreNotedOf names (plain m.batch) records.items

-- a live replica went on by attempts of all of them
abbrev pub AttemptsAll : List MixedBatch → Replica → Vec code.Step Global → Replica → Vec code.Step Global → Type 0
AttemptsAll window old before new after =
    GoesOn (attempt_move (length window) (map (λ m. plain m.batch) window)) (server_with old before)
    (server_with new after)

-- ---- a window of attempts of all replicas

-- The window is due to a replica of a run: if it is live, it may attempt the batches, and it misses none.
pub record IsDueTo (window : List MixedBatch) (s : Server) : Type 0 where
  pub may : s.is_live ≡ true → MayAttemptAll s.replica window
  pub none_missing : s.is_live ≡ true → s.missing ≡ 0

-- A replica went on by attempts of all of them, if it is live, and else it stays.
abbrev pub AttemptsIfLive : List MixedBatch → Server → Server → Type 0
AttemptsIfLive window old new =
    GoesOn (attempt_move (length window) (map (λ m. plain m.batch) window)) old new × (new.is_live ≡ old.is_live)

-- The same, where no fault broke it.
abbrev pub AttemptsUnbroken : List MixedBatch → Server → Server → Type 0
AttemptsUnbroken window old new = new.replica.is_broken ≡ false → AttemptsIfLive window old new

-- a replica rolled back, if it was live
abbrev pub Discards : Server → Server → Type 0
Discards old new =
    GoesOn rollback_move old new × (new.is_live ≡ old.is_live) × ((p : RunPlan) → GivesUpNext p old new)

-- each replica has become what it should
pub record AreAllOn (Becomes : Server → Server → Type 0) (was servers : List Server) : Type 0 where
  pub many : length servers ≡ length was
  pub each : (k : ℕ) (d : Server) → k < length servers → Becomes (get_or was k d) (get_or servers k d)
