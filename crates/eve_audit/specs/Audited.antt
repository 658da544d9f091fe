-- What a yes says of a trace. docs/MODEL.md, "The audit theorem".
use Rattle.std.specs.Prelude.{◌≡◌, ℕ, zero, suc, ◌+◌, ◌-◌, ◌*◌, ◌<◌, ◌≤◌, List, [], ◌∷◌, ◌++◌, length, slice_get}
use Rattle.std.specs.Prelude.{Option, Some, None, IsTrue, AllPairs, ◌≢◌, ⊤}
use Rattle.std.specs.Option.{is_some}
use Rattle.eve_smallbank.specs.Access.{Executed}
use Rattle.eve_grammar.specs.Trace.{Commit, Rollback, Transfer, Sent, Trace}
use Rattle.eve_grammar.specs.Trace.{Step, Attempts, Commits, RollsBack, Transfers}
use Rattle.eve_grammar.specs.Spelling.{steps_at}
use Rattle.eve_grammar.specs.Certificate.{keeps_groups}
use Rattle.eve_history.specs.Section.{Placed, ByTransfer, batch_at}
use Rattle.eve_history.specs.SectionHistory.{how_reached_at, committed_at, is_reached, ByAttemptsTo, IsRightSection}
use Rattle.eve_chains.specs.Visible.{execution, executions}
use Rattle.eve_chains.specs.Committed.{opening_bank, bank_after, committed_to, Leads, IsSerialBetween}
use Rattle.eve_chains.specs.Committed.{batch_request_ids, committed_request_ids}
use Rattle.eve_votes.specs.Votes.{IsDecided, IsRolledBack}
use Rattle.eve_agree.specs.DueTokens.{due_token}
use Rattle.eve_agree.specs.Agreement.{first_to_commit, HasBalancesOfFirst}
use Rattle.eve_agree.specs.Majority.{SomeDecided}
use Rattle.eve_agree.specs.SentReplies.{IsReplied}
use Rattle.eve_agree.specs.Tables.{working_table, committed_table}

-- what an attempt executed, if there is one
abbrev pub execution_by : Trace → Option Placed → List Executed
execution_by t (Some p) = execution t p.attempt
execution_by t None = []

-- what a replica executed for batch n, if there is one that committed it
abbrev pub execution_of : Trace → ℕ → Option ℕ → List Executed
execution_of t n (Some e) = execution_by t (committed_at t e n)
execution_of t n None = []

-- what was executed for the batches from 1 to n, one after another: for each by the lowest-numbered replica that
-- committed it
abbrev pub first_executions : Trace → ℕ → List Executed
first_executions t zero = []
first_executions t (suc n) = first_executions t n ++ execution_of t (suc n) (first_to_commit t (suc n))

-- the numbers of commits and transfers, in the order of their frames
abbrev pub named_numbers : List (ℕ × Step) → List ℕ
named_numbers [] = []
named_numbers ((at, Attempts a) ∷ steps) = named_numbers steps
named_numbers ((at, Commits c) ∷ steps) = c.seq ∷ named_numbers steps
named_numbers ((at, RollsBack r) ∷ steps) = named_numbers steps
named_numbers ((at, Transfers x) ∷ steps) = x.seq ∷ named_numbers steps

-- each is above the one before it, the first above this one
abbrev pub RiseFrom : ℕ → List ℕ → Type 0
RiseFrom last [] = ⊤
RiseFrom last (n ∷ ns) = (last < n) × RiseFrom n ns

-- Each committed batch of each replica is SmallBank on one thread, and what else a yes says. A replica reached a number
-- by an attempt, where it committed the batch of that number, or by a state that was transferred to it, where it
-- skipped the numbers between. All reached number 0: there the bank has the opening balances.
pub record IsAudited (t : Trace) : Type 0 where
  -- Each step of a replica is right where it stands: a commit is of the first open attempt, with its number, view and
  -- token; a rollback goes back to the last number that was reached; a state transferred is of a later one.
  pub right : (e : ℕ) → IsRightSection t e
  -- the numbers of its commits and of the states that were transferred to it rise: it came to none of them twice
  pub rise : (e : ℕ) → RiseFrom 0 (named_numbers (steps_at t e))
  -- the attempt by which a replica committed batch n is of batch n
  pub numbered : (e n : ℕ) (p : Placed) → committed_at t e n ≡ Some p → p.attempt.seq ≡ n
  -- each committed batch, from the bank before it to the bank after it, in its certificate's order
  pub serial : (e n : ℕ) (p : Placed) → committed_at t e n ≡ Some p
      → IsSerialBetween (bank_after t e (n - 1)) (bank_after t e n) (execution t p.attempt)
  -- and that before it is one that the replica reached
  pub before : (e n : ℕ) (p : Placed) → committed_at t e n ≡ Some p → IsTrue (is_reached t e (n - 1))
  -- all of them, from the opening balances, up to the first state that was transferred to the replica
  pub from_opening : (e n : ℕ) → ByAttemptsTo t e n
      → Leads (opening_bank t) (executions t (committed_to t e n)) (bank_after t e n)
  -- And behind that: after whatever number a replica reached, its bank comes from the opening balances by all batches
  -- up to that number, each as the lowest-numbered replica that committed it executed it. Each batch has such a one.
  pub by_firsts : (e n : ℕ) → IsTrue (is_reached t e n)
      → Leads (opening_bank t) (first_executions t n) (bank_after t e n)
  pub have_firsts : (e n m : ℕ) → IsTrue (is_reached t e n) → 1 ≤ m → m ≤ n → IsTrue (is_some (first_to_commit t m))
  -- the certificate of each committed batch has every index once, parallelBatch after parallelBatch
  pub keeps_groups : (e n : ℕ) (p : Placed) → committed_at t e n ≡ Some p
      → IsTrue (keeps_groups (batch_at t n).sizes (length (batch_at t n).requests) p.attempt.certificate)
  -- replicas that reached a number have the same bank after it, and those that committed its batch have the same
  -- replies, by request index
  pub agree : (e f n : ℕ) → IsTrue (is_reached t e n) → IsTrue (is_reached t f n) → bank_after t e n ≡ bank_after t f n
  pub same_replies : (e f n : ℕ) (p q : Placed) → committed_at t e n ≡ Some p → committed_at t f n ≡ Some q
      → p.attempt.replies ≡ q.attempt.replies
  -- By each state that was transferred to a replica it reached the state's number. The state has the balances after
  -- that number of the lowest-numbered replica that committed its batch, and some commit of it is decided in the
  -- state's view.
  pub reached : (e k at : ℕ) (x : Transfer) → slice_get (steps_at t e) k ≡ Some (at, Transfers x)
      → how_reached_at t e x.seq ≡ Some (ByTransfer at x)
  pub transferred : (e k at : ℕ) (x : Transfer) → slice_get (steps_at t e) k ≡ Some (at, Transfers x)
      → HasBalancesOfFirst t x.seq x × SomeDecided t x.seq x.view
  -- after each rollback a replica works on what is committed
  pub restored : (e k at : ℕ) (r : Rollback) → slice_get (steps_at t e) k ≡ Some (at, RollsBack r)
      → working_table t e (suc k) ≡ committed_table t e (suc k)
  -- No two requests of the batches have one client and number, so no request took effect twice: not by an attempt, nor
  -- by a state that was transferred.
  pub apart : AllPairs (λ a b. a ≢ b) (batch_request_ids t)
  pub once : (e : ℕ) → AllPairs (λ a b. a ≢ b) (committed_request_ids t e)
  -- each reply sent comes from a batch that its replica committed, and so a majority decided
  pub replied : (k : ℕ) (s : Sent) → slice_get t.sent k ≡ Some s → IsReplied t s
  -- more than half of the verifiers decide
  pub majority : length t.verifiers < 2 * t.head.quorum
  -- each batch that a replica committed is decided, in its attempt's view and with its token; so is each commit, and
  -- each rollback is voted for
  pub decided : (e n : ℕ) (p : Placed) → committed_at t e n ≡ Some p → IsDecided t n p.attempt.view p.attempt.token
  pub commits : (e k at : ℕ) (c : Commit) → slice_get (steps_at t e) k ≡ Some (at, Commits c)
      → IsDecided t c.seq c.view c.token
  pub rollbacks : (e k at : ℕ) (r : Rollback) → slice_get (steps_at t e) k ≡ Some (at, RollsBack r)
      → IsRolledBack t (r.to + 1) (r.view - 1)
  -- the token of each batch that a replica committed is made of its number, of the balances after it and of its replies
  pub tokens : (e n : ℕ) (p : Placed) → committed_at t e n ≡ Some p → p.attempt.token ≡ due_token t e p
  -- all who committed a batch did so in one view, with one token
  pub one_decision : (e f n : ℕ) (p q : Placed) → committed_at t e n ≡ Some p → committed_at t f n ≡ Some q
      → (p.attempt.view ≡ q.attempt.view) × (p.attempt.token ≡ q.attempt.token)
