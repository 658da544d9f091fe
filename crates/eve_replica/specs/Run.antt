-- What a run of a workload gives. docs/DEPLOYMENT.md, "A run".
use Rattle.std.specs.Prelude.{◌≡◌, ◌≢◌, ℕ, ◌*◌, ◌<◌, ◌≤◌, ◌==◌, Bool, List, map, length, ◌++◌, [], All}
use Rattle.std.specs.List.{count_by}
use Rattle.eve_grammar.specs.Trace.{Batch, Step, Vote, Trace, opening_rows}
use Rattle.eve_write.specs.declared.parts.Parts.{Parts}
use Rattle.eve_write.specs.Data.{trace}
use Rattle.eve_write.specs.Writable.{HasSpelling}
use Rattle.eve_workload.specs.declared.mixer.Mixer.{Mixer}
use Rattle.eve_workload.specs.Mixers.{cut, batch_with}
use Rattle.eve_workload.specs.Workload.{Workload, customer_names}
use Rattle.eve_workload.specs.Workload.{head_asked}
use Rattle.eve_attempts.specs.Ledgers.{Ledger, opening}
use Rattle.eve_replica.specs.Decisions.{AreUndecided, StopsBefore}
use Rattle.eve_replica.specs.SentReplies.{sent_from_on}
use Rattle.eve_replica.specs.Sections.{RunPlan, GoesThrough, AreVotesOf, reached_in}
use Rattle.eve_replica.specs.Transfers.{AreTransferredIn, AreCommittedByMost}
use Rattle.eve_replica.specs.Windows.{GoByWindows, window_with}

-- each batch of the workload, cut into parallelBatches
abbrev pub batches_cut : Workload → Mixer → List Batch
batches_cut w mixer = map (λ requests. batch_with (cut (customer_names w.customers) mixer requests)) w.batches

-- the customers' names, the batches as they are cut, and the opening balances
abbrev pub run_plan : Workload → Mixer → RunPlan
run_plan w mixer = record {
  names = customer_names w.customers;
  batches = batches_cut w mixer;
  first = opening w.format (opening_rows w.customers) w.deployment.workers w.deployment.window;
}

-- The section of a replica: its steps are what its ledger went through, which began with the opening balances; they
-- go window by window; and there are no more rollbacks than two for each batch.
pub record IsSectionOf (p : RunPlan) (steps : List Step) : Type 0 where
  pub last : Ledger
  pub through : GoesThrough p steps p.first last
  pub windows : GoByWindows p.first.window (window_with p.first.window (length p.batches) 0) steps
  pub views : last.view ≤ 2 * length p.batches

-- whether a section reaches this number of batches
abbrev pub has_reached : ℕ → List Step → Bool
has_reached batches steps = reached_in steps == batches

-- The first of these votes are those on which the replica took its steps. Where it reached this number of batches they
-- are all, and else the next one says why it stopped.
pub record IsDecidedBy (batches : ℕ) (steps : List Step) (votes : List Vote) : Type 0 where
  pub own : List Vote
  pub later : List Vote
  pub led : AreVotesOf steps own
  pub first : votes ≡ own ++ later
  pub none_later : reached_in steps ≡ batches → later ≡ []
  pub stopped : reached_in steps ≢ batches → StopsBefore steps later

-- A trace of a run of the workload. Numbers and customers are the workload's. The batches are, in order, the cut of
-- each of its batches. Each section is that of a replica that served them. More than half of the replicas reached all
-- batches, and in format 2 all of them did. Each batch was committed by more than half of all replicas. What was
-- transferred is what the lowest-numbered of these had committed. What was rolled back wasn't decided. Each verifier
-- gave the votes on which the replicas took their steps, and each replica sent the replies of what it committed.
pub record IsTraceOf (w : Workload) (mixer : Mixer) (t : Trace) : Type 0 where
  pub head : t.head ≡ head_asked w
  pub customers : t.customers ≡ w.customers
  pub batches : t.batches ≡ batches_cut w mixer
  pub sections : All (IsSectionOf (run_plan w mixer)) t.sections
  pub reached : length t.sections < 2 * count_by (has_reached (length w.batches)) t.sections
  pub all_reached : w.format ≡ 2 → All (λ steps. reached_in steps ≡ length w.batches) t.sections
  pub committed : AreCommittedByMost (length w.batches) t.sections
  pub transferred : AreTransferredIn (run_plan w mixer) t.sections
  pub undecided : AreUndecided t.sections
  pub sent : t.sent ≡ sent_from_on (batches_cut w mixer) 0 t.sections
  pub voted : All (λ votes. All (λ steps. IsDecidedBy (length w.batches) steps votes) t.sections) t.verifiers

-- the parts of a run of the workload have a spelling, but that they may be too long
pub record IsRunOf (w : Workload) (mixer : Mixer) (p : Parts) : Type 0 where
  pub spelled : HasSpelling p
  pub run : IsTraceOf w mixer (trace p)
