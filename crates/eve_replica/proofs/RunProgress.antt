-- How far a run under way came, and how it ends there.
use Rattle.std.proofs.Common.{◌≡◌, ℕ, ◌+◌, ◌-◌, ◌*◌, ◌<◌, ◌≤◌, cond, List, [], ◌∷◌, All, length, map, slice_get}
use Rattle.std.proofs.Common.{Option, Some, option_map, refl, sym, ap, ◌∙◌, subst, arith}
use Rattle.std.proofs.Math.Nat.{add-mul}
use Rattle.std.proofs.lemmas.List.{length-map}
use Rattle.std.proofs.lemmas.List.Elements.{All-head, All-tail}
use Rattle.std.proofs.lemmas.List.Sums.{sum_by-cons}
use Rattle.eve_grammar.specs.Frames.{OfTransfer}
use Rattle.eve_grammar.specs.Spelling.{frame_text}
use Rattle.eve_grammar.specs.Trace.{Attempt, Step, Transfer, Vote}
use Rattle.eve_grammar.specs.declared.limits.TheConstants.{MOST_BYTES}
use Rattle.eve_attempts.specs.Ledgers.{Opened}
use Rattle.eve_write.specs.Data.{batch, section, vote}
use Rattle.eve_replica.specs.declared.fault.AttemptFault.{AttemptFault}
use Rattle.eve_replica.specs.declared.fault.AttemptFault.TheVariants as attempt
use Rattle.eve_replica.specs.declared.fault.RunFault.{RunFault}
use Rattle.eve_replica.specs.declared.fault.RunFault.TheVariants as run
use Rattle.eve_replica.specs.declared.run_state.RunState.{RunState}
use Rattle.eve_replica.specs.declared.server.Server.{Server}
use Rattle.eve_replica.specs.declared.standing.Standing.{Standing}
use Rattle.eve_replica.specs.Decisions.{is_some_of, open_after}
use Rattle.eve_replica.specs.RunFaults.{IsLongOnly, EndsSoFar, StopsAmid, TransfersTooMuch, run_fault_of}
use Rattle.eve_replica.specs.Sections.{RunPlan, reached_in}
use Rattle.eve_replica.specs.inner.RunInvariant.{IsUnderWay, Serves, count_with, next_token, sections_in, standing_of}
use Rattle.eve_replica.specs.inner.RunInvariant.{states_len}
use Rattle.eve_replica.specs.inner.RunInvariant.{window_at}
use Rattle.eve_replica.specs.RunProgress.{HasComeTo, IsSectionSoFar, count_first, first_token}
use Rattle.eve_replica.specs.Transfers.{states_in}
use Rattle.eve_replica.proofs.TokenCounts.{next_by}
use Rattle.eve_replica.proofs.GivenUpTokens.{attempt_marked, first_open, open_along, open_marked}
use Rattle.eve_replica.proofs.RunSections.{each_section, most_reach, reached_all, sections_decided}
use Rattle.eve_replica.proofs.States.{state_frame_len}

pub come : (p : RunPlan) (d : RunState) → IsUnderWay p d
    → HasComeTo p d.head.replicas d.standing.committed (sections_in d.servers.items) (map vote d.votes.items)
come p d was =
    let servers = d.servers.items in
    let at = d.standing in
    let votes = map vote d.votes.items in
    record {
      many = length-map servers (λ s. section s.steps) ∙ omega (arith, d.servers.ok, was.many);
      each = each_section (Serves p at votes) (IsSectionSoFar p)
          (λ s serves. record {
            last = s.replica.ledger;
            through = serves.through;
            at = window_at p (standing_of s);
            windows = serves.windows;
          }) servers was.servers;
      reached = most_reach p at votes at.committed was.none_reached refl servers was.servers was.majority;
      all_reached = λ two.
          each_section (Serves p at votes) (λ steps. reached_in steps ≡ at.committed)
          (reached_all p at votes at.committed was.none_reached refl two) servers was.servers;
      committed = was.committed;
      transferred = was.transferred;
      undecided = was.undecided;
      voted = sections_decided p at votes at.committed was.none_reached was.begun refl servers was.servers;
    }

-- where a batch is left
pub amid : (p : RunPlan) (d : RunState) → IsUnderWay p d → d.standing.committed < length d.batches.now
    → StopsAmid p d.head.replicas
amid p d was left = record {
  batches = d.standing.committed;
  sections = sections_in d.servers.items;
  votes = map vote d.votes.items;
  come = come p d was;
  left = omega (arith, left, ap length was.batches, length-map d.batches.now (λ m. batch m.batch));
}

pub attempt_ends : (p : RunPlan) (replicas : ℕ) (why : AttemptFault) → StopsAmid p replicas
    → EndsSoFar p replicas (run_fault_of why)
attempt_ends p replicas attempt.Memory left = tt
attempt_ends p replicas attempt.TickOrder left = left
attempt_ends p replicas attempt.Full left = left
attempt_ends p replicas attempt.Worn left = left
attempt_ends p replicas attempt.Spent left = left
attempt_ends p replicas attempt.NoRow left = left
attempt_ends p replicas attempt.Mismatch left = left
attempt_ends p replicas attempt.Broken left = left

-- ---- too many states

-- the first of the open attempts has the token of the ledger's first
first_tokens : (attempts : List Attempt) (opened : List Opened) → map attempt_marked attempts ≡ map open_marked opened
    → option_map (λ a. a.token) (slice_get attempts 0) ≡ option_map (λ o. o.token) (slice_get opened 0)
first_tokens [] [] marked = refl
first_tokens (a ∷ attempts) [] marked = absurd (let none = ap length marked in omega arith)
first_tokens attempts (own ∷ others) marked =
    let first = first_open attempts own others marked in
    ap (option_map (λ (a : Attempt). a.token)) first.1 ∙ ap (λ (t : List ℕ). Some t) first.3

first_is_next : (p : RunPlan) (at : Standing) (votes : List Vote) (s : Server) → p.first.version ≡ 2
    → p.first.opened ≡ [] → Serves p at votes s → first_token (section s.steps) ≡ next_token s
first_is_next p at votes s two begun serves =
    first_tokens (open_after [] (section s.steps)) s.replica.ledger.opened
    (open_along p (section s.steps) [] p.first s.replica.ledger serves.through
    (sym (ap (map open_marked) begun)))
    ∙ sym (next_by s _ (serves.stays_live two))

counted_first : (p : RunPlan) (at : Standing) (votes : List Vote) (token : List ℕ) → p.first.version ≡ 2
    → p.first.opened ≡ [] → (servers : List Server) → All (Serves p at votes) servers
    → count_first token (sections_in servers) ≡ count_with token servers
counted_first p at votes token two begun [] serve = refl
counted_first p at votes token two begun (s ∷ servers) serve =
    sum_by-cons (λ (steps : List Step). cond (is_some_of token (first_token steps)) 1 0) (section s.steps)
    (sections_in servers)
    ∙ ap (λ (n : ℕ). cond (is_some_of token (first_token (section s.steps))) 1 0 + n)
    (counted_first p at votes token two begun servers (All-tail (Serves p at votes) s servers serve))
    ∙ ap (λ (t : Option (List ℕ)). cond (is_some_of token t) 1 0 + count_with token servers)
    (first_is_next p at votes s two begun (All-head (Serves p at votes) s servers serve))
    ∙ sym (sum_by-cons (λ (x : Server). cond (is_some_of token (next_token x)) 1 0) s servers)

-- with the room gone, the states so far and these others are too many
too_long : (customers rows room states others : ℕ) (x : Transfer) → rows ≡ 2 * customers → length x.rows ≡ rows
    → MOST_BYTES ≤ room + states_len customers states → room < states_len customers others
    → MOST_BYTES < (states + others) * length (frame_text (OfTransfer x))
too_long customers rows room states others x twice many spent more =
    let each = 13 + 16 * (2 * customers) in
    let one : each ≡ length (frame_text (OfTransfer x)) = omega (arith, state_frame_len x, twice, many) in
    let both = add-mul states others each in
    subst (λ (n : ℕ). MOST_BYTES < (states + others) * n) one (omega (arith, both, spent, more))

pub too_much : (p : RunPlan) (d : RunState) (token : List ℕ) → IsUnderWay p d
    → length d.servers.items < 2 * count_with token d.servers.items → d.head.version ≡ 2
    → d.room < states_len d.head.customers (length d.servers.items - count_with token d.servers.items)
    → TransfersTooMuch p d.head.replicas
too_much p d token was most two more =
    let servers = d.servers.items in
    let version = was.version ∙ two in
    let counted = counted_first p d.standing (map vote d.votes.items) token version was.begun servers was.servers in
    let many : length servers ≡ d.head.replicas = omega (arith, d.servers.ok, was.many) in
    let others : length servers - count_with token servers ≡ d.head.replicas - count_first token (sections_in servers) =
    omega (arith, counted, many) in
    record {
      version = version;
      batches = d.standing.committed;
      sections = sections_in servers;
      votes = map vote d.votes.items;
      come = come p d was;
      token = token;
      decided = omega (arith, most, counted, many);
      long = λ x rows.
          too_long d.head.customers (2 * length p.names) d.room (states_in (sections_in servers))
          (d.head.replicas - count_first token (sections_in servers)) x
          (ap (λ (n : ℕ). 2 * n) was.customers) rows (was.spent two)
          (subst (λ (n : ℕ). d.room < states_len d.head.customers n) others more);
    }

-- how a commit ends
pub commit_ends : (p : RunPlan) (d : RunState) (token : List ℕ) (why : RunFault) → IsUnderWay p d
    → d.standing.committed < length d.batches.now
    → length d.servers.items < 2 * count_with token d.servers.items
    → IsLongOnly ((d.head.version ≡ 2)
    × (d.room < states_len d.head.customers (length d.servers.items - count_with token d.servers.items))) why
    → EndsSoFar p d.head.replicas why
commit_ends p d token run.Memory was left most long = tt
commit_ends p d token run.Broken was left most long = amid p d was left
commit_ends p d token run.TooLong was left most long = too_much p d token was most long.0 long.1
