-- How replicas of a run begin.
use Rattle.std.proofs.Common.{◌≡◌, ℕ, ℤ, ◌+◌, ◌-◌, ◌*◌, Bool, true, false, List, [], ◌∷◌, All, length, map, refl, sym}
use Rattle.std.proofs.Common.{ap, ◌∙◌, subst, arith}
use Rattle.std.proofs.lemmas.Bool.{false≢true}
use Rattle.std.proofs.lemmas.List.Elements.{All-nil, All-head, All-tail}
use Rattle.std.specs.List.{list_all, AllByRecursion}
use Rattle.eve_grammar.specs.Trace.{Step, Attempts, Commits, RollsBack, Transfers}
use Rattle.eve_grammar.specs.declared.head.Head.{Head}
use Rattle.eve_grammar.specs.Limits.{is_step}
use Rattle.eve_write.specs.declared.vote.VoteData.{VoteData}
use Rattle.eve_write.specs.Data.{section, vote}
use Rattle.eve_workload.specs.declared.mixer.MixedBatch.{MixedBatch}
use Rattle.eve_attempts.specs.Ledgers.{Ledger, Opened, ledger_rows, opening}
use Rattle.eve_replica.specs.declared.server.Server.{Server}
use Rattle.eve_replica.specs.declared.standing.Standing.{Standing}
use Rattle.eve_replica.specs.Replicas.{Replica}
use Rattle.eve_replica.specs.Sections.{RunPlan, GoesThrough, AreVotesOf, reached_in}
use Rattle.eve_replica.specs.inner.RunInvariant.{IsPlanFor, Serves, AreVotesOn, AreOfItsView, plan_with}
use Rattle.eve_replica.specs.inner.RunInvariant.{standing_of, first_standing, window_at, sections_in}
use Rattle.eve_replica.specs.Windows.{ComesTo, window_with}
use Rattle.eve_replica.specs.Transfers.{IsRightlyTransferred, AreTransferredIn}
use Rattle.eve_replica.proofs.Moves.{stand, standing_with}
use Rattle.eve_replica.proofs.SectionSteps.{reached_through}

-- a replica with the opening balances that has done nothing
pub begins : (p : RunPlan) (names : List (List ℕ)) (balances : List ℤ) (h : Head) (s : Server)
    → IsPlanFor names balances h p → length balances ≡ 2 * length names
    → s.replica ≡ record { names = names; ledger = opening h.version balances h.workers h.window; is_broken = false }
    → section s.steps ≡ [] → s.is_live ≡ true → s.missing ≡ 0 → Serves p first_standing [] s
begins p names balances h s plan rows is none live missing =
    let ledger : s.replica.ledger ≡ opening h.version balances h.workers h.window =
    ap (λ (r : Replica). r.ledger) is in
    let first : p.first ≡ s.replica.ledger = plan.1 ∙ sym ledger in
    let stands : standing_of s ≡ first_standing =
    ap (standing_with s.missing) ledger ∙ stand 0 0 (0 + s.missing) 0 (omega (arith, missing)) in
    let all_left : length p.batches ≡ length p.batches - 0 = omega arith in
    record {
      names = ap (λ (r : Replica). r.names) is ∙ sym plan.0;
      rows = ap ledger_rows ledger ∙ rows ∙ ap (λ (ns : List (List ℕ)). 2 * length ns) (sym plan.0);
      room = ap (λ (x : Ledger). x.window) (sym first);
      version = ap (λ (x : Ledger). x.version) (sym first);
      whole = ap (λ (r : Replica). r.is_broken) is;
      steps = ap (list_all (is_step (ledger_rows s.replica.ledger))) none;
      through = subst (λ (ss : List Step). GoesThrough p ss p.first s.replica.ledger) (sym none) first;
      windows = subst (λ (ss : List Step). ComesTo p.first.window (length p.batches) ss (window_at p (standing_of s)))
          (sym none)
          (subst (ComesTo p.first.window (length p.batches) [])
          (ap (λ (n : ℕ). window_with p.first.window n 0) all_left ∙ ap (window_at p) (sym stands))
          (λ rest goes. goes));
      of_view = subst AreOfItsView (sym ledger) (All-nil (λ (o : Opened). o.view ≡ 0));
      led = record {
        own = [];
        later = [];
        led = subst (λ (ss : List Step). AreVotesOf ss []) (sym none) refl;
        first = refl;
        none_later = λ is'. refl;
        stopped = λ stopped. absurd (false≢true (sym stopped ∙ live));
      };
      view = let view = ap (λ (x : Ledger). x.view) ledger in omega arith;
      missing = record {
        version = λ some. absurd (omega (arith, missing, some));
        none_open = λ some. absurd (omega (arith, missing, some));
      };
      stays_live = λ two. live;
      live = λ is'. stands;
      behind = λ stopped. absurd (false≢true (sym stopped ∙ live));
    }

-- where no batch is reached no state is transferred
none_transferred : (p : RunPlan) (sections : List (List Step)) (steps : List Step) → reached_in steps ≡ 0
    → AllByRecursion (IsRightlyTransferred p sections) steps
none_transferred p sections [] none = tt
none_transferred p sections (Attempts a ∷ steps) none = (tt, none_transferred p sections steps none)
none_transferred p sections (Commits c ∷ steps) none = absurd (omega arith)
none_transferred p sections (RollsBack r ∷ steps) none = (tt, none_transferred p sections steps none)
none_transferred p sections (Transfers x ∷ steps) none = absurd (omega arith)

-- at first none is
pub begun_transferred : (p : RunPlan) (servers : List Server) → p.first.committed ≡ 0
    → All (Serves p first_standing []) servers → AreTransferredIn p (sections_in servers)
begun_transferred p servers begun serve = each servers serve
  where
    none_reached : (s : Server) (b : Bool) → s.is_live ≡ b → Serves p first_standing [] s
        → reached_in (section s.steps) ≡ 0
    none_reached s true is serves =
        let stands = ap (λ (x : Standing). x.committed) (serves.live is) in
        omega (arith, stands, begun, reached_through p (section s.steps) p.first s.replica.ledger serves.through)
    none_reached s false is serves = absurd (let behind = serves.behind is in omega arith)

    each : (some : List Server) → All (Serves p first_standing []) some
        → AllByRecursion (AllByRecursion (IsRightlyTransferred p (sections_in servers))) (sections_in some)
    each [] serve = tt
    each (s ∷ some) serve = (
      none_transferred p (sections_in servers) (section s.steps)
          (none_reached s s.is_live refl (All-head (Serves p first_standing []) s some serve)),
      each some (All-tail (Serves p first_standing []) s some serve),
    )

-- and its plan has nothing open
pub plan_begun : (names : List (List ℕ)) (balances : List ℤ) (h : Head) (batches : List MixedBatch)
    → (plan_with names balances h batches).first.opened ≡ []
plan_begun names balances h batches = refl

-- no votes are votes
pub none_voted : (batches : ℕ) (votes : List VoteData) → votes ≡ [] → AreVotesOn batches votes
none_voted batches votes none =
    subst (λ (vs : List VoteData). AreVotesOn batches vs) (sym none) (record { limits = refl; tokens = refl })

-- replicas that nobody voted on
pub none_led : (p : RunPlan) (votes : List VoteData) (servers : List Server) → votes ≡ []
    → All (Serves p first_standing []) servers → All (Serves p first_standing (map vote votes)) servers
none_led p votes servers none all =
    subst (λ (vs : List VoteData). All (Serves p first_standing (map vote vs)) servers) (sym none) all
