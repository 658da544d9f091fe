-- What a run did lies within the limits of the format.
use Rattle.std.proofs.Common.{◌≡◌, ℕ, ◌*◌, true, List, [], ◌∷◌, Vec, All, IsTrue, length, map, ap, refl, sym, ◌∙◌}
use Rattle.std.proofs.Common.{subst, eq-eqb}
use Rattle.std.proofs.lemmas.Bool.{and_from}
use Rattle.std.proofs.lemmas.List.{length-map}
use Rattle.std.proofs.lemmas.List.Elements.{All-head, All-tail}
use Rattle.std.specs.List.{list_all}
use Rattle.std.specs.declared.alloc.Global.{Global}
use Rattle.eve_grammar.specs.Trace.{Step, Attempts, Commits, RollsBack, Transfers, Vote, head_of}
use Rattle.eve_grammar.specs.Limits.{is_head, is_customer, is_batch, is_step, is_of_version, is_vote, is_sent}
use Rattle.eve_grammar.specs.Frames.{has_transfers}
use Rattle.eve_grammar.specs.declared.head.Head.{Head}
use Rattle.eve_write.specs.declared.vote.VoteData.{VoteData}
use Rattle.eve_write.specs.declared.parts.Parts.{Parts}
use Rattle.eve_write.specs.Data.{customer, batch, section, vote, votes, trace}
use Rattle.eve_write.specs.Writable.{fits_vote, HasSpelling}
use Rattle.eve_workload.specs.declared.mixer.MixedBatch.{MixedBatch}
use Rattle.eve_replica.specs.declared.server.Server.{Server}
use Rattle.eve_replica.specs.declared.standing.Standing.{Standing}
use Rattle.eve_attempts.specs.Ledgers.{Ledger}
use Rattle.eve_replica.specs.Sections.{RunPlan, GoesThrough}
use Rattle.eve_replica.specs.inner.RunInvariant.{IsRightMixed, Serves, AreVotesOn, AreReplies}

pub sections_fit : (p : RunPlan) (at : Standing) (votes : List Vote) (servers : List Server)
    → All (Serves p at votes) servers
    → list_all (list_all (is_step (2 * length p.names))) (map (λ s. section s.steps) servers) ≡ true
sections_fit p at votes [] serve = refl
sections_fit p at votes (s ∷ servers) serve =
    let first = All-head (Serves p at votes) s servers serve in
    let P : ℕ → Type 0 = λ n. list_all (is_step n) (section s.steps) ≡ true in
    and_from (list_all (is_step (2 * length p.names)) (section s.steps)) _ (subst P first.rows first.steps)
    (sections_fit p at votes servers (All-tail (Serves p at votes) s servers serve))

-- only a ledger of version 2 has a state transferred
kinds_through : (version : ℕ) (p : RunPlan) (steps : List Step) (a b : Ledger) → a.version ≡ version
    → GoesThrough p steps a b → list_all (is_of_version version) steps ≡ true
kinds_through version p [] a b is goes = refl
kinds_through version p (Attempts x ∷ steps) a b is goes =
    kinds_through version p steps goes.0 b (ap (λ (s : Ledger). s.version) goes.1.closed.opens.changed ∙ is) goes.2
kinds_through version p (Commits x ∷ steps) a b is goes =
    kinds_through version p steps goes.0 b (ap (λ (s : Ledger). s.version) goes.1.changed ∙ is) goes.2
kinds_through version p (RollsBack x ∷ steps) a b is goes =
    kinds_through version p steps goes.0 b (ap (λ (s : Ledger). s.version) goes.1.rolled_back.changed ∙ is) goes.2
kinds_through version p (Transfers x ∷ steps) a b is goes =
    and_from (has_transfers version) (list_all (is_of_version version) steps)
    (eq-eqb version 2 (sym is ∙ goes.1.version))
    (kinds_through version p steps goes.0 b (ap (λ (s : Ledger). s.version) goes.1.transferred.changed ∙ is) goes.2)

pub kinds_fit : (version : ℕ) (p : RunPlan) (at : Standing) (votes : List Vote) (servers : List Server)
    → p.first.version ≡ version → All (Serves p at votes) servers
    → list_all (list_all (is_of_version version)) (map (λ s. section s.steps) servers) ≡ true
kinds_fit version p at votes [] is serve = refl
kinds_fit version p at votes (s ∷ servers) is serve =
    and_from (list_all (is_of_version version) (section s.steps)) _
    (kinds_through version p (section s.steps) p.first s.replica.ledger is
    (All-head (Serves p at votes) s servers serve).through)
    (kinds_fit version p at votes servers is (All-tail (Serves p at votes) s servers serve))

-- each verifier has these votes
abbrev Copies : List VoteData → Vec VoteData Global → Type 0
Copies given copy = copy.items ≡ given

pub votes_fit : (batches : ℕ) (given : List VoteData) (copies : List (Vec VoteData Global)) → AreVotesOn batches given
    → All (Copies given) copies → list_all (list_all (is_vote batches)) (map votes copies) ≡ true
votes_fit batches given [] right each = refl
votes_fit batches given (copy ∷ copies) right each =
    let P : List VoteData → Type 0 = λ vs. list_all (is_vote batches) (map vote vs) ≡ true in
    and_from (list_all (is_vote batches) (votes copy)) _
    (subst P (sym (All-head (Copies given) copy copies each)) right.limits)
    (votes_fit batches given copies right (All-tail (Copies given) copy copies each))

pub tokens_fit : (batches : ℕ) (given : List VoteData) (copies : List (Vec VoteData Global)) → AreVotesOn batches given
    → All (Copies given) copies → list_all (λ v. list_all fits_vote v.items) copies ≡ true
tokens_fit batches given [] right each = refl
tokens_fit batches given (copy ∷ copies) right each =
    let P : List VoteData → Type 0 = λ vs. list_all fits_vote vs ≡ true in
    and_from (list_all fits_vote copy.items) _ (subst P (sym (All-head (Copies given) copy copies each)) right.tokens)
    (tokens_fit batches given copies right (All-tail (Copies given) copy copies each))

-- the numbers in the header
pub same_head : (p : Parts) (replicas verifiers customers batches : ℕ) → length p.sections.items ≡ replicas
    → length p.verifiers.items ≡ verifiers
    → length (trace p).customers ≡ customers → length (trace p).batches ≡ batches
    → head_of (trace p) ≡ record {
      version = p.version;
      replicas = replicas;
      verifiers = verifiers;
      quorum = p.quorum;
      window = p.window;
      workers = p.workers;
      customers = customers;
      batches = batches;
    }
same_head p replicas verifiers customers batches e v k n =
    let sections : length (trace p).sections ≡ replicas = length-map p.sections.items section ∙ e in
    let given : length (trace p).verifiers ≡ verifiers = length-map p.verifiers.items votes ∙ v in
    cc

batches_fit : (names : List (List ℕ)) (mixed : List MixedBatch) → All (IsRightMixed names) mixed
    → list_all is_batch (map (λ m. batch m.batch) mixed) ≡ true
batches_fit names [] right = refl
batches_fit names (m ∷ mixed) right =
    and_from (is_batch (batch m.batch)) _ (All-head (IsRightMixed names) m mixed right).right
    (batches_fit names mixed (All-tail (IsRightMixed names) m mixed right))

-- The parts of a run have a spelling: its numbers and customers are a workload's, its batches were mixed, its replicas
-- served, each verifier gave these votes, and the replies are of these replicas in these batches.
pub spelled : (p : Parts) (h : Head) (plan : RunPlan) (mixed : List MixedBatch) (at : Standing) (led : List Vote)
    (servers : List Server) (given : List VoteData)
    → head_of (trace p) ≡ h → IsTrue (is_head h) → length plan.names ≡ h.customers
    → IsTrue (list_all is_customer (map customer p.customers.items))
    → map batch p.batches.items ≡ map (λ m. batch m.batch) mixed → All (IsRightMixed plan.names) mixed
    → map section p.sections.items ≡ map (λ s. section s.steps) servers → All (Serves plan at led) servers
    → AreVotesOn (length mixed) given → All (Copies given) p.verifiers.items
    → AreReplies (length servers) (length mixed) p.sent.items → plan.first.version ≡ p.version
    → HasSpelling p
spelled p h plan mixed at led servers given head right named customers batches mix sections serve votes each replies
    version =
    let many : length (trace p).batches ≡ length mixed = ap length batches ∙ length-map mixed (λ m. batch m.batch) in
    let replicas : length (trace p).sections ≡ length servers =
    ap length sections ∙ length-map servers (λ s. section s.steps) in
    let Fit : ℕ → List (List Step) → Type 0 = λ n ss. IsTrue (list_all (list_all (is_step n)) ss) in
    let rows : 2 * length plan.names ≡ 2 * (head_of (trace p)).customers =
    ap (λ (n : ℕ). 2 * n) named ∙ ap (λ (x : Head). 2 * x.customers) (sym head) in
    record {
      limits = record {
        counts = refl;
        head = subst (λ x. IsTrue (is_head x)) (sym head) right;
        customers = customers;
        batches = subst (λ bs. IsTrue (list_all is_batch bs)) (sym batches) (batches_fit plan.names mixed mix);
        sections = subst (Fit (2 * (head_of (trace p)).customers)) (sym sections)
            (subst (λ n. Fit n (map (λ s. section s.steps) servers)) rows (sections_fit plan at led servers serve));
        kinds = subst (λ (ss : List (List Step)). IsTrue (list_all (list_all (is_of_version p.version)) ss))
            (sym sections)
            (kinds_fit p.version plan at led servers version serve);
        votes = subst (λ n. IsTrue (list_all (list_all (is_vote n)) (trace p).verifiers)) (sym many)
            (votes_fit (length mixed) given p.verifiers.items votes each);
        sent = subst (λ n. IsTrue (list_all (is_sent n (length (trace p).batches)) (trace p).sent)) (sym replicas)
            (subst (λ n. IsTrue (list_all (is_sent (length servers) n) (trace p).sent)) (sym many) replies);
      };
      tokens = tokens_fit (length mixed) given p.verifiers.items votes each;
    }
