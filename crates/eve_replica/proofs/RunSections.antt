-- What the sections of a run say: each is what a ledger went through, on the votes, and most reach all batches.
use Rattle.std.proofs.Common.{◌≡◌, ℕ, ◌+◌, ◌*◌, ◌<◌, ◌≤◌, Bool, true, false, cond, List, [], ◌∷◌, All}
use Rattle.std.proofs.Common.{Vec}
use Rattle.std.proofs.Common.{length, map, refl, sym, ap, ◌∙◌, subst, eq-eqb, arith}
use Rattle.std.proofs.lemmas.List.{append-nil, length-map}
use Rattle.std.proofs.lemmas.List.Elements.{All-head, All-tail, All-cons, All-nil}
use Rattle.std.proofs.lemmas.List.Sums.{sum_by-cons}
use Rattle.std.specs.List.{count_by}
use Rattle.std.specs.declared.alloc.Global.{Global}
use Rattle.eve_grammar.specs.Trace.{Asked, Batch, Step, Vote, ForCommit, opening_rows}
use Rattle.eve_grammar.specs.declared.head.Head.{Head}
use Rattle.eve_write.specs.declared.customer.CustomerData.{CustomerData}
use Rattle.eve_write.specs.declared.parts.Parts.{Parts}
use Rattle.eve_write.specs.declared.vote.VoteData.{VoteData}
use Rattle.eve_write.specs.Data.{batch, customer, section, trace, vote}
use Rattle.eve_write.specs.Data.{votes as votes_of}
use Rattle.eve_workload.specs.declared.mixer.Mixer.{Mixer}
use Rattle.eve_workload.specs.Mixers.{batch_with, cut}
use Rattle.eve_workload.specs.Workload.{Workload, customer_names, head_asked}
use Rattle.eve_workload.specs.declared.mixer.MixedBatch.{MixedBatch}
use Rattle.eve_attempts.specs.Ledgers.{Opened, opening}
use Rattle.eve_replica.specs.declared.server.Server.{Server}
use Rattle.eve_replica.specs.declared.standing.Standing.{Standing}
use Rattle.eve_replica.specs.Decisions.{AreUndecided, StopsBefore, open_after}
use Rattle.eve_replica.specs.Sections.{RunPlan, reached_in}
use Rattle.eve_replica.specs.Transfers.{AreTransferredIn, AreCommittedByMost}
use Rattle.eve_replica.specs.SentReplies.{sent_from_on}
use Rattle.eve_replica.specs.Run.{IsSectionOf, IsDecidedBy, IsTraceOf, batches_cut, has_reached, run_plan}
use Rattle.eve_replica.specs.inner.RunInvariant.{Serves, live_in, plan_with, standing_of, window_at}
use Rattle.eve_replica.specs.Windows.{GoByWindows, window_with}
use Rattle.eve_replica.proofs.Windows.{window_ends, windows_end}
use Rattle.eve_replica.proofs.GivenUpTokens.{open_marked, open_along, first_open}
use Rattle.eve_replica.proofs.SectionSteps.{reached_through}

-- what holds of the section of each replica
pub each_section : (P : Server → Type 0) (Q : List Step → Type 0) → ((s : Server) → P s → Q (section s.steps))
    → (servers : List Server) → All P servers → All Q (map (λ s. section s.steps) servers)
each_section P Q gives [] all = All-nil Q
each_section P Q gives (s ∷ servers) all =
    All-cons Q (section s.steps) (map (λ t. section t.steps) servers) (gives s (All-head P s servers all))
    (each_section P Q gives servers (All-tail P s servers all))

pub section_of : (p : RunPlan) (at : Standing) (votes : List Vote) → at.committed ≡ length p.batches
    → at.view ≤ 2 * length p.batches → (s : Server) → Serves p at votes s → IsSectionOf p (section s.steps)
section_of p at votes done few s serves = record {
  last = s.replica.ledger;
  through = serves.through;
  windows = subst (GoByWindows p.first.window (window_with p.first.window (length p.batches) 0))
      (append-nil (section s.steps)) (serves.windows [] (ended s.is_live refl));
  views = omega (arith, serves.view);
}
  where
    here : Standing
    here = standing_of s

    ended : (b : Bool) → s.is_live ≡ b → (window_at p here).due ≡ 0
    ended true is =
        let stands = ap (λ (x : Standing). x.committed) (serves.live is) in windows_end p here (omega arith)
    ended false is =
        let out = ap length (serves.led.stopped is).opened in window_ends p here (omega arith)

-- its section reaches as many batches as its ledger
reached_counted : (p : RunPlan) (at : Standing) (votes : List Vote) (s : Server) → p.first.committed ≡ 0
    → Serves p at votes s → reached_in (section s.steps) ≡ s.replica.ledger.committed
reached_counted p at votes s none serves =
    let counted = reached_through p (section s.steps) p.first s.replica.ledger serves.through in
    omega arith

-- who stopped was outvoted
stopped_before : (p : RunPlan) (at : Standing) (votes : List Vote) (s : Server) → p.first.committed ≡ 0
    → p.first.opened ≡ [] → (serves : Serves p at votes s) → s.is_live ≡ false
    → StopsBefore (section s.steps) serves.led.later
stopped_before p at votes s none begun serves is =
    let ledger = s.replica.ledger in
    let out = serves.led.stopped is in
    let marked = open_along p (section s.steps) [] p.first ledger serves.through
    (sym (ap (map open_marked) begun)) in
    let first = first_open (open_after [] (section s.steps)) out.own out.others
    (marked ∙ ap (map open_marked) out.opened) in
    let InView : Opened → Type 0 = λ o. o.view ≡ ledger.view in
    let own : out.own.view ≡ ledger.view =
    All-head InView out.own out.others (subst (λ (os : List Opened). All InView os) out.opened serves.of_view) in
    let counted = reached_counted p at votes s none serves in
    record {
      own = first.0;
      first = first.1;
      token = out.token;
      rest = out.rest;
      next = out.next
          ∙ ap (λ (n : ℕ). record { seq = n + 1; view = ledger.view; choice = ForCommit out.token } ∷ out.rest)
          (sym counted)
          ∙ ap (λ (v : ℕ). record {
            seq = reached_in (section s.steps) + 1;
            view = v;
            choice = ForCommit out.token;
          } ∷ out.rest) (sym (first.2 ∙ own));
      other = λ same. out.other (sym first.3 ∙ same);
    }

decided_on : (p : RunPlan) (at : Standing) (votes : List Vote) (batches : ℕ) → p.first.committed ≡ 0
    → p.first.opened ≡ [] → at.committed ≡ batches → (s : Server) → Serves p at votes s
    → IsDecidedBy batches (section s.steps) votes
decided_on p at votes batches none begun done s serves = decide s.is_live refl
  where
    decide : (b : Bool) → s.is_live ≡ b → IsDecidedBy batches (section s.steps) votes
    decide true is = record {
      own = serves.led.own;
      later = serves.led.later;
      led = serves.led.led;
      first = serves.led.first;
      none_later = λ all. serves.led.none_later is;
      stopped = λ less.
          let counted = reached_counted p at votes s none serves in
          let stands = ap (λ (x : Standing). x.committed) (serves.live is) in
          absurd (less (omega arith));
    }
    decide false is = record {
      own = serves.led.own;
      later = serves.led.later;
      led = serves.led.led;
      first = serves.led.first;
      none_later = λ all.
          let counted = reached_counted p at votes s none serves in
          let less = serves.behind is in
          absurd (omega arith);
      stopped = λ less. stopped_before p at votes s none begun serves is;
    }

pub sections_decided : (p : RunPlan) (at : Standing) (votes : List Vote) (batches : ℕ) → p.first.committed ≡ 0
    → p.first.opened ≡ [] → at.committed ≡ batches → (servers : List Server) → All (Serves p at votes) servers
    → All (λ steps. IsDecidedBy batches steps votes) (map (λ s. section s.steps) servers)
sections_decided p at votes batches none begun done servers serve =
    each_section (Serves p at votes) (λ steps. IsDecidedBy batches steps votes)
    (decided_on p at votes batches none begun done) servers serve

-- a live replica's section reaches all batches
small : (b c : Bool) → (b ≡ true → c ≡ true) → cond b 1 0 ≤ cond c 1 0
small true true to = omega arith
small true false to = let e : false ≡ true = to refl in absurd cc
small false true to = omega arith
small false false to = omega arith

live_reach : (p : RunPlan) (at : Standing) (votes : List Vote) (batches : ℕ) → p.first.committed ≡ 0
    → at.committed ≡ batches → (servers : List Server) → All (Serves p at votes) servers
    → live_in servers ≤ count_by (has_reached batches) (map (λ s. section s.steps) servers)
live_reach p at votes batches none done [] serve = omega arith
live_reach p at votes batches none done (s ∷ servers) serve =
    let here = All-head (Serves p at votes) s servers serve in
    let rest = live_reach p at votes batches none done servers (All-tail (Serves p at votes) s servers serve) in
    let one = small s.is_live (has_reached batches (section s.steps))
    (λ live.
    let counted = reached_counted p at votes s none here in
    let stands = ap (λ (x : Standing). x.committed) (here.live live) in
    eq-eqb (reached_in (section s.steps)) batches (omega arith)) in
    let left = sum_by-cons (λ (x : Server). cond x.is_live 1 0) s servers in
    let right = sum_by-cons (λ (steps : List Step). cond (has_reached batches steps) 1 0) (section s.steps)
    (map (λ t. section t.steps) servers) in
    omega arith

-- more than half of the sections reach all batches
pub most_reach : (p : RunPlan) (at : Standing) (votes : List Vote) (batches : ℕ) → p.first.committed ≡ 0
    → at.committed ≡ batches → (servers : List Server) → All (Serves p at votes) servers
    → length servers < 2 * live_in servers
    → length (map (λ s. section s.steps) servers)
    < 2 * count_by (has_reached batches) (map (λ s. section s.steps) servers)
most_reach p at votes batches none done servers serve more =
    let few = live_reach p at votes batches none done servers serve in
    let many = length-map servers (λ s. section s.steps) in
    omega arith

-- where replicas stay live their sections reach all batches
pub reached_all : (p : RunPlan) (at : Standing) (votes : List Vote) (batches : ℕ) → p.first.committed ≡ 0
    → at.committed ≡ batches → p.first.version ≡ 2 → (s : Server) → Serves p at votes s
    → reached_in (section s.steps) ≡ batches
reached_all p at votes batches none done two s serves =
    let counted = reached_counted p at votes s none serves in
    let stands = ap (λ (x : Standing). x.committed) (serves.live (serves.stays_live two)) in
    omega (arith, counted, stands, done)

-- each verifier gave these votes
all_gave : (P : List Vote → Type 0) (led : List Vote) → P led → (verifiers : List (List Vote))
    → All (λ votes. votes ≡ led) verifiers → All P verifiers
all_gave P led holds [] all = All-nil P
all_gave P led holds (votes ∷ verifiers) all =
    All-cons P votes verifiers (subst P (sym (All-head (λ vs. vs ≡ led) votes verifiers all)) holds)
    (all_gave P led holds verifiers (All-tail (λ vs. vs ≡ led) votes verifiers all))

-- A run by the workload's plan has a trace of a run: all batches are committed, in no view past two for each batch, and
-- its verifiers gave the votes that led its replicas.
pub run_of : (w : Workload) (mixer : Mixer) (p : Parts) (plan : RunPlan) (at : Standing) (led : List Vote)
    (servers : List Server) → plan ≡ run_plan w mixer
    → (trace p).head ≡ head_asked w → (trace p).customers ≡ w.customers → (trace p).batches ≡ batches_cut w mixer
    → map section p.sections.items ≡ map (λ s. section s.steps) servers → All (Serves plan at led) servers
    → at.committed ≡ length plan.batches → at.view ≤ 2 * length plan.batches → length servers < 2 * live_in servers
    → All (λ votes. votes ≡ led) (trace p).verifiers
    → AreCommittedByMost at.committed (map (λ s. section s.steps) servers)
    → AreTransferredIn plan (map (λ s. section s.steps) servers)
    → AreUndecided (map (λ s. section s.steps) servers)
    → (trace p).sent ≡ sent_from_on plan.batches 0 (map (λ s. section s.steps) servers)
    → IsTraceOf w mixer (trace p)
run_of w mixer p plan at led servers is head customers batches sections serve done few more gave most transferred
    undecided
    sent =
    let none : plan.first.committed ≡ 0 = ap (λ (x : RunPlan). x.first.committed) is in
    let begun : plan.first.opened ≡ [] = ap (λ (x : RunPlan). x.first.opened) is in
    let version : plan.first.version ≡ w.format = ap (λ (x : RunPlan). x.first.version) is in
    let many : length plan.batches ≡ length w.batches =
    ap (λ (x : RunPlan). length x.batches) is ∙ length-map w.batches _ in
    let done' : at.committed ≡ length w.batches = done ∙ many in
    record {
      head = head;
      customers = customers;
      batches = batches;
      sections = subst (λ (ss : List (List Step)). All (IsSectionOf (run_plan w mixer)) ss) (sym sections)
          (subst (λ (x : RunPlan). All (IsSectionOf x) (map (λ s. section s.steps) servers)) is
          (each_section (Serves plan at led) (IsSectionOf plan) (section_of plan at led done few) servers serve));
      reached = subst (λ (ss : List (List Step)). length ss < 2 * count_by (has_reached (length w.batches)) ss)
          (sym sections) (most_reach plan at led (length w.batches) none done' servers serve more);
      all_reached = λ two.
          subst (λ (ss : List (List Step)). All (λ steps. reached_in steps ≡ length w.batches) ss) (sym sections)
          (each_section (Serves plan at led) (λ steps. reached_in steps ≡ length w.batches)
          (reached_all plan at led (length w.batches) none done' (version ∙ two)) servers serve);
      committed = subst (λ (ss : List (List Step)). AreCommittedByMost (length w.batches) ss) (sym sections)
          (subst (λ (n : ℕ). AreCommittedByMost n (map (λ s. section s.steps) servers)) done' most);
      transferred = subst (λ (ss : List (List Step)). AreTransferredIn (run_plan w mixer) ss) (sym sections)
          (subst (λ (x : RunPlan). AreTransferredIn x (map (λ s. section s.steps) servers)) is transferred);
      undecided = subst AreUndecided (sym sections) undecided;
      sent = sent
          ∙ ap (λ (bs : List Batch). sent_from_on bs 0 (map (λ s. section s.steps) servers))
          (ap (λ (x : RunPlan). x.batches) is)
          ∙ ap (sent_from_on (batches_cut w mixer) 0) (sym sections);
      voted = subst (λ (ss : List (List Step)).
          All (λ votes. All (λ steps. IsDecidedBy (length w.batches) steps votes) ss) (trace p).verifiers)
          (sym sections)
          (all_gave (λ votes. All (λ steps. IsDecidedBy (length w.batches) steps votes)
          (map (λ s. section s.steps) servers)) led
          (sections_decided plan at led (length w.batches) none begun done' servers serve) (trace p).verifiers gave);
    }

-- copies of votes are those votes
pub copies_gave : (given : List VoteData) (copies : List (Vec VoteData Global))
    → All (λ copy. copy.items ≡ given) copies → All (λ votes. votes ≡ map vote given) (map votes_of copies)
copies_gave given [] all = All-nil (λ vs. vs ≡ map vote given)
copies_gave given (copy ∷ copies) all =
    All-cons (λ vs. vs ≡ map vote given) (votes_of copy) (map votes_of copies)
    (ap (map vote) (All-head (λ c. c.items ≡ given) copy copies all))
    (copies_gave given copies (All-tail (λ c. c.items ≡ given) copy copies all))

-- what a run began with is the workload's plan
pub plan_is : (w : Workload) (mixer : Mixer) (customers : List CustomerData) (names : List (List ℕ)) (h : Head)
    (lists : List (List Asked)) (batches : List MixedBatch) → map customer customers ≡ w.customers
    → names ≡ customer_names w.customers → h ≡ head_asked w → lists ≡ w.batches
    → map (λ m. batch m.batch) batches ≡ map (λ requests. batch_with (cut names mixer requests)) lists
    → plan_with names (opening_rows (map customer customers)) h batches ≡ run_plan w mixer
plan_is w mixer customers names h lists batches given named asked listed made = λ k. record {
  names = named k;
  batches = batches_are k;
  first = opening (asked k).version (opening_rows (given k)) (asked k).workers (asked k).window;
}
  where
    batches_are : map (λ m. batch m.batch) batches ≡ batches_cut w mixer
    batches_are = made ∙ (λ k. map (λ requests. batch_with (cut (named k) mixer requests)) (listed k))
