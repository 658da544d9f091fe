use Rattle.std.proofs.Common.{◌≡◌, ℕ, All, IsTrue, List, length, map, sym, ◌∙◌}
use Rattle.std.proofs.Common.{ap, subst, arith}
use Rattle.std.proofs.lemmas.List.{length-map}
use Rattle.std.specs.List.{list_all}
use Rattle.eve_grammar.specs.Trace.{Customer, Vote, head_of, opening_rows}
use Rattle.eve_grammar.specs.declared.head.Head as header
use Rattle.eve_grammar.specs.Limits.{is_customer}
use Rattle.eve_grammar.specs.declared.head.Head.{Head}
use Rattle.eve_write.specs.declared.parts.Parts.{Parts}
use Rattle.eve_write.specs.declared.customer.CustomerData.{CustomerData}
use Rattle.eve_write.specs.declared.vote.VoteData.{VoteData}
use Rattle.eve_write.specs.Data.{batch, customer, section, trace, vote}
use Rattle.eve_workload.specs.declared.mixer.MixedBatch.{MixedBatch}
use Rattle.eve_replica.specs.declared.server.Server.{Server}
use Rattle.eve_replica.specs.declared.run_state.RunState.{RunState}
use Rattle.eve_replica.specs.inner.RunInvariant.{IsRightMixed, AreVotesOn, AreReplies, IsUnderWay, plan_with}
use Rattle.eve_workload.specs.Workload.{customer_names, head_asked, is_listed}
use Rattle.eve_replica.specs.Run.{batches_cut, run_plan}
use Rattle.eve_replica.specs.RunFaults.{EndsSoFar}
use Rattle.eve_replica.specs.Sections.{RunPlan}
use Rattle.eve_replica.specs.SentReplies.{sent_from_on}
use Rattle.eve_grammar.proofs.HeadLimits.{head_has_limits}
use Rattle.eve_replica.proofs.RunLimits.{same_head, spelled}
use Rattle.eve_replica.proofs.RunSections.{run_of, plan_is, copies_gave}
use Rattle.eve_replica.proofs.Endings.{at_err}
use Rattle.eve_replica.proofs.running.run_named.Goals as goal

pub returns-clause-run : goal.returns-clause-run
returns-clause-run g c =
    let w = c.args.workload in
    let h : Head = c.head-head.result in
    let p : Parts = record {
      version = h.version;
      quorum = h.quorum;
      window = h.window;
      workers = h.workers;
      customers = c.into_lists-customers.result.0;
      batches = c.in_ok-batches-2.batches;
      sections = c.in_ok-outcome.outcome.sections;
      verifiers = c.in_ok-outcome.outcome.verifiers;
      sent = c.in_ok-outcome.outcome.sent;
    } in
    let gave = c.in_ok-outcome.ensures in
    let mixed : List MixedBatch = c.in_ok-batches.batches.items in
    let last : RunState = c.run_windows.new.state in
    let servers : List Server = last.servers.items in
    let given : List VoteData = last.votes.items in
    let slice : List MixedBatch = c.as_slice.result.now in
    let lent : List CustomerData = c.as_slice-given.result.now in
    let names : List (List ℕ) = c.args.names.now.items in
    let plan = plan_with names (opening_rows (map customer lent)) h slice in
    let under : IsUnderWay plan last = c.in_ok-run_windows.ensures.under_way plan c.in_ok-state.ensures.under_way in
    let same : last.head ≡ h = c.in_ok-run_windows.ensures.same.0 ∙ c.in_ok-state.ensures.head in
    let all : last.batches.now ≡ mixed = ap (λ b. b.now) c.in_ok-run_windows.ensures.same.1
    ∙ c.in_ok-state.ensures.batches ∙ c.as_slice.ensures.value in
    let replicas : length p.sections.items ≡ h.replicas =
    sym (length-map p.sections.items section) ∙ ap length gave.sections ∙ length-map servers (λ s. section s.steps)
    ∙ omega (arith, last.servers.ok, under.many, ap (λ (x : header.Head). x.replicas) same) in
    let verifiers : length p.verifiers.items ≡ h.verifiers =
    omega (arith, p.verifiers.ok, gave.many, ap (λ (x : header.Head). x.verifiers) same) in
    let customers : (trace p).customers ≡ w.customers = c.into_lists-customers.ensures.customers in
    let asked : h ≡ head_asked w = c.head-head.ensures.head in
    let is : plan ≡ run_plan w c.args.mixer =
    plan_is w c.args.mixer lent names h _ slice (ap (map customer) c.as_slice-given.ensures.value ∙ customers)
    c.requires.named asked c.into_lists-customers.ensures.batches
    (ap (map (λ m. batch m.batch)) c.as_slice.ensures.value ∙ c.in_ok-batches.ensures.cut) in
    let batches : (trace p).batches ≡ batches_cut w c.args.mixer =
    c.in_ok-batches-2.ensures ∙ ap (map (λ m. batch m.batch)) (sym c.as_slice.ensures.value)
    ∙ ap (λ (x : RunPlan). x.batches) is in
    let many : length (trace p).batches ≡ h.batches =
    ap length batches ∙ length-map w.batches _ ∙ ap (λ (x : Head). x.batches) (sym asked) in
    let named : length (trace p).customers ≡ h.customers = ap length customers
    ∙ ap (λ (x : Head). x.customers) (sym asked) in
    let head : head_of (trace p) ≡ h = same_head p h.replicas h.verifiers h.customers h.batches replicas verifiers named
    many in
    let right : IsTrue (list_all is_customer (map customer p.customers.items)) =
    subst (λ (cs : List Customer). IsTrue (list_all is_customer cs)) (sym customers)
    c.into_lists-customers.ensures.workload.customers in
    let counted : length plan.names ≡ h.customers = under.customers ∙ ap (λ (x : header.Head). x.customers) same in
    let mix : All (IsRightMixed plan.names) mixed =
    subst (λ (ms : List MixedBatch). All (IsRightMixed plan.names) ms) all under.mixed in
    let votes : AreVotesOn (length mixed) given =
    subst (λ (ms : List MixedBatch). AreVotesOn (length ms) given) all under.votes in
    let replies : AreReplies (length servers) (length mixed) p.sent.items =
    subst (λ (ms : List MixedBatch). AreReplies (length servers) (length ms) p.sent.items) all gave.limits in
    let led : List Vote = map vote given in
    let at = last.standing in
    let done : at.committed ≡ length plan.batches =
    c.in_ok-run_windows.ensures.done ∙ ap length c.in_ok-state.ensures.batches
    ∙ sym (length-map slice (λ m. batch m.batch)) in
    let sent_all : (trace p).sent ≡ sent_from_on plan.batches 0 (map (λ s. section s.steps) servers) =
    gave.sent
    ∙ ap (λ (ms : List MixedBatch). sent_from_on (map (λ m. batch m.batch) ms) 0
    (map (λ s. section s.steps) servers)) (all ∙ sym c.as_slice.ensures.value) in
    record {
      spelled = spelled p h plan mixed at led servers given
          head (c.head-head.ensures.right c.requires.format.0 c.requires.format.1)
          counted right c.in_ok-batches-2.ensures mix gave.sections
          under.servers votes gave.each replies (under.version ∙ ap (λ (x : header.Head). x.version) same);
      run = run_of w c.args.mixer p plan at led servers is (head ∙ asked) customers batches
          gave.sections under.servers done
          (omega (
            arith,
            c.in_ok-run_windows.ensures.view,
            ap length c.in_ok-state.ensures.batches,
            length-map slice (λ m. batch m.batch),
          )) under.majority
          (copies_gave given p.verifiers.items gave.each) under.committed under.transferred under.undecided sent_all;
    }

pub first_state-requires-clause-named : goal.first_state-requires-clause-named
first_state-requires-clause-named g c =
    c.requires.named
    ∙ ap customer_names
    (sym (ap (map customer) c.as_slice-given.ensures.value ∙ c.into_lists-customers.ensures.customers))

pub first_state-requires-clause-customers : goal.first_state-requires-clause-customers
first_state-requires-clause-customers g c =
    sym (length-map c.as_slice-given.result.now customer)
    ∙ ap length (ap (map customer) c.as_slice-given.ensures.value ∙ c.into_lists-customers.ensures.customers)
    ∙ sym (ap (λ (h : Head). h.customers) c.head-head.ensures.head)

pub first_state-requires-clause-mixed : goal.first_state-requires-clause-mixed
first_state-requires-clause-mixed g c =
    subst (All (IsRightMixed c.args.names.now.items)) (sym c.as_slice.ensures.value) c.in_ok-batches.ensures.mixed

pub batches_of-requires : goal.batches_of-requires
batches_of-requires g c =
    subst (λ lists. IsTrue (list_all is_listed lists)) (sym c.into_lists-customers.ensures.batches)
    c.into_lists-customers.ensures.workload.batches

pub outcome_of-requires : goal.outcome_of-requires
outcome_of-requires g c =
    let h : header.Head = c.head-head.result in
    let plan = plan_with c.args.names.now.items (opening_rows (map customer c.as_slice-given.result.now)) h
    c.as_slice.result.now in
    let last : RunState = c.run_windows.new.state in
    let under : IsUnderWay plan last = c.in_ok-run_windows.ensures.under_way plan c.in_ok-state.ensures.under_way in
    let same : last.head ≡ h = c.in_ok-run_windows.ensures.same.0 ∙ c.in_ok-state.ensures.head in
    omega (
      arith,
      (head_has_limits h
          (c.head-head.ensures.right c.requires.format.0 c.requires.format.1)).few_replicas,
      under.many,
      ap (λ (x : header.Head). x.replicas) same,
    )

pub run_windows-requires-clause-under_way : goal.run_windows-requires-clause-under_way
run_windows-requires-clause-under_way g c κs within =
    let opened = opening_rows (map customer c.as_slice-given.result.now) in (
      plan_with c.args.names.now.items opened c.head-head.result c.as_slice.result.now,
      c.in_ok-state.ensures.under_way,
    )

pub returns-in_err-run_windows-clause-so_far : goal.returns-in_err-run_windows-clause-so_far
returns-in_err-run_windows-clause-so_far g c =
    let w = c.args.workload in
    let h : Head = c.head-head.result in
    let slice : List MixedBatch = c.as_slice.result.now in
    let lent : List CustomerData = c.as_slice-given.result.now in
    let names : List (List ℕ) = c.args.names.now.items in
    let plan = plan_with names (opening_rows (map customer lent)) h slice in
    let asked : h ≡ head_asked w = c.head-head.ensures.head in
    let is : plan ≡ run_plan w c.args.mixer =
    plan_is w c.args.mixer lent names h _ slice
    (ap (map customer) c.as_slice-given.ensures.value ∙ c.into_lists-customers.ensures.customers)
    c.requires.named asked c.into_lists-customers.ensures.batches
    (ap (map (λ m. batch m.batch)) c.as_slice.ensures.value ∙ c.in_ok-batches.ensures.cut) in
    let why = c.in_err-run_windows.field-0.0 in
    at_err c.from_residual-in_err-run_windows.result _ why c.from_residual-in_err-run_windows.ensures.1
    (subst (λ (x : Head). EndsSoFar (run_plan w c.args.mixer) x.replicas why) (c.in_ok-state.ensures.head ∙ asked)
    (subst (λ (p : RunPlan). EndsSoFar p c.in_ok-state.state.head.replicas why) is
    (c.in_err-run_windows.ensures.why plan c.in_ok-state.ensures.under_way)))
