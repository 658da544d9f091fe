use Rattle.std.proofs.Common.{◌≡◌, ℕ, true, false, List, length, get_or, Option, Some, None, sym, ap, ◌∙◌, subst}
use Rattle.std.specs.Prelude.{◌↔◌, nat_lt}
use Rattle.std.specs.Option.{option_map}
use Rattle.eve_grammar.specs.Trace.{Trace}
use Rattle.eve_votes.specs.Votes.{IsDecided}
use Rattle.eve_votes.specs.Decisions.{decision_decoded, decision_on}
use Rattle.eve_votes.specs.declared.decisions.Decision.{Decision}
use Rattle.eve_votes.proofs.TallyLaws.{decided_is, decision_past, decision_of, token_size}
use Rattle.eve_votes.proofs.tally.Tally.decided.Goals as goal

abbrev Answers : ℕ → Option (ℕ × List ℕ) → Trace → Type 0
Answers n x t = (view : ℕ) (token : List ℕ) → IsDecided t n view token ↔ (x ≡ Some (view, token))

pub returns-in_default : goal.returns-in_default
returns-in_default c =
    let ds = c.self.inside.decisions.items in
    let same : c.self.inside.trace.now ≡ c.args.self.now = c.self.view_is in
    let past : nat_lt c.args.n (length ds) ≡ false =
    ap (λ (xs : List (Option Decision)). nat_lt c.args.n (length xs)) (sym c.deref.ensures.value)
    ∙ sym c.in_default.ensures.lookup.0 in
    subst (Answers c.args.n None) same
    (decided_is c.self.inside.trace.now ds c.args.n None c.self.invariant.decisions
    (decision_past ds c.args.n past))

pub array_of-requires : goal.array_of-requires
array_of-requires c =
    let ds = c.self.inside.decisions.items in
    let there : nat_lt c.args.n (length ds) ≡ true =
    ap (λ (xs : List (Option Decision)). nat_lt c.args.n (length xs)) (sym c.deref.ensures.value)
    ∙ sym c.in-Some.ensures.lookup.0 in
    let read : c.in-Some.kept.now ≡ get_or ds c.args.n c.in-Some.kept.now =
    c.in-Some.ensures.lookup.1 ∙ ap (λ (xs : List (Option Decision)). get_or xs c.args.n c.in-Some.kept.now)
    c.deref.ensures.value in
    let is : decision_on ds c.args.n ≡ Some (decision_decoded c.in-Some-kept.decision) =
    decision_of ds c.args.n c.in-Some.kept.now there read ∙ ap (option_map decision_decoded) c.in-Some-kept.is in
    token_size c.self.inside.trace.now ds c.args.n (decision_decoded c.in-Some-kept.decision) c.self.invariant.decisions
    is

pub returns-in-Some-kept : goal.returns-in-Some-kept
returns-in-Some-kept c =
    let ds = c.self.inside.decisions.items in
    let same : c.self.inside.trace.now ≡ c.args.self.now = c.self.view_is in
    let there : nat_lt c.args.n (length ds) ≡ true =
    ap (λ (xs : List (Option Decision)). nat_lt c.args.n (length xs)) (sym c.deref.ensures.value)
    ∙ sym c.in-Some.ensures.lookup.0 in
    let read : c.in-Some.kept.now ≡ get_or ds c.args.n c.in-Some.kept.now =
    c.in-Some.ensures.lookup.1 ∙ ap (λ (xs : List (Option Decision)). get_or xs c.args.n c.in-Some.kept.now)
    c.deref.ensures.value in
    let is : decision_on ds c.args.n ≡ Some (c.in-Some-kept.decision.view, c.array_of.result) =
    decision_of ds c.args.n c.in-Some.kept.now there read ∙ ap (option_map decision_decoded) c.in-Some-kept.is
    ∙ ap (λ (token : List ℕ). Some (c.in-Some-kept.decision.view, token)) (sym c.array_of.ensures) in
    subst (Answers c.args.n (Some (c.in-Some-kept.decision.view, c.array_of.result))) same
    (decided_is c.self.inside.trace.now ds c.args.n (Some (c.in-Some-kept.decision.view, c.array_of.result))
    c.self.invariant.decisions is)

pub returns-in-None : goal.returns-in-None
returns-in-None c =
    let ds = c.self.inside.decisions.items in
    let same : c.self.inside.trace.now ≡ c.args.self.now = c.self.view_is in
    let there : nat_lt c.args.n (length ds) ≡ true =
    ap (λ (xs : List (Option Decision)). nat_lt c.args.n (length xs)) (sym c.deref.ensures.value)
    ∙ sym c.in-Some.ensures.lookup.0 in
    let read : c.in-Some.kept.now ≡ get_or ds c.args.n c.in-Some.kept.now =
    c.in-Some.ensures.lookup.1 ∙ ap (λ (xs : List (Option Decision)). get_or xs c.args.n c.in-Some.kept.now)
    c.deref.ensures.value in
    let is : decision_on ds c.args.n ≡ None = decision_of ds c.args.n c.in-Some.kept.now there read
    ∙ ap (option_map decision_decoded) c.in-None.is in
    subst (Answers c.args.n None) same
    (decided_is c.self.inside.trace.now ds c.args.n None c.self.invariant.decisions is)
