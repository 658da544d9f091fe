use Rattle.std.proofs.Common.{◌≡◌, ℕ, ◌<◌, List, length, Some, None, refl, sym, ap, subst, ◌∙◌, inl, inr, arith}
use Rattle.std.specs.Option.{is_some}
use Rattle.std.proofs.lemmas.Bool.{cases_lt}
use Rattle.std.proofs.lemmas.Option.{slice_get_read}
use Rattle.eve_history.specs.SectionHistory.{SectionHistory, committed_at}
use Rattle.eve_history.proofs.RightSections.{as_many_told}
use Rattle.eve_agree.specs.Agreement.{first_to_commit}
use Rattle.eve_evidence_outcomes.specs.inner.Committed.{IsCommittedBy}
use Rattle.eve_evidence_outcomes.proofs.FirstReplicas.{first_is, first_none, history_as, replica_is}
use Rattle.eve_evidence_outcomes.proofs.committed.first_committed.Goals as goal

pub returns-in-Some-clause-some : goal.returns-in-Some-clause-some
returns-in-Some-clause-some c = λ t is.
    let hs = c.args.histories.now in
    let e = c.loop-e.e in
    let h = c.index-histories-e.result in
    let got = slice_get_read hs (length hs) e h refl c.loop-e-test.true c.index-histories-e.is in
    let own = history_as t hs e h is got in
    let by = c.in-Some.ensures.some t e own.1 in
    let same : c.replica.result ≡ e = c.replica.ensures ∙ replica_is t e h own.1 in
    subst (λ (k : ℕ). (k < length t.sections) × (first_to_commit t c.args.n ≡ Some k)
    × IsCommittedBy t k c.args.n c.in-Some.attempt) (sym same)
    (own.0, first_is t c.args.n e own.0 (ap is_some by.committed) (λ u less. c.loop-e.invariant u less t is), by)

pub loop-e-preserved : goal.loop-e-preserved
loop-e-preserved c = λ u lt t is.
    let hs = c.args.histories.now in
    let e = c.loop-e.e in
    let h = c.index-histories-e.result in
    let got = slice_get_read hs (length hs) e h refl c.loop-e-test.true c.index-histories-e.is in
    let own = history_as t hs e h is got in
    elim (cases_lt u e) [
      | inl less ↦ c.loop-e.invariant u less t is
      | inr le ↦ (let same : e ≡ u = omega arith in
          subst (λ (k : ℕ). committed_at t k c.args.n ≡ None) same (c.in_default.ensures.none t e own.1))
    ]

pub returns-clause-none : goal.returns-clause-none
returns-clause-none c = λ t is.
    let count = as_many_told t in
    let many = ap (λ (hs : List SectionHistory). length hs) is in
    first_none t c.args.n (λ u less. c.loop-e.invariant u (omega (arith, less, count, many, c.loop-e-test.false)) t is)
