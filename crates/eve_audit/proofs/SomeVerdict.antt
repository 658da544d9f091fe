-- Every list of bytes has a verdict.
use Rattle.std.proofs.Common.{◌≡◌, ℕ, zero, suc, ◌+◌, ◌-◌, ◌<◌, ◌≤◌, ◌⊎◌, inl, inr, List, length, refl, ap, arith}
use Rattle.std.proofs.lemmas.Bool.{cases_lt}
use Rattle.eve_smallbank.specs.Access.{Executed, Fits}
use Rattle.eve_grammar.specs.Trace.{Trace, head_of}
use Rattle.std.specs.Prelude.{IsTrue}
use Rattle.eve_grammar.specs.Limits.{HasLimits, HasHeadLimits, is_head}
use Rattle.eve_grammar.specs.declared.head.Head.{Head}
use Rattle.eve_grammar.specs.Spelling.{length_of}
use Rattle.eve_grammar.specs.FrameOrder.{Spells}
use Rattle.eve_views.specs.Form.{IsLeast, StandsInForm, IsFaultOutside}
use Rattle.eve_views.specs.declared.fault.CheckFault.TheVariants.{Found}
use Rattle.eve_views.specs.declared.fault.Fault.{Fault}
use Rattle.eve_audit.specs.declared.verdict.Summary.{Summary}
use Rattle.eve_audit.specs.declared.verdict.Verdict.{Verdict}
use Rattle.eve_audit.specs.declared.verdict.Verdict.TheVariants.{Yes, No}
use Rattle.eve_audit.specs.Verdict.{IsSummary, IsVerdict}
use Rattle.eve_audit.specs.Reports.{last_of}
use Rattle.eve_audit.specs.Answer.{IsRead}
use Rattle.eve_audit.proofs.Sections.{IsLaidOut}
use Rattle.eve_audit.proofs.Decidability.{Decided}
use Rattle.eve_audit.proofs.DecidedVotes.{HaveVotes}
use Rattle.eve_audit.proofs.Verdicts.{found_in_form, trace_first, faultless}
use Rattle.eve_audit.proofs.FirstOfAll.{first_in_trace}
use Rattle.eve_history.specs.Order.{StandsInOrders}

-- ---- the summary

-- the least last committed number of the replicas up to this one
record IsLowest (t : Trace) (n c : ℕ) : Type 0 where
  least : (e : ℕ) → e < n + 1 → c ≤ last_of t e
  reached : (e : ℕ) × (e < n + 1) × (last_of t e ≡ c)

lowest : (t : Trace) (n : ℕ) → (c : ℕ) × IsLowest t n c
lowest t zero = (
  last_of t 0,
  record {
    least = λ e lt. (let same : e ≡ 0 = omega (arith, lt) in omega (arith, ap (last_of t) same));
    reached = (0, omega arith, refl);
  },
)
lowest t (suc n) = by (lowest t n) (cases_lt (last_of t (suc n)) (lowest t n).0)
  where
    by : (found : (c : ℕ) × IsLowest t n c) → (last_of t (suc n) < found.0) ⊎ (found.0 ≤ last_of t (suc n)) → (c : ℕ)
        × IsLowest t (suc n) c
    by found (inl lt) = (
      last_of t (suc n),
      record {
        least = λ e less. elim (cases_lt e (n + 1)) [
          | inl below ↦ (let le = found.1.least e below in omega (arith, le, lt))
          | inr up ↦ (let same : e ≡ suc n = omega (arith, less, up) in omega (arith, ap (last_of t) same))
        ];
        reached = (suc n, omega arith, refl);
      },
    )
    by found (inr le) = (
      found.0,
      record {
        least = λ e less. elim (cases_lt e (n + 1)) [
          | inl below ↦ found.1.least e below
          | inr up ↦ (let same : e ≡ suc n = omega (arith, less, up) in omega (arith, le, ap (last_of t) same))
        ];
        reached = (let r = found.1.reached in (r.0, omega (arith, r.1), r.2));
      },
    )

summary_of : (t : Trace) → 1 ≤ length t.sections → (s : Summary) × IsSummary t s
summary_of t some =
    let found = lowest t (length t.sections - 1) in
    let all : length t.sections - 1 + 1 ≡ length t.sections = omega (arith, some) in (
      record { replicas = length t.sections; batches = length t.batches; committed = found.0 },
      record {
        replicas = refl;
        batches = refl;
        least = λ e lt. found.1.least e (omega (arith, all, lt));
        reached = (let r = found.1.reached in (r.0, omega (arith, all, r.1), r.2));
      },
    )

-- ---- the verdict

module _ (fits : (names : List (List ℕ)) (x : Executed) → Decided (Fits names x)) (once : (bytes : List ℕ) (t u : Trace)
    → Spells bytes t → Spells bytes u → t ≡ u) (limits : (bytes : List ℕ) (t : Trace) → Spells bytes t → HasLimits t)
    (heads : (h : Head) → IsTrue (is_head h) → HasHeadLimits h) (votes : (t : Trace) → HasLimits t → HaveVotes t)
    (orders : (t : Trace) (f : Fault) → IsFaultOutside StandsInOrders t f → f.offset ≤ length_of t)
    (laid : (t : Trace) → IsLaidOut t) where
  of_trace : (bytes : List ℕ) (t : Trace) → IsRead bytes t → (v : Verdict) × IsVerdict bytes v
  of_trace bytes t read = elim (first_in_trace t (laid t) (votes t (limits bytes t read.spells)) fits (orders t)) [
    | inl found ↦ (
      No found.0,
      trace_first bytes t read.spells (λ u other. once bytes u t other read.spells) found.0
          read.none found.1,
    )
    | inr none ↦
        let summary = summary_of t (heads (head_of t) (limits bytes t read.spells).head).some_replicas in (
          Yes summary.0,
          (
            t,
            read.spells,
            faultless bytes t read.spells (λ u other. once bytes u t other read.spells)
                read.none none,
            summary.1,
          ),
        )
  ]

  -- with what is found of form
  pub some_verdict : (bytes : List ℕ)
      → ((f : Fault) × IsLeast (IsFaultOutside StandsInForm bytes) f) ⊎ ((t : Trace) × Spells bytes t)
      → ((f : Fault) (t : Trace) → IsFaultOutside StandsInForm bytes f → ¬ Spells bytes t)
      → (v : Verdict) × IsVerdict bytes v
  some_verdict bytes (inl found) apart =
      (No found.0, found_in_form bytes (Found found.0) found.1 (λ t. apart found.0 t found.1.is))
  some_verdict bytes (inr read) apart =
      of_trace bytes read.0 (record { spells = read.1; none = λ f is. apart f read.0 is read.1 })
