-- Where no phase finds a fault, all is as it must be, of all replicas together.
use Rattle.std.proofs.Common.{◌≡◌, ℕ, ◌+◌, ◌-◌, ◌<◌, inl, inr, List, [], ◌∷◌, ◌++◌, length, Option, Some, None}
use Rattle.std.proofs.Common.{IfSome, slice_get, refl, sym, ap, subst, ◌∙◌, arith, option_map, map}
use Rattle.std.specs.List.{AllByRecursion}
use Rattle.std.proofs.lemmas.Option.{slice_get_within, same_Some, slice_get-map}
use Rattle.std.proofs.lemmas.List.{length-map}
use Rattle.eve_grammar.specs.Trace.{ForRollback, ForCommit, Asked, Sent, Transfer, Step, Attempts, Commits}
use Rattle.eve_grammar.specs.Trace.{RollsBack, Transfers, Trace, request_id}
use Rattle.eve_grammar.specs.Frames.{OfSent}
use Rattle.eve_grammar.specs.Spelling.{frame_text, located, sent_start, sent_at, steps_at}
use Rattle.eve_views.specs.Form.{HasNone, IsFaultSomewhere, IsFaultOutside}
use Rattle.eve_views.specs.declared.fault.Code.TheVariants as code
use Rattle.eve_views.specs.declared.fault.Fault.{Fault}
use Rattle.eve_history.specs.Section.{Placed, ByTransfer, batch_at}
use Rattle.eve_history.specs.SectionHistory.{how_reached_at, committed_at}
use Rattle.eve_chains.specs.Committed.{balances_to}
use Rattle.eve_votes.specs.Votes.{backers}
use Rattle.eve_agree.specs.Majority.{IsBacked, AllAreBacked, StandsInMajorities}
use Rattle.eve_agree.specs.Agreement.{first_to_commit, HaveSameOutcome, HasBalancesOfFirst, ReplicasAgree}
use Rattle.eve_agree.specs.Agreement.{StandsInAgreement}
use Rattle.eve_agree.specs.SentReplies.{IsReplied, AllReplied, StandsInReplies}
use Rattle.eve_audit.proofs.Decidability.{Decided, decided_both, decided_as, all_or_place, all_if_none, below_or_none}
use Rattle.eve_audit.proofs.Decidability.{numbers, integers}
use Rattle.eve_audit.proofs.Decidability.{lists, options, replies}
use Rattle.eve_audit.proofs.DecidedVotes.{HaveVotes, enough, some_decided}
use Rattle.eve_audit.proofs.NumberLaws.{none_there, some_there}

-- ---- majorities

module _ (t : Trace) where
  backed : HaveVotes t → (step : Step) → Decided (IsBacked t step)
  backed votes (Attempts a) = inl tt
  backed votes (Commits c) = enough t.head.quorum (backers t c.seq c.view (ForCommit c.token))
  backed votes (RollsBack r) = enough t.head.quorum (backers t (r.to + 1) (r.view - 1) ForRollback)
  backed votes (Transfers x) = some_decided t votes x.seq x.view

  -- where no majority voted for a step, a fault stands
  unbacked : (e : ℕ) (before : List (ℕ × Step)) (step : ℕ × Step) (rest : List (ℕ × Step))
      → steps_at t e ≡ before ++ step ∷ rest → ¬ IsBacked t step.1 → (f : Fault)
      × IsFaultSomewhere StandsInMajorities t f
  unbacked e before (at, Attempts a) rest is wrong = absurd (wrong tt)
  unbacked e before (at, Commits c) rest is wrong = (
    record { code = code.NoMajority; offset = at; replica = Some e },
    (
      e,
      record {
        stands = record { before = before; item = (at, Commits c); rest = rest; is = is; holds = (refl, wrong) };
        inside = refl;
      },
    ),
  )
  unbacked e before (at, RollsBack r) rest is wrong = (
    record { code = code.RollbackNoMajority; offset = at; replica = Some e },
    (
      e,
      record {
        stands = record { before = before; item = (at, RollsBack r); rest = rest; is = is; holds = (refl, wrong) };
        inside = refl;
      },
    ),
  )
  unbacked e before (at, Transfers x) rest is wrong = (
    record { code = code.TransferNoMajority; offset = at; replica = Some e },
    (
      e,
      record {
        stands = record { before = before; item = (at, Transfers x); rest = rest; is = is; holds = (refl, wrong) };
        inside = refl;
      },
    ),
  )

  pub all_backed : HaveVotes t → HasNone (IsFaultSomewhere StandsInMajorities t) → AllAreBacked t
  all_backed votes none e = elim (all_or_place (λ s. IsBacked t s.1) (λ s. backed votes s.1) (steps_at t e)) [
    | inl all ↦ all
    | inr place ↦
        let wrong = unbacked e place.before place.item place.rest place.is place.holds in
        absurd (none wrong.0 wrong.1)
  ]

  -- ---- agreement

  pub same_outcome : (e n f : ℕ) → Decided (HaveSameOutcome t e f n)
  same_outcome e n f =
      decided_as (λ both. record { balances = both.0; replies = both.1 }) (λ h. (h.balances, h.replies))
      (decided_both (lists integers (balances_to t e n) (balances_to t f n)) (options (lists replies) _ _))

  pub balances_of_first : (n : ℕ) (x : Transfer) → Decided (HasBalancesOfFirst t n x)
  balances_of_first n x = by (first_to_commit t n) refl
    where
      by : (o : Option ℕ) → first_to_commit t n ≡ o → Decided (HasBalancesOfFirst t n x)
      by None is = inr (λ has. none_there has.0 (sym is ∙ has.1))
      by (Some f) is =
          decided_as (λ same. (f, is, same))
          (λ has. subst (λ (g : ℕ). map (λ v. v.value) x.rows ≡ balances_to t g n)
          (same_Some has.0 f (sym has.1 ∙ is)) has.2)
          (lists integers (map (λ v. v.value) x.rows) (balances_to t f n))

  module _ (none : HasNone (IsFaultSomewhere StandsInAgreement t)) where
    outcome_is : (e n : ℕ) (p : Placed) → committed_at t e n ≡ Some p
        → IfSome (first_to_commit t n) (λ f. HaveSameOutcome t e f n)
    outcome_is e n p at = by (first_to_commit t n) refl
      where
        by : (o : Option ℕ) → first_to_commit t n ≡ o → IfSome o (λ f. HaveSameOutcome t e f n)
        by None is = tt
        by (Some f) is = elim (same_outcome e n f) [
          | inl same ↦ same
          | inr apart ↦ absurd (none (record { code = code.Outcome; offset = p.offset; replica = Some e }) (
            e,
            record {
              stands = record {
                n = n;
                item = p;
                is = at;
                offset = refl;
                holds = subst (λ (o : Option ℕ). IfSome o (λ g. ¬ HaveSameOutcome t e g n)) (sym is) apart;
              };
              inside = refl;
            },
          ))
        ]

    state_is : (e n at : ℕ) (x : Transfer) → how_reached_at t e n ≡ Some (ByTransfer at x) → HasBalancesOfFirst t n x
    state_is e n at x is = elim (balances_of_first n x) [
      | inl has ↦ has
      | inr wrong ↦ absurd (none (record { code = code.TransferBalances; offset = at; replica = Some e })
          (e, record { stands = record { n = n; state = x; is = is; holds = wrong }; inside = refl }))
    ]

    pub all_agree : ReplicasAgree t
    all_agree = record {
      outcomes = λ e n has. (let got = some_there (committed_at t e n) has in outcome_is e n got.0 got.1);
      states = state_is;
    }

-- ---- replies

-- at this index of the batch stands the request, and of the attempt the reply
record IsAnswered (t : Trace) (s : Sent) (p : Placed) (i : ℕ) : Type 0 where
  request : option_map request_id (slice_get (batch_at t s.seq).requests i) ≡ Some (s.client, s.number)
  reply : slice_get p.attempt.replies i ≡ Some s.reply

module _ (t : Trace) (s : Sent) where
  answered : (p : Placed) (i : ℕ) → Decided (IsAnswered t s p i)
  answered p i = by (slice_get (batch_at t s.seq).requests i) refl
    where
      by : (o : Option Asked) → slice_get (batch_at t s.seq).requests i ≡ o → Decided (IsAnswered t s p i)
      by None is = inr (λ a. none_there (s.client, s.number) (sym (ap (option_map request_id) is) ∙ a.request))
      by (Some x) is =
          decided_as
          (λ h. record {
            request = ap (option_map request_id) is ∙ (λ j. Some (h.0.0 j, h.0.1 j));
            reply = h.1;
          })
          (λ a. let same : request_id x ≡ (s.client, s.number) =
          same_Some (request_id x) (s.client, s.number) (sym (ap (option_map request_id) is) ∙ a.request) in (
            (ap (λ (y : ℕ × ℕ). y.0) same, ap (λ (y : ℕ × ℕ). y.1) same),
            a.reply,
          ))
          (decided_both (decided_both (numbers x.client s.client) (numbers x.number s.number))
          (options replies (slice_get p.attempt.replies i) (Some s.reply)))

  index_within : (i : ℕ) → option_map request_id (slice_get (batch_at t s.seq).requests i) ≡ Some (s.client, s.number)
      → i < length (batch_at t s.seq).requests
  index_within i there =
      let asked = (batch_at t s.seq).requests in
      let below = slice_get_within (map request_id asked) i (s.client, s.number)
      (slice_get-map request_id asked i ∙ there) in
      omega (arith, below, length-map asked request_id)

  pub replied : Decided (IsReplied t s)
  replied = by (committed_at t s.replica s.seq) refl
    where
      by : (o : Option Placed) → committed_at t s.replica s.seq ≡ o → Decided (IsReplied t s)
      by None is = inr (λ r. none_there r.placed (sym is ∙ r.committed))
      by (Some p) is =
          decided_as (λ found. record {
            placed = p;
            index = found.0;
            committed = is;
            request = found.2.request;
            reply = found.2.reply;
          })
          (λ r. (
            r.index,
            index_within r.index r.request,
            subst (λ (q : Placed). IsAnswered t s q r.index) (same_Some r.placed p (sym r.committed ∙ is))
                (record { request = r.request; reply = r.reply }),
          ))
          (below_or_none (IsAnswered t s p) (answered p) (length (batch_at t s.seq).requests))

all_unlocated : {A : Type 0} (P : A → Type 0) (text : A → List ℕ) (at : ℕ) (xs : List A)
    → AllByRecursion (λ x. P x.1) (located text at xs) → AllByRecursion P xs
all_unlocated P text at [] all = tt
all_unlocated P text at (x ∷ xs) all = (all.0, all_unlocated P text (at + length (text x)) xs all.1)

module _ (t : Trace) where
  sent_all : AllByRecursion (λ s. IsReplied t s.1) (sent_at t) → AllReplied t
  unfolding sent_at
  sent_all all = all_unlocated (IsReplied t) (λ s. frame_text (OfSent s)) (sent_start t) t.sent all

  pub all_replied : HasNone (IsFaultOutside StandsInReplies t) → AllReplied t
  all_replied none = sent_all
      (all_if_none (λ s. IsReplied t s.1) (λ s. replied t s.1) (λ s. s.0) (sent_at t)
      (λ s place. none (record { code = code.Reply; offset = s.0; replica = None })
      (record { stands = place; outside = refl })))
