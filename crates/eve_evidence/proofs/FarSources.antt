-- Where what an entry saw comes from, elsewhere than on its way, by what was met in front of its attempt.
use Rattle.std.proofs.Common.{◌≡◌, ◌≢◌, ℕ, ◌-◌, List, [], ◌∷◌, ◌++◌, map, replicate, Option, None, Some}
use Rattle.std.proofs.Common.{Bool, fold, refl, sym, ap, subst, ◌∙◌, append_assoc, inl, inr, ◌+◌}
use Rattle.std.proofs.lemmas.List.{append-nil, map-append}
use Rattle.std.specs.List.{AllByRecursion, flat_map}
use Rattle.std.specs.Option.{option_map}
use Rattle.std.proofs.lemmas.List.Sums.{fold-append}
use Rattle.eve_smallbank.specs.declared.versioned.Versioned.{Versioned}
use Rattle.eve_grammar.specs.Trace.{Attempt, Step, Attempts, Commits, RollsBack, Transfers, Trace}
use Rattle.eve_grammar.specs.Trace.{Transfer}
use Rattle.eve_views.specs.Form.{SomePlace}
use Rattle.eve_history.specs.Section.{Placed, HowReached, ByAttempt, ByTransfer, Skipped, SectionState, start, next}
use Rattle.eve_history.specs.Section.{state_after, attempts_by, committing}
use Rattle.eve_history.specs.SectionHistory.{placed_at}
use Rattle.eve_history.proofs.Places.{no_place, place_cases}
use Rattle.eve_history.proofs.StructureLaws.{state_after-append}
use Rattle.eve_evidence.specs.declared.evidence.Source.{Source}
use Rattle.eve_evidence.specs.declared.evidence.SeenFrom.TheVariants as seen
use Rattle.eve_evidence.specs.declared.prefix.Prefix.{Prefix}
use Rattle.eve_evidence.specs.declared.prefix.LastSource.{LastSource}
use Rattle.eve_evidence.specs.declared.prefix.Since.TheVariants as since
use Rattle.eve_evidence.specs.declared.sought.Sought.TheVariants.{Left}
use Rattle.eve_evidence.specs.Course.{last_state, later_state, attempts_behind, with_reached, standing}
use Rattle.eve_evidence.specs.Sources.{Passed, passed_in, state_table}
use Rattle.eve_evidence.specs.Sought.{RecordMeets, NoneFound, IsLastFound}
use Rattle.eve_evidence.specs.Seen.{Look, look, base_before, NoneNear, NoneNearer, NoneInPrefix, IsSeenFrom}
use Rattle.eve_evidence.specs.Seen.{rollbacks_behind, NoneAmong, IsFirstAmong}
use Rattle.eve_evidence.specs.inner.LastSource.{IsOpenAfter, IsSince, IsLastSource}
use Rattle.eve_evidence.specs.inner.LastSource.{IsRestoredBy, IsPrefix}
use Rattle.eve_evidence.proofs.LastSources.{place_grows}
use Rattle.eve_evidence.proofs.Lists.{no_place_of_all}

-- ---- parts of a list

all_prefix : {A : Type 0} (P : A → Type 0) (xs ys : List A) → AllByRecursion P (xs ++ ys) → AllByRecursion P xs
all_prefix P [] ys all = tt
all_prefix P (x ∷ xs) ys all = (all.0, all_prefix P xs ys all.1)

all_back : {A : Type 0} (P : A → Type 0) (xs ys : List A) → AllByRecursion P (xs ++ ys) → AllByRecursion P ys
all_back P [] ys all = all
all_back P (x ∷ xs) ys all = all_back P xs ys all.1

-- ---- where no state was transferred

-- an attempt by which a number was reached
how_reached_counts : (ways_reached : List HowReached) (ps : List Placed) (state : Option (ℕ × Transfer))
    → fold later_state state ways_reached ≡ None → (state ≡ None)
    × (fold with_reached ps ways_reached ≡ ps ++ attempts_by ways_reached)
how_reached_counts [] ps state none = (none, sym (append-nil ps))
how_reached_counts (ByAttempt p ∷ ways_reached) ps state none =
    let more = how_reached_counts ways_reached (ps ++ p ∷ []) state none in
    (more.0, more.1 ∙ append_assoc ps (p ∷ []) (attempts_by ways_reached))
how_reached_counts (ByTransfer at x ∷ ways_reached) ps state none =
    let more = how_reached_counts ways_reached [] (Some (at, x)) none in absurd (cc more.0)
how_reached_counts (Skipped ∷ ways_reached) ps state none = how_reached_counts ways_reached ps state none

all_behind : (s : SectionState) → last_state s.ways_reached ≡ None → attempts_behind s.ways_reached
    ≡ attempts_by s.ways_reached
all_behind s none = (how_reached_counts s.ways_reached [] None none).1

-- a state that was transferred is followed by none but others
abbrev HasState : SectionState → Type 0
HasState s = last_state s.ways_reached ≢ None

still_has : (ways_reached more : List HowReached) → last_state ways_reached ≢ None → last_state (ways_reached ++ more)
    ≢ None
still_has ways_reached more some none =
    some (how_reached_counts more [] (last_state ways_reached)
    (sym (fold-append later_state None ways_reached more) ∙ none)).0

has_after : (s : SectionState) (steps : List (ℕ × Step)) → HasState s → HasState (state_after s steps)
has_after s [] has = has
has_after s ((at, Attempts a) ∷ steps) has = has_after (next s (at, Attempts a)) steps has
has_after s ((at, Commits c) ∷ steps) has = has_after (next s (at, Commits c)) steps (by s.pending)
  where
    by : (ps : List Placed) → HasState (committing s ps)
    by [] = has
    by (p ∷ ps) = still_has s.ways_reached (ByAttempt p ∷ []) has
has_after s ((at, RollsBack r) ∷ steps) has = has_after (next s (at, RollsBack r)) steps has
has_after s ((at, Transfers x) ∷ steps) has =
    has_after (next s (at, Transfers x)) steps (still_has s.ways_reached _ has)

has_now : (s : SectionState) (at : ℕ) (x : Transfer) → HasState (next s (at, Transfers x))
has_now s at x none =
    let skipped : List HowReached = replicate (x.seq - (s.last + 1)) Skipped in
    let last : last_state (s.ways_reached ++ (skipped ++ ByTransfer at x ∷ [])) ≡ Some (at, x) =
    fold-append later_state None s.ways_reached (skipped ++ ByTransfer at x ∷ [])
    ∙ fold-append later_state (last_state s.ways_reached) skipped (ByTransfer at x ∷ []) in
    cc (sym last ∙ none)

has_behind : (prefix before behind : List (ℕ × Step)) (at : ℕ) (x : Transfer) → prefix ≡ before ++ (at, Transfers x)
    ∷ behind
    → HasState (state_after start prefix)
has_behind prefix before behind at x is =
    subst (λ (steps : List (ℕ × Step)). HasState (state_after start steps)) (sym is)
    (subst HasState (sym (state_after-append start before ((at, Transfers x) ∷ behind)))
    (has_after (next (state_after start before) (at, Transfers x)) behind (has_now (state_after start before) at x)))

-- ---- what stands is on the way

-- none of the records of an attempt among these has one
none_of_standing : (row : ℕ) (has : Versioned) (ps : List (ℕ × Attempt)) (more : List Passed) (b : ℕ × Attempt)
    → NoneFound (Left row has) (flat_map passed_in ps ++ more) → SomePlace ps (λ _ q. q ≡ b)
    → NoneFound (Left row has) (passed_in b)
none_of_standing row has [] more b none place = absurd (no_place _ place)
none_of_standing row has (q ∷ ps) more b none place =
    let parts : NoneFound (Left row has) (passed_in q ++ (flat_map passed_in ps ++ more)) =
    subst (NoneFound (Left row has)) (append_assoc (passed_in q) (flat_map passed_in ps) more) none in
    elim (place_cases (λ _ r. r ≡ b) q ps place) [
      | inl here ↦ subst (λ (r : ℕ × Attempt). NoneFound (Left row has) (passed_in r)) here
          (all_prefix (λ (x : Passed). ¬ RecordMeets (Left row has) x) (passed_in q) (flat_map passed_in ps ++ more)
          parts)
      | inr there ↦ none_of_standing row has ps more b
          (all_back (λ (x : Passed). ¬ RecordMeets (Left row has) x) (passed_in q) (flat_map passed_in ps ++ more)
          parts) there
    ]

-- so no last one of it is there
no_last : (row : ℕ) (has : Versioned) (b : ℕ × Attempt) (s : Source) → NoneFound (Left row has) (passed_in b)
    → IsLastFound (Left row has) (passed_in b) s → ⊥
no_last row has b s none last =
    no_place_of_all (RecordMeets (Left row has)) (passed_in b) none
    (record { before = last.before; item = last.item; rest = last.behind; is = last.is; holds = last.has })

placed_among : (ps : List Placed) (b : ℕ × Attempt) → SomePlace ps (λ _ p. placed_at p ≡ b)
    → SomePlace (map placed_at ps) (λ _ q. q ≡ b)
placed_among ps b place = record {
  before = map placed_at place.before;
  item = placed_at place.item;
  rest = map placed_at place.rest;
  is = ap (map placed_at) place.is ∙ map-append placed_at place.before (place.item ∷ place.rest);
  holds = place.holds;
}

module _ (t : Trace) (prefix behind : List (ℕ × Step)) (at : ℕ) (a : Attempt) (index row : ℕ) (has : Versioned) where
  abbrev l : Look
  l = look prefix behind at a index row has

  abbrev s : SectionState
  s = state_after start prefix

  module _ (near : NoneNear t l) where
    -- an attempt that stands has none
    not_standing : (b : ℕ × Attempt) (source : Source) → SomePlace (attempts_behind s.ways_reached ++ s.pending)
        (λ _ p. placed_at p ≡ b) → IsLastFound (Left row has) (passed_in b) source → ⊥
    not_standing b source place last =
        no_last row has b source
        (none_of_standing row has (standing s) _ b near.on_way.way
        (placed_among (attempts_behind s.ways_reached ++ s.pending) b place)) last

    not_open : (b : ℕ × Attempt) (source : Source) (count : ℕ) → IsOpenAfter s b count
        → IsLastFound (Left row has) (passed_in b) source → ⊥
    not_open b source count is last =
        not_standing b source (record {
          before = attempts_behind s.ways_reached ++ is.before;
          item = is.item;
          rest = is.behind;
          is = ap (λ (ps : List Placed). attempts_behind s.ways_reached ++ ps) is.is
              ∙ sym (append_assoc (attempts_behind s.ways_reached) is.before (is.item ∷ is.behind));
          holds = is.same;
        }) last

    not_committed : (b : ℕ × Attempt) (source : Source) → base_before l ≡ None
        → SomePlace (attempts_by s.ways_reached) (λ _ p. placed_at p ≡ b)
        → IsLastFound (Left row has) (passed_in b) source → ⊥
    not_committed b source none place last =
        not_standing b source (place_grows (λ _ p. placed_at p ≡ b) (attempts_behind s.ways_reached) s.pending
        (subst (λ (ps : List Placed). SomePlace ps (λ _ p. placed_at p ≡ b)) (sym (all_behind s none)) place)) last

    module _ (f : Prefix) (is : IsPrefix t row has prefix f) where
      -- ---- a rollback restores it
      pub by_restored : (o : ℕ) → f.restored ≡ Some o → IsSeenFrom t l (seen.Restored o)
      by_restored o some = (near, subst (IsRestoredBy row has (rollbacks_behind prefix)) some is.restored_is)

      module _ (none : f.restored ≡ None) where
        nearer : NoneNearer t l
        nearer = record {
          near = near;
          restored = subst (IsRestoredBy row has (rollbacks_behind prefix)) none is.restored_is;
        }

        -- ---- none stands in front
        in_prefix : f.last ≡ None → NoneInPrefix t l
        in_prefix last =
            let both = subst (IsLastSource t row has prefix) last is.last_is in
            record { nearer = nearer; opening = both.0; prefix = both.1 }

        pub by_later : (source : Source) → f.last ≡ None → IsFirstAmong row has behind source
            → IsSeenFrom t l (seen.Later source)
        by_later source last first = (in_prefix last, first)

        pub by_nobody : f.last ≡ None → NoneAmong row has behind → IsSeenFrom t l seen.Nobody
        by_nobody last all = (in_prefix last, all)

        -- ---- one does
        module _ (found : LastSource) (last : f.last ≡ Some found) where
          last_is : IsLastSource t row has prefix (Some found)
          last_is = subst (IsLastSource t row has prefix) last is.last_is

          pub by_rolled_back : (by : ℕ) (restores : Bool) → found.since ≡ since.RolledBack by restores
              → IsSeenFrom t l (seen.RolledBack found.source by restores)
          by_rolled_back by restores rolled = elim last_is [
            | inl of ↦
                let gone = subst (IsSince row prefix of.by) rolled of.came in (
                  gone.0,
                  record { nearer = nearer; by_attempt = of.by; last = of.last; discarded = gone.1 },
                  gone.2,
                )
            | inr (inl of) ↦ absurd (cc (sym rolled ∙ of.came))
            | inr (inr of) ↦ absurd (cc (sym rolled ∙ of.came))
          ]

          pub by_discarded : (by : ℕ) → found.since ≡ since.Discarded by
              → IsSeenFrom t l (seen.Discarded found.source by)
          by_discarded by over = elim last_is [
            | inl of ↦
                let gone = subst (IsSince row prefix of.by) over of.came in (
                  gone.0,
                  record { nearer = nearer; by_attempt = of.by; last = of.last; discarded = gone.1 },
                )
            | inr (inl of) ↦ absurd (cc (sym over ∙ of.came))
            | inr (inr of) ↦ absurd (cc (sym over ∙ of.came))
          ]

          pub by_settled : (state : ℕ) → found.since ≡ since.Settled → f.base ≡ Some state
              → IsSeenFrom t l (seen.BeforeState found.source state)
          by_settled state settled base = (
            nearer,
            sym is.base_is ∙ base,
            elim last_is [
              | inl of ↦ inl (of.by, of.last, subst (IsSince row prefix of.by) settled of.came)
              | inr (inl of) ↦ inr (inl (of.at, of.state, of.last))
              | inr (inr of) ↦ inr (inr (of.source_is, of.gives, of.none))
            ],
          )

          no_base : (o : Option (ℕ × Transfer)) → option_map (λ (x : ℕ × Transfer). x.0) o ≡ None → o ≡ None
          no_base None e = refl
          no_base (Some x) e = absurd (cc e)

          -- it stands on no way that begins at the opening
          pub never_settled : found.since ≡ since.Settled → f.base ≡ None → ⊥
          never_settled settled base =
              let none_transferred : base_before l ≡ None = no_base (base_before l) (sym is.base_is ∙ base) in
              elim last_is [
                | inl of ↦ not_committed of.by found.source none_transferred
                    (subst (IsSince row prefix of.by) settled of.came)
                    of.last.own
                | inr (inl of) ↦ has_behind prefix of.last.before of.last.behind of.at of.state of.last.is
                    none_transferred
                | inr (inr of) ↦ near.on_way.base
                    (subst (λ (st : Option (ℕ × Transfer)). state_table t st row ≡ has) (sym none_transferred) of.gives)
              ]

          pub never_open : (count : ℕ) → found.since ≡ since.Open count → ⊥
          never_open count open_is = elim last_is [
            | inl of ↦ not_open of.by found.source count (subst (IsSince row prefix of.by) open_is of.came) of.last.own
            | inr (inl of) ↦ cc (sym open_is ∙ of.came)
            | inr (inr of) ↦ cc (sym open_is ∙ of.came)
          ]
