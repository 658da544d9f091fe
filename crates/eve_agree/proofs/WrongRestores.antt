-- The first row that shows that a rollback restores something else than it must.
use Rattle.std.proofs.Common.{◌≡◌, ℕ, ℤ, ◌+◌, ◌<◌, ◌≤◌, ◌==◌, nat_lt, Bool, true, false, cond, ◌&&◌, List, [], ◌∷◌}
use Rattle.std.proofs.Common.{◌++◌, length, Option, Some, None, refl, sym, subst, ap, ◌∙◌, inl, inr, arith}
use mathlib.Core.Path.{fun_ext}
use Rattle.std.specs.List.{AllByRecursion, list_all}
use Rattle.std.specs.Ordering.{int_eq}
use Rattle.std.specs.Prelude.{IfSome, IfNone, replicate}
use Rattle.std.proofs.lemmas.Bool.{cases_Bool, cases_eq, cases_lt, and_parts, and_from, or_parts, cond-true, cond-false}
use Rattle.std.proofs.lemmas.Bool.{eq-eqb, ne_eqb, ltb-true, false≢true}
use Rattle.std.proofs.lemmas.Bool.Decides.{Decides-int_eq}
use Rattle.std.proofs.lemmas.List.{get_or_past}
use Rattle.std.proofs.lemmas.Option.{same_Some}
use Rattle.eve_smallbank.specs.Access.{Fits}
use Rattle.eve_smallbank.specs.Chain.{Table}
use Rattle.eve_smallbank.specs.declared.entry.Entry.{Entry}
use Rattle.eve_smallbank.specs.declared.versioned.Versioned.{Versioned}
use Rattle.eve_grammar.specs.Trace.{Access, Rollback, Step, Attempts, Commits, RollsBack}
use Rattle.eve_grammar.specs.Trace.{Transfers, Trace}
use Rattle.eve_grammar.specs.Spelling.{steps_at}
use Rattle.eve_grammar.specs.Limits.{HasLimits, is_rising}
use Rattle.eve_grammar.specs.declared.restore.Restore.{Restore}
use Rattle.eve_frames.specs.declared.attempt.AttemptView.{AttemptView}
use Rattle.eve_frames.specs.declared.commit.CommitView.{CommitView}
use Rattle.eve_frames.specs.declared.rollback.RollbackView.{RollbackView}
use Rattle.eve_frames.specs.declared.transfer.TransferView.{TransferView}
use Rattle.eve_views.specs.declared.steps.Step as step_read
use Rattle.eve_views.specs.declared.steps.Step.TheVariants as of
use Rattle.eve_views.specs.declared.fault.Code.TheVariants as code
use Rattle.eve_views.specs.Form.{SomePlace}
use Rattle.eve_history.specs.Section.{Placed, SectionState, start, state_after, settled}
use Rattle.eve_history.specs.SectionHistory.{SectionHistory, attempts_among, section_history, history, names_of}
use Rattle.eve_history.specs.SectionHistory.{IsRightSection}
use Rattle.eve_history.proofs.Places.{place_cases, no_place, At}
use Rattle.eve_history.proofs.RightSections.{none_at}
use Rattle.eve_chains.specs.Visible.{executed_by}
use Rattle.eve_chains.specs.Faults.{HasNoFault}
use Rattle.eve_chains.specs.Sound.{EntriesSee, OfSettledAccesses, RecordsFit, SettledAreSound}
use Rattle.eve_agree.specs.Tables.{are_written_in, committed_rows, open_entries}
use Rattle.eve_agree.specs.Restores.{StandsInRestores, restores_by_row, due_by_row, IsFirstWrongRow, IsWrongRestore}
use Rattle.eve_agree.specs.Marks.{Marking, marking_of, unmarked, marked_once, marked, marked_by, restored_to}
use Rattle.eve_agree.specs.Marks.{noted_between, written_in, is_marked, restores_row, cleared}
use Rattle.eve_agree.specs.declared.wrong_restore.WrongRestore.{WrongRestore}
use Rattle.eve_agree.proofs.MarkLaws.{are_marked, all_right, none_marked}
use Rattle.eve_agree.proofs.RestoresInOrder.{HasCome, ComesNext, IsWrong, rolled, come_first, state_next}
use Rattle.eve_agree.proofs.RestoresInOrder.{come_attempt, come_commit, come_transfer, come_rollback, attempt_there}
use Rattle.eve_agree.proofs.RestoresInOrder.{attempt_located, commit_located, transfer_located, rollback_located}
use Rattle.eve_agree.proofs.RestoresInOrder.{noted_open, marked_open, attempts_told}

-- ---- what restores say of each row

abbrev or_else : Option Versioned → Option Versioned → Option Versioned
or_else None m = m
or_else (Some v) m = Some v

by_row : (marks : Marking) (rs : List Restore) (row : ℕ) → marked_by marks rs row
    ≡ or_else (marks row) (restores_by_row rs row)
by_row marks [] row = nothing (marks row)
  where
    nothing : (m : Option Versioned) → m ≡ or_else m None
    nothing None = refl
    nothing (Some v) = refl
by_row marks (r ∷ rs) row =
    by_row (λ q. cond (r.row == q) (marked_once (marks q) (restored_to r)) (marks q)) rs row
    ∙ exchange (r.row == row) (marks row) (restored_to r) (restores_by_row rs row)
  where
    exchange : (b : Bool) (m : Option Versioned) (v : Versioned) (rest : Option Versioned)
        → or_else (cond b (marked_once m v) m) rest ≡ or_else m (cond b (Some v) rest)
    exchange true None v rest = refl
    exchange true (Some u) v rest = refl
    exchange false None v rest = refl
    exchange false (Some u) v rest = refl

pub marked_by_row : (rs : List Restore) → marked_by unmarked rs ≡ restores_by_row rs
marked_by_row rs = fun_ext (λ row. by_row unmarked rs row)

-- ---- restores that say what is due

int_same : (n : ℤ) → int_eq n n ≡ true
int_same n = (Decides-int_eq n n).1 refl

others_marked : (r : Restore) (rs qs : List Restore) → list_all (λ q. nat_lt r.row q.row) qs ≡ true
    → list_all (λ q. is_marked (restores_by_row (r ∷ rs) q.row) q) qs
    ≡ list_all (λ q. is_marked (restores_by_row rs q.row) q) qs
others_marked r rs [] rising = refl
others_marked r rs (q ∷ qs) rising =
    let parts = and_parts (nat_lt r.row q.row) (list_all (λ p. nat_lt r.row p.row) qs) rising in
    let less = ltb-true r.row q.row parts.0 in
    let other : (r.row == q.row) ≡ false = ne_eqb r.row q.row (λ e. differs e less) in
    let same : restores_by_row (r ∷ rs) q.row ≡ restores_by_row rs q.row =
    cond-false (r.row == q.row) (Some (restored_to r)) (restores_by_row rs q.row) other in
    λ i. is_marked (same i) q && others_marked r rs qs parts.1 i
  where
    differs : r.row ≡ q.row → r.row < q.row → ⊥
    differs e less = omega arith

own_marked : (rs : List Restore) → is_rising rs ≡ true → are_marked (restores_by_row rs) rs ≡ true
own_marked [] rising = refl
own_marked (r ∷ rs) rising =
    let parts = and_parts (list_all (λ q. nat_lt r.row q.row) rs) (is_rising rs) rising in
    let same : restores_by_row (r ∷ rs) r.row ≡ Some (restored_to r) =
    cond-true (r.row == r.row) (Some (restored_to r)) (restores_by_row rs r.row) (eq-eqb r.row r.row refl) in
    and_from (is_marked (restores_by_row (r ∷ rs) r.row) r)
    (list_all (λ q. is_marked (restores_by_row (r ∷ rs) q.row) q) rs)
    (ap (λ (m : Option Versioned). is_marked m r) same
    ∙ and_from (r.version == r.version) (int_eq r.value r.value) (eq-eqb r.version r.version refl) (int_same r.value))
    (others_marked r rs rs parts.0 ∙ own_marked rs parts.1)

not_restored : (rs : List Restore) (row : ℕ) → restores_row row rs ≡ false → restores_by_row rs row ≡ None
not_restored [] row none = refl
not_restored (r ∷ rs) row none =
    let parts = or_parts (r.row == row) (restores_row row rs) none in
    cond-false (r.row == row) (Some (restored_to r)) (restores_by_row rs row) parts.0 ∙ not_restored rs row parts.1

own_cleared : (rs : List Restore) → cleared (restores_by_row rs) rs ≡ unmarked
own_cleared rs = fun_ext (λ row. by row (restores_row row rs) refl)
  where
    by : (row : ℕ) (b : Bool) → restores_row row rs ≡ b → cleared (restores_by_row rs) rs row ≡ None
    by row true is = ap (λ (b : Bool). cond b None (restores_by_row rs row)) is
    by row false is = ap (λ (b : Bool). cond b None (restores_by_row rs row)) is ∙ not_restored rs row is

-- they are right
right_by_row : (table : Table) (es : List Entry) (rs : List Restore) → is_rising rs ≡ true
    → restores_by_row rs ≡ written_in table es → are_written_in table es rs ≡ true
right_by_row table es rs rising same =
    all_right table es rs (subst (λ (m : Marking). are_marked m rs ≡ true) same (own_marked rs rising))
    (ap (λ (m : Marking). cleared m rs) (sym same) ∙ own_cleared rs)

-- ---- the first row that differs

pub all_same : (xs ys : List (Option Versioned)) (n : ℕ) → length xs ≤ n → length ys ≤ n
    → ((row : ℕ) → row < n → marking_of xs row ≡ marking_of ys row) → marking_of xs ≡ marking_of ys
all_same xs ys n own its same = fun_ext (λ row. elim (cases_lt row n) [
  | inl lt ↦ same row lt
  | inr past ↦ get_or_past xs row None (omega (arith, own)) ∙ sym (get_or_past ys row None (omega (arith, its)))
])

-- what is marked of no row at first
pub found_marked : (old new : List (Option Versioned)) (count : ℕ) (qs rs : List Restore) → old ≡ replicate count None
    → qs ≡ rs → marking_of new ≡ marked_by (marking_of old) qs → marking_of new ≡ restores_by_row rs
found_marked old new count qs rs nothing same marks =
    marks ∙ (λ i. marked_by (marking_of (nothing i)) (same i))
    ∙ ap (λ (m : Marking). marked_by m rs) (none_marked count) ∙ marked_by_row rs

pub due_marked : (old new : List (Option Versioned)) (count : ℕ) (es : List Entry) → old ≡ replicate count None
    → marking_of new ≡ marked (marking_of old) es → marking_of new ≡ marked unmarked es
due_marked old new count es nothing marks =
    marks ∙ ap (λ (m : Marking). marked m es) (ap marking_of nothing ∙ none_marked count)

-- what was found of these marks
pub wrong_marked : (x : Option WrongRestore) (o at : ℕ) (own its found due : Marking) → own ≡ found → its ≡ due → o ≡ at
    → IfSome x (IsFirstWrongRow own its) → IfSome x (λ w. (o ≡ at) × IsFirstWrongRow found due w)
wrong_marked None o at own its found due e f here wrong = tt
wrong_marked (Some w) o at own its found due e f here wrong =
    let its_due = subst (λ (m : Marking). IsFirstWrongRow own m w) f wrong in
    (here, subst (λ (m : Marking). IsFirstWrongRow m due w) e its_due)

pub none_wrong_marked : (x : Option WrongRestore) (o at : ℕ) (own its found due : Marking) → own ≡ found → its ≡ due
    → IfNone x (own ≡ its) → IfNone x (o ≡ at → found ≡ due)
none_wrong_marked None o at own its found due e f same = λ here. sym e ∙ same ∙ f
none_wrong_marked (Some w) o at own its found due e f same = tt

-- ---- where no fault of records or chains stands

-- each record fits, but that it does is not at hand
abbrev pub NoneMismatch : Trace → ℕ → Type 0
NoneMismatch t e = OfSettledAccesses t e (λ p x. ¬ ¬ Fits (names_of t) (executed_by t p.attempt x))

all_at_once : {A : Type 0} (P : A → Type 0) (xs : List A) → AllByRecursion (λ x. ¬ ¬ P x) xs → ¬ ¬ AllByRecursion P xs
all_at_once P [] all never = never tt
all_at_once P (x ∷ xs) all never = all.0 (λ own. all_at_once P xs all.1 (λ rest. never (own, rest)))

all_accesses : (Q : Placed → Access → Type 0) (ps : List Placed)
    → AllByRecursion (λ p. AllByRecursion (λ x. ¬ ¬ Q p x) p.attempt.accesses) ps
    → ¬ ¬ AllByRecursion (λ p. AllByRecursion (Q p) p.attempt.accesses) ps
all_accesses Q [] all never = never tt
all_accesses Q (p ∷ ps) all never =
    all_at_once (Q p) p.attempt.accesses all.0 (λ own. all_accesses Q ps all.1 (λ rest. never (own, rest)))

-- the laws on these
pub record Laws (t : Trace) (e : ℕ) : Type 0 where
  pub see : HasNoFault t e → EntriesSee t e
  pub fit : HasNoFault t e → NoneMismatch t e
  pub sound : HasLimits t → IsRightSection t e → RecordsFit t e → EntriesSee t e → SettledAreSound t e

-- so nothing follows from their not being sound
not_unsound : (t : Trace) (e : ℕ) → Laws t e → HasLimits t → IsRightSection t e → HasNoFault t e
    → ¬ ¬ SettledAreSound t e
not_unsound t e laws limits right none never =
    all_accesses (λ p x. Fits (names_of t) (executed_by t p.attempt x)) (settled (history t e)) (laws.fit none)
    (λ fit. never (laws.sound limits right fit (laws.see none)))

same_nat : (m n : ℕ) → ¬ ¬ (m ≡ n) → m ≡ n
same_nat m n not = elim (cases_eq m n) [ inl e ↦ e | inr other ↦ absurd (not other) ]

same_int : (m n : ℤ) → ¬ ¬ (m ≡ n) → m ≡ n
same_int m n not = elim (cases_Bool (int_eq m n)) [
  | inl e ↦ (Decides-int_eq m n).0 e
  | inr other ↦ absurd (not (λ e. false≢true (sym other ∙ (Decides-int_eq m n).1 e)))
]

same_mark : (m n : Option Versioned) → ¬ ¬ (m ≡ n) → m ≡ n
same_mark None None not = refl
same_mark None (Some v) not = absurd (not (λ e. cc))
same_mark (Some u) None not = absurd (not (λ e. cc))
same_mark (Some u) (Some v) not =
    let version = same_nat u.version v.version
    (λ other. not (λ e. other (ap (λ (x : Versioned). x.version) (same_Some u v e)))) in
    let value = same_int u.value v.value
    (λ other. not (λ e. other (ap (λ (x : Versioned). x.value) (same_Some u v e)))) in
    λ i. Some (record { version = version i; value = value i })

-- ---- along the section

-- After the steps before these the fault at this byte is still to come.
pub record Seeks (t : Trace) (e at : ℕ) (rest : List (ℕ × Step)) (first end : ℕ) : Type 0 where
  pub prefix : List (ℕ × Step)
  pub come : HasCome t e prefix rest first end
  pub ahead : SomePlace rest (At at (IsWrong t (state_after start prefix)))

pub section_seen : (t : Trace) (e : ℕ) (P : List (ℕ × Step) → ℕ × Step → Type 0) → SomePlace (steps_at t e) P
    → e < length t.sections
section_seen t e P place = elim (cases_lt e (length t.sections)) [
  | inl lt ↦ lt
  | inr past ↦ absurd (no_place P (subst (λ (xs : List (ℕ × Step)). SomePlace xs P) (none_at t e past) place))
]

pub seek_first : (t : Trace) (e at : ℕ) → StandsInRestores code.Restore t e at → Seeks t e at (steps_at t e) 0 0
seek_first t e at stands = record { prefix = []; come = come_first t e; ahead = stands }

-- it isn't at this step
passed : (t : Trace) (e at : ℕ) (prefix : List (ℕ × Step)) (step : ℕ × Step) (rest : List (ℕ × Step)) (first end : ℕ)
    → HasCome t e prefix (step ∷ rest) first end → (At at (IsWrong t (state_after start prefix)) [] step → ⊥)
    → SomePlace (step ∷ rest) (At at (IsWrong t (state_after start prefix)))
    → SomePlace rest (At at (IsWrong t (state_after start (prefix ++ step ∷ []))))
passed t e at prefix step rest first end come elsewhere ahead =
    elim (place_cases (At at (IsWrong t (state_after start prefix))) step rest ahead) [
      | inl here ↦ absurd (elsewhere here)
      | inr later ↦ subst (λ (s : SectionState). SomePlace rest (At at (IsWrong t s)))
          (sym (state_next t e prefix step rest first end come)) later
    ]

pub seek_attempt : (t : Trace) (e at : ℕ) (steps rest : List (ℕ × Step)) (first end : ℕ) (s : step_read.Step)
    (v : AttemptView) (xs : List (ℕ × Access)) → ComesNext s steps rest → s ≡ of.Attempt v xs
    → Seeks t e at steps first end → Seeks t e at rest first (end + 1)
    × (end < length (attempts_among (steps_at t e)))
seek_attempt t e at steps rest first end s v xs comes is seeks =
    attempt_located (Seeks t e at rest first (end + 1) × (end < length (attempts_among (steps_at t e))))
    (λ ys. Seeks t e at ys first end) steps rest s v xs comes is
    (λ o a here. (
      record {
        prefix = here.prefix ++ (o, Attempts a) ∷ [];
        come = come_attempt t e o a here.prefix rest first end here.come;
        ahead = passed t e at here.prefix (o, Attempts a) rest first end here.come (λ w. w.1) here.ahead;
      },
      attempt_there t e o a here.prefix rest first end here.come,
    )) seeks

pub seek_commit : (t : Trace) (e at : ℕ) (steps rest : List (ℕ × Step)) (first end : ℕ) (s : step_read.Step)
    (v : CommitView) → IsRightSection t e → ComesNext s steps rest → s ≡ of.Commit v
    → Seeks t e at steps first end → Seeks t e at rest (first + 1) end × (first < end)
seek_commit t e at steps rest first end s v right comes is seeks =
    commit_located (Seeks t e at rest (first + 1) end × (first < end)) (λ ys. Seeks t e at ys first end) steps rest s v
    comes is
    (λ o c here.
    let come = come_commit t e o c here.prefix rest first end right here.come in (
      record {
        prefix = here.prefix ++ (o, Commits c) ∷ [];
        come = come.0;
        ahead = passed t e at here.prefix (o, Commits c) rest first end here.come (λ w. w.1) here.ahead;
      },
      come.1,
    )) seeks

pub seek_transfer : (t : Trace) (e at : ℕ) (steps rest : List (ℕ × Step)) (first end : ℕ) (s : step_read.Step)
    (v : TransferView) → ComesNext s steps rest → s ≡ of.Transfer v → Seeks t e at steps first end
    → Seeks t e at rest end end
seek_transfer t e at steps rest first end s v comes is seeks =
    transfer_located (Seeks t e at rest end end) (λ ys. Seeks t e at ys first end) steps rest s v comes is
    (λ o x here. record {
      prefix = here.prefix ++ (o, Transfers x) ∷ [];
      come = come_transfer t e o x here.prefix rest first end here.come;
      ahead = passed t e at here.prefix (o, Transfers x) rest first end here.come (λ w. w.1) here.ahead;
    }) seeks

pub seek_rollback : (t : Trace) (e at : ℕ) (steps rest : List (ℕ × Step)) (first end : ℕ) (s : step_read.Step)
    (v : RollbackView) → ComesNext s steps rest → s ≡ of.Rollback v
    → Seeks t e at steps first end → Seeks t e at (rolled v ∷ rest) first end
seek_rollback t e at steps rest first end s v comes is seeks =
    rollback_located (λ ys. Seeks t e at ys first end) steps rest s v comes is seeks

-- ---- at a rollback

module _ (t : Trace) (h : SectionHistory) (told : h ≡ section_history t h.replica) (laws : Laws t h.replica)
    (limits : HasLimits t) (right : IsRightSection t h.replica) (none : HasNoFault t h.replica) (at o : ℕ)
    (r : Rollback) (rest : List (ℕ × Step)) (first end : ℕ)
    (seeks : Seeks t h.replica at ((o, RollsBack r) ∷ rest) first end) where
  -- what is marked of the attempts that it discards is what is due
  marked_due : marked unmarked (noted_between h.attempts first end) ≡ due_by_row t (state_after start seeks.prefix)
  marked_due =
      ap (λ rs. marked unmarked (noted_between rs first end)) (attempts_told t h told)
      ∙ fun_ext (λ row. same_mark _ _ (λ never. not_unsound t h.replica laws limits right none (λ sound.
      never (ap (λ (m : Marking). m row)
      (marked_open t h.replica o r seeks.prefix rest first end seeks.come limits right sound
      ∙ ap (written_in (committed_rows t (state_after start seeks.prefix)))
      (noted_open t h.replica o r seeks.prefix rest first end seeks.come limits right))))))

  pub wrong_here : (w : WrongRestore) → o ≡ at
      → IsFirstWrongRow (restores_by_row r.restores) (marked unmarked (noted_between h.attempts first end)) w
      → IsWrongRestore t h.replica at w
  wrong_here w here wrong = record {
    before = seeks.prefix;
    item = (o, RollsBack r);
    rest = rest;
    is = seeks.come.split;
    holds = (here, subst (λ (m : Marking). IsFirstWrongRow (restores_by_row r.restores) m w) marked_due wrong);
  }

  pub seek_further : is_rising r.restores ≡ true
      → (o ≡ at → restores_by_row r.restores ≡ marked unmarked (noted_between h.attempts first end))
      → Seeks t h.replica at rest end end
  seek_further rising same = record {
    prefix = seeks.prefix ++ (o, RollsBack r) ∷ [];
    come = come_rollback t h.replica o r seeks.prefix rest first end seeks.come;
    ahead = passed t h.replica at seeks.prefix (o, RollsBack r) rest first end seeks.come
        (λ w. false≢true (sym w.1
        ∙ right_by_row (committed_rows t (state_after start seeks.prefix))
        (open_entries t (state_after start seeks.prefix))
        r.restores rising (same w.0 ∙ marked_due)))
        seeks.ahead;
  }
