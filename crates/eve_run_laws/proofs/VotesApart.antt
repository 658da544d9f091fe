-- Votes that rise: no two of them are on one batch in one view, and no two commits are of one batch.
use Rattle.std.proofs.Common.{◌≡◌, ℕ, ◌+◌, ◌<◌, ◌≤◌, ◌==◌, Bool, true, false, List, [], ◌∷◌, length, filter}
use Rattle.std.proofs.Common.{All, get_or, refl, ap, ◌∙◌, arith}
use Rattle.std.specs.Bool.{⊤}
use Rattle.std.proofs.lemmas.Bool.{and_from, eq-eqb}
use Rattle.std.proofs.lemmas.List.Elements.{All-nil, All-cons, All-weaker}
use Rattle.eve_grammar.specs.Trace.{Choice, ForRollback, ForCommit, Vote}
use Rattle.eve_grammar.proofs.Lists.{filter_kept, filter_dropped}
use Rattle.eve_votes.specs.Votes.{is_vote_on}
use Rattle.eve_votes.proofs.SiftedVotes.{voted}

-- ---- votes that rise

-- the batch that is due after a vote on this one
abbrev pub batch_after : ℕ → Choice → ℕ
batch_after n ForRollback = n
batch_after n (ForCommit token) = n + 1

-- and the view
abbrev pub view_after : ℕ → Choice → ℕ
view_after view ForRollback = view + 1
view_after view (ForCommit token) = view

-- the vote is on no batch before this one, and in no view before this one
abbrev pub IsFrom : ℕ → ℕ → Vote → Type 0
IsFrom n view w = (n ≤ w.seq) × (view ≤ w.view)

-- so is each of these, and each is also from what is due after the vote before it
abbrev pub Rise : ℕ → ℕ → List Vote → Type 0
Rise n view [] = ⊤
Rise n view (w ∷ ws) = IsFrom n view w × Rise (batch_after w.seq w.choice) (view_after w.view w.choice) ws

-- a vote brings the batch that is due one up, or the view
goes_up : (n view : ℕ) (c : Choice)
    → (n ≤ batch_after n c) × (view ≤ view_after view c) × (n + view < batch_after n c + view_after view c)
goes_up n view ForRollback = (omega arith, omega arith, omega arith)
goes_up n view (ForCommit token) = (omega arith, omega arith, omega arith)

pub rise_from_earlier : (m n u view : ℕ) (ws : List Vote) → m ≤ n → u ≤ view → Rise n view ws → Rise m u ws
rise_from_earlier m n u view [] low early rise = tt
rise_from_earlier m n u view (w ∷ ws) low early rise = ((omega (arith, rise.0.0), omega (arith, rise.0.1)), rise.1)

all_from : (n view : ℕ) (ws : List Vote) → Rise n view ws → All (IsFrom n view) ws
all_from n view [] rise = All-nil (IsFrom n view)
all_from n view (w ∷ ws) rise =
    let up = goes_up w.seq w.view w.choice in
    let batch = batch_after w.seq w.choice in
    let next = view_after w.view w.choice in
    All-cons (IsFrom n view) w ws rise.0
    (All-weaker (IsFrom batch next) (IsFrom n view)
    (λ x from. (omega (arith, rise.0.0, up.0, from.0), omega (arith, rise.0.1, up.1, from.1)))
    ws (all_from batch next ws rise.1))

-- ---- no two are on one batch in one view

on_its_own : (w : Vote) → is_vote_on w.seq w.view w ≡ true
on_its_own w =
    and_from (w.seq == w.seq) (w.view == w.view) (eq-eqb w.seq w.seq refl) (eq-eqb w.view w.view refl)

not_on : (n view : ℕ) (w : Vote) → (w.seq + w.view ≡ n + view → ⊥) → is_vote_on n view w ≡ false
not_on n view w apart = by (is_vote_on n view w) refl
  where
    by : (b : Bool) → is_vote_on n view w ≡ b → is_vote_on n view w ≡ false
    by false off = off
    by true on = let both = voted n view w on in absurd (apart (omega (arith, both.0, both.1)))

-- among votes that rise from here, none is on a batch and a view of a lower sum
none_before : (m u n view : ℕ) (ws : List Vote) → m + u < n + view → Rise n view ws → filter (is_vote_on m u) ws ≡ []
none_before m u n view [] before rise = refl
none_before m u n view (w ∷ ws) before rise =
    let up = goes_up w.seq w.view w.choice in
    filter_dropped (is_vote_on m u) w ws (not_on m u w (λ same. omega (arith, rise.0.0, rise.0.1, before, same)))
    ∙ none_before m u (batch_after w.seq w.choice) (view_after w.view w.choice) ws
    (omega (arith, rise.0.0, rise.0.1, up.2, before)) rise.1

none_further : (w : Vote) (ws : List Vote) → Rise (batch_after w.seq w.choice) (view_after w.view w.choice) ws
    → filter (is_vote_on w.seq w.view) ws ≡ []
none_further w ws rise =
    let up = goes_up w.seq w.view w.choice in
    none_before w.seq w.view (batch_after w.seq w.choice) (view_after w.view w.choice) ws up.2 rise

-- each is the only one on its batch in its view
abbrev pub IsAlone : List Vote → Vote → Type 0
IsAlone ws w = filter (is_vote_on w.seq w.view) ws ≡ w ∷ []

pub all_alone : (n view : ℕ) (ws : List Vote) → Rise n view ws → All (IsAlone ws) ws
all_alone n view [] rise = All-nil (IsAlone [])
all_alone n view (w ∷ ws) rise =
    let batch = batch_after w.seq w.choice in
    let next = view_after w.view w.choice in
    let from = all_from batch next ws rise.1 in
    let up = goes_up w.seq w.view w.choice in
    All-cons (IsAlone (w ∷ ws)) w ws
    (filter_kept (is_vote_on w.seq w.view) w ws (on_its_own w)
    ∙ ap (λ (vs : List Vote). w ∷ vs) (none_further w ws rise.1))
    (λ k d below.
    let x = get_or ws k d in
    let later = from k d below in
    filter_dropped (is_vote_on x.seq x.view) w ws
    (not_on x.seq x.view w (λ same. omega (arith, later.0, later.1, up.2, same)))
    ∙ all_alone batch next ws rise.1 k d below)

pub one_at_most : (m u n view : ℕ) (ws : List Vote) → Rise n view ws → length (filter (is_vote_on m u) ws) ≤ 1
one_at_most m u n view [] rise = omega arith
one_at_most m u n view (w ∷ ws) rise =
    by (is_vote_on m u w) refl
    (one_at_most m u (batch_after w.seq w.choice) (view_after w.view w.choice) ws rise.1)
  where
    by : (b : Bool) → is_vote_on m u w ≡ b → length (filter (is_vote_on m u) ws) ≤ 1
        → length (filter (is_vote_on m u) (w ∷ ws)) ≤ 1
    by true on later =
        let both = voted m u w on in
        let up = goes_up w.seq w.view w.choice in
        let none = none_before m u (batch_after w.seq w.choice) (view_after w.view w.choice) ws
        (omega (arith, both.0, both.1, up.2)) rise.1 in
        let count = ap length (filter_kept (is_vote_on m u) w ws on ∙ ap (λ (vs : List Vote). w ∷ vs) none) in
        omega (arith, count)
    by false off later = let count = ap length (filter_dropped (is_vote_on m u) w ws off) in
        omega (arith, count, later)

-- ---- no two commits are of one batch

-- where both are for commits of one batch, they are one vote
abbrev pub AreOneCommit : Vote → Vote → Type 0
AreOneCommit v w =
    (a b : List ℕ) → v.choice ≡ ForCommit a → w.choice ≡ ForCommit b → v.seq ≡ w.seq → v ≡ w

commit_goes_up : (w : Vote) (token : List ℕ) → w.choice ≡ ForCommit token → batch_after w.seq w.choice ≡ w.seq + 1
commit_goes_up w token is = ap (batch_after w.seq) is

pub commits_apart : (n view : ℕ) (ws : List Vote) → Rise n view ws → All (λ v. All (AreOneCommit v) ws) ws
commits_apart n view [] rise = All-nil (λ v. All (AreOneCommit v) [])
commits_apart n view (w ∷ ws) rise =
    let batch = batch_after w.seq w.choice in
    let next = view_after w.view w.choice in
    let from = all_from batch next ws rise.1 in
    let rest = commits_apart batch next ws rise.1 in
    All-cons (λ v. All (AreOneCommit v) (w ∷ ws)) w ws
    (All-cons (AreOneCommit w) w ws (λ a b is also same. refl)
    (λ k d below a b is also same.
    let later = from k d below in
    absurd (omega (arith, later.0, commit_goes_up w a is, same))))
    (λ k d below.
    let v = get_or ws k d in
    let later = from k d below in
    All-cons (AreOneCommit v) w ws
    (λ a b is also same. absurd (omega (arith, later.0, commit_goes_up w b also, same)))
    (rest k d below))
