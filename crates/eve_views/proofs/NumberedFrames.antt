-- Where numbered frames stand among the frames of a trace.
use Rattle.std.proofs.Common.{◌≡◌, ℕ, zero, suc, ◌+◌, ◌-◌, ◌≤◌, List, [], ◌∷◌, ◌++◌, map, length, take, Option}
use Rattle.std.proofs.Common.{Some, None, refl, sym, ap, ◌∙◌, append_assoc, arith}
use Rattle.std.specs.Prelude.{slice_get}
use Rattle.std.specs.List.{AllByRecursion, flat_map, enumerate_from}
use Rattle.std.proofs.lemmas.List.{length-append}
use Rattle.std.proofs.lemmas.Option.{none-some, same_Some}
use Rattle.eve_grammar.specs.Trace.{Step, Attempts, Commits, RollsBack, Transfers, Vote, Sent, Trace}
use Rattle.eve_grammar.specs.Frames.{Frame, OfCustomer, OfBatch, OfReplica, OfAttempt, OfAccess, OfCommit, OfRollback}
use Rattle.eve_grammar.specs.Frames.{OfTransfer, OfVerifier, OfVote, OfSent, End, step_frames, section_frames}
use Rattle.eve_grammar.specs.Frames.{verifier_frames, batches_of, sections_of, verifiers_of, frames_of}
use Rattle.eve_views.specs.Indexes.{frames_before_sent}
use Rattle.eve_views.specs.inner.FramesBefore.{before_sections, before_section, before_verifiers, before_verifier}
use Rattle.eve_views.specs.inner.FramesBefore.{before_sent}

-- ---- frames without a number of their own

abbrev pub Plain : (Frame → Option ℕ) → List Frame → Type 0
Plain number fs = AllByRecursion (λ f. number f ≡ None) fs

plain-append : (number : Frame → Option ℕ) (xs ys : List Frame) → Plain number xs → Plain number ys
    → Plain number (xs ++ ys)
plain-append number [] ys p q = q
plain-append number (x ∷ xs) ys p q = (p.0, plain-append number xs ys p.1 q)

plain-map : {A : Type 0} (number : Frame → Option ℕ) (frame : A → Frame) → ((a : A) → number (frame a) ≡ None)
    → (xs : List A) → Plain number (map frame xs)
plain-map number frame none [] = tt
plain-map number frame none (x ∷ xs) = (none x, plain-map number frame none xs)

plain-flat_map : {A : Type 0} (number : Frame → Option ℕ) (frames : A → List Frame)
    → ((a : A) → Plain number (frames a)) → (xs : List A) → Plain number (flat_map frames xs)
plain-flat_map number frames none [] = tt
plain-flat_map number frames none (x ∷ xs) = plain-append number (frames x) (flat_map frames xs) (none x)
    (plain-flat_map number frames none xs)

-- none of them has one
plain_at : (number : Frame → Option ℕ) (fs : List Frame) (i n : ℕ) (f : Frame) → Plain number fs → slice_get fs i
    ≡ Some f → number f ≡ Some n → ⊥
plain_at number [] i n f p e m = cc
plain_at number (g ∷ fs) zero n f p e m =
    let same : g ≡ f = cc in
    none-some n (sym p.0 ∙ ap number same ∙ m)
plain_at number (g ∷ fs) (suc i) n f p e m = plain_at number fs i n f p.1 e m

-- a frame with a number stands after those without
behind_plain : (number : Frame → Option ℕ) (before fs : List Frame) (i n : ℕ) (f : Frame) → Plain number before
    → slice_get (before ++ fs) i ≡ Some f → number f ≡ Some n
    → (k : ℕ) × (i ≡ length before + k) × (slice_get fs k ≡ Some f)
behind_plain number [] fs i n f p e m = (i, omega arith, e)
behind_plain number (g ∷ before) fs zero n f p e m = absurd (plain_at number (g ∷ []) zero n f (p.0, tt) e m)
behind_plain number (g ∷ before) fs (suc i) n f p e m =
    let k = behind_plain number before fs i n f p.1 e m in
    (k.0, omega (arith, k.1), k.2)

-- ---- parts that begin with a numbered frame

-- where the frame of a number stands, if the parts count from n
numbered_at : {X : Type 0} (number : Frame → Option ℕ) (head : ℕ → Frame) (body : X → List Frame)
    → ((n : ℕ) → number (head n) ≡ Some n) → ((x : X) → Plain number (body x))
    → (xs : List X) (n : ℕ) (rest : List Frame) → Plain number rest → (i e : ℕ) (f : Frame)
    → slice_get (flat_map (λ (s : ℕ × X). head s.0 ∷ body s.1) (enumerate_from n xs) ++ rest) i ≡ Some f
    → number f ≡ Some e
    → (n ≤ e) × (i ≡ length (flat_map (λ (s : ℕ × X). head s.0 ∷ body s.1) (take (e - n) (enumerate_from n xs))))
numbered_at number head body heads none [] n rest plain i e f got is = absurd (plain_at number rest i e f plain got is)
numbered_at {X = X} number head body heads none (x ∷ xs) n rest plain zero e f got is =
    let same : head n ≡ f = cc in
    let at : n ≡ e = same_Some n e (sym (heads n) ∙ ap number same ∙ is) in
    let first : e - n ≡ 0 = omega arith in (
      omega arith,
      sym (ap (λ (k : ℕ). length
          (flat_map (λ (s : ℕ × X). head s.0 ∷ body s.1) (take k (enumerate_from n (x ∷ xs))))) first),
    )
numbered_at {X = X} number head body heads none (x ∷ xs) n rest plain (suc i) e f got is =
    let later = flat_map (λ (s : ℕ × X). head s.0 ∷ body s.1) (enumerate_from (n + 1) xs) in
    let here : slice_get (body x ++ (later ++ rest)) i ≡ Some f = ap (λ (fs : List Frame). slice_get fs i)
    (sym (append_assoc (body x) later rest)) ∙ got in
    let k = behind_plain number (body x) (later ++ rest) i e f (none x) here is in
    let r = numbered_at number head body heads none xs (n + 1) rest plain k.0 e f k.2 is in
    let up = r.0 in
    let more : e - n ≡ suc (e - (n + 1)) = omega arith in
    let prefix = flat_map (λ (s : ℕ × X). head s.0 ∷ body s.1) (take (e - (n + 1)) (enumerate_from (n + 1) xs)) in
    let long : suc i ≡ length (head n ∷ (body x ++ prefix)) = omega (arith, k.1, r.1, length-append (body x) prefix)
    in (
      omega arith,
      long ∙ sym
          (ap (λ (k : ℕ). length (flat_map (λ (s : ℕ × X). head s.0 ∷ body s.1) (take k (enumerate_from n (x ∷ xs)))))
          more),
    )

-- ---- replicas

abbrev pub replica_number : Frame → Option ℕ
replica_number (OfReplica n) = Some n
replica_number _ = None

replica_in_step : (s : Step) → Plain replica_number (step_frames s)
replica_in_step (Attempts a) = (refl, plain-map replica_number OfAccess (λ x. refl) a.accesses)
replica_in_step (Commits c) = (refl, tt)
replica_in_step (RollsBack r) = (refl, tt)
replica_in_step (Transfers x) = (refl, tt)

replica_in_verifier : (v : ℕ × List Vote) → Plain replica_number (verifier_frames v)
replica_in_verifier v = (refl, plain-map replica_number OfVote (λ w. refl) v.1)

abbrev pub sent_frames : Trace → List Frame
sent_frames t = map OfSent t.sent ++ End ∷ []

replica_in_prefix : (t : Trace) → Plain replica_number (before_sections t)
replica_in_prefix t = plain-append replica_number (map OfCustomer t.customers)
    (map (λ b. OfBatch b.0 b.1) (batches_of t))
    (plain-map replica_number OfCustomer (λ c. refl) t.customers)
    (plain-map replica_number (λ b. OfBatch b.0 b.1) (λ b. refl) (batches_of t))

replica_in_rest : (t : Trace) → Plain replica_number (flat_map verifier_frames (verifiers_of t) ++ sent_frames t)
replica_in_rest t = plain-append replica_number (flat_map verifier_frames (verifiers_of t)) (sent_frames t)
    (plain-flat_map replica_number verifier_frames replica_in_verifier (verifiers_of t))
    (plain-append replica_number (map OfSent t.sent) (End ∷ []) (plain-map replica_number OfSent (λ s. refl) t.sent)
    (refl, tt))

-- the frames of a trace, from the first section on
pub frames_from_sections : (t : Trace) → frames_of t
    ≡ before_sections t ++ (flat_map section_frames (sections_of t) ++
    (flat_map verifier_frames (verifiers_of t) ++ sent_frames t))
unfolding frames_of
frames_from_sections t =
    sym (append_assoc (map OfCustomer t.customers) (map (λ b. OfBatch b.0 b.1) (batches_of t))
    (flat_map section_frames (sections_of t) ++ (flat_map verifier_frames (verifiers_of t) ++ sent_frames t)))

pub replica_at : (t : Trace) (i e : ℕ) → slice_get (frames_of t) i ≡ Some (OfReplica e)
    → i ≡ length (before_section t e)
unfolding before_section
replica_at t i e got =
    let rest = flat_map verifier_frames (verifiers_of t) ++ sent_frames t in
    let all = flat_map section_frames (sections_of t) ++ rest in
    let k = behind_plain replica_number (before_sections t) all i e (OfReplica e) (replica_in_prefix t)
    (ap (λ (fs : List Frame). slice_get fs i) (sym (frames_from_sections t)) ∙ got) refl in
    let r = numbered_at replica_number OfReplica (flat_map step_frames) (λ n. refl)
    (plain-flat_map replica_number step_frames replica_in_step) t.sections 0 rest (replica_in_rest t) k.0 e
    (OfReplica e) k.2 refl in
    let same : e - 0 ≡ e = omega arith in
    let at : k.0 ≡ length (flat_map section_frames (take e (sections_of t))) = r.1
    ∙ ap (λ (m : ℕ). length (flat_map section_frames (take m (sections_of t)))) same in
    omega (arith, k.1, at, length-append (before_sections t) (flat_map section_frames (take e (sections_of t))))

-- ---- verifiers

abbrev pub verifier_number : Frame → Option ℕ
verifier_number (OfVerifier n) = Some n
verifier_number _ = None

verifier_in_step : (s : Step) → Plain verifier_number (step_frames s)
verifier_in_step (Attempts a) = (refl, plain-map verifier_number OfAccess (λ x. refl) a.accesses)
verifier_in_step (Commits c) = (refl, tt)
verifier_in_step (RollsBack r) = (refl, tt)
verifier_in_step (Transfers x) = (refl, tt)

verifier_in_section : (s : ℕ × List Step) → Plain verifier_number (section_frames s)
verifier_in_section s = (refl, plain-flat_map verifier_number step_frames verifier_in_step s.1)

verifier_in_prefix : (t : Trace) → Plain verifier_number (before_verifiers t)
verifier_in_prefix t = plain-append verifier_number (before_sections t) (flat_map section_frames (sections_of t))
    (plain-append verifier_number (map OfCustomer t.customers) (map (λ b. OfBatch b.0 b.1) (batches_of t))
    (plain-map verifier_number OfCustomer (λ c. refl) t.customers)
    (plain-map verifier_number (λ b. OfBatch b.0 b.1) (λ b. refl) (batches_of t)))
    (plain-flat_map verifier_number section_frames verifier_in_section (sections_of t))

pub frames_from_verifiers : (t : Trace) → frames_of t
    ≡ before_verifiers t ++ (flat_map verifier_frames (verifiers_of t) ++ sent_frames t)
frames_from_verifiers t = frames_from_sections t
    ∙ sym (append_assoc (before_sections t) (flat_map section_frames (sections_of t))
    (flat_map verifier_frames (verifiers_of t) ++ sent_frames t))

pub verifier_at : (t : Trace) (i v : ℕ) → slice_get (frames_of t) i ≡ Some (OfVerifier v)
    → i ≡ length (before_verifier t v)
unfolding before_verifier
verifier_at t i v got =
    let rest = sent_frames t in
    let all = flat_map verifier_frames (verifiers_of t) ++ rest in
    let plain : Plain verifier_number rest = plain-append verifier_number (map OfSent t.sent) (End ∷ [])
    (plain-map verifier_number OfSent (λ s. refl) t.sent) (refl, tt) in
    let k = behind_plain verifier_number (before_verifiers t) all i v (OfVerifier v) (verifier_in_prefix t)
    (ap (λ (fs : List Frame). slice_get fs i) (sym (frames_from_verifiers t)) ∙ got) refl in
    let r = numbered_at verifier_number OfVerifier (map OfVote) (λ n. refl)
    (plain-map verifier_number OfVote (λ w. refl)) t.verifiers 0 rest plain k.0 v (OfVerifier v) k.2 refl in
    let same : v - 0 ≡ v = omega arith in
    let at : k.0 ≡ length (flat_map verifier_frames (take v (verifiers_of t))) = r.1
    ∙ ap (λ (m : ℕ). length (flat_map verifier_frames (take m (verifiers_of t)))) same in
    omega (arith, k.1, at, length-append (before_verifiers t) (flat_map verifier_frames (take v (verifiers_of t))))

-- ---- replies sent

-- whether a frame is a reply sent or the end, as a number that only these have
abbrev last_number : Frame → Option ℕ
last_number (OfSent s) = Some 0
last_number End = Some 0
last_number _ = None

frames_before_sent-behind : (before fs : List Frame) → Plain last_number before → frames_before_sent (before ++ fs)
    ≡ length before + frames_before_sent fs
frames_before_sent-behind [] fs plain = omega arith
frames_before_sent-behind (f ∷ before) fs plain = by f plain.0 (frames_before_sent-behind before fs plain.1)
  where
    by : (f : Frame) → last_number f ≡ None → frames_before_sent (before ++ fs) ≡ length before + frames_before_sent fs
        → frames_before_sent (f ∷ (before ++ fs)) ≡ suc (length before) + frames_before_sent fs
    by (OfCustomer c) e r = omega (arith, r)
    by (OfBatch n b) e r = omega (arith, r)
    by (OfReplica n) e r = omega (arith, r)
    by (OfAttempt a) e r = omega (arith, r)
    by (OfAccess x) e r = omega (arith, r)
    by (OfCommit c) e r = omega (arith, r)
    by (OfRollback x) e r = omega (arith, r)
    by (OfTransfer x) e r = omega (arith, r)
    by (OfVerifier n) e r = omega (arith, r)
    by (OfVote v) e r = omega (arith, r)
    by (OfSent s) e r = absurd cc
    by End e r = absurd cc

last_in_step : (s : Step) → Plain last_number (step_frames s)
last_in_step (Attempts a) = (refl, plain-map last_number OfAccess (λ x. refl) a.accesses)
last_in_step (Commits c) = (refl, tt)
last_in_step (RollsBack r) = (refl, tt)
last_in_step (Transfers x) = (refl, tt)

last_in_prefix : (t : Trace) → Plain last_number (before_sent t)
unfolding before_sent
last_in_prefix t = plain-append last_number (before_verifiers t) (flat_map verifier_frames (verifiers_of t))
    (plain-append last_number (before_sections t) (flat_map section_frames (sections_of t))
    (plain-append last_number (map OfCustomer t.customers) (map (λ b. OfBatch b.0 b.1) (batches_of t))
    (plain-map last_number OfCustomer (λ c. refl) t.customers)
    (plain-map last_number (λ b. OfBatch b.0 b.1) (λ b. refl) (batches_of t)))
    (plain-flat_map last_number section_frames (λ s. (refl, plain-flat_map last_number step_frames last_in_step s.1))
    (sections_of t)))
    (plain-flat_map last_number verifier_frames (λ v. (refl, plain-map last_number OfVote (λ w. refl) v.1))
    (verifiers_of t))

first_sent : (sent : List Sent) → frames_before_sent (map OfSent sent ++ End ∷ []) ≡ 0
first_sent [] = refl
first_sent (s ∷ sent) = refl

pub frames_from_sent : (t : Trace) → frames_of t ≡ before_sent t ++ (map OfSent t.sent ++ End ∷ [])
unfolding before_sent
frames_from_sent t = frames_from_verifiers t
    ∙ sym (append_assoc (before_verifiers t) (flat_map verifier_frames (verifiers_of t)) (sent_frames t))

pub sent_begins_at : (t : Trace) → frames_before_sent (frames_of t) ≡ length (before_sent t)
sent_begins_at t = ap frames_before_sent (frames_from_sent t) ∙ frames_before_sent-behind (before_sent t)
    (sent_frames t)
    (last_in_prefix t) ∙ omega (arith, first_sent t.sent)
