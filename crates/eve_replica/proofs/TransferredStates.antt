-- States that were transferred stay what the lowest-numbered replica had committed, and those transferred now are.
use Rattle.std.proofs.Common.{◌≡◌, ℕ, ◌<◌, ◌≤◌, ◌==◌, Bool, true, false, ◌||◌, List, [], ◌∷◌, ◌++◌}
use Rattle.std.proofs.Common.{All, refl, sym, ap, ◌∙◌, subst, append_assoc, arith}
use Rattle.std.specs.Prelude.{IsFalse, ⊤}
use Rattle.std.specs.List.{AllByRecursion, AllZip}
use Rattle.std.proofs.lemmas.Bool.{false≢true}
use Rattle.std.proofs.lemmas.Bool.Decides.{nat_tests}
use Rattle.std.proofs.lemmas.List.{append-nil}
use Rattle.eve_grammar.specs.Trace.{Commit, Transfer, Step, Attempts, Commits, RollsBack, Transfers, Vote}
use Rattle.eve_grammar.proofs.Lists.{all-append}
use Rattle.eve_write.specs.Data.{section}
use Rattle.eve_attempts.specs.Ledgers.{Ledger}
use Rattle.eve_replica.specs.declared.server.Server.{Server}
use Rattle.eve_replica.specs.declared.standing.Standing.{Standing}
use Rattle.eve_replica.specs.Sections.{RunPlan, GoesThrough, reaches_batch}
use Rattle.eve_replica.specs.Transfers.{commits_batch, IsTransferredFrom, IsRightlyTransferred, AreTransferredIn}
use Rattle.eve_replica.specs.inner.RunInvariant.{Serves, Move, GoesOn, CommitsNext, sections_in}
use Rattle.eve_replica.proofs.MostReplicas.{still_none}
use Rattle.eve_replica.proofs.ReplicaLists.{AreAllOn, in_sections}

-- ---- numbers

-- the step reaches no batch after the one with this number
abbrev pub IsNumberedTo : ℕ → Step → Type 0
IsNumberedTo n (Attempts a) = ⊤
IsNumberedTo n (Commits c) = c.seq ≤ n
IsNumberedTo n (RollsBack r) = ⊤
IsNumberedTo n (Transfers x) = x.seq ≤ n

-- a ledger's number doesn't fall
rises : (p : RunPlan) (steps : List Step) (a b : Ledger) → GoesThrough p steps a b → a.committed ≤ b.committed
rises p [] a b goes = let same = ap (λ (s : Ledger). s.committed) goes in omega arith
rises p (Attempts x ∷ steps) a b goes =
    let rest = rises p steps goes.0 b goes.2 in
    let one = ap (λ (s : Ledger). s.committed) goes.1.closed.opens.changed in
    omega arith
rises p (Commits c ∷ steps) a b goes =
    let rest = rises p steps goes.0 b goes.2 in
    let one = ap (λ (s : Ledger). s.committed) goes.1.changed in
    omega arith
rises p (RollsBack r ∷ steps) a b goes =
    let rest = rises p steps goes.0 b goes.2 in
    let one = ap (λ (s : Ledger). s.committed) goes.1.rolled_back.changed in
    omega arith
rises p (Transfers x ∷ steps) a b goes =
    let rest = rises p steps goes.0 b goes.2 in
    let one = ap (λ (s : Ledger). s.committed) goes.1.transferred.changed in
    let later = goes.1.transferred.later in
    omega arith

-- and no step reaches a batch after the ledger's last
pub numbered : (p : RunPlan) (n : ℕ) (steps : List Step) (a b : Ledger) → GoesThrough p steps a b → b.committed ≤ n
    → AllByRecursion (IsNumberedTo n) steps
numbered p n [] a b goes le = tt
numbered p n (Attempts x ∷ steps) a b goes le = (tt, numbered p n steps goes.0 b goes.2 le)
numbered p n (Commits c ∷ steps) a b goes le =
    let rest = rises p steps goes.0 b goes.2 in
    let seq = ap (λ (d : Commit). d.seq) goes.1.commit in
    let one = ap (λ (s : Ledger). s.committed) goes.1.changed in
    (omega arith, numbered p n steps goes.0 b goes.2 le)
numbered p n (RollsBack r ∷ steps) a b goes le = (tt, numbered p n steps goes.0 b goes.2 le)
numbered p n (Transfers x ∷ steps) a b goes le =
    let rest = rises p steps goes.0 b goes.2 in
    let one = ap (λ (s : Ledger). s.committed) goes.1.transferred.changed in
    (omega arith, numbered p n steps goes.0 b goes.2 le)

-- a batch after them isn't committed
pub not_yet : (n m : ℕ) (steps : List Step) → AllByRecursion (IsNumberedTo n) steps → n < m
    → commits_batch m steps ≡ false
not_yet n m [] to later = refl
not_yet n m (Attempts a ∷ steps) to later = not_yet n m steps to.1 later
not_yet n m (Commits c ∷ steps) to later =
    let le = to.0 in
    let other : (c.seq == m) ≡ false = grind (arith, nat_tests) in
    ap (λ (b : Bool). b || commits_batch m steps) other ∙ not_yet n m steps to.1 later
not_yet n m (RollsBack r ∷ steps) to later = not_yet n m steps to.1 later
not_yet n m (Transfers x ∷ steps) to later = not_yet n m steps to.1 later

-- wherever a replica serves, it has reached no later batch than the live ones
pub reached_to : (p : RunPlan) (at : Standing) (votes : List Vote) (s : Server) → Serves p at votes s
    → s.replica.ledger.committed ≤ at.committed
reached_to p at votes s serves = by s.is_live refl
  where
    by : (b : Bool) → s.is_live ≡ b → s.replica.ledger.committed ≤ at.committed
    by true is = let here = ap (λ (x : Standing). x.committed) (serves.live is) in omega arith
    by false is = let behind = serves.behind is in omega arith

pub served_to : (p : RunPlan) (at : Standing) (votes : List Vote) (s : Server) → Serves p at votes s
    → AllByRecursion (IsNumberedTo at.committed) (section s.steps)
served_to p at votes s serves =
    numbered p at.committed (section s.steps) p.first s.replica.ledger serves.through (reached_to p at votes s serves)

-- ---- sections that grow

-- A section has grown by steps that transfer such states alone, and commit no batch up to the last that it reached.
pub record GrowsRightly (p : RunPlan) (now : List (List Step)) (last : ℕ) (old new : List Step) : Type 0 where
  pub more : List Step
  pub added : new ≡ old ++ more
  pub right : AllByRecursion (IsRightlyTransferred p now) more
  pub reached : AllByRecursion (IsNumberedTo last) old
  pub later : (n : ℕ) → n ≤ last → commits_batch n more ≡ false

-- the parts of a list that are paired with those before one, it, and those after it
pub record IsParted {A B : Type 0} (R : A → B → Type 0) (before : List A) (one : A) (ys : List B) : Type 0 where
  pub first : List B
  pub is : B
  pub last : List B
  pub place : ys ≡ first ++ is ∷ last
  pub pairs : AllZip R before first
  pub here : R one is

pub parted : {A B : Type 0} (R : A → B → Type 0) (before : List A) (one : A) (after : List A) (ys : List B)
    → AllZip R (before ++ one ∷ after) ys → IsParted R before one ys
parted R [] one after [] pairs = absurd pairs
parted R [] one after (y ∷ ys) pairs =
    record { first = []; is = y; last = ys; place = refl; pairs = tt; here = pairs.0 }
parted R (x ∷ before) one after [] pairs = absurd pairs
parted {B = B} R (x ∷ before) one after (y ∷ ys) pairs =
    let rest = parted R before one after ys pairs.1 in
    record {
      first = y ∷ rest.first;
      is = rest.is;
      last = rest.last;
      place = ap (λ (zs : List B). y ∷ zs) rest.place;
      pairs = (pairs.0, rest.pairs);
      here = rest.here;
    }

none_below : (p : RunPlan) (now : List (List Step)) (last n : ℕ) → n ≤ last → (ss ts : List (List Step))
    → AllZip (GrowsRightly p now last) ss ts → AllByRecursion (λ steps. IsFalse (commits_batch n steps)) ss
    → AllByRecursion (λ steps. IsFalse (commits_batch n steps)) ts
none_below p now last n le [] [] pairs none = tt
none_below p now last n le [] (t ∷ ts) pairs none = absurd pairs
none_below p now last n le (s ∷ ss) [] pairs none = absurd pairs
none_below p now last n le (s ∷ ss) (t ∷ ts) pairs none = (
  subst (λ (steps : List Step). commits_batch n steps ≡ false) (sym pairs.0.added)
      (still_none n s pairs.0.more none.0 (pairs.0.later n le)),
  none_below p now last n le ss ts pairs.1 none.1,
)

-- a state that was the lowest-numbered's still is
still_transferred : (p : RunPlan) (was now : List (List Step)) (last : ℕ) (x : Transfer) → x.seq ≤ last
    → AllZip (GrowsRightly p now last) was now → IsTransferredFrom p was x → IsTransferredFrom p now x
still_transferred p was now last x le pairs from =
    let part = parted (GrowsRightly p now last) from.below (from.prefix ++ Commits from.commit ∷ from.rest) from.above
    now (subst (λ (ss : List (List Step)). AllZip (GrowsRightly p now last) ss now) from.source pairs) in
    record {
      below = part.first;
      above = part.last;
      prefix = from.prefix;
      commit = from.commit;
      rest = from.rest ++ part.here.more;
      source = part.place
          ∙ ap (λ (steps : List Step). part.first ++ steps ∷ part.last)
          (part.here.added ∙ append_assoc from.prefix (Commits from.commit ∷ from.rest) part.here.more);
      lowest = none_below p now last x.seq le from.below part.first part.pairs from.lowest;
      seq = from.seq;
      view = from.view;
      ledger = from.ledger;
      through = from.through;
      rows = from.rows;
    }

steps_still : (p : RunPlan) (was now : List (List Step)) (last : ℕ)
    → ((x : Transfer) → x.seq ≤ last → IsTransferredFrom p was x → IsTransferredFrom p now x) → (steps : List Step)
    → AllByRecursion (IsNumberedTo last) steps → AllByRecursion (IsRightlyTransferred p was) steps
    → AllByRecursion (IsRightlyTransferred p now) steps
steps_still p was now last still [] to right = tt
steps_still p was now last still (Attempts a ∷ steps) to right =
    (tt, steps_still p was now last still steps to.1 right.1)
steps_still p was now last still (Commits c ∷ steps) to right =
    (tt, steps_still p was now last still steps to.1 right.1)
steps_still p was now last still (RollsBack r ∷ steps) to right =
    (tt, steps_still p was now last still steps to.1 right.1)
steps_still p was now last still (Transfers x ∷ steps) to right =
    (still x to.0 right.0, steps_still p was now last still steps to.1 right.1)

sections_still : (p : RunPlan) (was now : List (List Step)) (last : ℕ)
    → ((x : Transfer) → x.seq ≤ last → IsTransferredFrom p was x → IsTransferredFrom p now x)
    → (ss ts : List (List Step))
    → AllZip (GrowsRightly p now last) ss ts → AllByRecursion (AllByRecursion (IsRightlyTransferred p was)) ss
    → AllByRecursion (AllByRecursion (IsRightlyTransferred p now)) ts
sections_still p was now last still [] [] pairs right = tt
sections_still p was now last still [] (t ∷ ts) pairs right = absurd pairs
sections_still p was now last still (s ∷ ss) [] pairs right = absurd pairs
sections_still p was now last still (s ∷ ss) (t ∷ ts) pairs right = (
  subst (AllByRecursion (IsRightlyTransferred p now)) (sym pairs.0.added)
      (all-append (IsRightlyTransferred p now) s pairs.0.more
      (steps_still p was now last still s pairs.0.reached right.0) pairs.0.right),
  sections_still p was now last still ss ts pairs.1 right.1,
)

-- all that was transferred stays right where sections grow rightly
pub still_all_transferred : (p : RunPlan) (was now : List (List Step)) (last : ℕ)
    → AllZip (GrowsRightly p now last) was now
    → AreTransferredIn p was → AreTransferredIn p now
still_all_transferred p was now last pairs right =
    sections_still p was now last (λ x le from. still_transferred p was now last x le pairs from) was now pairs right

-- ---- how the sections of replicas grow

none_committed : (n : ℕ) (more : List Step) → AllByRecursion (λ x. reaches_batch x ≡ false) more
    → commits_batch n more ≡ false
none_committed n [] quiet = refl
none_committed n (Attempts a ∷ more) quiet = none_committed n more quiet.1
none_committed n (Commits c ∷ more) quiet = absurd (false≢true (sym quiet.0))
none_committed n (RollsBack r ∷ more) quiet = none_committed n more quiet.1
none_committed n (Transfers x ∷ more) quiet = absurd (false≢true (sym quiet.0))

none_transferred : (p : RunPlan) (now : List (List Step)) (more : List Step)
    → AllByRecursion (λ x. reaches_batch x ≡ false) more → AllByRecursion (IsRightlyTransferred p now) more
none_transferred p now [] quiet = tt
none_transferred p now (Attempts a ∷ more) quiet = (tt, none_transferred p now more quiet.1)
none_transferred p now (Commits c ∷ more) quiet = (tt, none_transferred p now more quiet.1)
none_transferred p now (RollsBack r ∷ more) quiet = (tt, none_transferred p now more quiet.1)
none_transferred p now (Transfers x ∷ more) quiet = absurd (false≢true (sym quiet.0))

-- by a move that reaches no batch
pub grows_quietly : (p : RunPlan) (at : Standing) (votes : List Vote) (now : List (List Step)) (m : Move)
    (old new : Server) → m.reaches ≡ false → Serves p at votes old → GoesOn m old new
    → GrowsRightly p now at.committed (section old.steps) (section new.steps)
grows_quietly p at votes now m old new quiet serves goes =
    let none = subst (λ (b : Bool). AllByRecursion (λ (x : Step). reaches_batch x ≡ b) goes.added.0) quiet goes.added.2
    in
    record {
      more = goes.added.0;
      added = goes.added.1;
      right = none_transferred p now goes.added.0 none;
      reached = served_to p at votes old serves;
      later = λ n le. none_committed n goes.added.0 none;
    }

-- by a commit of the batch that is next
pub grows_by_commit : (p : RunPlan) (at : Standing) (votes : List Vote) (now : List (List Step)) (old new : Server)
    → old.is_live ≡ true → Serves p at votes old → CommitsNext old new
    → GrowsRightly p now at.committed (section old.steps) (section new.steps)
grows_by_commit p at votes now old new live serves next = record {
  more = Commits next.commit ∷ [];
  added = next.added;
  right = (tt, tt);
  reached = served_to p at votes old serves;
  later = λ n le.
      let here = ap (λ (x : Standing). x.committed) (serves.live live) in
      let seq = next.seq in
      let other : (next.commit.seq == n) ≡ false = grind (arith, nat_tests) in
      ap (λ (b : Bool). b || false) other;
}

-- by a state that is transferred
pub grows_by_state : (p : RunPlan) (at : Standing) (votes : List Vote) (now : List (List Step)) (x : Transfer)
    (old new : Server) → Serves p at votes old → section new.steps ≡ section old.steps ++ Transfers x ∷ []
    → IsTransferredFrom p now x → GrowsRightly p now at.committed (section old.steps) (section new.steps)
grows_by_state p at votes now x old new serves added transferred = record {
  more = Transfers x ∷ [];
  added = added;
  right = (transferred, tt);
  reached = served_to p at votes old serves;
  later = λ n le. refl;
}

-- by nothing
pub grows_not : (p : RunPlan) (at : Standing) (votes : List Vote) (now : List (List Step)) (old new : Server)
    → Serves p at votes old → section new.steps ≡ section old.steps
    → GrowsRightly p now at.committed (section old.steps) (section new.steps)
grows_not p at votes now old new serves same = record {
  more = [];
  added = same ∙ sym (append-nil (section old.steps));
  right = tt;
  reached = served_to p at votes old serves;
  later = λ n le. refl;
}

-- all replicas have grown so
pub all_grown : (p : RunPlan) (last : ℕ) (was servers : List Server)
    → AreAllOn (λ old new. GrowsRightly p (sections_in servers) last (section old.steps) (section new.steps)) was
    servers → AreTransferredIn p (sections_in was) → AreTransferredIn p (sections_in servers)
all_grown p last was servers on right =
    still_all_transferred p (sections_in was) (sections_in servers) last
    (in_sections (GrowsRightly p (sections_in servers) last) was servers on) right

-- attempts and rollbacks have nothing transferred
pub still_rightly_transferred : (p : RunPlan) (at : Standing) (votes : List Vote) (m : Move) (was servers : List Server)
    → m.reaches ≡ false → AreAllOn (GoesOn m) was servers → All (Serves p at votes) was
    → AreTransferredIn p (sections_in was) → AreTransferredIn p (sections_in servers)
still_rightly_transferred p at votes m was servers quiet on serve right =
    all_grown p at.committed was servers
    (record {
      many = on.many;
      each = λ k d there.
          grows_quietly p at votes (sections_in servers) m _ _ quiet (serve k d (omega (arith, on.many)))
          (on.each k d there);
    }) right
