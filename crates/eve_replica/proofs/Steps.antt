-- Public: other crates cite these lemmas. A replica that attempts, commits, gets by a transfer or rolls back goes on.
use Rattle.std.proofs.Common.{◌≡◌, ℕ, zero, suc, ◌+◌, ◌-◌, ◌<◌, ◌≤◌, Bool, true, false, if◌then◌else◌}
use Rattle.std.proofs.Common.{List, [], ◌∷◌, ◌++◌, length, slice_get, Option, Some, option_map, All, IsTrue, refl}
use Rattle.std.proofs.Common.{sym, ap, ◌∙◌, subst, arith, add-zero}
use Rattle.std.proofs.lemmas.List.{append-nil, length-map}
use Rattle.std.proofs.lemmas.List.Elements.{All-head, All-tail, All-nil}
use Rattle.std.proofs.lemmas.Bool.{false≢true}
use Rattle.std.proofs.lemmas.Slice.Eq.{bytes_eq-Decides}
use Rattle.std.specs.List.{list_all}
use Rattle.eve_smallbank.specs.declared.versioned.Versioned.{Versioned}
use Rattle.eve_grammar.specs.Limits.{is_step}
use Rattle.eve_grammar.specs.Trace.{Batch, Step, Attempt, Attempts, Commit, Rollback, Transfer, Commits, RollsBack}
use Rattle.eve_grammar.specs.Trace.{Transfers, Vote}
use Rattle.eve_write.specs.Data.{section}
use Rattle.eve_attempts.specs.Ledgers.{Ledger, Opened, ledger_rows}
use Rattle.eve_attempts.specs.CommitsAndRollbacks as ledgers
use Rattle.eve_attempts.specs.Transfers as state
use Rattle.eve_replica.specs.declared.server.Server.{Server}
use Rattle.eve_replica.specs.declared.standing.Standing.{Standing}
use Rattle.eve_replica.specs.Replicas.{Replica}
use Rattle.eve_replica.specs.Replicas as replica
use Rattle.eve_replica.specs.Sections.{RunPlan, GoesThrough, AreVotesOf, commit_vote, rollback_vote, place_due}
use Rattle.eve_replica.specs.inner.RunInvariant.{standing_of, after_commit, AreDue, AreRightSteps, AreOfItsView}
use Rattle.eve_replica.specs.inner.RunInvariant.{GoesOn, IsOutvoted, Move, attempt_move, MissesRightly, MayTransfer}
use Rattle.eve_replica.specs.Windows.{ComesTo, WindowState, GoByWindows}
use Rattle.eve_replica.specs.Decisions.{is_some_of, token_given_up}
use Rattle.eve_replica.specs.inner.RunInvariant.{commit_move, rollback_move, next_token, CommitsNext, GivesUpNext}
use Rattle.eve_replica.proofs.TokenCounts.{is_that, next_by}
use Rattle.eve_replica.proofs.GivenUpTokens.{GivesNone, none_more, other_view, none_given_up, first_given_up}
use Rattle.eve_replica.proofs.SectionSteps.{through_more, votes_more}
use Rattle.eve_replica.proofs.Windows.{same_state, comes_more}
use Rattle.eve_replica.proofs.Moves.{stand, standing_with, attempted, attempts_next, attempted_in_view, no_votes}

-- ---- votes

-- the votes on one step more, by other words
votes_by : (old new : Server) (x : Step) (own given more : List Vote)
    → section new.steps ≡ section old.steps ++ x ∷ [] → AreVotesOf (section old.steps) own → AreVotesOf (x ∷ []) more
    → given ≡ more → AreVotesOf (section new.steps) (own ++ given)
votes_by old new x own given more added are led same =
    subst (λ (vs : List Vote). AreVotesOf (section new.steps) (own ++ vs)) (sym same)
    (subst (λ (ss : List Step). AreVotesOf ss (own ++ more)) (sym added)
    (votes_more (section old.steps) x own more are led))

-- whatever a live replica is given
given_live : (votes : List Vote) (b : Bool) → b ≡ true → Path (List Vote) (if b then votes else []) votes
given_live votes b is = ap (λ (c : Bool). if c then votes else []) is

-- ---- what is given up

-- nothing more by one step more, where it gives nothing up
same_given_up : (view : ℕ) (x : Step) (old new : Server) → section new.steps ≡ section old.steps ++ x ∷ []
    → GivesNone view x → token_given_up view [] (section new.steps) ≡ token_given_up view [] (section old.steps)
same_given_up view x old new added none =
    ap (token_given_up view []) added ∙ none_more view [] (section old.steps) x none

-- ---- attempts

pub attempt_goes : (b : Batch) (a : Attempt) (old new : Server) → AreDue 1 old.replica.ledger → old.is_live ≡ true
    → new.is_live ≡ true → old.missing ≡ 0 → new.missing ≡ 0 → replica.AttemptsDue old.replica new.replica b a
    → section new.steps ≡ section old.steps ++ Attempts a ∷ [] → (AreRightSteps old → AreRightSteps new)
    → GoesOn (attempt_move 1 (b ∷ [])) old new
attempt_goes b a old new due live lives none still made added right =
    let closed = made.1.1 in
    let changed = closed.closed.opens.changed in
    let steps = section old.steps in
    record {
      names = ap (λ (r : Replica). r.names) closed.rest;
      rows = closed.closed.opens.as_many;
      room = ap (λ (s : Ledger). s.window) changed;
      version = ap (λ (s : Ledger). s.version) changed;
      whole = λ h. ap (λ (r : Replica). r.is_broken) closed.rest ∙ h;
      added = (Attempts a ∷ [], added, (refl, tt));
      steps = right;
      through = λ p names next left goes.
          subst (λ (ss : List Step). GoesThrough p ss p.first new.replica.ledger) (sym added)
          (through_more p steps (Attempts a) p.first old.replica.ledger new.replica.ledger goes
          (attempts_next p old.replica new.replica b a due names
          (ap (slice_get p.batches) (sym (add-zero (place_due old.replica.ledger))) ∙ next live 0 (omega arith)) made));
      windows = λ size batches from to leads stays comes.
          let turn = leads lives in
          subst (λ (ss : List Step). ComesTo size batches ss to) (sym added)
          (comes_more size batches steps (Attempts a) from to
          (λ rest goes. (omega (arith, turn.0), subst (λ (s : WindowState). GoByWindows size s rest) turn.1 goes))
          comes);
      given_up = λ v stays. same_given_up v (Attempts a) old new added (λ opened. refl);
      of_view = attempted_in_view old.replica new.replica b a made;
      votes = λ h own are.
          votes_by old new (Attempts a) own (if new.is_live then [] else []) [] added are refl
          (no_votes new.is_live []);
      view = λ at le. let same = ap (λ (s : Ledger). s.view) changed in omega (arith, same, le);
      live = λ h. (live, attempted old new b a made (still ∙ sym none));
      missing = λ h. record {
        version = λ some. absurd (omega (arith, still, some));
        none_open = λ some. absurd (omega (arith, still, some));
      };
      stays_live = λ two was. lives;
      behind = λ at stands was stopped. absurd (false≢true (sym stopped ∙ lives));
      stays = λ stopped. absurd (false≢true (sym stopped ∙ lives));
      stands = λ stopped. absurd (false≢true (sym stopped ∙ lives));
      stops = λ stopped was. absurd (false≢true (sym stopped ∙ lives));
    }

-- ---- staying

-- by this move who stands here stays, and gives no vote
record LeavesAlone (m : Move) (at : Standing) : Type 0 where
  stands : at ≡ m.further at
  windows : (size : ℕ) (from to : WindowState) → m.InWindow size from to → from ≡ to
  votes : m.votes at ≡ []

-- A replica that stays as it is goes on by a move that takes nobody back, and leaves it alone if it is live.
stays_so : (m : Move) (s : Server) → ((at : Standing) → at.view ≤ (m.further at).view)
    → ((at : Standing) → at.committed ≤ (m.further at).committed)
    → (s.is_live ≡ true → LeavesAlone m (standing_of s)) → GoesOn m s s
stays_so m s views commits alone = record {
  names = refl;
  rows = refl;
  room = refl;
  version = refl;
  whole = λ h. h;
  added = ([], sym (append-nil (section s.steps)), tt);
  steps = λ h. h;
  through = λ p names next left goes. goes;
  windows = λ size batches from to leads stays.
      subst (ComesTo size batches (section s.steps)) (same_window size from to leads stays s.is_live refl);
  of_view = λ h. h;
  given_up = λ v stays. refl;
  votes = λ h own are. subst (λ (vs : List Vote). AreVotesOf (section s.steps) vs)
      (sym (ap (λ (vs : List Vote). own ++ vs) (no_vote s.is_live refl) ∙ append-nil own)) are;
  view = λ at le. let up = views at in omega arith;
  live = λ h. (h, (alone h).stands);
  missing = λ h. h;
  stays_live = λ two live. live;
  behind = λ at stands was h. let before = was h in let up = commits at in omega arith;
  stays = λ h. refl;
  stands = λ h. refl;
  stops = λ h live. absurd (false≢true (sym h ∙ live));
}
  where
    same_window : (size : ℕ) (from to : WindowState) → (s.is_live ≡ true → m.InWindow size from to)
        → (s.is_live ≡ false → from ≡ to) → (b : Bool) → s.is_live ≡ b → from ≡ to
    same_window size from to leads stays true is = (alone is).windows size from to (leads is)
    same_window size from to leads stays false is = stays is

    no_vote : (b : Bool) → s.is_live ≡ b
        → Path (List Vote) (if b then m.votes (standing_of s) else []) []
    no_vote true is = (alone is).votes
    no_vote false is = refl

-- before the first attempt of a window
pub none_made : (window : List Batch) (s : Server) → GoesOn (attempt_move 0 window) s s
none_made window s = stays_so (attempt_move 0 window) s (λ at. omega arith) (λ at. omega arith)
    (λ live.
    let at = standing_of s in
    record {
      stands = stand at.view at.committed at.opened (at.opened + 0) (omega arith);
      windows = λ size from to made.
          let due : from.due ≡ from.due - 0 = omega arith in
          let opened : from.opened ≡ from.opened + 0 = omega arith in
          same_state from.left due opened ∙ sym made.1;
      votes = refl;
    })

-- one that is live no more stays as it is, whatever the others do
pub rests : (m : Move) (s : Server) → ((at : Standing) → at.view ≤ (m.further at).view)
    → ((at : Standing) → at.committed ≤ (m.further at).committed) → s.is_live ≡ false → GoesOn m s s
rests m s views commits stopped = stays_so m s views commits (λ live. absurd (false≢true (sym stopped ∙ live)))

-- ---- commits

-- who has a token for the next batch is live
pub live_with : (token : List ℕ) (s : Server) → is_some_of token (next_token s) ≡ true → s.is_live ≡ true
live_with token s has = decide s.is_live refl
  where
    decide : (b : Bool) → s.is_live ≡ b → s.is_live ≡ true
    decide true is = is
    decide false is = absurd (false≢true (ap (is_some_of token) (sym (next_by s false is)) ∙ has))

-- where a replica is live its token for the next batch is that of the first open attempt
next_is : (s : Server) (first : Opened) (others : List Opened) → s.is_live ≡ true
    → s.replica.ledger.opened ≡ first ∷ others → next_token s ≡ Some first.token
next_is s first others live opened =
    next_by s true live ∙ ap (λ (os : List Opened). option_map (λ o. o.token) (slice_get os 0)) opened

-- and it is that of the first open attempt
pub token_with : (token : List ℕ) (s : Server) (first : Opened) (others : List Opened)
    → s.replica.ledger.opened ≡ first ∷ others → is_some_of token (next_token s) ≡ true → first.token ≡ token
token_with token s first others opened has =
    let live = live_with token s has in
    some_is (sym (next_is s first others live opened) ∙ is_that token (next_token s) has)
  where
    some_is : {x y : List ℕ} → Path (Option (List ℕ)) (Some x) (Some y) → x ≡ y
    some_is same = cc

-- what is committed was of the ledger's view
first_in_view : (old new : Ledger) (c : Commit) (made : ledgers.Commits old new c) → AreOfItsView old
    → made.first.view ≡ old.view
first_in_view old new c made of_view =
    let InView : Opened → Type 0 = λ o. o.view ≡ old.view in
    All-head InView made.first made.others (subst (λ (os : List Opened). All InView os) made.opened of_view)

-- so it has one open
pub open_with : (token : List ℕ) (s : Server) → is_some_of token (next_token s) ≡ true
    → 0 < length s.replica.ledger.opened
open_with token s has =
    some_open s.replica.ledger.opened
    (sym (next_by s true (live_with token s has)) ∙ is_that token (next_token s) has)
  where
    some_open : (opened : List Opened)
        → Path (Option (List ℕ)) (option_map (λ o. o.token) (slice_get opened 0)) (Some token) → 0 < length opened
    some_open [] same = absurd cc
    some_open (own ∷ others) same = omega arith

-- the vote on which a replica commits
pub vote_of_commit : (old new : Ledger) (c : Commit) (token : List ℕ) (made : ledgers.Commits old new c)
    → AreOfItsView old → made.first.token ≡ token
    → commit_vote c.seq c.view c.token ≡ commit_vote (old.committed + 1) old.view token
vote_of_commit old new c token made of_view has =
    ap (λ (d : Commit). commit_vote d.seq d.view d.token) made.commit
    ∙ ap (λ (v : ℕ). commit_vote (old.committed + 1) v made.first.token) (first_in_view old new c made of_view)
    ∙ ap (commit_vote (old.committed + 1) old.view) has

pub committed_in_view : (old new : Ledger) (c : Commit) → ledgers.Commits old new c → AreOfItsView old
    → AreOfItsView new
committed_in_view old new c made of_view =
    let InView : Opened → Type 0 = λ o. o.view ≡ old.view in
    subst AreOfItsView (sym made.changed)
    (All-tail InView made.first made.others (subst (λ (os : List Opened). All InView os) made.opened of_view))

pub committed : (old new : Server) (c : Commit) → ledgers.Commits old.replica.ledger new.replica.ledger c
    → new.missing ≡ old.missing → standing_of new ≡ after_commit (standing_of old)
committed old new c made same =
    let ledger = old.replica.ledger in
    let many : length ledger.opened ≡ suc (length made.others) = ap length made.opened in
    ap (λ (n : ℕ). standing_with n new.replica.ledger) same
    ∙ ap (standing_with old.missing) made.changed
    ∙ stand ledger.view (ledger.committed + 1) (length made.others + old.missing)
    (length ledger.opened + old.missing - 1) (omega (arith, many))

pub commit_goes : (token : List ℕ) (c : Commit) (old new : Server)
    → is_some_of token (next_token old) ≡ true → new.is_live ≡ old.is_live → new.missing ≡ old.missing
    → replica.CommitsFirst old.replica new.replica c → section new.steps ≡ section old.steps ++ Commits c ∷ []
    → (AreRightSteps old → AreRightSteps new) → GoesOn (commit_move token) old new
commit_goes token c old new has lives same made added right =
    let steps = section old.steps in
    let ledger = old.replica.ledger in
    let moved = made.1 in
    let live = live_with token old has in
    record {
      names = ap (λ (r : Replica). r.names) made.2;
      rows = ap ledger_rows moved.changed;
      room = ap (λ (s : Ledger). s.window) moved.changed;
      version = ap (λ (s : Ledger). s.version) moved.changed;
      whole = λ h. ap (λ (r : Replica). r.is_broken) made.2 ∙ h;
      added = (Commits c ∷ [], added, (refl, tt));
      steps = right;
      through = λ p names next left goes.
          subst (λ (ss : List Step). GoesThrough p ss p.first new.replica.ledger) (sym added)
          (through_more p steps (Commits c) p.first ledger new.replica.ledger goes moved);
      windows = λ size batches from to leads stays comes.
          let turn = leads (lives ∙ live) in
          subst (λ (ss : List Step). ComesTo size batches ss to) (sym added)
          (comes_more size batches steps (Commits c) from to
          (λ rest goes. (turn.0, subst (λ (s : WindowState). GoByWindows size s rest) turn.1 goes)) comes);
      given_up = λ v stays. same_given_up v (Commits c) old new added (λ opened. refl);
      of_view = committed_in_view ledger new.replica.ledger c moved;
      votes = λ h own are.
          votes_by old new (Commits c) own (if new.is_live then (commit_move token).votes (standing_of old) else [])
          ((commit_move token).votes (standing_of old)) added are (
            [],
            ap (λ (v : Vote). v ∷ []) (sym (vote_of_commit ledger new.replica.ledger c token moved h
                (token_with token old moved.first moved.others moved.opened has))),
            refl,
          )
          (given_live ((commit_move token).votes (standing_of old)) new.is_live (lives ∙ live));
      view = λ at le. let same = ap (λ (s : Ledger). s.view) moved.changed in omega (arith, same, le);
      live = λ h. (live, committed old new c moved same);
      missing = λ h. record {
        version = λ some. absurd (none_missed h (omega (arith, same, some)));
        none_open = λ some. absurd (none_missed h (omega (arith, same, some)));
      };
      stays_live = λ two was. lives ∙ live;
      behind = λ at stands was stopped. absurd (false≢true (sym stopped ∙ lives ∙ live));
      stays = λ stopped. absurd (false≢true (sym stopped ∙ lives ∙ live));
      stands = λ stopped. absurd (false≢true (sym stopped ∙ lives ∙ live));
      stops = λ stopped was. absurd (false≢true (sym stopped ∙ lives ∙ live));
    }
  where
    none_missed : MissesRightly old → 0 < old.missing → ⊥
    none_missed rightly some =
        let none = ap length (rightly.none_open some) in
        let one = open_with token old has in
        omega (arith, none, one)

-- by it the batch that is next is committed
pub commits_next : (c : Commit) (old new : Server) → ledgers.Commits old.replica.ledger new.replica.ledger c
    → section new.steps ≡ section old.steps ++ Commits c ∷ [] → CommitsNext old new
commits_next c old new made added = record {
  commit = c;
  seq = ap (λ (d : Commit). d.seq) made.commit;
  view = λ of_view. ap (λ (d : Commit). d.view) made.commit
      ∙ first_in_view old.replica.ledger new.replica.ledger c made of_view;
  added = added;
}

-- ---- transfer

-- standings that are equal in their numbers
same_standing : {view view' committed committed' opened opened' : ℕ} → view ≡ view' → committed ≡ committed'
    → opened ≡ opened' → Path Standing (record { view = view; committed = committed; opened = opened })
    (record { view = view'; committed = committed'; opened = opened' })
same_standing d e f = cc

-- it gets by a transfer what others committed, and awaits one batch less
pub transfer_goes : (token : List ℕ) (x : Transfer) (old new : Server) → old.is_live ≡ true → new.is_live ≡ true
    → MayTransfer x old → new.missing ≡ (standing_of old).opened - 1
    → state.Transfers x old.replica.ledger new.replica.ledger
    → new.replica ≡ record old.replica { ledger = new.replica.ledger }
    → section new.steps ≡ section old.steps ++ Transfers x ∷ [] → (AreRightSteps old → AreRightSteps new)
    → GoesOn (commit_move token) old new
transfer_goes token x old new live lives may awaits made whole added right =
    let steps = section old.steps in
    let ledger = old.replica.ledger in
    let changed = made.changed in
    record {
      names = ap (λ (r : Replica). r.names) whole;
      rows = ap ledger_rows changed ∙ length-map x.rows (λ (r : Versioned). r.value) ∙ made.many;
      room = ap (λ (s : Ledger). s.window) changed;
      version = ap (λ (s : Ledger). s.version) changed;
      whole = λ h. ap (λ (r : Replica). r.is_broken) whole ∙ h;
      added = (Transfers x ∷ [], added, (refl, tt));
      steps = right;
      through = λ p names next left goes.
          subst (λ (ss : List Step). GoesThrough p ss p.first new.replica.ledger) (sym added)
          (through_more p steps (Transfers x) p.first ledger new.replica.ledger goes
          (record {
            version = may.version;
            left = left live may.awaits;
            next = may.next;
            view = may.view;
            transferred = made;
          }));
      windows = λ size batches from to leads stays comes.
          let turn = leads lives in
          subst (λ (ss : List Step). ComesTo size batches ss to) (sym added)
          (comes_more size batches steps (Transfers x) from to
          (λ rest goes. (turn.0, subst (λ (s : WindowState). GoByWindows size s rest) turn.1 goes)) comes);
      given_up = λ v stays. same_given_up v (Transfers x) old new added (λ opened. refl);
      of_view = λ h. subst AreOfItsView (sym changed) (All-nil (λ (o : Opened). o.view ≡ x.view));
      votes = λ h own are.
          votes_by old new (Transfers x) own (if new.is_live then (commit_move token).votes (standing_of old) else [])
          ((commit_move token).votes (standing_of old)) added are (
            token,
            [],
            ap (λ (n : ℕ). commit_vote n ledger.view token ∷ []) (sym may.next)
                ∙ ap (λ (v : ℕ). commit_vote x.seq v token ∷ []) (sym may.view),
            refl,
          )
          (given_live ((commit_move token).votes (standing_of old)) new.is_live lives);
      view = λ at le. let same = ap (λ (s : Ledger). s.view) changed in omega (arith, same, may.view, le);
      live = λ h. (
        live,
        ap (standing_with new.missing) changed ∙ same_standing may.view may.next (omega (arith, awaits)),
      );
      missing = λ h. record {
        version = λ some. ap (λ (s : Ledger). s.version) changed ∙ may.version;
        none_open = λ some. ap (λ (s : Ledger). s.opened) changed;
      };
      stays_live = λ two was. lives;
      behind = λ at stands was stopped. absurd (false≢true (sym stopped ∙ lives));
      stays = λ stopped. absurd (false≢true (sym stopped ∙ lives));
      stands = λ stopped. absurd (false≢true (sym stopped ∙ lives));
      stops = λ stopped was. absurd (false≢true (sym stopped ∙ lives));
    }

-- ---- stopping

-- a live replica without this token for the next batch, which is open, is outvoted by the vote for it
outvoted : (token : List ℕ) (s : Server) (opened : List Opened) → s.replica.ledger.opened ≡ opened → 0 < length opened
    → s.is_live ≡ true → is_some_of token (next_token s) ≡ false
    → IsOutvoted s.replica.ledger ((commit_move token).votes (standing_of s))
outvoted token s [] is some live other = absurd (omega arith)
outvoted token s (own ∷ others) is some live other = record {
  own = own;
  others = others;
  opened = is;
  token = token;
  rest = [];
  next = refl;
  other = λ same. false≢true (sym other ∙ ap (is_some_of token) (next_is s own others live is)
      ∙ (bytes_eq-Decides own.token token).1 same);
}

-- In version 1 the replica goes on no more, if it did.
pub stop_goes : (token : List ℕ) (old new : Server) → old.replica.ledger.version ≡ 1
    → (old.is_live ≡ true → 0 < length old.replica.ledger.opened)
    → is_some_of token (next_token old) ≡ false → new.is_live ≡ false → new.replica ≡ old.replica
    → new.missing ≡ old.missing → section new.steps ≡ section old.steps → GoesOn (commit_move token) old new
stop_goes token old new one some other stopped same missed steps =
    let ledger : new.replica.ledger ≡ old.replica.ledger = ap (λ (r : Replica). r.ledger) same in
    let view = ap (λ (s : Ledger). s.view) ledger in
    let committed = ap (λ (s : Ledger). s.committed) ledger in
    record {
      names = ap (λ (r : Replica). r.names) same;
      rows = ap ledger_rows ledger;
      room = ap (λ (s : Ledger). s.window) ledger;
      version = ap (λ (s : Ledger). s.version) ledger;
      whole = λ h. ap (λ (r : Replica). r.is_broken) same ∙ h;
      added = ([], steps ∙ sym (append-nil (section old.steps)), tt);
      steps = λ h.
          subst (λ (ss : List Step). IsTrue (list_all (is_step (ledger_rows new.replica.ledger)) ss)) (sym steps)
          (subst (λ (n : ℕ). IsTrue (list_all (is_step n) (section old.steps))) (sym (ap ledger_rows ledger)) h);
      through = λ p names next left goes.
          subst (λ (ss : List Step). GoesThrough p ss p.first new.replica.ledger) (sym steps)
          (subst (GoesThrough p (section old.steps) p.first) (sym ledger) goes);
      windows = λ size batches from to leads stays comes.
          subst (λ (ss : List Step). ComesTo size batches ss to) (sym steps)
          (subst (ComesTo size batches (section old.steps)) (stays stopped) comes);
      given_up = λ v stays. ap (token_given_up v []) steps;
      of_view = λ h. subst AreOfItsView (sym ledger) h;
      votes = λ h own are.
          subst (λ (b : Bool). AreVotesOf (section new.steps)
          (own ++ (if b then (commit_move token).votes (standing_of old) else []))) (sym stopped)
          (subst (λ (vs : List Vote). AreVotesOf (section new.steps) vs) (sym (append-nil own))
          (subst (λ (ss : List Step). AreVotesOf ss own) (sym steps) are));
      view = λ at le. omega (arith, view, le);
      live = λ h. absurd (false≢true (sym stopped ∙ h));
      missing = λ h. record {
        version = λ more. ap (λ (s : Ledger). s.version) ledger ∙ h.version (omega (arith, missed, more));
        none_open = λ more. ap (λ (s : Ledger). s.opened) ledger ∙ h.none_open (omega (arith, missed, more));
      };
      stays_live = λ two was. absurd (omega (arith, one, two));
      behind = λ at stands was h. behind_now at stands was old.is_live refl committed;
      stays = λ h. ledger;
      stands = λ h. ap (λ (n : ℕ). standing_with n new.replica.ledger) missed ∙ ap (standing_with old.missing) ledger;
      stops = λ h live. outvoted token old old.replica.ledger.opened refl (some live) live other;
    }
  where
    behind_now : (at : Standing) → (old.is_live ≡ true → standing_of old ≡ at)
        → (old.is_live ≡ false → old.replica.ledger.committed < at.committed) → (b : Bool) → old.is_live ≡ b
        → new.replica.ledger.committed ≡ old.replica.ledger.committed
        → new.replica.ledger.committed < at.committed + 1
    behind_now at stands was true is same =
        let here = ap (λ (x : Standing). x.committed) (stands is) in omega arith
    behind_now at stands was false is same = let before = was is in omega arith

-- ---- rollbacks

-- the vote on which a replica rolls back
pub vote_of_rollback : (old new : Ledger) (r : Rollback) → ledgers.RollsBack old new r
    → rollback_vote (r.to + 1) (r.view - 1) ≡ rollback_vote (old.committed + 1) old.view
vote_of_rollback old new r made =
    let view : r.view - 1 ≡ old.view = omega (arith, made.view) in
    ap (λ (n : ℕ). rollback_vote (n + 1) (r.view - 1)) made.to ∙ ap (rollback_vote (old.committed + 1)) view

pub rolled_back_in_view : (old new : Ledger) (r : Rollback) → ledgers.RollsBack old new r → AreOfItsView new
rolled_back_in_view old new r made =
    subst AreOfItsView (sym made.changed) (All-nil (λ (o : Opened). o.view ≡ old.view + 1))

-- who awaits a decision in version 1 has an attempt open
pub some_open : (missing opened version : ℕ) → (0 < missing → version ≡ 2) → 0 < opened + missing → version ≡ 1
    → 0 < opened
some_open zero opened version two awaits one = omega arith
some_open (suc n) opened version two awaits one = absurd (let is = two (omega arith) in omega arith)

pub rollback_goes : (r : Rollback) (old new : Server) → old.is_live ≡ true → new.is_live ≡ true
    → 0 < (standing_of old).opened → MissesRightly old → new.missing ≡ 0
    → ledgers.RollsBack old.replica.ledger new.replica.ledger r
    → new.replica ≡ record old.replica { ledger = new.replica.ledger; is_broken = false }
    → section new.steps ≡ section old.steps ++ RollsBack r ∷ [] → (AreRightSteps old → AreRightSteps new)
    → GoesOn rollback_move old new
rollback_goes r old new live lives awaits rightly none made whole added right =
    let steps = section old.steps in
    let ledger = old.replica.ledger in
    record {
      names = ap (λ (x : Replica). x.names) whole;
      rows = made.as_many;
      room = ap (λ (s : Ledger). s.window) made.changed;
      version = ap (λ (s : Ledger). s.version) made.changed;
      whole = λ h. ap (λ (x : Replica). x.is_broken) whole;
      added = (RollsBack r ∷ [], added, (refl, tt));
      steps = right;
      through = λ p names next left goes.
          subst (λ (ss : List Step). GoesThrough p ss p.first new.replica.ledger) (sym added)
          (through_more p steps (RollsBack r) p.first ledger new.replica.ledger goes
          (record {
            left = left live awaits;
            discards = some_open old.missing (length ledger.opened) ledger.version rightly.version awaits;
            rolled_back = made;
          }));
      windows = λ size batches from to leads stays comes.
          let turn = leads lives in
          subst (λ (ss : List Step). ComesTo size batches ss to) (sym added)
          (comes_more size batches steps (RollsBack r) from to
          (λ rest goes. (turn.0, subst (λ (s : WindowState). GoByWindows size s rest) turn.1 goes)) comes);
      given_up = λ v stays.
          same_given_up v (RollsBack r) old new added (other_view v r (λ same. stays (omega (arith, made.view))));
      of_view = λ h. rolled_back_in_view ledger new.replica.ledger r made;
      votes = λ h own are.
          votes_by old new (RollsBack r) own (if new.is_live then rollback_move.votes (standing_of old) else [])
          (rollback_move.votes (standing_of old)) added are
          ([], ap (λ (v : Vote). v ∷ []) (sym (vote_of_rollback ledger new.replica.ledger r made)), refl)
          (given_live (rollback_move.votes (standing_of old)) new.is_live lives);
      view = λ at le. let same = ap (λ (s : Ledger). s.view) made.changed in omega (arith, same, le);
      live = λ h. (
        live,
        ap (standing_with new.missing) made.changed
            ∙ stand (ledger.view + 1) ledger.committed (0 + new.missing) 0 (omega (arith, none)),
      );
      missing = λ h. record {
        version = λ some. absurd (omega (arith, none, some));
        none_open = λ some. absurd (omega (arith, none, some));
      };
      stays_live = λ two was. lives;
      behind = λ at stands was stopped. absurd (false≢true (sym stopped ∙ lives));
      stays = λ stopped. absurd (false≢true (sym stopped ∙ lives));
      stands = λ stopped. absurd (false≢true (sym stopped ∙ lives));
      stops = λ stopped was. absurd (false≢true (sym stopped ∙ lives));
    }

-- by it a live replica gives up the token that it had for the next batch
pub rollback_gives_up : (r : Rollback) (p : RunPlan) (old new : Server) → old.is_live ≡ true
    → ledgers.RollsBack old.replica.ledger new.replica.ledger r
    → section new.steps ≡ section old.steps ++ RollsBack r ∷ [] → GivesUpNext p old new
rollback_gives_up r p old new live made added = λ begun goes.
    ap (token_given_up (old.replica.ledger.view + 1) []) added
    ∙ first_given_up p (section old.steps) old.replica.ledger r begun goes made.view
    ∙ sym (next_by old true live)

-- and one that is live no more none
pub stopped_gives_up : (p : RunPlan) (s : Server) → s.is_live ≡ false → GivesUpNext p s s
stopped_gives_up p s stopped = λ begun goes.
    none_given_up p (s.replica.ledger.view + 1) (section s.steps) s.replica.ledger begun goes (λ up. omega arith)
    ∙ sym (next_by s false stopped)
