-- Replicas of a run go on, one after another.
use Rattle.std.proofs.Common.{◌≡◌, ℕ, zero, suc, ◌+◌, ◌-◌, ◌*◌, ◌<◌, ◌≤◌, Bool, true, false, if◌then◌else◌}
use Rattle.std.proofs.Common.{List, [], ◌∷◌, ◌++◌, Vec, vec_len, All, length, map, get_or, slice_get, option_map}
use Rattle.std.proofs.Common.{take, drop}
use Rattle.std.proofs.Common.{Some}
use Rattle.std.proofs.Common.{refl, sym, ap, ◌∙◌, subst, append_assoc, arith}
use Rattle.std.specs.Vec.{with_items}
use Rattle.std.specs.declared.alloc.Global.{Global}
use Rattle.eve_write.specs.declared.vote.VoteData.{VoteData}
use Rattle.std.proofs.lemmas.List.{with_items_is}
use Rattle.std.proofs.lemmas.List.{length-append, length-drop, length-map, length-take-le, append-nil}
use Rattle.std.proofs.lemmas.Bool.{false≢true}
use Rattle.std.proofs.lemmas.List.Elements.{All-append, All-cons, All-nil}
use Rattle.std.proofs.lemmas.Option.{slice_get-map, slice_get_within}
use Rattle.std.specs.List.{count_by}
use Rattle.eve_grammar.specs.Trace.{Batch, Attempt, Step, Vote}
use Rattle.eve_grammar.specs.declared.limits.TheConstants.{MOST_BYTES}
use Rattle.eve_grammar.proofs.Lists.{all-append}
use Rattle.eve_write.specs.Data.{batch, section, vote}
use Rattle.eve_workload.specs.declared.mixer.MixedBatch.{MixedBatch}
use Rattle.eve_attempts.specs.declared.prefix.AttemptHead.{AttemptHead}
use Rattle.eve_attempts.specs.Ledgers.{Ledger, Opened}
use Rattle.eve_attempts.specs.ClosedAttempts.{touched_in_batch, Closes, opened_as}
use Rattle.eve_floor.specs.Recording.{AreNotedOf}
use Rattle.eve_replica.specs.declared.standing.Standing.{Standing}
use Rattle.eve_replica.specs.declared.server.Server.{Server}
use Rattle.eve_replica.specs.declared.run_state.RunState.{RunState}
use Rattle.eve_replica.specs.Replicas.{Replica, AttemptsDue, attempt_head_of}
use Rattle.eve_replica.specs.Sections.{RunPlan, AttemptsNext, AreVotesOf, place_due, reaches_batch}
use Rattle.eve_replica.specs.inner.RunInvariant.{standing_of, after_attempts, AreDue, AreVotesOn, AreOfItsView, IsLeft}
use Rattle.eve_replica.specs.inner.RunInvariant.{window_at, IsOutvoted, IsLedBy, Serves}
use Rattle.eve_replica.specs.Decisions.{AreUndecided}
use Rattle.eve_replica.specs.Transfers.{AreTransferredIn, AreCommittedByMost, states_in}
use Rattle.eve_replica.specs.Windows.{ComesTo, WindowState}
use Rattle.eve_replica.specs.inner.RunInvariant.{Move, attempt_move, AreBatchesFrom, GoesOn}
use Rattle.eve_replica.specs.inner.RunInvariant.{IsUnderWay, live_in, sections_in, states_len}
use Rattle.eve_replica.proofs.TokenCounts.{counted_alike}
use Rattle.eve_replica.proofs.ReplicaLists.{AreAllOn}
use Rattle.eve_replica.proofs.Windows.{same_state}

-- who is outvoted stays so, whatever votes come
more_votes : (s : Ledger) (later more : List Vote) → IsOutvoted s later → IsOutvoted s (later ++ more)
more_votes s later more out = record {
  own = out.own;
  others = out.others;
  opened = out.opened;
  token = out.token;
  rest = out.rest ++ more;
  next = ap (λ (vs : List Vote). vs ++ more) out.next;
  other = out.other;
}

-- one that stops now by these votes, and one that stopped before by those before
outvoted_on : (votes more : List Vote) (s : Server) (b : Bool) → s.is_live ≡ b → (led : IsLedBy votes s)
    → (s.is_live ≡ true → IsOutvoted s.replica.ledger more) → IsOutvoted s.replica.ledger (led.later ++ more)
outvoted_on votes more s true is led stops =
    subst (λ (vs : List Vote). IsOutvoted s.replica.ledger (vs ++ more)) (sym (led.none_later is)) (stops is)
outvoted_on votes more s false is led stops = more_votes s.replica.ledger led.later more (led.stopped is)

-- a live replica was led by all votes, one that stopped by the first of them
led_on : (votes more : List Vote) (old new : Server) (b : Bool) → new.is_live ≡ b → IsLedBy votes old
    → ((own : List Vote) → AreVotesOf (section old.steps) own
    → AreVotesOf (section new.steps) (own ++ (if b then more else [])))
    → (new.is_live ≡ true → old.is_live ≡ true)
    → (new.is_live ≡ false → new.replica.ledger ≡ old.replica.ledger)
    → (new.is_live ≡ false → old.is_live ≡ true → IsOutvoted old.replica.ledger more)
    → IsLedBy (votes ++ more) new
led_on votes more old new true is led along live stays stops = record {
  own = led.own ++ more;
  later = [];
  led = along led.own led.led;
  first = ap (λ (vs : List Vote). vs ++ more) led.first
      ∙ ap (λ (vs : List Vote). (led.own ++ vs) ++ more) (led.none_later (live is))
      ∙ ap (λ (vs : List Vote). vs ++ more) (append-nil led.own)
      ∙ sym (append-nil (led.own ++ more));
  none_later = λ h. refl;
  stopped = λ h. absurd (false≢true (sym h ∙ is));
}
led_on votes more old new false is led along live stays stops = record {
  own = led.own;
  later = led.later ++ more;
  led = subst (λ (vs : List Vote). AreVotesOf (section new.steps) vs) (append-nil led.own) (along led.own led.led);
  first = ap (λ (vs : List Vote). vs ++ more) led.first ∙ append_assoc led.own led.later more;
  none_later = λ h. absurd (false≢true (sym is ∙ h));
  stopped = λ h.
      subst (λ (s : Ledger). IsOutvoted s (led.later ++ more)) (sym (stays is))
      (outvoted_on votes more old old.is_live refl led (stops is));
}

-- The batches of the move are due where replicas stand: where it has some none is awaited.
abbrev pub AreNext : RunPlan → Standing → Move → Type 0
AreNext p at m = (0 < length m.window → at.opened ≡ 0) × AreBatchesFrom p.batches (at.committed + at.opened) m.window

-- a replica that went on serves, further on
pub goes_on : (p : RunPlan) (at : Standing) (votes : List Vote) (m : Move) (old new : Server) → AreNext p at m
    → (old.is_live ≡ true → IsLeft p.batches at)
    → (old.is_live ≡ true → m.InWindow p.first.window (window_at p at) (window_at p (m.further at)))
    → GoesOn m old new → Serves p at votes old → Serves p (m.further at) (votes ++ m.votes at) new
goes_on p at votes m old new next left leads goes serves = record {
  names = goes.names ∙ serves.names;
  rows = goes.rows ∙ serves.rows;
  room = goes.room ∙ serves.room;
  version = goes.version ∙ serves.version;
  whole = goes.whole serves.whole;
  steps = goes.steps serves.steps;
  through = goes.through p serves.names due_here
      (λ is. subst (IsLeft p.batches) (sym (serves.live is)) (left is)) serves.through;
  windows = goes.windows p.first.window (length p.batches) (window_of old) (window_of new) in_window
      (λ is. ap (window_at p) (sym (goes.stands is))) serves.windows;
  of_view = goes.of_view serves.of_view;
  led = led_on votes (m.votes at) old new new.is_live refl serves.led (along new.is_live refl)
      (λ is. (goes.live is).0) goes.stays
      (λ is live. subst (IsOutvoted old.replica.ledger) (ap m.votes (serves.live live)) (goes.stops is live));
  view = goes.view at serves.view;
  missing = goes.missing serves.missing;
  stays_live = λ two. goes.stays_live (serves.version ∙ two) (serves.stays_live two);
  live = λ is. (goes.live is).1 ∙ ap m.further (serves.live (goes.live is).0);
  behind = goes.behind at serves.live serves.behind;
}
  where
    window_of : Server → WindowState
    window_of s = window_at p (standing_of s)

    due_here : old.is_live ≡ true → AreBatchesFrom p.batches (place_due old.replica.ledger) m.window
    due_here is k below =
        let committed = ap (λ (x : Standing). x.committed) (serves.live is) in
        let opened = ap (λ (x : Standing). x.opened) (serves.live is) in
        let none = next.0 (omega (arith, below)) in
        let place : place_due old.replica.ledger + k ≡ at.committed + at.opened + k =
        omega (arith, committed, opened, none) in
        ap (slice_get p.batches) place ∙ next.1 k below

    in_window : new.is_live ≡ true → m.InWindow p.first.window (window_of old) (window_of new)
    in_window is =
        let live = goes.live is in
        let stood = serves.live live.0 in
        subst (λ (x : Standing). m.InWindow p.first.window (window_at p x) (window_of new)) (sym stood)
        (subst (λ (x : Standing). m.InWindow p.first.window (window_at p at) (window_at p x))
        (sym (live.1 ∙ ap m.further stood)) (leads live.0))

    here : (b : Bool) → new.is_live ≡ b → Path (List Vote)
        (if b then m.votes (standing_of old) else []) (if b then m.votes at else [])
    here true is = ap m.votes (serves.live (goes.live is).0)
    here false is = refl

    along : (b : Bool) → new.is_live ≡ b → (own : List Vote) → AreVotesOf (section old.steps) own
        → AreVotesOf (section new.steps) (own ++ (if b then m.votes at else []))
    along b is own are = subst (λ (vs : List Vote). AreVotesOf (section new.steps) (own ++ vs))
        (ap (λ (c : Bool). if c then m.votes (standing_of old) else []) is ∙ here b is)
        (goes.votes serves.of_view own are)

pub stand : (view committed opened opened' : ℕ) → opened ≡ opened'
    → Path Standing (record { view = view; committed = committed; opened = opened })
    (record { view = view; committed = committed; opened = opened' })
stand view committed opened opened' same =
    ap (λ (n : ℕ). record { view = view; committed = committed; opened = n }) same

-- where a replica with this ledger stands that misses this number
abbrev pub standing_with : ℕ → Ledger → Standing
standing_with missing s =
    record { view = s.view; committed = s.committed; opened = length s.opened + missing }

-- an attempt was made
pub attempted : (old new : Server) (b : Batch) (a : Attempt) → AttemptsDue old.replica new.replica b a
    → new.missing ≡ old.missing → standing_of new ≡ after_attempts 1 (standing_of old)
attempted old new b a made same =
    let closed = made.1.1.closed in
    let ledger = old.replica.ledger in
    let one = opened_as a closed.ordered in
    let longer : length (ledger.opened ++ one ∷ []) ≡ length ledger.opened + 1 =
    length-append ledger.opened (one ∷ []) in
    ap (λ (n : ℕ). standing_with n new.replica.ledger) same
    ∙ ap (standing_with old.missing) closed.opens.changed
    ∙ stand ledger.view ledger.committed (length (ledger.opened ++ one ∷ []) + old.missing)
    (length ledger.opened + old.missing + 1) (omega (arith, longer))

-- the ledger makes the attempt of the batch that is due
pub attempts_next : (p : RunPlan) (old new : Replica) (b : Batch) (a : Attempt) → AreDue 1 old.ledger
    → old.names ≡ p.names → slice_get p.batches (place_due old.ledger) ≡ Some b → AttemptsDue old new b a
    → AttemptsNext p old.ledger new.ledger a
attempts_next p old new b a due names is made =
    let prefix : AttemptHead = attempt_head_of old.ledger old.ledger.view old.ledger.is_next_serial in
    let Closing : List (List ℕ) → Type 0 = λ ns.
    Closes prefix old.ledger new.ledger b (touched_in_batch ns b) made.1.0 a in
    record {
      room = omega (arith, due.room);
      batch = b;
      due = is;
      records = made.1.0;
      noted = subst (λ (ns : List (List ℕ)). AreNotedOf ns b made.1.0) names made.1.1.noted;
      closed = subst Closing names made.1.1.closed;
    }

-- and its open attempts stay of its view
pub attempted_in_view : (old new : Replica) (b : Batch) (a : Attempt) → AttemptsDue old new b a
    → AreOfItsView old.ledger → AreOfItsView new.ledger
attempted_in_view old new b a made of_view =
    let closed = made.1.1.closed in
    let one = opened_as a closed.ordered in
    let InView : Opened → Type 0 = λ o. o.view ≡ old.ledger.view in
    subst AreOfItsView (sym closed.opens.changed)
    (All-append InView old.ledger.opened (one ∷ []) of_view
    (All-cons InView one [] closed.attempt.view (All-nil InView)))

pub no_votes : (b : Bool) (vs : List Vote) → vs ++ (if b then [] else []) ≡ vs
no_votes true vs = append-nil vs
no_votes false vs = append-nil vs

-- this number of attempts, and one more
pub one_more : (many : ℕ) (window : List Batch) (w : Batch) (a b c : Server) → slice_get window many ≡ Some w
    → b.missing ≡ a.missing → GoesOn (attempt_move many window) a b → GoesOn (attempt_move 1 (w ∷ [])) b c
    → GoesOn (attempt_move (many + 1) window) a c
one_more many window w a b c there same first more =
    let at = standing_of a in
    record {
      names = more.names ∙ first.names;
      rows = more.rows ∙ first.rows;
      room = more.room ∙ first.room;
      version = more.version ∙ first.version;
      whole = λ h. more.whole (first.whole h);
      added = (
        first.added.0 ++ more.added.0,
        more.added.1 ∙ ap (λ (ss : List Step). ss ++ more.added.0) first.added.1
            ∙ append_assoc (section a.steps) first.added.0 more.added.0,
        all-append (λ (x : Step). reaches_batch x ≡ false) first.added.0 more.added.0 first.added.2 more.added.2,
      );
      steps = λ h. more.steps (first.steps h);
      through = λ p names follow left goes. more.through p (first.names ∙ names) (λ live. next_one p follow live)
          (λ live. left_one p follow live) (first.through p names follow left goes);
      windows = λ size batches from to. windows_on size batches from to c.is_live refl;
      of_view = λ h. more.of_view (first.of_view h);
      given_up = λ view stays.
          more.given_up view (λ enters. omega arith) ∙ first.given_up view (λ enters. omega arith);
      votes = λ h own are. more.votes (first.of_view h) own
          (subst (λ (vs : List Vote). AreVotesOf (section b.steps) vs) (no_votes b.is_live own)
          (first.votes h own are));
      view = λ x h. more.view x (first.view x h);
      live = λ is. (
        (first.live (more.live is).0).0,
        (more.live is).1 ∙ ap (after_attempts 1) (first.live (more.live is).0).1
            ∙ stand at.view at.committed (at.opened + many + 1) (at.opened + (many + 1)) (omega arith),
      );
      missing = λ h. more.missing (first.missing h);
      stays_live = λ two live. more.stays_live (first.version ∙ two) (first.stays_live two live);
      behind = λ x stands was.
          more.behind (after_attempts many x)
          (λ is. (first.live is).1 ∙ ap (after_attempts many) (stands (first.live is).0))
          (first.behind x stands was);
      stays = λ is. more.stays is ∙ first.stays (stopped_before b.is_live refl is);
      stands = λ is. more.stands is ∙ first.stands (stopped_before b.is_live refl is);
      stops = λ is live. first.stops (stopped_before b.is_live refl is) live;
    }
  where
    stopped_before : (l : Bool) → b.is_live ≡ l → c.is_live ≡ false → b.is_live ≡ false
    stopped_before true live is = absurd (let next = (more.stops is live).next in cc)
    stopped_before false live is = live

    windows_on : (size batches : ℕ) (from to : WindowState) (l : Bool) → c.is_live ≡ l
        → (c.is_live ≡ true → (attempt_move (many + 1) window).InWindow size from to) → (c.is_live ≡ false → from ≡ to)
        → ComesTo size batches (section a.steps) from → ComesTo size batches (section c.steps) to
    windows_on size batches from to true live leads stays comes =
        let made = leads live in
        let mid : WindowState = record from { due = from.due - many; opened = from.opened + many } in
        let due : from.due - (many + 1) ≡ from.due - many - 1 = omega arith in
        let opened : from.opened + (many + 1) ≡ from.opened + many + 1 = omega arith in
        more.windows size batches mid to
        (λ is. (omega (arith, made.0), made.1 ∙ same_state from.left due opened))
        (λ is. absurd (false≢true (sym is ∙ live)))
        (first.windows size batches from mid (λ is. (omega (arith, made.0), refl))
        (λ is. absurd (false≢true (sym is ∙ (more.live live).0))) comes)
    windows_on size batches from to false stopped leads stays comes =
        more.windows size batches from to (λ is. absurd (false≢true (sym stopped ∙ is))) stays
        (first.windows size batches from from
        (λ is. absurd (false≢true (sym (stopped_before b.is_live refl stopped) ∙ is))) (λ is. refl) comes)

    -- the batch after those attempted is the next
    there_next : (p : RunPlan) → (a.is_live ≡ true → AreBatchesFrom p.batches (place_due a.replica.ledger) window)
        → b.is_live ≡ true → slice_get p.batches (place_due a.replica.ledger + many) ≡ Some w
    there_next p follow live = follow (first.live live).0 many (slice_get_within window many w there) ∙ there

    next_one : (p : RunPlan) → (a.is_live ≡ true → AreBatchesFrom p.batches (place_due a.replica.ledger) window)
        → b.is_live ≡ true → AreBatchesFrom p.batches (place_due b.replica.ledger) (w ∷ [])
    next_one p follow live zero below =
        let committed = ap (λ (x : Standing). x.committed) (first.live live).1 in
        let opened = ap (λ (x : Standing). x.opened) (first.live live).1 in
        let place : place_due b.replica.ledger + 0 ≡ place_due a.replica.ledger + many =
        omega (arith, committed, opened, same) in
        ap (slice_get p.batches) place ∙ there_next p follow live
    next_one p follow live (suc k) below = absurd (omega arith)

    left_one : (p : RunPlan) → (a.is_live ≡ true → AreBatchesFrom p.batches (place_due a.replica.ledger) window)
        → b.is_live ≡ true → IsLeft p.batches (standing_of b)
    left_one p follow live some =
        let committed = ap (λ (x : Standing). x.committed) (first.live live).1 in
        let within = slice_get_within p.batches (place_due a.replica.ledger + many) w (there_next p follow live) in
        omega (arith, committed, within)

-- where a whole window was attempted
pub window_open : (many : ℕ) (at : Standing) → at.opened ≡ 0
    → Path Standing (record { view = at.view; committed = at.committed; opened = many }) (after_attempts many at)
window_open many at none = stand at.view at.committed many (at.opened + many) (omega arith)

-- how many batches a window has
pub window_len : (batches : List MixedBatch) (from end : ℕ) → from ≤ end → end ≤ length batches
    → length (take (end - from) (drop from batches)) ≡ end - from
window_len batches from end up within =
    length-take-le (end - from) (drop from batches) (omega (arith, length-drop from batches))

take_at : {A : Type 0} (n : ℕ) (xs : List A) (k : ℕ) → k < length (take n xs)
    → slice_get xs k ≡ slice_get (take n xs) k
take_at zero xs k below = absurd (omega arith)
take_at (suc n) [] k below = absurd (omega arith)
take_at (suc n) (x ∷ xs) zero below = refl
take_at (suc n) (x ∷ xs) (suc k) below = take_at n xs k (omega arith)

drop_at : {A : Type 0} (n : ℕ) (xs : List A) (k : ℕ) → slice_get xs (n + k) ≡ slice_get (drop n xs) k
drop_at zero xs k = let on : 0 + k ≡ k = omega arith in ap (slice_get xs) on
drop_at (suc n) [] k = refl
drop_at (suc n) (x ∷ xs) k =
    let on : suc n + k ≡ suc (n + k) = omega arith in ap (slice_get (x ∷ xs)) on ∙ drop_at n xs k

-- the batches of a window are those from its first on
pub window_follows : (batches : List MixedBatch) (from many : ℕ)
    → AreBatchesFrom (map (λ m. batch m.batch) batches) from (map (λ m. batch m.batch) (take many (drop from batches)))
window_follows batches from many = λ k below.
    let plain : MixedBatch → Batch = λ m. batch m.batch in
    let window = take many (drop from batches) in
    slice_get-map plain batches (from + k)
    ∙ ap (option_map plain) (drop_at from batches k ∙ take_at many (drop from batches) k
    (omega (arith, length-map window plain, below)))
    ∙ sym (slice_get-map plain window k)

-- what is due of a live replica, by where it stands
pub due : (p : RunPlan) (many : ℕ) (at : Standing) (votes : List Vote) (s : Server) → at.opened + many ≤ p.first.window
    → at.committed + at.opened + many ≤ 65535 → Serves p at votes s → s.is_live ≡ true
    → AreDue many s.replica.ledger
due p many at votes s fits last serves live =
    let stands = serves.live live in
    let opened = ap (λ (x : Standing). x.opened) stands in
    let committed = ap (λ (x : Standing). x.committed) stands in
    record { last = omega (arith, opened, committed); room = omega (arith, opened, serves.room) }

-- one that awaits nothing misses nothing
pub none_missing : (p : RunPlan) (at : Standing) (votes : List Vote) (s : Server) → at.opened ≡ 0
    → Serves p at votes s → s.is_live ≡ true → s.missing ≡ 0
none_missing p at votes s none serves live =
    let opened = ap (λ (x : Standing). x.opened) (serves.live live) in omega (arith, opened, none)

-- ---- all replicas

-- Replicas went on by this move, and serve further on.
pub serve_on : (p : RunPlan) (at : Standing) (votes : List Vote) (m : Move) (was servers : List Server)
    → AreNext p at m → IsLeft p.batches at
    → ((k : ℕ) (d : Server) → k < length was → (get_or was k d).is_live ≡ true
    → m.InWindow p.first.window (window_at p at) (window_at p (m.further at)))
    → AreAllOn (GoesOn m) was servers → All (Serves p at votes) was
    → All (Serves p (m.further at) (votes ++ m.votes at)) servers
serve_on p at votes m was servers next left leads on serve = λ k d there.
    let before : k < length was = omega (arith, on.many) in
    goes_on p at votes m (get_or was k d) (get_or servers k d) next (λ live. left) (leads k d before)
    (on.each k d there) (serve k d before)

-- wherever a live replica is said to stand, it has as many attempts open
pub open_there : (p p' : RunPlan) (at at' : Standing) (votes votes' : List Vote) (s : Server) → Serves p at votes s
    → Serves p' at' votes' s → s.is_live ≡ true → 0 < at.opened → 0 < at'.opened
open_there p p' at at' votes votes' s one other live some =
    let here = ap (λ (x : Standing). x.opened) (one.live live) in
    let there = ap (λ (x : Standing). x.opened) (other.live live) in
    omega arith

-- as many are live as passed
pub live_on : (passes : Server → Bool) (was servers : List Server)
    → AreAllOn (λ old new. new.is_live ≡ passes old) was servers → live_in servers ≡ count_by passes was
live_on passes was servers on = counted_alike (λ s. s.is_live) passes servers was on.many on.each

-- a replica went on by this move, and is live where it passed before
abbrev pub Moves : Move → (Server → Bool) → Server → Server → Type 0
Moves m passes old new = GoesOn m old new × (new.is_live ≡ passes old)

-- ---- the run

-- the replicas of a run, as they are lent
pub lent_serve : (p : RunPlan) (d : RunState) (lent : List Server) → IsUnderWay p d → lent ≡ d.servers.items
    → All (Serves p d.standing (map vote d.votes.items)) lent
lent_serve p d lent was same =
    subst (λ (servers : List Server). All (Serves p d.standing (map vote d.votes.items)) servers) (sym same) was.servers

-- what they rolled back wasn't decided
pub lent_undecided : (p : RunPlan) (d : RunState) (lent : List Server) → IsUnderWay p d → lent ≡ d.servers.items
    → AreUndecided (sections_in lent)
lent_undecided p d lent was same =
    subst (λ (servers : List Server). AreUndecided (sections_in servers)) (sym same) was.undecided

-- a run whose replicas have gone on to stand here is under way, with what room is left for states
pub moved : (p : RunPlan) (d : RunState) (given : List Server) (at : Standing) (votes : Vec VoteData Global) (room : ℕ)
    → IsUnderWay p d → length given ≡ vec_len d.servers
    → at.committed + at.opened ≤ length d.batches.now → AreVotesOn (length d.batches.now) votes.items
    → All (Serves p at (map vote votes.items)) given → length given < 2 * live_in given
    → AreCommittedByMost at.committed (sections_in given) → AreTransferredIn p (sections_in given)
    → AreUndecided (sections_in given)
    → (d.head.version ≡ 2 → MOST_BYTES ≤ room + states_len d.head.customers (states_in (sections_in given)))
    → IsUnderWay p (record d { servers = with_items d.servers given; standing = at; votes = votes; room = room })
moved p d given at votes room was many due right go majority committed transferred undecided spent = record {
  none_reached = was.none_reached;
  begun = was.begun;
  customers = was.customers;
  window = was.window;
  version = was.version;
  known = was.known;
  batches = was.batches;
  few = was.few;
  room = was.room;
  mixed = was.mixed;
  due = due;
  many = was.many;
  servers = subst (λ (servers : List Server). All (Serves p at (map vote votes.items)) servers)
      (sym (with_items_is d.servers given many)) go;
  majority = subst (λ (servers : List Server). length servers < 2 * live_in servers)
      (sym (with_items_is d.servers given many)) majority;
  committed = subst (λ (servers : List Server). AreCommittedByMost at.committed (sections_in servers))
      (sym (with_items_is d.servers given many)) committed;
  transferred = subst (λ (servers : List Server). AreTransferredIn p (sections_in servers))
      (sym (with_items_is d.servers given many)) transferred;
  undecided = subst (λ (servers : List Server). AreUndecided (sections_in servers))
      (sym (with_items_is d.servers given many)) undecided;
  spent = λ two.
      subst (λ (servers : List Server).
      MOST_BYTES ≤ room + states_len d.head.customers (states_in (sections_in servers)))
      (sym (with_items_is d.servers given many)) (spent two);
  votes = right;
}

-- the batches of a run's next window
pub window_due : (p : RunPlan) (d : RunState) (end : ℕ) → IsUnderWay p d → d.standing.opened ≡ 0
    → AreBatchesFrom p.batches (d.standing.committed + d.standing.opened)
    (map (λ m. batch m.batch) (take (end - d.standing.committed) (drop d.standing.committed d.batches.now)))
window_due p d end was none =
    let from = d.standing.committed in
    let many = end - from in
    let window = map (λ m. batch m.batch) (take many (drop from d.batches.now)) in
    let here : from ≡ from + d.standing.opened = omega arith in
    subst (λ (n : ℕ). AreBatchesFrom p.batches n window) here
    (subst (λ (bs : List Batch). AreBatchesFrom bs from window) (sym was.batches)
    (window_follows d.batches.now from many))

-- as many replicas are live as were more than half of all
pub still_majority : (d : RunState) (lent given : List Server) (count : ℕ) → lent ≡ d.servers.items
    → length given ≡ vec_len d.servers → live_in given ≡ count → length lent < 2 * count
    → length given < 2 * live_in given
still_majority d lent given count same many lives more =
    let lent_many : length lent ≡ vec_len d.servers = ap length same ∙ sym d.servers.ok.0 in
    omega arith
