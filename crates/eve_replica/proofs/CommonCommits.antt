-- Replicas commit a batch together, and in version 2 those that don't have it transferred.
use Rattle.std.proofs.Common.{◌≡◌, ◌≢◌, ◌⊎◌, ℕ, zero, suc, ◌+◌, ◌*◌, ◌<◌, Bool, true, false, List, []}
use Rattle.std.proofs.Common.{◌∷◌, ◌++◌, All, IsTrue}
use Rattle.std.proofs.Common.{length, get_or, refl, sym, ap, ◌∙◌, subst, inl, inr, arith}
use Rattle.std.specs.Prelude.{IsFalse}
use Rattle.std.specs.List.{AllByRecursion, AllZip, Any}
use Rattle.std.proofs.lemmas.List.{map-append, get_or_default}
use Rattle.std.proofs.lemmas.List.Elements.{recursion_from_All}
use Rattle.eve_grammar.specs.Limits.{is_transfer}
use Rattle.eve_grammar.specs.Trace.{Transfer, Step, Transfers, Vote}
use Rattle.eve_write.specs.Data.{section}
use Rattle.eve_replica.specs.declared.server.Server.{Server}
use Rattle.eve_replica.specs.declared.standing.Standing.{Standing}
use Rattle.eve_replica.specs.Decisions.{is_some_of}
use Rattle.eve_replica.specs.Sections.{RunPlan, GoesThrough}
use Rattle.eve_replica.specs.Transfers.{commits_batch, IsTransferredFrom, AreTransferredIn}
use Rattle.eve_replica.specs.inner.RunInvariant.{Serves, GoesOn, CommitsNext, IsLeft, commit_move, next_token}
use Rattle.eve_replica.specs.inner.RunInvariant.{count_with, live_in, sections_in, IsLentBy}
use Rattle.eve_replica.specs.inner.Commits.{AwaitNext, CommitsOrWaits, IsLentByFirst, MayTransferOrStay}
use Rattle.eve_replica.specs.inner.Commits.{ReachBatch, TransfersOrStays}
use Rattle.eve_replica.proofs.MostReplicas.{commits_now, still_none, one_more_by_most}
use Rattle.eve_replica.proofs.TokenCounts.{passes}
use Rattle.eve_replica.proofs.ReplicaLists.{AreAllOn, pairs_of}
use Rattle.eve_replica.proofs.Moves.{live_on, open_there, serve_on}
use Rattle.eve_replica.proofs.Steps.{live_with}
use Rattle.eve_replica.proofs.TransferredStates.{GrowsRightly, IsParted, parted, all_grown, grows_by_commit}
use Rattle.eve_replica.proofs.TransferredStates.{grows_by_state}
use Rattle.eve_replica.proofs.TransferredStates.{grows_not, not_yet, served_to}
use Rattle.eve_replica.proofs.UndecidedBatches.{still_undecided}
use Rattle.eve_replica.proofs.Windows.{window_committed}

-- what a commit adds commits the batch
pub commits_that : (seq : ℕ) (old new : Server) → CommitsNext old new → seq ≡ old.replica.ledger.committed + 1
    → commits_batch seq (section new.steps) ≡ true
commits_that seq old new next due =
    let own = next.seq in
    subst (λ (ss : List Step). commits_batch seq ss ≡ true) (sym next.added)
    (commits_now seq (section old.steps) next.commit (omega arith))

-- a live replica commits the batch that is next where all stand
all_commit : (p : RunPlan) (at : Standing) (votes : List Vote) (token : List ℕ) (seq : ℕ)
    (was servers : List Server)
    → All (Serves p at votes) was → seq ≡ at.committed + 1
    → AreAllOn (λ old new. is_some_of token (next_token old) ≡ true → CommitsNext old new) was servers
    → AreAllOn (λ old new. is_some_of token (next_token old) ≡ true → commits_batch seq (section new.steps) ≡ true) was
    servers
all_commit p at votes token seq was servers serve due on = record {
  many = on.many;
  each = λ k d there has.
      let old = get_or was k d in
      let here = ap (λ (x : Standing). x.committed)
      ((serve k d (omega (arith, on.many))).live (live_with token old has)) in
      commits_that seq old (get_or servers k d) (on.each k d there has) (omega (arith, here, due));
}

-- ---- version 1

-- with the token it commits the next batch, and without it stops
pub record CommitsOrStops (token : List ℕ) (old new : Server) : Type 0 where
  pub on : GoesOn (commit_move token) old new
  pub live : new.is_live ≡ is_some_of token (next_token old)
  pub commits : is_some_of token (next_token old) ≡ true → CommitsNext old new
  pub stays : is_some_of token (next_token old) ≡ false → section new.steps ≡ section old.steps

grows_or_not : (p : RunPlan) (at : Standing) (votes : List Vote) (token : List ℕ) (now : List (List Step))
    (old new : Server) (b : Bool) → is_some_of token (next_token old) ≡ b → Serves p at votes old
    → CommitsOrStops token old new → GrowsRightly p now at.committed (section old.steps) (section new.steps)
grows_or_not p at votes token now old new true has serves made =
    grows_by_commit p at votes now old new (live_with token old has) serves (made.commits has)
grows_or_not p at votes token now old new false none serves made =
    grows_not p at votes now old new serves (made.stays none)

pub commit_grows : (p : RunPlan) (at : Standing) (votes : List Vote) (token : List ℕ) (was servers : List Server)
    → All (Serves p at votes) was → AreAllOn (CommitsOrStops token) was servers → AreTransferredIn p (sections_in was)
    → AreTransferredIn p (sections_in servers)
commit_grows p at votes token was servers serve on right =
    all_grown p at.committed was servers
    (record {
      many = on.many;
      each = λ k d there.
          let old = get_or was k d in
          grows_or_not p at votes token (sections_in servers) old (get_or servers k d)
          (is_some_of token (next_token old)) refl (serve k d (omega (arith, on.many))) (on.each k d there);
    }) right

-- ---- version 2

-- a live replica of version 2, for which the batch with this number is next
pub record IsReady (seq : ℕ) (s : Server) : Type 0 where
  pub version : s.replica.ledger.version ≡ 2
  pub live : s.is_live ≡ true
  pub next : seq ≡ s.replica.ledger.committed + 1

ready : (p : RunPlan) (at : Standing) (votes : List Vote) (seq : ℕ) (s : Server) → p.first.version ≡ 2
    → seq ≡ at.committed + 1 → Serves p at votes s → IsReady seq s
ready p at votes seq s two due serves =
    let live = serves.stays_live two in
    let here = ap (λ (x : Standing). x.committed) (serves.live live) in
    record { version = serves.version ∙ two; live = live; next = omega (arith, here, due) }

pub all_ready : {many : ℕ} (seq : ℕ) (servers : List Server) → AwaitNext 2 many seq servers
    → All (IsReady seq) servers
all_ready seq servers r =
    λ k d there. ready r.plan r.at r.votes seq (get_or servers k d) r.version r.next (r.serve k d there)

-- one that went on by the commit has committed the batch, and is live in the same view
pub went_on : (token : List ℕ) (seq : ℕ) (old new : Server) → IsReady seq old → GoesOn (commit_move token) old new
    → (new.replica.ledger.committed ≡ seq) × (new.replica.ledger.view ≡ old.replica.ledger.view) × (new.is_live ≡ true)
went_on token seq old new is goes =
    let live = goes.stays_live is.version is.live in
    let stands = (goes.live live).1 in
    let number = ap (λ (x : Standing). x.committed) stands in
    (omega (arith, number, is.next), ap (λ (x : Standing). x.view) stands, live)

-- one that waits has not
pub waits_behind : (seq : ℕ) (old mid : Server) → IsReady seq old → mid ≡ old → mid.replica.ledger.committed ≢ seq
waits_behind seq old mid is same = λ reached.
    let here = ap (λ (s : Server). s.replica.ledger.committed) same in
    let next = is.next in
    omega arith

-- It committed the batch and stayed so,
pub record Committed (token : List ℕ) (seq : ℕ) (old mid new : Server) : Type 0 where
  pub on : GoesOn (commit_move token) old mid
  pub next : CommitsNext old mid
  pub same : new ≡ mid
  pub reached : mid.replica.ledger.committed ≡ seq

-- or it waited and had the state transferred.
pub record Transferred (token : List ℕ) (x : Transfer) (seq : ℕ) (old mid new : Server) : Type 0 where
  pub same : mid ≡ old
  pub behind : mid.replica.ledger.committed ≢ seq
  pub on : GoesOn (commit_move token) old new
  pub transferred : section new.steps ≡ section old.steps ++ Transfers x ∷ []

pub settled : (token : List ℕ) (seq : ℕ) (x : Transfer) (old mid new : Server) → IsReady seq old → x.seq ≡ seq
    → CommitsOrWaits token old mid → TransfersOrStays token x mid new
    → Committed token seq old mid new ⊎ Transferred token x seq old mid new
settled token seq x old mid new is number waits takes = by (is_some_of token (next_token old)) refl
  where
    by : (b : Bool) → is_some_of token (next_token old) ≡ b
        → Committed token seq old mid new ⊎ Transferred token x seq old mid new
    by true has =
        let goes = waits.on has in
        let reached = (went_on token seq old mid is goes).0 in
        inl (record {
          on = goes;
          next = waits.commits has;
          same = takes.stays (reached ∙ sym number);
          reached = reached;
        })
    by false none =
        let same = waits.waits none in
        let behind = waits_behind seq old mid is same in
        let apart : mid.replica.ledger.committed ≢ x.seq = λ reached. behind (reached ∙ number) in
        inr (record {
          same = same;
          behind = behind;
          on = subst (λ (s : Server). GoesOn (commit_move token) s new) same (takes.on apart);
          transferred = takes.transferred apart ∙ ap (λ (s : Server). section s.steps ++ Transfers x ∷ []) same;
        })

-- Either way it went on by the commit.
settled_on : (token : List ℕ) (x : Transfer) (seq : ℕ) (old mid new : Server)
    → Committed token seq old mid new ⊎ Transferred token x seq old mid new → GoesOn (commit_move token) old new
settled_on token x seq old mid new (inl made) =
    subst (λ (s : Server). GoesOn (commit_move token) old s) (sym made.same) made.on
settled_on token x seq old mid new (inr transferred) = transferred.on

-- How all of them come by a commit: each went on, and those with the token committed.
pub record CameBy (token : List ℕ) (was servers : List Server) : Type 0 where
  pub on : AreAllOn (GoesOn (commit_move token)) was servers
  pub commits : AreAllOn (λ old new. is_some_of token (next_token old) ≡ true → CommitsNext old new) was servers

-- As many are live.
live_by : (token : List ℕ) (seq : ℕ) (was servers : List Server) → All (IsReady seq) was
    → CameBy token was servers → live_in servers ≡ live_in was
live_by token seq was servers are came =
    live_on (λ s. s.is_live) was servers
    (record {
      many = came.on.many;
      each = λ k d there.
          let is = are k d (omega (arith, came.on.many)) in
          (went_on token seq (get_or was k d) (get_or servers k d) is (came.on.each k d there)).2 ∙ sym is.live;
    })

-- ---- where some get by a transfer

pub some_came : (token : List ℕ) (seq : ℕ) (x : Transfer) (was mids servers : List Server) → All (IsReady seq) was
    → x.seq ≡ seq → AreAllOn (CommitsOrWaits token) was mids → AreAllOn (TransfersOrStays token x) mids servers
    → CameBy token was servers
some_came token seq x was mids servers are number waits takes = record {
  on = record {
    many = takes.many ∙ waits.many;
    each = λ k d there.
        settled_on token x seq (get_or was k d) (get_or mids k d) (get_or servers k d)
        (settled token seq x (get_or was k d) (get_or mids k d) (get_or servers k d)
        (are k d (omega (arith, takes.many, waits.many))) number (waits.each k d (omega (arith, takes.many)))
        (takes.each k d there));
  };
  commits = record {
    many = takes.many ∙ waits.many;
    each = λ k d there has.
        let middle = waits.each k d (omega (arith, takes.many)) in
        let reached = (went_on token seq (get_or was k d) (get_or mids k d)
        (are k d (omega (arith, takes.many, waits.many))) (middle.on has)).0 in
        subst (λ (s : Server). CommitsNext (get_or was k d) s)
        (sym ((takes.each k d there).stays (reached ∙ sym number))) (middle.commits has);
  };
}

-- Where one came from: it served, and the batch was its next.
record Came (p : RunPlan) (at : Standing) (votes : List Vote) (token : List ℕ) (seq : ℕ) (x : Transfer)
    (mid new : Server) : Type 0 where
  pub old : Server
  pub serves : Serves p at votes old
  pub is : IsReady seq old
  pub how : Committed token seq old mid new ⊎ Transferred token x seq old mid new

none_before : (p : RunPlan) (at : Standing) (votes : List Vote) (token : List ℕ) (seq : ℕ) (x : Transfer)
    → x.seq ≡ seq → (mids servers : List Server) → AllZip (Came p at votes token seq x) mids servers
    → AllByRecursion (λ s. s.replica.ledger.committed ≢ seq) mids
    → AllByRecursion (λ steps. IsFalse (commits_batch x.seq steps)) (sections_in servers)
none_before p at votes token seq x number [] [] came behind = tt
none_before p at votes token seq x number [] (s ∷ servers) came behind = absurd came
none_before p at votes token seq x number (m ∷ mids) [] came behind = absurd came
none_before p at votes token seq x number (m ∷ mids) (s ∷ servers) came behind =
    (one came.0.how, none_before p at votes token seq x number mids servers came.1 behind.1)
  where
    one : Committed token seq came.0.old m s ⊎ Transferred token x seq came.0.old m s
        → commits_batch x.seq (section s.steps) ≡ false
    one (inl made) = absurd (behind.0 made.reached)
    one (inr transferred) =
        let old = came.0.old in
        let here = ap (λ (y : Standing). y.committed) (came.0.serves.live came.0.is.live) in
        let next = came.0.is.next in
        subst (λ (ss : List Step). commits_batch x.seq ss ≡ false) (sym transferred.transferred)
        (still_none x.seq (section old.steps) (Transfers x ∷ [])
        (not_yet at.committed x.seq (section old.steps) (served_to p at votes old came.0.serves)
        (omega (arith, here, next, number))) refl)

-- The state that the first of them lends is what it then had committed.
pub lent_transferred : (p : RunPlan) (at : Standing) (votes : List Vote) (token : List ℕ) (seq : ℕ) (x : Transfer)
    (was mids servers : List Server) → IsLeft p.batches at → All (Serves p at votes) was → All (IsReady seq) was
    → x.seq ≡ seq → AreAllOn (CommitsOrWaits token) was mids → AreAllOn (TransfersOrStays token x) mids servers
    → IsLentByFirst seq mids x → IsTransferredFrom p (sections_in servers) x
lent_transferred p at votes token seq x was mids servers left serve are number waits takes lent = found part.here.how
  where
    came : AreAllOn (Came p at votes token seq x) mids servers
    came = record {
      many = takes.many;
      each = λ k d there.
          let is = are k d (omega (arith, takes.many, waits.many)) in
          record {
            old = get_or was k d;
            serves = serve k d (omega (arith, takes.many, waits.many));
            is = is;
            how = settled token seq x (get_or was k d) (get_or mids k d) (get_or servers k d) is number
                (waits.each k d (omega (arith, takes.many))) (takes.each k d there);
          };
    }

    part : IsParted (Came p at votes token seq x) lent.before lent.source servers
    part =
        parted (Came p at votes token seq x) lent.before lent.source lent.after servers
        (subst (λ (ms : List Server). AllZip (Came p at votes token seq x) ms servers) lent.place
        (pairs_of (Came p at votes token seq x) mids servers came))

    found : Committed token seq part.here.old lent.source part.is
        ⊎ Transferred token x seq part.here.old lent.source part.is → IsTransferredFrom p (sections_in servers) x
    found (inr transferred) = absurd (transferred.behind lent.committed)
    found (inl made) =
        let old = part.here.old in
        let serves = part.here.serves in
        let is = part.here.is in
        record {
          below = sections_in part.first;
          above = sections_in part.last;
          prefix = section old.steps;
          commit = made.next.commit;
          rest = [];
          source = ap sections_in part.place
              ∙ map-append (λ (s : Server). section s.steps) part.first (part.is ∷ part.last)
              ∙ ap (λ (ss : List Step). sections_in part.first ++ ss ∷ sections_in part.last)
              (ap (λ (s : Server). section s.steps) made.same ∙ made.next.added);
          lowest = none_before p at votes token seq x number lent.before part.first part.pairs lent.lowest;
          seq = let own = made.next.seq in let next = is.next in omega (arith, own, next, number);
          view = made.next.view serves.of_view ∙ sym (went_on token seq old lent.source is made.on).1
              ∙ sym lent.lent.view;
          ledger = lent.source.replica.ledger;
          through = subst (λ (ss : List Step). GoesThrough p ss p.first lent.source.replica.ledger) made.next.added
              (made.on.through p serves.names (λ live k below. absurd (omega arith))
              (λ live. subst (λ (y : Standing). IsLeft p.batches y) (sym (serves.live live)) left) serves.through);
          rows = lent.lent.rows;
        }

-- and so what all of them have transferred is right, where it is what was committed wherever one waits
some_came_transferred : (p : RunPlan) (at : Standing) (votes : List Vote) (token : List ℕ) (seq : ℕ) (x : Transfer)
    (was mids servers : List Server) → All (Serves p at votes) was → All (IsReady seq) was → x.seq ≡ seq
    → AreAllOn (CommitsOrWaits token) was mids → AreAllOn (TransfersOrStays token x) mids servers
    → All (λ s. s.replica.ledger.committed ≢ seq → IsTransferredFrom p (sections_in servers) x) mids
    → AreTransferredIn p (sections_in was) → AreTransferredIn p (sections_in servers)
some_came_transferred p at votes token seq x was mids servers serve are number waits takes lent right =
    all_grown p at.committed was servers
    (record {
      many = takes.many ∙ waits.many;
      each = λ k d there.
          let old = get_or was k d in
          let is = are k d (omega (arith, takes.many, waits.many)) in
          grown old (get_or mids k d) (get_or servers k d) (lent k d (omega (arith, takes.many))) is
          (serve k d (omega (arith, takes.many, waits.many)))
          (settled token seq x old (get_or mids k d) (get_or servers k d) is number
          (waits.each k d (omega (arith, takes.many))) (takes.each k d there));
    }) right
  where
    grown : (old mid new : Server)
        → (mid.replica.ledger.committed ≢ seq → IsTransferredFrom p (sections_in servers) x)
        → IsReady seq old → Serves p at votes old
        → Committed token seq old mid new ⊎ Transferred token x seq old mid new
        → GrowsRightly p (sections_in servers) at.committed (section old.steps) (section new.steps)
    grown old mid new now is serves (inl made) =
        grows_by_commit p at votes (sections_in servers) old new is.live serves
        (subst (λ (s : Server). CommitsNext old s) (sym made.same) made.next)
    grown old mid new now is serves (inr transferred) =
        grows_by_state p at votes (sections_in servers) x old new serves transferred.transferred
        (now transferred.behind)

-- ---- what all come to

-- Replicas that came by a commit reached the batch.
pub reached_by : (format many seq : ℕ) (token : List ℕ) (was servers : List Server) → AwaitNext format many seq was
    → length was < 2 * count_with token was → CameBy token was servers
    → (length was < 2 * live_in was → length servers < 2 * live_in servers)
    → ((p : RunPlan) (at : Standing) (votes : List Vote) → All (Serves p at votes) was → IsLeft p.batches at
    → AreTransferredIn p (sections_in was) → AreTransferredIn p (sections_in servers))
    → ReachBatch seq token was servers
reached_by format many seq token was servers r most came majority transferred = record {
  serve = λ p at votes serve left.
      serve_on p at votes (commit_move token) was servers
      (λ more. absurd (omega arith), λ k below. absurd (omega arith)) left
      (λ k d there live. window_committed p at token
      (open_there r.plan p r.at at r.votes votes (get_or was k d) (r.serve k d there) (serve k d there) live r.awaits))
      came.on serve;
  majority = majority;
  committed = one_more_by_most seq (commit_move token) (λ s. is_some_of token (next_token s)) was servers came.on
      (all_commit r.plan r.at r.votes token seq was servers r.serve r.next came.commits) most;
  transferred = transferred;
  undecided = still_undecided (GoesOn (commit_move token)) was servers came.on
      (λ view old new goes. goes.given_up view (λ enters. omega arith));
}

-- So did those of version 2, where all committed it, or the state that the others got is what the first committed.
pub reached_or_lent : (many seq : ℕ) (token : List ℕ) (x : Transfer) (was mids servers : List Server)
    → AwaitNext 2 many seq was → length was < 2 * count_with token was → x.seq ≡ seq
    → AreAllOn (CommitsOrWaits token) was mids → AreAllOn (TransfersOrStays token x) mids servers
    → All (λ s. s.replica.ledger.committed ≡ seq) mids ⊎ IsLentByFirst seq mids x → ReachBatch seq token was servers
reached_or_lent many seq token x was mids servers r most number waits takes source =
    reached_by 2 many seq token was servers r most came
    (λ majority. let live = live_by token seq was servers are came in omega (arith, majority, came.on.many, live))
    (λ p at votes serve left.
    some_came_transferred p at votes token seq x was mids servers serve are number waits takes
    (given p at votes serve left source))
  where
    are : All (IsReady seq) was
    are = all_ready seq was r

    came : CameBy token was servers
    came = some_came token seq x was mids servers are number waits takes

    given : (p : RunPlan) (at : Standing) (votes : List Vote) → All (Serves p at votes) was → IsLeft p.batches at
        → All (λ s. s.replica.ledger.committed ≡ seq) mids ⊎ IsLentByFirst seq mids x
        → All (λ s. s.replica.ledger.committed ≢ seq → IsTransferredFrom p (sections_in servers) x) mids
    given p at votes serve left (inl reached) = λ k d there behind. absurd (behind (reached k d there))
    given p at votes serve left (inr lent) = λ k d there behind.
        lent_transferred p at votes token seq x was mids servers left serve are number waits takes lent

-- where each has committed the batch, each stays, whatever state of it
pub stay_all : (token : List ℕ) (x : Transfer) (mids : List Server) → All (λ s. s.replica.ledger.committed ≡ x.seq) mids
    → AreAllOn (TransfersOrStays token x) mids mids
stay_all token x mids reached = record {
  many = refl;
  each = λ k d there. record {
    stays = λ same. refl;
    on = λ behind. absurd (behind (reached k d there));
    transferred = λ behind. absurd (behind (reached k d there));
  };
}

-- ---- what is asked on the way

-- by whatever token others committed
abbrev pub TransfersWhatever : Transfer → Server → Server → Type 0
TransfersWhatever x old new = (token : List ℕ) → TransfersOrStays token x old new

-- what stands before one at its place
record IsFirstSo (P : Server → Type 0) (servers : List Server) (one : Server) : Type 0 where
  before : List Server
  after : List Server
  place : servers ≡ before ++ one ∷ after
  so : AllByRecursion P before

first_so : (P : Server → Type 0) (servers : List Server) (k : ℕ) (s : Server) → k < length servers
    → s ≡ get_or servers k s → ((i : ℕ) → i < k → (d : Server) → P (get_or servers i d)) → IsFirstSo P servers s
first_so P [] k s there is so = absurd (omega arith)
first_so P (t ∷ servers) zero s there is so =
    record { before = []; after = servers; place = ap (λ (y : Server). y ∷ servers) (sym is); so = tt }
first_so P (t ∷ servers) (suc k) s there is so =
    let rest = first_so P servers k s (omega arith) is (λ i below d. so (suc i) (omega arith) d) in
    record {
      before = t ∷ rest.before;
      after = rest.after;
      place = ap (λ (ts : List Server). t ∷ ts) rest.place;
      so = (so 0 (omega arith) t, rest.so);
    }

-- the first that committed the batch lends the state
pub lent_by_first : (seq : ℕ) (servers : List Server) (k : ℕ) (s : Server) (x : Transfer) → k < length servers
    → s ≡ get_or servers k s
    → ((i : ℕ) → i < k → (d : Server) → (get_or servers i d).replica.ledger.committed ≢ seq)
    → s.replica.ledger.committed ≡ seq → IsLentBy s x → IsLentByFirst seq servers x
lent_by_first seq servers k s x there is none reached lent =
    let first = first_so (λ (t : Server). t.replica.ledger.committed ≢ seq) servers k s there is none in
    record {
      before = first.before;
      source = s;
      after = first.after;
      place = first.place;
      lowest = first.so;
      committed = reached;
      lent = lent;
    }

-- where some has committed it, it isn't so that none has
pub not_none : (seq : ℕ) (servers : List Server) → Any (λ s. s.replica.ledger.committed ≡ seq) servers
    → ((k : ℕ) → k < length servers → (d : Server) → (get_or servers k d).replica.ledger.committed ≢ seq) → ⊥
not_none seq servers any none =
    none any.0 any.2 any.1 (ap (λ (s : Server). s.replica.ledger.committed) any.3 ∙ any.4)

-- some replica has committed a batch that is decided
pub any_committed : (token : List ℕ) (seq : ℕ) (was mids : List Server) → length was < 2 * count_with token was
    → All (IsReady seq) was → AreAllOn (CommitsOrWaits token) was mids
    → Any (λ s. s.replica.ledger.committed ≡ seq) mids
any_committed token seq was mids most are waits =
    let r = passes (λ s. is_some_of token (next_token s)) was (omega arith) in
    let there : r.0 < length mids = omega (arith, r.2, waits.many) in
    let d = get_or mids r.0 r.1 in
    let middle = waits.each r.0 r.1 there in (
      r.0,
      d,
      there,
      get_or_default mids r.0 d r.1 there,
      (went_on token seq (get_or was r.0 r.1) d (are r.0 r.1 r.2) (middle.on (r.3 r.1))).0,
    )

-- the one at a place
one_there : (P : Server → Type 0) (before : List Server) (one : Server) (after : List Server)
    → AllByRecursion P (before ++ one ∷ after) → P one
one_there P [] one after all = all.0
one_there P (s ∷ before) one after all = one_there P before one after all.1

-- all are in the view in which they stood
same_views : (p : RunPlan) (at : Standing) (votes : List Vote) (token : List ℕ) (seq : ℕ) (was mids : List Server)
    → All (Serves p at votes) was → All (IsReady seq) was → AreAllOn (CommitsOrWaits token) was mids
    → All (λ s. s.replica.ledger.view ≡ at.view) mids
same_views p at votes token seq was mids serve are waits = λ k d there.
    let old = get_or was k d in
    let is = are k d (omega (arith, waits.many)) in
    let stood = ap (λ (y : Standing). y.view) ((serve k d (omega (arith, waits.many))).live is.live) in
    by old (get_or mids k d) is (waits.each k d there) (is_some_of token (next_token old)) refl ∙ stood
  where
    by : (old mid : Server) → IsReady seq old → CommitsOrWaits token old mid → (b : Bool)
        → is_some_of token (next_token old) ≡ b → mid.replica.ledger.view ≡ old.replica.ledger.view
    by old mid is made true has = (went_on token seq old mid is (made.on has)).1
    by old mid is made false none = ap (λ (s : Server). s.replica.ledger.view) (made.waits none)

-- the state of the first that committed may be transferred by those that didn't
pub may_all : (p : RunPlan) (at : Standing) (votes : List Vote) (token : List ℕ) (seq : ℕ) (x : Transfer)
    (was mids : List Server) → All (Serves p at votes) was → All (IsReady seq) was → 0 < at.opened
    → IsTrue (is_transfer (2 * length p.names) x) → AreAllOn (CommitsOrWaits token) was mids → IsLentByFirst seq mids x
    → All (MayTransferOrStay x) mids
may_all p at votes token seq x was mids serve are some right waits lent = λ k d there.
    let old = get_or was k d in
    may old (get_or mids k d) (are k d (omega (arith, waits.many))) (serve k d (omega (arith, waits.many)))
    (waits.each k d there) (views k d there) (is_some_of token (next_token old)) refl
  where
    views : All (λ s. s.replica.ledger.view ≡ at.view) mids
    views = same_views p at votes token seq was mids serve are waits

    source_view : lent.source.replica.ledger.view ≡ at.view
    source_view =
        one_there (λ s. s.replica.ledger.view ≡ at.view) lent.before lent.source lent.after
        (subst (λ (ms : List Server). AllByRecursion (λ s. s.replica.ledger.view ≡ at.view) ms) lent.place
        (recursion_from_All (λ s. s.replica.ledger.view ≡ at.view) mids views))

    number : x.seq ≡ seq
    number = lent.lent.seq ∙ lent.committed

    may : (old mid : Server) → IsReady seq old → Serves p at votes old → CommitsOrWaits token old mid
        → mid.replica.ledger.view ≡ at.view → (b : Bool) → is_some_of token (next_token old) ≡ b
        → MayTransferOrStay x mid
    may old mid is serves made view true has =
        let goes = made.on has in
        let on = went_on token seq old mid is goes in
        record {
          whole = goes.whole serves.whole;
          live = on.2;
          right = subst (λ (n : ℕ). IsTrue (is_transfer n x)) (sym (goes.rows ∙ serves.rows)) right;
          next = λ behind. absurd (behind (on.0 ∙ sym number));
        }
    may old mid is serves made view false none =
        let same = made.waits none in
        subst (MayTransferOrStay x) (sym same)
        (record {
          whole = serves.whole;
          live = is.live;
          right = subst (λ (n : ℕ). IsTrue (is_transfer n x)) (sym serves.rows) right;
          next = λ behind. record {
            version = is.version;
            missing = serves.missing;
            awaits = let opened = ap (λ (y : Standing). y.opened) (serves.live is.live) in omega (arith, opened, some);
            next = number ∙ is.next;
            view = lent.lent.view ∙ source_view ∙ sym (ap (λ (y : Standing). y.view) (serves.live is.live));
          };
        })
