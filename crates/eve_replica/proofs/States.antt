-- How many states replicas get by a transfer.
use Rattle.std.proofs.Common.{◌≡◌, ◌≢◌, ℕ, suc, ◌+◌, ◌-◌, ◌*◌, ◌≤◌, Bool, true, false, cond, List, [], ◌∷◌, ◌++◌}
use Rattle.std.proofs.Common.{length}
use Rattle.std.proofs.Common.{All, get_or, refl, sym, ap, ◌∙◌, arith}
use Rattle.std.proofs.Math.Nat.{add-mul, mul-le-mul_right}
use Rattle.std.proofs.lemmas.List.Sums.{sum_by-cons}
use Rattle.std.specs.List.{AllZip, flat_map}
use Rattle.eve_grammar.proofs.Scans.{text_length}
use Rattle.eve_grammar.specs.Frames.{OfTransfer}
use Rattle.eve_grammar.specs.Spelling.{frame_text, versioned_text}
use Rattle.eve_grammar.specs.Trace.{Transfer, Step, Attempts, Commits, RollsBack, Transfers}
use Rattle.eve_write.specs.Data.{section}
use Rattle.eve_replica.specs.declared.server.Server.{Server}
use Rattle.eve_replica.specs.Decisions.{is_some_of}
use Rattle.eve_replica.specs.inner.Commits.{CommitsOrWaits, TransfersOrStays}
use Rattle.eve_replica.specs.inner.RunInvariant.{Move, GoesOn, commit_move, count_with, next_token, sections_in}
use Rattle.eve_replica.specs.inner.RunInvariant.{states_len}
use Rattle.eve_replica.specs.Transfers.{states_along, states_in}
use Rattle.eve_replica.proofs.CommonCommits.{IsReady, went_on, waits_behind}
use Rattle.eve_replica.proofs.ReplicaLists.{AreAllOn, pairs_of}

-- ---- the bytes of their frames

pub state_frame_len : (x : Transfer) → length (frame_text (OfTransfer x)) ≡ 13 + 16 * length x.rows
state_frame_len x =
    let whole : length (frame_text (OfTransfer x))
    ≡ suc (suc
    (suc (suc (suc (suc (suc (suc (suc (suc (suc (suc (suc (length (flat_map versioned_text x.rows)))))))))))))) =
    refl in
    omega (arith, whole, text_length 16 versioned_text (λ v. refl) x.rows)

pub states_len_rises : (customers few many : ℕ) → few ≤ many → states_len customers few ≤ states_len customers many
states_len_rises customers few many le = mul-le-mul_right (13 + 16 * (2 * customers)) le

-- what is spent of a trace's room, for as many states more at least
pub room_spent : (customers room left states others all : ℕ) → room ≤ left + states_len customers others
    → states + others ≤ all → room + states_len customers states ≤ left + states_len customers all
room_spent customers room left states others all spent more =
    let rise = states_len_rises customers (states + others) all more in
    let both = add-mul states others (13 + 16 * (2 * customers)) in
    omega (arith, spent, rise, both)

-- ---- one section

pub states_append : (steps more : List Step) → states_along (steps ++ more) ≡ states_along steps + states_along more
states_append [] more = omega arith
states_append (Attempts a ∷ steps) more = states_append steps more
states_append (Commits c ∷ steps) more = states_append steps more
states_append (RollsBack r ∷ steps) more = states_append steps more
states_append (Transfers x ∷ steps) more = let rest = states_append steps more in omega arith

-- a replica that goes on keeps its states
kept : (m : Move) (old new : Server) → GoesOn m old new
    → states_along (section old.steps) ≤ states_along (section new.steps)
kept m old new goes =
    let added = ap states_along goes.added.1 in
    let parts = states_append (section old.steps) goes.added.0 in
    omega arith

-- ---- all sections

pub states_on : (m : Move) (was servers : List Server) → AreAllOn (GoesOn m) was servers
    → states_in (sections_in was) ≤ states_in (sections_in servers)
states_on m was servers on = by was servers (pairs_of (GoesOn m) was servers on)
  where
    by : (was servers : List Server) → AllZip (GoesOn m) was servers
        → states_in (sections_in was) ≤ states_in (sections_in servers)
    by [] [] pairs = omega arith
    by [] (s ∷ servers) pairs = absurd pairs
    by (w ∷ was) [] pairs = absurd pairs
    by (w ∷ was) (s ∷ servers) pairs =
        let one = kept m w s pairs.0 in
        let rest = by was servers pairs.1 in
        let left = sum_by-cons states_along (section w.steps) (sections_in was) in
        let right = sum_by-cons states_along (section s.steps) (sections_in servers) in
        omega arith

-- One with the token keeps its states, and each other has one transferred.
abbrev AddsState : List ℕ → Server → Server → Type 0
AddsState token old new =
    states_along (section old.steps) + cond (is_some_of token (next_token old)) 0 1 ≤ states_along (section new.steps)

one_added : (b : Bool) (many count a a' r r' : ℕ) → a + cond b 0 1 ≤ a' → r + (many - count) ≤ r'
    → (a + r) + ((1 + many) - (cond b 1 0 + count)) ≤ a' + r'
one_added true many count a a' r r' one rest = omega arith
one_added false many count a a' r r' one rest = omega arith

states_added : (token : List ℕ) (was servers : List Server) → AreAllOn (AddsState token) was servers
    → states_in (sections_in was) + (length was - count_with token was) ≤ states_in (sections_in servers)
states_added token was servers on = by was servers (pairs_of (AddsState token) was servers on)
  where
    by : (was servers : List Server) → AllZip (AddsState token) was servers
        → states_in (sections_in was) + (length was - count_with token was) ≤ states_in (sections_in servers)
    by [] [] pairs = omega arith
    by [] (s ∷ servers) pairs = absurd pairs
    by (w ∷ was) [] pairs = absurd pairs
    by (w ∷ was) (s ∷ servers) pairs =
        let has = is_some_of token (next_token w) in
        let both = one_added has (length was) (count_with token was) (states_along (section w.steps))
        (states_along (section s.steps)) (states_in (sections_in was)) (states_in (sections_in servers)) pairs.0
        (by was servers pairs.1) in
        let counted = sum_by-cons (λ (x : Server). cond (is_some_of token (next_token x)) 1 0) w was in
        let left = sum_by-cons states_along (section w.steps) (sections_in was) in
        let right = sum_by-cons states_along (section s.steps) (sections_in servers) in
        omega arith

-- ---- by a commit of version 2

adds_none : (b : Bool) → b ≡ true → Path ℕ (cond b 0 1) 0
adds_none true is = refl
adds_none false is = absurd (let e : false ≡ true = is in cc)

adds_one : (b : Bool) → b ≡ false → Path ℕ (cond b 0 1) 1
adds_one true is = absurd (let e : true ≡ false = is in cc)
adds_one false is = refl

settled_add : (token : List ℕ) (seq : ℕ) (x : Transfer) (old mid new : Server) → IsReady seq old → x.seq ≡ seq
    → CommitsOrWaits token old mid → TransfersOrStays token x mid new → AddsState token old new
settled_add token seq x old mid new is number waits takes = by (is_some_of token (next_token old)) refl
  where
    by : (b : Bool) → is_some_of token (next_token old) ≡ b → AddsState token old new
    by true has =
        let goes = waits.on has in
        let reached = (went_on token seq old mid is goes).0 in
        let stays = ap (λ (s : Server). states_along (section s.steps)) (takes.stays (reached ∙ sym number)) in
        let one = kept (commit_move token) old mid goes in
        let none = adds_none (is_some_of token (next_token old)) has in
        omega (arith, one, stays, none)
    by false lacks =
        let same = waits.waits lacks in
        let behind = waits_behind seq old mid is same in
        let apart : mid.replica.ledger.committed ≢ x.seq = λ reached. behind (reached ∙ number) in
        let added = ap states_along (takes.transferred apart) in
        let parts = states_append (section mid.steps) (Transfers x ∷ []) in
        let before = ap (λ (s : Server). states_along (section s.steps)) same in
        let added_one = adds_one (is_some_of token (next_token old)) lacks in
        omega (arith, added, parts, before, added_one)

-- all of them
pub states_settled : (token : List ℕ) (seq : ℕ) (x : Transfer) (was mids servers : List Server)
    → All (IsReady seq) was → x.seq ≡ seq → AreAllOn (CommitsOrWaits token) was mids
    → AreAllOn (TransfersOrStays token x) mids servers
    → states_in (sections_in was) + (length was - count_with token was) ≤ states_in (sections_in servers)
states_settled token seq x was mids servers are number waits takes =
    states_added token was servers
    (record {
      many = takes.many ∙ waits.many;
      each = λ k d there.
          settled_add token seq x (get_or was k d) (get_or mids k d) (get_or servers k d)
          (are k d (omega (arith, takes.many, waits.many))) number (waits.each k d (omega (arith, takes.many)))
          (takes.each k d there);
    })
