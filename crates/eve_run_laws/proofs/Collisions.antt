-- Two outcomes that differ and have one token: of the messages that are hashed for them two are a collision of SHA-256.
use Rattle.std.proofs.Common.{◌≡◌, ◌≢◌, ℕ, ℤ, zero, suc, ◌≤◌, ◌⊎◌, inl, inr, Bool, eqb, List, [], ◌∷◌, ◌++◌, length}
use Rattle.std.proofs.Common.{codes, Some, refl, sym, ap, ◌∙◌, length-append, arith}
use Rattle.std.specs.Prelude.{IsTrue}
use Rattle.std.specs.List.{list_all, flat_map}
use Rattle.std.specs.Option.{option_map}
use Rattle.std.proofs.lemmas.Bool.{eq-eqb, and_from}
use Rattle.std.proofs.lemmas.List.{append_cancel_left}
use Rattle.byteorder.specs.Endian.{big_bytes}
use Rattle.sha2.specs.Sha256.{sha256}
use Rattle.eve_accounts.specs.Money.{is_balance}
use Rattle.eve_smallbank.specs.Spelling.{money_text, reply_text}
use Rattle.eve_smallbank.specs.declared.request.Reply.{Reply}
use Rattle.eve_grammar.specs.Trace.{Trace, head_of}
use Rattle.eve_grammar.specs.declared.limits.TheConstants.{NEWEST_VERSION}
use Rattle.eve_grammar.specs.Limits.{is_number, is_reply, HasLimits}
use Rattle.eve_grammar.specs.Readers.{Reader, many_at, balance_at, reply_at}
use Rattle.eve_grammar.proofs.Codec.{Codec, Codec-many, are_many, are_many_of, some_is}
use Rattle.eve_grammar.proofs.FieldCodecs.{Codec-balance}
use Rattle.eve_grammar.proofs.PartCodecs.{Codec-reply, reply_length}
use Rattle.eve_grammar.proofs.HeadLimits.{head_has_limits}
use Rattle.eve_token.specs.Token.{flat_token, token_from_root, token_of, rows_root, replies_root}
use Rattle.eve_history.specs.Section.{Placed}
use Rattle.eve_history.specs.SectionHistory.{committed_at, IsRightSection}
use Rattle.eve_chains.specs.Committed.{balances_to}
use Rattle.eve_chains.proofs.LinkedPaths.{committed_number}
use Rattle.eve_agree.specs.Agreement.{HaveSameOutcome}
use Rattle.eve_agree.specs.DueTokens.{TokensAreDue}
use Rattle.eve_run_laws.specs.Hashed.{flat_message, roots_message, IsHashedFor, OfAll, OfRoots, OfRows, OfReplies}
use Rattle.eve_run_laws.specs.Collision.{IsCollision, Collides}
use Rattle.eve_run_laws.proofs.Ranges.{balances_within, replies_within, balances_count}
use Rattle.eve_run_laws.proofs.HashedBytes.{big_bytes_below, joined_below, money_below, reply_below, flat_below}
use Rattle.eve_run_laws.proofs.TreesApart.{same_or_other, same_halves, AreTreesApart, AreLeafTexts, trees_apart}
use Rattle.eve_run_laws.proofs.TreesApart.{roots_long, roots_below}
use Rattle.eve_run_laws.proofs.RepliesCounted.{replies_counted}

-- ---- what is spelled is read in one way

-- where the same bytes begin with the texts of two values, those are one value, and the same bytes follow
read_once : {A : Type 0} (text : A → List ℕ) (test : A → Bool) (read : Reader A) → Codec text test read
    → (x y : A) (rest other : List ℕ) → IsTrue (test x) → IsTrue (test y) → text x ++ rest ≡ text y ++ other
    → (x ≡ y) × (rest ≡ other)
read_once {A = A} text test read one x y rest other fits fits_too same =
    let first : A × List ℕ = (x, rest) in
    let second : A × List ℕ = (y, other) in
    let both : first ≡ second = some_is first second
    (sym (one.again x rest fits) ∙ ap read same ∙ one.again y other fits_too) in
    (ap (λ (p : A × List ℕ). p.0) both, ap (λ (p : A × List ℕ). p.1) both)

-- the same of a text alone
told_apart : {A : Type 0} (text : A → List ℕ) (test : A → Bool) (read : Reader A) → Codec text test read
    → (x y : A) → IsTrue (test x) → IsTrue (test y) → text x ≡ text y → x ≡ y
told_apart text test read one x y fits fits_too same =
    (read_once text test read one x y [] [] fits fits_too (ap (λ (s : List ℕ). s ++ []) same)).0

-- the same of equally many values
read_many : {A : Type 0} (text : A → List ℕ) (test : A → Bool) (read : Reader A) → Codec text test read
    → (xs ys : List A) (rest other : List ℕ) → length xs ≡ length ys → IsTrue (list_all test xs)
    → IsTrue (list_all test ys) → flat_map text xs ++ rest ≡ flat_map text ys ++ other → (xs ≡ ys) × (rest ≡ other)
read_many text test read one xs ys rest other long fits fits_too same =
    read_once (flat_map text) (are_many test (length ys)) (many_at read (length ys))
    (Codec-many text test read one (length ys)) xs ys rest other
    (and_from (eqb (length xs) (length ys)) (list_all test xs) (eq-eqb (length xs) (length ys) long) fits)
    (are_many_of test ys fits_too) same

-- ---- balances and replies as leaves

money_leaves : AreLeafTexts money_text 8 is_balance
money_leaves = record {
  long = λ z. refl;
  bytes = money_below;
  once = told_apart money_text is_balance balance_at Codec-balance;
}

reply_leaves : AreLeafTexts reply_text 9 is_reply
reply_leaves = record {
  long = reply_length;
  bytes = reply_below;
  once = told_apart reply_text is_reply reply_at Codec-reply;
}

-- texts of one length, of equally many values
texts_long : {A : Type 0} (text : A → List ℕ) (size : ℕ) → ((x : A) → length (text x) ≡ size) → (xs ys : List A)
    → length xs ≡ length ys → length (flat_map text xs) ≡ length (flat_map text ys)
texts_long text size each [] [] long = refl
texts_long text size each [] (y ∷ ys) long = absurd (omega (arith, long))
texts_long text size each (x ∷ xs) [] long = absurd (omega (arith, long))
texts_long text size each (x ∷ xs) (y ∷ ys) long =
    omega (
      arith,
      length-append (text x) (flat_map text xs),
      length-append (text y) (flat_map text ys),
      each x,
      each y,
      texts_long text size each xs ys (omega (arith, long)),
    )

-- ---- two outcomes

-- a message that is hashed for the one outcome and one that is hashed for the other, which collide
record AreApart (version n : ℕ) (bs cs : List ℤ) (rs qs : List Reply) : Type 0 where
  message : List ℕ
  other : List ℕ
  hashed : IsHashedFor version n bs rs message
  other_hashed : IsHashedFor version n cs qs other
  collision : IsCollision message other

-- of a batch: equally many balances and equally many replies, within their limits, which aren't all the same
module _ (version n : ℕ) (bs cs : List ℤ) (rs qs : List Reply) (money : IsTrue (list_all is_balance bs))
    (money_too : IsTrue (list_all is_balance cs)) (rows : length bs ≡ length cs)
    (replies : IsTrue (list_all is_reply rs)) (replies_too : IsTrue (list_all is_reply qs))
    (requests : length rs ≡ length qs) (differ : ¬ ((bs ≡ cs) × (rs ≡ qs)))
    (same : token_of version n bs rs ≡ token_of version n cs qs) where
  -- ---- version 1

  abbrev flat_text : List ℤ → List Reply → List ℕ
  flat_text ds ps = flat_map money_text ds ++ flat_map reply_text ps

  flat_hashed : version ≡ 1 → (ds : List ℤ) (ps : List Reply) → token_of version n ds ps ≡ sha256 (flat_message n ds ps)
  unfolding token_of flat_token
  flat_hashed is ds ps = ap (λ (v : ℕ). token_of v n ds ps) is

  flat_apart : flat_message n bs rs ≢ flat_message n cs qs
  flat_apart one =
      let texts = append_cancel_left (big_bytes 4 n) (flat_text bs rs) (flat_text cs qs)
      (append_cancel_left (codes "EVESB1") (big_bytes 4 n ++ flat_text bs rs) (big_bytes 4 n ++ flat_text cs qs) one) in
      let prefix = read_many money_text is_balance balance_at Codec-balance bs cs (flat_map reply_text rs)
      (flat_map reply_text qs) rows money money_too texts in
      let back = read_many reply_text is_reply reply_at Codec-reply rs qs [] [] requests replies replies_too
      (ap (λ (text : List ℕ). text ++ []) prefix.1) in
      differ (prefix.0, back.0)

  flat_long : length (flat_message n bs rs) ≡ length (flat_message n cs qs)
  flat_long =
      omega (
        arith,
        length-append (big_bytes 4 n) (flat_text bs rs),
        length-append (big_bytes 4 n) (flat_text cs qs),
        length-append (flat_map money_text bs) (flat_map reply_text rs),
        length-append (flat_map money_text cs) (flat_map reply_text qs),
        texts_long money_text 8 (λ z. refl) bs cs rows,
        texts_long reply_text 9 reply_length rs qs requests,
      )

  flat_collide : version ≡ 1 → AreApart version n bs cs rs qs
  flat_collide is = record {
    message = flat_message n bs rs;
    other = flat_message n cs qs;
    hashed = OfAll is refl;
    other_hashed = OfAll is refl;
    collision = record {
      bytes = flat_below n bs rs;
      other_bytes = flat_below n cs qs;
      one_length = flat_long;
      apart = flat_apart;
      same_hash = sym (flat_hashed is bs rs) ∙ same ∙ flat_hashed is cs qs;
    };
  }

  -- ---- version 2

  abbrev roots_text : List ℤ → List Reply → List ℕ
  roots_text ds ps = rows_root ds ++ replies_root ps

  roots_hashed : version ≡ 2 → (ds : List ℤ) (ps : List Reply)
      → token_of version n ds ps ≡ sha256 (roots_message n ds ps)
  unfolding token_of token_from_root
  roots_hashed is ds ps = ap (λ (v : ℕ). token_of v n ds ps) is

  rows_long : length (rows_root bs) ≡ length (rows_root cs)
  rows_long = roots_long money_text 8 is_balance money_leaves bs cs rows

  replies_long : length (replies_root rs) ≡ length (replies_root qs)
  replies_long = roots_long reply_text 9 is_reply reply_leaves rs qs requests

  roots_message_below : (ds : List ℤ) (ps : List Reply) → IsTrue (list_all (is_number 1) (roots_message n ds ps))
  roots_message_below ds ps =
      joined_below (codes "EVESB2") (big_bytes 4 n ++ roots_text ds ps) refl
      (joined_below (big_bytes 4 n) (roots_text ds ps) (big_bytes_below 4 n)
      (joined_below (rows_root ds) (replies_root ps)
      (roots_below money_text 8 is_balance money_leaves ds) (roots_below reply_text 9 is_reply reply_leaves ps)))

  -- the two roots are other ones
  roots_collide : version ≡ 2 → roots_message n bs rs ≢ roots_message n cs qs → AreApart version n bs cs rs qs
  roots_collide is apart = record {
    message = roots_message n bs rs;
    other = roots_message n cs qs;
    hashed = OfRoots is refl;
    other_hashed = OfRoots is refl;
    collision = record {
      bytes = roots_message_below bs rs;
      other_bytes = roots_message_below cs qs;
      one_length = omega (
        arith,
        length-append (big_bytes 4 n) (roots_text bs rs),
        length-append (big_bytes 4 n) (roots_text cs qs),
        length-append (rows_root bs) (replies_root rs),
        length-append (rows_root cs) (replies_root qs),
        rows_long,
        replies_long,
      );
      apart = apart;
      same_hash = sym (roots_hashed is bs rs) ∙ same ∙ roots_hashed is cs qs;
    };
  }

  -- the two roots are the same
  trees_collide : version ≡ 2 → rows_root bs ≡ rows_root cs → replies_root rs ≡ replies_root qs
      → AreApart version n bs cs rs qs
  trees_collide is rows_same replies_same =
      by (trees_apart money_text 8 is_balance money_leaves bs cs rows money money_too rows_same)
      (trees_apart reply_text 9 is_reply reply_leaves rs qs requests replies replies_too replies_same)
    where
      by : (bs ≡ cs) ⊎ AreTreesApart money_text bs cs → (rs ≡ qs) ⊎ AreTreesApart reply_text rs qs
          → AreApart version n bs cs rs qs
      by (inl balances) (inl all) = absurd (differ (balances, all))
      by (inl balances) (inr p) = record {
        message = p.message;
        other = p.other;
        hashed = OfReplies is p.hashed;
        other_hashed = OfReplies is p.other_hashed;
        collision = p.collision;
      }
      by (inr p) either = record {
        message = p.message;
        other = p.other;
        hashed = OfRows is p.hashed;
        other_hashed = OfRows is p.other_hashed;
        collision = p.collision;
      }

  merkle_collide : version ≡ 2 → AreApart version n bs cs rs qs
  merkle_collide is = by (same_or_other (roots_message n bs rs) (roots_message n cs qs))
    where
      by : (roots_message n bs rs ≡ roots_message n cs qs) ⊎ (roots_message n bs rs ≢ roots_message n cs qs)
          → AreApart version n bs cs rs qs
      by (inl one) =
          let roots = append_cancel_left (big_bytes 4 n) (roots_text bs rs) (roots_text cs qs)
          (append_cancel_left (codes "EVESB2") (big_bytes 4 n ++ roots_text bs rs) (big_bytes 4 n ++ roots_text cs qs)
          one) in
          let halves = same_halves (rows_root bs) (rows_root cs) (replies_root rs) (replies_root qs) rows_long roots in
          trees_collide is halves.0 halves.1
      by (inr apart) = roots_collide is apart

  they_collide : (version ≡ 1) ⊎ (version ≡ 2) → AreApart version n bs cs rs qs
  they_collide (inl is) = flat_collide is
  they_collide (inr is) = merkle_collide is

-- ---- two replicas

one_or_two : (version : ℕ) → 1 ≤ version → version ≤ NEWEST_VERSION → (version ≡ 1) ⊎ (version ≡ 2)
one_or_two zero some known = absurd (omega arith)
one_or_two (suc zero) some known = inl refl
one_or_two (suc (suc zero)) some known = inr refl
one_or_two (suc (suc (suc n))) some known = absurd (omega arith)

-- a trace is of one of the versions
its_version : (t : Trace) → HasLimits t → (t.head.version ≡ 1) ⊎ (t.head.version ≡ 2)
its_version t limits =
    let head = head_has_limits (head_of t) limits.head in one_or_two t.head.version head.some_version head.known_version

-- the token of a committed attempt is that of what its batch came to
its_token : (t : Trace) (e n : ℕ) (q : Placed) → IsRightSection t e → TokensAreDue t e → committed_at t e n ≡ Some q
    → q.attempt.token ≡ token_of t.head.version n (balances_to t e n) q.attempt.replies
its_token t e n q right due at =
    due n q at
    ∙ ap (λ (m : ℕ). token_of t.head.version m (balances_to t e m) q.attempt.replies)
    (committed_number t e n q right at)

pub collides : (t : Trace) (e f n : ℕ) (q r : Placed) → HasLimits t → IsRightSection t e → IsRightSection t f
    → committed_at t e n ≡ Some q → committed_at t f n ≡ Some r → TokensAreDue t e → TokensAreDue t f
    → q.attempt.token ≡ r.attempt.token → ¬ HaveSameOutcome t e f n → Collides t
collides t e f n q r limits right right_too at also due due_too same differ =
    let replies = λ (p : Placed). p.attempt.replies in
    let differ_too : ¬ ((balances_to t e n ≡ balances_to t f n) × (q.attempt.replies ≡ r.attempt.replies)) = λ one.
    differ (record {
      balances = one.0;
      replies = ap (option_map replies) at ∙ ap Some one.1 ∙ sym (ap (option_map replies) also);
    }) in
    let apart = they_collide t.head.version n (balances_to t e n) (balances_to t f n) q.attempt.replies
    r.attempt.replies (balances_within t e n limits) (balances_within t f n limits)
    (balances_count t e n ∙ sym (balances_count t f n)) (replies_within t e n q limits at)
    (replies_within t f n r limits also) (replies_counted t e f n q r limits right right_too at also) differ_too
    (sym (its_token t e n q right due at) ∙ same ∙ its_token t f n r right_too due_too also) (its_version t limits) in
    record {
      batch = n;
      replica = e;
      other = f;
      attempt = q;
      other_attempt = r;
      committed = at;
      other_committed = also;
      one_token = same;
      differ = differ;
      message = apart.message;
      other_message = apart.other;
      hashed = apart.hashed;
      other_hashed = apart.other_hashed;
      collision = apart.collision;
    }
