-- Stretches of batches that were judged by themselves, put together.
use Rattle.std.proofs.Common.{◌≡◌, ◌≢◌, ℕ, zero, suc, false, ◌+◌, ◌-◌, ◌<◌, ◌≤◌, ℤ, List, [], ◌∷◌, ◌++◌, length}
use Rattle.std.proofs.Common.{get_or, Option, Some, None, refl, sym, ap, subst, ◌∙◌, inl, inr, arith}
use Rattle.std.specs.Prelude.{All}
use Rattle.std.specs.Option.{is_some}
use Rattle.std.proofs.lemmas.Bool.{cases_lt}
use Rattle.eve_grammar.specs.Trace.{Attempt, Trace}
use Rattle.eve_views.specs.declared.fault.Code.{Code}
use Rattle.eve_views.specs.declared.fault.Code.TheVariants as code
use Rattle.eve_views.specs.Form.{IsUpTo, IsLeast, IsFaultIn}
use Rattle.eve_token.specs.Token.{token_of}
use Rattle.eve_history.specs.Section.{Placed}
use Rattle.eve_history.specs.SectionHistory.{ExecutedAttempt, executed_attempt, SectionHistory, section_history}
use Rattle.eve_history.specs.SectionHistory.{committed_at, placed_at, IsRightSection}
use Rattle.eve_chains.specs.Committed.{balances_to, values_to}
use Rattle.eve_chains.specs.CommittedValues.{Settling, settling, values_in}
use Rattle.eve_chains.proofs.LinkedPaths.{committed_number, none≢some}
use Rattle.eve_agree.specs.ByNumber.{told_at}
use Rattle.eve_agree.specs.inner.NumbersJudged.{IsAfter}
use Rattle.eve_agree.specs.DueTokens.{due_token, TokensAreDue, StandsInTokens, IsFirstWrong}
use Rattle.eve_agree.specs.inner.Stretches.{IsReadyStretch, IsJudgedStretch, ReachesBatch, or_else, first_found}
use Rattle.eve_agree.specs.declared.due_tokens.Stretch.{Stretch}
use Rattle.eve_agree.proofs.TokensInOrder.{rows_told}
use Rattle.eve_agree.proofs.Outcomes.{balances_are}
use Rattle.eve_agree.proofs.ByNumber.{told_item, told_none, not_there, committed_settled, offsets_rise}

-- ---- rows

pub some_rows : (t : Trace) (e : ℕ) (s : Settling) → s ≡ settling t e → 1 ≤ length t.customers → 0 < length s.opening
some_rows t e s is some =
    let told = rows_told t e in
    let same = ap (λ (x : Settling). length x.opening) is in
    omega arith

-- ---- one after another

-- one more stretch
pub reaches_more : (before mid : ℕ) (xs : List Stretch) (x : Stretch) → ReachesBatch before mid xs → x.before ≡ mid →
    ReachesBatch before x.last (xs ++ x ∷ [])
reaches_more before mid [] x same at = (at ∙ sym same, refl)
reaches_more before mid (y ∷ xs) x reaches at = (reaches.0, reaches_more y.last mid xs x reaches.1 at)

module _ (t : Trace) (e : ℕ) where
  pub wrong_later : (before mid last : ℕ) (o : Option ℕ) → before ≤ mid → mid ≤ last →
      IsFirstWrong t e before mid None → IsFirstWrong t e mid last o → IsFirstWrong t e before last o
  wrong_later before mid last None low high due rest = λ n above below. elim (cases_lt mid n)
      [ inl lt ↦ rest n lt below | inr ge ↦ due n above ge ]
  wrong_later before mid last (Some at) low high due rest = record {
    n = rest.n;
    low = (let lt = rest.low in omega arith);
    high = rest.high;
    item = rest.item;
    is = rest.is;
    offset = rest.offset;
    wrong = rest.wrong;
    early = λ m above below. elim (cases_lt mid m) [ inl lt ↦ rest.early m lt below | inr ge ↦ due m above ge ];
  }

  pub wrong_first : (before mid last at : ℕ) → mid ≤ last → IsFirstWrong t e before mid (Some at) →
      IsFirstWrong t e before last (Some at)
  wrong_first before mid last at high first = record {
    n = first.n;
    low = first.low;
    high = (let le = first.high in omega arith);
    item = first.item;
    is = first.is;
    offset = first.offset;
    wrong = first.wrong;
    early = first.early;
  }

  join : (before mid last : ℕ) (a b : Option ℕ) → before ≤ mid → mid ≤ last → IsFirstWrong t e before mid a →
      IsFirstWrong t e mid last b → IsFirstWrong t e before last (or_else a b)
  join before mid last None b low high first rest = wrong_later before mid last b low high first rest
  join before mid last (Some at) b low high first rest = wrong_first before mid last at high first

  -- of stretches that follow one another, each judged, the first that was found
  pub all_judged : (version : ℕ) (s : Settling) (before : ℕ) (xs ys : List Stretch) → length ys ≡ length xs →
      ReachesBatch before (length s.numbers) xs → All (IsReadyStretch version s) xs
      → ((i : ℕ) (d : Stretch) → i < length xs → IsJudgedStretch t e (get_or xs i d) (get_or ys i d)) →
      (before ≤ length s.numbers) × IsFirstWrong t e before (length s.numbers) (first_found ys)
  all_judged version s before [] [] same follow ready judged = (
    (let at = follow in omega arith),
    λ n above below. absurd (let at = follow in omega arith),
  )
  all_judged version s before [] (y ∷ ys) same follow ready judged = absurd (omega (arith, same))
  all_judged version s before (x ∷ xs) [] same follow ready judged = absurd (omega (arith, same))
  all_judged version s before (x ∷ xs) (y ∷ ys) same follow ready judged =
      let rest = all_judged version s x.last xs ys (omega (
        arith,
        same,
      )) follow.1 (λ k d less. ready (suc k) d (omega arith)) (λ i d less. judged (suc i) d (omega arith)) in
      let mine = ready 0 x (omega arith) in
      let is = judged 0 x (omega arith) in
      let first : IsFirstWrong t e before x.last y.wrong = subst (λ (b : ℕ). IsFirstWrong t e b x.last y.wrong) follow.0
      is.wrong in
      let rising = mine.coming.rising in
      let at = follow.0 in
      let low : before ≤ x.last = omega arith in (
        (let le = rest.0 in omega arith),
        join before x.last (length s.numbers) y.wrong (first_found ys) low rest.0 first rest.1,
      )

  -- ---- what stands for all

  pub all_due : (s : Settling) → s ≡ settling t e → IsFirstWrong t e 0 (length s.numbers) None → TokensAreDue t e
  all_due s is due zero p at = none≢some p at
  all_due s is due (suc n) p at = due (suc n) (omega arith) (committed_settled t e (suc n) p s is at) p at

  pub first_is_least : (last at : ℕ) → IsFirstWrong t e 0 last (Some at) →
      IsLeast (IsFaultIn StandsInTokens t e) (record { code = code.Token; offset = at; replica = Some e })
  first_is_least last at first = record {
    is = record {
      stands = record {
        n = first.n;
        item = first.item;
        is = first.is;
        offset = sym first.offset;
        holds = first.wrong;
      };
      inside = refl;
    };
    least = λ g fault. to g.code g.offset g.replica fault.stands;
  }
    where
      -- another that is wrong stands behind it
      behind : (n : ℕ) (p : Placed) → committed_at t e n ≡ Some p → p.attempt.token ≢ due_token t e p → first.n ≤ n
      behind zero p is wrong = none≢some p is
      behind (suc n) p is wrong = elim (cases_lt (suc n) first.n)
          [ inl before ↦ absurd (wrong (first.early (suc n) (omega arith) before p is)) | inr ge ↦ ge ]

      to : (c : Code) (b : ℕ) (r : Option ℕ) → StandsInTokens c t e b →
          IsUpTo (record { code = code.Token; offset = at; replica = Some e })
          (record { code = c; offset = b; replica = r })
      to code.Token b r stands =
          let up = offsets_rise t e first.n stands.n first.item stands.item first.is stands.is
          (behind stands.n stands.item stands.is stands.holds) in
          let here = first.offset in
          let there = stands.offset in
          elim (cases_lt at b) [ inl lt ↦ inl lt | inr ge ↦ inr (omega arith, omega arith) ]
      to c b r stands = absurd stands

  -- ---- one batch

  -- this offset, number, replies and token are those of replica e's attempt of batch n
  pub record IsOfBatch (n offset : ℕ) (decoded : Attempt) : Type 0 where
    pub item : Placed
    pub at : committed_at t e n ≡ Some item
    pub offset_is : offset ≡ item.offset
    pub seq : decoded.seq ≡ item.attempt.seq
    pub replies : decoded.replies ≡ item.attempt.replies
    pub token : decoded.token ≡ item.attempt.token
    pub number : item.attempt.seq ≡ n

  pub of_batch : (n offset : ℕ) (decoded : Attempt) (h : SectionHistory) → h ≡ section_history t e → IsRightSection t e
      → (r : ExecutedAttempt) × (told_at h n ≡ Some r) × (offset ≡ r.offset) × (decoded ≡ r.attempt) →
      IsOfBatch n offset decoded
  of_batch n offset decoded h is right got =
      let found = told_item t e h n got.0 is got.1 in
      let own : decoded ≡ (executed_attempt (placed_at found.0)).attempt = got.3
      ∙ sym (ap (λ (x : ExecutedAttempt). x.attempt) found.2) in
      record {
        item = found.0;
        at = found.1;
        offset_is = got.2 ∙ sym (ap (λ (x : ExecutedAttempt). x.offset) found.2);
        seq = ap (λ (a : Attempt). a.seq) own;
        replies = ap (λ (a : Attempt). a.replies) own;
        token = ap (λ (a : Attempt). a.token) own;
        number = committed_number t e n found.0 right found.1;
      }

  -- the token that is due, of what was read
  pub batch_due : (n offset : ℕ) (decoded : Attempt) (b : List ℤ) (of : IsOfBatch n offset decoded) →
      IsAfter (settling t e) n b → ((m : ℕ) → values_in (settling t e) m ≡ values_to t e m)
      → token_of t.head.version decoded.seq b decoded.replies ≡ due_token t e of.item
  batch_due n offset decoded b of after law =
      let all : b ≡ balances_to t e n = balances_are t e n b after (law n) in
      let same : b ≡ balances_to t e of.item.attempt.seq = all ∙ ap (balances_to t e) (sym of.number) in
      (λ k. token_of t.head.version (of.seq k) (same k) (of.replies k))

  one_due : (n offset : ℕ) (decoded : Attempt) (of : IsOfBatch n offset decoded) → decoded.token ≡ due_token t e of.item
      → IsFirstWrong t e (n - 1) n None
  one_due n offset decoded of due m above below p at =
      let same : m ≡ n = omega arith in
      let here : Some p ≡ Some of.item = sym at ∙ ap (committed_at t e) same ∙ of.at in
      let equal : p ≡ of.item = cc in
      subst (λ (q : Placed). q.attempt.token ≡ due_token t e q) (sym equal) (sym of.token ∙ due)

  one_wrong : (n offset : ℕ) (decoded : Attempt) (of : IsOfBatch n offset decoded) → 1 ≤ n
      → (decoded.token ≡ due_token t e of.item → ⊥) → IsFirstWrong t e (n - 1) n (Some offset)
  one_wrong n offset decoded of low wrong = record {
    n = n;
    low = omega arith;
    high = omega arith;
    item = of.item;
    is = of.at;
    offset = of.offset_is;
    wrong = λ due. wrong (of.token ∙ due);
    early = λ m above below. absurd (omega arith);
  }

  -- where it didn't commit batch n
  pub none_judged : (n : ℕ) (h : SectionHistory) → h ≡ section_history t e → is_some (told_at h n) ≡ false
      → IsFirstWrong t e (n - 1) n None
  none_judged n h is none m above below p at =
      let same : m ≡ n = omega arith in
      none≢some p (sym (told_none t e h n is (not_there (told_at h n) none)) ∙ sym (ap (committed_at t e) same) ∙ at)

  -- what is said of the token of batch n, from 1
  pub one_judged : (n offset : ℕ) (decoded : Attempt) (h : SectionHistory) (s : Settling) (b : List ℤ)
      → h ≡ section_history t e → s ≡ settling t e → IsRightSection t e
      → ((m : ℕ) → values_in (settling t e) m ≡ values_to t e m) → 1 ≤ n
      → (r : ExecutedAttempt) × (told_at h n ≡ Some r) × (offset ≡ r.offset) × (decoded ≡ r.attempt)
      → IsAfter s n b
      → (decoded.token ≡ token_of t.head.version decoded.seq b decoded.replies → IsFirstWrong t e (n - 1) n None)
      × ((decoded.token ≡ token_of t.head.version decoded.seq b decoded.replies → ⊥)
      → IsFirstWrong t e (n - 1) n (Some offset))
  one_judged n offset decoded h s b is settled right law low got after =
      let of = of_batch n offset decoded h is right got in
      let due = batch_due n offset decoded b of (subst (λ (x : Settling). IsAfter x n b) settled after) law in (
        λ same. one_due n offset decoded of (same ∙ due),
        λ wrong. one_wrong n offset decoded of low (λ same. wrong (same ∙ sym due)),
      )

  -- one batch more
  pub one_more : (before n : ℕ) (o : Option ℕ) → before ≤ n → IsFirstWrong t e before n None
      → IsFirstWrong t e (n + 1 - 1) (n + 1) o → IsFirstWrong t e before (n + 1) o
  one_more before n o low due next =
      let here : n + 1 - 1 ≡ n = omega arith in
      wrong_later before n (n + 1) o low (omega arith) due
      (subst (λ (m : ℕ). IsFirstWrong t e m (n + 1) o) here next)
