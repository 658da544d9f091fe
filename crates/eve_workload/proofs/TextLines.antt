-- A text that is read line by line.
use Rattle.std.proofs.Common.{◌≡◌, ◌≢◌, ℕ, ◌+◌, ◌-◌, ◌*◌, ◌<◌, ◌≤◌, Bool, true, false, IsTrue, List, [], ◌∷◌}
use Rattle.std.proofs.Common.{◌++◌, length, take, drop, get_or, Some, None, refl, sym, ap, subst, ◌∙◌, arith}
use Rattle.std.proofs.Common.{length-append, take-add}
use Rattle.std.proofs.lemmas.Bool.{ltb-true, false≢true}
use Rattle.std.proofs.lemmas.List.{length-map, take-append-drop, length-drop, get_or-drop, take_all}
use Rattle.eve_grammar.specs.Trace.{Asked}
use Rattle.eve_grammar.specs.Limits.{most_customers}
use Rattle.eve_grammar.proofs.HeadLimits.{most_are_few}
use Rattle.eve_write.specs.Data.{customer}
use Rattle.eve_workload.specs.declared.draft.Draft.{Draft}
use Rattle.eve_workload.specs.Lines.{Line, HeadLine, CustomerLine, BatchLine, RequestLine, line_words}
use Rattle.eve_workload.specs.Steps.{customers_in, requests_in, batches_in, last_requests, may_follow, may_end}
use Rattle.eve_workload.specs.Steps.{IsRightBehind, AreRightLines, text_before, IsBadLine}
use Rattle.eve_workload.specs.inner.Drafts.{IsSmall, Keeps, KeepsAll, TakesLine}
use Rattle.eve_workload.proofs.DraftLines.{batches_kept}
use Rattle.eve_workload.specs.inner.Words.{HasLineFeed}
use Rattle.eve_workload.proofs.SplitLines.{no_line_unended}

-- ---- counts that fit

-- whether the last line stands in a batch
abbrev pub in_batch : List Line → Bool
in_batch [] = false
in_batch (HeadLine d ∷ before) = false
in_batch (CustomerLine c ∷ before) = false
in_batch (BatchLine ∷ before) = true
in_batch (RequestLine a ∷ before) = true

-- requests and batches, and how many the last one has
record Room (before : List Line) : Type 0 where
  all : length (requests_in before) ≤ 256 * batches_in before
  here : in_batch before ≡ true → length (requests_in before) + 256 ≤ 256 * batches_in before + last_requests before

pub request_in_batch : (before : List Line) (a : Asked) → IsTrue (may_follow before (RequestLine a)) → in_batch before
    ≡ true
request_in_batch [] a follows = cc
request_in_batch (HeadLine d ∷ before) a follows = cc
request_in_batch (CustomerLine c ∷ before) a follows = cc
request_in_batch (BatchLine ∷ before) a follows = refl
request_in_batch (RequestLine b ∷ before) a follows = refl

room_of : (format : ℕ) (before : List Line) → AreRightLines format before → Room before
room_of format [] right = record { all = omega arith; here = λ no. absurd (false≢true no) }
room_of format (HeadLine d ∷ before) right =
    record { all = (room_of format before right.1).all; here = λ no. absurd (false≢true no) }
room_of format (CustomerLine c ∷ before) right =
    record { all = (room_of format before right.1).all; here = λ no. absurd (false≢true no) }
room_of format (BatchLine ∷ before) right =
    let room = room_of format before right.1 in
    record { all = omega (arith, room.all); here = λ yes_so. omega (arith, room.all) }
room_of format (RequestLine a ∷ before) right =
    let room = room_of format before right.1 in
    let here = room.here (request_in_batch before a right.0.follows) in
    let low = ltb-true (last_requests before) 256 right.0.room in
    let more = length-append (requests_in before) (a ∷ []) in
    record { all = omega (arith, here, low, more); here = λ yes_so. omega (arith, here, more) }

pub customers_few : (format : ℕ) (before : List Line) → AreRightLines format before
    → length (customers_in before) ≤ most_customers format
customers_few format [] right = omega arith
customers_few format (HeadLine d ∷ before) right = customers_few format before right.1
customers_few format (CustomerLine c ∷ before) right =
    omega (
      arith,
      ltb-true (length (customers_in before)) _ right.0.room,
      length-append (customers_in before)
          (c ∷ []),
    )
customers_few format (BatchLine ∷ before) right = customers_few format before right.1
customers_few format (RequestLine a ∷ before) right = customers_few format before right.1

pub batches_few : (format : ℕ) (before : List Line) → AreRightLines format before → batches_in before ≤ 65535
batches_few format [] right = omega arith
batches_few format (HeadLine d ∷ before) right = batches_few format before right.1
batches_few format (CustomerLine c ∷ before) right = batches_few format before right.1
batches_few format (BatchLine ∷ before) right = omega (arith, ltb-true (batches_in before) 65535 right.0.room)
batches_few format (RequestLine a ∷ before) right = batches_few format before right.1

pub keeps_small : (d : Draft) (before : List Line) → Keeps d before → IsSmall d
keeps_small d before keeps =
    let batches = batches_few d.format before keeps.right in
    let room = (room_of d.format before keeps.right).all in
    record {
      customers = omega (
        arith,
        customers_few d.format before keeps.right,
        most_are_few d.format,
        length-map d.customers.items customer,
        ap length keeps.customers,
      );
      batches = omega (arith, batches, batches_kept d before keeps);
      requests = omega (arith, batches, room, keeps.requests);
    }

-- ---- the text up to here

pub record IsRead (text : List ℕ) (at : ℕ) (d : Draft) : Type 0 where
  pub before : List Line
  pub within : at ≤ length text
  pub text_is : take at text ≡ text_before before
  pub keeps : Keeps d before

pub read_more : (text : List ℕ) (at len : ℕ) (d next : Draft) → (read : IsRead text at d)
    → TakesLine next read.before (drop at text) (Some len) → IsRead text (at + len) next
read_more text at len d next read (line, prefix, within, some, keeps) =
    record {
      before = line ∷ read.before;
      within = omega (arith, read.within, within, length-drop at text);
      text_is = take-add at len text ∙ (λ k. read.text_is k ++ prefix k);
      keeps = keeps;
    }

pub read_all : (text : List ℕ) (at : ℕ) (d : Draft) → (read : IsRead text at d) → length text ≤ at
    → may_end read.before ≡ true → KeepsAll d text
read_all text at d read whole ends =
    let is = sym read.text_is ∙ take_all at text whole in
    record { before = read.before; keeps = read.keeps; ends = ends; text_is = is }

pub read_bad : (format : ℕ) (text : List ℕ) (at number : ℕ) (d next : Draft) → (read : IsRead text at d)
    → d.format ≡ format → next.format ≡ format
    → number ≡ length read.before + 1 → at < length text → TakesLine next read.before (drop at text) None
    → IsBadLine format text number
read_bad format text at number d next read same same_next count more none = record {
  before = read.before;
  rest = drop at text;
  text = sym (take-append-drop at text) ∙ ap (λ t. t ++ drop at text) read.text_is;
  right = subst (λ f. AreRightLines f read.before) same read.keeps.right;
  count = count;
  wrong = λ line behind is right. none line behind is
      (subst (λ f. IsRightBehind f read.before line) (sym same_next) right);
  unended = λ empty. absurd (omega (arith, more, length-drop at text, ap length empty));
}

-- a line feed ends a later line, as long as one is to come
pub feed_to_come : (text : List ℕ) (at len : ℕ) → at < len → len ≤ length text → get_or text (len - 1) 0 ≡ 10
    → HasLineFeed (drop at text) 0
feed_to_come text at len more within feed =
    let sum : at + ((len - 1) - at) ≡ len - 1 = omega arith in
    record {
      at = (len - 1) - at;
      order = omega arith;
      within = omega (arith, length-drop at text);
      is = get_or-drop at text ((len - 1) - at) 0 ∙ ap (λ n. get_or text n 0) sum ∙ feed;
    }

pub read_early : (format : ℕ) (text : List ℕ) (at number : ℕ) (d : Draft) → (read : IsRead text at d)
    → d.format ≡ format → number ≡ length read.before + 1 → ((k : ℕ) → at ≤ k → k < length text → get_or text k 0 ≢ 10)
    → (length text ≤ at → may_end read.before ≡ false) → IsBadLine format text number
read_early format text at number d read same count none open_end = record {
  before = read.before;
  rest = drop at text;
  text = sym (take-append-drop at text) ∙ ap (λ t. t ++ drop at text) read.text_is;
  right = subst (λ f. AreRightLines f read.before) same read.keeps.right;
  count = count;
  wrong = λ line behind is right. no_line_unended (drop at text)
      (λ k there feed. none (at + k) (omega arith) (omega (arith, there, length-drop at text))
      (sym (get_or-drop at text k 0) ∙ feed))
      (line_words line) behind is;
  unended = λ empty. open_end (omega (arith, length-drop at text, ap length empty));
}
