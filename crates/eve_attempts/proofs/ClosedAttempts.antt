-- The records of a batch become an attempt.
use Rattle.std.proofs.Common.{◌≡◌, ℕ, ℤ, ◌+◌, ◌<◌, ◌≤◌, ◌==◌, true, false, ltb, leb, IsTrue, List, [], ◌∷◌}
use Rattle.std.proofs.Common.{◌++◌, length, replicate, slice_get, Some, refl, sym, subst, ap, ◌∙◌, append-nil}
use Rattle.std.proofs.Common.{arith}
use Rattle.std.specs.List.{AllByRecursion, list_all}
use Rattle.std.proofs.lemmas.Bool.{and_parts, and_from, eq-eqb, lt-ltb, ltb-true, le-leb}
use Rattle.std.proofs.lemmas.List.{length-map, length-replicate}
use Rattle.std.proofs.lemmas.List.Folds.{list_all-append}
use Rattle.eve_smallbank.specs.declared.entry.Entry.{Entry}
use Rattle.eve_smallbank.specs.declared.request.Reply.{Reply}
use Rattle.eve_smallbank.specs.declared.request.Reply.TheVariants.{Done}
use Rattle.eve_smallbank.specs.declared.rows.Touched.{Touched}
use Rattle.eve_smallbank.specs.Chain.{Table, table_after}
use Rattle.eve_grammar.specs.Trace.{Access, Batch, Attempt}
use Rattle.eve_grammar.specs.Limits.{is_number, is_between, is_token, is_reply, is_batch, is_access, is_attempt}
use Rattle.eve_grammar.specs.Limits.{is_whole_attempt}
use Rattle.eve_grammar.specs.Certificate.{is_permutation, is_certificate, keeps_groups}
use Rattle.eve_grammar.proofs.GroupOrder.{some_requests}
use Rattle.eve_stamps.specs.Applied.{Applied}
use Rattle.eve_token.specs.Token.{token_of}
use Rattle.eve_attempts.specs.declared.prefix.AttemptHead.{AttemptHead}
use Rattle.eve_attempts.specs.declared.taken.Taken.{Taken}
use Rattle.eve_attempts.specs.Ledgers.{Opened, Rows, Ledger, ledger_rows, table_of_rows, table_now, values_before}
use Rattle.eve_attempts.specs.Ledgers.{writes_in}
use Rattle.eve_attempts.specs.Ledgers.{open_writes, rows_committed, is_write_in, AreLaid, IsLedger}
use Rattle.eve_attempts.specs.inner.KeptRows.{KeptRows}
use Rattle.eve_attempts.specs.ClosedAttempts.{access_noted, AreNoted, IsAttemptOf}
use Rattle.eve_attempts.specs.inner.RecordKeys.{records_in}
use Rattle.eve_attempts.specs.inner.AttemptParts.{IsTakenOf}
use Rattle.eve_attempts.proofs.NotedRecords.{length-placed, all_placed}
use Rattle.eve_attempts.proofs.TableLaws.{values_before-append, writes_in-append, laid_further}
use Rattle.eve_attempts.proofs.PartLaws.{length_certificate, few_records}

-- ---- the limits

small_numbers : (r : ℕ) (xs : List ℕ) → r ≤ 65536 → list_all (λ i. ltb i r) xs ≡ true → list_all (is_number 2) xs ≡ true
small_numbers r [] le all = refl
small_numbers r (x ∷ xs) le all =
    let parts = and_parts (ltb x r) (list_all (λ i. ltb i r) xs) all in
    let lt = ltb-true x r parts.0 in
    and_from (is_number 2 x) _ (lt-ltb x 65536 (omega arith)) (small_numbers r xs le parts.1)

-- what the attempt says
abbrev pub attempt_of : AttemptHead → Taken → List ℕ → Attempt
attempt_of prefix t token =
    record {
      seq = prefix.seq;
      view = prefix.view;
      serial = prefix.serial;
      certificate = t.certificate.items;
      replies = t.replies.items;
      token = token;
      accesses = t.accesses;
    }

module _ (prefix : AttemptHead) (b : Batch) (touched : List Touched) (records : List Applied) (t : Taken)
    (workers rows : ℕ) (right : IsTrue (is_batch b)) (noted : AreNoted workers rows b touched records)
    (taken : IsTakenOf records t)
    (order : IsTrue (is_certificate b.sizes (length b.requests) prefix.serial t.certificate.items)) where
  permutes : is_permutation (length b.requests) t.certificate.items ≡ true
  permutes = (and_parts (is_permutation (length b.requests) t.certificate.items) _
      (and_parts (keeps_groups b.sizes (length b.requests) t.certificate.items) _ order).0).0

  replies_many : length t.replies.items ≡ length records
  replies_many = ap (λ (rs : List Reply). length rs) taken.replies ∙ length-placed (replicate (length records) Done)
      records ∙ length-replicate (length records) Done

  whole_attempt : (token : List ℕ) → prefix.seq ≤ 65535 → IsTrue (is_number 4 prefix.view) → IsTrue (is_token token)
      → IsTrue (is_whole_attempt rows (attempt_of prefix t token))
  whole_attempt token seq view is =
      let few : length records ≤ 256 = few_records workers rows b touched records noted right in
      let some : 1 ≤ length b.requests = some_requests b right in
      let long : length t.certificate.items ≡ length records = length_certificate records t taken in
      let many : length records ≡ length b.requests = noted.many in
      let small : list_all (λ i. ltb i (length b.requests)) t.certificate.items ≡ true =
      (and_parts (list_all (λ i. ltb i (length b.requests)) t.certificate.items) _ permutes).0 in
      let accesses : length t.accesses ≡ length records =
      ap (λ (xs : List Access). length xs) taken.accesses ∙ length-map records access_noted in
      and_from (is_attempt (attempt_of prefix t token)) _
      (and_from (is_number 4 prefix.seq) _ (lt-ltb prefix.seq 4294967296 (omega arith))
      (and_from (is_number 4 prefix.view) _ view
      (and_from (is_between 1 256 (length t.certificate.items)) _
      (and_from (leb 1 (length t.certificate.items)) (leb (length t.certificate.items) 256)
      (le-leb 1 (length t.certificate.items) (omega arith)) (le-leb (length t.certificate.items) 256 (omega arith)))
      (and_from (list_all (is_number 2) t.certificate.items) _
      (small_numbers (length b.requests) t.certificate.items (omega arith) small)
      (and_from (length t.replies.items == length t.certificate.items) _
      (eq-eqb (length t.replies.items) (length t.certificate.items) (replies_many ∙ sym long))
      (and_from (list_all is_reply t.replies.items) (is_token token) taken.limits is))))))
      (and_from (length t.accesses == length t.certificate.items) _
      (eq-eqb (length t.accesses) (length t.certificate.items) (accesses ∙ sym long))
      (ap (list_all (is_access rows)) taken.accesses ∙ noted.limits))

  -- a batch has a request
  pub some_replies : 0 < length t.replies.items
  some_replies = let some = some_requests b right in let many = noted.many in omega (arith, replies_many)

  pub is_attempt_of : (version : ℕ) (balances : List ℤ) (token : List ℕ) → prefix.seq ≤ 65535
      → IsTrue (is_number 4 prefix.view) → IsTrue (is_token token)
      → token ≡ token_of version prefix.seq balances t.replies.items
      → IsAttemptOf prefix version rows balances records (records_in records t.order.items) (attempt_of prefix t token)
  is_attempt_of version balances token seq view is tells = record {
    seq = refl;
    view = refl;
    serial = refl;
    certificate = taken.certificate;
    many = replies_many;
    replies = subst (λ (rs : List Reply). AllByRecursion (λ r. slice_get rs r.index ≡ Some r.reply) records)
        (sym taken.replies)
        (all_placed workers (length b.requests) [] (replicate (length records) Done) records noted.accesses
        (sym (length-replicate (length records) Done ∙ noted.many)));
    token = tells;
    accesses = taken.accesses;
    whole = whole_attempt token seq view is;
  }

-- ---- the ledger

-- what is kept of an attempt while it is open
abbrev pub kept_as : AttemptHead → List ℕ → List Entry → Opened
kept_as prefix token written = record { view = prefix.view; token = token; written = written }

-- with these rows, and with these attempts open
abbrev pub with_open : Ledger → Rows → List Opened → Ledger
with_open s rows opened = record s { rows = rows; opened = opened; is_next_serial = false }

-- with rows of a version
abbrev pub with_kept : Ledger → KeptRows → List Opened → Ledger
with_kept s kept opened = record s { version = kept.version; rows = kept.rows; opened = opened; is_next_serial = false }

-- what a token leaves as it was
pub kept_so : (kept written : KeptRows) (version : ℕ) → kept ≡ written → written.version ≡ version
    → kept ≡ record { version = version; rows = written.rows }
kept_so kept written version same is = same ∙ ap (λ (v : ℕ). record { version = v; rows = written.rows }) is

pub one_more_open : (s : Ledger) (rows : Rows) (o : Opened) (kept opened : List Opened) → opened ≡ kept ++ o ∷ []
    → kept ≡ s.opened → with_open s rows opened ≡ with_open s rows (s.opened ++ o ∷ [])
one_more_open s rows o kept opened pushed same =
    ap (with_open s rows) (pushed ∙ ap (λ (os : List Opened). os ++ o ∷ []) same)

module _ (old new : Ledger) (o : Opened) (rows : Rows) (is : new ≡ with_open old rows (old.opened ++ o ∷ []))
    (many : length rows.balances ≡ ledger_rows old)
    (back : values_before (table_of_rows rows) o.written ≡ table_now old) where
  pub committed_stays : rows_committed new ≡ rows_committed old
  committed_stays =
      ap (λ (n : Ledger). rows_committed n) is
      ∙ ap (values_before (table_of_rows rows)) (writes_in-append old.opened (o ∷ []))
      ∙ values_before-append (table_of_rows rows) (open_writes old) (writes_in (o ∷ []))
      ∙ ap (λ (t : Table). values_before t (open_writes old)) (one o ∙ back)
    where
      one : (p : Opened) → values_before (table_of_rows rows) (writes_in (p ∷ [])) ≡ values_before
          (table_of_rows rows) p.written
      one p = ap (values_before (table_of_rows rows)) (append-nil p.written)

  pub ledger_further : IsLedger old → old.committed + 1 + length old.opened ≤ 65535 → length old.opened < old.window
      → table_of_rows rows ≡ table_after (table_now old) o.written
      → list_all (is_write_in (length rows.balances)) o.written ≡ true → IsLedger new
  ledger_further l last room table right = subst IsLedger (sym is) (record {
    counted = let h = pushed old.opened in omega arith;
    room = let h = pushed old.opened in omega arith;
    written = ap (list_all (is_write_in (length rows.balances))) (writes_in-append old.opened (o ∷ []))
        ∙ list_all-append (is_write_in (length rows.balances)) (open_writes old) (writes_in (o ∷ []))
        ∙ and_from (list_all (is_write_in (length rows.balances)) (open_writes old)) _
        (ap (λ n. list_all (is_write_in n) (open_writes old)) many ∙ l.written)
        (ap (list_all (is_write_in (length rows.balances))) (append-nil o.written) ∙ right);
    laid = subst (λ (t : Table). AreLaid t (old.opened ++ o ∷ []) (table_of_rows rows))
        (sym (sym (ap (λ (n : Ledger). rows_committed n) is) ∙ committed_stays))
        (laid_further (rows_committed old) old.opened (table_now old) (table_of_rows rows) o l.laid back table);
  })
    where
      pushed : (os : List Opened) → length (os ++ o ∷ []) ≡ length os + 1
      pushed [] = refl
      pushed (p ∷ os) = let h = pushed os in omega arith
