use Rattle.std.proofs.Common.{◌≡◌, ℕ, ◌+◌, ◌<◌, List, [], ◌∷◌, ◌++◌, length, refl, sym, subst, ap, ap₂, ◌∙◌, arith}
use Rattle.std.proofs.lemmas.Bool.{false≢true}
use Rattle.eve_smallbank.specs.declared.entry.Entry.{Entry}
use Rattle.eve_smallbank.specs.declared.request.Reply.{Reply}
use Rattle.eve_smallbank.specs.Chain.{table_after}
use Rattle.eve_grammar.specs.Trace.{Attempt}
use Rattle.eve_grammar.specs.Certificate.{is_certificate}
use Rattle.eve_token.specs.Token.{token_of}
use Rattle.eve_write.specs.Data.{batch as plain}
use Rattle.eve_stamps.specs.Applied.{Applied}
use Rattle.eve_attempts.specs.Ledgers.{Opened, Ledger, IsLedger, ledger_rows, table_now}
use Rattle.eve_attempts.specs.ClosedAttempts.{worker_limit, AreNoted, AreRight, IsAttemptOf, Closes, writes_along}
use Rattle.eve_attempts.specs.inner.RecordKeys.{Key, records_in, AreSeenAlong, table_after_records}
use Rattle.eve_attempts.specs.HeldLedgers.{ledger_of}
use Rattle.eve_attempts.specs.inner.KeptRows.{KeptRows}
use Rattle.eve_attempts.proofs.PartLaws.{length_order, order_rises, one_with}
use Rattle.eve_attempts.proofs.TableLaws.{table_after_records-writes, table_after_records-executed, seen_chained}
use Rattle.eve_attempts.proofs.TableLaws.{chained_seen}
use Rattle.eve_attempts.proofs.ClosedAttempts.{attempt_of, is_attempt_of, kept_as, with_open, with_kept, kept_so}
use Rattle.eve_attempts.proofs.ClosedAttempts.{some_replies}
use Rattle.eve_attempts.proofs.ClosedAttempts.{one_more_open, committed_stays}
use Rattle.eve_attempts.proofs.ClosedAttempts.{ledger_further}
use Rattle.eve_attempts.proofs.ledger.Ledger.close.Goals as goal

pub invariant_of-self : goal.invariant_of-self
invariant_of-self c = subst (λ (os : List Opened). IsLedger (record (ledger_of c.self.inside) { opened = os }))
    (sym c.reserve.ensures.items) c.self.invariant

pub write_along-requires-clause-room : goal.write_along-requires-clause-room
write_along-requires-clause-room c =
    let taken = c.in_ok-taken.ensures.taken in
    let many : length c.as_slice-order.result.now ≡ length c.args.records.now =
    ap (λ (keys : List Key). length keys) c.as_slice-order.ensures.value
    ∙ length_order c.args.records.now c.in_ok-taken.taken.order.items taken.same in
    omega (arith, taken.room)

-- a batch has a request, and each has a reply
pub token-token-requires : goal.token-token-requires
token-token-requires c =
    let b = plain c.args.batch.now in
    let some = some_replies c.args.prefix b c.args.touched.now c.args.records.now c.in_ok-taken.taken
    c.workers_for-workers.result c.len-rows.result c.requires.batch c.in_ok-taken.ensures.noted
    c.in_ok-taken.ensures.taken c.in_ok-taken.ensures.order in
    record { replies = λ _. subst (λ (ps : List Reply). 0 < length ps) (sym c.as_slice.ensures.value) some }

pub returns-then-not-write_along-clause-mismatch : goal.returns-then-not-write_along-clause-mismatch
returns-then-not-write_along-clause-mismatch c = λ _ ordered by_ticks right.
    let s : Ledger = ledger_of c.self.inside in
    let b = plain c.args.batch.now in
    let rs = c.args.records.now in
    let taken = c.in_ok-taken.ensures.taken in
    let right_here : AreRight s c.args.prefix.serial b c.args.touched.now rs ordered =
    subst (λ (o : Ledger). AreRight o c.args.prefix.serial b c.args.touched.now rs ordered) (sym c.self.view_is) right
    in
    let one : records_in rs c.in_ok-taken.taken.order.items ≡ ordered =
    one_with b.sizes (length b.requests) c.args.prefix.serial rs ordered c.in_ok-taken.taken taken by_ticks
    right_here.certificate in
    let mine : ordered ≡ records_in rs c.as_slice-order.result.now =
    sym (ap (records_in rs) c.as_slice-order.ensures.value ∙ one) in
    let seen : AreSeenAlong (table_now s) (records_in rs c.as_slice-order.result.now) =
    subst (AreSeenAlong (table_now s)) mine (chained_seen b (table_now s) ordered right_here.chained) in
    false≢true (c.if-not-write_along.ensures.seen.1 seen)

pub invariant_of-self-2 : goal.invariant_of-self-2
invariant_of-self-2 c =
    let s : Ledger = ledger_of c.self.inside in
    let rs = c.args.records.now in
    let mine = records_in rs c.as_slice-order.result.now in
    let o = kept_as c.args.prefix c.token-token.result c.write_along.new.written.items in
    let rows = c.write_along.new.rows.rows in
    let new = with_open s rows c.push_reserved.new.self.items in
    let is = one_more_open s rows o c.reserve.new.self.items c.push_reserved.new.self.items
    c.push_reserved.ensures.items c.reserve.ensures.items in
    let last : s.committed + 1 + length s.opened ≡ c.args.self.now.committed + 1 + length c.args.self.now.opened =
    ap (λ (l : Ledger). l.committed + 1 + length l.opened) c.self.view_is in
    let many : length s.opened ≡ length c.args.self.now.opened = ap (λ (l : Ledger). length l.opened) c.self.view_is in
    let most : s.window ≡ c.args.self.now.window = ap (λ (l : Ledger). l.window) c.self.view_is in
    subst (λ (k : KeptRows). IsLedger (with_kept s k c.push_reserved.new.self.items))
    (sym (kept_so c.token-token.new.self c.write_along.new.rows c.self.inside.rows.version c.token-token.ensures.same
    c.if-not-write_along.ensures.version))
    (ledger_further s new o rows is c.if-not-write_along.ensures.as_many
    c.if-not-write_along.ensures.undone c.self.invariant (omega (arith, c.requires.seq, c.requires.last))
    (omega (arith, c.requires.room))
    (c.if-not-write_along.ensures.table ∙ table_after_records-writes (table_now s) mine
    ∙ ap (table_after (table_now s)) (sym c.if-not-write_along.ensures.written)) c.if-not-write_along.ensures.right)

pub returns-clause-closed : goal.returns-clause-closed
returns-clause-closed c =
    let s : Ledger = ledger_of c.self.inside in
    let b = plain c.args.batch.now in
    let rs = c.args.records.now in
    let t = c.in_ok-taken.taken in
    let taken = c.in_ok-taken.ensures.taken in
    let mine = records_in rs t.order.items in
    let at : records_in rs c.as_slice-order.result.now ≡ mine = ap (records_in rs) c.as_slice-order.ensures.value in
    let a : Attempt = attempt_of c.args.prefix t c.token-token.result in
    let o = kept_as c.args.prefix c.token-token.result c.write_along.new.written.items in
    let rows = c.write_along.new.rows.rows in
    let new = with_open s rows c.push_reserved.new.self.items in
    let is = one_more_open s rows o c.reserve.new.self.items c.push_reserved.new.self.items
    c.push_reserved.ensures.items c.reserve.ensures.items in
    let rows_is : c.len-rows.result ≡ ledger_rows s = c.len-rows.ensures.balances in
    let workers_is : c.workers_for-workers.result ≡ worker_limit s c.args.prefix.serial = c.workers_for-workers.ensures
    ∙ ap (λ (l : Ledger). worker_limit l c.args.prefix.serial) (sym c.self.view_is) in
    let noted : AreNoted c.workers_for-workers.result c.len-rows.result b c.args.touched.now rs =
    c.in_ok-taken.ensures.noted in
    let tells : c.token-token.result ≡ token_of s.version c.args.prefix.seq rows.balances t.replies.items =
    c.token-token.ensures.token
    ∙ ap₂ (λ (v : ℕ) (ps : List Reply). token_of v c.args.prefix.seq rows.balances ps)
    c.if-not-write_along.ensures.version c.as_slice.ensures.value in
    let written : c.write_along.new.written.items ≡ writes_along mine = c.if-not-write_along.ensures.written
    ∙ ap writes_along at in
    subst (λ (k : KeptRows). Closes c.args.prefix c.args.self.now (with_kept s k c.push_reserved.new.self.items) b
    c.args.touched.now rs a) (sym (kept_so c.token-token.new.self c.write_along.new.rows
    c.self.inside.rows.version c.token-token.ensures.same c.if-not-write_along.ensures.version))
    (subst (λ (l : Ledger). Closes c.args.prefix l new b c.args.touched.now rs a) c.self.view_is (record {
      ordered = mine;
      by_ticks = order_rises b.sizes (length b.requests) c.args.prefix.serial rs t taken c.in_ok-taken.ensures.order;
      right = record {
        noted = subst (λ (w : ℕ). AreNoted w (ledger_rows s) b c.args.touched.now rs) workers_is
            (subst (λ (n : ℕ). AreNoted c.workers_for-workers.result n b c.args.touched.now rs) rows_is noted);
        certificate = ap (is_certificate b.sizes (length b.requests) c.args.prefix.serial) (sym taken.certificate)
            ∙ c.in_ok-taken.ensures.order;
        chained = seen_chained b (table_now s) mine
            (subst (AreSeenAlong (table_now s)) at (c.if-not-write_along.ensures.seen.0 refl));
      };
      attempt = subst (λ (n : ℕ). IsAttemptOf c.args.prefix s.version n rows.balances rs mine a) rows_is
          (is_attempt_of c.args.prefix b c.args.touched.now rs t c.workers_for-workers.result c.len-rows.result
          c.requires.batch noted taken c.in_ok-taken.ensures.order s.version rows.balances
          c.token-token.result c.requires.last c.view_fits.ensures c.token_fits.ensures tells);
      opens = record {
        changed = is ∙ ap (λ (ws : List Entry). with_open s rows
            (s.opened ++ kept_as c.args.prefix c.token-token.result ws ∷ [])) written;
        as_many = c.if-not-write_along.ensures.as_many;
        rows = c.if-not-write_along.ensures.table ∙ ap (λ (ps : List Applied). table_after_records (table_now s) ps) at
            ∙ table_after_records-executed b (table_now s) mine;
        committed = committed_stays s new o rows is c.if-not-write_along.ensures.as_many
            c.if-not-write_along.ensures.undone;
      };
    }))
