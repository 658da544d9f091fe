-- Where a Sent frame's fields stand.
use Rattle.std.proofs.Common.{◌≡◌, ℕ, ◌-◌, List, length, get_or, take, drop, Option, Some, sym, ap, ◌∙◌, arith}
use Rattle.std.specs.Prelude.{IsTrue, nat_lt}
use Rattle.std.proofs.lemmas.List.{take_rest, length-drop, drop-drop}
use Rattle.byteorder.specs.Endian.{big_number}
use Rattle.eve_smallbank.specs.declared.request.Reply.{Reply}
use Rattle.eve_grammar.specs.Trace.{Sent}
use Rattle.eve_grammar.specs.Limits.{is_between}
use Rattle.eve_grammar.specs.Readers.{number_at, signed_at, both, made, only, reply_from, reply_at, sent_from, sent_of}
use Rattle.eve_grammar.specs.declared.limits.TheConstants.{MOST_REPLICAS, MOST_BATCHES}
use Rattle.eve_frames.specs.Views.{has_sent_body, sent_in}
use Rattle.eve_frames.proofs.Places.{Takes, found, number_some, made_some, only_some, whole_some, both_some}
use Rattle.eve_frames.proofs.Places.{Takes-number, Takes-signed, Takes-only, Takes-both, Takes-made_if, byte_at}

pub Takes-reply : Takes 9 reply_at
unfolding reply_at
Takes-reply = Takes-made_if 9 reply_from (both (number_at 1) signed_at)
    (Takes-both 1 8 (number_at 1) signed_at (Takes-number 1) Takes-signed)

pub record SentAt (bytes : List ℕ) (s : Sent) : Type 0 where
  pub long : length bytes ≡ 31
  pub client : s.client ≡ big_number 4 (drop 5 bytes)
  pub number : s.number ≡ big_number 8 (drop 9 bytes)
  pub replica : s.replica ≡ get_or bytes 17 0
  pub seq : s.seq ≡ big_number 4 (drop 18 bytes)
  pub reply : reply_at (drop 22 bytes) ≡ Some (s.reply, drop 31 bytes)

pub sent_at : (bytes : List ℕ) (s : Sent) → sent_of MOST_REPLICAS MOST_BATCHES (drop 5 bytes) ≡ Some s → SentAt bytes s
unfolding sent_of
sent_at bytes s e =
    let replica_at = only (λ replica. nat_lt replica MOST_REPLICAS) (number_at 1) in
    let seq_at = only (is_between 1 MOST_BATCHES) (number_at 4) in
    let fields = both (number_at 4) (both (number_at 8) (both replica_at (both seq_at reply_at))) in
    let w = whole_some (made sent_from fields) (drop 5 bytes) s e in
    let m = made_some sent_from fields (drop 5 bytes) (s, w.0) w.1 in
    let a = both_some 4 5 (number_at 4) (both (number_at 8) (both replica_at (both seq_at reply_at)))
    (Takes-number 4) bytes (m.0, w.0) m.1 in
    let b = both_some 8 9 (number_at 8) (both replica_at (both seq_at reply_at)) (Takes-number 8) bytes
    (m.0.1, w.0) a.1 in
    let c = both_some 1 17 replica_at (both seq_at reply_at)
    (Takes-only 1 (λ replica. nat_lt replica MOST_REPLICAS) (number_at 1) (Takes-number 1)) bytes
    (m.0.1.1, w.0) b.1 in
    let d = both_some 4 18 seq_at reply_at (Takes-only 4 (is_between 1 MOST_BATCHES) (number_at 4) (Takes-number 4))
    bytes (m.0.1.1.1, w.0) c.1 in
    let client = number_some 4 (drop 5 bytes) (m.0.0, drop 9 bytes) a.0 in
    let number = number_some 8 (drop 9 bytes) (m.0.1.0, drop 17 bytes) b.0 in
    let replica = number_some 1 (drop 17 bytes) (m.0.1.1.0, drop 18 bytes)
    (only_some (λ replica. nat_lt replica MOST_REPLICAS) (number_at 1) (drop 17 bytes) (m.0.1.1.0, drop 18 bytes)
    c.0).0 in
    let seq = number_some 4 (drop 18 bytes) (m.0.1.1.1.0, drop 22 bytes)
    (only_some (is_between 1 MOST_BATCHES) (number_at 4) (drop 18 bytes) (m.0.1.1.1.0, drop 22 bytes) d.0).0 in
    let reply = Takes-reply.by (drop 22 bytes) (m.0.1.1.1.1, w.0) d.1 in
    let more = reply.0 in
    let behind : w.0 ≡ drop 31 bytes = reply.1 ∙ drop-drop 9 22 bytes in
    record {
      long = omega (arith, more, w.2, ap length reply.1, length-drop 9 (drop 22 bytes), length-drop 22 bytes);
      client = ap (λ (x : Sent). x.client) m.2 ∙ client.1;
      number = ap (λ (x : Sent). x.number) m.2 ∙ number.1;
      replica = ap (λ (x : Sent). x.replica) m.2 ∙ replica.1 ∙ byte_at 17 bytes;
      seq = ap (λ (x : Sent). x.seq) m.2 ∙ seq.1;
      reply = d.1 ∙ ap (λ (r : Reply). some_reply r w.0) (ap (λ (x : Sent). x.reply) (sym m.2))
          ∙ ap (some_reply s.reply) behind;
    }
  where
    some_reply : Reply → List ℕ → Option (Reply × List ℕ)
    some_reply r rest = Some (r, rest)

pub sent_read : (bytes : List ℕ) → IsTrue (has_sent_body bytes) → sent_of MOST_REPLICAS MOST_BATCHES (drop 5 bytes)
    ≡ Some (sent_in bytes)
unfolding sent_in
sent_read bytes there = found (sent_of MOST_REPLICAS MOST_BATCHES (drop 5 bytes)) _ there

abbrev placed : (bytes : List ℕ) → IsTrue (has_sent_body bytes) → SentAt bytes (sent_in bytes)
placed bytes there = sent_at bytes (sent_in bytes) (sent_read bytes there)

pub sent_long : (bytes : List ℕ) → IsTrue (has_sent_body bytes) → length bytes ≡ 31
sent_long bytes there = (placed bytes there).long

pub sent_client : (bytes : List ℕ) → IsTrue (has_sent_body bytes) → (sent_in bytes).client ≡ big_number 4 (drop 5 bytes)
sent_client bytes there = (placed bytes there).client

pub sent_number : (bytes : List ℕ) → IsTrue (has_sent_body bytes) → (sent_in bytes).number ≡ big_number 8 (drop 9 bytes)
sent_number bytes there = (placed bytes there).number

pub sent_replica : (bytes : List ℕ) → IsTrue (has_sent_body bytes) → (sent_in bytes).replica ≡ get_or bytes 17 0
sent_replica bytes there = (placed bytes there).replica

pub sent_seq : (bytes : List ℕ) → IsTrue (has_sent_body bytes) → (sent_in bytes).seq ≡ big_number 4 (drop 18 bytes)
sent_seq bytes there = (placed bytes there).seq

-- the reply is read from byte 22 on
pub sent_reply : (bytes : List ℕ) → IsTrue (has_sent_body bytes) → reply_at (take (length bytes - 22) (drop 22 bytes))
    ≡ Some ((sent_in bytes).reply, drop 31 bytes)
sent_reply bytes there = ap reply_at (take_rest bytes 22) ∙ (placed bytes there).reply

pub ruleset sent_laws = (sent_read, sent_long, sent_client, sent_number, sent_replica, sent_seq, sent_reply)
