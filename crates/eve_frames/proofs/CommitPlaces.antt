-- Where a Commit frame's fields stand.
use Rattle.std.proofs.Common.{◌≡◌, ℕ, List, length, take, drop, Some, ap, ◌∙◌, arith}
use Rattle.std.specs.Prelude.{IsTrue}
use Rattle.std.proofs.lemmas.List.{length-drop}
use Rattle.byteorder.specs.Endian.{big_number}
use Rattle.eve_grammar.specs.Trace.{Commit}
use Rattle.eve_grammar.specs.Readers.{number_at, both, made, commit_from, token_at, commit_of}
use Rattle.eve_frames.specs.Views.{has_commit_body, commit_in}
use Rattle.eve_frames.proofs.Places.{found, number_some, bytes_some, made_some, whole_some, both_some, Takes-number}

pub record CommitAt (bytes : List ℕ) (c : Commit) : Type 0 where
  pub long : length bytes ≡ 45
  pub seq : c.seq ≡ big_number 4 (drop 5 bytes)
  pub view : c.view ≡ big_number 4 (drop 9 bytes)
  pub token : c.token ≡ take 32 (drop 13 bytes)

pub commit_at : (bytes : List ℕ) (c : Commit) → commit_of (drop 5 bytes) ≡ Some c → CommitAt bytes c
unfolding commit_of token_at
commit_at bytes c e =
    let w = whole_some (made commit_from (both (number_at 4) (both (number_at 4) token_at))) (drop 5 bytes) c e in
    let m = made_some commit_from (both (number_at 4) (both (number_at 4) token_at)) (drop 5 bytes) (c, w.0) w.1 in
    let a = both_some 4 5 (number_at 4) (both (number_at 4) token_at) (Takes-number 4) bytes (m.0, w.0) m.1 in
    let b = both_some 4 9 (number_at 4) token_at (Takes-number 4) bytes (m.0.1, w.0) a.1 in
    let seq = number_some 4 (drop 5 bytes) (m.0.0, drop 9 bytes) a.0 in
    let view = number_some 4 (drop 9 bytes) (m.0.1.0, drop 13 bytes) b.0 in
    let token = bytes_some 32 (drop 13 bytes) (m.0.1.1, w.0) b.1 in
    let more = token.0 in
    record {
      long = omega (arith, more, w.2, ap length token.2, length-drop 32 (drop 13 bytes), length-drop 13 bytes);
      seq = ap (λ (x : Commit). x.seq) m.2 ∙ seq.1;
      view = ap (λ (x : Commit). x.view) m.2 ∙ view.1;
      token = ap (λ (x : Commit). x.token) m.2 ∙ token.1;
    }

pub commit_read : (bytes : List ℕ) → IsTrue (has_commit_body bytes) → commit_of (drop 5 bytes) ≡ Some (commit_in bytes)
unfolding commit_in
commit_read bytes there = found (commit_of (drop 5 bytes)) _ there

pub commit_long : (bytes : List ℕ) → IsTrue (has_commit_body bytes) → length bytes ≡ 45
commit_long bytes there = (commit_at bytes (commit_in bytes) (commit_read bytes there)).long

pub commit_seq : (bytes : List ℕ) → IsTrue (has_commit_body bytes) → (commit_in bytes).seq ≡ big_number 4 (drop 5 bytes)
commit_seq bytes there = (commit_at bytes (commit_in bytes) (commit_read bytes there)).seq

pub commit_view : (bytes : List ℕ) → IsTrue (has_commit_body bytes) → (commit_in bytes).view
    ≡ big_number 4 (drop 9 bytes)
commit_view bytes there = (commit_at bytes (commit_in bytes) (commit_read bytes there)).view

pub commit_token : (bytes : List ℕ) → IsTrue (has_commit_body bytes) → (commit_in bytes).token ≡ take 32 (drop 13 bytes)
commit_token bytes there = (commit_at bytes (commit_in bytes) (commit_read bytes there)).token

pub ruleset commit_laws = (commit_read, commit_long, commit_seq, commit_view, commit_token)
