-- Where a Vote frame's fields stand.
use Rattle.std.proofs.Common.{◌≡◌, ℕ, Bool, true, false, cond, eqb, List, length, get_or, take, drop, Some, None, refl}
use Rattle.std.proofs.Common.{sym, ap, ◌∙◌, arith}
use Rattle.std.specs.Prelude.{IsTrue}
use Rattle.std.specs.List.{list_all}
use Rattle.std.proofs.lemmas.Bool.{eqb-true}
use Rattle.std.proofs.lemmas.List.{length-drop}
use Rattle.byteorder.specs.Endian.{big_number}
use Rattle.eve_grammar.specs.Trace.{Choice, ForRollback, ForCommit, Vote}
use Rattle.eve_grammar.specs.Limits.{is_between}
use Rattle.eve_grammar.specs.Readers.{number_at, both, made, made_if, only, choice_from, vote_from, token_at, vote_of}
use Rattle.eve_grammar.specs.declared.limits.TheConstants.{MOST_BATCHES}
use Rattle.eve_frames.specs.Views.{has_vote_body, vote_in}
use Rattle.eve_frames.proofs.Places.{found, number_some, bytes_some, made_some, made_if_some, only_some}
use Rattle.eve_grammar.proofs.Codec.{some_is}
use Rattle.eve_frames.proofs.Places.{whole_some, both_some, Takes-number, Takes-only, byte_at}

abbrev pub choice_at : List ℕ → Choice
choice_at bytes = cond (eqb (get_or bytes 13 0) 1) (ForCommit (take 32 (drop 14 bytes))) ForRollback

pub record VoteAt (bytes : List ℕ) (v : Vote) : Type 0 where
  pub long : length bytes ≡ 46
  pub seq : v.seq ≡ big_number 4 (drop 5 bytes)
  pub view : v.view ≡ big_number 4 (drop 9 bytes)
  pub choice : v.choice ≡ choice_at bytes

chosen : (code : ℕ) (token : List ℕ) (c : Choice) → choice_from (code, token) ≡ Some c
    → c ≡ cond (eqb code 1) (ForCommit token) ForRollback
chosen code token c = by (eqb code 1) (eqb code 0) (list_all (λ byte. eqb byte 0) token)
  where
    by : (one zero zeros : Bool)
        → cond one (Some (ForCommit token)) (cond zero (cond zeros (Some ForRollback) None) None) ≡ Some c
        → c ≡ cond one (ForCommit token) ForRollback
    by true zero zeros e = sym (some_is (ForCommit token) c e)
    by false true true e = sym (some_is ForRollback c e)
    by false true false e = absurd cc
    by false false zeros e = absurd cc

pub vote_at : (bytes : List ℕ) (v : Vote) → vote_of MOST_BATCHES (drop 5 bytes) ≡ Some v → VoteAt bytes v
unfolding vote_of token_at
vote_at bytes v e =
    let seq_at = only (is_between 1 MOST_BATCHES) (number_at 4) in
    let choice_at = made_if choice_from (both (number_at 1) token_at) in
    let w = whole_some (made vote_from (both seq_at (both (number_at 4) choice_at))) (drop 5 bytes) v e in
    let m = made_some vote_from (both seq_at (both (number_at 4) choice_at)) (drop 5 bytes) (v, w.0) w.1 in
    let a = both_some 4 5 seq_at (both (number_at 4) choice_at)
    (Takes-only 4 (is_between 1 MOST_BATCHES) (number_at 4) (Takes-number 4)) bytes (m.0, w.0) m.1 in
    let b = both_some 4 9 (number_at 4) choice_at (Takes-number 4) bytes (m.0.1, w.0) a.1 in
    let c = made_if_some choice_from (both (number_at 1) token_at) (drop 13 bytes) (m.0.1.1, w.0) b.1 in
    let d = both_some 1 13 (number_at 1) token_at (Takes-number 1) bytes (c.0, w.0) c.1 in
    let seq = number_some 4 (drop 5 bytes) (m.0.0, drop 9 bytes)
    (only_some (is_between 1 MOST_BATCHES) (number_at 4) (drop 5 bytes) (m.0.0, drop 9 bytes) a.0).0 in
    let view = number_some 4 (drop 9 bytes) (m.0.1.0, drop 13 bytes) b.0 in
    let code = number_some 1 (drop 13 bytes) (c.0.0, drop 14 bytes) d.0 in
    let token = bytes_some 32 (drop 14 bytes) (c.0.1, w.0) d.1 in
    let more = token.0 in
    record {
      long = omega (arith, more, w.2, ap length token.2, length-drop 32 (drop 14 bytes), length-drop 14 bytes);
      seq = ap (λ (x : Vote). x.seq) m.2 ∙ seq.1;
      view = ap (λ (x : Vote). x.view) m.2 ∙ view.1;
      choice = ap (λ (x : Vote). x.choice) m.2 ∙ chosen c.0.0 c.0.1 m.0.1.1 c.2
          ∙ ap (λ (k : ℕ). cond (eqb k 1) (ForCommit c.0.1) ForRollback) (code.1 ∙ byte_at 13 bytes)
          ∙ ap (λ (t : List ℕ). cond (eqb (get_or bytes 13 0) 1) (ForCommit t) ForRollback) token.1;
    }

pub vote_read : (bytes : List ℕ) → IsTrue (has_vote_body bytes) → vote_of MOST_BATCHES (drop 5 bytes)
    ≡ Some (vote_in bytes)
unfolding vote_in
vote_read bytes there = found (vote_of MOST_BATCHES (drop 5 bytes)) _ there

abbrev placed : (bytes : List ℕ) → IsTrue (has_vote_body bytes) → VoteAt bytes (vote_in bytes)
placed bytes there = vote_at bytes (vote_in bytes) (vote_read bytes there)

pub vote_long : (bytes : List ℕ) → IsTrue (has_vote_body bytes) → length bytes ≡ 46
vote_long bytes there = (placed bytes there).long

pub vote_seq : (bytes : List ℕ) → IsTrue (has_vote_body bytes) → (vote_in bytes).seq ≡ big_number 4 (drop 5 bytes)
vote_seq bytes there = (placed bytes there).seq

pub vote_view : (bytes : List ℕ) → IsTrue (has_vote_body bytes) → (vote_in bytes).view ≡ big_number 4 (drop 9 bytes)
vote_view bytes there = (placed bytes there).view

pub vote_choice : (bytes : List ℕ) → IsTrue (has_vote_body bytes) → (vote_in bytes).choice ≡ choice_at bytes
vote_choice bytes there = (placed bytes there).choice

-- where the choice isn't 1
pub vote_rollback : (bytes : List ℕ) → IsTrue (has_vote_body bytes) → (get_or bytes 13 0 ≡ 1 → ⊥)
    → (vote_in bytes).choice ≡ ForRollback
vote_rollback bytes there other = (placed bytes there).choice ∙ by (eqb (get_or bytes 13 0) 1) refl
  where
    by : (b : Bool) → eqb (get_or bytes 13 0) 1 ≡ b → cond b (ForCommit (take 32 (drop 14 bytes))) ForRollback
        ≡ ForRollback
    by true e = absurd (other (eqb-true (get_or bytes 13 0) 1 e))
    by false e = refl

pub ruleset vote_laws = (vote_read, vote_long, vote_seq, vote_view, vote_choice, vote_rollback)
