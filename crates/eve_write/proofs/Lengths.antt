-- How long parts of frames are.
use Rattle.std.proofs.Common.{◌≡◌, ℕ, ◌+◌, ◌*◌, ◌≤◌, ◌&&◌, IsTrue, List, ◌++◌, length, refl, arith}
use Rattle.std.proofs.Common.{length-append, eqb, leb, eqb-true, leb-true, Bool, map, sum, ap, sym, ◌∙◌}
use Rattle.std.specs.List.{flat_map, list_all}
use Rattle.std.proofs.lemmas.Bool.{and_parts}
use Rattle.byteorder.specs.Endian.{big_bytes}
use Rattle.eve_smallbank.specs.declared.request.Reply.{Reply}
use Rattle.eve_smallbank.specs.Spelling.{reply_text}
use Rattle.std.proofs.lemmas.List.Folds.{list_all-map}
use Rattle.eve_grammar.specs.Trace.{Asked, Batch, Attempt}
use Rattle.eve_grammar.specs.Spelling.{asked_text}
use Rattle.eve_grammar.specs.Limits.{is_number, is_between, is_reply, is_token, is_attempt, is_asked, is_batch}
use Rattle.eve_grammar.proofs.BodyCodecs.{sum_short}
use Rattle.eve_grammar.proofs.PartCodecs.{reply_length}
use Rattle.eve_grammar.proofs.Scans.{text_length}

-- what an attempt's limits say of its lengths
pub record IsCounted (a : Attempt) : Type 0 where
  pub few : length a.certificate ≤ 256
  pub replies : length a.replies ≡ length a.certificate
  pub token : length a.token ≡ 32

pub IsCounted-from_test : (a : Attempt) → IsTrue (is_attempt a) → IsCounted a
IsCounted-from_test a right =
    let p = and_parts (is_number 4 a.seq)
    (is_number 4 a.view && (is_between 1 256 (length a.certificate) &&
    (list_all (is_number 2) a.certificate &&
    (eqb (length a.replies) (length a.certificate) && (list_all is_reply a.replies && is_token a.token))))) right in
    let q = and_parts (is_number 4 a.view)
    (is_between 1 256 (length a.certificate) &&
    (list_all (is_number 2) a.certificate &&
    (eqb (length a.replies) (length a.certificate) && (list_all is_reply a.replies && is_token a.token)))) p.1 in
    let r = and_parts (is_between 1 256 (length a.certificate))
    (list_all (is_number 2) a.certificate &&
    (eqb (length a.replies) (length a.certificate) && (list_all is_reply a.replies && is_token a.token))) q.1 in
    let s = and_parts (list_all (is_number 2) a.certificate)
    (eqb (length a.replies) (length a.certificate) && (list_all is_reply a.replies && is_token a.token)) r.1 in
    let t = and_parts (eqb (length a.replies) (length a.certificate)) (list_all is_reply a.replies && is_token a.token)
    s.1 in
    let u = and_parts (list_all is_reply a.replies) (is_token a.token) t.1 in
    record {
      few = leb-true _ _ (and_parts (leb 1 (length a.certificate)) (leb (length a.certificate) 256) r.0).1;
      replies = eqb-true _ _ t.0;
      token = eqb-true _ _ (and_parts (eqb (length a.token) 32) (list_all (is_number 1) a.token) u.1).0;
    }

-- certificate, replies and token together
pub length-results : (certificate : List ℕ) (replies : List Reply) (token : List ℕ) → length replies
    ≡ length certificate → length token ≡ 32
    → length (flat_map (big_bytes 2) certificate ++ (flat_map reply_text replies ++ token))
    ≡ 32 + 11 * length certificate
length-results certificate replies token same long =
    omega (
      arith,
      length-append (flat_map (big_bytes 2) certificate) (flat_map reply_text replies ++ token),
      length-append (flat_map reply_text replies) token,
      text_length 2 (big_bytes 2) (λ n. refl) certificate,
      text_length 9 reply_text reply_length replies,
    )

-- what a batch's limits say of its lengths
pub record IsGrouped (b : Batch) : Type 0 where
  pub some : 1 ≤ length b.sizes
  pub sized : IsTrue (list_all (leb 1) b.sizes)
  pub total : sum b.sizes ≤ 256
  pub many : length b.requests ≡ sum b.sizes
  pub groups : length b.sizes ≤ 256
  pub requests : length b.requests ≤ 256
  pub right : IsTrue (list_all is_asked b.requests)

pub IsGrouped-from_test : (b : Batch) → IsTrue (is_batch b) → IsGrouped b
IsGrouped-from_test b right =
    let p = and_parts (leb 1 (length b.sizes))
    (list_all (leb 1) b.sizes &&
    (leb (sum b.sizes) 256 && (eqb (length b.requests) (sum b.sizes) && list_all is_asked b.requests))) right in
    let q = and_parts (list_all (leb 1) b.sizes)
    (leb (sum b.sizes) 256 && (eqb (length b.requests) (sum b.sizes) && list_all is_asked b.requests)) p.1 in
    let r = and_parts (leb (sum b.sizes) 256) (eqb (length b.requests) (sum b.sizes) && list_all is_asked b.requests)
    q.1 in
    let s = and_parts (eqb (length b.requests) (sum b.sizes)) (list_all is_asked b.requests) r.1 in
    let total : sum b.sizes ≤ 256 = leb-true _ _ r.0 in
    let many : length b.requests ≡ sum b.sizes = eqb-true _ _ s.0 in
    record {
      some = leb-true _ _ p.0;
      sized = q.0;
      total = total;
      many = many;
      groups = omega (arith, sum_short b.sizes q.0);
      requests = omega arith;
      right = s.1;
    }

-- sizes and requests together
pub length-groups : (sizes : List ℕ) (requests : List Asked)
    → length (flat_map (big_bytes 2) sizes ++ flat_map asked_text requests)
    ≡ 2 * length sizes + length (flat_map asked_text requests)
length-groups sizes requests =
    omega (
      arith,
      length-append (flat_map (big_bytes 2) sizes) (flat_map asked_text requests),
      text_length 2 (big_bytes 2) (λ n. refl) sizes,
    )

-- all items of the code pass where all that they are do
pub all_as : {X Y : Type 0} (p : Y → Bool) (view : X → Y) (xs ys : List X) → xs ≡ ys → IsTrue (list_all p (map view ys))
    → IsTrue (list_all (λ x. p (view x)) xs)
all_as p view xs ys same right = ap (list_all (λ x. p (view x))) same ∙ sym (list_all-map p view ys) ∙ right
