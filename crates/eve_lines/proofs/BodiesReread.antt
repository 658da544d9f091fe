-- Public: other crates cite these lemmas. What the bodies of frames are read as, where they were spelled.
use Rattle.std.proofs.Common.{◌≡◌, ℕ, ◌+◌, cond, eqb}
use Rattle.std.proofs.Common.{List, Some, None, is_some, refl, ap}
use Rattle.std.proofs.Common.{◌∙◌}
use Rattle.std.specs.Prelude.{IsTrue}
use Rattle.std.proofs.lemmas.Option.{same_Some}
use Rattle.eve_grammar.specs.Trace.{Batch}
use Rattle.eve_grammar.specs.Frames.{OfBatch, OfReplica}
use Rattle.eve_grammar.specs.Frames.{OfVerifier}
use Rattle.eve_grammar.specs.Limits.{FitsAt, is_head}
use Rattle.eve_grammar.specs.Readers.{batch_of, body_of, number_of, transfer_of}
use Rattle.eve_grammar.specs.Spelling.{body_text, frame_text}
use Rattle.eve_grammar.specs.declared.head.Head.{Head}
use Rattle.eve_grammar.specs.declared.place.Place.{Place}
use Rattle.eve_grammar.proofs.Codec.{bind_some, guard_some}
use Rattle.eve_grammar.proofs.FrameLaws.{body_of-again}
use Rattle.eve_frames.specs.Views.{body_in, batch_in, has_batch_body, state_rows_in}

-- what the body of a batch is read as
pub batch_read : (h : Head) (p : Place) (number : ℕ) (b : Batch) → IsTrue (is_head h) → FitsAt h p (OfBatch number b)
    → batch_of (body_text (OfBatch number b)) ≡ Some (number, b)
unfolding body_of
batch_read h p number b right fits =
    let f = OfBatch number b in
    let a = bind_some (batch_of (body_text f)) (λ x. cond (eqb x.0 (p.batches + 1)) (Some (OfBatch x.0 x.1)) None) f
    (body_of-again h p f right fits) in
    let g = guard_some (eqb a.0.0 (p.batches + 1)) _ f a.2 in
    let same : OfBatch a.0.0 a.0.1 ≡ OfBatch number b = same_Some _ _ g.1 in
    let numbers : a.0.0 ≡ number = cc in
    let batches : a.0.1 ≡ b = cc in
    a.1 ∙ ap (λ (n : ℕ). Some (n, a.0.1)) numbers ∙ ap (λ (x : Batch). Some (number, x)) batches

pub batch_says : (h : Head) (p : Place) (number : ℕ) (b : Batch) → IsTrue (is_head h) → FitsAt h p (OfBatch number b)
    → IsTrue (has_batch_body (frame_text (OfBatch number b))) × (batch_in (frame_text (OfBatch number b)) ≡ (number, b))
unfolding batch_in
batch_says h p number b right fits =
    let read = batch_read h p number b right fits in
    (ap is_some read, rw read refl)

pub replica_read : (h : Head) (p : Place) (number : ℕ) → IsTrue (is_head h) → FitsAt h p (OfReplica number)
    → number_of (body_text (OfReplica number)) ≡ Some number
unfolding body_of
replica_read h p number right fits =
    let f = OfReplica number in
    let a = bind_some (number_of (body_text f)) (λ n. cond (eqb n p.replicas) (Some (OfReplica n)) None) f
    (body_of-again h p f right fits) in
    let g = guard_some (eqb a.0 p.replicas) _ f a.2 in
    let same : OfReplica a.0 ≡ OfReplica number = same_Some _ _ g.1 in
    let numbers : a.0 ≡ number = cc in
    a.1 ∙ ap Some numbers

pub verifier_read : (h : Head) (p : Place) (number : ℕ) → IsTrue (is_head h) → FitsAt h p (OfVerifier number)
    → number_of (body_text (OfVerifier number)) ≡ Some number
unfolding body_of
verifier_read h p number right fits =
    let f = OfVerifier number in
    let a = bind_some (number_of (body_text f)) (λ n. cond (eqb n p.verifiers) (Some (OfVerifier n)) None) f
    (body_of-again h p f right fits) in
    let g = guard_some (eqb a.0 p.verifiers) _ f a.2 in
    let same : OfVerifier a.0 ≡ OfVerifier number = same_Some _ _ g.1 in
    let numbers : a.0 ≡ number = cc in
    a.1 ∙ ap Some numbers

-- the rows of a Transfer are told by its length
abbrev pub RowsAreTold : Type 0
RowsAreTold = (rows : ℕ) (bytes : List ℕ) → IsTrue (is_some (transfer_of rows (body_in bytes)))
    → state_rows_in bytes ≡ rows
