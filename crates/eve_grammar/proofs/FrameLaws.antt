-- Public: other crates cite these lemmas. What `body_of` reads is spelled so, and what fits at a place is read back;
-- the same of the header.
use Rattle.std.proofs.Common.{◌≡◌, ℕ, ◌+◌, ◌^◌, ◌<◌, ◌≤◌, Bool, true, false, not, ◌&&◌, ◌||◌, cond, ltb, eqb}
use Rattle.std.proofs.Common.{◌⊎◌, List, ◌++◌, length, Some, None, refl, sym, subst, arith, inl, inr}
use Rattle.std.specs.Prelude.{IsTrue, codes}
use Rattle.std.proofs.lemmas.Bool.{ltb-true, lt-ltb, eqb-true, and_parts, and_from}
use Rattle.std.proofs.lemmas.List.{nil_from_length}
use Rattle.std.proofs.lemmas.Option.{same_Some}
use Rattle.byteorder.specs.Endian.{big_bytes}
use Rattle.eve_grammar.specs.Trace.{Trace, head_of}
use Rattle.eve_grammar.specs.Frames.{Frame, OfCustomer, OfBatch, OfReplica, OfAttempt, OfAccess, OfCommit, OfRollback}
use Rattle.eve_grammar.specs.Frames.{OfTransfer, OfVerifier, OfVote, OfSent, End, kind_of, is_allowed}
use Rattle.eve_grammar.specs.Limits.{is_number, is_batch, is_head, row_count, is_body, FitsAt, HasLimits}
use Rattle.eve_grammar.specs.Spelling.{body_text, head_text}
use Rattle.eve_grammar.specs.Readers.{number_at, both, made, only, behind, customer_of, batch_of, number_of, attempt_of}
use Rattle.eve_grammar.specs.Readers.{access_of, commit_of, rollback_of, transfer_of, vote_of, sent_of, body_of}
use Rattle.eve_grammar.specs.Readers.{head_from, header_of}
use Rattle.eve_grammar.proofs.Codec.{IsBytes, bind_some, guard_some, Codec, Codec-as, Codec-made, Codec-both}
use Rattle.eve_grammar.proofs.Codec.{Codec-only, whole_takes, whole_again}
use Rattle.eve_grammar.proofs.FieldCodecs.{Codec-number1, Codec-number2, Codec-number3, Codec-number4, Codec-behind}
use Rattle.eve_grammar.proofs.PartCodecs.{chosen}
use Rattle.eve_grammar.proofs.HeadLimits.{head_has_limits, few_customers}
use Rattle.eve_grammar.proofs.BodyCodecs.{Exact, Exact-customer, Exact-batch, Exact-number, Exact-attempt, Exact-access}
use Rattle.eve_grammar.proofs.BodyCodecs.{Exact-commit, Exact-rollback, Exact-transfer, Exact-vote, Exact-sent}
use Rattle.eve_grammar.specs.declared.head.Head.{Head}
use Rattle.eve_grammar.specs.declared.place.Place.{Place}

-- ---- the header

pub few_batches : (t : Trace) → HasLimits t → length t.batches ≤ 65535
few_batches t limits = (head_has_limits (head_of t) limits.head).few_batches

-- the 18 bytes of the header between the first six and the length
abbrev pub limits_text : Head → List ℕ
limits_text h =
    big_bytes 2 h.version ++ (big_bytes 1 h.replicas ++
    (big_bytes 1 h.verifiers ++ (big_bytes 1 h.quorum ++ (big_bytes 1 h.window
    ++ (big_bytes 1 h.workers ++ (big_bytes 3 0 ++ (big_bytes 4 h.customers ++ big_bytes 4 h.batches)))))))

abbrev head_parts : Head → ℕ × (ℕ × (ℕ × (ℕ × (ℕ × (ℕ × (ℕ × ℕ))))))
head_parts h =
    (h.version, (h.replicas, (h.verifiers, (h.quorum, (h.window, (h.workers, (h.customers, h.batches)))))))

abbrev are_limits : ℕ × (ℕ × (ℕ × (ℕ × (ℕ × (ℕ × (ℕ × ℕ)))))) → Bool
are_limits p =
    is_number 2 p.0 && (is_number 1 p.1.0 &&
    (is_number 1 p.1.1.0 && (is_number 1 p.1.1.1.0 && (is_number 1 p.1.1.1.1.0 &&
    (is_number 1 p.1.1.1.1.1.0 && (is_number 4 p.1.1.1.1.1.1.0 && is_number 4 p.1.1.1.1.1.1.1))))))

limits_small : (h : Head) → IsTrue (is_head h) → IsTrue (are_limits (head_parts h))
limits_small h fits =
    let s = head_has_limits h fits in
    and_from (is_number 2 h.version) _ (lt-ltb _ (256 ^ 2) (let x = s.known_version in omega arith))
    (and_from (is_number 1 h.replicas) _ (lt-ltb _ 256 (let x = s.few_replicas in omega arith))
    (and_from (is_number 1 h.verifiers) _ (lt-ltb _ 256 (let x = s.few_verifiers in omega arith))
    (and_from (is_number 1 h.quorum) _ (lt-ltb _ 256 (let x = s.quorum in let y = s.few_verifiers in omega arith))
    (and_from (is_number 1 h.window) _ (lt-ltb _ 256 (let x = s.few_window in omega arith))
    (and_from (is_number 1 h.workers) _ (lt-ltb _ 256 (let x = s.few_workers in omega arith))
    (and_from (is_number 4 h.customers) (is_number 4 h.batches)
    (lt-ltb _ (256 ^ 4) (let x = few_customers h fits in omega arith))
    (lt-ltb _ (256 ^ 4) (let x = s.few_batches in omega arith))))))))

abbrev are_written : Head → Bool
are_written h = are_limits (head_parts h)

header_codec : Codec limits_text is_head
    (only is_head (made head_from (both (number_at 2)
    (both (number_at 1) (both (number_at 1) (both (number_at 1)
    (both (number_at 1) (both (number_at 1) (behind 3 0 (both (number_at 4) (number_at 4)))))))))))
header_codec =
    Codec-as limits_text limits_text (λ h. is_head h && are_written h) is_head _ (λ h fits. refl)
    (λ h fits. (and_parts (is_head h) (are_written h) fits).0)
    (λ h fits. and_from (is_head h) (are_written h) fits (limits_small h fits))
    (Codec-only _ are_written
    (made head_from (both (number_at 2)
    (both (number_at 1) (both (number_at 1) (both (number_at 1)
    (both (number_at 1) (both (number_at 1) (behind 3 0 (both (number_at 4) (number_at 4)))))))))) is_head
    (Codec-made _ are_limits
    (both (number_at 2) (both (number_at 1) (both (number_at 1) (both (number_at 1)
    (both (number_at 1) (both (number_at 1) (behind 3 0 (both (number_at 4) (number_at 4)))))))))
    head_from head_parts are_written (λ p fits. (refl, fits)) (λ h fits. (refl, fits))
    (Codec-both (big_bytes 2) (is_number 2) (number_at 2) _ _ _ Codec-number2
    (Codec-both (big_bytes 1) (is_number 1) (number_at 1) _ _ _ Codec-number1
    (Codec-both (big_bytes 1) (is_number 1) (number_at 1) _ _ _ Codec-number1
    (Codec-both (big_bytes 1) (is_number 1) (number_at 1) _ _ _ Codec-number1
    (Codec-both (big_bytes 1) (is_number 1) (number_at 1) _ _ _ Codec-number1
    (Codec-both (big_bytes 1) (is_number 1) (number_at 1) _ _ _ Codec-number1
    (Codec-behind 3 0 _ _ (both (number_at 4) (number_at 4)) Codec-number3 refl
    (Codec-both (big_bytes 4) (is_number 4) (number_at 4) (big_bytes 4) (is_number 4) (number_at 4) Codec-number4
    Codec-number4))))))))))

pub Exact-header : Exact limits_text is_head header_of
unfolding header_of
Exact-header = record { takes = whole_takes _ _ _ header_codec; again = whole_again _ _ _ header_codec }

pub head_text_parts : (h : Head) (total : ℕ) → head_text h total
    ≡ codes "EVESBK" ++ (limits_text h ++ big_bytes 8 total)
unfolding head_text
head_text_parts h total = refl

-- ---- bodies

-- the body is that of the frame, which fits there
pub record BodyOf (h : Head) (p : Place) (kind : ℕ) (body : List ℕ) (f : Frame) : Type 0 where
  pub kind_is : kind ≡ kind_of f
  pub text : body ≡ body_text f
  pub fits : IsTrue (is_body h p f)

few_rows : (h : Head) → IsTrue (is_head h) → row_count h < 2 ^ 32
few_rows h fits = let s = few_customers h fits in omega arith

-- of this kind, and so of that
at_kind : (h : Head) (p : Place) (body : List ℕ) (kind n : ℕ) (f : Frame) → eqb kind n ≡ true → BodyOf h p n body f
    → BodyOf h p kind body f
at_kind h p body kind n f e b = subst (λ (k : ℕ). BodyOf h p k body f) (sym (eqb-true kind n e)) b

pub body_of-takes : (h : Head) (p : Place) (kind : ℕ) (body : List ℕ) (f : Frame) → IsTrue (is_head h) → IsBytes body
    → body_of h p kind body ≡ Some f → BodyOf h p kind body f
unfolding body_of
body_of-takes h p kind body f right fits e =
    elim (chosen (eqb kind 1) _ _ (Some f) e) [
      | inl c ↦
          let a = bind_some (customer_of body) (λ c. Some (OfCustomer c)) f c.1 in
          let t = Exact-customer.takes body a.0 fits a.1 in
          at_kind h p body kind 1 f c.0
          (subst (BodyOf h p 1 body) (same_Some (OfCustomer a.0) f a.2)
          (record { kind_is = refl; text = t.0; fits = t.1 }))
      | inr c ↦ elim (chosen (eqb kind 2) _ _ (Some f) c.1) [
        | inl c ↦
            let a = bind_some (batch_of body) (λ b. cond (eqb b.0 (p.batches + 1)) (Some (OfBatch b.0 b.1)) None) f c.1
            in
            let g = guard_some (eqb a.0.0 (p.batches + 1)) _ f a.2 in
            let t = Exact-batch.takes body a.0 fits a.1 in
            at_kind h p body kind 2 f c.0
            (subst (BodyOf h p 2 body) (same_Some (OfBatch a.0.0 a.0.1) f g.1)
            (record {
              kind_is = refl;
              text = t.0;
              fits = and_from (eqb a.0.0 (p.batches + 1)) (is_batch a.0.1) g.0
                  (and_parts (is_number 4 a.0.0) (is_batch a.0.1) t.1).1;
            }))
        | inr c ↦ elim (chosen (eqb kind 16) _ _ (Some f) c.1) [
          | inl c ↦
              let a = bind_some (number_of body) (λ n. cond (eqb n p.replicas) (Some (OfReplica n)) None) f c.1 in
              let g = guard_some (eqb a.0 p.replicas) _ f a.2 in
              let t = Exact-number.takes body a.0 fits a.1 in
              at_kind h p body kind 16 f c.0
              (subst (BodyOf h p 16 body) (same_Some (OfReplica a.0) f g.1)
              (record { kind_is = refl; text = t.0; fits = g.0 }))
          | inr c ↦ elim (chosen (eqb kind 17) _ _ (Some f) c.1) [
            | inl c ↦
                let a = bind_some (attempt_of body) (λ a. Some (OfAttempt a)) f c.1 in
                let t = Exact-attempt.takes body a.0 fits a.1 in
                at_kind h p body kind 17 f c.0
                (subst (BodyOf h p 17 body) (same_Some (OfAttempt a.0) f a.2)
                (record { kind_is = refl; text = t.0; fits = t.1 }))
            | inr c ↦ elim (chosen (eqb kind 18) _ _ (Some f) c.1) [
              | inl c ↦
                  let a = bind_some (access_of (row_count h) body) (λ x. Some (OfAccess x)) f c.1 in
                  let few = few_rows h right in
                  let t = (Exact-access (row_count h) (omega arith)).takes body a.0 fits a.1 in
                  at_kind h p body kind 18 f c.0
                  (subst (BodyOf h p 18 body) (same_Some (OfAccess a.0) f a.2)
                  (record { kind_is = refl; text = t.0; fits = t.1 }))
              | inr c ↦ elim (chosen (eqb kind 19) _ _ (Some f) c.1) [
                | inl c ↦
                    let a = bind_some (commit_of body) (λ c. Some (OfCommit c)) f c.1 in
                    let t = Exact-commit.takes body a.0 fits a.1 in
                    at_kind h p body kind 19 f c.0
                    (subst (BodyOf h p 19 body) (same_Some (OfCommit a.0) f a.2)
                    (record { kind_is = refl; text = t.0; fits = t.1 }))
                | inr c ↦ elim (chosen (eqb kind 20) _ _ (Some f) c.1) [
                  | inl c ↦
                      let a = bind_some (rollback_of (row_count h) body) (λ r. Some (OfRollback r)) f c.1 in
                      let t = (Exact-rollback (row_count h) (few_rows h right)).takes body a.0 fits a.1 in
                      at_kind h p body kind 20 f c.0
                      (subst (BodyOf h p 20 body) (same_Some (OfRollback a.0) f a.2)
                      (record { kind_is = refl; text = t.0; fits = t.1 }))
                  | inr c ↦ elim (chosen (eqb kind 21) _ _ (Some f) c.1) [
                    | inl c ↦
                        let a = bind_some (transfer_of (row_count h) body) (λ x. Some (OfTransfer x)) f c.1 in
                        let t = (Exact-transfer (row_count h)).takes body a.0 fits a.1 in
                        at_kind h p body kind 21 f c.0
                        (subst (BodyOf h p 21 body) (same_Some (OfTransfer a.0) f a.2)
                        (record { kind_is = refl; text = t.0; fits = t.1 }))
                    | inr c ↦ elim (chosen (eqb kind 32) _ _ (Some f) c.1) [
                      | inl c ↦
                          let a = bind_some (number_of body) (λ n. cond (eqb n p.verifiers) (Some (OfVerifier n)) None)
                          f c.1 in
                          let g = guard_some (eqb a.0 p.verifiers) _ f a.2 in
                          let t = Exact-number.takes body a.0 fits a.1 in
                          at_kind h p body kind 32 f c.0
                          (subst (BodyOf h p 32 body) (same_Some (OfVerifier a.0) f g.1)
                          (record { kind_is = refl; text = t.0; fits = g.0 }))
                      | inr c ↦ elim (chosen (eqb kind 33) _ _ (Some f) c.1) [
                        | inl c ↦
                            let a = bind_some (vote_of h.batches body) (λ v. Some (OfVote v)) f c.1 in
                            let s = (head_has_limits h right).few_batches in
                            let t = (Exact-vote h.batches (omega arith)).takes body a.0 fits a.1 in
                            at_kind h p body kind 33 f c.0
                            (subst (BodyOf h p 33 body) (same_Some (OfVote a.0) f a.2)
                            (record { kind_is = refl; text = t.0; fits = t.1 }))
                        | inr c ↦ elim (chosen (eqb kind 48) _ _ (Some f) c.1) [
                          | inl c ↦
                              let a = bind_some (sent_of h.replicas h.batches body) (λ s. Some (OfSent s)) f c.1 in
                              let s = head_has_limits h right in
                              let t = (Exact-sent h.replicas h.batches (let x = s.few_replicas in omega arith)
                              (let x = s.few_batches in omega arith)).takes body a.0 fits a.1 in
                              at_kind h p body kind 48 f c.0
                              (subst (BodyOf h p 48 body) (same_Some (OfSent a.0) f a.2)
                              (record { kind_is = refl; text = t.0; fits = t.1 }))
                          | inr c ↦
                              let g = guard_some (eqb kind 127) _ f c.1 in
                              let n = guard_some (eqb (length body) 0) _ f g.1 in
                              at_kind h p body kind 127 f g.0
                              (subst (BodyOf h p 127 body) (same_Some End f n.1)
                              (record {
                                kind_is = refl;
                                text = nil_from_length body (eqb-true _ _ n.0);
                                fits = refl;
                              }))
                        ]
                      ]
                    ]
                  ]
                ]
              ]
            ]
          ]
        ]
      ]
    ]

-- a batch may stand where one is still to come
batch_room : (h : Head) (p : Place) → is_allowed h p 2 ≡ true → p.batches < h.batches
batch_room h p e = ltb-true p.batches h.batches
    (by p.ended (ltb p.customers h.customers) (ltb p.batches h.batches) (ltb 0 p.accesses) (eqb p.verifiers 0)
    (ltb 0 p.replicas) p.sending (eqb p.verifiers h.verifiers) e)
  where
    by : (ended c b a v r s l : Bool)
        → cond ended false (cond c false
        (cond b true (cond a false (cond v ((r && false) || false) ((not s && false) || (l && false)))))) ≡ true
        → b ≡ true
    by true c b a v r s l e = absurd cc
    by false true b a v r s l e = absurd cc
    by false false true a v r s l e = refl
    by false false false true v r s l e = absurd cc
    by false false false false true true s l e = absurd cc
    by false false false false true false s l e = absurd cc
    by false false false false false r true true e = absurd cc
    by false false false false false r true false e = absurd cc
    by false false false false false r false true e = absurd cc
    by false false false false false r false false e = absurd cc

-- so may a replica's frame
replica_room : (h : Head) (p : Place) → is_allowed h p 16 ≡ true → p.replicas < h.replicas
replica_room h p e = ltb-true p.replicas h.replicas
    (by p.ended (ltb p.customers h.customers) (ltb p.batches h.batches) (ltb 0 p.accesses) (eqb p.verifiers 0)
    (ltb p.replicas h.replicas) (ltb 0 p.replicas) p.sending (eqb p.verifiers h.verifiers) e)
  where
    by : (ended c b a v u r s l : Bool)
        → cond ended false (cond c false
        (cond b false (cond a false (cond v (u || ((r && false) || false)) ((not s && false) || (l && false)))))) ≡ true
        → u ≡ true
    by true c b a v u r s l e = absurd cc
    by false true b a v u r s l e = absurd cc
    by false false true a v u r s l e = absurd cc
    by false false false true v u r s l e = absurd cc
    by false false false false true true r s l e = refl
    by false false false false true false true s l e = absurd cc
    by false false false false true false false s l e = absurd cc
    by false false false false false u r true true e = absurd cc
    by false false false false false u r true false e = absurd cc
    by false false false false false u r false true e = absurd cc
    by false false false false false u r false false e = absurd cc

-- so may a verifier's frame, also after the last replica
verifier_room : (h : Head) (p : Place) → is_allowed h p 32 ≡ true → (p.verifiers ≡ 0) ⊎ (p.verifiers < h.verifiers)
verifier_room h p e =
    elim (by p.ended (ltb p.customers h.customers) (ltb p.batches h.batches) (ltb 0 p.accesses) (eqb p.verifiers 0)
    (ltb 0 p.replicas) (eqb p.replicas h.replicas) p.sending (ltb p.verifiers h.verifiers)
    (eqb p.verifiers h.verifiers) e) [
      | inl none ↦ inl (eqb-true p.verifiers 0 none)
      | inr more ↦ inr (ltb-true p.verifiers h.verifiers more)
    ]
  where
    by : (ended c b a v r w s x l : Bool)
        → cond ended false (cond c false
        (cond b false (cond a false (cond v ((r && false) || w) ((not s && (x || false)) || (l && false)))))) ≡ true
        → (v ≡ true) ⊎ (x ≡ true)
    by true c b a v r w s x l e = absurd cc
    by false true b a v r w s x l e = absurd cc
    by false false true a v r w s x l e = absurd cc
    by false false false true v r w s x l e = absurd cc
    by false false false false true r w s x l e = inl refl
    by false false false false false r w s true l e = inr refl
    by false false false false false r w true false true e = absurd cc
    by false false false false false r w true false false e = absurd cc
    by false false false false false r w false false true e = absurd cc
    by false false false false false r w false false false e = absurd cc

pub body_of-again : (h : Head) (p : Place) (f : Frame) → IsTrue (is_head h) → FitsAt h p f
    → body_of h p (kind_of f) (body_text f) ≡ Some f
unfolding body_of
body_of-again h p (OfCustomer c) right fits = rw (Exact-customer.again c fits.body) refl
body_of-again h p (OfBatch number b) right fits =
    let parts = and_parts (eqb number (p.batches + 1)) (is_batch b) fits.body in
    let room = batch_room h p fits.allowed in
    let few = (head_has_limits h right).few_batches in
    let same = eqb-true number (p.batches + 1) parts.0 in
    let read : batch_of (body_text (OfBatch number b)) ≡ Some (number, b) =
    Exact-batch.again (number, b)
    (and_from (is_number 4 number) (is_batch b) (lt-ltb number (256 ^ 4) (omega arith)) parts.1) in
    let test : eqb number (p.batches + 1) ≡ true = parts.0 in
    rw (read, test) refl
body_of-again h p (OfReplica number) right fits =
    let test : eqb number p.replicas ≡ true = fits.body in
    let room = replica_room h p fits.allowed in
    let few = (head_has_limits h right).few_replicas in
    let same = eqb-true number p.replicas test in
    let read : number_of (big_bytes 1 number) ≡ Some number =
    Exact-number.again number (lt-ltb number 256 (omega arith)) in
    rw (read, test) refl
body_of-again h p (OfAttempt a) right fits = rw (Exact-attempt.again a fits.body) refl
body_of-again h p (OfAccess x) right fits = let few = few_rows h right in
    rw ((Exact-access (row_count h) (omega arith)).again x fits.body) refl
body_of-again h p (OfCommit c) right fits = rw (Exact-commit.again c fits.body) refl
body_of-again h p (OfRollback r) right fits = rw ((Exact-rollback (row_count h) (few_rows h right)).again r fits.body)
    refl
body_of-again h p (OfTransfer x) right fits = rw ((Exact-transfer (row_count h)).again x fits.body) refl
body_of-again h p (OfVerifier number) right fits =
    let test : eqb number p.verifiers ≡ true = fits.body in
    let few = (head_has_limits h right).few_verifiers in
    let same = eqb-true number p.verifiers test in
    let short : number < 256 = elim (verifier_room h p fits.allowed) [ inl none ↦ omega arith | inr room ↦ omega arith ]
    in
    let read : number_of (big_bytes 1 number) ≡ Some number = Exact-number.again number (lt-ltb number 256 short) in
    rw (read, test) refl
body_of-again h p (OfVote v) right fits = let few = (head_has_limits h right).few_batches in
    rw ((Exact-vote h.batches (omega arith)).again v fits.body) refl
body_of-again h p (OfSent s) right fits =
    let small = head_has_limits h right in
    rw ((Exact-sent h.replicas h.batches (let x = small.few_replicas in omega arith)
    (let x = small.few_batches in omega arith)).again s fits.body) refl
body_of-again h p End right fits = refl
