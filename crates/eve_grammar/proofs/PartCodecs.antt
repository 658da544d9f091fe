-- Public: other crates cite these lemmas. Requests, replies, entries, restores and what rows have are
-- codecs.
use Rattle.std.proofs.Common.{◌≡◌, ℕ, ℤ, pos, ◌^◌, ◌≤◌, Bool, true, false, ◌&&◌, cond, ltb, leb, eqb, ◌⊎◌, List, ◌++◌}
use Rattle.std.proofs.Common.{length, Some, refl, sym, ap, subst, ◌∙◌, arith, inl, inr}
use Rattle.std.specs.Prelude.{IsTrue, if◌then◌else◌}
use Rattle.std.specs.Ordering.{int_eq}
use Rattle.std.proofs.lemmas.Bool.Decides.{Decides-int_eq}
use Rattle.std.proofs.lemmas.Bool.{ltb-true, lt-ltb, leb-true, eqb-true, eq-eqb, and_parts, and_from}
use Rattle.std.proofs.lemmas.Option.{same_Some}
use Rattle.byteorder.specs.Endian.{big_bytes}
use Rattle.eve_accounts.specs.Money.{is_balance}
use Rattle.eve_accounts.specs.Names.{is_name}
use Rattle.eve_smallbank.specs.SmallBank.{Request, Balance, DepositChecking, TransactSaving, Amalgamate, WriteCheck}
use Rattle.eve_smallbank.specs.Spelling.{money_text, abort_code, reply_text}
use Rattle.eve_smallbank.specs.declared.request.Abort.TheVariants.{NoSuchName, BadAmount, Insufficient, OutOfRange}
use Rattle.eve_smallbank.specs.declared.request.Reply.{Reply}
use Rattle.eve_smallbank.specs.declared.request.Reply.TheVariants.{Done, Total, Aborted}
use Rattle.eve_smallbank.specs.declared.entry.Kind.{Kind}
use Rattle.eve_smallbank.specs.declared.entry.Kind.TheVariants.{Read, Write}
use Rattle.eve_smallbank.specs.declared.entry.Entry.{Entry}
use Rattle.eve_smallbank.specs.Access.{is_write}
use Rattle.eve_grammar.specs.Trace.{Asked}
use Rattle.eve_grammar.specs.declared.limits.TheConstants.{MOST_VERSIONS}
use Rattle.eve_grammar.specs.Limits.{is_number, is_request, is_asked, is_reply, is_entry, is_restore, is_versioned}
use Rattle.eve_grammar.specs.Spelling.{name_text, request_text, asked_text, entry_text, restore_text, versioned_text}
use Rattle.eve_grammar.specs.Readers.{Reader, number_at, signed_at, both, made, made_if, only, name_at, move_at}
use Rattle.eve_grammar.specs.Readers.{coded_at, request_at, asked_from, asked_at, plain_reply, reply_from, reply_at}
use Rattle.eve_grammar.specs.Readers.{kind_from, entry_from, entry_fields_at, entry_at, restore_from, restore_fields_at}
use Rattle.eve_grammar.specs.Readers.{restore_at, versioned_from, versioned_fields_at, versioned_at}
use Rattle.eve_grammar.proofs.Codec.{IsBytes, bind_some, guard_some, Takes, Codec, Codec-as, Codec-made}
use Rattle.eve_grammar.proofs.Codec.{Codec-made_if, Codec-led_by, Codec-both, Codec-only}
use Rattle.eve_grammar.proofs.FieldCodecs.{Codec-number1, Codec-number4, Codec-number8, is_signed, Codec-signed}
use Rattle.eve_grammar.proofs.FieldCodecs.{balance_signed, Codec-name, move_text, is_move, Codec-move}
use Rattle.eve_grammar.specs.declared.restore.Restore.{Restore}
use Rattle.eve_smallbank.specs.declared.versioned.Versioned.{Versioned}

pub chosen : {A : Type 0} (b : Bool) (x y z : A) → cond b x y ≡ z → ((b ≡ true) × (x ≡ z)) ⊎ ((b ≡ false) × (y ≡ z))
chosen true x y z e = inl (refl, e)
chosen false x y z e = inr (refl, e)

-- ---- requests

abbrev code_of : Request → ℕ
code_of (Balance n) = 1
code_of (DepositChecking n v) = 2
code_of (TransactSaving n v) = 3
code_of (Amalgamate n m) = 4
code_of (WriteCheck n v) = 5

-- what stands after the code
abbrev coded_text : Request → List ℕ
coded_text (Balance n) = name_text n
coded_text (DepositChecking n v) = name_text n ++ money_text v
coded_text (TransactSaving n v) = name_text n ++ money_text v
coded_text (Amalgamate n m) = name_text n ++ name_text m
coded_text (WriteCheck n v) = name_text n ++ money_text v

abbrev names_text : List ℕ × List ℕ → List ℕ
names_text m = name_text m.0 ++ name_text m.1

abbrev are_names : List ℕ × List ℕ → Bool
are_names m = is_name m.0 && is_name m.1

Codec-names : Codec names_text are_names (both name_at name_at)
Codec-names = Codec-both name_text is_name name_at name_text is_name name_at Codec-name Codec-name

abbrev is_coded : ℕ → Request → Bool
is_coded code r = eqb (code_of r) code && is_request r

record IsRequestOf {A : Type 0} (code : ℕ) (to : A → Request) (ta : A → List ℕ) (fa : A → Bool) : Type 0 where
  is_code : (a : A) → code_of (to a) ≡ code
  is_text : (a : A) → coded_text (to a) ≡ ta a
  is_fit : (a : A) → is_request (to a) ≡ fa a

abbrev Coded : ℕ → List ℕ → Request × List ℕ → Type 0
Coded code bytes x = Takes bytes (coded_text x.0) x.1 × IsTrue (is_coded code x.0)

alternative : {A : Type 0} (ta : A → List ℕ) (fa : A → Bool) (ra : Reader A) → Codec ta fa ra → (code n : ℕ)
    → eqb code n ≡ true → (to : A → Request) → IsRequestOf n to ta fa
    → (bytes : List ℕ) (x : Request × List ℕ) → IsBytes bytes → made to ra bytes ≡ Some x → Coded code bytes x
alternative {A = A} ta fa ra one code n known to is bytes x fits e =
    let a = bind_some (ra bytes) (λ a. Some (to a.0, a.1)) x e in
    let t = one.takes bytes a.0 fits a.1 in
    let there : Request × List ℕ = (to a.0.0, a.0.1) in
    let text : Takes bytes (coded_text (to a.0.0)) a.0.1 = subst (λ (w : List ℕ). Takes bytes w a.0.1)
    (sym (is.is_text a.0.0)) t.0 in
    let right : IsTrue (is_request (to a.0.0)) = is.is_fit a.0.0 ∙ t.1 in
    let code_is : IsTrue (eqb (code_of (to a.0.0)) code) = eq-eqb _ _ (is.is_code a.0.0 ∙ sym (eqb-true code n known))
    in
    subst (λ (y : Request × List ℕ). Coded code bytes y) (same_Some there x a.2)
    (text, and_from (eqb (code_of (to a.0.0)) code) (is_request (to a.0.0)) code_is right)

coded_takes : (code : ℕ) (bytes : List ℕ) (x : Request × List ℕ) → IsBytes bytes → coded_at code bytes ≡ Some x
    → Coded code bytes x
unfolding coded_at
coded_takes code bytes x fits e =
    elim (chosen (eqb code 1) _ _ (Some x) e) [
      | inl p ↦ alternative name_text is_name name_at Codec-name code 1 p.0 Balance
          (record { is_code = λ a. refl; is_text = λ a. refl; is_fit = λ a. refl }) bytes x fits p.1
      | inr p ↦ elim (chosen (eqb code 2) _ _ (Some x) p.1) [
        | inl p ↦ alternative move_text is_move move_at Codec-move code 2 p.0 (λ m. DepositChecking m.0 m.1)
            (record { is_code = λ a. refl; is_text = λ a. refl; is_fit = λ a. refl }) bytes x fits p.1
        | inr p ↦ elim (chosen (eqb code 3) _ _ (Some x) p.1) [
          | inl p ↦ alternative move_text is_move move_at Codec-move code 3 p.0 (λ m. TransactSaving m.0 m.1)
              (record { is_code = λ a. refl; is_text = λ a. refl; is_fit = λ a. refl }) bytes x fits p.1
          | inr p ↦ elim (chosen (eqb code 4) _ _ (Some x) p.1) [
            | inl p ↦ alternative names_text are_names (both name_at name_at) Codec-names code 4 p.0
                (λ m. Amalgamate m.0 m.1) (record { is_code = λ a. refl; is_text = λ a. refl; is_fit = λ a. refl })
                bytes x fits p.1
            | inr p ↦ let g = guard_some (eqb code 5) _ x p.1 in alternative move_text is_move move_at Codec-move code 5
                g.0 (λ m. WriteCheck m.0 m.1) (record { is_code = λ a. refl; is_text = λ a. refl; is_fit = λ a. refl })
                bytes x fits g.1
          ]
        ]
      ]
    ]

coded_again : (r : Request) (rest : List ℕ) → IsTrue (is_request r) → coded_at (code_of r) (coded_text r ++ rest)
    ≡ Some (r, rest)
unfolding coded_at
coded_again (Balance n) rest fits = rw (Codec-name.again n rest fits) refl
coded_again (DepositChecking n v) rest fits = rw (Codec-move.again (n, v) rest fits) refl
coded_again (TransactSaving n v) rest fits = rw (Codec-move.again (n, v) rest fits) refl
coded_again (Amalgamate n m) rest fits = rw (Codec-names.again (n, m) rest fits) refl
coded_again (WriteCheck n v) rest fits = rw (Codec-move.again (n, v) rest fits) refl

Codec-coded : (code : ℕ) → Codec coded_text (is_coded code) (coded_at code)
Codec-coded code = record {
  takes = coded_takes code;
  again = λ r rest fits.
      let p = and_parts (eqb (code_of r) code) (is_request r) fits in
      subst (λ (k : ℕ). coded_at k (coded_text r ++ rest) ≡ Some (r, rest)) (eqb-true (code_of r) code p.0)
      (coded_again r rest p.1);
}

request_parts : (r : Request) → big_bytes 1 (code_of r) ++ coded_text r ≡ request_text r
request_parts (Balance n) = refl
request_parts (DepositChecking n v) = refl
request_parts (TransactSaving n v) = refl
request_parts (Amalgamate n m) = refl
request_parts (WriteCheck n v) = refl

code_below : (r : Request) → IsTrue (is_number 1 (code_of r))
code_below (Balance n) = refl
code_below (DepositChecking n v) = refl
code_below (TransactSaving n v) = refl
code_below (Amalgamate n m) = refl
code_below (WriteCheck n v) = refl

Codec-request : Codec request_text is_request request_at
unfolding request_at
Codec-request =
    Codec-as (λ r. big_bytes 1 (code_of r) ++ coded_text r) request_text
    (λ r. is_number 1 (code_of r) && is_coded (code_of r) r) is_request request_at
    (λ r fits. request_parts r)
    (λ r fits. (and_parts (eqb (code_of r) (code_of r)) (is_request r)
    (and_parts (is_number 1 (code_of r)) (is_coded (code_of r) r) fits).1).1)
    (λ r fits. and_from (is_number 1 (code_of r)) (is_coded (code_of r) r) (code_below r)
    (and_from (eqb (code_of r) (code_of r)) (is_request r) (eq-eqb (code_of r) (code_of r) refl) fits))
    (Codec-led_by (big_bytes 1) (is_number 1) (number_at 1) coded_text is_coded coded_at code_of
    (λ code r fits. eqb-true (code_of r) code (and_parts (eqb (code_of r) code) (is_request r) fits).0)
    Codec-number1 Codec-coded)

abbrev asked_parts : Asked → ℕ × (ℕ × Request)
asked_parts a = (a.client, (a.number, a.request))

pub Codec-asked : Codec asked_text is_asked asked_at
unfolding asked_at
Codec-asked =
    Codec-made (λ p. big_bytes 4 p.0 ++ (big_bytes 8 p.1.0 ++ request_text p.1.1))
    (λ p. is_number 4 p.0 && (is_number 8 p.1.0 && is_request p.1.1))
    (both (number_at 4) (both (number_at 8) request_at)) asked_from asked_parts is_asked
    (λ p fits. (refl, fits)) (λ a fits. (refl, fits))
    (Codec-both (big_bytes 4) (is_number 4) (number_at 4) (λ p. big_bytes 8 p.0 ++ request_text p.1)
    (λ p. is_number 8 p.0 && is_request p.1) (both (number_at 8) request_at) Codec-number4
    (Codec-both (big_bytes 8) (is_number 8) (number_at 8) request_text is_request request_at Codec-number8
    Codec-request))

-- ---- replies

abbrev reply_parts : Reply → ℕ × ℤ
reply_parts Done = (0, pos 0)
reply_parts (Total sum) = (1, sum)
reply_parts (Aborted why) = (abort_code why, pos 0)

abbrev coded_reply : ℕ → ℤ → Reply → Type 0
coded_reply code value r = (reply_parts r ≡ (code, value)) × IsTrue (is_reply r)

plain_back : (code n : ℕ) (value : ℤ) (s r : Reply) → eqb code n ≡ true → value ≡ pos 0 → reply_parts s ≡ (n, pos 0)
    → IsTrue (is_reply s) → Some s ≡ Some r → coded_reply code value r
plain_back code n value s r known zero_is parts fits e =
    subst (λ (r : Reply). coded_reply code value r) (same_Some s r e) (
      parts ∙ ap (λ (p : ℕ). (p, pos 0)) (sym (eqb-true code n known)) ∙ ap (λ (v : ℤ). (code, v)) (sym zero_is),
      fits,
    )

int_eq-true : (x y : ℤ) → int_eq x y ≡ true → x ≡ y
int_eq-true x y e = (Decides-int_eq x y).0 e

reply_back : (p : ℕ × ℤ) (r : Reply) → IsTrue (is_number 1 p.0 && is_signed p.1) → reply_from p ≡ Some r
    → (reply_parts r ≡ p) × IsTrue (is_reply r)
reply_back p r fits e =
    elim (chosen (eqb p.0 1) _ _ (Some r) e) [
      | inl q ↦
          let signed = (and_parts (is_number 1 p.0) (is_signed p.1) fits).1 in
          subst (λ (r : Reply). coded_reply p.0 p.1 r) (same_Some (Total p.1) r q.1)
          (ap (λ (k : ℕ). (k, p.1)) (sym (eqb-true p.0 1 q.0)), signed)
      | inr q ↦
          let g = guard_some (int_eq p.1 (pos 0)) (plain_reply p.0) r q.1 in
          let nothing = int_eq-true p.1 (pos 0) g.0 in
          elim (chosen (eqb p.0 0) _ _ (Some r) g.1) [
            | inl q ↦ plain_back p.0 0 p.1 Done r q.0 nothing refl refl q.1
            | inr q ↦ elim (chosen (eqb p.0 2) _ _ (Some r) q.1) [
              | inl q ↦ plain_back p.0 2 p.1 (Aborted NoSuchName) r q.0 nothing refl refl q.1
              | inr q ↦ elim (chosen (eqb p.0 3) _ _ (Some r) q.1) [
                | inl q ↦ plain_back p.0 3 p.1 (Aborted BadAmount) r q.0 nothing refl refl q.1
                | inr q ↦ elim (chosen (eqb p.0 4) _ _ (Some r) q.1) [
                  | inl q ↦ plain_back p.0 4 p.1 (Aborted Insufficient) r q.0 nothing refl refl q.1
                  | inr q ↦ let h = guard_some (eqb p.0 5) _ r q.1 in plain_back p.0 5 p.1 (Aborted OutOfRange) r h.0
                      nothing refl refl h.1
                ]
              ]
            ]
          ]
    ]

reply_forth : (r : Reply) → IsTrue (is_reply r) → (reply_from (reply_parts r) ≡ Some r)
    × IsTrue (is_number 1 (reply_parts r).0 && is_signed (reply_parts r).1)
reply_forth Done fits = (refl, refl)
reply_forth (Total sum) fits = (refl, fits)
reply_forth (Aborted NoSuchName) fits = (refl, refl)
reply_forth (Aborted BadAmount) fits = (refl, refl)
reply_forth (Aborted Insufficient) fits = (refl, refl)
reply_forth (Aborted OutOfRange) fits = (refl, refl)

reply_same : (r : Reply) → big_bytes 1 (reply_parts r).0 ++ money_text (reply_parts r).1 ≡ reply_text r
reply_same Done = refl
reply_same (Total sum) = refl
reply_same (Aborted NoSuchName) = refl
reply_same (Aborted BadAmount) = refl
reply_same (Aborted Insufficient) = refl
reply_same (Aborted OutOfRange) = refl

pub reply_length : (r : Reply) → length (reply_text r) ≡ 9
reply_length Done = refl
reply_length (Total sum) = refl
reply_length (Aborted NoSuchName) = refl
reply_length (Aborted BadAmount) = refl
reply_length (Aborted Insufficient) = refl
reply_length (Aborted OutOfRange) = refl

pub Codec-reply : Codec reply_text is_reply reply_at
unfolding reply_at
Codec-reply =
    Codec-as (λ r. big_bytes 1 (reply_parts r).0 ++ money_text (reply_parts r).1) reply_text is_reply is_reply reply_at
    (λ r fits. reply_same r) (λ r fits. fits) (λ r fits. fits)
    (Codec-made_if (λ p. big_bytes 1 p.0 ++ money_text p.1) (λ p. is_number 1 p.0 && is_signed p.1)
    (both (number_at 1) signed_at) reply_from reply_parts is_reply reply_back reply_forth
    (Codec-both (big_bytes 1) (is_number 1) (number_at 1) money_text is_signed signed_at Codec-number1 Codec-signed))

-- ---- entries

-- a kind's byte
abbrev kind_code : Kind → ℕ
kind_code kind = if is_write kind then 1 else 0

kind_back : (code : ℕ) (k : Kind) → IsTrue (is_number 1 code) → kind_from code ≡ Some k → (kind_code k ≡ code)
    × IsTrue true
kind_back code k fits e =
    elim (chosen (eqb code 0) _ _ (Some k) e) [
      | inl p ↦ (ap kind_code (sym (same_Some Read k p.1)) ∙ sym (eqb-true code 0 p.0), refl)
      | inr p ↦ let g = guard_some (eqb code 1) _ k p.1 in
          (ap kind_code (sym (same_Some Write k g.1)) ∙ sym (eqb-true code 1 g.0), refl)
    ]

kind_forth : (k : Kind) → IsTrue true → (kind_from (kind_code k) ≡ Some k) × IsTrue (is_number 1 (kind_code k))
kind_forth Read fits = (refl, refl)
kind_forth Write fits = (refl, refl)

Codec-kind : Codec (λ k. big_bytes 1 (kind_code k)) (λ k. true) (made_if kind_from (number_at 1))
Codec-kind = Codec-made_if (big_bytes 1) (is_number 1) (number_at 1) kind_from kind_code
    (λ k. true) kind_back kind_forth Codec-number1

abbrev entry_parts : Entry → ℕ × (Kind × (ℕ × (ℤ × ℤ)))
entry_parts e = (e.row, (e.kind, (e.version, (e.seen, e.after))))

abbrev are_values : ℤ × ℤ → Bool
are_values p = is_signed p.0 && is_signed p.1

-- the fields have their bytes
abbrev pub is_written : Entry → Bool
is_written e = is_number 4 e.row && (true && (is_number 8 e.version && are_values (e.seen, e.after)))

pub entry_length : (e : Entry) → length (entry_text e) ≡ 29
entry_length e = refl

pub Codec-entry_fields : Codec entry_text is_written entry_fields_at
unfolding entry_fields_at
Codec-entry_fields =
    Codec-made (λ p. big_bytes 4 p.0 ++
    (big_bytes 1 (kind_code p.1.0) ++ (big_bytes 8 p.1.1.0 ++ (money_text p.1.1.1.0 ++ money_text p.1.1.1.1))))
    (λ p. is_number 4 p.0 && (true && (is_number 8 p.1.1.0 && are_values p.1.1.1)))
    (both (number_at 4) (both (made_if kind_from (number_at 1)) (both (number_at 8) (both signed_at signed_at))))
    entry_from entry_parts is_written
    (λ p fits. (refl, fits)) (λ e fits. (refl, fits))
    (Codec-both (big_bytes 4) (is_number 4) (number_at 4)
    (λ p. big_bytes 1 (kind_code p.0) ++ (big_bytes 8 p.1.0 ++ (money_text p.1.1.0 ++ money_text p.1.1.1)))
    (λ p. true && (is_number 8 p.1.0 && are_values p.1.1))
    (both (made_if kind_from (number_at 1)) (both (number_at 8) (both signed_at signed_at))) Codec-number4
    (Codec-both (λ k. big_bytes 1 (kind_code k)) (λ k. true) (made_if kind_from (number_at 1))
    (λ p. big_bytes 8 p.0 ++ (money_text p.1.0 ++ money_text p.1.1)) (λ p. is_number 8 p.0 && are_values p.1)
    (both (number_at 8) (both signed_at signed_at)) Codec-kind
    (Codec-both (big_bytes 8) (is_number 8) (number_at 8) (λ p. money_text p.0 ++ money_text p.1) are_values
    (both signed_at signed_at) Codec-number8
    (Codec-both money_text is_signed signed_at money_text is_signed signed_at Codec-signed Codec-signed))))

-- the versions that may be written have eight bytes
version_below : (n : ℕ) → IsTrue (leb n MOST_VERSIONS) → IsTrue (is_number 8 n)
version_below n fits = let h = leb-true n (2 ^ 40) fits in lt-ltb n (256 ^ 8) (omega arith)

row_below : (rows row : ℕ) → rows ≤ 2 ^ 32 → IsTrue (ltb row rows) → IsTrue (is_number 4 row)
row_below rows row few fits = let h = ltb-true row rows fits in lt-ltb row (256 ^ 4) (omega arith)

entry_written : (rows : ℕ) → rows ≤ 2 ^ 32 → (e : Entry) → IsTrue (is_entry rows e) → IsTrue (is_written e)
entry_written rows few e fits =
    let a = and_parts (ltb e.row rows) _ fits in
    let b = and_parts (leb e.version MOST_VERSIONS) _ a.1 in
    let c = and_parts (is_balance e.seen) _ b.1 in
    let d = and_parts (is_balance e.after) _ c.1 in
    and_from (is_number 4 e.row) (true && (is_number 8 e.version && are_values (e.seen, e.after)))
    (row_below rows e.row few a.0)
    (and_from (is_number 8 e.version) (are_values (e.seen, e.after)) (version_below e.version b.0)
    (and_from (is_signed e.seen) (is_signed e.after) (balance_signed e.seen c.0) (balance_signed e.after d.0)))

pub Codec-entry : (rows : ℕ) → rows ≤ 2 ^ 32 → Codec entry_text (is_entry rows) (entry_at rows)
unfolding entry_at
Codec-entry rows few =
    Codec-as entry_text entry_text (λ e. is_entry rows e && is_written e) (is_entry rows)
    (only (is_entry rows) entry_fields_at) (λ e fits. refl)
    (λ e fits. (and_parts (is_entry rows e) (is_written e) fits).0)
    (λ e fits. and_from (is_entry rows e) (is_written e) fits (entry_written rows few e fits))
    (Codec-only entry_text is_written entry_fields_at (is_entry rows) Codec-entry_fields)

-- ---- restores

abbrev restore_parts : Restore → ℕ × (ℕ × ℤ)
restore_parts r = (r.row, (r.version, r.value))

abbrev pub is_restored : Restore → Bool
is_restored r = is_number 4 r.row && (is_number 8 r.version && is_signed r.value)

pub restore_length : (r : Restore) → length (restore_text r) ≡ 20
restore_length r = refl

pub Codec-restore_fields : Codec restore_text is_restored restore_fields_at
unfolding restore_fields_at
Codec-restore_fields =
    Codec-made (λ p. big_bytes 4 p.0 ++ (big_bytes 8 p.1.0 ++ money_text p.1.1))
    (λ p. is_number 4 p.0 && (is_number 8 p.1.0 && is_signed p.1.1))
    (both (number_at 4) (both (number_at 8) signed_at)) restore_from restore_parts is_restored
    (λ p fits. (refl, fits)) (λ r fits. (refl, fits))
    (Codec-both (big_bytes 4) (is_number 4) (number_at 4) (λ p. big_bytes 8 p.0 ++ money_text p.1)
    (λ p. is_number 8 p.0 && is_signed p.1) (both (number_at 8) signed_at) Codec-number4
    (Codec-both (big_bytes 8) (is_number 8) (number_at 8) money_text is_signed signed_at Codec-number8 Codec-signed))

restore_written : (rows : ℕ) → rows ≤ 2 ^ 32 → (r : Restore) → IsTrue (is_restore rows r) → IsTrue (is_restored r)
restore_written rows few r fits =
    let a = and_parts (ltb r.row rows) _ fits in
    let b = and_parts (leb r.version MOST_VERSIONS) _ a.1 in
    and_from (is_number 4 r.row) (is_number 8 r.version && is_signed r.value) (row_below rows r.row few a.0)
    (and_from (is_number 8 r.version) (is_signed r.value) (version_below r.version b.0)
    (balance_signed r.value b.1))

pub Codec-restore : (rows : ℕ) → rows ≤ 2 ^ 32 → Codec restore_text (is_restore rows) (restore_at rows)
unfolding restore_at
Codec-restore rows few =
    Codec-as restore_text restore_text (λ r. is_restore rows r && is_restored r) (is_restore rows)
    (only (is_restore rows) restore_fields_at) (λ r fits. refl)
    (λ r fits. (and_parts (is_restore rows r) (is_restored r) fits).0)
    (λ r fits. and_from (is_restore rows r) (is_restored r) fits (restore_written rows few r fits))
    (Codec-only restore_text is_restored restore_fields_at (is_restore rows) Codec-restore_fields)

-- ---- versions and values

abbrev versioned_parts : Versioned → ℕ × ℤ
versioned_parts x = (x.version, x.value)

abbrev pub is_fielded : Versioned → Bool
is_fielded x = is_number 8 x.version && is_signed x.value

pub versioned_length : (x : Versioned) → length (versioned_text x) ≡ 16
versioned_length x = refl

pub Codec-versioned_fields : Codec versioned_text is_fielded versioned_fields_at
unfolding versioned_fields_at
Codec-versioned_fields =
    Codec-made (λ p. big_bytes 8 p.0 ++ money_text p.1) (λ p. is_number 8 p.0 && is_signed p.1)
    (both (number_at 8) signed_at) versioned_from versioned_parts is_fielded
    (λ p fits. (refl, fits)) (λ x fits. (refl, fits))
    (Codec-both (big_bytes 8) (is_number 8) (number_at 8) money_text is_signed signed_at Codec-number8 Codec-signed)

versioned_written : (x : Versioned) → IsTrue (is_versioned x) → IsTrue (is_fielded x)
versioned_written x fits =
    let a = and_parts (leb x.version MOST_VERSIONS) (is_balance x.value) fits in
    and_from (is_number 8 x.version) (is_signed x.value) (version_below x.version a.0) (balance_signed x.value a.1)

pub Codec-versioned : Codec versioned_text is_versioned versioned_at
unfolding versioned_at
Codec-versioned =
    Codec-as versioned_text versioned_text (λ x. is_versioned x && is_fielded x) is_versioned
    (only is_versioned versioned_fields_at) (λ x fits. refl)
    (λ x fits. (and_parts (is_versioned x) (is_fielded x) fits).0)
    (λ x fits. and_from (is_versioned x) (is_fielded x) fits (versioned_written x fits))
    (Codec-only versioned_text is_fielded versioned_fields_at is_versioned Codec-versioned_fields)
