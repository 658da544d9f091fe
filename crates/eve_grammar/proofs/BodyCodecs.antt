-- Public: other crates cite these lemmas. The bodies of frames are codecs, and so is the header.
use Rattle.std.proofs.Common.{◌≡◌, ℕ, ℤ, zero, suc, ◌+◌, ◌^◌, ◌<◌, ◌≤◌, Bool, true, false, ◌&&◌, cond, ltb, leb, eqb}
use Rattle.std.proofs.Common.{◌⊎◌, List, [], ◌∷◌, ◌++◌, length, sum, replicate, Option, Some, refl, sym, ap, subst, ◌∙◌}
use Rattle.std.proofs.Common.{append_assoc, arith, inl, inr}
use Rattle.std.specs.Prelude.{IsTrue}
use Rattle.std.specs.List.{flat_map, list_all}
use Rattle.std.proofs.lemmas.Bool.{ltb-true, lt-ltb, le-leb, leb-true, eqb-true, and_parts, and_from}
use Rattle.std.proofs.lemmas.List.Sums.{sum_by-cons}
use Rattle.std.proofs.lemmas.Option.{same_Some}
use Rattle.byteorder.specs.Endian.{big_bytes}
use Rattle.eve_accounts.specs.Money.{is_balance, is_saving}
use Rattle.eve_accounts.specs.Names.{is_name}
use Rattle.eve_smallbank.specs.Spelling.{money_text, reply_text}
use Rattle.eve_smallbank.specs.declared.request.Reply.{Reply}
use Rattle.eve_smallbank.specs.declared.entry.Entry.{Entry}
use Rattle.eve_grammar.specs.Trace.{Customer, Asked, Batch, Access, Attempt, Commit, Rollback, Choice}
use Rattle.eve_grammar.specs.Trace.{Transfer, ForRollback, ForCommit, Vote, Sent}
use Rattle.eve_grammar.specs.Frames.{OfCustomer, OfBatch, OfAttempt, OfAccess, OfCommit, OfRollback, OfVote, OfSent}
use Rattle.eve_grammar.specs.Limits.{is_between, is_number, is_token, is_asked, is_reply, is_customer, is_batch}
use Rattle.eve_grammar.specs.Limits.{is_entry, is_access, is_attempt, is_commit, is_restore, is_rising, is_rollback}
use Rattle.eve_grammar.specs.Limits.{is_versioned, are_no_debts, is_transfer, is_choice, is_vote, is_sent}
use Rattle.eve_grammar.specs.Spelling.{name_text, asked_text, entry_text, restore_text, choice_text, body_text}
use Rattle.eve_grammar.specs.Spelling.{versioned_text, transfer_text}
use Rattle.eve_grammar.specs.Readers.{Reader, number_at, both, both_by, led_by, made, made_if, only, many_at, name_at}
use Rattle.eve_grammar.specs.Readers.{balance_at, saving_at, token_at, asked_at, reply_at, entry_at, restore_at}
use Rattle.eve_grammar.specs.Readers.{customer_from, customer_of, are_sizes, sizes_at, batch_from, batch_of, number_of}
use Rattle.eve_grammar.specs.Readers.{serial_from, certified_at, attempt_from, attempt_of, access_from, entries_at}
use Rattle.eve_grammar.specs.Readers.{access_of, commit_from, commit_of, restores_at, rollback_from, rollback_of}
use Rattle.eve_grammar.specs.Readers.{versioned_at, state_rows_at, transfer_from, transfer_of}
use Rattle.eve_grammar.specs.Readers.{choice_from, vote_from, vote_of, sent_from, sent_of}
use Rattle.eve_grammar.proofs.Codec.{IsBytes, guard_some, Codec, Codec-as, Codec-made, Codec-made_if}
use Rattle.eve_grammar.proofs.Codec.{Codec-led_by, Codec-both, Codec-both_by, Codec-only, Codec-many, Codec-counted}
use Rattle.eve_grammar.proofs.Codec.{are_many, are_many_of, whole_takes, whole_again}
use Rattle.eve_grammar.proofs.FieldCodecs.{Codec-number1, Codec-number2, Codec-number4, Codec-number8, are_bytes}
use Rattle.eve_grammar.proofs.FieldCodecs.{Codec-token, Codec-balance, Codec-saving, Codec-name}
use Rattle.eve_grammar.proofs.PartCodecs.{chosen, Codec-asked, Codec-reply, Codec-entry, Codec-restore}
use Rattle.eve_grammar.proofs.PartCodecs.{Codec-versioned}
use Rattle.eve_grammar.specs.declared.restore.Restore.{Restore}
use Rattle.eve_smallbank.specs.declared.versioned.Versioned.{Versioned}

-- a body is read exactly where it is the spelling of a value that fits
pub record Exact {A : Type 0} (text : A → List ℕ) (test : A → Bool) (read : List ℕ → Option A) : Type 0 where
  pub takes : (bytes : List ℕ) (x : A) → IsBytes bytes → read bytes ≡ Some x → (bytes ≡ text x) × IsTrue (test x)
  pub again : (x : A) → IsTrue (test x) → read (text x) ≡ Some x

-- ---- customers

abbrev customer_parts : Customer → List ℕ × (ℤ × ℤ)
customer_parts c = (c.name, (c.saving, c.checking))

customer_codec : Codec (λ c. body_text (OfCustomer c)) is_customer
    (made customer_from (both name_at (both saving_at balance_at)))
customer_codec =
    Codec-made (λ p. name_text p.0 ++ (money_text p.1.0 ++ money_text p.1.1))
    (λ p. is_name p.0 && (is_saving p.1.0 && is_balance p.1.1)) (both name_at (both saving_at balance_at))
    customer_from customer_parts is_customer
    (λ p fits. (refl, fits)) (λ c fits. (refl, fits))
    (Codec-both name_text is_name name_at (λ p. money_text p.0 ++ money_text p.1) (λ p. is_saving p.0 && is_balance p.1)
    (both saving_at balance_at) Codec-name
    (Codec-both money_text is_saving saving_at money_text is_balance balance_at Codec-saving Codec-balance))

pub Exact-customer : Exact (λ c. body_text (OfCustomer c)) is_customer customer_of
unfolding customer_of
Exact-customer = record { takes = whole_takes _ _ _ customer_codec; again = whole_again _ _ _ customer_codec }

-- ---- batches

abbrev sizes_text : List ℕ → List ℕ
sizes_text sizes = big_bytes 2 (length sizes) ++ flat_map (big_bytes 2) sizes

-- the sizes have their bytes
abbrev are_written : List ℕ → Bool
are_written sizes = is_number 2 (length sizes) && are_many (is_number 2) (length sizes) sizes

sizes_codec : Codec sizes_text (λ sizes. are_sizes sizes && are_written sizes) sizes_at
unfolding sizes_at
sizes_codec = Codec-only sizes_text are_written (led_by (number_at 2) (many_at (number_at 2))) are_sizes
    (Codec-counted (big_bytes 2) (is_number 2) (number_at 2) (big_bytes 2) (is_number 2) (number_at 2) Codec-number2
    Codec-number2)

abbrev batch_parts : Batch → List ℕ × List Asked
batch_parts b = (b.sizes, b.requests)

abbrev grouped_text : List ℕ × List Asked → List ℕ
grouped_text p = sizes_text p.0 ++ flat_map asked_text p.1

abbrev are_grouped : List ℕ × List Asked → Bool
are_grouped p = (are_sizes p.0 && are_written p.0) && are_many is_asked (sum p.0) p.1

grouped_codec : Codec grouped_text are_grouped (both_by sizes_at (λ sizes. many_at asked_at (sum sizes)))
grouped_codec = Codec-both_by sizes_text (λ sizes. are_sizes sizes && are_written sizes) sizes_at (flat_map asked_text)
    (λ sizes. are_many is_asked (sum sizes)) (λ sizes. many_at asked_at (sum sizes)) sizes_codec
    (λ sizes. Codec-many asked_text is_asked asked_at Codec-asked (sum sizes))

pub sum_short : (sizes : List ℕ) → IsTrue (list_all (leb 1) sizes) → length sizes ≤ sum sizes
sum_short [] fits = omega arith
sum_short (n ∷ sizes) fits =
    let p = and_parts (leb 1 n) (list_all (leb 1) sizes) fits in
    let first = leb-true 1 n p.0 in
    let others = sum_short sizes p.1 in
    omega (arith, sum_by-cons (λ (x : ℕ). x) n sizes)

sum_each : (sizes : List ℕ) (limit : ℕ) → sum sizes < limit → IsTrue (list_all (λ n. ltb n limit) sizes)
sum_each [] limit lt = refl
sum_each (n ∷ sizes) limit lt =
    let total = sum_by-cons (λ (x : ℕ). x) n sizes in
    and_from (ltb n limit) (list_all (λ n. ltb n limit) sizes) (lt-ltb n limit (omega (arith, total)))
    (sum_each sizes limit (omega (arith, total)))

sizes_written : (sizes : List ℕ) → IsTrue (are_sizes sizes) → IsTrue (are_written sizes)
sizes_written sizes fits =
    let p = and_parts (leb 1 (length sizes)) (list_all (leb 1) sizes && leb (sum sizes) 256) fits in
    let q = and_parts (list_all (leb 1) sizes) (leb (sum sizes) 256) p.1 in
    let total = leb-true (sum sizes) 256 q.1 in
    let count = sum_short sizes q.0 in
    and_from (is_number 2 (length sizes)) (are_many (is_number 2) (length sizes) sizes)
    (lt-ltb (length sizes) (256 ^ 2) (omega arith))
    (are_many_of (is_number 2) sizes (sum_each sizes (256 ^ 2) (omega arith)))

batch_from_grouped : (p : List ℕ × List Asked) → IsTrue (are_grouped p) → IsTrue (is_batch (batch_from p))
batch_from_grouped p fits =
    let a = and_parts (are_sizes p.0 && are_written p.0) (are_many is_asked (sum p.0) p.1) fits in
    let b = and_parts (are_sizes p.0) (are_written p.0) a.0 in
    let c = and_parts (leb 1 (length p.0)) (list_all (leb 1) p.0 && leb (sum p.0) 256) b.0 in
    let d = and_parts (list_all (leb 1) p.0) (leb (sum p.0) 256) c.1 in
    and_from (leb 1 (length p.0)) _ c.0 (and_from (list_all (leb 1) p.0) _ d.0 (and_from (leb (sum p.0) 256) _ d.1 a.1))

grouped_from_batch : (b : Batch) → IsTrue (is_batch b) → IsTrue (are_grouped (batch_parts b))
grouped_from_batch b fits =
    let p = and_parts (leb 1 (length b.sizes)) _ fits in
    let q = and_parts (list_all (leb 1) b.sizes) _ p.1 in
    let r = and_parts (leb (sum b.sizes) 256) (are_many is_asked (sum b.sizes) b.requests) q.1 in
    let sizes = and_from (leb 1 (length b.sizes)) (list_all (leb 1) b.sizes && leb (sum b.sizes) 256) p.0
    (and_from (list_all (leb 1) b.sizes) (leb (sum b.sizes) 256) q.0 r.0) in
    and_from (are_sizes b.sizes && are_written b.sizes) (are_many is_asked (sum b.sizes) b.requests)
    (and_from (are_sizes b.sizes) (are_written b.sizes) sizes (sizes_written b.sizes sizes)) r.1

batch_codec : Codec (λ b. grouped_text (batch_parts b)) is_batch
    (made batch_from (both_by sizes_at (λ sizes. many_at asked_at (sum sizes))))
batch_codec = Codec-made grouped_text are_grouped (both_by sizes_at (λ sizes. many_at asked_at (sum sizes))) batch_from
    batch_parts is_batch (λ p fits. (refl, batch_from_grouped p fits)) (λ b fits. (refl, grouped_from_batch b fits))
    grouped_codec

abbrev pub is_numbered : ℕ × Batch → Bool
is_numbered b = is_number 4 b.0 && is_batch b.1

numbered_codec : Codec (λ b. body_text (OfBatch b.0 b.1)) is_numbered
    (both (number_at 4) (made batch_from (both_by sizes_at (λ sizes. many_at asked_at (sum sizes)))))
numbered_codec =
    Codec-as (λ b. big_bytes 4 b.0 ++ grouped_text (batch_parts b.1)) (λ b. body_text (OfBatch b.0 b.1)) is_numbered
    is_numbered (both (number_at 4) (made batch_from (both_by sizes_at (λ sizes. many_at asked_at (sum sizes)))))
    (λ b fits. ap (λ (r : List ℕ). big_bytes 4 b.0 ++ r)
    (append_assoc (big_bytes 2 (length b.1.sizes)) (flat_map (big_bytes 2) b.1.sizes)
    (flat_map asked_text b.1.requests)))
    (λ b fits. fits) (λ b fits. fits)
    (Codec-both (big_bytes 4) (is_number 4) (number_at 4) (λ b. grouped_text (batch_parts b)) is_batch
    (made batch_from (both_by sizes_at (λ sizes. many_at asked_at (sum sizes)))) Codec-number4 batch_codec)

pub Exact-batch : Exact (λ b. body_text (OfBatch b.0 b.1)) is_numbered batch_of
unfolding batch_of
Exact-batch = record { takes = whole_takes _ _ _ numbered_codec; again = whole_again _ _ _ numbered_codec }

-- ---- numbers of one byte

pub Exact-number : Exact (big_bytes 1) (is_number 1) number_of
unfolding number_of
Exact-number = record { takes = whole_takes _ _ _ Codec-number1; again = whole_again _ _ _ Codec-number1 }

-- ---- attempts

abbrev mode_of : Bool → ℕ
mode_of serial = cond serial 1 0

mode_back : (mode : ℕ) (serial : Bool) → IsTrue (is_number 1 mode) → serial_from mode ≡ Some serial
    → (mode_of serial ≡ mode) × IsTrue true
mode_back mode serial fits e =
    elim (chosen (eqb mode 0) _ _ (Some serial) e) [
      | inl p ↦ (ap mode_of (sym (same_Some false serial p.1)) ∙ sym (eqb-true mode 0 p.0), refl)
      | inr p ↦ let g = guard_some (eqb mode 1) _ serial p.1 in
          (ap mode_of (sym (same_Some true serial g.1)) ∙ sym (eqb-true mode 1 g.0), refl)
    ]

mode_forth : (serial : Bool) → IsTrue true → (serial_from (mode_of serial) ≡ Some serial)
    × IsTrue (is_number 1 (mode_of serial))
mode_forth true fits = (refl, refl)
mode_forth false fits = (refl, refl)

mode_codec : Codec (λ serial. big_bytes 1 (mode_of serial)) (λ serial. true) (made_if serial_from (number_at 1))
mode_codec = Codec-made_if (big_bytes 1) (is_number 1) (number_at 1) serial_from mode_of (λ serial. true) mode_back
    mode_forth Codec-number1

abbrev Certified : Type 0
Certified = List ℕ × List Reply

abbrev certified_text : Certified → List ℕ
certified_text p = big_bytes 2 (length p.0) ++ (flat_map (big_bytes 2) p.0 ++ flat_map reply_text p.1)

abbrev is_certified : ℕ → Certified → Bool
is_certified count p = are_many (is_number 2) count p.0 && are_many is_reply count p.1

abbrev is_count : ℕ → Bool
is_count count = is_between 1 256 count && is_number 2 count

certified_codec : Codec certified_text (λ p. is_count (length p.0) && is_certified (length p.0) p) certified_at
unfolding certified_at
certified_codec =
    Codec-led_by (big_bytes 2) is_count (only (is_between 1 256) (number_at 2))
    (λ (p : Certified). flat_map (big_bytes 2) p.0 ++ flat_map reply_text p.1) is_certified
    (λ count. both (many_at (number_at 2) count) (many_at reply_at count)) (λ (p : Certified). length p.0)
    (λ count p fits. eqb-true (length p.0) count
    (and_parts (eqb (length p.0) count) (list_all (is_number 2) p.0)
    (and_parts (are_many (is_number 2) count p.0) (are_many is_reply count p.1) fits).0).0)
    (Codec-only (big_bytes 2) (is_number 2) (number_at 2) (is_between 1 256) Codec-number2)
    (λ count. Codec-both (flat_map (big_bytes 2)) (are_many (is_number 2) count) (many_at (number_at 2) count)
    (flat_map reply_text) (are_many is_reply count) (many_at reply_at count)
    (Codec-many (big_bytes 2) (is_number 2) (number_at 2) Codec-number2 count)
    (Codec-many reply_text is_reply reply_at Codec-reply count))

abbrev AttemptParts : Type 0
AttemptParts = ℕ × (ℕ × (Bool × (Certified × List ℕ)))

abbrev attempt_parts : Attempt → AttemptParts
attempt_parts a = (a.seq, (a.view, (a.serial, ((a.certificate, a.replies), a.token))))

abbrev parts_text : AttemptParts → List ℕ
parts_text p = big_bytes 4 p.0 ++
    (big_bytes 4 p.1.0 ++ (big_bytes 1 (mode_of p.1.1.0) ++ (certified_text p.1.1.1.0 ++ p.1.1.1.1)))

abbrev are_parts : AttemptParts → Bool
are_parts p = is_number 4 p.0 &&
    (is_number 4 p.1.0 && (true &&
    ((is_count (length p.1.1.1.0.0) && is_certified (length p.1.1.1.0.0) p.1.1.1.0) && are_bytes 32 p.1.1.1.1)))

parts_codec : Codec parts_text are_parts
    (both (number_at 4) (both (number_at 4) (both (made_if serial_from (number_at 1)) (both certified_at token_at))))
parts_codec =
    Codec-both (big_bytes 4) (is_number 4) (number_at 4) _ _
    (both (number_at 4) (both (made_if serial_from (number_at 1)) (both certified_at token_at))) Codec-number4
    (Codec-both (big_bytes 4) (is_number 4) (number_at 4) _ _
    (both (made_if serial_from (number_at 1)) (both certified_at token_at)) Codec-number4
    (Codec-both (λ serial. big_bytes 1 (mode_of serial)) (λ serial. true) (made_if serial_from (number_at 1)) _ _
    (both certified_at token_at) mode_codec
    (Codec-both certified_text (λ p. is_count (length p.0) && is_certified (length p.0) p) certified_at
    (λ (token : List ℕ). token) (are_bytes 32) token_at certified_codec Codec-token)))

-- an attempt as its frame says it
abbrev pub is_bare : Attempt → Bool
is_bare a = is_attempt a && eqb (length a.accesses) 0

parts_fit : (p : AttemptParts) → IsTrue (are_parts p) → IsTrue (is_bare (attempt_from p))
parts_fit p fits =
    let count = length p.1.1.1.0.0 in
    let a = and_parts (is_number 4 p.0) _ fits in
    let b = and_parts (is_number 4 p.1.0) _ a.1 in
    let c = and_parts (is_count count && is_certified count p.1.1.1.0) (are_bytes 32 p.1.1.1.1) b.1 in
    let d = and_parts (is_count count) (is_certified count p.1.1.1.0) c.0 in
    let e = and_parts (is_between 1 256 count) (is_number 2 count) d.0 in
    let f = and_parts (are_many (is_number 2) count p.1.1.1.0.0) (are_many is_reply count p.1.1.1.0.1) d.1 in
    let g = and_parts (eqb count count) (list_all (is_number 2) p.1.1.1.0.0) f.0 in
    let h = and_parts (eqb (length p.1.1.1.0.1) count) (list_all is_reply p.1.1.1.0.1) f.1 in
    and_from (is_attempt (attempt_from p)) true
    (and_from (is_number 4 p.0) _ a.0
    (and_from (is_number 4 p.1.0) _ b.0
    (and_from (is_between 1 256 count) _ e.0 (and_from (list_all (is_number 2) p.1.1.1.0.0) _ g.1
    (and_from (eqb (length p.1.1.1.0.1) count) _ h.0
    (and_from (list_all is_reply p.1.1.1.0.1) (is_token p.1.1.1.1) h.1 c.1)))))) refl

none_left : {A : Type 0} (xs : List A) → eqb (length xs) 0 ≡ true → [] ≡ xs
none_left [] e = refl
none_left (x ∷ xs) e = absurd (let h = eqb-true (suc (length xs)) 0 e in omega arith)

bare_back : (a : Attempt) → IsTrue (is_bare a) → attempt_from (attempt_parts a) ≡ a
bare_back a fits =
    let p = and_parts (is_attempt a) (eqb (length a.accesses) 0) fits in
    ap (λ (xs : List Access). record a { accesses = xs }) (none_left a.accesses p.1)

bare_parts : (a : Attempt) → IsTrue (is_bare a) → IsTrue (are_parts (attempt_parts a))
bare_parts a fits =
    let count = length a.certificate in
    let z = and_parts (is_attempt a) (eqb (length a.accesses) 0) fits in
    let p = and_parts (is_number 4 a.seq) _ z.0 in
    let q = and_parts (is_number 4 a.view) _ p.1 in
    let r = and_parts (is_between 1 256 count) _ q.1 in
    let s = and_parts (list_all (is_number 2) a.certificate) _ r.1 in
    let t = and_parts (eqb (length a.replies) count) _ s.1 in
    let u = and_parts (list_all is_reply a.replies) (is_token a.token) t.1 in
    let most = leb-true count 256 (and_parts (leb 1 count) (leb count 256) r.0).1 in
    let few : IsTrue (is_count count) = and_from (is_between 1 256 count) (is_number 2 count) r.0
    (lt-ltb count (256 ^ 2) (omega arith)) in
    and_from (is_number 4 a.seq) _ p.0 (and_from (is_number 4 a.view) _ q.0
    (and_from (is_count count && is_certified count (a.certificate, a.replies)) (are_bytes 32 a.token)
    (and_from (is_count count) (is_certified count (a.certificate, a.replies)) few
    (and_from (are_many (is_number 2) count a.certificate) (are_many is_reply count a.replies)
    (are_many_of (is_number 2) a.certificate s.0)
    (and_from (eqb (length a.replies) count) (list_all is_reply a.replies) t.0 u.0))) u.1))

bare_text : (a : Attempt) → parts_text (attempt_parts a) ≡ body_text (OfAttempt a)
bare_text a =
    let count = big_bytes 2 (length a.certificate) in
    let indices = flat_map (big_bytes 2) a.certificate in
    let replies = flat_map reply_text a.replies in
    ap (λ (r : List ℕ). big_bytes 4 a.seq ++ (big_bytes 4 a.view ++ (big_bytes 1 (mode_of a.serial) ++ r)))
    (append_assoc count (indices ++ replies) a.token
    ∙ ap (λ (r : List ℕ). count ++ r) (append_assoc indices replies a.token))

attempt_codec : Codec (λ a. body_text (OfAttempt a)) is_bare
    (made attempt_from (both (number_at 4)
    (both (number_at 4) (both (made_if serial_from (number_at 1)) (both certified_at token_at)))))
attempt_codec =
    Codec-as (λ a. parts_text (attempt_parts a)) (λ a. body_text (OfAttempt a)) is_bare is_bare
    (made attempt_from (both (number_at 4)
    (both (number_at 4) (both (made_if serial_from (number_at 1)) (both certified_at token_at)))))
    (λ a fits. bare_text a) (λ a fits. fits) (λ a fits. fits)
    (Codec-made parts_text are_parts
    (both (number_at 4) (both (number_at 4)
    (both (made_if serial_from (number_at 1)) (both certified_at token_at)))) attempt_from attempt_parts is_bare
    (λ p fits. (refl, parts_fit p fits)) (λ a fits. (bare_back a fits, bare_parts a fits)) parts_codec)

pub Exact-attempt : Exact (λ a. body_text (OfAttempt a)) is_bare attempt_of
unfolding attempt_of
Exact-attempt = record { takes = whole_takes _ _ _ attempt_codec; again = whole_again _ _ _ attempt_codec }

-- ---- accesses

abbrev entries_text : List Entry → List ℕ
entries_text entries = big_bytes 1 (length entries) ++ flat_map entry_text entries

abbrev is_few : ℕ → Bool
is_few count = leb count 3 && is_number 1 count

abbrev are_entries : ℕ → List Entry → Bool
are_entries rows entries = leb (length entries) 3 && list_all (is_entry rows) entries

entries_codec : (rows : ℕ) → rows ≤ 2 ^ 32 → Codec entries_text (are_entries rows) (entries_at rows)
unfolding entries_at
entries_codec rows few =
    Codec-as entries_text entries_text (λ xs. is_few (length xs) && are_many (is_entry rows) (length xs) xs)
    (are_entries rows) (entries_at rows) (λ xs fits. refl)
    (λ xs fits.
    let p = and_parts (is_few (length xs)) (are_many (is_entry rows) (length xs) xs) fits in
    let q = and_parts (leb (length xs) 3) (is_number 1 (length xs)) p.0 in
    and_from (leb (length xs) 3) (list_all (is_entry rows) xs) q.0
    (and_parts (eqb (length xs) (length xs)) (list_all (is_entry rows) xs) p.1).1)
    (λ xs fits.
    let p = and_parts (leb (length xs) 3) (list_all (is_entry rows) xs) fits in
    let h = leb-true (length xs) 3 p.0 in
    and_from (is_few (length xs)) (are_many (is_entry rows) (length xs) xs)
    (and_from (leb (length xs) 3) (is_number 1 (length xs)) p.0 (lt-ltb (length xs) 256 (omega arith)))
    (are_many_of (is_entry rows) xs p.1))
    (Codec-counted entry_text (is_entry rows) (entry_at rows) (big_bytes 1) is_few
    (only (λ count. leb count 3) (number_at 1))
    (Codec-only (big_bytes 1) (is_number 1) (number_at 1) (λ count. leb count 3) Codec-number1)
    (Codec-entry rows few))

abbrev access_parts : Access → ℕ × (ℕ × (ℕ × List Entry))
access_parts x = (x.worker, (x.place, (x.index, x.entries)))

access_codec : (rows : ℕ) → rows ≤ 2 ^ 32 → Codec (λ x. body_text (OfAccess x)) (is_access rows)
    (made access_from (both (number_at 1) (both (number_at 2) (both (number_at 2) (entries_at rows)))))
access_codec rows few =
    Codec-made (λ p. big_bytes 1 p.0 ++ (big_bytes 2 p.1.0 ++ (big_bytes 2 p.1.1.0 ++ entries_text p.1.1.1)))
    (λ p. is_number 1 p.0 && (is_number 2 p.1.0 && (is_number 2 p.1.1.0 && are_entries rows p.1.1.1)))
    (both (number_at 1) (both (number_at 2) (both (number_at 2) (entries_at rows)))) access_from access_parts
    (is_access rows)
    (λ p fits. (refl, fits)) (λ x fits. (refl, fits))
    (Codec-both (big_bytes 1) (is_number 1) (number_at 1) _ _
    (both (number_at 2) (both (number_at 2) (entries_at rows))) Codec-number1
    (Codec-both (big_bytes 2) (is_number 2) (number_at 2) _ _ (both (number_at 2) (entries_at rows)) Codec-number2
    (Codec-both (big_bytes 2) (is_number 2) (number_at 2) entries_text (are_entries rows)
    (entries_at rows) Codec-number2 (entries_codec rows few))))

pub Exact-access : (rows : ℕ) → rows ≤ 2 ^ 32 → Exact (λ x. body_text (OfAccess x)) (is_access rows) (access_of rows)
unfolding access_of
Exact-access rows few = record
    { takes = whole_takes _ _ _ (access_codec rows few); again = whole_again _ _ _ (access_codec rows few) }

-- ---- commits

abbrev commit_parts : Commit → ℕ × (ℕ × List ℕ)
commit_parts c = (c.seq, (c.view, c.token))

commit_codec : Codec (λ c. body_text (OfCommit c)) is_commit
    (made commit_from (both (number_at 4) (both (number_at 4) token_at)))
commit_codec =
    Codec-made (λ p. big_bytes 4 p.0 ++ (big_bytes 4 p.1.0 ++ p.1.1))
    (λ p. is_number 4 p.0 && (is_number 4 p.1.0 && are_bytes 32 p.1.1))
    (both (number_at 4) (both (number_at 4) token_at)) commit_from commit_parts is_commit
    (λ p fits. (refl, fits)) (λ c fits. (refl, fits))
    (Codec-both (big_bytes 4) (is_number 4) (number_at 4) _ _ (both (number_at 4) token_at) Codec-number4
    (Codec-both (big_bytes 4) (is_number 4) (number_at 4) (λ (token : List ℕ). token) (are_bytes 32) token_at
    Codec-number4 Codec-token))

pub Exact-commit : Exact (λ c. body_text (OfCommit c)) is_commit commit_of
unfolding commit_of
Exact-commit = record { takes = whole_takes _ _ _ commit_codec; again = whole_again _ _ _ commit_codec }

-- ---- rollbacks

abbrev restores_text : List Restore → List ℕ
restores_text restores = big_bytes 4 (length restores) ++ flat_map restore_text restores

-- the restores and their count have their bytes
abbrev are_counted : ℕ → List Restore → Bool
are_counted rows restores = is_number 4 (length restores) && are_many (is_restore rows) (length restores) restores

abbrev are_restores : ℕ → List Restore → Bool
are_restores rows restores = is_rising restores && list_all (is_restore rows) restores

-- rising rows from this one on, as many as there are
rising_count : (rows : ℕ) (restores : List Restore) (least : ℕ) → IsTrue (is_rising restores)
    → IsTrue (list_all (is_restore rows) restores) → IsTrue (list_all (λ r. leb least r.row) restores)
    → (length restores + least ≤ rows) ⊎ (restores ≡ [])
rising_count rows [] least rising fits above = inr refl
rising_count rows (r ∷ restores) least rising fits above =
    let a = and_parts (list_all (λ q. ltb r.row q.row) restores) (is_rising restores) rising in
    let b = and_parts (is_restore rows r) (list_all (is_restore rows) restores) fits in
    let c = and_parts (leb least r.row) (list_all (λ q. leb least q.row) restores) above in
    let here = leb-true least r.row c.0 in
    let within = ltb-true r.row rows (and_parts (ltb r.row rows) _ b.0).0 in
    elim (rising_count rows restores (suc r.row) a.1 b.1 a.0) [
      | inl more ↦ inl (omega arith)
      | inr none ↦ inl (let len = ap length none in omega arith)
    ]

all_from_zero : (restores : List Restore) → IsTrue (list_all (λ r. leb 0 r.row) restores)
all_from_zero [] = refl
all_from_zero (r ∷ restores) = and_from (leb 0 r.row) (list_all (λ r. leb 0 r.row) restores)
    (le-leb 0 r.row (omega arith)) (all_from_zero restores)

pub few_restores : (rows : ℕ) (restores : List Restore) → IsTrue (is_rising restores)
    → IsTrue (list_all (is_restore rows) restores) → length restores ≤ rows
few_restores rows restores rising fits =
    elim (rising_count rows restores 0 rising fits (all_from_zero restores)) [
      | inl few ↦ omega arith
      | inr none ↦ (let len = ap length none in omega arith)
    ]

restores_codec : (rows : ℕ) → rows < 2 ^ 32 → Codec restores_text (are_restores rows) (restores_at rows)
unfolding restores_at
restores_codec rows few =
    Codec-as restores_text restores_text (λ xs. is_rising xs && are_counted rows xs) (are_restores rows)
    (restores_at rows) (λ xs fits. refl)
    (λ xs fits.
    let p = and_parts (is_rising xs) (are_counted rows xs) fits in
    let q = and_parts (is_number 4 (length xs)) (are_many (is_restore rows) (length xs) xs) p.1 in
    and_from (is_rising xs) (list_all (is_restore rows) xs) p.0
    (and_parts (eqb (length xs) (length xs)) (list_all (is_restore rows) xs) q.1).1)
    (λ xs fits.
    let p = and_parts (is_rising xs) (list_all (is_restore rows) xs) fits in
    and_from (is_rising xs) (are_counted rows xs) p.0
    (and_from (is_number 4 (length xs)) (are_many (is_restore rows) (length xs) xs)
    (lt-ltb (length xs) (256 ^ 4) (omega (arith, few_restores rows xs p.0 p.1)))
    (are_many_of (is_restore rows) xs p.1)))
    (Codec-only restores_text (are_counted rows) (led_by (number_at 4) (many_at (restore_at rows))) is_rising
    (Codec-counted restore_text (is_restore rows) (restore_at rows) (big_bytes 4) (is_number 4)
    (number_at 4) Codec-number4 (Codec-restore rows (omega arith))))

abbrev rollback_parts : Rollback → ℕ × (ℕ × List Restore)
rollback_parts r = (r.to, (r.view, r.restores))

rollback_codec : (rows : ℕ) → rows < 2 ^ 32 → Codec (λ r. body_text (OfRollback r)) (is_rollback rows)
    (made rollback_from (both (number_at 4) (both (number_at 4) (restores_at rows))))
rollback_codec rows few =
    Codec-made (λ p. big_bytes 4 p.0 ++ (big_bytes 4 p.1.0 ++ restores_text p.1.1))
    (λ p. is_number 4 p.0 && (is_number 4 p.1.0 && are_restores rows p.1.1))
    (both (number_at 4) (both (number_at 4) (restores_at rows))) rollback_from rollback_parts (is_rollback rows)
    (λ p fits. (refl, fits)) (λ r fits. (refl, fits))
    (Codec-both (big_bytes 4) (is_number 4) (number_at 4) _ _ (both (number_at 4) (restores_at rows)) Codec-number4
    (Codec-both (big_bytes 4) (is_number 4) (number_at 4) restores_text (are_restores rows)
    (restores_at rows) Codec-number4 (restores_codec rows few)))

pub Exact-rollback : (rows : ℕ) → rows < 2 ^ 32 → Exact (λ r. body_text (OfRollback r)) (is_rollback rows)
    (rollback_of rows)
unfolding rollback_of
Exact-rollback rows few =
    record { takes = whole_takes _ _ _ (rollback_codec rows few); again = whole_again _ _ _ (rollback_codec rows few) }

-- ---- transfers

abbrev are_taken : ℕ → List Versioned → Bool
are_taken rows xs = are_no_debts 0 xs && are_many is_versioned rows xs

abbrev transfer_parts : Transfer → ℕ × (ℕ × List Versioned)
transfer_parts x = (x.seq, (x.view, x.rows))

rows_codec : (rows : ℕ) → Codec (flat_map versioned_text) (are_taken rows) (state_rows_at rows)
unfolding state_rows_at
rows_codec rows =
    Codec-only (flat_map versioned_text) (are_many is_versioned rows) (many_at versioned_at rows) (are_no_debts 0)
    (Codec-many versioned_text is_versioned versioned_at Codec-versioned rows)

transfer_codec : (rows : ℕ) → Codec transfer_text (is_transfer rows)
    (made transfer_from (both (number_at 4) (both (number_at 4) (state_rows_at rows))))
transfer_codec rows =
    Codec-made (λ p. big_bytes 4 p.0 ++ (big_bytes 4 p.1.0 ++ flat_map versioned_text p.1.1))
    (λ p. is_number 4 p.0 && (is_number 4 p.1.0 && are_taken rows p.1.1))
    (both (number_at 4) (both (number_at 4) (state_rows_at rows))) transfer_from transfer_parts (is_transfer rows)
    (λ p fits. (refl, fits)) (λ x fits. (refl, fits))
    (Codec-both (big_bytes 4) (is_number 4) (number_at 4) _ _ (both (number_at 4) (state_rows_at rows)) Codec-number4
    (Codec-both (big_bytes 4) (is_number 4) (number_at 4) (flat_map versioned_text) (are_taken rows)
    (state_rows_at rows) Codec-number4 (rows_codec rows)))

pub Exact-transfer : (rows : ℕ) → Exact transfer_text (is_transfer rows) (transfer_of rows)
unfolding transfer_of
Exact-transfer rows =
    record { takes = whole_takes _ _ _ (transfer_codec rows); again = whole_again _ _ _ (transfer_codec rows) }

-- ---- votes

abbrev choice_parts : Choice → ℕ × List ℕ
choice_parts ForRollback = (0, replicate 32 0)
choice_parts (ForCommit token) = (1, token)

zeros_are : (xs : List ℕ) (n : ℕ) → length xs ≡ n → IsTrue (list_all (λ byte. eqb byte 0) xs) → replicate n 0 ≡ xs
zeros_are [] zero len fits = refl
zeros_are [] (suc n) len fits = absurd (omega (arith, len))
zeros_are (x ∷ xs) zero len fits = absurd (omega (arith, len))
zeros_are (x ∷ xs) (suc n) len fits =
    let p = and_parts (eqb x 0) (list_all (λ byte. eqb byte 0) xs) fits in
    ap (λ (k : ℕ). k ∷ replicate n 0) (sym (eqb-true x 0 p.0))
    ∙ ap (λ (ys : List ℕ). x ∷ ys) (zeros_are xs n (omega (arith, len)) p.1)

abbrev is_choice_pair : ℕ × List ℕ → Bool
is_choice_pair p = is_number 1 p.0 && are_bytes 32 p.1

choice_back : (p : ℕ × List ℕ) (c : Choice) → IsTrue (is_choice_pair p) → choice_from p ≡ Some c → (choice_parts c ≡ p)
    × IsTrue (is_choice c)
choice_back p c fits e =
    let b = and_parts (is_number 1 p.0) (are_bytes 32 p.1) fits in
    elim (chosen (eqb p.0 1) _ _ (Some c) e) [
      | inl q ↦
          subst (λ (c : Choice). (choice_parts c ≡ p) × IsTrue (is_choice c)) (same_Some (ForCommit p.1) c q.1)
          (ap (λ (k : ℕ). (k, p.1)) (sym (eqb-true p.0 1 q.0)), b.1)
      | inr q ↦
          let g = guard_some (eqb p.0 0) _ c q.1 in
          let h = guard_some (list_all (λ byte. eqb byte 0) p.1) _ c g.1 in
          let len = eqb-true (length p.1) 32 (and_parts (eqb (length p.1) 32) (list_all (is_number 1) p.1) b.1).0 in
          subst (λ (c : Choice). (choice_parts c ≡ p) × IsTrue (is_choice c)) (same_Some ForRollback c h.1) (
            ap (λ (k : ℕ). (k, replicate 32 0)) (sym (eqb-true p.0 0 g.0))
                ∙ ap (λ (xs : List ℕ). (p.0, xs)) (zeros_are p.1 32 len h.0),
            refl,
          )
    ]

choice_forth : (c : Choice) → IsTrue (is_choice c) → (choice_from (choice_parts c) ≡ Some c)
    × IsTrue (is_choice_pair (choice_parts c))
choice_forth ForRollback fits = (refl, refl)
choice_forth (ForCommit token) fits = (refl, fits)

choice_same : (c : Choice) → big_bytes 1 (choice_parts c).0 ++ (choice_parts c).1 ≡ choice_text c
choice_same ForRollback = refl
choice_same (ForCommit token) = refl

choice_codec : Codec choice_text is_choice (made_if choice_from (both (number_at 1) token_at))
choice_codec =
    Codec-as (λ c. big_bytes 1 (choice_parts c).0 ++ (choice_parts c).1) choice_text is_choice is_choice
    (made_if choice_from (both (number_at 1) token_at)) (λ c fits. choice_same c) (λ c fits. fits) (λ c fits. fits)
    (Codec-made_if (λ p. big_bytes 1 p.0 ++ p.1) is_choice_pair (both (number_at 1) token_at) choice_from choice_parts
    is_choice choice_back choice_forth
    (Codec-both (big_bytes 1) (is_number 1) (number_at 1) (λ (token : List ℕ). token) (are_bytes 32) token_at
    Codec-number1 Codec-token))

-- a batch's number, of this many
between_codec : (batches : ℕ) → batches < 2 ^ 32
    → Codec (big_bytes 4) (is_between 1 batches) (only (is_between 1 batches) (number_at 4))
between_codec batches few =
    Codec-as (big_bytes 4) (big_bytes 4) (λ n. is_between 1 batches n && is_number 4 n) (is_between 1 batches)
    (only (is_between 1 batches) (number_at 4)) (λ n fits. refl)
    (λ n fits. (and_parts (is_between 1 batches n) (is_number 4 n) fits).0)
    (λ n fits. let h = leb-true n batches (and_parts (leb 1 n) (leb n batches) fits).1 in
    and_from (is_between 1 batches n) (is_number 4 n) fits (lt-ltb n (256 ^ 4) (omega arith)))
    (Codec-only (big_bytes 4) (is_number 4) (number_at 4) (is_between 1 batches) Codec-number4)

abbrev vote_parts : Vote → ℕ × (ℕ × Choice)
vote_parts v = (v.seq, (v.view, v.choice))

vote_codec : (batches : ℕ) → batches < 2 ^ 32 → Codec (λ v. body_text (OfVote v)) (is_vote batches)
    (made vote_from (both (only (is_between 1 batches) (number_at 4))
    (both (number_at 4) (made_if choice_from (both (number_at 1) token_at)))))
vote_codec batches few =
    Codec-made (λ p. big_bytes 4 p.0 ++ (big_bytes 4 p.1.0 ++ choice_text p.1.1))
    (λ p. is_between 1 batches p.0 && (is_number 4 p.1.0 && is_choice p.1.1))
    (both (only (is_between 1 batches) (number_at 4))
    (both (number_at 4) (made_if choice_from (both (number_at 1) token_at)))) vote_from vote_parts (is_vote batches)
    (λ p fits. (refl, fits)) (λ v fits. (refl, fits))
    (Codec-both (big_bytes 4) (is_between 1 batches) (only (is_between 1 batches) (number_at 4)) _ _
    (both (number_at 4) (made_if choice_from (both (number_at 1) token_at))) (between_codec batches few)
    (Codec-both (big_bytes 4) (is_number 4) (number_at 4) choice_text is_choice
    (made_if choice_from (both (number_at 1) token_at)) Codec-number4 choice_codec))

pub Exact-vote : (batches : ℕ) → batches < 2 ^ 32 → Exact (λ v. body_text (OfVote v)) (is_vote batches)
    (vote_of batches)
unfolding vote_of
Exact-vote batches few =
    record { takes = whole_takes _ _ _ (vote_codec batches few); again = whole_again _ _ _ (vote_codec batches few) }

-- ---- replies sent

-- a replica's number, of this many
below_codec : (replicas : ℕ) → replicas ≤ 256
    → Codec (big_bytes 1) (λ n. ltb n replicas) (only (λ n. ltb n replicas) (number_at 1))
below_codec replicas few =
    Codec-as (big_bytes 1) (big_bytes 1) (λ n. ltb n replicas && is_number 1 n) (λ n. ltb n replicas)
    (only (λ n. ltb n replicas) (number_at 1)) (λ n fits. refl)
    (λ n fits. (and_parts (ltb n replicas) (is_number 1 n) fits).0)
    (λ n fits. let h = ltb-true n replicas fits in and_from (ltb n replicas) (is_number 1 n) fits
    (lt-ltb n 256 (omega arith)))
    (Codec-only (big_bytes 1) (is_number 1) (number_at 1) (λ n. ltb n replicas) Codec-number1)

abbrev sent_parts : Sent → ℕ × (ℕ × (ℕ × (ℕ × Reply)))
sent_parts s = (s.client, (s.number, (s.replica, (s.seq, s.reply))))

abbrev SentReader : ℕ → ℕ → Reader (ℕ × (ℕ × (ℕ × (ℕ × Reply))))
SentReader replicas batches =
    both (number_at 4) (both (number_at 8)
    (both (only (λ replica. ltb replica replicas) (number_at 1))
    (both (only (is_between 1 batches) (number_at 4)) reply_at)))

sent_codec : (replicas batches : ℕ) → replicas ≤ 256 → batches < 2 ^ 32
    → Codec (λ s. body_text (OfSent s)) (is_sent replicas batches) (made sent_from (SentReader replicas batches))
sent_codec replicas batches r b =
    Codec-made (λ p. big_bytes 4 p.0 ++
    (big_bytes 8 p.1.0 ++ (big_bytes 1 p.1.1.0 ++ (big_bytes 4 p.1.1.1.0 ++ reply_text p.1.1.1.1))))
    (λ p. is_number 4 p.0 &&
    (is_number 8 p.1.0 && (ltb p.1.1.0 replicas && (is_between 1 batches p.1.1.1.0 && is_reply p.1.1.1.1))))
    (SentReader replicas batches) sent_from sent_parts (is_sent replicas batches)
    (λ p fits. (refl, fits)) (λ s fits. (refl, fits))
    (Codec-both (big_bytes 4) (is_number 4) (number_at 4) _ _
    (both (number_at 8) (both (only (λ replica. ltb replica replicas) (number_at 1))
    (both (only (is_between 1 batches) (number_at 4)) reply_at))) Codec-number4
    (Codec-both (big_bytes 8) (is_number 8) (number_at 8) _ _
    (both (only (λ replica. ltb replica replicas) (number_at 1))
    (both (only (is_between 1 batches) (number_at 4)) reply_at)) Codec-number8
    (Codec-both (big_bytes 1) (λ n. ltb n replicas) (only (λ replica. ltb replica replicas) (number_at 1)) _ _
    (both (only (is_between 1 batches) (number_at 4)) reply_at) (below_codec replicas r)
    (Codec-both (big_bytes 4) (is_between 1 batches) (only (is_between 1 batches) (number_at 4)) reply_text is_reply
    reply_at (between_codec batches b) Codec-reply))))

pub Exact-sent : (replicas batches : ℕ) → replicas ≤ 256 → batches < 2 ^ 32
    → Exact (λ s. body_text (OfSent s)) (is_sent replicas batches) (sent_of replicas batches)
unfolding sent_of
Exact-sent replicas batches r b =
    record {
      takes = whole_takes _ _ _ (sent_codec replicas batches r b);
      again = whole_again _ _ _
          (sent_codec replicas batches r b);
    }
