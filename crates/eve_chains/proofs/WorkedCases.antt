-- What entries must see in the worked cases, by the certificate's order and not by that of the frames: each line
-- computes.
use Rattle.std.proofs.Common.{◌≡◌, ℕ, ℤ, pos, negsuc, true, false, List, [], ◌∷◌, map, replicate, codes, refl}
use Rattle.eve_smallbank.specs.SmallBank.{Request, Balance, DepositChecking, TransactSaving, WriteCheck}
use Rattle.eve_smallbank.specs.declared.request.Reply.{Reply}
use Rattle.eve_smallbank.specs.declared.request.Reply.TheVariants.{Done, Total}
use Rattle.eve_smallbank.specs.declared.entry.Kind.TheVariants.{Read, Write}
use Rattle.eve_smallbank.specs.declared.entry.Entry.{Entry}
use Rattle.eve_smallbank.specs.Conflict.{precedes}
use Rattle.eve_grammar.specs.Trace.{Asked, Access, Trace}
use Rattle.eve_history.specs.Section.{Placed}
use Rattle.eve_chains.specs.Visible.{executed_at, visible_to}

asked : ℕ → Request → Asked
asked number request = record { client = 7; number = number; request = request }

-- one customer, one replica, one batch of these requests
one_batch : List Asked → ℕ → Trace
one_batch requests size = record {
  head =
      record {
        version = 1;
        replicas = 1;
        verifiers = 1;
        quorum = 1;
        window = 1;
        workers = 1;
        customers = 1;
        batches
            = 1;
      };
  customers = record { name = codes "ann"; saving = pos 0; checking = pos 0 } ∷ [];
  batches = record { sizes = size ∷ []; requests = requests } ∷ [];
  sections = [] ∷ [];
  verifiers = [] ∷ [];
  sent = [];
}

write : ℕ → ℕ → ℤ → ℤ → Entry
write row version seen after = record { row = row; kind = Write; version = version; seen = seen; after = after }

read : ℕ → ℕ → ℤ → Entry
read row version seen = record { row = row; kind = Read; version = version; seen = seen; after = seen }

noted : ℕ → ℕ → List Entry → Access
noted place index entries = record { worker = 0; place = place; index = index; entries = entries }

first_attempt : List ℕ → List Reply → List Access → Placed
first_attempt certificate replies accesses = record {
  offset = 0;
  attempt = record {
    seq = 1;
    view = 0;
    serial = false;
    certificate = certificate;
    replies = replies;
    token = replicate 32 9;
    accesses = accesses;
  };
  path = [];
}

-- ---- two deposits of one customer, of which the second request took effect first

two_deposits : Trace
unfolding one_batch asked
two_deposits = one_batch
    (asked 1 (DepositChecking (codes "ann") (pos 5)) ∷ asked 2 (DepositChecking (codes "ann") (pos 7)) ∷ []) 2

deposits_in : List ℕ → Placed
unfolding first_attempt noted write
deposits_in certificate =
    first_attempt certificate (Done ∷ Done ∷ [])
    (noted 0 1 (write 1 0 (pos 0) (pos 7) ∷ []) ∷ noted 1 0 (write 1 1 (pos 7) (pos 12) ∷ []) ∷ [])

-- in the order 1, 0 the second request sees version 0, and the first what it left
first_sees : visible_to two_deposits (deposits_in (1 ∷ 0 ∷ [])) 1 1 ≡ record { version = 0; value = pos 0 }
unfolding two_deposits deposits_in
first_sees = refl

second_sees : visible_to two_deposits (deposits_in (1 ∷ 0 ∷ [])) 0 1 ≡ record { version = 1; value = pos 7 }
unfolding two_deposits deposits_in
second_sees = refl

-- in the order 0, 1 the second request should have seen what the first left
should_see : visible_to two_deposits (deposits_in (0 ∷ 1 ∷ [])) 1 1 ≡ record { version = 2; value = pos 12 }
unfolding two_deposits deposits_in
should_see = refl

-- ---- a saving deposit, a balance that saw it, and a check that didn't

three_requests : Trace
unfolding one_batch asked
three_requests =
    one_batch (asked 1 (TransactSaving (codes "ann") (pos 2000)) ∷ asked 2 (Balance (codes "ann")) ∷ asked 3
    (WriteCheck (codes "ann") (pos 1000)) ∷ []) 3

requests_in : List ℕ → Placed
unfolding first_attempt noted write read
requests_in certificate =
    first_attempt certificate (Done ∷ Total (pos 2000) ∷ Done ∷ [])
    (noted 0 0 (write 0 0 (pos 0) (pos 2000) ∷ []) ∷ noted 1 1 (read 0 1 (pos 2000) ∷ read 1 0 (pos 0) ∷ [])
    ∷ noted 2 2 (read 0 0 (pos 0) ∷ write 1 0 (pos 0) (negsuc 1099) ∷ []) ∷ [])

-- in the order 0, 1, 2 the check should have seen the saving deposit
check_should_see : visible_to three_requests (requests_in (0 ∷ 1 ∷ 2 ∷ [])) 2 0
    ≡ record { version = 1; value = pos 2000 }
unfolding three_requests requests_in
check_should_see = refl

-- in the order 2, 0, 1 the balance should have seen the check, and in the order 2, 1, 0 no saving deposit
balance_should_see : visible_to three_requests (requests_in (2 ∷ 0 ∷ 1 ∷ [])) 1 1
    ≡ record { version = 1; value = negsuc 1099 }
unfolding three_requests requests_in
balance_should_see = refl

balance_should_see_none : visible_to three_requests (requests_in (2 ∷ 1 ∷ 0 ∷ [])) 1 0
    ≡ record { version = 0; value = pos 0 }
unfolding three_requests requests_in
balance_should_see_none = refl

-- no order agrees with all three: each precedes another
circle : map (λ (p : ℕ × ℕ). precedes (executed_at three_requests (requests_in []).attempt p.0)
    (executed_at three_requests (requests_in []).attempt p.1)) ((0, 1) ∷ (1, 2) ∷ (2, 0) ∷ [])
    ≡ true ∷ true ∷ true ∷ []
unfolding three_requests requests_in
circle = refl
