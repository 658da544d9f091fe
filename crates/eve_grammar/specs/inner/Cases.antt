-- Two small traces and their bytes. docs/TRACE.md, "Two small traces".
use Rattle.std.specs.Prelude.{ℕ, pos, false, List, [], ◌∷◌, codes}
use Rattle.eve_smallbank.specs.SmallBank.{DepositChecking}
use Rattle.eve_smallbank.specs.declared.request.Reply.TheVariants.{Done}
use Rattle.eve_smallbank.specs.declared.entry.Kind.TheVariants.{Write}
use Rattle.eve_grammar.specs.Trace.{Customer, Attempts, Commits, ForCommit, Trace}

-- a customer with nothing in it
abbrev pub customer_ann : Customer
customer_ann = record { name = codes "ann"; saving = pos 0; checking = pos 0 }

-- one of each, and no batch
abbrev pub empty_run : Trace
empty_run = record {
  head = record {
    version = 1;
    replicas = 1;
    verifiers = 1;
    quorum = 1;
    window = 1;
    workers = 1;
    customers = 1;
    batches = 0;
  };
  customers = customer_ann ∷ [];
  batches = [];
  sections = [] ∷ [];
  verifiers = [] ∷ [];
  sent = [];
}

-- its 74 bytes
abbrev pub empty_run_bytes : List ℕ
empty_run_bytes =
    69 ∷ 86 ∷ 69 ∷ 83 ∷ 66 ∷ 75 ∷ 0 ∷ 1 ∷ 1 ∷ 1 ∷ 1 ∷ 1 ∷ 1 ∷ 0 ∷ 0 ∷ 0 ∷ 0 ∷ 0 ∷ 0 ∷ 1 ∷ 0 ∷ 0 ∷ 0 ∷ 0 ∷ 0 ∷ 0 ∷ 0 ∷
    0 ∷ 0 ∷ 0 ∷ 0 ∷ 74 ∷ 1 ∷ 0 ∷ 0 ∷ 0 ∷ 20 ∷ 3 ∷ 97 ∷ 110 ∷ 110 ∷ 0 ∷ 0 ∷ 0 ∷ 0 ∷ 0 ∷ 0 ∷ 0 ∷ 0 ∷ 0 ∷ 0 ∷ 0 ∷ 0 ∷ 0 ∷
    0 ∷ 0 ∷ 0 ∷ 16 ∷ 0 ∷ 0 ∷ 0 ∷ 1 ∷ 0 ∷ 32 ∷ 0 ∷ 0 ∷ 0 ∷ 1 ∷ 0 ∷ 127 ∷ 0 ∷ 0 ∷ 0 ∷ 0 ∷ []

-- the token of the balances and the reply after the deposit
abbrev pub token : List ℕ
token =
    228 ∷ 19 ∷ 2 ∷ 41 ∷ 131 ∷ 131 ∷ 222 ∷ 149 ∷ 163 ∷ 140 ∷ 107 ∷ 87 ∷ 32 ∷ 41 ∷ 119 ∷ 64 ∷ 85 ∷ 157 ∷ 211 ∷ 105 ∷
    144 ∷ 200 ∷ 30 ∷ 190 ∷ 39 ∷ 198 ∷ 244 ∷ 40 ∷ 89 ∷ 250 ∷ 49 ∷ 170 ∷ []

-- a batch that deposits 500, executed, committed and voted for
abbrev pub deposit_committed : Trace
deposit_committed = record {
  head = record {
    version = 1;
    replicas = 1;
    verifiers = 1;
    quorum = 1;
    window = 1;
    workers = 1;
    customers = 1;
    batches = 1;
  };
  customers = customer_ann ∷ [];
  batches = record {
    sizes = 1 ∷ [];
    requests = record { client = 7; number = 1; request = DepositChecking (codes "ann") (pos 500) } ∷ [];
  } ∷ [];
  sections = (Attempts (record {
    seq = 1;
    view = 0;
    serial = false;
    certificate = 0 ∷ [];
    replies = Done ∷ [];
    token = token;
    accesses = record {
      worker = 0;
      place = 0;
      index = 0;
      entries = record { row = 1; kind = Write; version = 0; seen = pos 0; after = pos 500 } ∷ [];
    } ∷ [];
  }) ∷ Commits (record { seq = 1; view = 0; token = token }) ∷ []) ∷ [];
  verifiers = (record { seq = 1; view = 0; choice = ForCommit token } ∷ []) ∷ [];
  sent = [];
}

-- its 302 bytes
abbrev pub deposit_committed_bytes : List ℕ
deposit_committed_bytes =
    69 ∷ 86 ∷ 69 ∷ 83 ∷ 66 ∷ 75 ∷ 0 ∷ 1 ∷ 1 ∷ 1 ∷ 1 ∷ 1 ∷ 1 ∷ 0 ∷ 0 ∷ 0 ∷ 0 ∷ 0 ∷ 0 ∷ 1 ∷ 0 ∷ 0 ∷ 0 ∷ 1 ∷ 0 ∷ 0 ∷ 0 ∷
    0 ∷ 0 ∷ 0 ∷ 1 ∷ 46 ∷ 1 ∷ 0 ∷ 0 ∷ 0 ∷ 20 ∷ 3 ∷ 97 ∷ 110 ∷ 110 ∷ 0 ∷ 0 ∷ 0 ∷ 0 ∷ 0 ∷ 0 ∷ 0 ∷ 0 ∷ 0 ∷ 0 ∷ 0 ∷ 0 ∷ 0 ∷
    0 ∷ 0 ∷ 0 ∷ 2 ∷ 0 ∷ 0 ∷ 0 ∷ 33 ∷ 0 ∷ 0 ∷ 0 ∷ 1 ∷ 0 ∷ 1 ∷ 0 ∷ 1 ∷ 0 ∷ 0 ∷ 0 ∷ 7 ∷ 0 ∷ 0 ∷ 0 ∷ 0 ∷ 0 ∷ 0 ∷ 0 ∷ 1 ∷
    2 ∷ 3 ∷ 97 ∷ 110 ∷ 110 ∷ 0 ∷ 0 ∷ 0 ∷ 0 ∷ 0 ∷ 0 ∷ 1 ∷ 244 ∷ 16 ∷ 0 ∷ 0 ∷ 0 ∷ 1 ∷ 0 ∷ 17 ∷ 0 ∷ 0 ∷ 0 ∷ 54 ∷ 0 ∷ 0 ∷
    0 ∷ 1 ∷ 0 ∷ 0 ∷ 0 ∷ 0 ∷ 0 ∷ 0 ∷ 1 ∷ 0 ∷ 0 ∷ 0 ∷ 0 ∷ 0 ∷ 0 ∷ 0 ∷ 0 ∷ 0 ∷ 0 ∷ 0 ∷ 228 ∷ 19 ∷ 2 ∷ 41 ∷ 131 ∷ 131 ∷
    222 ∷ 149 ∷ 163 ∷ 140 ∷ 107 ∷ 87 ∷ 32 ∷ 41 ∷ 119 ∷ 64 ∷ 85 ∷ 157 ∷ 211 ∷ 105 ∷ 144 ∷ 200 ∷ 30 ∷ 190 ∷ 39 ∷ 198 ∷
    244 ∷ 40 ∷ 89 ∷ 250 ∷ 49 ∷ 170 ∷ 18 ∷ 0 ∷ 0 ∷ 0 ∷ 35 ∷ 0 ∷ 0 ∷ 0 ∷ 0 ∷ 0 ∷ 1 ∷ 0 ∷ 0 ∷ 0 ∷ 1 ∷ 1 ∷ 0 ∷ 0 ∷ 0 ∷ 0 ∷
    0 ∷ 0 ∷ 0 ∷ 0 ∷ 0 ∷ 0 ∷ 0 ∷ 0 ∷ 0 ∷ 0 ∷ 0 ∷ 0 ∷ 0 ∷ 0 ∷ 0 ∷ 0 ∷ 0 ∷ 0 ∷ 1 ∷ 244 ∷ 19 ∷ 0 ∷ 0 ∷ 0 ∷ 40 ∷ 0 ∷ 0 ∷
    0 ∷ 1 ∷ 0 ∷ 0 ∷ 0 ∷ 0 ∷ 228 ∷ 19 ∷ 2 ∷ 41 ∷ 131 ∷ 131 ∷ 222 ∷ 149 ∷ 163 ∷ 140 ∷ 107 ∷ 87 ∷ 32 ∷ 41 ∷ 119 ∷ 64 ∷
    85 ∷ 157 ∷ 211 ∷ 105 ∷ 144 ∷ 200 ∷ 30 ∷ 190 ∷ 39 ∷ 198 ∷ 244 ∷ 40 ∷ 89 ∷ 250 ∷ 49 ∷ 170 ∷ 32 ∷ 0 ∷ 0 ∷ 0 ∷ 1 ∷ 0 ∷
    33 ∷ 0 ∷ 0 ∷ 0 ∷ 41 ∷ 0 ∷ 0 ∷ 0 ∷ 1 ∷ 0 ∷ 0 ∷ 0 ∷ 0 ∷ 1 ∷ 228 ∷ 19 ∷ 2 ∷ 41 ∷ 131 ∷ 131 ∷ 222 ∷ 149 ∷ 163 ∷ 140 ∷
    107 ∷ 87 ∷ 32 ∷ 41 ∷ 119 ∷ 64 ∷ 85 ∷ 157 ∷ 211 ∷ 105 ∷ 144 ∷ 200 ∷ 30 ∷ 190 ∷ 39 ∷ 198 ∷ 244 ∷ 40 ∷ 89 ∷ 250 ∷
    49 ∷ 170 ∷ 127 ∷ 0 ∷ 0 ∷ 0 ∷ 0 ∷ []
