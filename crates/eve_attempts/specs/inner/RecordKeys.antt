-- Records by the keys that order them. docs/DEPLOYMENT.md, "A replica's ledger".
use Rattle.std.specs.Prelude.{◌≡◌, ℕ, ◌+◌, ◌<◌, ◌≤◌, ⊤, List, [], ◌∷◌, map, length, slice_index_or, slice_set}
use Rattle.std.specs.List.{AllByRecursion}
use Rattle.eve_smallbank.specs.declared.request.Reply.{Reply}
use Rattle.eve_smallbank.specs.declared.request.Reply.TheVariants.{Done}
use Rattle.eve_smallbank.specs.Chain.{Table, Sees, table_after}
use Rattle.eve_stamps.specs.Applied.{Applied}

-- tick, index and place
abbrev pub Key : Type 0
Key = ℕ × ℕ × ℕ

-- the keys of records that stand from this place on
abbrev pub keys_from : ℕ → List Applied → List Key
keys_from n [] = []
keys_from n (r ∷ rs) = (r.tick, r.index, n) ∷ keys_from (n + 1) rs

-- what stands where no record does
abbrev pub no_record : Applied
no_record = record { worker = 0; place = 0; index = 0; tick = 0; reply = Done; entries = [] }

-- the record of a key
abbrev pub record_of : List Applied → Key → Applied
record_of records k = slice_index_or records k.2 no_record

-- the key is that of a record
pub record IsKeyOf (records : List Applied) (k : Key) : Type 0 where
  pub there : k.2 < length records
  pub tick : k.0 ≡ (record_of records k).tick
  pub index : k.1 ≡ (record_of records k).index

-- the records of keys
abbrev pub records_in : List Applied → List Key → List Applied
records_in records keys = map (record_of records) keys

-- the one doesn't come after the other: its tick is no greater, and where the ticks are equal its index isn't
pub record IsNoLaterRecord (r q : Applied) : Type 0 where
  pub tick : r.tick ≤ q.tick
  pub index : q.tick ≤ r.tick → r.index ≤ q.index

abbrev pub TicksDontFall : List Applied → Type 0
TicksDontFall [] = ⊤
TicksDontFall (r ∷ rs) = AllByRecursion (IsNoLaterRecord r) rs × TicksDontFall rs

-- each record's entries see what the table and the records before it leave
abbrev pub AreSeenAlong : Table → List Applied → Type 0
AreSeenAlong table [] = ⊤
AreSeenAlong table (r ∷ rs) = AllByRecursion (Sees table) r.entries × AreSeenAlong (table_after table r.entries) rs

-- what they leave
abbrev pub table_after_records : Table → List Applied → Table
table_after_records table [] = table
table_after_records table (r ∷ rs) = table_after_records (table_after table r.entries) rs

-- replies with those of the records at their indexes
abbrev pub replies_placed : List Reply → List Applied → List Reply
replies_placed replies [] = replies
replies_placed replies (r ∷ rs) = replies_placed (slice_set replies r.index r.reply) rs
