-- What is made of records before a row changes.
use Rattle.std.specs.Prelude.{◌≡◌, ◌*◌, ◌≤◌, IsTrue, List, [], map, length, replicate, vec_len, vec_capacity}
use Rattle.std.specs.List.{AllByRecursion, list_all}
use Rattle.std.specs.List.Sorted.{IsPermutation}
use Rattle.eve_smallbank.specs.declared.request.Reply.TheVariants.{Done}
use Rattle.eve_grammar.specs.Limits.{is_reply}
use Rattle.eve_stamps.specs.Applied.{Applied}
use Rattle.eve_attempts.specs.declared.taken.Taken.{Taken}
use Rattle.eve_attempts.specs.ClosedAttempts.{access_noted, indexes_of}
use Rattle.eve_attempts.specs.inner.RecordKeys.{IsKeyOf, records_in, TicksDontFall, replies_placed}

-- the keys are those of the records in the order of their ticks, and the parts are the records'
pub record IsTakenOf (records : List Applied) (t : Taken) : Type 0 where
  pub same : IsPermutation records (records_in records t.order.items)
  pub rising : TicksDontFall (records_in records t.order.items)
  pub there : AllByRecursion (IsKeyOf records) t.order.items
  pub certificate : t.certificate.items ≡ indexes_of (records_in records t.order.items)
  pub replies : t.replies.items ≡ replies_placed (replicate (length records) Done) records
  pub limits : IsTrue (list_all is_reply t.replies.items)
  pub accesses : t.accesses ≡ map access_noted records
  pub none : t.written.items ≡ []
  pub empty : vec_len t.written ≡ 0
  pub room : 3 * length records ≤ vec_capacity t.written
