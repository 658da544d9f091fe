-- What is noted of a request that was applied. docs/DEPLOYMENT.md, "Executions".
use Rattle.std.specs.Prelude.{ℕ, List}
use Rattle.eve_smallbank.specs.declared.entry.Entry.{Entry}
use Rattle.eve_smallbank.specs.declared.request.Reply.{Reply}
use Rattle.eve_smallbank.specs.SmallBank.{Request}
use Rattle.eve_smallbank.specs.Access.{Executed}

-- Who ran it, its place among what that worker notes, its index in the batch, its tick, the reply, and what it read
-- and wrote.
pub record Applied : Type 0 where
  pub worker : ℕ
  pub place : ℕ
  pub index : ℕ
  pub tick : ℕ
  pub reply : Reply
  pub entries : List Entry

-- what is noted of an executed request
abbrev pub noted_of : ℕ → ℕ → ℕ → ℕ → Executed → Applied
noted_of worker place index tick x =
    record { worker = worker; place = place; index = index; tick = tick; reply = x.reply; entries = x.entries }

-- the request as it was executed, by what was noted of it
abbrev pub executed_as : Request → Applied → Executed
executed_as request r = record { request = request; reply = r.reply; entries = r.entries }
