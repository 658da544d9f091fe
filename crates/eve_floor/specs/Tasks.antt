-- A request of a batch that is to be executed, and what is drawn for it. docs/DEPLOYMENT.md, "Executions".
use Rattle.std.specs.Prelude.{◌≡◌, ℕ, ◌<◌, List, length, Result, Ok, Err}
use Rattle.eve_smallbank.specs.Touch.{touched_of}
use Rattle.eve_grammar.specs.Trace.{request_with}
use Rattle.eve_write.specs.Data.{batch as plain}
use Rattle.eve_stamps.specs.declared.fault.StampFault.{StampFault}
use Rattle.eve_stamps.specs.declared.fault.StampFault.TheVariants as stamp
use Rattle.eve_stamps.specs.Applied.{Applied}
use Rattle.eve_recorder.specs.TicketViews.{Drawer}
use Rattle.eve_floor.specs.declared.task.Task.{Task}
use Rattle.eve_floor.specs.declared.fault.ExecFault.{ExecFault}
use Rattle.eve_floor.specs.declared.fault.ExecFault.TheVariants as fault
use Rattle.eve_floor.specs.Executing.{IsRecordOf, with_drawn, IsSpent}

-- the batch has a request with this index, and what it touches was looked up among these names
abbrev pub IsRightTask : List (List ℕ) → Task → Type 0
IsRightTask names task = (task.index < length task.batch.now.requests.items)
    × (task.reached.now ≡ touched_of names (request_with (plain task.batch.now) task.index))

-- the same fault, of an execution
abbrev pub told : StampFault → ExecFault
told stamp.NoRow = fault.NoRow
told stamp.TickOrder = fault.TickOrder
told stamp.Worn = fault.Worn
told stamp.Memory = fault.Memory

-- what a seat has drawn where no record was made: nothing where it was spent, else one number
abbrev pub Refuses : ExecFault → Drawer → Drawer → Type 0
Refuses fault.Full old new = ⊥
Refuses fault.Spent old new = (new ≡ old) × IsSpent old
Refuses fault.NoRow old new = (tick : ℕ) × (new ≡ with_drawn tick old)
Refuses fault.TickOrder old new = (tick : ℕ) × (new ≡ with_drawn tick old)
Refuses fault.Worn old new = (tick : ℕ) × (new ≡ with_drawn tick old)
Refuses fault.Memory old new = (tick : ℕ) × (new ≡ with_drawn tick old)

-- at Ok one number was drawn, which is the tick of the task's record
abbrev pub ExecutesTask : List (List ℕ) → Task → Drawer → Drawer → Result Applied ExecFault → Type 0
ExecutesTask names task old new (Ok r) = (new ≡ with_drawn r.tick old)
    × IsRecordOf names (request_with (plain task.batch.now) task.index) task.index task.worker task.place r
ExecutesTask names task old new (Err why) = Refuses why old new
