-- What each call says of bytes, and what it leaves where it ends without an answer.
-- docs/USING.md, "Lines and statuses".
use Rattle.std.specs.Prelude.{◌≡◌, ◌≢◌, ℕ, ◌+◌, ◌≤◌, ◌⊎◌, List, length, drop, Option, Some, IfSome, ⊤}
use Rattle.eve_streams.specs.Failures.{after_failure}
use Rattle.eve_grammar.specs.declared.limits.TheConstants.{MOST_BYTES}
use Rattle.eve_workload.specs.Steps.{IsBadLine}
use Rattle.eve_write.specs.Writes.{Wrote, Stopped}
use Rattle.eve_replica.specs.declared.fault.RunFault.TheVariants as ended
use Rattle.eve_tool.specs.declared.fault.ToolFault.{ToolFault}
use Rattle.eve_tool.specs.declared.fault.ToolFault.TheVariants as fault
use Rattle.eve_tool.specs.Audit.{AuditsAs, verdict_text}
use Rattle.eve_tool.specs.Explain.{Explains, explained_text}
use Rattle.eve_tool.specs.Fault.{error_line, status_of}
use Rattle.eve_tool.specs.Run.{Runs, IsTooLong, IsRunnable, EndsRun}
use Rattle.eve_tool.specs.Show.{Shows, ShowsLong, StopsInLines, StopsUpTo}
use Rattle.eve_tool.specs.declared.listing.Listing.{Listing}
use Rattle.eve_tool.specs.declared.listing.Listing.TheVariants.{Full}
use Rattle.eve_tool_arguments.specs.declared.style.Style.{Style}
use Rattle.eve_tool_arguments.specs.declared.style.Style.TheVariants.{Json}
use Rattle.eve_tool_arguments.specs.Formats.{version_of}
use Rattle.eve_tool_arguments.specs.Arguments.{Subcommand, Audit, Explain, Run, Show, ShowLong, call_of}
use Rattle.eve_tool.specs.Writes.{WritesPrefixOf}

-- the arguments are this call
abbrev pub Calls : Subcommand → List (List ℕ) → Type 0
Calls call arguments = call_of arguments ≡ Some call

-- The text is what the call says of the bytes, and the number is the exit status. A run has at most `limit` bytes.
abbrev pub CallSays : ℕ → Subcommand → List ℕ → List ℕ → ℕ → Type 0
CallSays limit (Audit style) = AuditsAs (verdict_text style)
CallSays limit (Explain style) = Explains (explained_text style)
CallSays limit (Run mixer asked) = Runs limit mixer asked
CallSays limit Show = Shows
CallSays limit (ShowLong style) = ShowsLong style

-- the number is that of a bad line of the bytes, which `run` alone reads by lines, and only where they are not too long
abbrev pub HasBadLine : ℕ → Subcommand → Option (List ℕ) → ℕ → Type 0
HasBadLine limit (Run mixer asked) known number =
    IfSome known (λ bytes. (length bytes ≤ limit) × IsBadLine (version_of asked) bytes number)
HasBadLine limit _ known number = ⊥

-- the bytes are too long for `run`, or the trace of them is, or a run of them would transfer too much
abbrev pub IsTooLongFor : ℕ → Subcommand → Option (List ℕ) → Type 0
IsTooLongFor limit (Run mixer asked) known = IfSome known (IsTooLong limit mixer asked)
IsTooLongFor limit _ known = ⊥

-- the call runs the bytes, which are not too long
abbrev pub CallRuns : ℕ → Subcommand → Option (List ℕ) → Type 0
CallRuns limit (Run mixer asked) known = IfSome known (λ bytes. (length bytes ≤ limit) × IsRunnable asked bytes)
CallRuns limit _ known = ⊥

-- the call runs the bytes, which are not too long, and the run may break: it came so far, and some batch is left
abbrev pub CallBreaks : ℕ → Subcommand → Option (List ℕ) → Type 0
CallBreaks limit (Run mixer asked) known =
    IfSome known (λ bytes. (length bytes ≤ limit) × EndsRun ended.Broken mixer asked bytes)
CallBreaks limit _ known = ⊥

-- the call asks for random words, once the bytes are read
abbrev pub AsksForRandom : ℕ → Subcommand → Option (List ℕ) → Type 0
AsksForRandom limit (Audit style) known = ⊤
AsksForRandom limit (Explain style) known = ⊤
AsksForRandom limit (Run mixer asked) known = CallRuns limit (Run mixer asked) known
AsksForRandom limit Show known = ⊥
AsksForRandom limit (ShowLong style) known = ⊥

-- memory may run out while frames are listed so: each object is made in memory
abbrev pub MakesLines : Listing → Type 0
MakesLines (Full Json) = ⊤
MakesLines _ = ⊥

-- memory may run out while the call sends in parts what it says
abbrev pub SendsInParts : Subcommand → Type 0
SendsInParts (ShowLong style) = MakesLines (Full style)
SendsInParts _ = ⊥

-- What a call left that ended by a fault: what stands of the bytes that were in the input, where they are `known`, and
-- of out, `old` before the call and `new` after it. `failed` says that the input failed. A run has at most `limit`
-- bytes.
abbrev pub Leaves : ℕ → {O : Type 0} → (O → Option (List ℕ)) → (O → ℕ) → Subcommand → Option (List ℕ) → Type 0 → O → O
    → ToolFault → Type 0
Leaves limit written failures call known failed old new fault.Read = failed × (new ≡ old)
Leaves limit written failures call known failed old new (fault.Line number) =
    HasBadLine limit call known number × (new ≡ old)
Leaves limit written failures call known failed old new fault.TooLong = IsTooLongFor limit call known × (new ≡ old)
Leaves limit written failures call known failed old new fault.Broken = CallBreaks limit call known × (new ≡ old)
Leaves limit written failures call known failed old new fault.Random =
    AsksForRandom limit call known × (new ≡ old)
Leaves limit written failures call known failed old new fault.Memory =
    (new ≡ old) ⊎ (SendsInParts call × WritesPrefixOf (CallSays limit call) known (written old) (written new))
Leaves limit written failures call known failed old new fault.Write =
    (failures new ≡ after_failure (failures old))
    × WritesPrefixOf (CallSays limit call) known (written old) (written new)

-- what was left of a text that was to be sent, by a fault: the text is held whole before any of it is sent
abbrev pub StopsSending : {O : Type 0} → (O → Option (List ℕ)) → (O → ℕ) → O → O → List ℕ → ToolFault → Type 0
StopsSending written failures old new text fault.Memory = new ≡ old
StopsSending written failures old new text fault.Write = Stopped written failures old new text
StopsSending written failures old new text _ = ⊥

-- why frames were not all listed so: out failed, or there was no memory for an object
abbrev pub FailsLines : {O : Type 0} → Listing → (O → ℕ) → O → O → ToolFault → Type 0
FailsLines listing failures old new fault.Memory = MakesLines listing × (failures new ≡ failures old)
FailsLines listing failures old new fault.Write = failures new ≡ after_failure (failures old)
FailsLines listing failures old new _ = ⊥

-- what was left of lines of which the fact holds
abbrev pub StopsListing : {O : Type 0} → Style → (O → Option (List ℕ)) → (O → ℕ) → O → O → (List ℕ → Type 0)
    → ToolFault → Type 0
StopsListing style written failures old new Are why =
    ((why ≡ fault.Memory) × (new ≡ old))
    ⊎ (StopsInLines (written old) (written new) Are × FailsLines (Full style) failures old new why)

-- what was left of lines of which the fact holds and then this one, which is made before any of them is sent
abbrev pub StopsLong : {O : Type 0} → Style → (O → Option (List ℕ)) → (O → ℕ) → O → O → (List ℕ → Type 0) → List ℕ
    → ToolFault → Type 0
StopsLong style written failures old new Are last why =
    ((why ≡ fault.Memory) × (new ≡ old))
    ⊎ (StopsUpTo (written old) (written new) Are last × FailsLines (Full style) failures old new why)

-- The input was read, where its bytes are `known`: to its end, but no further than `limit + 1` bytes. `left` is what is
-- left of them.
pub record WasRead (limit : ℕ) (known left : Option (List ℕ)) : Type 0 where
  pub rest : IfSome known (λ bytes. left ≡ Some (drop (limit + 1) bytes))

-- a line was sent, or a prefix of it and then the stream failed
abbrev pub TellsLine : {E : Type 0} → (E → Option (List ℕ)) → (E → ℕ) → E → E → List ℕ → Type 0
TellsLine written failures old new line = Wrote written failures old new line ⊎ Stopped written failures old new line

-- so was the line of a fault
abbrev pub Tells : {E : Type 0} → (E → Option (List ℕ)) → (E → ℕ) → E → E → ToolFault → Type 0
Tells written failures old new why = TellsLine written failures old new (error_line why)

-- A call ended by a fault with this status, whose line was sent. `failed` says that the input failed,
-- `fine` that it did not, which is so at each fault but Read, and `consumed` that it was read, which is so at each but
-- Read and Memory. At each but Write the output did not fail.
pub record Stops {E O : Type 0} (told : E → Option (List ℕ)) (untold : E → ℕ) (written : O → Option (List ℕ))
    (failures : O → ℕ) (call : Subcommand)
    (known : Option (List ℕ)) (failed fine consumed : Type 0) (err_old err_new : E) (old new : O) (status : ℕ)
    : Type 0 where
  pub why : ToolFault
  pub ends : status_of why ≡ status
  pub left : Leaves MOST_BYTES written failures call known failed old new why
  pub read : why ≢ fault.Read → fine
  pub ended : why ≢ fault.Read → why ≢ fault.Memory → consumed
  pub wrote : why ≢ fault.Write → failures new ≡ failures old
  pub line : Tells told untold err_old err_new why

-- what was left where help was asked for, by a fault: memory ran out before any of it was sent, or a send failed
abbrev pub LeavesHelp : {O : Type 0} → (O → ℕ) → O → O → ToolFault → Type 0
LeavesHelp failures old new fault.Memory = new ≡ old
LeavesHelp failures old new fault.Write = failures new ≡ after_failure (failures old)
LeavesHelp failures old new _ = ⊥

-- help could not be given, by a fault with this status, whose line was sent
pub record StopsHelp {E O : Type 0} (told : E → Option (List ℕ)) (untold : E → ℕ) (failures : O → ℕ)
    (err_old err_new : E) (old new : O) (status : ℕ) : Type 0 where
  pub why : ToolFault
  pub ends : status_of why ≡ status
  pub left : LeavesHelp failures old new why
  pub line : Tells told untold err_old err_new why
