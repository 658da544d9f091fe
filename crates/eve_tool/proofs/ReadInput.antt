-- What is said of an input that was read to its end, or to a limit.
use Rattle.std.proofs.Common.{◌≡◌, ℕ, ◌+◌, ◌^◌, ◌<◌, ◌≤◌, ◌⊎◌, inl, inr, List, length, lit≤, take, Option, Some, None}
use Rattle.std.proofs.Common.{ap, ◌++◌, drop, subst, sym, ◌∙◌, arith}
use Rattle.std.specs.Prelude.{IfSome}
use Rattle.std.proofs.lemmas.Bool.{cases_lt}
use Rattle.std.proofs.lemmas.List.{append_cancel_left, length-take, take-append-drop, take_all}
use Rattle.std.proofs.lemmas.Option.{IfSome_then}
use Rattle.std.specs.Io.KnownBytes.{Consumes}
use Rattle.eve_grammar.specs.declared.limits.TheConstants.{MOST_BYTES}
use Rattle.eve_replica.specs.declared.fault.RunFault.TheVariants as ended
use Rattle.eve_tool.specs.declared.fault.ToolFault.{ToolFault}
use Rattle.eve_tool.specs.declared.fault.ToolFault.TheVariants as fault
use Rattle.eve_workload.specs.declared.mixer.Mixer.{Mixer}
use Rattle.eve_workload.specs.Steps.{IsBadLine}
use Rattle.eve_tool.specs.Audit.{verdict_text}
use Rattle.eve_tool.specs.Calls.{AsksForRandom, CallBreaks, CallSays, HasBadLine, IsTooLongFor, Leaves, WasRead}
use Rattle.eve_tool.specs.Explain.{explained_text}
use Rattle.eve_tool.specs.Run.{EndsRun, IsRunnable, IsTooLong, Runs}
use Rattle.eve_tool_arguments.specs.Arguments.{Audit, Explain, Run, Show, ShowLong, Subcommand}
use Rattle.eve_tool_arguments.specs.Formats.{version_of}
use Rattle.eve_tool_arguments.specs.declared.format.Format.{Format}
use Rattle.eve_tool.proofs.CutInput.{AuditsAs-cut, Shows-cut, ShowsLong-cut, WritesPrefixOf-cut}
use Rattle.eve_tool.proofs.ExplainedLines.{Explains-cut}

-- what is left is what is behind what was read
pub is_read : (limit : ℕ) (known left : Option (List ℕ)) (read : List ℕ)
    → IfSome known (λ k. read ≡ take (limit + 1) k) → Consumes known left read → WasRead limit known left
is_read limit None left read prefix eaten = record { rest = tt }
is_read limit (Some k) None read prefix eaten = absurd eaten
is_read limit (Some k) (Some rest) read prefix eaten =
    let whole : take (limit + 1) k ++ rest ≡ take (limit + 1) k ++ drop (limit + 1) k =
    ap (λ l. l ++ rest) (sym prefix) ∙ sym eaten ∙ sym (take-append-drop (limit + 1) k) in
    record { rest = ap Some (append_cancel_left (take (limit + 1) k) rest (drop (limit + 1) k) whole) }

-- what is short enough was read whole
whole : (limit : ℕ) (bytes : List ℕ) → length (take (limit + 1) bytes) ≤ limit → take (limit + 1) bytes ≡ bytes
whole limit bytes short = by (cases_lt (limit + 1) (length bytes))
  where
    by : (limit + 1 < length bytes) ⊎ (length bytes ≤ limit + 1) → take (limit + 1) bytes ≡ bytes
    by (inl longer) = absurd (omega (arith, length-take (limit + 1) bytes))
    by (inr reached) = take_all (limit + 1) bytes reached

of_short : (P : List ℕ → Type 0) (limit : ℕ) (known : Option (List ℕ)) (read : List ℕ)
    → IfSome known (λ k. read ≡ take (limit + 1) k) → length read ≤ limit → P read → IfSome known P
of_short P limit None read cut short p = tt
of_short P limit (Some k) read cut short p = subst P (cut ∙ whole limit k (omega (arith, ap length cut))) p

-- what was left is too long where too much of it was read
too_long : (limit : ℕ) (known : Option (List ℕ)) (read : List ℕ) → IfSome known (λ k. read ≡ take (limit + 1) k)
    → limit < length read → IfSome known (λ k. limit < length k)
too_long limit None read cut long = tt
too_long limit (Some k) read cut long = omega (arith, length-take (limit + 1) k, ap length cut)

-- ---- what is said

-- what a call says of as many bytes as it reads it says of all
pub Runs-cut : (limit : ℕ) (mixer : Mixer) (asked : Format) (bytes text : List ℕ) (status : ℕ)
    → Runs limit mixer asked (take (limit + 1) bytes) text status → Runs limit mixer asked bytes text status
Runs-cut limit mixer asked bytes text status runs =
    subst (λ (b : List ℕ). Runs limit mixer asked b text status) (whole limit bytes runs.short) runs

pub says_cut : (call : Subcommand) (bytes text : List ℕ) (status : ℕ)
    → CallSays MOST_BYTES call (take (MOST_BYTES + 1) bytes) text status → CallSays MOST_BYTES call bytes text status
says_cut (Audit style) bytes text status said =
    AuditsAs-cut (verdict_text style) (2 ^ 30) bytes text status (lit≤ tt) said
says_cut (Explain style) bytes text status said = Explains-cut (explained_text style) bytes text status said
says_cut (Run mixer asked) bytes text status said = Runs-cut (2 ^ 30) mixer asked bytes text status said
says_cut Show bytes text status said = Shows-cut (2 ^ 30) bytes text status (lit≤ tt) said
says_cut (ShowLong style) bytes text status said = ShowsLong-cut style (2 ^ 30) bytes text status (lit≤ tt) said

-- ---- what is left by a fault

bad_line : (limit : ℕ) (call : Subcommand) (known : Option (List ℕ)) (read : List ℕ) (number : ℕ)
    → IfSome known (λ k. read ≡ take (limit + 1) k) → HasBadLine limit call (Some read) number
    → HasBadLine limit call known number
bad_line limit (Run mixer asked) known read number cut bad =
    of_short (λ b. (length b ≤ limit) × IsBadLine (version_of asked) b number) limit known read cut bad.0 bad
bad_line limit _ known read number cut bad = absurd bad

too_long_for : (limit : ℕ) (call : Subcommand) (known : Option (List ℕ)) (read : List ℕ)
    → IfSome known (λ k. read ≡ take (limit + 1) k) → IsTooLongFor limit call (Some read)
    → IsTooLongFor limit call known
too_long_for limit (Run mixer asked) known read cut long = elim (cases_lt limit (length read)) [
  | inl longer ↦ IfSome_then known (too_long limit known read cut longer) (λ k l. inl l)
  | inr short ↦ of_short (IsTooLong limit mixer asked) limit known read cut short long
]
too_long_for limit _ known read cut long = absurd long

breaks : (limit : ℕ) (call : Subcommand) (known : Option (List ℕ)) (read : List ℕ)
    → IfSome known (λ k. read ≡ take (limit + 1) k) → CallBreaks limit call (Some read) → CallBreaks limit call known
breaks limit (Run mixer asked) known read cut ends =
    of_short (λ b. (length b ≤ limit) × EndsRun ended.Broken mixer asked b) limit known read cut ends.0 ends
breaks limit _ known read cut ends = absurd ends

asks_for_random : (limit : ℕ) (call : Subcommand) (known : Option (List ℕ)) (read : List ℕ)
    → IfSome known (λ k. read ≡ take (limit + 1) k) → AsksForRandom limit call (Some read)
    → AsksForRandom limit call known
asks_for_random limit (Run mixer asked) known read cut asks =
    of_short (λ b. (length b ≤ limit) × IsRunnable asked b) limit known read cut asks.0 asks
asks_for_random limit (Audit style) known read cut asks = tt
asks_for_random limit (Explain style) known read cut asks = tt
asks_for_random limit Show known read cut asks = absurd asks
asks_for_random limit (ShowLong style) known read cut asks = absurd asks

-- what a call left of as many bytes as it read it left of all
pub left_cut : {O : Type 0} (limit : ℕ) (written : O → Option (List ℕ)) (failures : O → ℕ) (call : Subcommand)
    (known : Option (List ℕ)) (failed : Type 0) (read : List ℕ) (old new : O)
    → ((bytes text : List ℕ) (s : ℕ) → CallSays limit call (take (limit + 1) bytes) text s
    → CallSays limit call bytes text s)
    → IfSome known (λ k. read ≡ take (limit + 1) k) → (why : ToolFault)
    → Leaves limit written failures call (Some read) ⊥ old new why
    → Leaves limit written failures call known failed old new why
left_cut limit written failures call known failed read old new cuts cut fault.Read left = absurd left.0
left_cut limit written failures call known failed read old new cuts cut (fault.Line number) left =
    (bad_line limit call known read number cut left.0, left.1)
left_cut limit written failures call known failed read old new cuts cut fault.TooLong left =
    (too_long_for limit call known read cut left.0, left.1)
left_cut limit written failures call known failed read old new cuts cut fault.Broken left =
    (breaks limit call known read cut left.0, left.1)
left_cut limit written failures call known failed read old new cuts cut fault.Random left =
    (asks_for_random limit call known read cut left.0, left.1)
left_cut limit written failures call known failed read old new cuts cut fault.Memory (inl same) = inl same
left_cut limit written failures call known failed read old new cuts cut fault.Memory (inr prefix) =
    let says = CallSays limit call in
    inr (prefix.0, WritesPrefixOf-cut says limit known read (written old) (written new) cuts cut prefix.1)
left_cut limit written failures call known failed read old new cuts cut fault.Write left =
    (left.0, WritesPrefixOf-cut (CallSays limit call) limit known read (written old) (written new) cuts cut left.1)
