-- What a call left where the text that it was to send was not sent.
use Rattle.std.proofs.Common.{◌≡◌, ◌++◌, ℕ, List, Option, Some, Result, Ok}
use Rattle.std.proofs.Common.{Err, IfErr, OnErr, inl, inr, ap, refl, subst, sym}
use Rattle.std.specs.Prelude.{IsErrAnd, ◌≢◌}
use Rattle.eve_streams.specs.Prefix.{AppendsPrefix}
use Rattle.eve_tool.specs.declared.fault.ToolFault.{ToolFault}
use Rattle.eve_tool.specs.declared.fault.ToolFault.TheVariants as fault
use Rattle.eve_tool.specs.Calls.{CallSays, FailsLines, Leaves, MakesLines, SendsInParts, StopsListing, StopsLong}
use Rattle.eve_tool.specs.Calls.{StopsSending}
use Rattle.eve_tool.specs.declared.listing.Listing.{Listing}
use Rattle.eve_tool.specs.declared.listing.Listing.TheVariants.{Full}
use Rattle.eve_tool.proofs.ListedLines.{stops-before, stops_as}
use Rattle.eve_grammar.specs.declared.limits.TheConstants.{MOST_BYTES}
use Rattle.eve_tool.specs.Show.{ShowsLong}
use Rattle.eve_tool_arguments.specs.Arguments.{ShowLong, Subcommand}
use Rattle.eve_tool_arguments.specs.declared.style.Style.{Style}

-- by a text that is sent at once
pub sent_left : {O : Type 0} (written : O → Option (List ℕ)) (failures : O → ℕ) (call : Subcommand)
    (bytes text : List ℕ) (status : ℕ) (old new : O)
    → CallSays MOST_BYTES call bytes text status → (why : ToolFault) → StopsSending written failures old new text why
    → Leaves MOST_BYTES written failures call (Some bytes) ⊥ old new why
sent_left written failures call bytes text status old new said fault.Memory stopped = inl stopped
sent_left written failures call bytes text status old new said fault.Write stopped =
    (stopped.counted, record { text = text; status = status; said = said; written = stopped.prefix })
sent_left written failures call bytes text status old new said _ stopped = absurd stopped

-- by lines that are listed so, of which a prefix was sent
pub lines_left : {O : Type 0} (listing : Listing) (written : O → Option (List ℕ)) (failures : O → ℕ)
    (call : Subcommand) (bytes text : List ℕ) (status : ℕ) (old new : O) → CallSays MOST_BYTES call bytes text status
    → AppendsPrefix (written old) (written new) text → (MakesLines listing → SendsInParts call) → (why : ToolFault)
    → FailsLines listing failures old new why
    → Leaves MOST_BYTES written failures call (Some bytes) ⊥ old new why
lines_left listing written failures call bytes text status old new said prefix made fault.Memory fails =
    inr (made fails.0, record { text = text; status = status; said = said; written = prefix })
lines_left listing written failures call bytes text status old new said prefix made fault.Write fails =
    (fails, record { text = text; status = status; said = said; written = prefix })
lines_left listing written failures call bytes text status old new said prefix made _ fails = absurd fails

-- where it was no write, out did not fail
pub fails_fine : {O : Type 0} (listing : Listing) (failures : O → ℕ) (old new : O) (why : ToolFault)
    → FailsLines listing failures old new why → why ≢ fault.Write → failures new ≡ failures old
fails_fine listing failures old new fault.Memory fails other = fails.1
fails_fine listing failures old new fault.Write fails other = absurd (other refl)
fails_fine listing failures old new _ fails other = absurd fails

pub long_fine : {O : Type 0} (style : Style) (written : O → Option (List ℕ)) (failures : O → ℕ)
    (Are : List ℕ → Type 0) (last : List ℕ) (old new : O) (why : ToolFault)
    → StopsLong style written failures old new Are last why → why ≢ fault.Write → failures new ≡ failures old
long_fine style written failures Are last old new why (inl none) other = ap failures none.1
long_fine style written failures Are last old new why (inr some) other =
    fails_fine (Full style) failures old new why some.1 other

-- by lines that end with this one
pub long_stopped : {O : Type 0} (style : Style) (written : O → Option (List ℕ)) (failures : O → ℕ) (bytes : List ℕ)
    (Are : List ℕ → Type 0) (last : List ℕ) (old new : O)
    → ((before : List ℕ) → Are before → ShowsLong style bytes (before ++ last) 1) → (why : ToolFault)
    → StopsLong style written failures old new Are last why
    → Leaves MOST_BYTES written failures (ShowLong style) (Some bytes) ⊥ old new why
long_stopped style written failures bytes Are last old new said why (inl none) =
    subst (λ (e : ToolFault). Leaves MOST_BYTES written failures (ShowLong style) (Some bytes) ⊥ old new e) (sym none.0)
    (inl none.1)
long_stopped style written failures bytes Are last old new said why (inr some) =
    lines_left (Full style) written failures (ShowLong style) bytes (some.0.before ++ last) 1 old new
    (said some.0.before some.0.are) some.0.sent (λ made. made) why some.1

-- by the lines before it
pub listing_left : {O : Type 0} (style : Style) (written : O → Option (List ℕ)) (failures : O → ℕ)
    (Are : List ℕ → Type 0) (last : List ℕ) (old new : O) (why : ToolFault)
    → StopsListing style written failures old new Are why → StopsLong style written failures old new Are last why
listing_left style written failures Are last old new why (inl none) = inl none
listing_left style written failures Are last old new why (inr some) =
    inr (stops-before (written old) (written new) Are last some.0, some.1)

-- of other lines, where the fact holds of these
pub listing_as : {O : Type 0} (style : Style) (written : O → Option (List ℕ)) (failures : O → ℕ)
    (P Q : List ℕ → Type 0) (old new : O) → ((text : List ℕ) → P text → Q text) → (why : ToolFault)
    → StopsListing style written failures old new P why → StopsListing style written failures old new Q why
listing_as style written failures P Q old new said why (inl none) = inl none
listing_as style written failures P Q old new said why (inr some) =
    inr (stops_as (written old) (written new) P Q said some.0, some.1)

-- of the lines of which the fact holds, by a prefix of them
pub prefix_listed : {A O : Type 0} (style : Style) (written : O → Option (List ℕ)) (failures : O → ℕ)
    (Are : List ℕ → Type 0) (text : List ℕ) (old new : O) (result : Result A ToolFault) → Are text
    → OnErr result (AppendsPrefix (written old) (written new) text)
    → IfErr result (FailsLines (Full style) failures old new)
    → IfErr result (StopsListing style written failures old new Are)
prefix_listed style written failures Are text old new (Ok x) are prefix fails = tt
prefix_listed style written failures Are text old new (Err e) are prefix fails =
    inr (record { text = text; are = are; sent = prefix }, fails)

-- what stands of a fault stands of what is answered
pub at_err : {A : Type 0} (result : Result A ToolFault) (P : ToolFault → Type 0) (why : ToolFault)
    → IsErrAnd result (λ e. e ≡ why) → P why → IfErr result P
at_err (Ok x) P why is p = tt
at_err (Err e) P why is p = subst P (sym is) p
