-- What `show` says of bytes. docs/USING.md, "Lines and statuses" and "What `show --long` prints".
use Rattle.std.specs.Prelude.{◌≡◌, ℕ, nat_le, Bool, true, false, ◌&&◌, List, [], ◌++◌, length, take, drop, Option}
use Rattle.std.specs.Prelude.{◌⊎◌}
use Rattle.std.specs.Int.{to_be_bytes, w64}
use Rattle.std.specs.Io.KnownBytes.{Appends}
use Rattle.eve_audit.specs.declared.verdict.Verdict.TheVariants.{No}
use Rattle.eve_grammar.specs.Trace.{Trace}
use Rattle.eve_grammar.specs.Frames.{frames_of}
use Rattle.eve_grammar.specs.FrameOrder.{Spells}
use Rattle.eve_grammar.specs.declared.head.TheConstants.{HEADER_LEN}
use Rattle.eve_grammar.specs.declared.limits.TheConstants.{MOST_BYTES}
use Rattle.eve_streams.specs.Prefix.{AppendsPrefix}
use Rattle.eve_views.specs.Form.{IsLeast, IsReached, StandsInForm, IsFaultOutside}
use Rattle.eve_views.specs.declared.fault.Code.{Code}
use Rattle.eve_views.specs.declared.fault.Code.TheVariants as code
use Rattle.eve_views.specs.declared.fault.Fault.{Fault}
use Rattle.eve_tool.specs.Audit.{verdict_text}
use Rattle.eve_tool.specs.Lines.{fault_line}
use Rattle.eve_tool.specs.Listing.{listed_lines}
use Rattle.eve_tool.specs.declared.listing.Listing.{Listing}
use Rattle.eve_tool.specs.declared.listing.Listing.TheVariants.{Full, Short}
use Rattle.eve_tool_arguments.specs.declared.style.Style.{Style}

-- the bytes are a trace, and the text is the lines of its header and of its frames
pub record ShowsTrace (listing : Listing) (bytes text : List ℕ) : Type 0 where
  pub trace : Trace
  pub spelled : Spells bytes trace
  pub lines : text ≡ listed_lines listing trace.head (frames_of trace)

-- the bytes are no trace, and the text is the line of their first fault
pub record ShowsFault (bytes text : List ℕ) : Type 0 where
  pub fault : Fault
  pub least : IsLeast (IsFaultOutside StandsInForm bytes) fault
  pub line : text ≡ fault_line fault

-- the text is what `show` says of the bytes, and the number is the exit status
abbrev pub Shows : List ℕ → List ℕ → ℕ → Type 0
Shows bytes text status = (ShowsTrace Short bytes text × (status ≡ 0)) ⊎ (ShowsFault bytes text × (status ≡ 1))

-- ---- `show --long`, and `show --json`

-- The text is the lines of the header and of the frames before a fault of form: of those of which the header says that
-- they may stand there, up to the fault's byte. Of a fault of the header there are none.
abbrev pub AreLinesTo : Style → Code → List ℕ → ℕ → List ℕ → Type 0
AreLinesTo style code.Frame bytes at text =
    (r : IsReached bytes at) × (text ≡ listed_lines (Full style) r.head r.prefix)
AreLinesTo style code.Body bytes at text =
    (r : IsReached bytes at) × (text ≡ listed_lines (Full style) r.head r.prefix)
AreLinesTo style _ bytes at text = text ≡ []

-- The text is the lines that there are of bytes: of a trace all, else those before the first fault of form.
abbrev pub AreLinesOf : Style → List ℕ → List ℕ → Type 0
AreLinesOf style bytes text =
    ((t : Trace) × Spells bytes t × (text ≡ listed_lines (Full style) t.head (frames_of t)))
    ⊎ ((f : Fault) × IsLeast (IsFaultOutside StandsInForm bytes) f × AreLinesTo style f.code bytes f.offset text)

-- no fewer and no more bytes than a trace may have
abbrev pub is_countable : List ℕ → Bool
is_countable bytes = nat_le HEADER_LEN (length bytes) && nat_le (length bytes) MOST_BYTES

-- the bytes with their number where the header has its total
abbrev pub with_total : List ℕ → List ℕ
with_total bytes = take 24 bytes ++ (to_be_bytes w64 (length bytes) ++ drop 32 bytes)

-- those that there would be if the header had the number of the bytes as its total; none where no trace has that number
abbrev pub AreLinesIf : Style → (countable : Bool) → List ℕ → List ℕ → Type 0
AreLinesIf style true bytes text = AreLinesOf style (with_total bytes) text
AreLinesIf style false bytes text = text ≡ []

-- The text is the lines before a fault of form. Where the number of bytes is not the one due, as in a recording that
-- broke off, they show what there is all the same.
abbrev pub AreLinesBefore : Style → Code → List ℕ → ℕ → List ℕ → Type 0
AreLinesBefore style code.Length bytes at text = AreLinesIf style (is_countable bytes) bytes text
AreLinesBefore style c bytes at text = AreLinesTo style c bytes at text

-- the bytes are no trace, and the text is the lines before their first fault of form, and then its line
pub record ShowsLongFault (style : Style) (bytes text : List ℕ) : Type 0 where
  pub fault : Fault
  pub least : IsLeast (IsFaultOutside StandsInForm bytes) fault
  pub before : List ℕ
  pub lines : AreLinesBefore style fault.code bytes fault.offset before
  pub is : text ≡ before ++ verdict_text style (No fault)

-- the text is what `show --long` says of the bytes in this style, and the number is the exit status
abbrev pub ShowsLong : Style → List ℕ → List ℕ → ℕ → Type 0
ShowsLong style bytes text status =
    (ShowsTrace (Full style) bytes text × (status ≡ 0)) ⊎ (ShowsLongFault style bytes text × (status ≡ 1))

-- ---- what is sent of them

-- lines of which the fact holds were sent
pub record SendsLines (old new : Option (List ℕ)) (Are : List ℕ → Type 0) : Type 0 where
  pub text : List ℕ
  pub are : Are text
  pub sent : Appends old new text

-- a prefix of such lines was sent, and not all of it
pub record StopsInLines (old new : Option (List ℕ)) (Are : List ℕ → Type 0) : Type 0 where
  pub text : List ℕ
  pub are : Are text
  pub sent : AppendsPrefix old new text

-- such lines were sent, and then this one
pub record SendsUpTo (old new : Option (List ℕ)) (Are : List ℕ → Type 0) (last : List ℕ) : Type 0 where
  pub before : List ℕ
  pub are : Are before
  pub sent : Appends old new (before ++ last)

-- a prefix of such lines and this one was sent, and not all of it
pub record StopsUpTo (old new : Option (List ℕ)) (Are : List ℕ → Type 0) (last : List ℕ) : Type 0 where
  pub before : List ℕ
  pub are : Are before
  pub sent : AppendsPrefix old new (before ++ last)
