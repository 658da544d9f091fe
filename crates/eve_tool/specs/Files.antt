-- What is said of the files that the arguments name. docs/USING.md, "Lines and statuses".
-- Below, `bytes` are those of the file of each name, where they are known, and `refuses` says why a file may be refused
-- where it is opened. A source has bytes that remain and a count of failures (`remaining`, `fetched`), the error stream
-- its bytes and its count (`told`, `untold`), and so has the sink behind out (`written`, `failures`).
use Rattle.std.specs.Prelude.{◌≡◌, ◌≢◌, ℕ, ◌<◌, ◌≤◌, ◌⊎◌, max, List, [], ◌∷◌, ◌++◌, take, Option, Some, IfSome}
use Rattle.std.specs.Prelude.{codes, ⊤}
use Rattle.std.specs.Io.KnownBytes.{Appends, append_known}
use Rattle.eve_audit.specs.Verdict.{SpellsAudited}
use Rattle.eve_grammar.specs.declared.limits.TheConstants.{MOST_BYTES}
use Rattle.eve_streams.specs.Buffers.{held_bytes, sink_behind}
use Rattle.eve_streams.specs.Failures.{after_failure}
use Rattle.eve_streams.specs.declared.buffered.Buffered.{Buffered}
use Rattle.eve_tool.specs.Audit.{AuditsAs, StopsJudging, named_text}
use Rattle.eve_tool.specs.Calls.{CallSays, Stops, Tells, TellsLine, WasRead}
use Rattle.eve_tool.specs.Fault.{fault_text, status_of}
use Rattle.eve_tool.specs.Lines.{line_feed}
use Rattle.eve_tool.specs.Writes.{WritesAllOf}
use Rattle.eve_tool.specs.declared.fault.ToolFault.{ToolFault}
use Rattle.eve_tool.specs.declared.fault.ToolFault.TheVariants as fault
use Rattle.eve_tool.specs.declared.files.OpenFault.{OpenFault}
use Rattle.eve_tool.specs.declared.files.OpenFault.TheVariants as why
use Rattle.eve_tool_arguments.specs.Arguments.{Audit, Subcommand}
use Rattle.eve_tool_arguments.specs.declared.style.Style.{Style}

-- the bytes of the sink behind a buffer, and then those that it holds
abbrev pub all_bytes : {S : Type 0} → (S → Option (List ℕ)) → Buffered S → Option (List ℕ)
all_bytes written b = append_known (written (sink_behind b)) (held_bytes b)

-- how often the sink behind a buffer failed
abbrev pub all_failures : {S : Type 0} → (S → ℕ) → Buffered S → ℕ
all_failures failures b = failures (sink_behind b)

-- why a file is not opened, behind its name
abbrev pub open_text : OpenFault → List ℕ
open_text why.Missing = codes ": no such file"
open_text why.Denied = codes ": permission denied"
open_text why.IsFolder = codes ": is a directory"
open_text why.Unknown = []

-- what is said on the error stream of a file that is not opened
unfoldable pub open_line : List ℕ → OpenFault → List ℕ
open_line name why = codes "eve: cannot open " ++ (name ++ (open_text why ++ line_feed))

-- and of one of several files that has no verdict
unfoldable pub named_fault : List ℕ → ToolFault → List ℕ
named_fault name why = codes "eve: " ++ (name ++ (codes ": " ++ (fault_text why ++ line_feed)))

-- ---- a file

-- a file was not opened, and why was told; or that memory ran out, where there was none for it
pub record IsUnopened {E : Type 0} (told : E → Option (List ℕ)) (untold : E → ℕ) (refuses : List ℕ → OpenFault → Type 0)
    (name : List ℕ) (err_old err_new : E) (status : ℕ) : Type 0 where
  pub why : OpenFault
  pub refused : refuses name why
  pub tells : ((status ≡ 2) × TellsLine told untold err_old err_new (open_line name why))
      ⊎ ((status ≡ 3) × Tells told untold err_old err_new fault.Memory)

-- what a source was when a file was opened, and what is left of it
pub record IsOpened {I : Type 0} (remaining : I → Option (List ℕ)) (bytes : List ℕ → Option (List ℕ)) (name : List ℕ)
    (opened : I) : Type 0 where
  pub has : IfSome (bytes name) (λ known. remaining opened ≡ Some known)

-- one of several files was opened and has no verdict, and why was told
pub record IsUnjudged {I E : Type 0} (remaining : I → Option (List ℕ)) (fetched : I → ℕ) (told : E → Option (List ℕ))
    (untold : E → ℕ) (bytes : List ℕ → Option (List ℕ)) (name : List ℕ) (err_old err_new : E) (status : ℕ) : Type 0
  where
    pub opened : I
    pub left : I
    pub opens : IsOpened remaining bytes name opened
    pub why : ToolFault
    pub stops : StopsJudging (fetched left ≡ after_failure (fetched opened)) why
    pub read : why ≢ fault.Read → fetched left ≡ fetched opened
    pub ends : status ≡ status_of why
    pub tells : TellsLine told untold err_old err_new (named_fault name why) ⊎ Tells told untold err_old err_new why

-- what is printed of one of several files: its line, with a status below 2, or nothing, where it was not opened, read
-- or judged
abbrev pub JudgesFile : {I E : Type 0} → (I → Option (List ℕ)) → (I → ℕ) → (E → Option (List ℕ)) → (E → ℕ)
    → (List ℕ → Option (List ℕ)) → (List ℕ → OpenFault → Type 0) → Style → List ℕ → E → E → List ℕ → ℕ → Type 0
JudgesFile remaining fetched told untold bytes refuses style name err_old err_new text status =
    ((status < 2) × (err_new ≡ err_old)
    × IfSome (bytes name) (λ known. AuditsAs (named_text style name) known text status))
    ⊎ ((text ≡ []) × (IsUnopened told untold refuses name err_old err_new status
    ⊎ IsUnjudged remaining fetched told untold bytes name err_old err_new status))

-- what is printed of the files of these names, one after the other, and the greatest of their statuses
abbrev pub JudgesFiles : {I E : Type 0} → (I → Option (List ℕ)) → (I → ℕ) → (E → Option (List ℕ)) → (E → ℕ)
    → (List ℕ → Option (List ℕ)) → (List ℕ → OpenFault → Type 0) → Style → List (List ℕ) → E → E → List ℕ → ℕ → Type 0
JudgesFiles remaining fetched told untold bytes refuses style [] err_old err_new text status =
    (err_new ≡ err_old) × (text ≡ []) × (status ≡ 0)
JudgesFiles {E = E} remaining fetched told untold bytes refuses style (name ∷ names) err_old err_new text status =
    (err : E) × (first : List ℕ) × (rest : List ℕ) × (one : ℕ) × (others : ℕ)
    × JudgesFile remaining fetched told untold bytes refuses style name err_old err first one
    × JudgesFiles remaining fetched told untold bytes refuses style names err err_new rest others
    × (text ≡ first ++ rest) × (status ≡ max one others)

-- ---- what a call over files comes to

-- a part of the line of the next file
abbrev pub BeginsNext : (List ℕ → Option (List ℕ)) → Style → List (List ℕ) → List ℕ → Type 0
BeginsNext bytes style [] part = ⊥
BeginsNext bytes style (name ∷ names) part =
    (line : List ℕ) × (status : ℕ) × (count : ℕ)
    × IfSome (bytes name) (λ known. AuditsAs (named_text style name) known line status) × (part ≡ take count line)

-- some of several files were judged, and then out failed
pub record FailsAmong {I E O : Type 0} (remaining : I → Option (List ℕ)) (fetched : I → ℕ) (told : E → Option (List ℕ))
    (untold : E → ℕ) (written : O → Option (List ℕ)) (failures : O → ℕ) (bytes : List ℕ → Option (List ℕ))
    (refuses : List ℕ → OpenFault → Type 0) (style : Style) (names : List (List ℕ)) (err_old err_new : E)
    (old new : Buffered O) : Type 0 where
  pub before : List (List ℕ)
  pub rest : List (List ℕ)
  pub all : names ≡ before ++ rest
  pub text : List ℕ
  pub part : List ℕ
  pub greatest : ℕ
  pub judges : JudgesFiles remaining fetched told untold bytes refuses style before err_old err_new text greatest
  pub next : (part ≡ []) ⊎ BeginsNext bytes style rest part
  pub sent : Appends (all_bytes written old) (all_bytes written new) (text ++ part)
  pub failed : all_failures failures new ≡ after_failure (all_failures failures old)

-- and that was told
pub record StopsAmong {I E O : Type 0} (remaining : I → Option (List ℕ)) (fetched : I → ℕ) (told : E → Option (List ℕ))
    (untold : E → ℕ) (written : O → Option (List ℕ)) (failures : O → ℕ) (bytes : List ℕ → Option (List ℕ))
    (refuses : List ℕ → OpenFault → Type 0) (style : Style) (names : List (List ℕ)) (err_old err_new : E)
    (old new : Buffered O) (status : ℕ) : Type 0 where
  pub err : E
  pub fails : FailsAmong remaining fetched told untold written failures bytes refuses style names err_old err old new
  pub tells : Tells told untold err err_new fault.Write
  pub ends : status ≡ 3

-- all files were judged, and all that is printed of them was sent on
pub record JudgesAll {I E O : Type 0} (remaining : I → Option (List ℕ)) (fetched : I → ℕ) (told : E → Option (List ℕ))
    (untold : E → ℕ) (written : O → Option (List ℕ)) (failures : O → ℕ) (bytes : List ℕ → Option (List ℕ))
    (refuses : List ℕ → OpenFault → Type 0) (style : Style) (names : List (List ℕ)) (err_old err_new : E)
    (old new : Buffered O) (status : ℕ) : Type 0 where
  pub text : List ℕ
  pub judges : JudgesFiles remaining fetched told untold bytes refuses style names err_old err_new text status
  pub sent : Appends (all_bytes written old) (all_bytes written new) text
  pub flushed : held_bytes new ≡ []
  pub fine : all_failures failures new ≡ all_failures failures old

-- the file was opened, and the call over it ended by a fault
pub record StopsServing {I E O : Type 0} (remaining : I → Option (List ℕ)) (fetched : I → ℕ)
    (told : E → Option (List ℕ)) (untold : E → ℕ) (written : O → Option (List ℕ)) (failures : O → ℕ)
    (bytes : List ℕ → Option (List ℕ)) (call : Subcommand) (name : List ℕ) (err_old err_new : E) (old new : Buffered O)
    (status : ℕ) : Type 0 where
  pub opened : I
  pub left : I
  pub opens : IsOpened remaining bytes name opened
  pub stops : Stops told untold (all_bytes written) (all_failures failures) call (remaining opened)
      (fetched left ≡ after_failure (fetched opened)) (fetched left ≡ fetched opened)
      (WasRead MOST_BYTES (remaining opened) (remaining left)) err_old err_new old new status

-- what was held was not all sent on, since the sink behind failed, and that was told
pub record HoldsBack {E O : Type 0} (told : E → Option (List ℕ)) (untold : E → ℕ) (written : O → Option (List ℕ))
    (failures : O → ℕ) (err_old err_new : E) (old new : Buffered O) (status : ℕ) : Type 0 where
  pub kept : Appends (all_bytes written old) (all_bytes written new) []
  pub held : held_bytes new ≢ []
  pub failed : all_failures failures new ≡ after_failure (all_failures failures old)
  pub tells : Tells told untold err_old err_new fault.Write
  pub ends : status ≡ 3

-- all is said of the file's bytes, with a status below 2
pub record SaysAll {E O : Type 0} (written : O → Option (List ℕ)) (failures : O → ℕ)
    (bytes : List ℕ → Option (List ℕ)) (call : Subcommand) (name : List ℕ) (err_old err_new : E) (old new : Buffered O)
    (status : ℕ) : Type 0 where
  pub less : status < 2
  pub said : WritesAllOf (CallSays MOST_BYTES call) (bytes name) (all_bytes written old) (all_bytes written new) status
  pub fine : all_failures failures new ≡ all_failures failures old
  pub quiet : err_new ≡ err_old

-- what a call over one file comes to: all is said of its bytes, and sent on or not; or the file is not opened; or the
-- call ends by a fault
pub record ServesFile {I E O : Type 0} (remaining : I → Option (List ℕ)) (fetched : I → ℕ)
    (told : E → Option (List ℕ)) (untold : E → ℕ) (written : O → Option (List ℕ)) (failures : O → ℕ)
    (bytes : List ℕ → Option (List ℕ)) (refuses : List ℕ → OpenFault → Type 0) (call : Subcommand) (name : List ℕ)
    (err_old err_new : E) (old new : Buffered O) (status : ℕ) : Type 0 where
  pub said : status < 2 → SaysAll written failures bytes call name err_old err_new old new status
      × (held_bytes new ≡ [])
  pub stopped : 2 ≤ status
      → ((IsUnopened told untold refuses name err_old err_new status × (new ≡ old))
      ⊎ (StopsServing remaining fetched told untold written failures bytes call name err_old err_new old new status
      ⊎ ((mid : Buffered O) × (one : ℕ) × SaysAll written failures bytes call name err_old err_old old mid one
      × HoldsBack told untold written failures err_old err_new mid new status)))

-- the first of these names, standard input's where there is none
abbrev pub first_named : List (List ℕ) → List ℕ
first_named [] = codes "-"
first_named (name ∷ names) = name

-- what a call over the files of these names comes to: `audit` of several judges each
abbrev pub ServesCall : {I E O : Type 0} → (I → Option (List ℕ)) → (I → ℕ) → (E → Option (List ℕ)) → (E → ℕ)
    → (O → Option (List ℕ)) → (O → ℕ) → (List ℕ → Option (List ℕ)) → (List ℕ → OpenFault → Type 0) → Subcommand
    → List (List ℕ) → E → E → Buffered O → Buffered O → ℕ → Type 0
ServesCall remaining fetched told untold written failures bytes refuses (Audit style) (first ∷ second ∷ names) err_old
    err_new old new status =
    JudgesAll remaining fetched told untold written failures bytes refuses style (first ∷ second ∷ names) err_old
    err_new old new status
    ⊎ StopsAmong remaining fetched told untold written failures bytes refuses style (first ∷ second ∷ names) err_old
    err_new old new status
ServesCall remaining fetched told untold written failures bytes refuses call names err_old err_new old new status =
    ServesFile remaining fetched told untold written failures bytes refuses call (first_named names) err_old err_new old
    new status

-- memory ran out before any file was opened, and that was told
pub record RunsOut {E O : Type 0} (told : E → Option (List ℕ)) (untold : E → ℕ) (err_old err_new : E)
    (old new : Buffered O) (status : ℕ) : Type 0 where
  pub same : new ≡ old
  pub tells : Tells told untold err_old err_new fault.Memory
  pub ends : status ≡ 3

-- each file of these names, where its bytes are known, spells a trace that is audited
abbrev pub AllSpellAudited : (List ℕ → Option (List ℕ)) → List (List ℕ) → Type 0
AllSpellAudited bytes [] = ⊤
AllSpellAudited bytes (name ∷ names) = IfSome (bytes name) SpellsAudited × AllSpellAudited bytes names
