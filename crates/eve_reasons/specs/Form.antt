-- Why bytes are no trace. docs/USING.md, "What `explain` prints".
use Rattle.std.specs.Prelude.{ℕ, Bool, ◌==◌, if◌then◌else◌, List, [], ◌∷◌, ◌++◌, codes, decimal, Option, Some, None}
use Rattle.eve_grammar.specs.Kinds.{kind_byte}
use Rattle.eve_grammar.specs.declared.head.TheConstants.{HEADER_LEN}
use Rattle.eve_grammar.specs.declared.limits.TheConstants.{MOST_BYTES}
use Rattle.eve_grammar.specs.declared.frame_kind.FrameKind.{FrameKind}
use Rattle.eve_grammar.specs.declared.frame_kind.FrameKind.TheVariants as kind
use Rattle.eve_lines.specs.Words.{token_words}
use Rattle.eve_evidence.specs.FrameKinds.{all_kinds}
use Rattle.eve_evidence.specs.declared.evidence.LengthFault.{LengthFault}
use Rattle.eve_evidence.specs.declared.evidence.LengthFault.TheVariants as bytes
use Rattle.eve_evidence.specs.declared.evidence.HeadField.{HeadField}
use Rattle.eve_evidence.specs.declared.evidence.HeadField.TheVariants as head
use Rattle.eve_evidence.specs.declared.evidence.FrameFault.{FrameFault}
use Rattle.eve_evidence.specs.declared.evidence.FrameFault.TheVariants as frame
use Rattle.eve_evidence.specs.declared.evidence.RecordsBefore.{RecordsBefore}
use Rattle.eve_evidence.specs.declared.evidence.BodyField.{BodyField}
use Rattle.eve_evidence.specs.declared.evidence.BodyField.TheVariants as field
use Rattle.eve_reasons.specs.Words.{frame_at_words, kind_words, kinds_words}

-- ---- how many bytes there are

-- which length is due
abbrev pub due_length : LengthFault → List ℕ
due_length bytes.TooShort = codes "due: at least " ++ decimal HEADER_LEN
due_length bytes.TooLong = codes "due: at most " ++ decimal MOST_BYTES
due_length (bytes.Another total) = codes "due: " ++ (decimal total ++ codes ", by the header")

-- the first six bytes of a trace
abbrev pub magic_words : List ℕ
magic_words = codes "45564553424b"

-- the first six bytes, where they aren't a trace's
abbrev pub other_magic_lines : Option (List ℕ) → List (List ℕ)
other_magic_lines None = []
other_magic_lines (Some six) = (codes "magic: " ++ (token_words six ++ (codes ", not " ++ magic_words))) ∷ []

-- how many bytes there are, how many there must be, and the first six
abbrev pub length_lines : ℕ → LengthFault → Option (List ℕ) → List (List ℕ)
length_lines found wrong magic =
    (codes "found: " ++ (decimal found ++ codes " bytes")) ∷ due_length wrong ∷ other_magic_lines magic

-- ---- the header

-- the first six bytes, and those of a trace
abbrev pub magic_lines : List ℕ → List (List ℕ)
magic_lines found = (codes "found: " ++ token_words found) ∷ (codes "due: " ++ magic_words) ∷ []

-- a field of the header
abbrev pub head_word : HeadField → List ℕ
head_word head.Version = codes "version"
head_word head.Replicas = codes "replicas"
head_word head.Verifiers = codes "verifiers"
head_word head.Quorum = codes "quorum"
head_word head.Window = codes "window"
head_word head.Workers = codes "workers"
head_word head.Zero = codes "zero"
head_word head.Customers = codes "customers"
head_word head.Batches = codes "batches"

-- a field, and where it stands: `field: quorum at byte 10`
abbrev pub field_line : List ℕ → ℕ → List ℕ
field_line field at = codes "field: " ++ (field ++ (codes " at byte " ++ decimal at))

-- between which numbers a field of the header must lie: the zero bytes are 0, the version is one of two
abbrev pub range_line : HeadField → ℕ → ℕ → List ℕ
range_line head.Version least most = codes "due: " ++ (decimal least ++ (codes " or " ++ decimal most))
range_line head.Zero least most = codes "due: " ++ decimal least
range_line _ least most = codes "due: " ++ (decimal least ++ (codes " to " ++ decimal most))

-- the first wrong field of the header, what it says, and what it must say
abbrev pub head_lines : HeadField → ℕ → ℕ → ℕ → ℕ → List (List ℕ)
head_lines field at found least most =
    field_line (head_word field) at ∷ (codes "found: " ++ decimal found) ∷ range_line field least most ∷ []

-- ---- frames

-- the byte of a frame: `found: kind 0x10`; with the name of the kind that it is, where there is one
abbrev pub byte_line : ℕ → List FrameKind → List ℕ
byte_line byte [] = codes "found: kind 0x" ++ token_words (byte ∷ [])
byte_line byte (k ∷ kinds) =
    if kind_byte k == byte
    then codes "found: kind 0x" ++ (token_words (byte ∷ []) ++ (codes " (" ++ (kind_words k ++ codes ")")))
    else byte_line byte kinds

-- what stands where a frame is due
abbrev pub no_frame_line : FrameFault → List ℕ
no_frame_line (frame.AfterEnd count) = codes "found: " ++ (decimal count ++ codes " bytes after End")
no_frame_line (frame.TooFew count) = codes "found: " ++ (decimal count ++ codes " bytes where a frame has 5")
no_frame_line (frame.Kind byte) = byte_line byte all_kinds
no_frame_line (frame.Cut k body left) =
    codes "found: " ++ (kind_words k ++ (codes " with a body of " ++ (decimal body ++ (codes " bytes where "
    ++ (decimal left ++ codes " are left")))))

-- how many access records the last attempt has so far, and how many it must have
abbrev pub records_lines : Option RecordsBefore → List (List ℕ)
records_lines None = []
records_lines (Some r) =
    (codes "records: " ++ (decimal r.found ++ (codes " of " ++ (decimal r.due ++ (codes ", of "
    ++ frame_at_words kind.Attempt r.attempt))))) ∷ []

-- what stands where a frame is due, which frames may stand there, and the records before
abbrev pub frame_fault_lines : FrameFault → List Bool → Option RecordsBefore → List (List ℕ)
frame_fault_lines wrong due records =
    no_frame_line wrong ∷ (codes "due: " ++ kinds_words due) ∷ records_lines records

-- ---- bodies

-- a field of a body
abbrev pub body_word : BodyField → List ℕ
body_word field.End = codes "end"
body_word field.Length = codes "length"
body_word field.Name = codes "name"
body_word field.Saving = codes "saving"
body_word field.Checking = codes "checking"
body_word field.Number = codes "number"
body_word field.Groups = codes "groups"
body_word field.Size = codes "size"
body_word field.Client = codes "client"
body_word field.Code = codes "code"
body_word field.SecondLength = codes "second length"
body_word field.SecondName = codes "second name"
body_word field.Amount = codes "amount"
body_word field.View = codes "view"
body_word field.Mode = codes "mode"
body_word field.Requests = codes "requests"
body_word field.Index = codes "index"
body_word field.ReplyCode = codes "reply code"
body_word field.ReplyValue = codes "reply value"
body_word field.Token = codes "token"
body_word field.Worker = codes "worker"
body_word field.Place = codes "place"
body_word field.Count = codes "count"
body_word field.Row = codes "row"
body_word field.Kind = codes "kind"
body_word field.Version = codes "version"
body_word field.Seen = codes "seen"
body_word field.After = codes "after"
body_word field.To = codes "to"
body_word field.Value = codes "value"
body_word field.Choice = codes "choice"
body_word field.Replica = codes "replica"
body_word field.Batch = codes "batch"

-- a frame, and the first field of its body that is wrong
abbrev pub body_lines : FrameKind → ℕ → BodyField → ℕ → List (List ℕ)
body_lines k at field field_at =
    (codes "frame: " ++ frame_at_words k at) ∷ field_line (body_word field) field_at ∷ []
