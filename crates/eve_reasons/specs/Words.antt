-- The words of a line. docs/USING.md, "What `explain` prints".
use Rattle.std.specs.Prelude.{ℕ, ◌+◌, ◌%◌, ◌==◌, Bool, true, false, if◌then◌else◌, List, [], ◌∷◌, ◌++◌, codes}
use Rattle.std.specs.Prelude.{decimal, length}
use Rattle.std.specs.Fmt.{signed_decimal}
use Rattle.eve_smallbank.specs.declared.versioned.Versioned.{Versioned}
use Rattle.eve_grammar.specs.Bodies.{borrowed_asked}
use Rattle.eve_grammar.specs.Kinds.{kind_byte}
use Rattle.eve_grammar.specs.declared.frame_kind.FrameKind.{FrameKind}
use Rattle.eve_grammar.specs.declared.frame_kind.FrameKind.TheVariants as kind
use Rattle.eve_frames.specs.Kinds.{kind_name}
use Rattle.eve_lines.specs.Words.{asked_words, kind_word, mode_words, name_words, reply_words, token_words}
use Rattle.eve_evidence.specs.FrameKinds.{all_kinds}
use Rattle.eve_evidence.specs.declared.evidence.Source.{Source}
use Rattle.eve_evidence.specs.declared.evidence.Source.TheVariants as source
use Rattle.eve_evidence.specs.declared.evidence.ToldRequest.{ToldRequest}
use Rattle.eve_evidence.specs.declared.evidence.ToldRow.{ToldRow}
use Rattle.eve_reasons.specs.declared.word.TheConstants.{LONGEST_VALUE}
use Rattle.eve_reasons.specs.declared.word.Value.{Value}
use Rattle.eve_reasons.specs.declared.word.Value.TheVariants as value
use Rattle.eve_reasons.specs.declared.word.Word.{Word}

-- a kind of frames: `Access`
abbrev pub kind_words : FrameKind → List ℕ
kind_words k = kind_name (kind_byte k)

-- kinds of frames behind others
abbrev pub more_kinds : List FrameKind → List ℕ
more_kinds [] = []
more_kinds (k ∷ kinds) = codes ", " ++ (kind_words k ++ more_kinds kinds)

-- kinds of frames: `Sent, End`
abbrev pub listed_kinds : List FrameKind → List ℕ
listed_kinds [] = codes "nothing"
listed_kinds (k ∷ kinds) = kind_words k ++ more_kinds kinds

-- the kinds of which it is told that they may stand there
abbrev pub told_kinds : List FrameKind → List Bool → List FrameKind
told_kinds (k ∷ kinds) (true ∷ told) = k ∷ told_kinds kinds told
told_kinds (k ∷ kinds) (false ∷ told) = told_kinds kinds told
told_kinds _ _ = []

-- those of all kinds, which are told in the order of their bytes
unfoldable pub kinds_words : List Bool → List ℕ
kinds_words told = listed_kinds (told_kinds all_kinds told)

-- a frame, and the byte at which it begins: `Access at byte 196`
abbrev pub frame_at_words : FrameKind → ℕ → List ℕ
frame_at_words k at = kind_words k ++ (codes " at byte " ++ decimal at)

-- the number of a batch, and a view: `batch 1, view 0`
abbrev pub batch_view_words : ℕ → ℕ → List ℕ
batch_view_words batch view = codes "batch " ++ (decimal batch ++ (codes ", view " ++ decimal view))

-- which request it is: `#1 of batch 1`
abbrev pub request_index_words : ℕ → ℕ → List ℕ
request_index_words index batch = codes "#" ++ (decimal index ++ (codes " of batch " ++ decimal batch))

-- a request: `#1 of batch 1: deposit 7 2 ann 7`
abbrev pub told_request_words : ToldRequest → List ℕ
told_request_words r = request_index_words r.index r.batch ++ (codes ": " ++ asked_words (borrowed_asked r.asked))

-- whose balance a row is: an even number is a saving balance, an odd one a checking balance
abbrev pub whose_balance_words : ℕ → List ℕ
whose_balance_words row = if row % 2 == 0 then codes " (saving of " else codes " (checking of "

-- a row: `row 1 (checking of ann)`
abbrev pub told_row_words : ToldRow → List ℕ
told_row_words r =
    codes "row " ++ (decimal r.row ++ (whose_balance_words r.row ++ (name_words r.name.now ++ codes ")")))

-- what a row has: `version 2, value 12`
abbrev pub has_words : Versioned → List ℕ
has_words has = codes "version " ++ (decimal has.version ++ (codes ", value " ++ signed_decimal has.value))

-- who left something in a row: `#0 of batch 1, Access at byte 236`
abbrev pub source_words : Source → List ℕ
source_words source.Opening = codes "the opening"
source_words (source.Write index batch at) =
    request_index_words index batch ++ (codes ", " ++ frame_at_words kind.Access at)
source_words (source.Transfer at) = frame_at_words kind.Transfer at

-- a value
abbrev pub told_value_words : Value → List ℕ
told_value_words value.Nothing = []
told_value_words (value.Text text) = text.now
told_value_words (value.Number number) = decimal number
told_value_words (value.Signed amount) = signed_decimal amount
told_value_words (value.Name name) = name_words name.now
told_value_words (value.Digits bytes) = token_words bytes.now
told_value_words (value.Mode serial) = mode_words serial
told_value_words (value.Access k) = kind_word k
told_value_words (value.Kind k) = kind_words k
told_value_words (value.Batch batch view) = batch_view_words batch view
told_value_words (value.Frame k at) = frame_at_words k at
told_value_words (value.Row r) = told_row_words r.now
told_value_words (value.Has has) = has_words has
told_value_words (value.Request r) = told_request_words r.now
told_value_words (value.Reply r) = reply_words r
told_value_words (value.Source s) = source_words s.now
told_value_words (value.Kinds told) = kinds_words told.now

-- a table: labels, and the value behind each
abbrev pub words_text : List Word → List ℕ
words_text [] = []
words_text (w ∷ []) = w.0.now ++ told_value_words w.1
words_text (w ∷ x ∷ rest) = w.0.now ++ (told_value_words w.1 ++ words_text (x ∷ rest))

-- ---- the room that they take at most

abbrev pub told_value_room : Value → ℕ
told_value_room value.Nothing = 0
told_value_room (value.Text text) = length text.now
told_value_room _ = LONGEST_VALUE

abbrev pub words_room : List Word → ℕ
words_room [] = 0
words_room (w ∷ rest) = (length w.0.now + told_value_room w.1) + words_room rest
