-- What frames say by their bytes, and what is still to come of it while a line is put part by part.
use Rattle.std.specs.Prelude.{◌≡◌, ℕ, ◌-◌, ◌/◌, ◌<◌, ◌==◌, nat_le, Bool, true, false, ◌&&◌, is_some, if◌then◌else◌}
use Rattle.std.specs.Prelude.{List, [], ◌++◌, map, length, drop, codes, decimal, slice_index, Option, Some, None}
use Rattle.std.specs.Option.{option_map}
use Rattle.std.specs.List.{flat_map, enumerate_from}
use Rattle.eve_grammar.specs.Readers.{number_of, transfer_of}
use Rattle.eve_grammar.specs.declared.limits.TheConstants.{MOST_ROWS}
use Rattle.eve_grammar.specs.declared.frame_kind.TheConstants.{CUSTOMER_FRAME, BATCH_FRAME, REPLICA_FRAME}
use Rattle.eve_grammar.specs.declared.frame_kind.TheConstants.{ATTEMPT_FRAME, ACCESS_FRAME, COMMIT_FRAME}
use Rattle.eve_grammar.specs.declared.frame_kind.TheConstants.{ROLLBACK_FRAME, TRANSFER_FRAME, VERIFIER_FRAME}
use Rattle.eve_grammar.specs.declared.frame_kind.TheConstants.{VOTE_FRAME, SENT_FRAME}
use Rattle.eve_frames.specs.Views.{body_in, has_customer_body, has_batch_body, has_attempt_body, has_access_body}
use Rattle.eve_frames.specs.Views.{has_commit_body, has_rollback_body, has_vote_body, has_sent_body}
use Rattle.eve_frames.specs.Views.{customer_in, batch_in, attempt_in, access_in, commit_in, rollback_in, transfer_in}
use Rattle.eve_frames.specs.Views.{vote_in, sent_in}
use Rattle.eve_lines.specs.Words.{token_words, list_words, reply_words, asked_words, row_words, entry_words}
use Rattle.eve_lines.specs.FrameLines.{customer_words, index_words, batch_words, attempt_words, access_words}
use Rattle.eve_lines.specs.FrameLines.{commit_words, restore_words, rollback_words, transfer_words, vote_words}
use Rattle.eve_lines.specs.FrameLines.{sent_words}
use Rattle.eve_lines.specs.declared.lists.Items.{Items}
use Rattle.eve_lines.specs.declared.lists.Items.TheVariants as items
use Rattle.eve_lines.specs.declared.lists.Numbers.{Numbers}
use Rattle.eve_lines.specs.declared.lists.Numbers.TheVariants as numbers
use Rattle.eve_lines.specs.declared.lists.StateRows.{StateRows}
use Rattle.eve_lines.specs.declared.frame.FrameWords.{FrameWords}

-- ---- what is still to come

-- numbers: the sizes of a batch from one on, or indexes of a certificate
abbrev pub numbers_left : Numbers → List ℕ
numbers_left numbers.None = []
numbers_left (numbers.Sizes s) = drop s.came (batch_in s.batch.bytes.now).1.sizes
numbers_left (numbers.Indexes certificate) = certificate

-- rows of a state, from one on: each in words
abbrev pub rows_left : StateRows → List (List ℕ)
rows_left r = map row_words (enumerate_from r.came (drop r.came (transfer_in r.transfer.bytes.now).rows))

-- items: each in words
abbrev pub items_left : Items → List (List ℕ)
items_left items.None = []
items_left (items.Entries entries) = map entry_words entries
items_left (items.Replies replies) = map reply_words replies
items_left (items.Requests requests) = map asked_words requests
items_left (items.Restores restores) = map restore_words restores
items_left (items.Rows r) = rows_left r

-- words, and then a token where there is one
abbrev pub and_token : List ℕ → Option (List ℕ) → List ℕ
and_token words None = words
and_token words (Some token) = words ++ (codes " token " ++ token_words token)

-- of a frame: numbers, items, the token
unfoldable pub words_left : FrameWords → List ℕ
words_left w =
    flat_map index_words (numbers_left w.numbers)
    ++ and_token (list_words w.has_begun (items_left w.items)) (option_map (λ t. t.now) w.token)

-- A part of the words was put. Where more may come, what stands and what is still to come are together what they were,
-- and the line has grown; else all is put.
abbrev pub PutsPart : (more : Bool) (old new to_come left : List ℕ) → Type 0
PutsPart true old new to_come left = (new ++ left ≡ old ++ to_come) × (length old < length new)
PutsPart false old new to_come left = new ≡ old ++ to_come

-- ---- what bytes say

-- the body of a Transfer frame with as many rows as its length tells, and no more than a trace has
abbrev pub is_state_body : List ℕ → Bool
is_state_body body =
    nat_le ((length body - 8) / 16) MOST_ROWS && is_some (transfer_of ((length body - 8) / 16) body)

-- the words, where the body is right
abbrev pub words_if : Bool → List ℕ → List ℕ
words_if is_right words = if is_right then words else []

-- the words of a body that is a number
abbrev pub number_words : List ℕ → Option ℕ → List ℕ
number_words word (Some number) = word ++ decimal number
number_words word None = []

-- those of a frame of this kind without lists, which is frame number `number` of its trace
unfoldable pub short_words : ℕ → ℕ → List ℕ → List ℕ
short_words kind number bytes =
    if kind == COMMIT_FRAME then words_if (has_commit_body bytes) (commit_words (commit_in bytes))
    else if kind == CUSTOMER_FRAME then words_if (has_customer_body bytes) (customer_words number (customer_in bytes))
    else if kind == REPLICA_FRAME then number_words (codes " replica ") (number_of (body_in bytes))
    else if kind == SENT_FRAME then words_if (has_sent_body bytes) (sent_words (sent_in bytes))
    else if kind == VERIFIER_FRAME then number_words (codes " verifier ") (number_of (body_in bytes))
    else if kind == VOTE_FRAME then words_if (has_vote_body bytes) (vote_words (vote_in bytes))
    else []

-- those of a frame of this kind
unfoldable pub words_of_kind : ℕ → ℕ → List ℕ → List ℕ
words_of_kind kind number bytes =
    if kind == ACCESS_FRAME then words_if (has_access_body bytes) (access_words (access_in bytes))
    else if kind == ATTEMPT_FRAME then words_if (has_attempt_body bytes) (attempt_words (attempt_in bytes))
    else if kind == BATCH_FRAME then words_if (has_batch_body bytes) (batch_words (batch_in bytes).0 (batch_in bytes).1)
    else if kind == ROLLBACK_FRAME then words_if (has_rollback_body bytes) (rollback_words (rollback_in bytes))
    else if kind == TRANSFER_FRAME then words_if (is_state_body (body_in bytes)) (transfer_words (transfer_in bytes))
    else short_words kind number bytes

-- those of a frame with these bytes; none where its body isn't right
abbrev pub words_in : ℕ → List ℕ → List ℕ
words_in number bytes = words_of_kind (slice_index bytes 0) number bytes
