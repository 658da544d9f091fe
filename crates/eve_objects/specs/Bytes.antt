-- What frames say by their bytes, in members of objects.
use Rattle.std.specs.Prelude.{ℕ, ◌-◌, ◌==◌, if◌then◌else◌, Bool, List, [], ◌++◌, codes, length, slice_index}
use Rattle.std.specs.Prelude.{Option, Some, None}
use Rattle.json.specs.Token.{Token}
use Rattle.eve_grammar.specs.Readers.{number_of}
use Rattle.eve_grammar.specs.declared.frame_kind.TheConstants.{CUSTOMER_FRAME, BATCH_FRAME, REPLICA_FRAME}
use Rattle.eve_grammar.specs.declared.frame_kind.TheConstants.{ATTEMPT_FRAME, ACCESS_FRAME, COMMIT_FRAME}
use Rattle.eve_grammar.specs.declared.frame_kind.TheConstants.{ROLLBACK_FRAME, TRANSFER_FRAME, VERIFIER_FRAME}
use Rattle.eve_grammar.specs.declared.frame_kind.TheConstants.{VOTE_FRAME, SENT_FRAME, FRAME_HEAD_LEN}
use Rattle.eve_frames.specs.Kinds.{kind_name}
use Rattle.eve_frames.specs.Views.{body_in, has_customer_body, has_batch_body, has_attempt_body, has_access_body}
use Rattle.eve_frames.specs.Views.{has_commit_body, has_rollback_body, has_vote_body, has_sent_body}
use Rattle.eve_frames.specs.Views.{customer_in, batch_in, attempt_in, access_in, commit_in, rollback_in, transfer_in}
use Rattle.eve_frames.specs.Views.{vote_in, sent_in}
use Rattle.eve_frames.specs.declared.frame.FrameView.{FrameView}
use Rattle.eve_lines.specs.Rest.{is_state_body}
use Rattle.eve_objects.specs.Members.{number_member, object_line}
use Rattle.eve_objects.specs.FrameObjects.{customer_members, batch_members, attempt_members, access_members}
use Rattle.eve_objects.specs.FrameObjects.{commit_members, rollback_members, transfer_members, vote_members}
use Rattle.eve_objects.specs.FrameObjects.{sent_members, show_members}

-- the members, where the body is right
abbrev pub members_if : Bool → List Token → List Token
members_if is_right members = if is_right then members else []

-- the member of a body that is a number
abbrev pub number_in_body : List ℕ → Option ℕ → List Token
number_in_body name (Some number) = number_member name number
number_in_body name None = []

-- those of a frame of this kind without arrays, which is frame number `number` of its trace
unfoldable pub short_members : ℕ → ℕ → List ℕ → List Token
short_members kind number bytes =
    if kind == COMMIT_FRAME then members_if (has_commit_body bytes) (commit_members (commit_in bytes))
    else if kind == CUSTOMER_FRAME then
    members_if (has_customer_body bytes) (customer_members number (customer_in bytes))
    else if kind == REPLICA_FRAME then number_in_body (codes "replica") (number_of (body_in bytes))
    else if kind == SENT_FRAME then members_if (has_sent_body bytes) (sent_members (sent_in bytes))
    else if kind == VERIFIER_FRAME then number_in_body (codes "verifier") (number_of (body_in bytes))
    else if kind == VOTE_FRAME then members_if (has_vote_body bytes) (vote_members (vote_in bytes))
    else []

-- those of a frame of this kind
unfoldable pub members_of_kind : ℕ → ℕ → List ℕ → List Token
members_of_kind kind number bytes =
    if kind == ACCESS_FRAME then members_if (has_access_body bytes) (access_members (access_in bytes))
    else if kind == ATTEMPT_FRAME then members_if (has_attempt_body bytes) (attempt_members (attempt_in bytes))
    else if kind == BATCH_FRAME then
    members_if (has_batch_body bytes) (batch_members (batch_in bytes).0 (batch_in bytes).1)
    else if kind == ROLLBACK_FRAME then members_if (has_rollback_body bytes) (rollback_members (rollback_in bytes))
    else if kind == TRANSFER_FRAME then
    members_if (is_state_body (body_in bytes)) (transfer_members (transfer_in bytes))
    else short_members kind number bytes

-- those of a frame with these bytes; none where its body isn't right
abbrev pub members_in : ℕ → List ℕ → List Token
members_in number bytes = members_of_kind (slice_index bytes 0) number bytes

-- the line of a frame, by its bytes
abbrev pub object_of_view : ℕ → FrameView → List ℕ
object_of_view number view =
    object_line (number_member (codes "frame") number
    ++ (show_members view.offset (kind_name (slice_index view.bytes.now 0)) (length view.bytes.now - FRAME_HEAD_LEN)
    ++ members_in number view.bytes.now))
