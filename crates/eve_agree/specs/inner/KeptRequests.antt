-- The requests of one batch, as they are kept, and what a reply is to one of them. docs/MODEL.md, "Sent replies".
use Rattle.std.specs.Prelude.{◌≡◌, ℕ, ◌≤◌, ◌*◌, List, [], map, take, drop, Some, slice_get, option_map, unwrap_or}
use Rattle.std.specs.Prelude.{IsTrue}
use Rattle.std.specs.List.{flat_map, list_all}
use Rattle.eve_smallbank.specs.declared.request.Reply.{Reply}
use Rattle.eve_smallbank.specs.Spelling.{reply_text}
use Rattle.eve_grammar.specs.declared.limits.TheConstants.{MOST_REQUESTS}
use Rattle.eve_grammar.specs.Limits.{is_reply}
use Rattle.eve_grammar.specs.Trace.{RequestId, Sent, Trace, request_id}
use Rattle.eve_history.specs.Section.{batch_at}
use Rattle.eve_history.specs.SectionHistory.{committed_at}
use Rattle.eve_agree.specs.declared.batch_replies.BatchReplies.{BatchReplies}
use Rattle.eve_agree.specs.declared.batch_request_ids.BatchRequestIds.{BatchRequestIds}

-- the ids that are kept, by the index of their request
abbrev pub kept_ids : BatchRequestIds → List RequestId
kept_ids k = take k.count k.items

-- at this index stands the request that is answered, and, of replies that are spelled in nine bytes each, the one sent
pub record AnswersAt (request_ids : List RequestId) (replies : List ℕ) (s : Sent) (index : ℕ) : Type 0 where
  pub request_id : slice_get request_ids index ≡ Some (s.client, s.number)
  pub reply : take 9 (drop (9 * index) replies) ≡ reply_text s.reply

-- what is kept is what the requests of the batch at hand say, if there is one
pub record AreOf (t : Trace) (k : BatchRequestIds) : Type 0 where
  pub few : k.count ≤ MOST_REQUESTS
  pub request_ids : 1 ≤ k.batch → kept_ids k ≡ map request_id (batch_at t k.batch).requests

-- the replies of the attempt by which replica e committed batch n; none where it didn't
abbrev pub replies_at : Trace → ℕ → ℕ → List Reply
replies_at t e n = unwrap_or (option_map (λ p. p.attempt.replies) (committed_at t e n)) []

-- these are the replies as they are spelled, and they fit
pub record AreSpelled (replies : List Reply) (text : List ℕ) : Type 0 where
  pub is : text ≡ flat_map reply_text replies
  pub fit : IsTrue (list_all is_reply replies)

-- what is kept is of the replica and the batch at hand, if there is one
pub record AreRepliesOf (t : Trace) (k : BatchReplies) : Type 0 where
  pub request_ids : AreOf t k.request_ids
  pub batch : k.request_ids.batch ≡ k.batch
  pub replies : 1 ≤ k.batch → AreSpelled (replies_at t k.replica k.batch) k.replies.now
