-- What the three passes over parts work out: whether they lie within the limits, how many bytes they take,
-- and the bytes.
use Rattle.std.specs.Prelude.{ℕ, nat_le, Bool, true, ◌&&◌, List, ◌++◌, length}
use Rattle.std.specs.List.{list_all, flat_map}
use Rattle.std.specs.Arc.{arc_value}
use Rattle.eve_grammar.specs.declared.limits.TheConstants.{MOST_ROWS}
use Rattle.eve_grammar.specs.Frames.{OfVote, OfSent, End, batches_of, sections_of, verifiers_of}
use Rattle.eve_grammar.specs.Spelling.{frame_text, step_text, head_text, customer_text, batch_text, section_text}
use Rattle.eve_grammar.specs.Spelling.{votes_text}
use Rattle.eve_grammar.specs.Limits.{row_count, is_attempt, is_step, is_of_version, is_vote, is_customer, is_batch}
use Rattle.eve_grammar.specs.Limits.{is_sent}
use Rattle.eve_grammar.specs.declared.head.Head.{Head}
use Rattle.eve_write.specs.declared.step.Step.{Step}
use Rattle.eve_write.specs.declared.step.Step.TheVariants.{Attempt, Commit, Rollback, Transfer}
use Rattle.eve_write.specs.declared.vote.VoteData.{VoteData}
use Rattle.eve_write.specs.declared.parts.Parts.{Parts}
use Rattle.eve_write.specs.Data.{customer, batch, attempt, step, vote, sent, trace}
use Rattle.eve_write.specs.Writable.{fits_vote}

-- whether a step may be written: lengths fit their fields, numbers lie in their ranges
abbrev pub fits_step : Step → Bool
fits_step (Attempt a) = is_attempt (attempt a)
fits_step (Commit c) = true
fits_step (Rollback r) = nat_le (length r.restores.items) MOST_ROWS
fits_step (Transfer x) = nat_le (length (arc_value x).rows.items) MOST_ROWS

-- whether a section of a trace with this header may hold the step
abbrev pub right_step : Head → Step → Bool
right_step h s = is_of_version h.version (step s) && is_step (row_count h) (step s)

-- whether a verifier of a trace with this header may give the vote
abbrev pub right_vote : Head → VoteData → Bool
right_vote h v = is_vote h.batches (vote v) && fits_vote v

-- how many bytes the frames of a step take
abbrev pub step_size : Step → ℕ
step_size s = length (step_text (step s))

-- how many bytes the frame of a vote takes
abbrev pub vote_size : VoteData → ℕ
vote_size v = length (frame_text (OfVote (vote v)))

-- whether all parts lie within the limits under this header
abbrev pub are_right_parts : Head → Parts → Bool
are_right_parts h p =
    list_all (λ c. is_customer (customer c)) p.customers.items && (list_all (λ b. is_batch (batch b)) p.batches.items
    && (list_all (λ s. list_all (right_step h) s.items) p.sections.items &&
    (list_all (λ v. list_all (right_vote h) v.items) p.verifiers.items
    && list_all (λ s. is_sent h.replicas h.batches (sent s)) p.sent.items)))

-- the header with this length, customers and batches
abbrev pub prefix_text : Parts → ℕ → List ℕ
prefix_text p total =
    head_text (trace p).head total ++
    (flat_map customer_text (trace p).customers ++ flat_map batch_text (batches_of (trace p)))

-- what stands after them
abbrev pub rest_text : Parts → List ℕ
rest_text p =
    flat_map section_text (sections_of (trace p)) ++ (flat_map votes_text (verifiers_of (trace p))
    ++ (flat_map (λ s. frame_text (OfSent s)) (trace p).sent ++ frame_text End))
