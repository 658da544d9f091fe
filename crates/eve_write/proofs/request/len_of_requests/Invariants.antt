-- The requests so far are counted, each of at most 65 bytes.
use Rattle.std.proofs.Common.{◌≡◌, ◌*◌, ◌≤◌, length, take}
use Rattle.std.specs.List.{flat_map}
use Rattle.eve_grammar.specs.Spelling.{asked_text}
use Rattle.eve_write.specs.Data.{asked}
use Rattle.eve_write.proofs.request.len_of_requests.Given as goal

abbrev pub invariant-loop-request : goal.invariant-loop-request
invariant-loop-request l =
    (l.len ≡ length (flat_map (λ r. asked_text (asked r)) (take l.request-index l.requests)))
    × (l.len ≤ 65 * l.request-index)
