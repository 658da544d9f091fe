use Rattle.std.proofs.Common.{◌≡◌, take}
use Rattle.std.specs.List.{flat_map}
use Rattle.eve_grammar.specs.Spelling.{batches_at}
use Rattle.eve_views.specs.Form.{SomePlace}
use Rattle.eve_evidence_form.specs.Requests.{requests_listed, NoneAgain}
use Rattle.eve_evidence_form.proofs.requests.asked_again.Given as goal

abbrev pub invariant-loop-n : goal.invariant-loop-n
invariant-loop-n l = ¬ SomePlace (take l.n (batches_at l.trace))
    (λ before b. (b.0 ≡ l.at) × ¬ NoneAgain (flat_map requests_listed before) (requests_listed b))
