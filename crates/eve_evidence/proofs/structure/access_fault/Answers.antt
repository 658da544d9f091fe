use Rattle.std.proofs.Common.{◌≡◌, ℕ, sym, ◌∙◌, arith}
use Rattle.std.proofs.lemmas.Option.{same_Some}
use Rattle.eve_grammar.specs.Trace.{Access}
use Rattle.eve_frames.specs.Decoded.{access_decoded, attempt_decoded}
use Rattle.eve_evidence.proofs.PartsRead.{right_access}
use Rattle.eve_evidence.proofs.structure.access_fault.Goals as goal

pub returns-in-None-clause-right : goal.returns-in-None-clause-right
returns-in-None-clause-right c = λ x got.
    let y : ℕ × Access = (c.get-access.result.offset, access_decoded c.get-access.result) in
    let same : y ≡ x = same_Some y x (sym c.get-access.ensures.says ∙ got) in
    right_access c.args.trace.now (attempt_decoded c.args.attempt.now) _ y x c.index-index.result same
    c.index-index.ensures
    (omega (arith, c.worker-worker.ensures, c.worker_count-workers.ensures, c.if-workers-worker.false))
    (omega (arith, c.index-index.ensures, c.request_count-requests.ensures, c.if-requests-index.false))
    c.in-None.ensures.none
