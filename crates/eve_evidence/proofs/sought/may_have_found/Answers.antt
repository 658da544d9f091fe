use Rattle.std.proofs.Common.{ℕ, refl}
use Rattle.eve_grammar.specs.Trace.{Access}
use Rattle.eve_frames.specs.Decoded.{access_decoded}
use Rattle.eve_evidence.specs.Sought.{MeetsIn}
use Rattle.eve_evidence.proofs.Lists.{all_more}
use Rattle.eve_evidence.proofs.sought.may_have_found.Goals as goal

pub loop-i-preserved : goal.loop-i-preserved
loop-i-preserved c =
    all_more (λ (x : ℕ × Access). ¬ MeetsIn c.args.sought.now x.1.entries) c.args.accesses.now c.loop-i.i
    (c.get.result.offset, access_decoded c.get.result) c.get.ensures.says c.loop-i.invariant
    (c.if-has_met.ensures.no refl)
