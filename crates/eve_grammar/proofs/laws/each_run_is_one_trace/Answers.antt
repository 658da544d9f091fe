use Rattle.std.proofs.Common.{refl}
use Rattle.eve_grammar.proofs.Gatherings.{only_trace}
use Rattle.eve_grammar.proofs.Rests.{frames_of-trace_of, limits_of-trace_of}
use Rattle.eve_grammar.specs.GatheredTraces.{trace_of}
use Rattle.eve_grammar.proofs.laws.each_run_is_one_trace.Goals as goal

pub returns : goal.returns
unfolding trace_of
returns c = record {
  exists = λ h fs head run. record { head = refl; frames = frames_of-trace_of h fs head run };
  limits = limits_of-trace_of;
  only = only_trace;
}
