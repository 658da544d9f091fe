use Rattle.eve_grammar.proofs.Gatherings.{trace_of-frames_of}
use Rattle.eve_grammar.proofs.laws.frames_make_up_their_trace.Goals as goal

pub returns : goal.returns
returns c = trace_of-frames_of
