use Rattle.std.proofs.Common.{refl, arith}
use Rattle.eve_grammar.specs.Frames.{frames_of}
use Rattle.eve_grammar.specs.Spelling.{head_text, length_of, spelling}
use Rattle.eve_grammar.specs.inner.Cases.{empty_run, deposit_committed}
use Rattle.eve_grammar.proofs.Spelled.{spelled_within}
use Rattle.eve_grammar.proofs.laws.small_traces_are_spelled.Goals as goal

pub returns-clause-empty_run : goal.returns-clause-empty_run
unfolding frames_of head_text length_of spelling
returns-clause-empty_run c =
    spelled_within empty_run (record {
      counts = refl;
      head = refl;
      customers = refl;
      batches = refl;
      sections = refl;
      kinds = refl;
      votes = refl;
      sent = refl;
    }) (omega arith)

pub returns-clause-deposit_committed : goal.returns-clause-deposit_committed
unfolding frames_of head_text length_of spelling
returns-clause-deposit_committed c =
    spelled_within deposit_committed (record {
      counts = refl;
      head = refl;
      customers = refl;
      batches = refl;
      sections = refl;
      kinds = refl;
      votes = refl;
      sent = refl;
    }) (omega arith)
