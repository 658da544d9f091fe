-- What a step that was met says.
use Rattle.std.specs.Prelude.{◌≡◌, ℕ}
use Rattle.eve_grammar.specs.Trace.{Step, Attempts, Commits, RollsBack, Transfers}
use Rattle.eve_grammar.specs.Frames.{without_accesses}
use Rattle.eve_grammar.specs.Spelling.{accesses_at}
use Rattle.eve_frames.specs.Decoded.{attempt_decoded, commit_decoded, rollback_decoded, transfer_decoded}
use Rattle.eve_views.specs.declared.steps.Step as step_read
use Rattle.eve_views.specs.declared.steps.Step.TheVariants as of

-- its frame stands at this byte offset, and an attempt's access frames after it
abbrev pub IsStep : step_read.Step → ℕ × Step → Type 0
IsStep (of.Attempt a accesses) (at, Attempts b) = (a.offset ≡ at) × (attempt_decoded a ≡ without_accesses b)
    × (accesses ≡ accesses_at at b)
IsStep (of.Commit c) (at, Commits d) = (c.offset ≡ at) × (commit_decoded c ≡ d)
IsStep (of.Rollback r) (at, RollsBack q) = (r.offset ≡ at) × (rollback_decoded r ≡ q)
IsStep (of.Transfer x) (at, Transfers y) = (x.offset ≡ at) × (transfer_decoded x ≡ y)
IsStep _ _ = ⊥
