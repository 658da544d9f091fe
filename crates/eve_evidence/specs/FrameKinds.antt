-- The kinds of frames. docs/TRACE.md, "Frames".
use Rattle.std.specs.Prelude.{List, [], ◌∷◌}
use Rattle.eve_grammar.specs.declared.frame_kind.FrameKind.{FrameKind}
use Rattle.eve_grammar.specs.declared.frame_kind.FrameKind.TheVariants as kind

-- the kinds of frames, in the order of their bytes
abbrev pub all_kinds : List FrameKind
all_kinds =
    kind.Customer ∷ kind.Batch ∷ kind.Replica ∷ kind.Attempt ∷ kind.Access ∷ kind.Commit ∷ kind.Rollback
    ∷ kind.Transfer ∷ kind.Verifier ∷ kind.Vote ∷ kind.Sent ∷ kind.End ∷ []
