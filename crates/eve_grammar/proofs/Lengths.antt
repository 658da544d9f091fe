-- Bytes are as long as the trace that they spell.
use Rattle.std.proofs.Common.{◌≡◌, ℕ, List, length, ap, ◌∙◌, arith}
use Rattle.std.proofs.lemmas.List.{length-append}
use Rattle.eve_grammar.specs.Trace.{Trace}
use Rattle.eve_grammar.specs.Frames.{frames_of}
use Rattle.eve_grammar.specs.Spelling.{frames_text, head_text, length_of, spelling}
use Rattle.eve_grammar.specs.FrameOrder.{Spells}
use Rattle.eve_grammar.proofs.HeaderParts.{length-head_text}

pub long_as_trace : (bytes : List ℕ) (t : Trace) → Spells bytes t → length bytes ≡ length_of t
unfolding spelling length_of
long_as_trace bytes t is =
    ap length is.spelled
    ∙ omega (
      arith,
      length-append (head_text t.head (length_of t)) (frames_text (frames_of t)),
      length-head_text t.head (length_of t),
    )
