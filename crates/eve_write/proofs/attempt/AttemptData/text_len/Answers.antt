use Rattle.std.proofs.Common.{ap, ◌+◌, ◌≡◌, length, map, arith, length-append}
use Rattle.std.specs.List.{flat_map}
use Rattle.std.proofs.lemmas.List.Folds.{flat_map-map}
use Rattle.eve_grammar.specs.Frames.{OfAttempt, OfAccess}
use Rattle.eve_grammar.specs.Spelling.{frame_text, body_text, frames_text}
use Rattle.eve_grammar.specs.Frames.{attempt_frames}
use Rattle.eve_write.specs.Data.{attempt}
use Rattle.eve_write.proofs.attempt.AttemptData.text_len.Goals as goal

pub returns : goal.returns
returns c =
    let a = c.args.self.now in
    let accesses = flat_map frame_text (map OfAccess a.accesses) in
    let all : length (frames_text (attempt_frames (attempt a)))
    ≡ 5 + length (body_text (OfAttempt (attempt a))) + length accesses =
    omega (arith, length-append (body_text (OfAttempt (attempt a))) accesses) in
    omega (
      arith,
      all,
      ap length (flat_map-map frame_text OfAccess a.accesses),
      c.text_len.ensures,
      c.saturating_add.ensures,
      c.body_len.ensures,
    )
