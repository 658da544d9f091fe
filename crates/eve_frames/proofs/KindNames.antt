-- What a byte of no kind is called.
use Rattle.std.proofs.Common.{◌≡◌, ℕ, refl}
use Rattle.std.specs.Prelude.{codes}
use Rattle.eve_grammar.specs.declared.frame_kind.FrameKind.TheVariants as of
use Rattle.eve_grammar.specs.Kinds.{BeginsNone}
use Rattle.eve_grammar.proofs.KindBytes.{other_byte}
use Rattle.eve_frames.specs.Kinds.{kind_name}

pub none_named : (byte : ℕ) → BeginsNone byte → codes "End" ≡ kind_name byte
none_named byte none =
    let other = other_byte byte none in
    rw (
      other of.Customer,
      other of.Batch,
      other of.Replica,
      other of.Attempt,
      other of.Access,
      other of.Commit,
      other of.Rollback,
      other of.Transfer,
      other of.Verifier,
      other of.Vote,
      other of.Sent,
    )
    refl
