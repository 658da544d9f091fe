use Rattle.std.proofs.Common.{ℕ, List, length, ap, ◌∙◌, arith}
use Rattle.std.specs.Prelude.{slice_index_or}
use Rattle.std.proofs.lemmas.List.{length-map}
use Rattle.eve_smallbank.specs.declared.request.Reply.{Reply}
use Rattle.eve_smallbank.specs.declared.request.Reply.TheVariants.{Done}
use Rattle.eve_frames.specs.Decoded.{attempt_decoded}
use Rattle.eve_frames.proofs.AttemptPlaces.{attempt_even, attempt_some}
use Rattle.eve_evidence_outcomes.proofs.matched.token_match.Goals as goal

pub made_tokens-tokens-requires-clause-replies : goal.made_tokens-tokens-requires-clause-replies
made_tokens-tokens-requires-clause-replies c =
    omega (
      arith,
      attempt_some c.args.attempt.now.bytes.now c.args.attempt.now.whole,
      ap (λ (rs : List Reply). length rs) c.requires.replies,
    )

pub made_tokens-tokens-requires-clause-ordered : goal.made_tokens-tokens-requires-clause-ordered
made_tokens-tokens-requires-clause-ordered c =
    let a = attempt_decoded c.args.attempt.now in
    let of : ℕ → Reply = λ i. slice_index_or a.replies i Done in
    omega (
      arith,
      attempt_some c.args.attempt.now.bytes.now c.args.attempt.now.whole,
      attempt_even c.args.attempt.now.bytes.now c.args.attempt.now.whole,
      length-map a.certificate of,
      ap (λ (rs : List Reply). length rs) (c.deref.ensures.value ∙ c.in_ok-ordered.ensures),
    )
