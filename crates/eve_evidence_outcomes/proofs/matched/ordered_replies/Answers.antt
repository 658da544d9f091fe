use Rattle.std.proofs.Common.{ℕ, List, [], ◌∷◌, ◌++◌, map, take, sym, ap, ◌∙◌}
use Rattle.std.specs.Prelude.{slice_index_or}
use Rattle.std.proofs.lemmas.List.{map-append}
use Rattle.eve_smallbank.specs.declared.request.Reply.{Reply}
use Rattle.eve_smallbank.specs.declared.request.Reply.TheVariants.{Done}
use Rattle.eve_grammar.proofs.Lists.{take_one_more}
use Rattle.eve_frames.specs.Decoded.{attempt_decoded}
use Rattle.eve_evidence_outcomes.proofs.matched.ordered_replies.Goals as goal

pub loop-place-preserved : goal.loop-place-preserved
loop-place-preserved c =
    let a = attempt_decoded c.args.attempt.now in
    let of : ℕ → Reply = λ i. slice_index_or a.replies i Done in
    let before = take c.loop-place.place a.certificate in
    c.in_ok-push.ensures.items ∙ ap (λ (rs : List Reply). rs ++ c.reply_of.result ∷ []) c.loop-place.invariant
    ∙ ap (λ (r : Reply). map of before ++ r ∷ []) c.reply_of.ensures
    ∙ sym (ap (map of) (take_one_more a.certificate c.loop-place.place c.index_at-index.result
    c.index_at-index.ensures) ∙ map-append of before (c.index_at-index.result ∷ []))
