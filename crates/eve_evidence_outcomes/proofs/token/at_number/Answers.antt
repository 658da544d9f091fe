use Rattle.std.proofs.Common.{◌≡◌, List, length, sym, ap, subst, ◌∙◌, arith, rules}
use Rattle.eve_smallbank.specs.declared.request.Reply.{Reply}
use Rattle.eve_grammar.specs.Trace.{head_of}
use Rattle.eve_grammar.proofs.HeadLimits.{head_has_limits}
use Rattle.eve_frames.specs.Decoded.{attempt_decoded}
use Rattle.eve_frames.proofs.AttemptPlaces.{attempt_some}
use Rattle.eve_token.specs.Token.{token_of}
use Rattle.eve_token.specs.TokenRows.{TokenRows}
use Rattle.eve_chains.specs.Committed.{balances_to}
use Rattle.eve_evidence_outcomes.specs.Token.{TellsMatch, made_tokens, ordered_replies}
use Rattle.eve_evidence_outcomes.proofs.FirstReplicas.{balances_long}
use Rattle.eve_evidence_outcomes.proofs.Tokens.{number_few, other_token}
use Rattle.eve_evidence_outcomes.proofs.token.at_number.Goals as goal

pub token_match-requires-clause-one : goal.token_match-requires-clause-one
token_match-requires-clause-one c =
    let t = c.args.trace.now in
    let e = c.args.history.now.replica in
    let own = c.in-Some.ensures.some t e c.requires.section.history in
    (number_few t e c.args.n own.placed c.recall_limits.ensures
    (c.recall_right.ensures.section t e c.requires.section.history) own.committed).0

pub token_match-requires-clause-few : goal.token_match-requires-clause-few
token_match-requires-clause-few c =
    let t = c.args.trace.now in
    let e = c.args.history.now.replica in
    let own = c.in-Some.ensures.some t e c.requires.section.history in
    (number_few t e c.args.n own.placed c.recall_limits.ensures
    (c.recall_right.ensures.section t e c.requires.section.history) own.committed).1

pub token-due-requires : goal.token-due-requires
token-due-requires c = record {
  replies = λ two. omega (
    arith,
    attempt_some c.in-Some.attempt.bytes.now c.in-Some.attempt.whole,
    ap (λ (rs : List Reply). length rs) (c.deref.ensures.value ∙ c.in_ok-replies.ensures),
  );
}

pub token_match-requires-clause-rows : goal.token_match-requires-clause-rows
token_match-requires-clause-rows c =
    let t = c.args.trace.now in
    omega (
      arith,
      balances_long t c.args.history.now.replica c.args.n _
          (ap (λ (r : TokenRows). r.balances) (c.token-due.ensures.same ∙ c.in_ok-after.ensures)),
      (head_has_limits (head_of t) c.recall_limits.ensures.head).some_customers,
    )

pub returns-clause-told : goal.returns-clause-told
returns-clause-told c =
    let t = c.args.trace.now in
    let e = c.args.history.now.replica in
    let n = c.args.n in
    let a = attempt_decoded c.in-Some.attempt in
    let own = c.in-Some.ensures.some t e c.requires.section.history in
    let number = c.numbers_are_reached.ensures.numbers t e n own.placed
    (c.recall_right.ensures.section t e c.requires.section.history) own.committed in
    let at : own.placed.offset ≡ c.args.place =
    sym own.offset_is ∙ (omega (arith, c.if-offset-place.false, c.offset.ensures)) in
    let replies = c.deref.ensures.value ∙ c.in_ok-replies.ensures in
    let due : c.token-due.result ≡ token_of t.head.version a.seq (balances_to t e n) a.replies =
    c.token-due.ensures.token
    ∙ (λ i. token_of (c.in_ok-after.ensures i).version (c.seq.ensures i) (c.in_ok-after.ensures i).balances (replies i))
    in
    let match = subst (λ (r : TokenRows). TellsMatch (made_tokens t.head.version n r.balances (balances_to t e n)
    a.replies (ordered_replies a)) a.token c.in_ok-matches.matches) c.in_ok-before.ensures
    (subst (λ (r : TokenRows). TellsMatch (made_tokens r.version n c.in_ok-before.before.balances r.balances
    a.replies (ordered_replies a)) a.token c.in_ok-matches.matches)
    (c.token-due.ensures.same ∙ c.in_ok-after.ensures) c.in_ok-matches.ensures) in
    other_token t e n c.args.place c.in-Some.attempt own number at c.token-found.result.now c.token-found.ensures
    c.token-due.result due (search rules) c.in_ok-matches.matches match c.told_attempt.result c.told_attempt.ensures
