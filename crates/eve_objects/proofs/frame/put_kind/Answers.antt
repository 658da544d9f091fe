use Rattle.std.proofs.Common.{arith}
use Rattle.std.proofs.lemmas.Bool.{ne_eqb}
use Rattle.eve_objects.specs.Bytes.{members_of_kind}
use Rattle.eve_objects.proofs.frame.put_kind.Goals as goal

pub returns-in-18-clause-tokens : goal.returns-in-18-clause-tokens
unfolding members_of_kind
returns-in-18-clause-tokens c = rw c.in-18.is c.put_access_frame.ensures.tokens

pub returns-in-17-clause-tokens : goal.returns-in-17-clause-tokens
unfolding members_of_kind
returns-in-17-clause-tokens c = rw c.in-17.is c.put_attempt_frame.ensures.tokens

pub returns-in-2-clause-tokens : goal.returns-in-2-clause-tokens
unfolding members_of_kind
returns-in-2-clause-tokens c = rw c.in-2.is c.put_batch_frame.ensures.tokens

pub returns-in-20-clause-tokens : goal.returns-in-20-clause-tokens
unfolding members_of_kind
returns-in-20-clause-tokens c = rw c.in-20.is c.put_rollback_frame.ensures.tokens

pub returns-in-21-clause-tokens : goal.returns-in-21-clause-tokens
unfolding members_of_kind
returns-in-21-clause-tokens c = rw c.in-21.is c.put_transfer_frame.ensures.tokens

pub returns-in_default-clause-tokens : goal.returns-in_default-clause-tokens
unfolding members_of_kind
returns-in_default-clause-tokens c =
    rw (
      ne_eqb c.args.kind 18 (λ e. absurd (omega arith)),
      ne_eqb c.args.kind 17 (λ e. absurd (omega arith)),
      ne_eqb c.args.kind 2 (λ e. absurd (omega arith)),
      ne_eqb c.args.kind 20 (λ e. absurd (omega arith)),
      ne_eqb c.args.kind 21 (λ e. absurd (omega arith)),
    )
    c.put_short.ensures.tokens
