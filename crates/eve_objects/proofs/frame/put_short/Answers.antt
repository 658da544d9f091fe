use Rattle.std.proofs.Common.{sym, append-nil, arith}
use Rattle.std.proofs.lemmas.Bool.{ne_eqb}
use Rattle.eve_objects.specs.Bytes.{short_members}
use Rattle.eve_objects.proofs.frame.put_short.Goals as goal

pub returns-in-19-clause-tokens : goal.returns-in-19-clause-tokens
unfolding short_members
returns-in-19-clause-tokens c = rw c.in-19.is c.put_commit_frame.ensures.tokens

pub returns-in-1-clause-tokens : goal.returns-in-1-clause-tokens
unfolding short_members
returns-in-1-clause-tokens c = rw c.in-1.is c.put_customer_frame.ensures.tokens

pub returns-in-16-clause-tokens : goal.returns-in-16-clause-tokens
unfolding short_members
returns-in-16-clause-tokens c = rw c.in-16.is c.put_number_frame.ensures.tokens

pub returns-in-48-clause-tokens : goal.returns-in-48-clause-tokens
unfolding short_members
returns-in-48-clause-tokens c = rw c.in-48.is c.put_sent_frame.ensures.tokens

pub returns-in-32-clause-tokens : goal.returns-in-32-clause-tokens
unfolding short_members
returns-in-32-clause-tokens c = rw c.in-32.is c.put_number_frame-in-32.ensures.tokens

pub returns-in-33-clause-tokens : goal.returns-in-33-clause-tokens
unfolding short_members
returns-in-33-clause-tokens c = rw c.in-33.is c.put_vote_frame.ensures.tokens

pub returns-in_default-clause-tokens : goal.returns-in_default-clause-tokens
unfolding short_members
returns-in_default-clause-tokens c =
    rw (
      ne_eqb c.args.kind 19 (λ e. absurd (omega arith)),
      ne_eqb c.args.kind 1 (λ e. absurd (omega arith)),
      ne_eqb c.args.kind 16 (λ e. absurd (omega arith)),
      ne_eqb c.args.kind 48 (λ e. absurd (omega arith)),
      ne_eqb c.args.kind 32 (λ e. absurd (omega arith)),
      ne_eqb c.args.kind 33 (λ e. absurd (omega arith)),
    )
    (sym (append-nil c.args.writer.now.tokens))
