use Rattle.std.proofs.Common.{sym, append-nil, arith}
use Rattle.std.proofs.lemmas.Bool.{ne_eqb}
use Rattle.eve_lines.specs.Rest.{short_words}
use Rattle.eve_lines.proofs.frame.put_short.Goals as goal

pub returns-in-19 : goal.returns-in-19
unfolding short_words
returns-in-19 c = rw c.in-19.is c.put_commit.ensures

pub returns-in-1 : goal.returns-in-1
unfolding short_words
returns-in-1 c = rw c.in-1.is c.put_customer.ensures

pub returns-in-16 : goal.returns-in-16
unfolding short_words
returns-in-16 c = rw c.in-16.is c.put_number_frame.ensures

pub returns-in-48 : goal.returns-in-48
unfolding short_words
returns-in-48 c = rw c.in-48.is c.put_sent.ensures

pub returns-in-32 : goal.returns-in-32
unfolding short_words
returns-in-32 c = rw c.in-32.is c.put_number_frame-in-32.ensures

pub returns-in-33 : goal.returns-in-33
unfolding short_words
returns-in-33 c = rw c.in-33.is c.put_vote.ensures

pub returns-in_default : goal.returns-in_default
unfolding short_words
returns-in_default c =
    rw (
      ne_eqb c.args.kind 19 (λ e. absurd (omega arith)),
      ne_eqb c.args.kind 1 (λ e. absurd (omega arith)),
      ne_eqb c.args.kind 16 (λ e. absurd (omega arith)),
      ne_eqb c.args.kind 48 (λ e. absurd (omega arith)),
      ne_eqb c.args.kind 32 (λ e. absurd (omega arith)),
      ne_eqb c.args.kind 33 (λ e. absurd (omega arith)),
    )
    (sym (append-nil c.args.line.now.items))
