use Rattle.std.proofs.Common.{◌∙◌, append-nil, arith}
use Rattle.std.proofs.lemmas.Bool.{ne_eqb}
use Rattle.eve_lines.specs.Rest.{words_of_kind}
use Rattle.eve_lines.proofs.frame.begin_kind.Goals as goal

pub returns-in-18 : goal.returns-in-18
unfolding words_of_kind
returns-in-18 c = rw c.in-18.is c.begin_access.ensures

pub returns-in-17 : goal.returns-in-17
unfolding words_of_kind
returns-in-17 c = rw c.in-17.is c.begin_attempt.ensures

pub returns-in-2 : goal.returns-in-2
unfolding words_of_kind
returns-in-2 c = rw c.in-2.is c.begin_batch.ensures

pub returns-in-20 : goal.returns-in-20
unfolding words_of_kind
returns-in-20 c = rw c.in-20.is c.begin_rollback.ensures

pub returns-in-21 : goal.returns-in-21
unfolding words_of_kind
returns-in-21 c = rw c.in-21.is c.begin_transfer.ensures

pub returns-in_default : goal.returns-in_default
unfolding words_of_kind
returns-in_default c =
    rw (
      ne_eqb c.args.kind 18 (λ e. absurd (omega arith)),
      ne_eqb c.args.kind 17 (λ e. absurd (omega arith)),
      ne_eqb c.args.kind 2 (λ e. absurd (omega arith)),
      ne_eqb c.args.kind 20 (λ e. absurd (omega arith)),
      ne_eqb c.args.kind 21 (λ e. absurd (omega arith)),
    )
    (rw c.of.ensures (append-nil c.put_short.new.line.items ∙ c.put_short.ensures))
