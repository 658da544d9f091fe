use Rattle.eve_grammar.specs.Trace.{head_of}
use Rattle.eve_audit.proofs.Sentences.{audited_with}
use Rattle.eve_audit.proofs.laws.accepted_traces_are_audited.Goals as goal

pub returns : goal.returns
returns c = λ t accepted.
    let numbers = c.numbers_are_reached.ensures in
    let serial = c.serial_order_of_a_section.ensures in
    audited_with t accepted
    (record {
      head = c.right_heads_have_limits.ensures.limits (head_of t) accepted.limits.head;
      numbers = λ e n p. numbers.numbers t e n p (accepted.right e);
      before = λ e n p. numbers.before t e n p (accepted.right e);
      reaches = λ e k at x. numbers.reaches t e k at x (accepted.right e);
      states = λ e n at x. c.states_are_the_balances.ensures t e n at x accepted.limits (accepted.right e);
      serial = λ e. serial.each t e (accepted.right e) (accepted.sound e);
      from_opening = λ e. serial.all t e (accepted.right e) (accepted.sound e);
      groups = λ e n p at. c.committed_orders_keep_the_groups.ensures t e n p (accepted.right e) at;
      once = λ e. c.requests_take_effect_once.ensures.once t e (accepted.right e) accepted.apart;
      restored = λ e. c.rollbacks_restore_what_is_committed.ensures t e (accepted.right e) (accepted.restores e);
    })
