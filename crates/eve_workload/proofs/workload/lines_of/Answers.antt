use Rattle.std.proofs.Common.{◌≡◌, ◌≤◌, true, false, length, Some, None, sym, subst, ◌∙◌, arith, rules}
use Rattle.std.proofs.lemmas.List.{take_rest}
use Rattle.eve_workload.specs.inner.Words.{HasLineFeed}
use Rattle.eve_workload.specs.Steps.{may_end}
use Rattle.eve_workload.specs.inner.Drafts.{TakesLine}
use Rattle.eve_workload.proofs.TextLines.{keeps_small, read_more, read_all, read_bad, read_early, feed_to_come}
use Rattle.eve_workload.proofs.workload.lines_of.Goals as goal
use Rattle.eve_workload.proofs.workload.lines_of.Goals.{then-at-text-via-then-at-text}
use Rattle.eve_workload.proofs.workload.lines_of.Goals.{then-at-text-via-else-at-text+then-not-may_end}

pub next_line-number-requires : goal.next_line-number-requires
next_line-number-requires c = keeps_small c.loop-at.draft c.loop-at.invariant.read.before c.loop-at.invariant.read.keeps

pub take_line-requires : goal.take_line-requires
take_line-requires c = record {
  keeps = (c.loop-at.invariant.read.before, c.loop-at.invariant.read.keeps);
  feed = subst (λ rest. HasLineFeed rest 0) (sym (take_rest c.args.text.now c.loop-at.at))
      (feed_to_come c.args.text.now c.loop-at.at c.lines_len-len.result c.loop-at-test.true
      c.lines_len-len.ensures.within (c.lines_len-len.ensures.feed (omega arith)));
  room = c.loop-at.invariant.room;
}

pub next_line-requires : goal.next_line-requires
next_line-requires c = keeps_small c.loop-at.draft c.loop-at.invariant.read.before c.loop-at.invariant.read.keeps

pub loop-at-preserved : goal.loop-at-preserved
loop-at-preserved c =
    let accepted = c.in_ok-len.ensures.accepted c.loop-at.invariant.read.before c.loop-at.invariant.read.keeps in
    record {
      read = read_more c.args.text.now c.loop-at.at c.in-Some.len c.loop-at.draft c.take_line.new.self
          c.loop-at.invariant.read
          (subst (λ rest. TakesLine c.take_line.new.self c.loop-at.invariant.read.before rest (Some c.in-Some.len))
          (take_rest c.args.text.now c.loop-at.at) (rw c.in-Some.is at accepted));
      format = c.in_ok-len.ensures.format ∙ c.loop-at.invariant.format;
      room = omega (arith, c.in_ok-len.ensures.room, c.loop-at.invariant.room);
    }

pub returns-in-None-clause-bad : goal.returns-in-None-clause-bad
returns-in-None-clause-bad c = λ number same.
    let is : c.next_line-number.result ≡ number = cc in
    let accepted = c.in_ok-len.ensures.accepted c.loop-at.invariant.read.before c.loop-at.invariant.read.keeps in
    read_bad c.args.format c.args.text.now c.loop-at.at number c.loop-at.draft c.take_line.new.self
    c.loop-at.invariant.read c.loop-at.invariant.format (c.in_ok-len.ensures.format ∙ c.loop-at.invariant.format)
    (sym is ∙ c.next_line-number.ensures c.loop-at.invariant.read.before c.loop-at.invariant.read.keeps) (omega arith)
    (subst (λ rest. TakesLine c.take_line.new.self c.loop-at.invariant.read.before rest None)
    (take_rest c.args.text.now c.loop-at.at) (rw c.in-None.is at accepted))

pub returns-then-at-text-clause-bad : goal.returns-then-at-text-clause-bad
returns-then-at-text-clause-bad c = λ number same.
    let is : c.next_line.result ≡ number = cc in
    let read = c.loop-at.invariant.read in
    let open_end : length c.args.text.now ≤ c.loop-at.at → may_end read.before ≡ false = λ whole.
    elim c.then-at-text.branch [
      | then-at-text-via-then-at-text w ↦ absurd (omega (arith, w.if-at-text.true))
      | then-at-text-via-else-at-text+then-not-may_end w ↦
          sym (w.may_end.ensures read.before read.keeps.last) ∙ w.if-not-may_end.true
    ] in
    read_early c.args.format c.args.text.now c.loop-at.at number c.loop-at.draft read c.loop-at.invariant.format
    (sym is ∙ c.next_line.ensures read.before read.keeps)
    (λ k behind there. c.lines_len-len.ensures.none k (omega arith) there) open_end

pub returns-clause-lines : goal.returns-clause-lines
returns-clause-lines c =
    let read = c.loop-at.invariant.read in
    let ends : c.may_end.result ≡ true = search rules in
    read_all c.args.text.now c.loop-at.at c.loop-at.draft read (omega arith)
    (sym (c.may_end.ensures read.before read.keeps.last) ∙ ends)
