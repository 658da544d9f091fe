use Rattle.eve_frames.specs.Decoded.{attempt_decoded}
use Rattle.eve_evidence.proofs.VisibleRows.{by_own, has_own, by_path, has_path, by_first, has_first}
use Rattle.eve_evidence.proofs.sources.left_to.Goals as goal

pub returns-in-Some-clause-by : goal.returns-in-Some-clause-by
returns-in-Some-clause-by c = λ s a is decoded xs.
    by_own c.args.trace.now s c.args.course.now (attempt_decoded c.args.attempt.now) a c.args.accesses.now
    c.args.attempt.now.offset c.args.index c.place_of.result c.args.row is decoded xs c.place_of.ensures.before
    c.in-Some.left
    c.in-Some.ensures.last

pub returns-in-Some-clause-has : goal.returns-in-Some-clause-has
returns-in-Some-clause-has c = λ s a is decoded xs.
    has_own c.args.trace.now s c.args.course.now (attempt_decoded c.args.attempt.now) a c.args.accesses.now
    c.args.attempt.now.offset c.args.index c.place_of.result c.args.row is decoded xs c.place_of.ensures.before
    c.in-Some.left
    c.in-Some.ensures.last

pub returns-in-Some-last_on_path-clause-by : goal.returns-in-Some-last_on_path-clause-by
returns-in-Some-last_on_path-clause-by c = λ s a is decoded xs.
    by_path c.args.trace.now s c.args.course.now (attempt_decoded c.args.attempt.now) a c.args.accesses.now
    c.args.attempt.now.offset c.args.index c.place_of.result c.args.row is decoded xs c.place_of.ensures.before
    c.in-Some-last_on_path.left c.in-Some-last_on_path.ensures.last c.in_default.ensures.none

pub returns-in-Some-last_on_path-clause-has : goal.returns-in-Some-last_on_path-clause-has
returns-in-Some-last_on_path-clause-has c = λ s a is decoded xs.
    has_path c.args.trace.now s c.args.course.now (attempt_decoded c.args.attempt.now) a c.args.accesses.now
    c.args.attempt.now.offset c.args.index c.place_of.result c.args.row is decoded xs c.place_of.ensures.before
    c.in-Some-last_on_path.left c.in-Some-last_on_path.ensures.last c.in_default.ensures.none

pub returns-clause-by : goal.returns-clause-by
returns-clause-by c = λ s a is decoded xs.
    by_first c.args.trace.now s c.args.course.now (attempt_decoded c.args.attempt.now) a c.args.accesses.now
    c.args.attempt.now.offset c.args.index c.place_of.result c.args.row is decoded xs c.place_of.ensures.before
    c.left_at_first.result.by c.left_at_first.ensures.by c.in_default-last_on_path.ensures.none
    c.in_default.ensures.none

pub returns-clause-has : goal.returns-clause-has
returns-clause-has c = λ s a is decoded xs.
    has_first c.args.trace.now s c.args.course.now (attempt_decoded c.args.attempt.now) a c.args.accesses.now
    c.args.attempt.now.offset c.args.index c.place_of.result c.args.row is decoded xs c.place_of.ensures.before
    c.left_at_first.result.has c.left_at_first.ensures.has c.in_default-last_on_path.ensures.none
    c.in_default.ensures.none
