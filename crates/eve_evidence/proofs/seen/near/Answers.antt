use Rattle.std.proofs.Common.{refl, sym, ◌∙◌}
use Rattle.std.proofs.lemmas.Bool.{false≢true}
use Rattle.eve_frames.specs.Decoded.{attempt_decoded}
use Rattle.eve_evidence.proofs.NearSources.{by_own, by_path, by_base, by_behind, none_there, none_serial, none_at_end}
use Rattle.eve_evidence.proofs.NearSources.{none_behind}
use Rattle.eve_evidence.proofs.seen.near.Goals as goal

pub returns-in-Some-clause-seen : goal.returns-in-Some-clause-seen
returns-in-Some-clause-seen c = λ prefix behind a is decoded xs.
    let s = c.args.site in
    by_own s.trace.now prefix behind s.course.now (attempt_decoded s.attempt.now) a s.accesses.now
    s.attempt.now.offset c.args.index c.place_of-place.result c.args.row c.args.saw.now is decoded xs
    c.place_of-place.ensures.before c.in-Some.source c.in-Some.ensures.last

pub returns-in-Some-last_found_on_path-clause-seen : goal.returns-in-Some-last_found_on_path-clause-seen
returns-in-Some-last_found_on_path-clause-seen c = λ prefix behind a is decoded xs.
    let s = c.args.site in
    by_path s.trace.now prefix behind s.course.now (attempt_decoded s.attempt.now) a s.accesses.now
    s.attempt.now.offset c.args.index c.place_of-place.result c.args.row c.args.saw.now is decoded xs
    c.place_of-place.ensures.before c.in-Some-last_found_on_path.source c.in-Some-last_found_on_path.ensures.last
    c.in_default.ensures.none

pub returns-then-is_same-clause-seen : goal.returns-then-is_same-clause-seen
returns-then-is_same-clause-seen c = λ prefix behind a is decoded xs.
    let s = c.args.site in
    by_base s.trace.now prefix behind s.course.now (attempt_decoded s.attempt.now) a s.accesses.now
    s.attempt.now.offset c.args.index c.place_of-place.result c.args.row c.args.saw.now is decoded xs
    c.place_of-place.ensures.before c.left_at_first-first.result.has c.left_at_first-first.result.by
    c.left_at_first-first.ensures.by c.left_at_first-first.ensures.has (c.if-is_same.ensures.0 refl)
    c.in_default-last_found_on_path.ensures.none c.in_default.ensures.none

pub returns-then-is_serial-clause-none : goal.returns-then-is_serial-clause-none
returns-then-is_serial-clause-none c = λ prefix behind a is decoded xs.
    let s = c.args.site in record {
      on_way = none_there s.trace.now prefix behind s.course.now (attempt_decoded s.attempt.now) a
          s.accesses.now s.attempt.now.offset c.args.index c.place_of-place.result c.args.row c.args.saw.now is
          decoded xs
          c.place_of-place.ensures.before c.left_at_first-first.result.has c.left_at_first-first.ensures.has
          (λ same. false≢true (c.if-is_same.ensures.1 same))
          c.in_default-last_found_on_path.ensures.none c.in_default.ensures.none;
      behind_it = none_serial s.trace.now prefix behind s.course.now (attempt_decoded s.attempt.now) a
          s.accesses.now s.attempt.now.offset c.args.index c.place_of-place.result c.args.row c.args.saw.now is
          decoded xs
          c.place_of-place.ensures.before (sym c.is_serial.ensures ∙ c.if-is_serial.true);
    }

pub returns-then-count-place-clause-none : goal.returns-then-count-place-clause-none
returns-then-count-place-clause-none c = λ prefix behind a is decoded xs.
    let s = c.args.site in record {
      on_way = none_there s.trace.now prefix behind s.course.now (attempt_decoded s.attempt.now) a
          s.accesses.now s.attempt.now.offset c.args.index c.place_of-place.result c.args.row c.args.saw.now is
          decoded xs
          c.place_of-place.ensures.before c.left_at_first-first.result.has c.left_at_first-first.ensures.has
          (λ same. false≢true (c.if-is_same.ensures.1 same))
          c.in_default-last_found_on_path.ensures.none c.in_default.ensures.none;
      behind_it = none_at_end s.trace.now prefix behind s.course.now (attempt_decoded s.attempt.now) a
          s.accesses.now s.attempt.now.offset c.args.index c.place_of-place.result c.args.row c.args.saw.now is
          decoded xs
          c.place_of-place.ensures.before c.place_of-place.ensures.within c.len-count.result
          c.len-count.ensures.certificate
          c.if-count-place.true;
    }

pub returns-in_default-first_found-clause-none : goal.returns-in_default-first_found-clause-none
returns-in_default-first_found-clause-none c = λ prefix behind a is decoded xs.
    let s = c.args.site in record {
      on_way = none_there s.trace.now prefix behind s.course.now (attempt_decoded s.attempt.now) a
          s.accesses.now s.attempt.now.offset c.args.index c.place_of-place.result c.args.row c.args.saw.now is
          decoded xs
          c.place_of-place.ensures.before c.left_at_first-first.result.has c.left_at_first-first.ensures.has
          (λ same. false≢true (c.if-is_same.ensures.1 same))
          c.in_default-last_found_on_path.ensures.none c.in_default.ensures.none;
      behind_it = none_behind s.trace.now prefix behind s.course.now (attempt_decoded s.attempt.now) a
          s.accesses.now s.attempt.now.offset c.args.index c.place_of-place.result c.args.row c.args.saw.now is
          decoded xs
          c.place_of-place.ensures.before c.place_of-place.ensures.within c.len-count.result
          c.len-count.ensures.certificate
          (sym c.is_serial.ensures ∙ c.if-is_serial.false) c.in_default-first_found.ensures.none;
    }

pub returns-clause-seen : goal.returns-clause-seen
returns-clause-seen c = λ prefix behind a is decoded xs.
    let s = c.args.site in
    by_behind s.trace.now prefix behind s.course.now (attempt_decoded s.attempt.now) a
    s.accesses.now s.attempt.now.offset c.args.index c.place_of-place.result c.args.row c.args.saw.now is
    decoded xs
    c.place_of-place.ensures.before c.place_of-place.ensures.within c.len-count.result c.len-count.ensures.certificate
    c.in-Some-first_found.source (sym c.is_serial.ensures ∙ c.if-is_serial.false)
    (none_there s.trace.now prefix behind s.course.now (attempt_decoded s.attempt.now) a
    s.accesses.now s.attempt.now.offset c.args.index c.place_of-place.result c.args.row c.args.saw.now is
    decoded xs
    c.place_of-place.ensures.before c.left_at_first-first.result.has c.left_at_first-first.ensures.has
    (λ same. false≢true (c.if-is_same.ensures.1 same))
    c.in_default-last_found_on_path.ensures.none c.in_default.ensures.none) c.in-Some-first_found.ensures.first
