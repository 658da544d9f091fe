use Rattle.std.proofs.Common.{◌≡◌, ℕ, refl, sym, subst, ap, ◌∙◌, arith}
use Rattle.std.proofs.lemmas.List.{length-take-le}
use Rattle.eve_smallbank.specs.declared.entry.Entry.{Entry}
use Rattle.eve_smallbank.specs.declared.versioned.Versioned.{Versioned}
use Rattle.eve_frames.specs.Decoded.{access_decoded}
use Rattle.eve_grammar.specs.Spelling.{accesses_at}
use Rattle.eve_chains.specs.Visible.{before_index, visible_to}
use Rattle.eve_evidence.specs.Seen.{IsSeenBy}
use Rattle.eve_chains.specs.Along.{SeesAnother}
use Rattle.eve_evidence.specs.Course.{last_state, standing}
use Rattle.eve_evidence.specs.Told.{placed_in}
use Rattle.eve_evidence.specs.Sources.{passed, way_to, IsLeftBy}
use Rattle.eve_evidence.proofs.Lists.{all_more, place_at}
use Rattle.eve_evidence.proofs.Versions.{small_version}
use Rattle.eve_evidence.proofs.chain.wrong_entry.Goals as goal

pub returns-then-sees_another-clause-told : goal.returns-then-sees_another-clause-told
returns-then-sees_another-clause-told c = λ s a is decoded xs.
    let t = c.args.trace.now in
    let at = c.args.attempt.now.offset in
    let es = (access_decoded c.args.access.now).entries in
    let e = c.entry-entry.result in
    let i = c.loop-i.i in
    let has : c.left_to-left.result.has
    ≡ visible_to t (placed_in s at a) (access_decoded c.args.access.now).index e.row =
    c.left_to-left.ensures.has s a is decoded xs ∙ ap (λ (n : ℕ). visible_to t (placed_in s at a) n e.row)
    c.index-index.ensures in
    place_at _ es i e c.entry-entry.ensures (record {
      first = c.loop-i.invariant s a is decoded xs;
      wrong = subst (λ (v : Versioned). SeesAnother c.args.code v e) has (c.if-sees_another.ensures.yes refl);
      place = sym (length-take-le i es (omega (arith, c.loop-i-test.true, c.len-i-end.ensures.len)));
      kind = refl;
      row = c.told_row.ensures;
      saw = refl;
      due = has;
      left = subst (λ (n : ℕ). IsLeftBy (last_state s.ways_reached) e.row (way_to (standing s) at a n)
          c.left_to-left.result.by) c.index-index.ensures (c.left_to-left.ensures.by s a is decoded xs);
      seen = subst (λ (n : ℕ). IsSeenBy (passed a.seq (accesses_at at a) (before_index n a.certificate)) e
          c.seen_by.result) c.index-index.ensures (c.seen_by.ensures a decoded xs);
    })

pub loop-i-preserved : goal.loop-i-preserved
loop-i-preserved c = λ s a is decoded xs.
    let t = c.args.trace.now in
    let at = c.args.attempt.now.offset in
    let es = (access_decoded c.args.access.now).entries in
    let e = c.entry-entry.result in
    let has : c.left_to-left.result.has
    ≡ visible_to t (placed_in s at a) (access_decoded c.args.access.now).index e.row =
    c.left_to-left.ensures.has s a is decoded xs ∙ ap (λ (n : ℕ). visible_to t (placed_in s at a) n e.row)
    c.index-index.ensures in
    all_more (λ (y : Entry). ¬ SeesAnother c.args.code
    (visible_to t (placed_in s at a) (access_decoded c.args.access.now).index y.row) y) es c.loop-i.i e
    c.entry-entry.ensures
    (c.loop-i.invariant s a is decoded xs)
    (λ sees. c.if-sees_another.ensures.no refl
    (subst (λ (v : Versioned). SeesAnother c.args.code v e) (sym has) sees))

pub seen_by-requires : goal.seen_by-requires
seen_by-requires c =
    small_version c.args.access.now.bytes.now c.loop-i.i c.entry-entry.result c.args.access.now.whole
    c.entry-entry.ensures
