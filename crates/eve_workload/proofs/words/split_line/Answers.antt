use Rattle.std.proofs.Common.{◌≡◌, ℕ, ◌+◌, ◌<◌, true, List, Bor, get_or, length, refl, sym, subst, ap, ◌∙◌}
use Rattle.std.proofs.Common.{arith, rules}
use Rattle.std.proofs.lemmas.List.{length-map, map_push}
use Rattle.eve_workload.specs.inner.Words.{is_inside, bytes_of, IsFirstLine}
use Rattle.eve_workload.proofs.LineLaws.{no_line_of_few}
use Rattle.eve_workload.proofs.SplitLines.{IsSplit, split_end, split_space, split_inside, no_line_with}
use Rattle.eve_workload.proofs.words.split_line.Goals as goal

pub returns-then-byte-eq-LINE_FEED-clause-found : goal.returns-then-byte-eq-LINE_FEED-clause-found
returns-then-byte-eq-LINE_FEED-clause-found c =
    let there : c.loop-words.at < length c.args.text.now = search rules in
    let pushed = ap bytes_of c.push_reserved.ensures.items
    ∙ map_push (λ (word : Bor (List ℕ)). word.now) c.loop-words.words.items _ in
    subst (λ words. IsFirstLine c.args.text.now words (c.loop-words.at + 1)) (sym pushed)
    (split_end c.args.text.now _ _ _ c.loop-words.at c.loop-words.invariant.split there c.if-byte-eq-LINE_FEED.true
    refl)

pub returns-then-byte-ne-SPACE-clause-none : goal.returns-then-byte-ne-SPACE-clause-none
returns-then-byte-ne-SPACE-clause-none c = λ ws behind few inside.
    no_line_with c.args.text.now _ c.loop-words.from c.loop-words.at c.loop-words.invariant.split
    (sym c.is_inside.ensures ∙ c.if-not-is_inside.true) c.if-byte-eq-LINE_FEED.false c.if-byte-ne-SPACE.true ws behind
    inside

pub returns-then-len-eq-MOST_WORDS-clause-none : goal.returns-then-len-eq-MOST_WORDS-clause-none
returns-then-len-eq-MOST_WORDS-clause-none c = λ ws behind few inside.
    let there : c.loop-words.at < length c.args.text.now = search rules in
    let pushed = ap bytes_of c.push_reserved.ensures.items
    ∙ map_push (λ (word : Bor (List ℕ)). word.now) c.loop-words.words.items _ in
    let count : c.len.result ≡ length c.push_reserved.new.self.items = search rules in
    let same = length-map c.push_reserved.new.self.items (λ (word : Bor (List ℕ)). word.now) in
    let split : IsSplit c.args.text.now (bytes_of c.push_reserved.new.self.items) (c.loop-words.at + 1)
    (c.loop-words.at + 1) = subst (λ words. IsSplit c.args.text.now words (c.loop-words.at + 1) (c.loop-words.at + 1))
    (sym pushed)
    (split_space c.args.text.now _ _ _ c.loop-words.at c.loop-words.invariant.split there c.if-byte-ne-SPACE.false refl)
    in
    no_line_of_few c.args.text.now (bytes_of c.push_reserved.new.self.items) (c.loop-words.at + 1) split
    (omega (arith, same, count, c.if-len-eq-MOST_WORDS.true)) ws behind
    (omega (arith, same, count, c.if-len-eq-MOST_WORDS.true, few)) inside

pub loop-words-preserved : goal.loop-words-preserved
loop-words-preserved c =
    let at = c.loop-words.at in
    let there : at < length c.args.text.now = search rules in
    elim c.if-not-is_inside.branch [
      | goal.then-not-is_inside+else-byte-eq-LINE_FEED+else-byte-ne-SPACE+else-len-eq-MOST_WORDS w ↦
          let pushed = ap bytes_of w.push_reserved.ensures.items
          ∙ map_push (λ (word : Bor (List ℕ)). word.now) c.loop-words.words.items _ in
          let split : IsSplit c.args.text.now (bytes_of w.push_reserved.new.self.items) (at + 1) (at + 1) =
          subst (λ words. IsSplit c.args.text.now words (at + 1) (at + 1)) (sym pushed)
          (split_space c.args.text.now _ _ _ at c.loop-words.invariant.split there w.if-byte-ne-SPACE.false refl) in
          rw (w.words-is, w.from-is)
          record {
            split = split;
            few = omega (arith, w.len.ensures, w.push_reserved.ensures.len, w.if-len-eq-MOST_WORDS.false);
            room = w.push_reserved.ensures.capacity ∙ c.loop-words.invariant.room;
          }
      | goal.else-not-is_inside w ↦
          let inside : is_inside (get_or c.args.text.now at 0) ≡ true =
          sym c.is_inside.ensures ∙ w.if-not-is_inside.false in
          rw (w.words-is, w.from-is)
          record {
            split = split_inside c.args.text.now _ c.loop-words.from at c.loop-words.invariant.split there inside;
            few = c.loop-words.invariant.few;
            room = c.loop-words.invariant.room;
          }
    ]
