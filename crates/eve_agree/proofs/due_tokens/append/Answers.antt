use Rattle.std.proofs.Common.{List, IsTrue, sym, subst, refl}
use Rattle.std.proofs.lemmas.List.Elements.{All-push}
use Rattle.eve_grammar.specs.declared.head.Head.{Head}
use Rattle.eve_agree.specs.inner.HashedRows.{can_hash}
use Rattle.eve_agree.specs.inner.NumbersJudged.{IsAfter}
use Rattle.eve_agree.specs.inner.Stretches.{IsReadyStretch, AreReadyStretches}
use Rattle.eve_agree.specs.declared.due_tokens.Stretch.{Stretch}
use Rattle.eve_agree.proofs.JoinedStretches.{reaches_more}
use Rattle.eve_agree.proofs.due_tokens.append.Goals as goal

pub returns : goal.returns
returns c =
    let v = c.args.trace.now.head.version in
    let s = c.args.settled.now in
    let xs = c.args.stretches.now.items in
    let old = c.requires.stretch in
    let x : Stretch = record c.args.stretch { rows = c.grow.new.self } in
    subst (AreReadyStretches v s x.last) (sym {A = List Stretch} c.in_ok-push.ensures.items) (record {
      reaches = reaches_more 0 x.before xs x c.requires.ready.reaches refl;
      ready = All-push (IsReadyStretch v s) xs x c.requires.ready.ready (record {
        coming = record {
          rising = old.rising;
          there = old.there;
          balances = subst (IsAfter s x.before) (sym c.in_ok-grow.ensures.same) old.balances;
        };
        can = subst (λ (h : Head). IsTrue (can_hash h.version x.rows)) c.head.ensures c.in_ok-grow.ensures.can;
      });
    })
