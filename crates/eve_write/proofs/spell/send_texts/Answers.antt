use Rattle.std.proofs.Common.{◌≡◌, List, [], ℕ, get_or, take, ◌∙◌, ap, sym, subst}
use Rattle.std.specs.Borrow.{Bor}
use Rattle.std.specs.List.{flat_map}
use Rattle.std.proofs.lemmas.List.{get_or_default, take_all}
use Rattle.eve_write.specs.Writes.{Wrote, Stopped, joined}
use Rattle.eve_write.proofs.JoinedWrites.{Stopped-more, Writes-at_err, joined_is}
use Rattle.eve_write.proofs.spell.send_texts.Goals as goal

pub returns-in_err-send_all : goal.returns-in_err-send_all
returns-in_err-send_all g c =
    let texts : List (Bor (List ℕ)) = c.args.texts.now in
    let text : List (Bor (List ℕ)) → List ℕ = flat_map (λ x. x.now) in
    let i = c.loop-text.text-index in
    let item : Bor (List ℕ) = get_or texts i (record { ref_ptr = (0, 0); now = [] }) in
    let stopped : Stopped g.W.Sink.written g.W.Sink.failures c.loop-text.out c.send_all.new.sink item.now =
    record { prefix = c.in_err-send_all.ensures.prefix; counted = c.in_err-send_all.ensures.counted } in
    let all = Stopped-more (λ (x : Bor (List ℕ)). x.now) texts i item c.loop-text-test.true
    (get_or_default texts i _ item c.loop-text-test.true) c.loop-text.invariant stopped in
    Writes-at_err _ _ _ _ _ c.from_residual.result c.from_residual.ensures.0
    (subst (Stopped g.W.Sink.written g.W.Sink.failures c.args.out.now c.send_all.new.sink) (sym (joined_is texts)) all)

pub returns : goal.returns
returns g c =
    let texts : List (Bor (List ℕ)) = c.args.texts.now in
    let whole : flat_map (λ (x : Bor (List ℕ)). x.now) (take c.loop-text.text-index texts) ≡ joined texts =
    ap (flat_map (λ (x : Bor (List ℕ)). x.now)) (take_all c.loop-text.text-index texts c.loop-text-test.false)
    ∙ sym (joined_is texts) in
    subst (Wrote g.W.Sink.written g.W.Sink.failures c.args.out.now c.loop-text.out) whole c.loop-text.invariant
