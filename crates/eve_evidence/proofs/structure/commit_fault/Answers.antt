use Rattle.std.proofs.Common.{◌≡◌, ℕ, ◌+◌, ltb, get_or, List, length, Some, slice_get, true, refl, sym, ap, ◌∙◌, arith}
use Rattle.std.proofs.lemmas.Bool.{ltb-true}
use Rattle.std.proofs.lemmas.Option.{slice_get_read}
use Rattle.eve_frames.specs.Decoded.{commit_decoded}
use Rattle.eve_evidence.specs.declared.course.OnPath.{OnPath}
use Rattle.eve_evidence.proofs.PartsRead.{other_view, other_token, right_commit, same_not, apart_not}
use Rattle.eve_evidence.proofs.structure.commit_fault.Goals as goal

there : (items xs : List OnPath) (i : ℕ) (o : OnPath) → xs ≡ items → true ≡ ltb i (length xs)
    → o ≡ get_or xs i o → slice_get items i ≡ Some o
there items xs i o is lt read =
    ap (λ (ys : List OnPath). slice_get ys i) (sym is)
    ∙ slice_get_read xs (length xs) i o refl (ltb-true i (length xs) (sym lt)) read

pub returns-then-view-due-clause-told : goal.returns-then-view-due-clause-told
returns-then-view-due-clause-told c = λ s is.
    let o = c.in-Some.open.now in
    let got = there c.args.course.now.path.items c.deref.result.now c.args.course.now.committed o c.deref.ensures.value
    c.in-Some.ensures.lookup.0 c.in-Some.ensures.lookup.1 in
    let next : (commit_decoded c.args.commit.now).seq ≡ s.last + 1 =
    omega (arith, c.commit_number-next.ensures s is, c.seq.ensures, c.from-seq.ensures, c.if-seq-next.false) in
    other_view s c.args.course.now o is got (commit_decoded c.args.commit.now) next c.numbers-then-view-due.result
    (c.numbers-then-view-due.ensures ∙ (λ i. record {
      found = (c.from.ensures ∙ c.view-view.ensures) i;
      due = (c.from-then-view-due.ensures ∙ c.view-due.ensures) i;
    }))
    (λ e. c.if-view-due.true (c.view-view.ensures ∙ e ∙ sym c.view-due.ensures))

pub returns-then-ne-clause-told : goal.returns-then-ne-clause-told
returns-then-ne-clause-told c = λ s is.
    let o = c.in-Some.open.now in
    let got = there c.args.course.now.path.items c.deref.result.now c.args.course.now.committed o c.deref.ensures.value
    c.in-Some.ensures.lookup.0 c.in-Some.ensures.lookup.1 in
    let next : (commit_decoded c.args.commit.now).seq ≡ s.last + 1 =
    omega (arith, c.commit_number-next.ensures s is, c.seq.ensures, c.from-seq.ensures, c.if-seq-next.false) in
    other_token s c.args.course.now o is got (commit_decoded c.args.commit.now) next c.token-found.result
    c.token-due.result
    c.token-found.ensures c.token-due.ensures
    (sym c.view-view.ensures ∙ c.if-view-due.false ∙ c.view-due.ensures)
    (apart_not c.token-found.result.now c.token-due.result.now c.if-ne.ensures)

pub returns-clause-right : goal.returns-clause-right
returns-clause-right c = λ s is.
    let o = c.in-Some.open.now in
    let got = there c.args.course.now.path.items c.deref.result.now c.args.course.now.committed o c.deref.ensures.value
    c.in-Some.ensures.lookup.0 c.in-Some.ensures.lookup.1 in
    let next : (commit_decoded c.args.commit.now).seq ≡ s.last + 1 =
    omega (arith, c.commit_number-next.ensures s is, c.seq.ensures, c.from-seq.ensures, c.if-seq-next.false) in
    right_commit s c.args.course.now o is got (commit_decoded c.args.commit.now) next
    (sym c.view-view.ensures ∙ c.if-view-due.false ∙ c.view-due.ensures)
    (sym c.token-found.ensures ∙ same_not c.token-found.result.now c.token-due.result.now c.if-ne.ensures
    ∙ c.token-due.ensures)
