use Rattle.std.proofs.Common.{IsTrue, sym, subst, ap, ◌∙◌, arith}
use Rattle.std.proofs.lemmas.List.{length-map}
use Rattle.eve_workload.specs.Lines.{line_words}
use Rattle.eve_workload.specs.Steps.{is_line}
use Rattle.eve_workload.specs.inner.Words.{bytes_of}
use Rattle.eve_workload.proofs.Options.{none_map}
use Rattle.eve_workload.proofs.LineKinds.{with_five, with_six, no_such_line}
use Rattle.eve_workload.proofs.line.line_of.Goals as goal

pub returns-in-5-clause-none : goal.returns-in-5-clause-none
returns-in-5-clause-none c =
    none_map c.line_of_five.result _ _
    (λ none l right words. with_five l (bytes_of c.args.words.now) (length-map c.args.words.now _ ∙ c.in-5.is) words
    (λ a is. none a (subst (λ m. IsTrue (is_line m)) is right) (ap line_words (sym is) ∙ words)))
    c.line_of_five.ensures.none

pub returns-in-6-clause-none : goal.returns-in-6-clause-none
returns-in-6-clause-none c =
    none_map c.line_of_six.result _ _
    (λ none l right words. with_six l (bytes_of c.args.words.now) (length-map c.args.words.now _ ∙ c.in-6.is) words
    (λ d is. none d (subst (λ m. IsTrue (is_line m)) is right) (ap line_words (sym is) ∙ words)))
    c.line_of_six.ensures.none

pub returns-in_default-clause-none : goal.returns-in_default-clause-none
returns-in_default-clause-none c = λ l right words.
    let count = length-map c.args.words.now (λ word. word.now) in
    no_such_line l (bytes_of c.args.words.now) (omega arith) (omega arith) (omega arith) (omega arith) words
