use Rattle.std.proofs.Common.{◌≡◌, ℕ, List, [], ◌∷◌, map, sym, subst, ◌∙◌}
use Rattle.std.proofs.lemmas.Result.{IfOk-weaker}
use Rattle.eve_grammar.specs.Trace.{Asked}
use Rattle.eve_write.specs.Data.{asked}
use Rattle.eve_workload.specs.declared.mixer.Mixer.{Mixer}
use Rattle.eve_workload.specs.declared.mixer.Mixer.TheVariants.{First}
use Rattle.eve_workload.specs.Mixers.{cut}
use Rattle.eve_workload.specs.inner.Mixed.{touched_by, IsMixed}
use Rattle.eve_workload.proofs.mixer.cut_by.Goals as goal

pub returns-in-First : goal.returns-in-First
returns-in-First c =
    let asks : List Asked = map asked c.args.requests.now in
    IfOk-weaker c.cut_first.result
    (λ m. (names : List (List ℕ)) → c.as_slice.result.now ≡ map (touched_by names) asks
    → IsMixed names (cut names First asks) m)
    (λ m. (names : List (List ℕ)) → c.args.touched.items ≡ map (touched_by names) asks
    → IsMixed names (cut names c.args.mixer asks) m)
    (λ m mixed names is. subst (λ (x : Mixer). IsMixed names (cut names x asks) m) (sym c.in-First.is)
    (mixed names (c.as_slice.ensures.value ∙ is)))
    c.cut_first.ensures

pub returns-in-Whole : goal.returns-in-Whole
returns-in-Whole c =
    let asks : List Asked = map asked c.args.requests.now in
    IfOk-weaker c.cut_whole.result
    (λ m. (names : List (List ℕ)) → c.args.touched.items ≡ map (touched_by names) asks → IsMixed names (asks ∷ []) m)
    (λ m. (names : List (List ℕ)) → c.args.touched.items ≡ map (touched_by names) asks
    → IsMixed names (cut names c.args.mixer asks) m)
    (λ m mixed names is. subst (λ (x : Mixer). IsMixed names (cut names x asks) m) (sym c.in-Whole.is) (mixed names is))
    c.cut_whole.ensures
