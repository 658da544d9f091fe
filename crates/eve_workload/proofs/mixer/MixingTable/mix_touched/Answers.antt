use Rattle.std.proofs.Common.{◌≡◌, ◌≤◌, ℕ, List, map, sym, ap, subst, ◌∙◌}
use Rattle.std.specs.Prelude.{IsTrue, IsPermutation}
use Rattle.std.specs.List.{list_all}
use Rattle.std.proofs.lemmas.List.{length-map}
use Rattle.std.proofs.lemmas.Result.{IfOk-weaker}
use Rattle.eve_grammar.specs.Trace.{Asked, Batch}
use Rattle.eve_grammar.specs.Limits.{is_asked, is_batch}
use Rattle.eve_write.specs.Data.{asked, batch}
use Rattle.eve_workload.specs.Mixers.{cut, batch_with}
use Rattle.eve_workload.specs.inner.Mixed.{touched_by}
use Rattle.eve_workload.proofs.Mixed.{cut_keeps, cut_is_right}
use Rattle.eve_workload.proofs.mixer.MixingTable.mix_touched.Goals as goal

pub returns-clause-batch : goal.returns-clause-batch
returns-clause-batch c =
    let names : List (List ℕ) = c.args.names.now.items in
    let asks : List Asked = map asked c.args.requests.now in
    let groups : List (List Asked) = cut names c.args.mixer asks in
    IfOk-weaker c.cut_by.result _ (λ m. batch m.batch ≡ batch_with groups)
    (λ m mixed. (mixed names c.in_ok-touched.ensures).batch_is)
    c.cut_by.ensures

pub returns-clause-touched : goal.returns-clause-touched
returns-clause-touched c =
    let names : List (List ℕ) = c.args.names.now.items in
    IfOk-weaker c.cut_by.result _ (λ m. m.touched.items ≡ map (touched_by names) (batch m.batch).requests)
    (λ m mixed. (mixed names c.in_ok-touched.ensures).touched_is)
    c.cut_by.ensures

pub returns-clause-each_once : goal.returns-clause-each_once
returns-clause-each_once c =
    let names : List (List ℕ) = c.args.names.now.items in
    let asks : List Asked = map asked c.args.requests.now in
    IfOk-weaker c.cut_by.result (λ m. batch m.batch ≡ batch_with (cut names c.args.mixer asks))
    (λ m. IsPermutation asks (batch m.batch).requests)
    (λ m is. subst (IsPermutation asks) (ap (λ (b : Batch). b.requests) (sym is)) (cut_keeps names c.args.mixer asks))
    (returns-clause-batch c)

pub returns-clause-right : goal.returns-clause-right
returns-clause-right c =
    let names : List (List ℕ) = c.args.names.now.items in
    let asks : List Asked = map asked c.args.requests.now in
    IfOk-weaker c.cut_by.result (λ m. batch m.batch ≡ batch_with (cut names c.args.mixer asks))
    (λ m. IsTrue (list_all is_asked asks) → IsTrue (is_batch (batch m.batch)))
    (λ m is all. ap is_batch is
    ∙ cut_is_right names c.args.mixer asks
    (subst (λ n. 1 ≤ n) (sym (length-map c.args.requests.now asked)) c.requires.some)
    (subst (λ n. n ≤ 256) (sym (length-map c.args.requests.now asked)) c.requires.few) all)
    (returns-clause-batch c)
