use Rattle.std.proofs.Common.{◌≡◌, List, [], ◌∷◌, length, map, sym, ap, ◌∙◌, rules}
use Rattle.std.proofs.lemmas.List.{length-map}
use Rattle.eve_grammar.specs.Trace.{Asked}
use Rattle.eve_write.specs.Data.{asked}
use Rattle.eve_workload.specs.inner.Mixed.{touched_by}
use Rattle.eve_workload.specs.Mixers.{batch_with}
use Rattle.eve_workload.proofs.Mixed.{whole_is}
use Rattle.eve_workload.proofs.mixer.cut_whole.Goals as goal

pub returns : goal.returns
returns c names is =
    let asks : List Asked = map asked c.args.requests.now in
    let copied : map asked c.in_ok-requests.requests.items ≡ asks =
    ap (map asked) (c.in_ok-requests.ensures.items_if_clones_equal (λ x y e. e)) in
    let count : length c.args.requests.now ≡ length (map asked c.in_ok-requests.requests.items) =
    sym (length-map c.args.requests.now asked) ∙ ap length (sym copied) in
    let sized : c.push.new.self.items ≡ length c.args.requests.now ∷ [] = search rules in
    record {
      batch_is =
          (λ k. record { sizes = sized k; requests = map asked c.in_ok-requests.requests.items })
          ∙ whole_is (length c.args.requests.now) (map asked c.in_ok-requests.requests.items) count
          ∙ ap (λ rs. batch_with (rs ∷ [])) copied;
      touched_is = is ∙ ap (map (touched_by names)) (sym copied);
    }
