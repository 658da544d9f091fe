-- Public: other crates cite these lemmas. Requests run one after another, and others after them.
use Rattle.std.proofs.Common.{◌≡◌, ◌-◌, List, [], ◌∷◌, ◌++◌, map}
use Rattle.std.proofs.Common.{refl, sym, ap, ◌∙◌}
use Rattle.std.proofs.lemmas.List.{map-append}
use Rattle.eve_smallbank.specs.declared.request.Reply.{Reply}
use Rattle.eve_smallbank.specs.SmallBank.{Bank, Request, run, does}
use Rattle.eve_smallbank.specs.Access.{Executed}
use Rattle.eve_chains.specs.Committed.{Leads}

pub run-append : (bank next last : Bank) (xs ys : List Request) (rs ss : List Reply) → run bank xs ≡ (next, rs)
    → run next ys ≡ (last, ss) → run bank (xs ++ ys) ≡ (last, rs ++ ss)
run-append bank next last [] ys rs ss e f =
    ap (λ (b : Bank). run b ys) (ap (λ (d : Bank × List Reply). d.0) e) ∙ f
    ∙ ap (λ (qs : List Reply). (last, qs ++ ss)) (ap (λ (d : Bank × List Reply). d.1) e)
run-append bank next last (x ∷ xs) ys rs ss e f =
    let first : Bank × Reply = does bank x in
    let rest = run-append first.0 (run first.0 xs).0 last xs ys (run first.0 xs).1 ss refl
    (ap (λ (d : Bank × List Reply). run d.0 ys) e ∙ f) in
    ap (λ (d : Bank × List Reply). (d.0, first.1 ∷ d.1)) rest ∙ ap (λ (d : Bank × List Reply). (last, d.1 ++ ss)) e

pub leads-append : (bank next last : Bank) (xs ys : List Executed) → Leads bank xs next → Leads next ys last
    → Leads bank (xs ++ ys) last
leads-append bank next last xs ys one other =
    ap (run bank) (map-append (λ (x : Executed). x.request) xs ys)
    ∙ run-append bank next last (map (λ x. x.request) xs) (map (λ x. x.request) ys) (map (λ x. x.reply) xs)
    (map (λ x. x.reply) ys) one other
    ∙ ap (λ (rs : List Reply). (last, rs)) (sym (map-append (λ (x : Executed). x.reply) xs ys))
