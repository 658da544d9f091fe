use Rattle.std.proofs.Common.{◌≡◌, ℕ, ◌-◌, List, length, get_or, take, drop, sym, ap, ◌∙◌, rules}
use Rattle.std.proofs.lemmas.Bool.{eq-eqb, eqb-true}
use Rattle.std.proofs.lemmas.List.{take_rest}
use Rattle.byteorder.specs.Endian.{big_number}
use Rattle.eve_grammar.specs.Places.{IsBytes}
use Rattle.eve_agree.proofs.SpelledReplies.{nine_same}
use Rattle.eve_agree.proofs.batch_request_ids.is_same_text.Goals as goal

pub returns-then-own-its : goal.returns-then-own-its
returns-then-own-its c =
    let own = c.args.own.now in
    let its = c.args.its.now in
    let own_bytes : IsBytes own = search rules in
    let its_bytes : IsBytes its = search rules in
    let first : get_or own 0 0 ≡ get_or its 0 0 = search rules in (
      λ same. nine_same own its own_bytes its_bytes c.requires.own c.requires.its first
          (ap (big_number 8) (sym (take_rest own 1)) ∙ sym c.read_u64.ensures ∙ eqb-true _ _ same
          ∙ c.read_u64-then-own-its.ensures ∙ ap (big_number 8) (take_rest its 1)),
      λ same.
          let e : c.read_u64.result ≡ c.read_u64-then-own-its.result = c.read_u64.ensures
          ∙ ap (λ (xs : List ℕ). big_number 8 (take (length xs - 1) (drop 1 xs))) same
          ∙ sym c.read_u64-then-own-its.ensures in
          eq-eqb _ _ e,
    )
