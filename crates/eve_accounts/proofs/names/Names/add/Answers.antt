-- Each fault of `add`, and that the names stay a list of customers, from what the set answered.
use Rattle.std.proofs.Common.{rules, ◌≡◌, ℕ, length, Contains, Bool, true, false, not, List, refl, sym, ◌∙◌}
use Rattle.std.proofs.lemmas.Bool.{not-true, not-false}
use Rattle.std.proofs.lemmas.List.{length-map}
use Rattle.eve_accounts.specs.declared.name_key.NameKey.{NameKey}
use Rattle.eve_accounts.specs.declared.names.NameFault.TheVariants as fault
use Rattle.eve_accounts.specs.Names.{is_name, CanTake}
use Rattle.eve_accounts.proofs.NameLemmas.{text, is_key, Contains-keys, absent_from_keys, CanTake-from_set}
use Rattle.eve_accounts.proofs.NameLemmas.{IsNameList-inserted, tells_fault, tells_number}
use Rattle.std.specs.List.{list_any}
use Rattle.eve_accounts.proofs.names.Names.add.Goals as goal

pub returns-then-not-is_name : goal.returns-then-not-is_name
returns-then-not-is_name c =
    let unnamed : is_name c.args.name.now ≡ false = sym c.is_name.ensures ∙ c.if-not-is_name.true in
    let why = tells_fault c.args.self.now c.args.name.now fault.BadName unnamed in record {
      added = tt;
      number = tt;
      small = tt;
      taken = tt;
      bad_name = why.bad_name;
      same_name = why.same_name;
      full = why.full;
      memory = why.memory;
      refused = refl;
    }

pub returns-then-contains : goal.returns-then-contains
returns-then-contains c =
    let named : is_name c.args.name.now ≡ true = sym c.is_name.ensures ∙ c.if-not-is_name.false in
    let there : Contains c.args.self.now.items c.args.name.now =
    rw (← c.self.view_is) (Contains-keys c.self.inside.set.keys c.args.name.now
    (sym c.contains.ensures ∙ c.if-contains.true)) in
    let why = tells_fault c.args.self.now c.args.name.now fault.SameName (named, there) in record {
      added = tt;
      number = tt;
      small = tt;
      taken = tt;
      bad_name = why.bad_name;
      same_name = why.same_name;
      full = why.full;
      memory = why.memory;
      refused = refl;
    }

pub returns-then-number-self : goal.returns-then-number-self
returns-then-number-self c =
    let named : is_name c.args.name.now ≡ true = sym c.is_name.ensures ∙ c.if-not-is_name.false in
    let absent : ¬ Contains c.args.self.now.items c.args.name.now =
    rw (← c.self.view_is) (absent_from_keys c.self.inside.set.keys c.args.name.now
    (sym c.contains.ensures ∙ c.if-contains.false)) in
    let full : length c.args.self.now.items ≡ c.args.self.now.limit =
    rw (← c.self.view_is) (length-map c.self.inside.set.keys text ∙ sym c.len-number.ensures.len
    ∙ c.if-number-self.true) in
    let why = tells_fault c.args.self.now c.args.name.now fault.Full (named, absent, full) in record {
      added = tt;
      number = tt;
      small = tt;
      taken = tt;
      bad_name = why.bad_name;
      same_name = why.same_name;
      full = why.full;
      memory = why.memory;
      refused = refl;
    }

pub returns-in_default : goal.returns-in_default
returns-in_default c =
    let named : is_name c.args.name.now ≡ true = sym c.is_name.ensures ∙ c.if-not-is_name.false in
    let can : CanTake c.args.self.now c.args.name.now =
    rw (← c.self.view_is)
    (CanTake-from_set c.self.inside.set.keys c.self.inside.limit c.args.name.now c.self.invariant named
    c.in_default.ensures.absent (λ full. c.if-number-self.false (c.len-number.ensures.len ∙ full))) in
    let why = tells_fault c.args.self.now c.args.name.now fault.Memory can in record {
      added = tt;
      number = tt;
      small = tt;
      taken = tt;
      bad_name = why.bad_name;
      same_name = why.same_name;
      full = why.full;
      memory = why.memory;
      refused = search rules;
    }

pub returns-then-not-is_new : goal.returns-then-not-is_new
returns-then-not-is_new c =
    let named : is_name c.args.name.now ≡ true = sym c.is_name.ensures ∙ c.if-not-is_name.false in
    let there : Contains c.args.self.now.items c.args.name.now =
    rw (← c.self.view_is) (Contains-keys c.self.inside.set.keys c.args.name.now
    (not-false _ (sym c.in-Ok.ensures.added ∙ c.if-not-is_new.true))) in
    let why = tells_fault c.args.self.now c.args.name.now fault.SameName (named, there) in record {
      added = tt;
      number = tt;
      small = tt;
      taken = tt;
      bad_name = why.bad_name;
      same_name = why.same_name;
      full = why.full;
      memory = why.memory;
      refused = search rules;
    }

-- a name that the set took was none of its keys
absent_before : (keys : List NameKey) (name : List ℕ) (is_new : Bool) → is_new ≡ not (list_any (is_key name) keys)
    → is_new ≡ true → list_any (is_key name) keys ≡ false
absent_before keys name is_new added new = not-true _ (sym added ∙ new)

can_take : (c : goal.Else-not-is_new) → CanTake c.args.self.now c.args.name.now
can_take c =
    let named : is_name c.args.name.now ≡ true = sym c.is_name.ensures ∙ c.if-not-is_name.false in
    rw (← c.self.view_is) (CanTake-from_set c.self.inside.set.keys c.self.inside.limit c.args.name.now c.self.invariant
    named (absent_before c.self.inside.set.keys c.args.name.now c.in-Ok.is_new c.in-Ok.ensures.added
    c.if-not-is_new.false) (λ full. c.if-number-self.false (c.len-number.ensures.len ∙ full)))

pub returns-clause-taken : goal.returns-clause-taken
returns-clause-taken c = can_take c

pub returns-clause-bad_name : goal.returns-clause-bad_name
returns-clause-bad_name c = (tells_number c.args.self.now c.args.name.now _ (can_take c)).bad_name

pub returns-clause-same_name : goal.returns-clause-same_name
returns-clause-same_name c = (tells_number c.args.self.now c.args.name.now _ (can_take c)).same_name

pub returns-clause-full : goal.returns-clause-full
returns-clause-full c = (tells_number c.args.self.now c.args.name.now _ (can_take c)).full

pub returns-clause-memory : goal.returns-clause-memory
returns-clause-memory c = (tells_number c.args.self.now c.args.name.now _ (can_take c)).memory

pub invariant_of-self-2 : goal.invariant_of-self-2
invariant_of-self-2 c =
    let named : is_name c.args.name.now ≡ true = sym c.is_name.ensures ∙ c.if-not-is_name.false in
    let absent = absent_before c.self.inside.set.keys c.args.name.now c.in-Ok.is_new c.in-Ok.ensures.added
    c.if-not-is_new.false in
    let can = CanTake-from_set c.self.inside.set.keys c.self.inside.limit c.args.name.now c.self.invariant named absent
    (λ full. c.if-number-self.false (c.len-number.ensures.len ∙ full)) in
    IsNameList-inserted c.self.inside.set.keys c.insert.new.self.keys (record { bytes = c.args.name })
    c.self.inside.limit c.self.invariant can absent c.in-Ok.ensures.keys
