-- The set's index of a name is its number.
use Rattle.std.proofs.Common.{rules, ◌≡◌, sym, ◌∙◌}
use Rattle.eve_accounts.specs.Names.{customer_named}
use Rattle.eve_accounts.proofs.NameLemmas.{number_is_place, customer_named-keys, absent_from_index}
use Rattle.eve_accounts.proofs.names.Names.number.Goals as goal

is_number : (c : goal.After-map) → c.map.result ≡ customer_named c.args.self.now.items c.args.name.now
is_number c =
    let cast : c.map.result ≡ c.get_index_of.result = search rules in
    rw (← c.self.view_is) (cast ∙ c.get_index_of.ensures.index
    ∙ sym (customer_named-keys c.self.inside.set.keys c.args.name.now))

pub returns-clause-number : goal.returns-clause-number
returns-clause-number c = is_number c

pub returns-clause-place : goal.returns-clause-place
returns-clause-place c = number_is_place c.args.self.now.items c.args.name.now c.map.result
    (rw (← c.self.view_is) c.self.invariant.distinct) (is_number c)

pub returns-clause-absent : goal.returns-clause-absent
returns-clause-absent c =
    rw (← c.self.view_is) (absent_from_index c.self.inside.set.keys c.args.name.now c.map.result
    (c.map.ensures.variant ∙ c.get_index_of.ensures.found))
