-- What contracts see of the struct `Names`.
use Rattle.std.specs.Prelude.{map}
use Rattle.eve_accounts.specs.declared.names.Names.TheInside.{Inside}
use Rattle.eve_accounts.specs.Names.{NameList}

-- the names that the set holds, in its order, and the limit
abbrev pub name_list_of : Inside → NameList
name_list_of names = record { items = map (λ key. key.bytes.now) names.set.keys; limit = names.limit }
