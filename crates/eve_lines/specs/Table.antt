-- What stands behind a label.
use Rattle.std.specs.Prelude.{ℕ, List, decimal}
use Rattle.std.specs.Fmt.{signed_decimal}
use Rattle.eve_lines.specs.declared.table.Value.{Value}
use Rattle.eve_lines.specs.declared.table.Value.TheVariants as value
use Rattle.eve_lines.specs.Words.{mode_words, name_words, reply_words, token_words}

-- a value
abbrev pub value_words : Value → List ℕ
value_words (value.Number number) = decimal number
value_words (value.Signed amount) = signed_decimal amount
value_words (value.Name name) = name_words name.now
value_words (value.Token token) = token_words token.now
value_words (value.Mode serial) = mode_words serial
value_words (value.Reply reply) = reply_words reply

-- the room that it takes at most
abbrev pub value_room : Value → ℕ
value_room (value.Number number) = 20
value_room (value.Signed amount) = 20
value_room (value.Name name) = 24
value_room (value.Token token) = 64
value_room (value.Mode serial) = 8
value_room (value.Reply reply) = 26
