-- How money and replies are spelled in bytes. All numbers are big-endian. docs/TRACE.md, "Parts".
use Rattle.std.specs.Prelude.{ℕ, ℤ, pos, List, ◌∷◌}
use Rattle.std.specs.Int.{w64, cast_unsigned}
use Rattle.byteorder.specs.Endian.{big_bytes}
use Rattle.eve_smallbank.specs.declared.request.Abort.{Abort}
use Rattle.eve_smallbank.specs.declared.request.Abort.TheVariants.{NoSuchName, BadAmount, Insufficient, OutOfRange}
use Rattle.eve_smallbank.specs.declared.request.Reply.{Reply}
use Rattle.eve_smallbank.specs.declared.request.Reply.TheVariants.{Done, Total, Aborted}

-- eight bytes, two's complement
abbrev pub money_text : ℤ → List ℕ
money_text z = big_bytes 8 (cast_unsigned w64 z)

-- the number of an abort
abbrev pub abort_code : Abort → ℕ
abort_code NoSuchName = 2
abort_code BadAmount = 3
abort_code Insufficient = 4
abort_code OutOfRange = 5

-- nine bytes: a code and a value, which is 0 except for a total
abbrev pub reply_text : Reply → List ℕ
reply_text Done = 0 ∷ money_text (pos 0)
reply_text (Total sum) = 1 ∷ money_text sum
reply_text (Aborted why) = abort_code why ∷ money_text (pos 0)
