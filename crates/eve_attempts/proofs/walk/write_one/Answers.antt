use Rattle.std.proofs.Common.{◌∷◌, [], ◌++◌, Bool, cond, sym, ap, ◌∙◌, append-nil}
use Rattle.std.proofs.lemmas.Bool.{and_from}
use Rattle.eve_smallbank.specs.Access.{is_write}
use Rattle.eve_attempts.specs.Ledgers.{table_of_rows}
use Rattle.eve_attempts.proofs.TableLaws.{read_left}
use Rattle.eve_attempts.proofs.walk.write_one.Goals as goal

pub write-requires : goal.write-requires
write-requires c = and_from (is_write c.args.entry.now.kind) _ (sym c.is_write.ensures ∙ c.if-is_write.true)
    c.requires.entry

pub returns-then-is_write-clause-written : goal.returns-then-is_write-clause-written
returns-then-is_write-clause-written c =
    c.push_reserved.ensures.items ∙ ap (λ (b : Bool). c.args.written.now.items ++ cond b (c.args.entry.now ∷ []) [])
    (sym (sym c.is_write.ensures ∙ c.if-is_write.true))

pub returns-else-is_write-clause-written : goal.returns-else-is_write-clause-written
returns-else-is_write-clause-written c =
    sym (append-nil c.args.written.now.items)
    ∙ ap (λ (b : Bool). c.args.written.now.items ++ cond b (c.args.entry.now ∷ []) [])
    (sym (sym c.is_write.ensures ∙ c.if-is_write.false))

pub returns-else-is_write-clause-table : goal.returns-else-is_write-clause-table
returns-else-is_write-clause-table c = read_left (table_of_rows c.args.rows.now.rows) c.args.entry.now
    (sym c.is_write.ensures ∙ c.if-is_write.false)
