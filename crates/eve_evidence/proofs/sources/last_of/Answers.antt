use Rattle.std.proofs.Common.{ℕ, List, subst}
use Rattle.std.specs.List.{AllByRecursion}
use Rattle.eve_grammar.specs.Trace.{Access}
use Rattle.eve_evidence.specs.Course.{placed_on}
use Rattle.eve_evidence.proofs.RecordLookups.{none_of, WritesNot}
use Rattle.eve_evidence.proofs.sources.last_of.Goals as goal

pub returns-then-not-may_write-clause-none : goal.returns-then-not-may_write-clause-none
returns-then-not-may_write-clause-none c =
    let a = (placed_on c.args.on.now).1 in
    none_of c.args.row a.seq _ a.certificate
    (subst (λ (xs : List (ℕ × Access)). AllByRecursion (WritesNot c.args.row) xs) c.requires
    (c.may_write.ensures c.if-not-may_write.true))
