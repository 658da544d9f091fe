use Rattle.std.proofs.Common.{ℕ, subst, sym, ◌∙◌, ap}
use Rattle.eve_views.specs.Form.{IfFound, IsLeast, HasNone, IsFaultIn}
use Rattle.eve_chains.specs.CommittedValues.{settling}
use Rattle.eve_audit.specs.Verdict.{IsOwnFault}
use Rattle.eve_audit.specs.Reports.{IsFirstOf, IsSoundBeforeTokens}
use Rattle.eve_audit.proofs.FirstFaults.{found_weaker, structure_first}
use Rattle.eve_audit.proofs.ToldReplicas.{replica_told, section_history_by_its_own}
use Rattle.eve_history.specs.Structure.{StandsInStructure}
use Rattle.eve_audit.proofs.replicas.report_before_tokens.Goals as goal

pub returns-in-Err-clause-first : goal.returns-in-Err-clause-first
returns-in-Err-clause-first g c =
    let t = c.args.named.now.trace in
    found_weaker (IsLeast (IsFaultIn StandsInStructure t c.args.e)) (IsFirstOf (IsOwnFault t c.args.e)) c.in-Err.why
    (structure_first t c.args.e) c.in-Err.ensures.least

pub settled_of-requires-clause-history : goal.settled_of-requires-clause-history
settled_of-requires-clause-history g c κs within = section_history_by_its_own c.args.named.now.trace c.args.e
    c.in-Ok.history c.in-Ok.ensures.section_history

pub settled_of-requires-clause-none : goal.settled_of-requires-clause-none
settled_of-requires-clause-none g c κs within =
    subst (λ (k : ℕ). HasNone (IsFaultIn StandsInStructure c.args.named.now.trace k))
    (sym (replica_told c.args.named.now.trace c.args.e c.in-Ok.history c.in-Ok.ensures.section_history))
    c.in-Ok.ensures.none

pub returns-in-Ok-settled_of-clause-report : goal.returns-in-Ok-settled_of-clause-report
returns-in-Ok-settled_of-clause-report g c =
    let t = c.args.named.now.trace in
    let is = replica_told t c.args.e c.in-Ok.history c.in-Ok.ensures.section_history in
    record {
      history = c.in-Ok.ensures.section_history;
      settled = c.in-Ok-settled_of.ensures.settled ∙ ap (settling t) is;
      sound = subst (IsSoundBeforeTokens t) is c.in-Ok-settled_of.ensures.sound;
    }

pub returns-clause-first : goal.returns-clause-first
returns-clause-first g c =
    subst (λ (k : ℕ). IfFound c.in-Err-settled_of.why (IsFirstOf (IsOwnFault c.args.named.now.trace k)))
    (replica_told c.args.named.now.trace c.args.e c.in-Ok.history c.in-Ok.ensures.section_history)
    c.in-Err-settled_of.ensures.first
