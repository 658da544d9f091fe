use Rattle.std.proofs.Common.{◌≡◌, ℕ, ◌+◌, ◌∷◌, sym, subst, ap, ◌∙◌, rules}
use Rattle.eve_grammar.specs.Trace.{Commit}
use Rattle.eve_attempts.specs.Ledgers.{Opened, Ledger, IsLedger}
use Rattle.eve_attempts.specs.CommitsAndRollbacks.{Commits}
use Rattle.eve_attempts.specs.HeldLedgers.{ledger_of}
use Rattle.eve_attempts.proofs.LedgerSteps.{opened_split, committed_next, ledger_next}
use Rattle.eve_attempts.proofs.ledger.Ledger.commit.Goals as goal

split : (c : goal.After-drop-first-inside) → c.self.inside.opened.items
    ≡ c.remove-first.result ∷ c.remove-first.new.self.items
split c = opened_split c.self.inside.opened.items c.remove-first.result c.remove-first.new.self.items
    (search rules) c.remove-first.ensures.value c.remove-first.ensures.items

pub invariant_of-self : goal.invariant_of-self
invariant_of-self c =
    let s : Ledger = ledger_of c.self.inside in
    subst (λ (n : ℕ). IsLedger (record s { opened = c.remove-first.new.self.items; committed = n }))
    (sym c.if-seq-self.false)
    (ledger_next s c.remove-first.result c.remove-first.new.self.items (split c) c.self.invariant)

pub returns-clause-committed : goal.returns-clause-committed
returns-clause-committed c =
    let s : Ledger = ledger_of c.self.inside in
    let others = c.remove-first.new.self.items in
    let first = c.remove-first.result in
    let new : Ledger = record s { opened = others; committed = c.args.seq } in
    let decoded : Commit = record { seq = c.args.seq; view = c.first.inside.view; token = c.first.inside.token } in
    subst (λ (o : Ledger). Commits o new decoded) c.self.view_is (record {
      first = first;
      others = others;
      opened = split c;
      commit = ap (λ (n : ℕ). record { seq = n; view = c.first.inside.view; token = c.first.inside.token })
          c.if-seq-self.false
          ∙ ap (λ (o : Opened). record { seq = s.committed + 1; view = o.view; token = o.token }) c.first.view_is;
      changed = ap (λ (n : ℕ). record s { opened = others; committed = n }) c.if-seq-self.false;
      committed = committed_next s first others (split c) c.self.invariant;
    })
