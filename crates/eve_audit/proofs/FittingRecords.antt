-- Whether a record fits its request can be decided: it does where it is what the request makes of what its entries saw.
use Rattle.std.proofs.Common.{◌≡◌, ℕ, List, inl, inr, sym, ap, subst}
use Rattle.eve_smallbank.specs.SmallBank.{Request}
use Rattle.eve_smallbank.specs.Access.{Executed, Fits}
use Rattle.eve_smallbank.specs.Chain.{Table}
use Rattle.eve_smallbank.specs.Execution.{executed_on}
use Rattle.eve_smallbank.specs.inner.Seen.{as_seen}
use Rattle.eve_audit.proofs.Decidability.{Decided, decided_both, replies, entry_lists}

module _ (fit : (names : List (List ℕ)) (table : Table) (request : Request)
    → Fits names (executed_on names table request))
    (only : (names : List (List ℕ)) (x : Executed) → Fits names x
    → x ≡ executed_on names (as_seen x.entries) x.request) where
  pub fits_decided : (names : List (List ℕ)) (x : Executed) → Decided (Fits names x)
  fits_decided names x =
      elim (decided_both (replies x.reply made.reply) (entry_lists x.entries made.entries)) [
        | inl same ↦ inl (subst (Fits names) (sym (made_same same.0 same.1)) (fit names (as_seen x.entries) x.request))
        | inr other ↦ inr (λ fits.
            let is = only names x fits in
            other (ap (λ (y : Executed). y.reply) is, ap (λ (y : Executed). y.entries) is))
      ]
    where
      made : Executed
      made = executed_on names (as_seen x.entries) x.request

      made_same : x.reply ≡ made.reply → x.entries ≡ made.entries → x ≡ executed_on names (as_seen x.entries) x.request
      made_same reply entries = λ i. record { request = x.request; reply = reply i; entries = entries i }
