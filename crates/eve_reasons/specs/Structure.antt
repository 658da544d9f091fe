-- What is wrong with a commit, a rollback or a state that was transferred. docs/USING.md, "What `explain` prints".
use Rattle.std.specs.Prelude.{ℕ, List, [], ◌∷◌, ◌++◌, codes}
use Rattle.eve_lines.specs.Words.{token_words}
use Rattle.eve_evidence.specs.declared.evidence.CommitFault.{CommitFault}
use Rattle.eve_evidence.specs.declared.evidence.CommitFault.TheVariants as commit
use Rattle.eve_evidence.specs.declared.evidence.RollbackFault.{RollbackFault}
use Rattle.eve_evidence.specs.declared.evidence.RollbackFault.TheVariants as rollback
use Rattle.eve_evidence.specs.declared.evidence.ToldTransfer.{ToldTransfer}
use Rattle.eve_evidence.specs.declared.evidence.TransferFault.{TransferFault}
use Rattle.eve_evidence.specs.declared.evidence.TransferFault.TheVariants as transfer
use Rattle.eve_reasons.specs.Shared.{numbers_lines, transfer_line}

abbrev pub commit_lines : CommitFault → List (List ℕ)
commit_lines (commit.Number is) = numbers_lines (codes "number") is (codes "due: ")
commit_lines commit.NoneOpen = codes "field: attempt" ∷ codes "found: none open" ∷ []
commit_lines (commit.View is) = numbers_lines (codes "view") is (codes "due: ")
commit_lines (commit.Token found due) =
    codes "field: token" ∷ (codes "found: " ++ token_words found.now) ∷ (codes "due: " ++ token_words due.now) ∷ []

abbrev pub rollback_lines : RollbackFault → List (List ℕ)
rollback_lines (rollback.To is) = numbers_lines (codes "to") is (codes "due: ")
rollback_lines (rollback.NothingLeft is) = numbers_lines (codes "to") is (codes "due: below ")
rollback_lines (rollback.View is) = numbers_lines (codes "view") is (codes "due: ")

abbrev pub transfer_fault_lines : TransferFault → List (List ℕ)
transfer_fault_lines (transfer.Number is) = numbers_lines (codes "number") is (codes "due: above ")
transfer_fault_lines (transfer.PastBatches is) = numbers_lines (codes "number") is (codes "due: at most ")
transfer_fault_lines (transfer.View is) = numbers_lines (codes "view") is (codes "due: at least ")

abbrev pub transfer_lines : ToldTransfer → TransferFault → List (List ℕ)
transfer_lines s wrong = transfer_line s ∷ transfer_fault_lines wrong
