use Rattle.eve_chains.proofs.RowFaults.{row_fault_stands, fault_on_row, all_rows_see, rows_apart}
use Rattle.eve_chains.proofs.Soundness.{settled_sound}
use Rattle.eve_chains.proofs.laws.rows_are_judged_by_themselves.Goals as goal

pub returns : goal.returns
returns c = record {
  stands = λ t e row f limits right fits wrong.
      row_fault_stands t e limits right (rows_apart t e limits right fits) row f wrong;
  found = λ t e f limits right fits fault.
      fault_on_row t e limits right (rows_apart t e limits right fits) f fault;
  sound = λ t e limits right fits each. settled_sound t e limits right fits
      (all_rows_see t e limits right (rows_apart t e limits right fits) each);
}
