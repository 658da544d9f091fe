-- The exit statuses of faults, and where faults come from. docs/USING.md, "Lines and statuses".
use Rattle.std.specs.Prelude.{ℕ, List, ◌++◌, codes, decimal}
use Rattle.eve_streams.specs.declared.reading.ReadFault.{ReadFault}
use Rattle.eve_streams.specs.declared.reading.ReadFault.TheVariants as why
use Rattle.eve_replica.specs.declared.fault.RunFault.{RunFault}
use Rattle.eve_replica.specs.declared.fault.RunFault.TheVariants as run
use Rattle.eve_workload.specs.declared.fault.WorkloadFault.{WorkloadFault}
use Rattle.eve_workload.specs.declared.fault.WorkloadFault.TheVariants as workload
use Rattle.eve_tool.specs.declared.fault.ToolFault.{ToolFault}
use Rattle.eve_tool.specs.declared.fault.ToolFault.TheVariants as fault

-- the exit status: 2 where the input is at fault, 3 where the machine is
abbrev pub status_of : ToolFault → ℕ
status_of fault.Read = 2
status_of (fault.Line number) = 2
status_of fault.TooLong = 2
status_of fault.Broken = 3
status_of fault.Write = 3
status_of fault.Random = 3
status_of fault.Memory = 3

-- what a source that was not read comes to
abbrev pub fault_of_read : ReadFault → ToolFault
fault_of_read why.Read = fault.Read
fault_of_read why.Memory = fault.Memory

-- what a workload that was not read comes to
abbrev pub fault_of_workload : WorkloadFault → ToolFault
fault_of_workload (workload.Line number) = fault.Line number
fault_of_workload workload.Memory = fault.Memory

-- what a workload that was not run comes to
abbrev pub fault_of_run : RunFault → ToolFault
fault_of_run run.Memory = fault.Memory
fault_of_run run.Broken = fault.Broken
fault_of_run run.TooLong = fault.TooLong

-- what is said of a fault
abbrev pub fault_text : ToolFault → List ℕ
fault_text fault.Read = codes "cannot read input"
fault_text (fault.Line number) = codes "workload line " ++ decimal number
fault_text fault.TooLong = codes "too long"
fault_text fault.Broken = codes "run broken"
fault_text fault.Write = codes "cannot write output"
fault_text fault.Random = codes "no random source"
fault_text fault.Memory = codes "out of memory"

-- the line of a fault on the error stream
abbrev pub error_line : ToolFault → List ℕ
error_line why = codes "eve: " ++ (fault_text why ++ codes "\n")
