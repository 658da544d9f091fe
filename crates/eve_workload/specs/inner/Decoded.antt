-- Lines as the code has them, without where they lie in memory.
use Rattle.eve_grammar.specs.Trace.{Customer}
use Rattle.eve_grammar.specs.Bodies.{borrowed_asked}
use Rattle.eve_workload.specs.declared.line.CustomerFields.{CustomerFields}
use Rattle.eve_workload.specs.declared.line.Line as code
use Rattle.eve_workload.specs.declared.line.Line.TheVariants as of
use Rattle.eve_workload.specs.Lines.{Line, HeadLine, CustomerLine, BatchLine, RequestLine}

-- the customer that a line names
abbrev pub borrowed_customer : CustomerFields → Customer
borrowed_customer c = record { name = c.name.now; saving = c.saving; checking = c.checking }

-- what a line says
abbrev pub line_decoded : code.Line → Line
line_decoded (of.Head d) = HeadLine d
line_decoded (of.Customer c) = CustomerLine (borrowed_customer c)
line_decoded of.Batch = BatchLine
line_decoded (of.Request a) = RequestLine (borrowed_asked a)
