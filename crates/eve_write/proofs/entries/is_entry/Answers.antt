use Rattle.std.proofs.Common.{rules}
use Rattle.eve_write.proofs.entries.is_entry.Goals as goal

pub returns-then-is_write : goal.returns-then-is_write
returns-then-is_write c = search rules

pub returns-else-is_write : goal.returns-else-is_write
returns-else-is_write c = search rules
