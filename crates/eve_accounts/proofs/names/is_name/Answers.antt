use Rattle.std.proofs.Common.{rules}
use Rattle.eve_accounts.proofs.names.is_name.Goals as goal

pub returns-else-bytes-le-MOST_NAME_BYTES : goal.returns-else-bytes-le-MOST_NAME_BYTES
returns-else-bytes-le-MOST_NAME_BYTES c = search rules
