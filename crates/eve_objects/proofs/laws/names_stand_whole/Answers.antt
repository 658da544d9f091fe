use Rattle.eve_objects.proofs.Names.{name_whole}
use Rattle.eve_objects.proofs.laws.names_stand_whole.Goals as goal

pub returns : goal.returns
returns c = name_whole
