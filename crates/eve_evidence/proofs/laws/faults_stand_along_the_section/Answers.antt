use Rattle.eve_evidence.proofs.StandingFaults.{structure_along, records_along, chains_along}
use Rattle.eve_evidence.proofs.laws.faults_stand_along_the_section.Goals as goal

pub returns : goal.returns
returns c = record { structure = structure_along; records = records_along; chains = chains_along }
