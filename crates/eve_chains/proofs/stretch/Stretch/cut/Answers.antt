use Rattle.eve_chains.proofs.stretch.Stretch.cut.Goals as goal

pub returns : goal.returns
returns c = record { all = c.in_ok-append-2.ensures.reached }
