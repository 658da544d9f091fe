use Rattle.eve_views.proofs.trace.Trace.read_side_by_side.Goals as goal

pub index_side_by_side-found-requires-clause-says : goal.index_side_by_side-found-requires-clause-says
index_side_by_side-found-requires-clause-says g c = λ _ _. c.in-Ok.ensures.says

pub of_index-requires-clause-header : goal.of_index-requires-clause-header
of_index-requires-clause-header g c = c.in-Ok.ensures.header

pub of_index-requires-clause-found : goal.of_index-requires-clause-found
of_index-requires-clause-found g c = c.index_side_by_side-found.ensures.found

pub of_index-requires-clause-fault : goal.of_index-requires-clause-fault
of_index-requires-clause-fault g c = c.index_side_by_side-found.ensures.fault
