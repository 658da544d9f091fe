use Rattle.eve_views.proofs.trace.Trace.read.Goals as goal

pub index_of-requires-clause-says : goal.index_of-requires-clause-says
index_of-requires-clause-says c = c.in-Ok.ensures.says

pub of_index-requires-clause-header : goal.of_index-requires-clause-header
of_index-requires-clause-header c = c.in-Ok.ensures.header

pub of_index-requires-clause-found : goal.of_index-requires-clause-found
of_index-requires-clause-found c = c.index_of.ensures.found

pub of_index-requires-clause-fault : goal.of_index-requires-clause-fault
of_index-requires-clause-fault c = c.index_of.ensures.fault
