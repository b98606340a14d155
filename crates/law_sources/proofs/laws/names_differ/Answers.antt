use Rattle.law_sources.proofs.Scopes as scopes
use Rattle.law_sources.proofs.laws.names_differ.Goals as goal

pub returns : goal.returns
returns c = scopes.names_differ
