use Rattle.law_sources.proofs.ScopeScopes as scopes
use Rattle.law_sources.proofs.scope_laws.funs_are_scoped.Goals as goal

pub returns : goal.returns
returns c = scopes.funs_are_scoped
