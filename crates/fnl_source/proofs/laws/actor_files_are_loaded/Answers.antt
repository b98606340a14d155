use Rattle.fnl_source.proofs.ActorFiles.{files_are_loaded, files_are_sources}
use Rattle.fnl_source.proofs.laws.actor_files_are_loaded.Goals as goal

pub returns-clause-loaded : goal.returns-clause-loaded
returns-clause-loaded c = files_are_loaded

pub returns-clause-sources : goal.returns-clause-sources
returns-clause-sources c = files_are_sources
