use Rattle.net_cells.proofs.Answered.{answers_are_networks, sources_are_networks}
use Rattle.net_cells.proofs.SourceLaws.{are_alike, are_lawful, can_be_wired, cells_begin_alike, cells_can_run, cells_run_as_sources, lines_alike, same_paced_lines, texts_are_alike}
use Rattle.net_cells.proofs.laws.cells_run_as_sources.Goals as goal

pub returns-clause-networks : goal.returns-clause-networks
returns-clause-networks c =
    answers_are_networks c.types_are_kept.ensures.allowed c.one_network.ensures.actor c.answers_are_the_source_network.ensures.heads c.answers_are_the_source_network.ensures.whole

pub returns-clause-sources : goal.returns-clause-sources
returns-clause-sources c =
    sources_are_networks c.types_are_kept.ensures.allowed c.one_network.ensures.actor c.answers_are_the_source_network.ensures.lone c.bound_trees_are_sound.ensures.sound

pub returns-clause-lawful : goal.returns-clause-lawful
returns-clause-lawful c = are_lawful c.sound_actors_are_lawful.ensures

pub returns-clause-wired : goal.returns-clause-wired
returns-clause-wired c = can_be_wired

pub returns-clause-alike : goal.returns-clause-alike
returns-clause-alike c = are_alike

pub returns-clause-lines : goal.returns-clause-lines
returns-clause-lines c = lines_alike

pub returns-clause-texts : goal.returns-clause-texts
returns-clause-texts c = texts_are_alike

pub returns-clause-can_run : goal.returns-clause-can_run
returns-clause-can_run c = cells_can_run

pub returns-clause-begin : goal.returns-clause-begin
returns-clause-begin c = cells_begin_alike

pub returns-clause-paced : goal.returns-clause-paced
returns-clause-paced c = same_paced_lines

pub returns-clause-runs : goal.returns-clause-runs
returns-clause-runs c = cells_run_as_sources
