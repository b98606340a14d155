use Rattle.law_static.proofs.Behaviours.{sources_run, sources_start}
use Rattle.law_static.proofs.laws.source_periods_are_runs.Goals as goal

pub returns-clause-start : goal.returns-clause-start
returns-clause-start c net actors needs gives inputs of =
    sources_start c.static_actors_keep_their_rates.ensures.fire c.actors_stay_in_their_states.ensures.behaviour c.actors_stay_in_their_states.ensures.start c.sound_actors_are_lawful.ensures net actors needs gives of inputs

pub returns-clause-runs : goal.returns-clause-runs
returns-clause-runs c net actors needs gives firings order s wired of period rest enough =
    sources_run c.static_actors_keep_their_rates.ensures.fire c.actors_stay_in_their_states.ensures.behaviour c.actors_stay_in_their_states.ensures.start c.sound_actors_are_lawful.ensures net actors needs gives of firings order s wired period rest enough
