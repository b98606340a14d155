use Rattle.static_rates.proofs.Choices.{actors_fire, actors_send, actors_take, actors_wait}
use Rattle.static_rates.proofs.laws.static_actors_keep_their_rates.Goals as goal

pub returns-clause-fire : goal.returns-clause-fire
returns-clause-fire c =
    actors_fire c.selection.ensures.fires c.selection.ensures.traps c.selection.ensures.waits c.actors_stay_in_their_states.ensures.tested c.ports_keep_tokens.ensures.as_many

pub returns-clause-wait : goal.returns-clause-wait
returns-clause-wait c = actors_wait c.selection.ensures.fires c.selection.ensures.traps c.selection.ensures.waits c.ports_keep_tokens.ensures.as_many

pub returns-clause-take : goal.returns-clause-take
returns-clause-take c = actors_take

pub returns-clause-send : goal.returns-clause-send
returns-clause-send c = actors_send c.sound_actors_are_lawful.ensures
