use Rattle.lower_tables.proofs.Behaving.{behaves}
use Rattle.lower_tables.proofs.laws.lowered_actors_behave_as_meant.Goals as goal

pub returns : goal.returns
returns c =
    λ actor p l numbers sound has holds guards bodies.
    behaves actor p l numbers sound has holds c.one_line.ensures.line c.ports_keep_tokens.ensures.in_type c.behaviour_is_the_firing_rule.ensures.stored
    c.actions_fire_or_trap.ensures.bodies guards bodies c.actors_stay_in_their_states.ensures.start
