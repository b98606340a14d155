use Rattle.std.proofs.Common.{refl}
use Rattle.lowered_actor.specs.Actor.{actor_of as parts_view}
use Rattle.lower_actor.proofs.actor.lower_cleared.Goals as goal

pub of_parts-requires-clause-right : goal.of_parts-requires-clause-right
of_parts-requires-clause-right c = c.standing_bodies_are_right.ensures (parts_view c.in_ok-parts.parts) (c.in_ok-parts.ensures.stand refl)
