use Rattle.cal_model.specs.View.{actor_of}
use Rattle.lower_stmt.specs.Procedures.{routines_of}
use Rattle.lower_actor.proofs.Extending.{fires-from}
use Rattle.lower_actor.proofs.Inside.{firing-inside}
use Rattle.lower_actor.proofs.Placed.{firing-alone, firing-grown}
use Rattle.lower_actor.proofs.firings.put_plain.Goals as goal

pub returns-clause-puts : goal.returns-clause-puts
returns-clause-puts c = record {
  fires =
      fires-from (actor_of c.args.b.now) c.args.action (routines_of c.args.callees.now c.args.procedures.now) c.in_ok-firing.firing.firsts.items c.in_ok-firing.firing.entry c.args.draft.now c.lower_firing.new.draft
      c.requires.sound c.requires.served c.in_ok-firing.ensures.code.0 c.in_ok-firing.ensures.fired;
  bodies =
      firing-alone c.args.b.now c.args.action c.requires.action (routines_of c.args.callees.now c.args.procedures.now) c.in_ok-firing.firing.entry c.in_ok-firing.firing.firsts.items c.args.draft.now c.lower_firing.new.draft
      c.requires.sound c.requires.served c.in_ok-firing.ensures.code;
  inside =
      firing-inside (routines_of c.args.callees.now c.args.procedures.now) (actor_of c.args.b.now) c.args.action c.in_ok-firing.firing.entry c.in_ok-firing.firing.firsts.items c.args.draft.now c.lower_firing.new.draft
      c.in_ok-firing.ensures.code;
}

pub returns-clause-more : goal.returns-clause-more
returns-clause-more c =
    firing-grown c.args.b.now c.args.action c.requires.action (routines_of c.args.callees.now c.args.procedures.now) c.in_ok-firing.firing.entry c.in_ok-firing.firing.firsts.items c.args.draft.now c.lower_firing.new.draft
    c.in_ok-firing.ensures.code
