use Rattle.std.proofs.Common.{◌≡◌, ◌∷◌, rules}
use Rattle.rvc_engine.proofs.Compiled.{one_compiled}
use Rattle.rvc_engine.proofs.compiling.compile_all.Goals as goal

pub actors-preserved : goal.actors-preserved
actors-preserved c =
    let opened : c.actors.rest.now ≡ c.in-Some.actor.now ∷ c.in-Some.others.now = search rules in
    one_compiled c.args.actors.now c.actors.rest.now c.in-Some.others.now c.in-Some.actor.now c.actors.all.items c.compile_next.new.all.items c.actors.invariant opened
    c.in-Ok.ensures
