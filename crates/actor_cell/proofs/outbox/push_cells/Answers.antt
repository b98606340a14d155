use Rattle.std.proofs.Common.{◌≡◌, ◌∷◌, ◌++◌, [], subst, rules, FitsSigned}
use Rattle.std.proofs.lemmas.Int.{to_z-of_z}
use Rattle.rvc_base.specs.Width.{num_width}
use Rattle.actor_cell.proofs.Pushing.{has-room-for-one, pushed-one}
use Rattle.actor_cell.proofs.outbox.push_cells.Goals as goal

pub push-requires : goal.push-requires
push-requires c = has-room-for-one c.args.ring.now c.loop-k.ring c.args.cells.now.numbers c.args.first c.loop-k.k c.args.count c.loop-k.invariant c.loop-k-test.true c.requires.room

pub loop-k-preserved : goal.loop-k-preserved
loop-k-preserved c =
    let fits : FitsSigned num_width c.get.result = search rules in
    pushed-one c.args.ring.now c.loop-k.ring c.push.new.self c.args.cells.now.numbers c.args.first c.loop-k.k c.get.result c.loop-k.invariant c.get.ensures
    (subst (λ v. c.push.new.self ≡ record { tokens = c.loop-k.ring.tokens ++ v ∷ []; capacity = c.loop-k.ring.capacity }) (to_z-of_z num_width c.get.result fits) c.push.ensures)
