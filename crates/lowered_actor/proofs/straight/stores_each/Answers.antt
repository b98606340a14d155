use Rattle.std.proofs.Common.{◌≡◌, ◌+◌, ℕ, subst, true, arith}
use Rattle.lowered_actor.specs.Actor.{actor_of}
use Rattle.lowered_actor.specs.Straight.{body_at, stores}
use Rattle.lowered_actor.proofs.Loops.{stores-one-more}
use Rattle.lowered_actor.proofs.straight.stores_each.Goals as goal

pub loop-k-preserved : goal.loop-k-preserved
loop-k-preserved c = λ more.
    c.loop-k.invariant (stores-one-more c.args.cell c.args.n c.loop-k.k (body_at (actor_of c.args.parts.now) c.args.entry)
    (let end = c.from-k-end.ensures in let low = c.loop-k-test.true in omega (arith, end, low))
    (subst (λ (n : ℕ). stores (n + c.loop-k.k) (body_at (actor_of c.args.parts.now) c.args.entry) ≡ true) c.from.ensures (c.stores.ensures c.if-not-stores.false)) more)
