use Rattle.std.proofs.Common.{FitsSigned, pos, to_z, of_z, ap, arith, rules}
use Rattle.std.specs.Prelude.{slice_index_or}
use Rattle.std.proofs.lemmas.Int.{to_z-of_z}
use Rattle.rvc_base.specs.Width.{num_width}
use Rattle.firing_slices.proofs.Accepting.{accepts-all, accepts-next, accepts-none, has-room}
use Rattle.firing_slices.proofs.FiringSlices.accept_all.Goals as goal

pub loop-token-init : goal.loop-token-init
loop-token-init g c = accepts-none (g.Self.Firing.cell c.args.self.now) c.args.port

pub accept-requires-clause-port : goal.accept-requires-clause-port
accept-requires-clause-port g c =
    let ins = ap (λ a. a.ins) c.loop-token.invariant.actor.same_actor in
    let low = c.requires.port in
    omega (arith, ins, low)

pub accept-requires-clause-below : goal.accept-requires-clause-below
accept-requires-clause-below g c =
    has-room (g.Self.Firing.cell c.args.self.now) (g.Self.Firing.cell c.loop-token.self) c.args.port c.args.tokens.now c.loop-token.token-index
    c.loop-token.invariant c.requires.port c.requires.room c.loop-token-test.true

pub loop-token-preserved : goal.loop-token-preserved
loop-token-preserved g c =
    let tokens = c.args.tokens.now in
    let i = c.loop-token.token-index in
    let token = slice_index_or tokens i (pos 0) in
    let fits : FitsSigned num_width token = search rules in
    accepts-next (g.Self.Firing.cell c.args.self.now) (g.Self.Firing.cell c.loop-token.self) (g.Self.Firing.cell c.accept.new.self) c.args.port tokens i (pos 0)
    (to_z num_width (of_z num_width token)) c.loop-token-test.true (to_z-of_z num_width token fits) c.loop-token.invariant c.accept.ensures.accepts

pub returns : goal.returns
returns g c = record {
  accepts = accepts-all (g.Self.Firing.cell c.args.self.now) (g.Self.Firing.cell c.loop-token.self) c.args.port c.args.tokens.now c.loop-token.token-index c.loop-token-test.false c.loop-token.invariant;
}
