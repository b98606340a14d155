use Rattle.std.proofs.Common.{◌≡◌, true, false, length, min, subst, sym, ap, ◌∙◌, arith}
use Rattle.net_model.specs.Network.{is_input}
use Rattle.net_state.specs.Filling.{IsInputLink}
use Rattle.net_state.specs.Held.{seen}
use Rattle.net_state.specs.TakingBack.{waits_on}
use Rattle.trace_replay.proofs.Stacks.{takes_nothing, takes_stack}
use Rattle.trace_replay.proofs.holding.take_back_one.Goals as goal

pub returns-then-not-is_input-clause-takes : goal.returns-then-not-is_input-clause-takes
returns-then-not-is_input-clause-takes g c =
    let inner : is_input c.args.link.now ≡ false = sym c.is_input.ensures ∙ c.if-not-is_input.true in
    takes_nothing c.args.id.0 c.args.tokens c.args.link.now c.args.stack.now.tokens (seen g.A.Firing.cell c.args.state.now) inner

pub take_back_all-requires : goal.take_back_all-requires
take_back_all-requires g c =
    let input : is_input c.args.link.now ≡ true = sym c.is_input.ensures ∙ c.if-not-is_input.false in
    let none : length c.args.stack.now.tokens ≡ 0 = ap (λ ts. length ts) c.requires.empty in
    let holds = c.requires.holds input in
    record {
      input = subst IsInputLink (sym c.requires.there) input;
      some = omega (arith, c.min-count.ensures, c.waiting.ensures.count);
      room = omega (arith, c.min-count.ensures, c.waiting.ensures.within, none, holds);
    }

pub returns-clause-takes : goal.returns-clause-takes
returns-clause-takes g c =
    let input : is_input c.args.link.now ≡ true = sym c.is_input.ensures ∙ c.if-not-is_input.false in
    let least : c.min-count.result ≡ min c.args.tokens (waits_on (seen g.A.Firing.cell c.args.state.now) c.args.id.0) = c.min-count.ensures ∙ ap (min c.args.tokens) c.waiting.ensures.count in
    takes_stack c.args.id.0 c.args.tokens c.min-count.result c.args.link.now c.args.stack.now.tokens c.take_back_all.new.stack.tokens
    (seen g.A.Firing.cell c.args.state.now) (seen g.A.Firing.cell c.take_back_all.new.self) c.requires.empty input least c.take_back_all.ensures.takes_back c.take_back_all.ensures.rests c.take_back_all.ensures.elsewhere
    (record {
      actors = c.take_back_all.ensures.same_actors;
      marks = c.take_back_all.ensures.same_marks;
      links = c.take_back_all.ensures.links;
      capacities = c.take_back_all.ensures.capacities;
      waited = c.take_back_all.ensures.waited;
    })
