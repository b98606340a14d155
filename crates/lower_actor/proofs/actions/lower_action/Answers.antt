use Rattle.std.proofs.Common.{◌≡◌, ◌∙◌, length, arith}
use Rattle.cal_model.specs.View.{actor_of}
use Rattle.lower_actor.specs.Coded.{AreSends}
use Rattle.lower_actor.proofs.Placed.{sends-are}
use Rattle.lower_actor.proofs.actions.lower_action.Goals as goal

pub returns-clause-coded : goal.returns-clause-coded
returns-clause-coded c = record {
  rates = record {
    needs_are = c.in_ok-from_slice.ensures.items ∙ c.deref-3.ensures.value ∙ c.requires.rates.needs_are;
    gives_are = c.in_ok-from_slice-2.ensures.items ∙ c.deref-4.ensures.value ∙ c.requires.rates.gives_are;
  };
  guards = c.in_ok-entries.ensures.guards;
  firsts = c.in_ok-entries.entries.firsts.items;
  fires = c.in_ok-entries.ensures.fires;
  inside = c.in_ok-entries.ensures.inside;
  sends =
      let count : c.len.result ≡ length c.args.b.now.outs.items = let e = c.len.ensures in omega (arith, e) in
      let sends : AreSends (actor_of c.args.b.now) c.args.action c.in_ok-entries.entries.firsts.items c.in_ok-sends.sends.items =
      sends-are c.args.b.now c.args.action c.from.result c.index.result.now c.from.ensures c.requires.action c.index.ensures
      c.deref.result.now c.in_ok-entries.entries.firsts.items c.deref-2.result.now c.in_ok-sends.sends.items c.len.result c.deref.ensures.value c.deref-2.ensures.value count c.in_ok-sends.ensures in
      sends;
}

pub returns-clause-cleared : goal.returns-clause-cleared
returns-clause-cleared c = λ wanted. record {
  guards = c.in_ok-entries.ensures.guards_cleared wanted;
  firsts = c.in_ok-entries.entries.firsts.items;
  firing = c.in_ok-entries.ensures.firing_cleared wanted;
  sends =
      let count : c.len.result ≡ length c.args.b.now.outs.items = let e = c.len.ensures in omega (arith, e) in
      let sends : AreSends (actor_of c.args.b.now) c.args.action c.in_ok-entries.entries.firsts.items c.in_ok-sends.sends.items =
      sends-are c.args.b.now c.args.action c.from.result c.index.result.now c.from.ensures c.requires.action c.index.ensures
      c.deref.result.now c.in_ok-entries.entries.firsts.items c.deref-2.result.now c.in_ok-sends.sends.items c.len.result c.deref.ensures.value c.deref-2.ensures.value count c.in_ok-sends.ensures in
      sends;
}
