use Rattle.std.proofs.Common.{◌≡◌, ◌++◌, ap, length, take, drop, sym, subst, ◌∙◌, arith}
use Rattle.net_state.specs.Held.{seen}
use Rattle.trace_replay.specs.Holding.{AreEmpty, FitStacks, rooms_of, tokens_of_stacks}
use Rattle.trace_replay.proofs.Behind.{empty_fit}
use Rattle.trace_replay.proofs.Chained.{written_back}
use Rattle.trace_replay.proofs.holding.put_back.Goals as goal

pub returns-clause-still_fit : goal.returns-clause-still_fit
returns-clause-still_fit g c =
    let taken = c.args.taken.now in
    let old = seen g.A.Firing.cell c.args.state.now in
    let new = seen g.A.Firing.cell c.put_back_each.new.state in
    let keeps = c.put_back_each.ensures.puts.keeps in
    let len : length c.put_back_each.new.stacks ≡ taken.stacks.len = omega (arith, c.put_back_each.auto.stacks, c.deref_mut.ensures.len) in
    let back : take taken.stacks.len (c.put_back_each.new.stacks ++ drop (length c.put_back_each.new.stacks) taken.stacks.items) ≡ c.put_back_each.new.stacks = written_back taken.stacks.items c.put_back_each.new.stacks taken.stacks.len len in
    let put_len : length c.put_back_each.new.put ≡ taken.put.len = omega (arith, c.put_back_each.auto.put, c.deref_mut-2.ensures.len) in
    let put_back : take taken.put.len (c.put_back_each.new.put ++ drop (length c.put_back_each.new.put) taken.put.items) ≡ c.put_back_each.new.put = written_back taken.put.items c.put_back_each.new.put taken.put.len put_len in
    record {
      stacks = subst (FitStacks new) (sym back)
          (empty_fit old new taken.stacks.items c.put_back_each.new.stacks keeps.links keeps.capacities (c.put_back_each.ensures.as_much ∙ ap rooms_of c.deref_mut.ensures.value) c.put_back_each.ensures.emptied c.requires.fit.stacks);
      put = ap (λ ns. length ns) put_back ∙ (c.put_back_each.auto.put ∙ (ap (λ ns. length ns) c.deref_mut-2.ensures.value ∙ (c.requires.fit.put ∙ sym (ap (λ ls. length ls) keeps.links))));
      none = λ any. subst (λ qs. AreEmpty (tokens_of_stacks qs)) (sym back) c.put_back_each.ensures.emptied;
    }
