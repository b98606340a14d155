use Rattle.std.proofs.Common.{FitsSigned, rules, ◌≡◌, ◌≤◌, ℕ, to_z, of_z, arith, ap, sym, subst, refl, ◌∙◌, length}
use Rattle.std.specs.Prelude.{slice_get, slice_index_or}
use Rattle.std.proofs.lemmas.Int.{to_z-of_z}
use Rattle.rvc_base.specs.Width.{num_width}
use Rattle.net_state.specs.Filling.{IsInputLink}
use Rattle.net_state.specs.Held.{seen}
use Rattle.net_state.specs.TakingBack.{PutsBack}
use Rattle.net_state.proofs.Stacked.{none_of, puts_all, putting_back_more, putting_back_starts}
use Rattle.net_state.proofs.network.NetState.put_back_all.Goals as goal

all_put : (k n : ℕ) → k ≤ n → n ≤ k → k ≡ n
all_put k n most high = omega (arith, most, high)

pub take_back-token-requires : goal.take_back-token-requires
take_back-token-requires g c =
    let shorter = c.loop-k.invariant.0.shorter in
    omega (arith, shorter, c.loop-k-test.true, c.len-k-end.ensures.len)

pub put_back-requires : goal.put_back-requires
put_back-requires g c =
    let so_far = c.loop-k.invariant.0 in
    let more = so_far.more in
    let room = c.requires.room in
    let same : slice_index_or c.loop-k.self.capacities c.args.link.0 0 ≡ slice_index_or c.args.self.now.capacities c.args.link.0 0 = ap (λ cs. slice_index_or cs c.args.link.0 0) so_far.stays.capacities in
    record {
      input = subst (λ ls. IsInputLink (slice_get ls c.args.link.0)) (sym so_far.stays.links) c.requires.input;
      room = omega (arith, more, room, same, c.loop-k-test.true, c.len-k-end.ensures.len);
    }

pub loop-k-init : goal.loop-k-init
loop-k-init g c = (putting_back_starts c.args.link.0 c.args.stack.now.tokens (seen g.A.Firing.cell c.args.self.now), refl)

pub loop-k-preserved : goal.loop-k-preserved
loop-k-preserved g c =
    let fits : FitsSigned num_width c.take_back-token.result = search rules in
    let token : to_z num_width (of_z num_width c.take_back-token.result) ≡ c.take_back-token.result = to_z-of_z num_width c.take_back-token.result fits in (
      putting_back_more c.args.link.0 c.loop-k._k c.args.stack.now.tokens c.loop-k.stack.tokens c.take_back-token.new.self.tokens c.take_back-token.result (seen g.A.Firing.cell c.args.self.now)
          (seen g.A.Firing.cell c.loop-k.self) (seen g.A.Firing.cell c.put_back.new.self) c.loop-k.invariant.0
          (ap (λ q. q.tokens) c.take_back-token.ensures)
          (subst (λ v. PutsBack c.args.link.0 v (seen g.A.Firing.cell c.loop-k.self) (seen g.A.Firing.cell c.put_back.new.self)) token c.put_back.ensures.puts_back)
          c.put_back.ensures.one_more c.put_back.ensures.elsewhere
          (record {
            actors = c.put_back.ensures.same_actors;
            marks = c.put_back.ensures.same_marks;
            links = c.put_back.ensures.links;
            capacities = c.put_back.ensures.capacities;
            waited = c.put_back.ensures.waited;
          }),
      sym (ap (λ q. q.capacity) c.take_back-token.ensures) ∙ c.loop-k.invariant.1,
    )

pub returns : goal.returns
returns g c =
    let all : c.loop-k._k ≡ length c.args.stack.now.tokens = all_put c.loop-k._k (length c.args.stack.now.tokens) (omega (arith, c.loop-k.auto._k-end, c.len-k-end.ensures.len)) (omega (arith, c.loop-k-test.false, c.len-k-end.ensures.len)) in
    let put = c.loop-k.invariant.0 in
    let shorter = put.shorter in
    let more = put.more in
    record {
      puts_back = puts_all c.args.link.0 c.loop-k._k c.args.stack.now.tokens c.loop-k.stack.tokens (seen g.A.Firing.cell c.args.self.now) (seen g.A.Firing.cell c.loop-k.self) put.puts all;
      emptied = none_of c.loop-k.stack.tokens (omega (arith, shorter, all));
      as_much = c.loop-k.invariant.1;
      more = omega (arith, more, all);
      elsewhere = put.elsewhere;
      same_actors = put.stays.actors;
      same_marks = put.stays.marks;
      links = put.stays.links;
      capacities = put.stays.capacities;
      waited = put.stays.waited;
    }
