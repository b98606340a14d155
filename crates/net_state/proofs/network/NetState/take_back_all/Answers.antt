use Rattle.std.proofs.Common.{FitsSigned, rules, ◌≡◌, ◌≤◌, ◌+◌, ◌++◌, ◌∷◌, [], ℕ, arith, ap, sym, subst, refl, ◌∙◌}
use Rattle.std.specs.Prelude.{slice_get}
use Rattle.std.proofs.lemmas.Int.{to_z-of_z}
use Rattle.rvc_base.specs.Width.{num_width}
use Rattle.net_state.specs.Filling.{IsInputLink}
use Rattle.net_state.specs.Held.{seen}
use Rattle.net_state.proofs.Stacked.{IsTakingBack, taking_back_more, taking_back_starts}
use Rattle.net_state.proofs.network.NetState.take_back_all.Goals as goal

all_taken : (k n : ℕ) → k ≤ n → n ≤ k → k ≡ n
all_taken k n most high = omega (arith, most, high)

pub take_back-token-requires : goal.take_back-token-requires
take_back-token-requires g c =
    let so_far = c.loop-k.invariant.0 in
    let few = so_far.less in
    let some = c.requires.some in
    record {
      input = subst (λ ls. IsInputLink (slice_get ls c.args.link.0)) (sym so_far.stays.links) c.requires.input;
      some = omega (arith, few, some, c.loop-k-test.true);
    }

pub push-requires : goal.push-requires
push-requires g c =
    let longer = c.loop-k.invariant.0.longer in
    let room = c.requires.room in
    let same = c.loop-k.invariant.1 in
    omega (arith, longer, room, same, c.loop-k-test.true)

pub loop-k-init : goal.loop-k-init
loop-k-init g c = (taking_back_starts c.args.link.0 c.args.stack.now.tokens (seen g.A.Firing.cell c.args.self.now), refl)

pub loop-k-preserved : goal.loop-k-preserved
loop-k-preserved g c =
    let fits : FitsSigned num_width c.take_back-token.result = search rules in
    let more = taking_back_more c.args.link.0 c.loop-k._k c.args.stack.now.tokens c.loop-k.stack.tokens c.take_back-token.result (seen g.A.Firing.cell c.args.self.now) (seen g.A.Firing.cell c.loop-k.self)
    (seen g.A.Firing.cell c.take_back-token.new.self) c.loop-k.invariant.0 c.take_back-token.ensures.takes_back c.take_back-token.ensures.one_less c.take_back-token.ensures.elsewhere c.take_back-token.ensures.rests
    (record {
      actors = c.take_back-token.ensures.same_actors;
      marks = c.take_back-token.ensures.same_marks;
      links = c.take_back-token.ensures.links;
      capacities = c.take_back-token.ensures.capacities;
      waited = c.take_back-token.ensures.waited;
    }) in (
      subst (λ ts. IsTakingBack c.args.link.0 (c.loop-k._k + 1) c.args.stack.now.tokens ts (seen g.A.Firing.cell c.args.self.now) (seen g.A.Firing.cell c.take_back-token.new.self))
          (ap (λ v. c.loop-k.stack.tokens ++ v ∷ []) (sym (to_z-of_z num_width c.take_back-token.result fits)) ∙ sym (ap (λ q. q.tokens) c.push.ensures)) more,
      ap (λ q. q.capacity) c.push.ensures ∙ c.loop-k.invariant.1,
    )

pub returns : goal.returns
returns g c =
    let all : c.loop-k._k ≡ c.args.count = all_taken c.loop-k._k c.args.count (omega (arith, c.loop-k.auto._k-end)) c.loop-k-test.false in
    let taken = subst (λ n. IsTakingBack c.args.link.0 n c.args.stack.now.tokens c.loop-k.stack.tokens (seen g.A.Firing.cell c.args.self.now) (seen g.A.Firing.cell c.loop-k.self)) all c.loop-k.invariant.0 in
    record {
      takes_back = taken.takes;
      longer = taken.longer;
      as_much = c.loop-k.invariant.1;
      less = taken.less;
      elsewhere = taken.elsewhere;
      rests = taken.rests;
      same_actors = taken.stays.actors;
      same_marks = taken.stays.marks;
      links = taken.stays.links;
      capacities = taken.stays.capacities;
      waited = taken.stays.waited;
    }
