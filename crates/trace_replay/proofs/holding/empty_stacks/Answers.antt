use Rattle.std.proofs.Common.{◌≡◌, ◌+◌, ◌≤◌, ℕ, length, refl, sym, subst, ◌∙◌, arith}
use Rattle.std.specs.Prelude.{slice_index_or}
use Rattle.rvc_base.specs.declared.scalar.Scalar.TheVariants.{Bool as Truth}
use Rattle.net_model.specs.declared.wiring.End.TheVariants.{Leaf as AtLeaf}
use Rattle.net_model.specs.declared.wiring.Link.{Link}
use Rattle.network_runner.proofs.Filling.{at_place}
use Rattle.trace_replay.proofs.Making.{AreMade, made_all, made_more}
use Rattle.trace_replay.proofs.holding.empty_stacks.Goals as goal

pub loop-l-preserved : goal.loop-l-preserved
loop-l-preserved c =
    let links = c.args.links.now in
    let d : Link = record { from = AtLeaf (record { 0 = 0 }) 0; to = AtLeaf (record { 0 = 0 }) 0; capacity = 0; kind = Truth } in
    let link : Link = slice_index_or links c.loop-l.l d in
    subst (AreMade (c.loop-l.l + 1) links) (sym c.in_ok-push.ensures.items)
    (made_more c.loop-l.l links c.loop-l.stacks.items link c.in_ok-stack.stack c.loop-l.invariant (at_place links c.loop-l.l d link c.loop-l-test.true refl) c.in_ok-stack.ensures.empty c.in_ok-stack.ensures.holds)

all_made : (l n : ℕ) → l ≤ n → n ≤ l → l ≡ n
all_made l n most high = omega (arith, most, high)

pub returns : goal.returns
returns c =
    let all : c.loop-l.l ≡ length c.args.links.now = all_made c.loop-l.l (length c.args.links.now) (omega (arith, c.loop-l.auto.l-end)) (omega (arith, c.loop-l-test.false)) in
    record {
      count = c.loop-l.invariant.count ∙ all;
      empty = c.loop-l.invariant.empty;
      rooms = made_all c.loop-l.l c.args.links.now c.loop-l.stacks.items c.loop-l.invariant (omega (arith, all));
    }
