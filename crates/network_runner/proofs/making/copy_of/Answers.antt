use Rattle.std.proofs.Common.{◌+◌, [], ◌∷◌, ◌++◌, map, take, subst, sym, ap, refl, ◌≡◌, ◌∙◌}
use Rattle.std.specs.Prelude.{slice_index_or}
use Rattle.rvc_base.specs.declared.scalar.Scalar.TheVariants.{Bool as Truth}
use Rattle.net_model.specs.declared.wiring.End.TheVariants.{Leaf as AtLeaf}
use Rattle.net_model.specs.declared.wiring.Link.{Link}
use Rattle.net_state.specs.Held.{HoldFew, capacity_of}
use Rattle.network_runner.proofs.Filling.{at_place}
use Rattle.network_runner.proofs.Loops.{copy_more}
use Rattle.network_runner.proofs.making.copy_of.Goals as goal

pub loop-l-preserved : goal.loop-l-preserved
loop-l-preserved c =
    let links = c.args.links.now in
    let d : Link = record { from = AtLeaf (record { 0 = 0 }) 0; to = AtLeaf (record { 0 = 0 }) 0; capacity = 0; kind = Truth } in
    let link : Link = slice_index_or links c.loop-l.l d in
    let whole : c.push.new.self.items ≡ c.loop-l.copy.items ++ link ∷ [] =
    c.in_ok-push.ensures.items ∙ ap (λ n. c.loop-l.copy.items ++ (record { from = link.from; to = link.to; capacity = n; kind = link.kind }) ∷ []) c.fitting.ensures.same in
    subst (λ ls. (ls ≡ take (c.loop-l.l + 1) links) × HoldFew (map capacity_of ls)) (sym whole)
    (copy_more links c.loop-l.l c.loop-l.copy.items link (at_place links c.loop-l.l d link c.loop-l-test.true refl) c.fitting.ensures.few c.loop-l.invariant.0 c.loop-l.invariant.1)
