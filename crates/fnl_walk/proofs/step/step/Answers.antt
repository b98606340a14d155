use Rattle.std.proofs.Common.{◌≡◌, [], ◌∷◌, ◌++◌, length, map, reverse, refl, ap, ◌∙◌, rules}
use Rattle.std.specs.Prelude.{vec_len}
use Rattle.fnl_values.specs.Visiting.{visit_of}
use Rattle.fnl_walk.proofs.Stacks.{class_left, innermost}
use Rattle.fnl_walk.proofs.Visiting.{left_so}
use Rattle.fnl_walk.specs.View.{open_of, walk_view}
use Rattle.fnl_bind.specs.View.{networks}
use Rattle.fnl_walk.proofs.step.step.Goals as goal

pub returns-in-None : goal.returns-in-None
returns-in-None c =
    let old = walk_view c.args.walk.now in
    let split : c.args.walk.now.open_nets.items ≡ c.pop.new.self.items ++ c.in-Some.here ∷ [] = search rules in
    let empty : c.in-Some.here.visits.items ≡ [] = search rules in
    let opens : old.open_nets ≡ open_of c.in-Some.here ∷ reverse (map open_of c.pop.new.self.items) =
    ap (λ os. reverse (map open_of os)) split ∙ innermost c.pop.new.self.items c.in-Some.here in
    let count : vec_len c.args.walk.now.above ≡ length c.args.walk.now.above.items = search rules in
    left_so (networks c.args.nets.now) old
    (record { open_nets = reverse (map open_of c.pop.new.self.items); above = (walk_view (record c.args.walk.now { above = c.pop-in-None.new.self })).above; grown = old.grown })
    (open_of c.in-Some.here) opens (ap (map visit_of) empty)
    (class_left (vec_len c.args.walk.now.above) c.args.walk.now.above.items c.pop-in-None.new.self.items c.pop-in-None.result c.pop-in-None.ensures.items count c.pop-in-None.ensures.variant.1)
    refl c.requires
