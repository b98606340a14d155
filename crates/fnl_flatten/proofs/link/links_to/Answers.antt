use Rattle.std.proofs.Common.{◌≡◌, [], ◌∷◌, subst, arith, rules}
use Rattle.std.proofs.lemmas.Grind.{common_steps}
use Rattle.fnl_tree.specs.View.{tree_of}
use Rattle.fnl_flatten.specs.View.{heads_of}
use Rattle.fnl_flatten.proofs.Linking.{AddedUpTo, added_all, added_more}
use Rattle.fnl_flatten.proofs.link.links_to.Goals as goal

pub joints-preserved : goal.joints-preserved
joints-preserved c =
    let opened : c.joints.rest.now ≡ c.in-Some.joint.now ∷ c.in-Some.others.now = search rules in
    let so_far : AddedUpTo (tree_of c.args.tree.now) (heads_of c.args.heads.now) (c.in-Some.joint.now ∷ c.in-Some.others.now) c.args.joints.now c.joints.links.items =
    subst (λ js. AddedUpTo (tree_of c.args.tree.now) (heads_of c.args.heads.now) js c.args.joints.now c.joints.links.items) opened c.joints.invariant in
    added_more (tree_of c.args.tree.now) (heads_of c.args.heads.now) c.in-Some.joint.now c.in-Some.others.now c.args.joints.now c.joints.links.items c.push_link.new.links.items
    c.in_ok-push_link.ensures so_far

pub returns : goal.returns
returns c =
    let empty : c.joints.rest.now ≡ [] = grind (arith, common_steps) in
    added_all (tree_of c.args.tree.now) (heads_of c.args.heads.now) c.args.joints.now c.joints.links.items
    (subst (λ js. AddedUpTo (tree_of c.args.tree.now) (heads_of c.args.heads.now) js c.args.joints.now c.joints.links.items) empty c.joints.invariant)
