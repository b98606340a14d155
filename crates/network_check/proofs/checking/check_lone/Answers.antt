use Rattle.std.proofs.Common.{◌≡◌, [], ◌∷◌, length, map, ap, sym, subst, ◌∙◌, arith}
use Rattle.std.proofs.lemmas.List.{length-map}
use Rattle.cal_model.specs.View.{actor_of}
use Rattle.fnl_tree.specs.View.{leaf_of, tree_of}
use Rattle.check_leaves.specs.Leaves as leaves
use Rattle.check_leaves.specs.Leaves.{AreActorsOf, actors_at_leaves}
use Rattle.fnl_files.specs.Views.{files_in}
use Rattle.fnl_source.specs.Lone.{lone_leaf}
use Rattle.network_check.specs.Refused.{AreLeavesIn}
use Rattle.network_check.proofs.Causes.{why_leaves}
use Rattle.network_check.proofs.LoneTrees.{has_one, peopled_lone}
use Rattle.network_check.proofs.checking.check_lone.Goals as goal

pub returns-in-Err-clause-refused : goal.returns-in-Err-clause-refused
returns-in-Err-clause-refused c =
    let all : map leaf_of c.deref.result.now ≡ lone_leaf c.args.name.now c.args.class.now ∷ [] = ap (map leaf_of) c.deref.ensures.value ∙ c.in-Ok.ensures in
    why_leaves (files_in c.args.files.now) c.args.class.now (lone_leaf c.args.name.now c.args.class.now ∷ []) c.in-Err.front
    (AreLeavesIn.of_actor c.requires.no_net c.requires.named)
    (subst (λ ls. leaves.IsFault (files_in c.args.files.now).sources ls c.in-Err.front) all c.in-Err.ensures.refused)

pub one_actor-requires : goal.one_actor-requires
one_actor-requires c =
    let all : map leaf_of c.deref.result.now ≡ lone_leaf c.args.name.now c.args.class.now ∷ [] = ap (map leaf_of) c.deref.ensures.value ∙ c.in-Ok.ensures in
    has_one (files_in c.args.files.now).sources (lone_leaf c.args.name.now c.args.class.now) c.in-Ok-check_leaves.found
    (subst (λ ls. AreActorsOf (files_in c.args.files.now).sources ls (actors_at_leaves c.in-Ok-check_leaves.found)) all c.in-Ok-check_leaves.ensures.checked)
    c.in-Ok-check_leaves.ensures.within

pub join_tree-requires : goal.join_tree-requires
join_tree-requires c =
    let all : map leaf_of c.deref.result.now ≡ lone_leaf c.args.name.now c.args.class.now ∷ [] = ap (map leaf_of) c.deref.ensures.value ∙ c.in-Ok.ensures in
    peopled_lone (files_in c.args.files.now) c.args.class.now c.args.name.now c.in-Ok-check_leaves.found (actor_of c.one_actor.result.now)
    (tree_of c.in-Ok-lone_tree.tree) c.answers_are_the_source_network.ensures.lone c.requires.no_net c.requires.named c.in-Ok-lone_tree.ensures c.one_actor.ensures
    (subst (λ ls. AreActorsOf (files_in c.args.files.now).sources ls (actors_at_leaves c.in-Ok-check_leaves.found)) all c.in-Ok-check_leaves.ensures.checked)
    (record { sound = c.in-Ok-check_leaves.ensures.sound; within = c.in-Ok-check_leaves.ensures.within; used = c.in-Ok-check_leaves.ensures.once.used })

pub check_leaves-requires-clause-few : goal.check_leaves-requires-clause-few
check_leaves-requires-clause-few c =
    let one : length c.deref.result.now ≡ 1 = ap length c.deref.ensures.value ∙ sym (length-map c.in-Ok.leaves.items leaf_of) ∙ ap length c.in-Ok.ensures in
    omega (arith, one)
