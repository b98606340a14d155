use Rattle.std.proofs.Common.{◌≡◌, ◌-◌, ◌≤◌, true, length, map, arith, rules}
use Rattle.fnl_tree.specs.View.{net_of, tree_of}
use Rattle.test_fnl_flatten.specs.Tested.{are_nets_fine}
use Rattle.test_fnl_flatten.proofs.Passing as passing
use Rattle.test_fnl_flatten.proofs.whole.is_sound.Goals as goal

pub returns : goal.returns
returns c =
    let fine : are_nets_fine (map net_of c.args.tree.now.nets.items) ≡ true = search rules in
    let nets : length c.args.tree.now.nets.items ≤ 1025 = search (rules, arith) in
    let leaves : length c.args.tree.now.leaves.items ≤ 1025 - length c.args.tree.now.nets.items = search (rules, arith) in
    λ numbered. passing.is_sound (tree_of c.args.tree.now) (c.is_numbered.ensures numbered) fine (passing.few c.args.tree.now nets leaves)
