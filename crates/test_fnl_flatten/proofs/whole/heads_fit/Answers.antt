use Rattle.std.proofs.Common.{◌≡◌, length, sym, ◌∙◌, arith, rules}
use Rattle.fnl_tree.specs.View.{leaf_of, tree_of}
use Rattle.fnl_flatten.specs.View.{head_of, heads_of}
use Rattle.test_fnl_flatten.proofs.Passing as passing
use Rattle.test_fnl_flatten.proofs.Weights.{as_many}
use Rattle.test_fnl_flatten.proofs.whole.heads_fit.Goals as goal

pub returns : goal.returns
returns c =
    let many : length c.args.heads.now ≡ length c.args.tree.now.leaves.items = search (rules, arith) in
    λ fine sound. passing.whole (tree_of c.args.tree.now) (heads_of c.args.heads.now) sound
    (as_many head_of c.args.heads.now ∙ many ∙ sym (as_many leaf_of c.args.tree.now.leaves.items)) (sym c.are_heads_fine.ensures ∙ fine)
