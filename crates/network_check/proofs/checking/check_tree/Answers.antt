use Rattle.std.proofs.Common.{◌≡◌, ◌≤◌, length, map, ap, sym, subst, ◌∙◌}
use Rattle.std.proofs.lemmas.List.{length-map}
use Rattle.net_model.specs.Limits.{max_instances}
use Rattle.fnl_tree.specs.View.{leaf_of, tree_of}
use Rattle.check_leaves.specs.Leaves as leaves
use Rattle.fnl_files.specs.Views.{files_in}
use Rattle.network_check.proofs.Causes.{few_leaves, why_leaves}
use Rattle.network_check.proofs.checking.check_tree.Goals as goal

pub returns-in-Err-clause-refused : goal.returns-in-Err-clause-refused
returns-in-Err-clause-refused c =
    why_leaves (files_in c.args.files.now) c.args.class.now (tree_of c.args.tree.now).leaves c.in-Err.front c.requires.leaves
    (subst (λ ls. leaves.IsFault (files_in c.args.files.now).sources (map leaf_of ls) c.in-Err.front) c.deref.ensures.value c.in-Err.ensures.refused)

pub check_leaves-requires-clause-few : goal.check_leaves-requires-clause-few
check_leaves-requires-clause-few c =
    let few : length (tree_of c.args.tree.now).leaves ≤ max_instances = few_leaves (tree_of c.args.tree.now) c.requires.sound_tree in
    let same : length c.deref.result.now ≡ length (tree_of c.args.tree.now).leaves = ap length c.deref.ensures.value ∙ sym (length-map c.args.tree.now.leaves.items leaf_of) in
    subst (λ n. n ≤ max_instances) (sym same) few
