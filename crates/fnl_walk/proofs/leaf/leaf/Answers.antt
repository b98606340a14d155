use Rattle.std.proofs.Common.{◌≡◌, map, rules}
use Rattle.std.specs.Prelude.{string_bytes}
use Rattle.fnl_bind.specs.Networks.{binding_of, path_under}
use Rattle.fnl_tree.specs.View as view
use Rattle.check_given.specs.Given.{given_of}
use Rattle.fnl_walk.proofs.Leaves.{bindings_same, leaf_is}
use Rattle.fnl_walk.proofs.leaf.leaf.Goals as goal

pub returns : goal.returns
returns c = λ above.
    let path : string_bytes c.in_ok-path.path ≡ path_under c.args.path.now (string_bytes c.args.visit.instance.now.id) = search rules in
    let class : string_bytes c.in_ok-class.class ≡ string_bytes c.args.visit.instance.now.class = search rules in
    leaf_is (string_bytes c.in_ok-path.path) (path_under c.args.path.now (string_bytes c.args.visit.instance.now.id)) (string_bytes c.in_ok-class.class) (string_bytes c.args.visit.instance.now.class)
    (record { file = c.args.file; offset = c.args.visit.instance.now.class_at }) (record { file = c.args.file; offset = c.args.visit.instance.now.at })
    (map view.binding_of c.args.visit.given.items) (map binding_of (map given_of c.args.visit.given.items)) path class (bindings_same c.args.visit.given.items)
