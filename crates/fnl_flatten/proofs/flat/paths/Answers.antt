use Rattle.std.proofs.Common.{◌≡◌, ◌∷◌, ◌++◌, map, ap, sym, ◌∙◌, rules}
use Rattle.std.specs.Prelude.{string_bytes}
use Rattle.fnl_tree.specs.View.{leaf_of}
use Rattle.fnl_flatten.proofs.Copies.{more_copies}
use Rattle.fnl_flatten.proofs.flat.paths.Goals as goal

pub leaves-preserved : goal.leaves-preserved
leaves-preserved c =
    let opened : map leaf_of c.leaves.rest.now ≡ leaf_of c.in-Some.leaf.now ∷ map leaf_of c.in-Some.others.now = search rules in
    let same : string_bytes c.in_ok-path.path ≡ string_bytes c.in-Some.leaf.now.path = search rules in
    more_copies string_bytes c.leaves.paths.items c.push.new.self.items c.in_ok-path.path (string_bytes c.in-Some.leaf.now.path)
    (map (λ leaf. leaf.path) (map leaf_of c.in-Some.others.now)) (map (λ leaf. leaf.path) (map leaf_of c.args.leaves.now))
    c.in_ok-push.ensures.items same
    (sym (ap (λ ls. map string_bytes c.leaves.paths.items ++ map (λ leaf. leaf.path) ls) opened) ∙ c.leaves.invariant)
