use Rattle.std.proofs.Common.{◌≡◌, ◌∷◌, ◌++◌, map, ap, sym, ◌∙◌, rules}
use Rattle.std.specs.Prelude.{string_bytes}
use Rattle.fnl_tree.specs.View.{leaf_of}
use Rattle.fnl_flatten.proofs.Copies.{more_copies}
use Rattle.fnl_flatten.proofs.flat.classes.Goals as goal

pub leaves-preserved : goal.leaves-preserved
leaves-preserved c =
    let opened : map leaf_of c.leaves.rest.now ≡ leaf_of c.in-Some.leaf.now ∷ map leaf_of c.in-Some.others.now = search rules in
    let same : string_bytes c.in_ok-class.class ≡ string_bytes c.in-Some.leaf.now.class = search rules in
    more_copies string_bytes c.leaves.classes.items c.push.new.self.items c.in_ok-class.class (string_bytes c.in-Some.leaf.now.class)
    (map (λ leaf. leaf.class) (map leaf_of c.in-Some.others.now)) (map (λ leaf. leaf.class) (map leaf_of c.args.leaves.now))
    c.in_ok-push.ensures.items same
    (sym (ap (λ ls. map string_bytes c.leaves.classes.items ++ map (λ leaf. leaf.class) ls) opened) ∙ c.leaves.invariant)
