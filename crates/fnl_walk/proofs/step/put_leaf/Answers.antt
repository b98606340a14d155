use Rattle.std.proofs.Common.{◌≡◌, [], ◌∷◌, ◌++◌, length, map, reverse, sym, ap, ◌∙◌, rules}
use Rattle.std.specs.Prelude.{string_bytes}
use Rattle.fnl_bind.specs.Networks.{leaf_under}
use Rattle.fnl_tree.specs.View.{leaf_of, net_of}
use Rattle.fnl_values.specs.Visiting.{visit_of}
use Rattle.fnl_walk.proofs.Stacks.{innermost, last_leaf, leaf_part, leaves_count, walk_is}
use Rattle.fnl_walk.specs.View.{open_of, walk_view}
use Rattle.fnl_walk.specs.Walk.{place_at, place_of, with_parts}
use Rattle.fnl_walk.proofs.step.put_leaf.Goals as goal

pub returns : goal.returns
returns c =
    let w = walk_view c.args.walk.now in
    let o = open_of c.args.here in
    let v = visit_of c.args.visit in
    let size : c.len.result ≡ length c.args.walk.now.leaves.items = search rules in
    let count : c.len.result ≡ length w.grown.leaves = size ∙ sym (leaves_count c.args.walk.now.leaves.items) in
    let id : string_bytes c.in_ok-id.id ≡ string_bytes c.args.visit.instance.now.id = search rules in
    let path : c.as_str.result.now ≡ string_bytes c.args.here.path = search rules in
    let pushed : c.push.new.self.items ≡ c.args.walk.now.leaves.items ++ c.in_ok-leaf.leaf ∷ [] = search rules in
    let opened : c.push-2.new.self.items ≡ c.args.walk.now.open_nets.items ++ c.args.here ∷ [] = search rules in
    let nets : map net_of c.add_part.new.nets.items ≡ with_parts o.number (leaf_part (string_bytes c.args.visit.instance.now.id) (length w.grown.leaves)) w.grown.nets =
    c.in_ok-add_part.ensures
    ∙ ap (λ i. with_parts o.number (leaf_part i c.len.result) w.grown.nets) id
    ∙ ap (λ n. with_parts o.number (leaf_part (string_bytes c.args.visit.instance.now.id) n) w.grown.nets) count in
    let leaf : leaf_of c.in_ok-leaf.leaf ≡ leaf_under (place_of o w.above) v.instance v.given =
    c.in_ok-leaf.ensures w.above ∙ ap (λ p. leaf_under (place_at c.args.here.file p w.above) v.instance v.given) path in
    let leaves : map leaf_of c.push.new.self.items ≡ w.grown.leaves ++ leaf_under (place_of o w.above) v.instance v.given ∷ [] =
    ap (map leaf_of) pushed ∙ last_leaf c.args.walk.now.leaves.items c.in_ok-leaf.leaf ∙ ap (λ l. w.grown.leaves ++ l ∷ []) leaf in
    let opens : reverse (map open_of c.push-2.new.self.items) ≡ o ∷ w.open_nets =
    ap (λ os. reverse (map open_of os)) opened ∙ innermost c.args.walk.now.open_nets.items c.args.here in
    walk_is (reverse (map open_of c.push-2.new.self.items)) (o ∷ w.open_nets) w.above
    (map net_of c.add_part.new.nets.items) (with_parts o.number (leaf_part (string_bytes c.args.visit.instance.now.id) (length w.grown.leaves)) w.grown.nets)
    (map leaf_of c.push.new.self.items) (w.grown.leaves ++ leaf_under (place_of o w.above) v.instance v.given ∷ []) opens nets leaves
