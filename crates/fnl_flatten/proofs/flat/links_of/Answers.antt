use Rattle.std.proofs.Common.{◌≡◌, map, length, subst, ap, ◌∙◌, arith, rules}
use Rattle.std.proofs.lemmas.List.{length-map}
use Rattle.fnl_tree.specs.View.{net_of, own_of, tree_of}
use Rattle.fnl_flatten.specs.Readers.{LinksOf, readers_of}
use Rattle.fnl_flatten.specs.View.{heads_of}
use Rattle.fnl_flatten.proofs.Joined.{joined}
use Rattle.fnl_flatten.proofs.flat.links_of.Goals as goal

pub returns-clause-joined : goal.returns-clause-joined
returns-clause-joined c =
    let here : c.len.result ≡ length c.args.top.now.outs.items = search rules in
    let same : length (map own_of c.args.top.now.outs.items) ≡ length c.args.top.now.outs.items = length-map c.args.top.now.outs.items own_of in
    let count : c.len.result ≡ length (map own_of c.args.top.now.outs.items) = omega (arith, here, same) in
    joined (tree_of c.args.tree.now) (heads_of c.args.heads.now) c.requires.whole.sound c.in_ok-writers.ensures.fine (net_of c.args.top.now) c.requires.top
    c.in_ok-links.links.items
    (subst (λ js. LinksOf (tree_of c.args.tree.now) (heads_of c.args.heads.now) js c.in_ok-links.links.items)
    (c.deref.ensures.value ∙ c.in_ok-ends.ensures ∙ ap (readers_of (heads_of c.args.heads.now)) count) c.in_ok-links.ensures)
