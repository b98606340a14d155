use Rattle.std.proofs.Common.{◌≡◌, ◌++◌, None, map, length, sym, ap, ◌∙◌, slice_get, arith, rules}
use Rattle.std.proofs.lemmas.List.{length-map}
use Rattle.fnl_flatten.specs.Readers.{inputs_from}
use Rattle.fnl_flatten.specs.View.{head_of, head_port_of, heads_of}
use Rattle.fnl_flatten.proofs.Linking.{more_leaves, no_leaves}
use Rattle.fnl_flatten.proofs.readers.leaf_readers.Goals as goal

pub leaves-preserved : goal.leaves-preserved
leaves-preserved c =
    let here : c.len.result ≡ length c.in-Some.head.now.ins.items = search rules in
    let same : length (map head_port_of c.in-Some.head.now.ins.items) ≡ length c.in-Some.head.now.ins.items = length-map c.in-Some.head.now.ins.items head_port_of in
    let count : c.len.result ≡ length (map head_port_of c.in-Some.head.now.ins.items) = omega (arith, here, same) in
    more_leaves (heads_of c.args.heads.now) c.leaves.leaf (head_of c.in-Some.head.now) c.leaves.readers.items c.push_inputs.new.readers.items
    (sym c.in-Some.ensures.is)
    (c.in_ok-push_inputs.ensures ∙ ap (λ n. c.leaves.readers.items ++ inputs_from c.leaves.leaf 0 n) count)
    ∙ c.leaves.invariant

pub returns : goal.returns
returns c =
    let none : slice_get (heads_of c.args.heads.now) c.leaves.leaf ≡ None = search rules in
    sym (no_leaves (heads_of c.args.heads.now) c.leaves.leaf c.leaves.readers.items none) ∙ c.leaves.invariant
