-- What the declared types stand for, without where they lie in memory.
-- Trusted: part of what a promise means.
use Rattle.std.specs.Prelude.{map, string_bytes}
use Rattle.cal_model.specs.View.{value_view}
use Rattle.fnl_tree.specs.declared.tree.Tree.{Tree as DeclaredTree}
use Rattle.fnl_tree.specs.declared.tree.Net.{Net as DeclaredNet}
use Rattle.fnl_tree.specs.declared.tree.NetEnd.{NetEnd}
use Rattle.fnl_tree.specs.declared.tree.Part.{Part as DeclaredPart}
use Rattle.fnl_tree.specs.declared.tree.Inner.{Inner as DeclaredInner}
use Rattle.fnl_tree.specs.declared.tree.Inner.TheVariants as declared
use Rattle.fnl_tree.specs.declared.tree.Wire.{Wire as DeclaredWire}
use Rattle.fnl_tree.specs.declared.tree.Leaf.{Leaf as DeclaredLeaf}
use Rattle.fnl_tree.specs.declared.tree.LeafValue.{LeafValue}
use Rattle.fnl_tree.specs.Tree.{Inner, InnerNet, InnerLeaf, Part, Own, Wire, Net, Binding, Leaf, Tree}

abbrev pub inner_of : DeclaredInner → Inner
inner_of (declared.Net n) = InnerNet n
inner_of (declared.Leaf l) = InnerLeaf l.0

abbrev pub part_of : DeclaredPart → Part
part_of p = record { id = string_bytes p.id; inner = inner_of p.inner }

abbrev pub own_of : NetEnd → Own
own_of p = record { name = string_bytes p.name; kind = p.kind }

abbrev pub wire_of : DeclaredWire → Wire
wire_of w = record {
  src = string_bytes w.src;
  src_port = string_bytes w.src_port;
  dst = string_bytes w.dst;
  dst_port = string_bytes w.dst_port;
  size = w.size;
  at = w.at;
}

abbrev pub net_of : DeclaredNet → Net
net_of net = record {
  file = net.file;
  path = string_bytes net.path;
  ins = map own_of net.ins.items;
  outs = map own_of net.outs.items;
  parts = map part_of net.parts.items;
  wires = map wire_of net.wires.items;
}

abbrev pub binding_of : LeafValue → Binding
binding_of b = record { name = string_bytes b.name; value = value_view b.value; place = b.place }

abbrev pub leaf_of : DeclaredLeaf → Leaf
leaf_of leaf = record {
  path = string_bytes leaf.path;
  class = string_bytes leaf.class;
  class_at = leaf.class_at;
  instance_at = leaf.instance_at;
  bindings = map binding_of leaf.bindings.items;
}

-- the tree that a value of `Tree` stands for
abbrev pub tree_of : DeclaredTree → Tree
tree_of tree = record { nets = map net_of tree.nets.items; leaves = map leaf_of tree.leaves.items }
