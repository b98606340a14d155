-- Worked networks: the rules that their connections break, and the links that chains make.
use Rattle.std.proofs.Common.{◌≡◌, ℕ, true, false, List, [], ◌∷◌, refl}
use Rattle.std.specs.Prelude.{codes}
use Rattle.rvc_base.specs.declared.scalar.Scalar.{Scalar}
use Rattle.rvc_base.specs.declared.scalar.Scalar.TheVariants as scalar
use Rattle.rvc_base.specs.Rules as rules
use Rattle.rvc_base.specs.declared.refusal.Rule.{Rule}
use Rattle.net_model.specs.declared.wiring.End.TheVariants.{Leaf as AtLeaf}
use Rattle.net_model.specs.declared.wiring.Link.{Link}
use Rattle.fnl_tree.specs.Tree.{InnerNet, InnerLeaf, Own, Wire, Net, Leaf, Tree}
use Rattle.fnl_flatten.specs.Head.{HeadPort, Head}
use Rattle.fnl_flatten.specs.Joints.{LeafPort, OwnPort}
use Rattle.fnl_flatten.specs.Links.{Leads, last, more, IsLink}
use Rattle.fnl_flatten.specs.Rules.{Found, violations}

-- ---- parts

abbrev own : List ℕ → Scalar → Own
own name kind = record { name = name; kind = kind }

abbrev port : List ℕ → Scalar → ℕ → HeadPort
port name kind largest = record { name = name; kind = kind; largest = largest }

abbrev wire : List ℕ → List ℕ → List ℕ → List ℕ → ℕ → ℕ → Wire
wire src src_port dst dst_port size at =
    record { src = src; src_port = src_port; dst = dst; dst_port = dst_port; size = size; at = at }

-- an actor without parameters
abbrev leaf : List ℕ → List ℕ → Leaf
leaf path class = record {
  path = path;
  class = class;
  class_at = record { file = 1; offset = 0 };
  instance_at = record { file = 1; offset = 0 };
  bindings = [];
}

-- an actor with a port In and a port Out
abbrev head : Scalar → ℕ → Head
head kind largest = record {
  ins = port (codes "In") kind largest ∷ [];
  outs = port (codes "Out") kind largest ∷ [];
}

abbrev word : Scalar
word = scalar.Int 16

abbrev byte : Scalar
byte = scalar.Uint 8

-- ---- a network in a network

-- an actor, and a network of two others behind it
abbrev top : Net
top = record {
  file = 1;
  path = [];
  ins = own (codes "In") word ∷ [];
  outs = own (codes "Out") byte ∷ [];
  parts = record { id = codes "rl"; inner = InnerLeaf 0 } ∷ record { id = codes "blk"; inner = InnerNet 1 } ∷ [];
  wires = wire [] (codes "In") (codes "rl") (codes "In") 0 10
      ∷ wire (codes "rl") (codes "Out") (codes "blk") (codes "In") 0 20
      ∷ wire (codes "blk") (codes "Out") [] (codes "Out") 0 30 ∷ [];
}

abbrev block : Net
block = record {
  file = 2;
  path = codes "blk";
  ins = own (codes "In") word ∷ [];
  outs = own (codes "Out") byte ∷ [];
  parts = record { id = codes "z"; inner = InnerLeaf 1 } ∷ record { id = codes "s"; inner = InnerLeaf 2 } ∷ [];
  wires = wire [] (codes "In") (codes "z") (codes "In") 700 11
      ∷ wire (codes "z") (codes "Out") (codes "s") (codes "In") 0 21
      ∷ wire (codes "s") (codes "Out") [] (codes "Out") 0 31 ∷ [];
}

abbrev decoder : Tree
decoder = record {
  nets = top ∷ block ∷ [];
  leaves = leaf (codes "rl") (codes "dec.Rld") ∷ leaf (codes "blk/z") (codes "dec.Zigzag")
      ∷ leaf (codes "blk/s") (codes "dec.Sat") ∷ [];
}

abbrev heads : List Head
heads = head word 2 ∷ head word 64 ∷ record {
  ins = port (codes "In") word 1 ∷ [];
  outs = port (codes "Out") byte 1 ∷ [];
} ∷ []

decoder_conforms : violations decoder heads ≡ []
decoder_conforms = refl

-- the link through the inner network's border has the size that the inner connection asks for
abbrev into_block : Link
into_block = record { from = AtLeaf (record { 0 = 0 }) 0; to = AtLeaf (record { 0 = 1 }) 0; capacity = 700; kind = word }

outer_half : Leads decoder heads (LeafPort 0 false 0) (OwnPort 1 true 0) 0
outer_half = record {
  number = 0;
  net = top;
  place = 1;
  wire = wire (codes "rl") (codes "Out") (codes "blk") (codes "In") 0 20;
  is_net = refl;
  is_wire = refl;
  begins = refl;
  ends = refl;
  asks = refl;
}

inner_half : Leads decoder heads (OwnPort 1 true 0) (LeafPort 1 true 0) 700
inner_half = record {
  number = 1;
  net = block;
  place = 0;
  wire = wire [] (codes "In") (codes "z") (codes "In") 700 11;
  is_net = refl;
  is_wire = refl;
  begins = refl;
  ends = refl;
  asks = refl;
}

into_block_is : IsLink decoder heads into_block
into_block_is = record {
  writer = LeafPort 0 false 0;
  reader = LeafPort 1 true 0;
  size = 700;
  chain = more outer_half (last inner_half);
  from = refl;
  to = refl;
  capacity = refl;
  kind = refl;
}

-- the link inside holds 512, and one whose ends take or give more holds that
inside : Leads decoder heads (LeafPort 1 false 0) (LeafPort 2 true 0) 0
inside = record {
  number = 1;
  net = block;
  place = 1;
  wire = wire (codes "z") (codes "Out") (codes "s") (codes "In") 0 21;
  is_net = refl;
  is_wire = refl;
  begins = refl;
  ends = refl;
  asks = refl;
}

inside_is : IsLink decoder heads (record { from = AtLeaf (record { 0 = 1 }) 0; to = AtLeaf (record { 0 = 2 }) 0; capacity = 512; kind = word })
inside_is = record {
  writer = LeafPort 1 false 0;
  reader = LeafPort 2 true 0;
  size = 0;
  chain = last inside;
  from = refl;
  to = refl;
  capacity = refl;
  kind = refl;
}

-- ---- rules that are broken

abbrev alone : List Wire → Tree
alone wires = record {
  nets = record {
    file = 1;
    path = [];
    ins = own (codes "In") byte ∷ [];
    outs = own (codes "Out") byte ∷ [];
    parts = record { id = codes "a"; inner = InnerLeaf 0 } ∷ [];
    wires = wires;
  } ∷ [];
  leaves = leaf (codes "a") (codes "A") ∷ [];
}

abbrev at_file : Rule → ℕ → Found
at_file rule at = record { rule = rule; file = 1; at = at }

-- from the network's own input to its own output
direct : violations (alone (wire [] (codes "In") [] (codes "Out") 0 40 ∷ [])) (head byte 1 ∷ []) ≡ at_file rules.no_ends 40 ∷ []
direct = refl

-- a port that isn't there, and an input that is taken for an output
unknown : violations (alone (wire [] (codes "Inn") (codes "a") (codes "In") 0 40 ∷ wire (codes "a") (codes "In") [] (codes "Out") 0 60 ∷ [])) (head byte 1 ∷ [])
    ≡ at_file rules.unknown_end 40 ∷ at_file rules.unknown_end 60 ∷ []
unknown = refl

-- truth values for numbers
truths : violations (alone (wire [] (codes "In") (codes "a") (codes "In") 0 40 ∷ [])) (head scalar.Bool 1 ∷ []) ≡ at_file rules.bool_meets_number 40 ∷ []
truths = refl

-- two writers of one input
second : violations (alone (wire [] (codes "In") (codes "a") (codes "In") 0 40 ∷ wire (codes "a") (codes "Out") (codes "a") (codes "In") 0 60 ∷ [])) (head byte 1 ∷ [])
    ≡ at_file rules.second_writer 60 ∷ []
second = refl

-- a writer with two readers
fanned : violations (alone (wire (codes "a") (codes "Out") (codes "a") (codes "In") 0 40 ∷ wire (codes "a") (codes "Out") [] (codes "Out") 0 60 ∷ [])) (head byte 1 ∷ []) ≡ []
fanned = refl
