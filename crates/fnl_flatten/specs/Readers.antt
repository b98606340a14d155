-- The reading ends of a tree in link order, and the links that lead to them.
-- Not trusted: no promise is read with it.
use Rattle.std.specs.Prelude.{◌≡◌, ◌⊎◌, ℕ, zero, suc, true, false, List, [], ◌∷◌, ◌++◌, length, None, Some}
use Rattle.net_model.specs.declared.wiring.Link.{Link}
use Rattle.fnl_tree.specs.Tree.{Tree}
use Rattle.fnl_flatten.specs.declared.writers.Writer.{Writer}
use Rattle.fnl_flatten.specs.Head.{Head}
use Rattle.fnl_flatten.specs.Joints.{Joint, LeafPort, OwnPort, kind_of, rate_at}
use Rattle.fnl_flatten.specs.Links.{IsLink, capacity_for, reading_end, writing_end}

-- inputs of a leaf, so many, from port p
abbrev pub inputs_from : ℕ → ℕ → ℕ → List Joint
inputs_from l p zero = []
inputs_from l p (suc n) = LeafPort l true p ∷ inputs_from l (suc p) n

-- outputs of the top network
abbrev pub outputs_from : ℕ → ℕ → List Joint
outputs_from p zero = []
outputs_from p (suc n) = OwnPort 0 false p ∷ outputs_from (suc p) n

-- the inputs of these leaves, the first of which is number l
abbrev pub leaf_readers : ℕ → List Head → List Joint
leaf_readers l [] = []
leaf_readers l (head ∷ heads) = inputs_from l 0 (length head.ins) ++ leaf_readers (suc l) heads

-- the reading ends in link order
abbrev pub readers_of : List Head → ℕ → List Joint
readers_of heads outs = leaf_readers 0 heads ++ outputs_from 0 outs

-- no link leads to this joint
abbrev pub HasNoLink : Tree → List Head → Joint → Type 0
HasNoLink tree heads joint = (link : Link) → IsLink tree heads link
    → reading_end joint ≡ Some link.to → ⊥

pub record IsLinkTo (tree : Tree) (heads : List Head) (joint : Joint) (link : Link) : Type 0 where
  pub is_link : IsLink tree heads link
  pub to : reading_end joint ≡ Some link.to

-- a link from this writing end to the joint has these parts
pub record IsLinkFrom (tree : Tree) (heads : List Head) (joint : Joint) (writer : Writer) (link : Link) : Type 0 where
  pub from : writing_end writer.joint ≡ Some link.from
  pub to : reading_end joint ≡ Some link.to
  pub kind : kind_of tree heads joint ≡ Some link.kind
  pub capacity : link.capacity ≡ capacity_for writer.size (rate_at heads writer.joint) (rate_at heads joint)

-- they are no ends of a link
abbrev pub HasNoEnd : Tree → List Head → Joint → Writer → Type 0
HasNoEnd tree heads joint writer = (writing_end writer.joint ≡ None)
    ⊎ ((reading_end joint ≡ None) ⊎ (kind_of tree heads joint ≡ None))

-- the links to these joints, in their order
pub data LinksOf (tree : Tree) (heads : List Head) : List Joint → List Link → Type 0 where
  done : LinksOf tree heads [] []
  none : {joint : Joint} {joints : List Joint} {links : List Link} → HasNoLink tree heads joint
      → LinksOf tree heads joints links → LinksOf tree heads (joint ∷ joints) links
  one : {joint : Joint} {joints : List Joint} {link : Link} {links : List Link}
      → IsLinkTo tree heads joint link → LinksOf tree heads joints links
      → LinksOf tree heads (joint ∷ joints) (link ∷ links)

-- the link to this joint was added, if there is one
abbrev pub IsAdded : Tree → List Head → Joint → List Link → List Link → Type 0
IsAdded tree heads joint before after = (HasNoLink tree heads joint × (after ≡ before))
    ⊎ ((link : Link) × IsLinkTo tree heads joint link × (after ≡ before ++ link ∷ []))
