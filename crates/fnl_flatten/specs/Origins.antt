-- Where the chain of connections that leads to a joint begins.
-- Not trusted: no promise is read with it.
use Rattle.std.specs.Prelude.{◌≡◌, ℕ, suc, ◌+◌, ◌-◌, true, false, List, Some, is_some}
use Rattle.net_model.specs.declared.wiring.End.{End}
use Rattle.fnl_tree.specs.Tree.{Tree}
use Rattle.fnl_flatten.specs.declared.writers.Writer.{Writer}
use Rattle.fnl_flatten.specs.Head.{Head}
use Rattle.fnl_flatten.specs.Joints.{Joint, LeafPort, OwnPort}
use Rattle.fnl_flatten.specs.Links.{Chain, writing_end}

-- a chain leads from this writing end to the joint
pub record IsOrigin (tree : Tree) (heads : List Head) (joint : Joint) (writer : Writer) : Type 0 where
  pub chain : Chain tree heads writer.joint joint writer.size
  pub writes : is_some (writing_end writer.joint) ≡ true

-- no chain leads from a writing end to the joint
abbrev pub HasNoOrigin : Tree → List Head → Joint → Type 0
HasNoOrigin tree heads joint = (j : Joint) (e : End) (size : ℕ) → writing_end j ≡ Some e
    → Chain tree heads j joint size → ⊥

-- what falls along a chain, against its direction, in a tree of so many networks
abbrev pub rank : ℕ → Joint → ℕ
rank nets (LeafPort l true p) = suc (suc (nets + nets))
rank nets (LeafPort l false p) = 0
rank nets (OwnPort n true p) = suc (nets + n)
rank nets (OwnPort n false p) = nets - n
