-- What flattening takes.
-- Trusted: part of what a promise means.
use Rattle.std.specs.Prelude.{◌≡◌, List, length, All}
use Rattle.fnl_tree.specs.Tree.{Tree}
use Rattle.fnl_tree.specs.Sound.{IsSound}
use Rattle.fnl_flatten.specs.Head.{Head, IsHeadSound}

-- the tree is sound, and the ports of the actor at each leaf are told
pub record IsWhole (tree : Tree) (heads : List Head) : Type 0 where
  pub sound : IsSound tree
  pub one_a_leaf : length heads ≡ length tree.leaves
  pub each_head : All IsHeadSound heads
