-- What binding answers.
-- Trusted: part of what a promise means.
use Rattle.std.specs.Prelude.{◌≡◌, ℕ, List, [], Contains}
use Rattle.rvc_base.specs.declared.refusal.Front.{Front}
use Rattle.rvc_base.specs.declared.refusal.Front.TheVariants.{Refused, Memory}
use Rattle.fnl_tree.specs.declared.tree.Tree.{Tree}
use Rattle.fnl_tree.specs.View.{tree_of}
use Rattle.fnl_bind.specs.Library.{Entry}
use Rattle.fnl_bind.specs.Trees.{violations, bound}

-- the tree that networks make from the one of a class down
pub record IsBound (library : List Entry) (class : List ℕ) (tree : Tree) : Type 0 where
  pub conforms : violations library class ≡ []
  pub is : tree_of tree ≡ bound library class

-- a refusal names a rule that they break, and where; out of memory says nothing of them
abbrev pub IsRefused : List Entry → List ℕ → Front → Type 0
IsRefused library class (Refused r) = Contains (violations library class)
    (record { violation = record { rule = r.rule; at = r.place.offset }; file = r.place.file })
IsRefused library class Memory = Unit {0}
