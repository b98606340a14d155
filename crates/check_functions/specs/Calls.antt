-- Parts that call no function: over any functions they are what they are over the names alone.
-- Trusted: part of what a promise means.
use Rattle.std.specs.Prelude.{◌≡◌, Bool, true, false, ◌||◌, List}
use Rattle.cal_ast.specs.Tree as tree
use Rattle.cal_ast.specs.Tree.{Tree}
use Rattle.cal_model.specs.Kinding.{Known}
use Rattle.cal_model.specs.Value.{Shape}
use Rattle.cal_check.specs.Constants.{early_type}
use Rattle.cal_check.specs.Routines.{FunDecl}
use Rattle.cal_check.specs.Variables.{come, seen}
use Rattle.check_functions.specs.Known.{names_alone}

-- an expression or a type calls a function; what is neither counts as if it did
abbrev pub calls_any : Tree → Bool
calls_any (tree.call name args at) = true
calls_any (tree.cons t ts) = calls_any t || calls_any ts
calls_any (tree.present t) = calls_any t
calls_any (tree.paren e at) = calls_any e
calls_any (tree.if_expr test first other at) =
    calls_any test || (calls_any first || calls_any other)
calls_any (tree.list items at) = calls_any items
calls_any (tree.comp item gens at) = calls_any item || calls_any gens
calls_any (tree.gen shape name from to at) = calls_any shape || (calls_any from || calls_any to)
calls_any (tree.index base place at) = calls_any base || calls_any place
calls_any (tree.prefix op e at) = calls_any e
calls_any (tree.binary op l r at) = calls_any l || calls_any r
calls_any (tree.type_of name args at) = calls_any args
calls_any (tree.shape_arg name shape) = calls_any shape
calls_any (tree.value_arg name value) = calls_any value
calls_any (tree.number n at) = false
calls_any (tree.truth b at) = false
calls_any (tree.variable name at) = false
calls_any tree.nil = false
calls_any tree.absent = false
calls_any other = true

abbrev pub TypesAreSame : Type 0
TypesAreSame = (fs : List FunDecl) (known : List Known) (shape : Tree) → calls_any shape ≡ false
    → early_type shape (names_alone known) ≡ early_type shape (seen fs known)

abbrev pub StartsAreSame : Type 0
StartsAreSame = (fs : List FunDecl) (known : List Known) (t : Shape) (start : Tree)
    → calls_any start ≡ false → come t start (names_alone known) ≡ come t start (seen fs known)
