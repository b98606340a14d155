-- Worked rows: parts with their names written out in full, and the rules that others break.
use Rattle.std.proofs.Common.{◌≡◌, ℕ, ◌+◌, List, [], ◌∷◌, false, refl}
use Rattle.std.specs.Prelude.{codes}
use Rattle.rvc_base.specs.Rules.{unknown_name, declared_twice, not_as_asked}
use Rattle.cal_ast.specs.Tree as tree
use Rattle.cal_ast.specs.Tree.{Tree, listed}
use Rattle.cal_model.specs.Kinding.{Fine, Broken}
use Rattle.cal_scope.specs.declared.role.Role.TheVariants.{Variable, Function, Procedure}
use Rattle.cal_scope.specs.Names.{Names}
use Rattle.cal_scope.specs.Expressions.{expr_resolved, type_resolved}
use Rattle.cal_scope.specs.Statements.{stmt_resolved, vars_resolved}
use Rattle.cal_scope.specs.Members.{Ports, action_resolved}

-- the variable `n`, the function `f` and the procedure `p` of the file, and `k` of the unit `U`
abbrev names : Names
names = record {
  locals = [];
  globals = record { name = codes "n"; role = Variable; full = codes "n" }
      ∷ record { name = codes "f"; role = Function; full = codes "f" }
      ∷ record { name = codes "p"; role = Procedure; full = codes "p" }
      ∷ record { name = codes "k"; role = Variable; full = codes "U.k" } ∷ [];
}

-- the type `int`
abbrev int_at : ℕ → Tree
int_at at = tree.type_of (tree.ident (codes "int") at) tree.nil at

-- `n` and `k` in full, an unknown name, and a function that is used as a variable
own_name : expr_resolved (tree.variable (codes "n") 3) names ≡ Fine (tree.variable (codes "n") 3)
own_name = refl

imported_name : expr_resolved (tree.variable (codes "k") 3) names ≡ Fine (tree.variable (codes "U.k") 3)
imported_name = refl

unknown : expr_resolved (tree.variable (codes "m") 3) names ≡ Broken unknown_name 3
unknown = refl

function_as_variable : expr_resolved (tree.variable (codes "f") 3) names ≡ Broken not_as_asked 3
function_as_variable = refl

-- `f(k)` and `k(1)`
called : expr_resolved (tree.call (codes "f") (listed (tree.variable (codes "k") 2 ∷ [])) 0) names ≡ Fine (tree.call (codes "f") (listed (tree.variable (codes "U.k") 2 ∷ [])) 0)
called = refl

variable_called : expr_resolved (tree.call (codes "k") (listed (tree.number 1 2 ∷ [])) 0) names ≡ Broken not_as_asked 0
variable_called = refl

-- `[k : for int k in 1 .. k]`: the item sees the generator, and the generator doesn't see itself
abbrev comprehension : Tree → Tree
comprehension to = tree.comp (tree.variable (codes "k") 1) (listed (tree.gen (int_at 9) (tree.ident (codes "k") 13) (tree.number 1 18) to 5 ∷ [])) 0

hidden : expr_resolved (comprehension (tree.variable (codes "k") 23)) names ≡ Fine (comprehension (tree.variable (codes "U.k") 23))
hidden = refl

-- `List(size=k)` and `Byte`
sized : type_resolved (tree.type_of (tree.ident (codes "List") 0) (listed (tree.value_arg (tree.ident (codes "size") 5) (tree.variable (codes "k") 10) ∷ [])) 0) names
    ≡ Fine (tree.type_of (tree.ident (codes "List") 0) (listed (tree.value_arg (tree.ident (codes "size") 5) (tree.variable (codes "U.k") 10) ∷ [])) 0)
sized = refl

no_type : type_resolved (tree.type_of (tree.ident (codes "Byte") 4) tree.nil 4) names ≡ Broken unknown_name 4
no_type = refl

-- `int k = k, int j = k`: the first start sees the imported variable, the second the first local
abbrev local_at : (name : List ℕ) (start : Tree) (at : ℕ) → Tree
local_at name start at = tree.var (int_at at) (tree.ident name (at + 4)) (tree.present start) false at

locals : vars_resolved (listed (local_at (codes "k") (tree.variable (codes "k") 8) 0 ∷ local_at (codes "j") (tree.variable (codes "k") 19) 11 ∷ [])) [] names
    ≡ Fine (local_at (codes "k") (tree.variable (codes "U.k") 8) 0 ∷ local_at (codes "j") (tree.variable (codes "k") 19) 11 ∷ [])
locals = refl

-- the second declaration of a name
declared_again : vars_resolved (listed (local_at (codes "j") (tree.number 1 8) 0 ∷ local_at (codes "j") (tree.number 1 19) 11 ∷ [])) [] names ≡ Broken declared_twice 11
declared_again = refl

-- `k := 1;`, `p();` and `f();`
assigned : stmt_resolved (tree.assign (tree.ident (codes "k") 0) tree.nil (tree.number 1 5) 0) names ≡ Fine (tree.assign (tree.ident (codes "U.k") 0) tree.nil (tree.number 1 5) 0)
assigned = refl

procedure_called : stmt_resolved (tree.call_stmt (tree.ident (codes "p") 0) tree.nil 0) names ≡ Fine (tree.call_stmt (tree.ident (codes "p") 0) tree.nil 0)
procedure_called = refl

function_as_procedure : stmt_resolved (tree.call_stmt (tree.ident (codes "f") 0) tree.nil 0) names ≡ Broken not_as_asked 0
function_as_procedure = refl

-- only the body of `foreach int k in 1 .. k do n := k; end` sees its variable
abbrev counted : Tree → Tree
counted to = tree.foreach_stmt (int_at 8) (tree.ident (codes "k") 12) (tree.number 1 17) to (listed (tree.assign (tree.ident (codes "n") 27) tree.nil (tree.variable (codes "k") 32) 27 ∷ [])) 0

loop_body : stmt_resolved (counted (tree.variable (codes "k") 22)) names ≡ Fine (counted (tree.variable (codes "U.k") 22))
loop_body = refl

-- `action In:[k] repeat k ==> guard k end`: guards see the pattern's variable, and its `repeat` doesn't
abbrev ports : Ports
ports = record { ins = codes "In" ∷ []; outs = codes "Out" ∷ [] }

abbrev taking : (port : List ℕ) (times : Tree) → Tree
taking port times =
    tree.action tree.absent false (listed (tree.pattern (tree.present (tree.ident port 7)) (listed (tree.ident (codes "k") 11 ∷ [])) (tree.present times) 7 ∷ []))
    tree.nil (listed (tree.variable (codes "k") 36 ∷ [])) tree.nil tree.absent 0

taken : action_resolved (taking (codes "In") (tree.variable (codes "k") 21)) ports names ≡ Fine (taking (codes "In") (tree.variable (codes "U.k") 21))
taken = refl

-- a port of the other direction, and none
other_direction : action_resolved (taking (codes "Out") (tree.variable (codes "k") 21)) ports names ≡ Broken not_as_asked 7
other_direction = refl

no_port : action_resolved (taking (codes "In1") (tree.variable (codes "k") 21)) ports names ≡ Broken unknown_name 7
no_port = refl
