-- Heads of routines, and what is inside them, as calls are asked about them.
-- Trusted but for `body_broken` and `value_broken`: part of what a promise means.
use Rattle.std.specs.Prelude.{◌≡◌, List, ◌++◌, map}
use Rattle.rvc_base.specs.declared.scalar.Scalar.{Scalar}
use Rattle.cal_ast.specs.Tree.{Tree, listed}
use Rattle.cal_ast.specs.View.{member_tree, port_tree, var_tree}
use Rattle.cal_ast.specs.declared.member.Member.{Member}
use Rattle.cal_ast.specs.declared.member.PortDecl.{PortDecl}
use Rattle.cal_ast.specs.declared.member.VarDecl.{VarDecl}
use Rattle.cal_model.specs.Value.{kind_of_scalar}
use Rattle.cal_model.specs.Actor.{Local}
use Rattle.cal_model.specs.Kinding.{Names}
use Rattle.cal_model.specs.Sound.{with_locals}
use Rattle.cal_model.specs.View.{local_view}
use Rattle.const_env.specs.Counting.{names_view}
use Rattle.const_env.specs.declared.names.Names.{Names as DeclaredNames}
use Rattle.cal_check.specs.Violations.{Violation, broken, if_fine}
use Rattle.cal_check.specs.Constants.{stored_kind}
use Rattle.cal_check.specs.Statements.{names_behind, starts_broken}
use Rattle.cal_check.specs.Routines.{Head}
use Rattle.check_stmt.specs.Declaring.{seen_behind}
use Rattle.check_routine.specs.declared.formal.FoundFormals.{FoundFormals}
use Rattle.check_routine.specs.declared.function.FunHead.{FunHead}

abbrev pub ports_tree : List PortDecl → Tree
ports_tree ports = listed (map port_tree ports)

abbrev pub vars_tree : List VarDecl → Tree
vars_tree vars = listed (map var_tree vars)

abbrev pub members_tree : List Member → Tree
members_tree members = listed (map member_tree members)

abbrev pub formals_view : FoundFormals → List Local
formals_view f = map local_view f.locals.items

abbrev pub head_view : FunHead → Head
head_view h = record { formals = formals_view h.formals; result = h.result }

-- the names of formals are what stands behind them sees
abbrev pub AreSeen : FoundFormals → DeclaredNames → Type 0
AreSeen f names = seen_behind f.seen names ≡ with_locals (formals_view f) (names_view names)

-- an expression whose value is stored in a type
abbrev pub value_broken : Scalar → Tree → Names → List Violation
value_broken t e names = broken (stored_kind (kind_of_scalar t) e names)

-- locals, and an expression behind them whose value is stored in a type
abbrev pub body_broken : Tree → Scalar → Tree → Names → List Violation
body_broken vars t e names =
    starts_broken vars names ++ if_fine (names_behind vars names) (λ inner. value_broken t e inner)
