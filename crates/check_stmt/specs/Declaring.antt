-- Variables that are declared inside, as calls that judge them answer.
-- Trusted: part of what a promise means.
use Rattle.std.specs.Prelude.{◌≡◌, ℕ, Bool, true, List, [], ◌++◌, map, Option, Some, None}
use Rattle.std.specs.declared.result.Result.{Result}
use Rattle.std.specs.declared.result.Result.TheVariants.{Ok, Err}
use Rattle.cal_ast.specs.Tree as tree
use Rattle.cal_ast.specs.Tree.{Tree, listed}
use Rattle.cal_ast.specs.View.{var_tree}
use Rattle.cal_ast.specs.declared.member.VarDecl.{VarDecl}
use Rattle.rvc_base.specs.Rules.{not_constant}
use Rattle.cal_model.specs.Kinding.{Judged, Fine, Broken, Names, with_known}
use Rattle.const_env.specs.Counting.{declared_by, inner_variables, known_variable, names_inside, variable_view}
use Rattle.const_env.specs.declared.fault.KindFault.{KindFault}
use Rattle.const_env.specs.declared.inside.Variable.{Variable}
use Rattle.const_env.specs.declared.names.Names.{Names as DeclaredNames}
use Rattle.cal_model.specs.Actor.{Proc}
use Rattle.cal_model.specs.Value.{Kind, NumKind, Shape}
use Rattle.cal_model.specs.View.{shape_view}
use Rattle.cal_model.specs.declared.kind.Shape.{Shape as DeclaredShape}
use Rattle.cal_check.specs.Constants.{stored_kind}
use Rattle.cal_check.specs.Violations.{Violation, broken, if_fine, said}
use Rattle.cal_check.specs.Statements.{behind, counter_judged, names_behind, starts_broken, statement_broken, type_of_var, var_broken}
use Rattle.check_stmt.specs.Judging.{Refuses}

-- what a start breaks that is to be stored as one of a kind
abbrev pub start_stored : Kind → Tree → Names → List Violation
start_stored k (tree.present e) names = broken (stored_kind k e names)
start_stored k start names = []

-- a loop over a range, whose body breaks this
abbrev pub range_broken : Tree → Tree → Tree → Names → List Violation → List Violation
range_broken shape from to names inside =
    broken (counter_judged shape names)
    ++ (broken (stored_kind NumKind from names) ++ (broken (stored_kind NumKind to names) ++ inside))

-- a block of variables and statements
abbrev pub block_broken : Tree → Tree → List Proc → Names → List Violation
block_broken vars body procs names =
    starts_broken vars names
    ++ if_fine (names_behind vars names) (λ inner. statement_broken body procs inner)

-- what isn't constant is passed over, and breaks this part
abbrev pub IsPassed : {A : Type 0} → Bool → Judged A → Type 0
IsPassed passes j = (passes ≡ true) × ((at : ℕ) × (j ≡ Broken not_constant at))

-- a type, or none if it isn't constant and that is passed over, or another rule that it breaks
abbrev pub TypesSaid : Bool → Result (Option DeclaredShape) KindFault → Judged Shape → Type 0
TypesSaid passes (Ok (Some t)) j = j ≡ Fine (shape_view t)
TypesSaid passes (Ok None) j = IsPassed passes j
TypesSaid passes (Err f) j = Refuses f (said passes (broken j))

-- a variable, or none if its type isn't constant and that is passed over, or what its type or its start breaks
abbrev pub DeclaresSaid : Bool → Result (Option Variable) KindFault → Tree → Names → Type 0
DeclaresSaid passes (Ok (Some x)) v names =
    (said passes (var_broken v names) ≡ [])
    × (behind (type_of_var v names) v names ≡ Fine (with_known (known_variable (variable_view x)) names))
DeclaresSaid passes (Ok None) v names =
    (var_broken v names ≡ []) × IsPassed passes (behind (type_of_var v names) v names)
DeclaresSaid passes (Err f) v names =
    Refuses f (said passes (var_broken v names ++ broken (behind (type_of_var v names) v names)))

-- what is seen behind variables
abbrev pub seen_behind : List Variable → DeclaredNames → Names
seen_behind xs names = names_inside (declared_by xs (inner_variables names.inner)) names.env.now

-- All variables, or what a type or a start of one breaks. If what isn't constant is passed over, and the type of one
-- isn't, there are none.
abbrev pub DeclaresAllSaid : Bool → Result (Option (List Variable)) KindFault → List VarDecl
    → DeclaredNames → Names → Type 0
DeclaresAllSaid passes (Ok (Some xs)) vs names outer =
    (said passes (starts_broken (listed (map var_tree vs)) outer) ≡ [])
    × (names_behind (listed (map var_tree vs)) outer ≡ Fine (seen_behind xs names))
DeclaresAllSaid passes (Ok None) vs names outer =
    (said passes (starts_broken (listed (map var_tree vs)) outer) ≡ [])
    × IsPassed passes (names_behind (listed (map var_tree vs)) outer)
DeclaresAllSaid passes (Err f) vs names outer =
    Refuses f (said passes (starts_broken (listed (map var_tree vs)) outer
    ++ broken (names_behind (listed (map var_tree vs)) outer)))

-- all variables, or what a type or a start of one breaks
abbrev pub DeclaresAll : Result (List Variable) KindFault → List VarDecl → DeclaredNames → Names → Type 0
DeclaresAll (Ok xs) vs names outer =
    (starts_broken (listed (map var_tree vs)) outer ≡ [])
    × (names_behind (listed (map var_tree vs)) outer ≡ Fine (seen_behind xs names))
DeclaresAll (Err f) vs names outer =
    Refuses f (starts_broken (listed (map var_tree vs)) outer
    ++ broken (names_behind (listed (map var_tree vs)) outer))
