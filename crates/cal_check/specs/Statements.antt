-- The rules that statements break (ISO/IEC 23001-4, RVC-CAL: statements).
--
-- Statements don't depend on each other, so what each breaks is named. Variables that are declared inside go in order: if
-- the type of one breaks a rule, nothing behind it is judged.
-- Trusted: part of what a promise means.
use Rattle.std.specs.Prelude.{ℕ, Bool, List, [], ◌∷◌, ◌++◌, Option, None, Some, if◌then◌else◌}
use Rattle.rvc_base.specs.Rules.{unknown_name, wrong_kind, constant_assigned, wrong_number_of_arguments}
use Rattle.cal_ast.specs.Places.{begins}
use Rattle.cal_ast.specs.Tree as tree
use Rattle.cal_ast.specs.Tree.{Tree}
use Rattle.cal_model.specs.Value.{Kind, NumKind, BoolKind, ListKind, Shape, kind_of_type}
use Rattle.cal_model.specs.Actor.{Proc}
use Rattle.cal_model.specs.Statement.{proc_named}
use Rattle.cal_model.specs.Kinding.{Judged, Fine, Broken, and_so, Known, Names, meant_by, with_known, counter, kinds, arguments_fit, type_judged, counts}
use Rattle.cal_check.specs.Violations.{Violation, unless, broken, if_fine, while_fine}
use Rattle.cal_check.specs.Constants.{stored_kind}
use Rattle.cal_check.specs.Written.{with_inner}

-- ---- assignments

-- the kind of what stands at these places in what is of a kind, which begins at an offset
abbrev pub kind_at_places : Kind → List Kind → ℕ → Judged Kind
kind_at_places k [] at = Fine k
kind_at_places (ListKind n k) (NumKind ∷ places) at = kind_at_places k places at
kind_at_places k places at = Broken wrong_kind at

abbrev pub assigned_kind : Option Known → List Kind → ℕ → Judged Kind
assigned_kind None places at = Broken unknown_name at
assigned_kind (Some x) places at = kind_at_places x.kind places at

-- the indices, what stands there, the value, and whether it may be stored there
abbrev pub assignment_judged : List ℕ → ℕ → Tree → Tree → Names → Judged Kind
assignment_judged name place places value names =
    and_so (kinds places names) (λ ks.
    and_so (assigned_kind (meant_by name names) ks place) (λ k. stored_kind k value names))

-- what is assigned isn't a constant
abbrev pub may_be_assigned : Option Known → ℕ → List Violation
may_be_assigned None at = []
may_be_assigned (Some x) at = unless x.changes constant_assigned at

-- ---- calls

abbrev pub as_many : Judged Bool → ℕ → Judged Bool
as_many (Fine b) at = if b then Fine b else Broken wrong_number_of_arguments at
as_many (Broken rule p) at = Broken rule p

abbrev pub call_judged : Option Proc → Tree → ℕ → Names → Judged Bool
call_judged None args at names = Broken unknown_name at
call_judged (Some p) args at names = as_many (arguments_fit args p.formals names) at

-- ---- variables that are declared inside

-- the names behind a variable, if its type breaks no rule
abbrev pub behind : Judged Shape → Tree → Names → Judged Names
behind (Fine t) v names = Fine (with_inner v names)
behind (Broken rule at) v names = Broken rule at

abbrev pub type_of_var : Tree → Names → Judged Shape
type_of_var (tree.var shape name start changes at) names = type_judged shape names
type_of_var other names = Broken unknown_name 0

-- the names behind all of them
abbrev pub names_behind : Tree → Names → Judged Names
names_behind tree.nil names = Fine names
names_behind (tree.cons v vs) names =
    and_so (behind (type_of_var v names) v names) (λ inner. names_behind vs inner)
names_behind other names = Broken unknown_name 0

-- what a start breaks, whose type is this
abbrev pub start_broken : Judged Shape → Tree → Names → List Violation
start_broken (Fine t) (tree.present e) names = broken (stored_kind (kind_of_type t) e names)
start_broken t start names = []

abbrev pub var_broken : Tree → Names → List Violation
var_broken (tree.var shape name start changes at) names =
    start_broken (type_judged shape names) start names
var_broken other names = []

-- what the starts break of those up to the first whose type breaks a rule
abbrev pub starts_broken : Tree → Names → List Violation
starts_broken (tree.cons v vs) names =
    var_broken v names
    ++ while_fine (behind (type_of_var v names) v names) (λ inner. starts_broken vs inner)
starts_broken other names = []

-- ---- statements

-- a test is a truth value
abbrev pub test_judged : Tree → Names → Judged Kind
test_judged e names = stored_kind BoolKind e names

-- the variable of a loop has a number type
abbrev pub counter_judged : Tree → Names → Judged Shape
counter_judged shape names = and_so (type_judged shape names) (λ t. counts t (begins shape))

abbrev pub statement_broken : Tree → List Proc → Names → List Violation
statement_broken (tree.cons s ss) procs names =
    statement_broken s procs names ++ statement_broken ss procs names
statement_broken (tree.present ss) procs names = statement_broken ss procs names
statement_broken (tree.assign (tree.ident name place) places value at) procs names =
    broken (assignment_judged name place places value names)
    ++ may_be_assigned (meant_by name names) at
statement_broken (tree.call_stmt (tree.ident name place) args at) procs names =
    broken (call_judged (proc_named name procs) args at names)
statement_broken (tree.if_stmt test first other at) procs names =
    broken (test_judged test names)
    ++ (statement_broken first procs names ++ statement_broken other procs names)
statement_broken (tree.while_stmt test body at) procs names =
    broken (test_judged test names) ++ statement_broken body procs names
statement_broken (tree.foreach_stmt shape (tree.ident name place) from to body at) procs names =
    broken (counter_judged shape names)
    ++ (broken (stored_kind NumKind from names)
    ++ (broken (stored_kind NumKind to names)
    ++ statement_broken body procs (with_known (counter name) names)))
statement_broken (tree.block vars body at) procs names =
    starts_broken vars names
    ++ if_fine (names_behind vars names) (λ inner. statement_broken body procs inner)
statement_broken other procs names = []
