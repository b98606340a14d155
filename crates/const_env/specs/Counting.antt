-- The names that are declared round an expression: formals, locals, and the variables of patterns, loops and generators.
-- They have no value, and hide constants.
-- Trusted but for `hide` and `numbers_judged`: part of what a promise means.
use Rattle.std.specs.Prelude.{ℕ, Bool, false, List, [], ◌∷◌, map, string_bytes, Option, None, Some}
use Rattle.std.specs.Borrow.{Bor}
use Rattle.cal_ast.specs.Places.{begins}
use Rattle.cal_ast.specs.declared.expr.Gen.{Gen}
use Rattle.cal_model.specs.Env.{Var}
use Rattle.cal_ast.specs.Tree as tree
use Rattle.cal_ast.specs.Tree.{Tree}
use Rattle.cal_model.specs.Value.{Kind, NumKind}
use Rattle.cal_model.specs.View.{fun_view, kind_view}
use Rattle.cal_model.specs.Expression.{span}
use Rattle.cal_model.specs.Kinding.{Judged, Fine, Broken, and_so, Known, Names, without, kind, constant_number, counts, type_judged}
use Rattle.rvc_base.specs.Rules.{wrong_kind}
use Rattle.const_env.specs.Held.{Kept, globals_of, last_first}
use Rattle.const_env.specs.Fitting.{capped}
use Rattle.const_env.specs.Meant.{name_of}
use Rattle.const_env.specs.declared.inside.Inside.{Inside}
use Rattle.const_env.specs.declared.inside.Inside.TheOpen.{Inside-F}
use Rattle.const_env.specs.declared.inside.Inside.TheFolds.{fold-Inside}
use Rattle.const_env.specs.declared.inside.Variable.{Variable as Declared}
use Rattle.const_env.specs.declared.names.Names.{Names as DeclaredNames}
use Rattle.const_env.specs.declared.meant.Meant.{Meant}

-- a name without a value, with its kind, and whether it may be assigned
pub record Variable : Type 0 where
  pub name : List ℕ
  pub kind : Kind
  pub changes : Bool

abbrev pub known_variable : Variable → Known
known_variable x = record { name = x.name; kind = x.kind; value = None; changes = x.changes }

-- the variable of a generator
abbrev pub counter_variable : List ℕ → Variable
counter_variable name = record { name = name; kind = NumKind; changes = false }

abbrev pub variable_view : Declared → Variable
variable_view x = record { name = string_bytes x.name; kind = kind_view x.kind; changes = x.changes }

-- the variables of generators, of which a later one stands inside
abbrev pub named_by : List Gen → List Variable → List Variable
named_by = last_first (λ g. counter_variable (name_of g))

-- variables, of which a later one stands inside
abbrev pub declared_by : List Declared → List Variable → List Variable
declared_by = last_first variable_view

-- those that are declared there, if there are any
abbrev pub own_variables : Option (Bor (List Declared)) → List Declared
own_variables None = []
own_variables (Some variables) = variables.now

abbrev pub outer_variables : Option (Bor (List Variable)) → List Variable
outer_variables None = []
outer_variables (Some variables) = variables.now

-- the generators stand inside the variables
abbrev pub inside_step : Inside-F (List Variable) → List Variable
inside_step x = named_by x.gens.now (declared_by (own_variables x.variables) (outer_variables x.outer))

-- the innermost first
abbrev pub all_variables : Inside → List Variable
all_variables = fold-Inside (List Variable) inside_step

abbrev pub inner_variables : Option (Bor Inside) → List Variable
inner_variables None = []
inner_variables (Some x) = all_variables x.now

-- the names of an environment, and those that are declared inside
abbrev pub names_inside : List Variable → Kept → Names
names_inside variables env = record {
  globals = globals_of env;
  locals = map known_variable variables;
  funs = map fun_view env.funs;
}

-- what an expression sees, as names with their kinds
abbrev pub names_view : DeclaredNames → Names
names_view n = names_inside (inner_variables n.inner) n.env.now

-- ---- what a name means

-- its kind, and whether it may be assigned
pub record Use : Type 0 where
  pub kind : Kind
  pub changes : Bool

abbrev pub use_of : Known → Use
use_of x = record { kind = x.kind; changes = x.changes }

-- a number, if no kind is said
abbrev pub meant_view : Meant → Use
meant_view m = record {
  kind = elim m.kind [ None ↦ NumKind | Some k ↦ kind_view k.now ];
  changes = m.changes;
}

-- ---- what hides constants

-- the variables that no name hides
abbrev pub hide : List Variable → List Var → List Var
hide [] vars = vars
hide (x ∷ xs) vars = without x.name (hide xs vars)

-- how many numbers a generator gives, as far as a list's limit
abbrev pub numbers_judged : Tree → Names → Judged ℕ
numbers_judged (tree.gen shape name from to at) names =
    and_so (type_judged shape names) (λ t.
    and_so (counts t (begins shape)) (λ s.
    and_so (constant_number (kind from names) from names) (λ a.
    and_so (constant_number (kind to names) to names) (λ b. Fine (capped (span a b))))))
numbers_judged other names = Broken wrong_kind 0
