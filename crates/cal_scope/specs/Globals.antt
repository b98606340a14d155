-- What a file's own declarations declare (CAL Language Report, scoping).
--
-- Parameters, variables, functions and procedures share one scope. Actions, schedules and priorities declare no name of
-- it: tags, states and ports are names of other kinds.
-- Trusted: part of what a promise means.
use Rattle.std.specs.Prelude.{ℕ, List, [], ◌∷◌, ◌++◌, is_some, if◌then◌else◌}
use Rattle.rvc_base.specs.Rules.{declared_twice}
use Rattle.cal_ast.specs.Tree as tree
use Rattle.cal_ast.specs.Tree.{Tree}
use Rattle.cal_model.specs.Kinding.{Judged, Fine, Broken, and_so}
use Rattle.cal_scope.specs.declared.role.Role.{Role}
use Rattle.cal_scope.specs.declared.role.Role.TheVariants.{Variable, Function, Procedure}
use Rattle.cal_scope.specs.Names.{Global, global_named}

-- a name of a file, before whose text in full its class and a dot stand if the file is a unit that others import
abbrev pub global : (before name : List ℕ) → Role → Global
global before name role = record { name = name; role = role; full = before ++ name }

-- the names with one more, which is to be new
abbrev pub with_global : Global → (at : ℕ) → List Global → Judged (List Global)
with_global g at here = if is_some (global_named g.name here) then Broken declared_twice at
    else Fine (here ++ g ∷ [])

-- the names with one more, of a file
abbrev pub with_named : (before name : List ℕ) → Role → (at : ℕ) → List Global
    → Judged (List Global)
with_named before name role at here = with_global (global before name role) at here

-- the names with that of a declaration, if it declares one
abbrev pub with_declared : List ℕ → Tree → List Global → Judged (List Global)
with_declared before (tree.param shape (tree.ident name place) start at) here =
    with_named before name Variable at here
with_declared before (tree.var shape (tree.ident name place) start changes at) here =
    with_named before name Variable at here
with_declared before (tree.function (tree.ident name place) formals result vars body at) here =
    with_named before name Function at here
with_declared before (tree.procedure (tree.ident name place) formals vars body at) here =
    with_named before name Procedure at here
with_declared before other here = Fine here

-- the names with those of declarations in order, each of which is to be new
abbrev pub with_all_declared : List ℕ → Tree → List Global → Judged (List Global)
with_all_declared before (tree.cons m ms) here = and_so (with_declared before m here)
    (λ next. with_all_declared before ms next)
with_all_declared before other here = Fine here

-- the names of an actor: of its parameters, and of its members
abbrev pub names_of_actor : (params members : Tree) → Judged (List Global)
names_of_actor params members = and_so (with_all_declared [] params [])
    (λ here. with_all_declared [] members here)
