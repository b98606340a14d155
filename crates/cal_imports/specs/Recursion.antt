-- Functions and procedures that call themselves, directly or indirectly (CAL Language Report: functions and procedures).
--
-- Each use of a name is written out in full, so a call leads to the routine whose text it has. A walk along all calls
-- ends only if none leads back to a routine that it comes from.
-- Trusted: part of what a promise means.
use Rattle.std.specs.Prelude.{ℕ, List, [], ◌∷◌, map}
use Rattle.rvc_base.specs.Rules.{recursion, unknown_name}
use Rattle.cal_ast.specs.Tree as tree
use Rattle.cal_ast.specs.Tree.{Tree}
use Rattle.cal_imports.specs.Answer.{Answer, Gives, and_then}
use Rattle.cal_imports.specs.Calls.{with_calls}
use Rattle.cal_imports.specs.Walk.{Edge, Graph, Node, Open, order_from, with_node}
use Rattle.cal_imports.specs.Whole.{Outer, Scope, members_of}

-- ---- routines as nodes

abbrev pub routine_node : (name : List ℕ) → (file : ℕ) → Tree → Node
routine_node name file decl = record { name = name; file = file; edges = with_calls decl [] }

abbrev pub with_routine : (file : ℕ) → Tree → List Node → List Node
with_routine file (tree.function (tree.ident name place) formals result vars body at) ns =
    with_node (routine_node name file
    (tree.function (tree.ident name place) formals result vars body at)) ns
with_routine file (tree.procedure (tree.ident name place) formals vars body at) ns =
    with_node (routine_node name file (tree.procedure (tree.ident name place) formals vars body at))
    ns
with_routine file other ns = ns

-- the functions and procedures among members
abbrev pub with_routines : (file : ℕ) → Tree → List Node → List Node
with_routines file (tree.cons m ms) ns = with_routines file ms (with_routine file m ns)
with_routines file other ns = ns

abbrev pub with_outer_routines : List Outer → List Node → List Node
with_outer_routines [] ns = ns
with_outer_routines (f ∷ fs) ns =
    with_outer_routines fs (with_node (routine_node f.name f.file f.decl) ns)

abbrev pub routines : Scope → List Node
routines s = with_outer_routines s.funs (with_routines s.file (members_of s.actor) [])

-- ---- walks along calls

abbrev pub edge_to : Node → Edge
edge_to n = record { to = n.name; at = 0 }

abbrev pub call_graph : List Node → Graph
call_graph nodes = record { nodes = nodes; missing = unknown_name; circle = recursion }

-- what leads to all routines
abbrev pub above_all : (file : ℕ) → List Node → Open
above_all file nodes = record { name = []; file = file; rest = map edge_to nodes }

-- all routines, each behind those that it calls, or a call that leads back
abbrev pub call_order : (file : ℕ) → List Node → Answer (List (List ℕ))
call_order file nodes = order_from (call_graph nodes) (above_all file nodes)

-- a scope whose functions and procedures don't call themselves
abbrev pub without_recursion : Scope → Answer Scope
without_recursion s = and_then (call_order s.file (routines s)) (λ _. Gives s)
