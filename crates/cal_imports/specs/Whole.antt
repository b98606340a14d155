-- An actor with each declaration of other files to which its imports lead, each name written out in full, or a rule of
-- scope that one of these files breaks (CAL Language Report, scoping).
-- Trusted: part of what a promise means.
use Rattle.std.specs.Prelude.{ℕ, true, false, List, [], ◌∷◌, ◌++◌, Option, None, Some}
use Rattle.rvc_base.specs.Rules.{import_not_found, import_cycle, not_as_asked}
use Rattle.cal_ast.specs.Tree as tree
use Rattle.cal_ast.specs.Tree.{Tree}
use Rattle.cal_imports.specs.Answer.{Answer, Gives, Refuses, and_then}
use Rattle.cal_imports.specs.OneFile.{source_resolved}
use Rattle.cal_imports.specs.Sources.{Source, as_asked, dot, dotted, imports_of, source_named}
use Rattle.cal_imports.specs.Walk.{Edge, Graph, Node, entering, order_from, with_node}

-- ---- in which order files are judged

-- an import leads to the file of its class
abbrev pub import_edges : Tree → List Edge
import_edges (tree.cons (tree.import_part path last at) is) =
    record { to = dotted path; at = at } ∷ import_edges is
import_edges other = []

abbrev pub file_node : Source → Node
file_node s = record { name = s.name; file = s.file; edges = import_edges (imports_of s.tree) }

abbrev pub with_file_nodes : List Source → List Node → List Node
with_file_nodes [] ns = ns
with_file_nodes (s ∷ ss) ns = with_file_nodes ss (with_node (file_node s) ns)

abbrev pub file_graph : List Source → Graph
file_graph files = record {
  nodes = with_file_nodes files [];
  missing = import_not_found;
  circle = import_cycle;
}

-- The classes to which the imports of a file lead, each behind those to which its own imports lead: so what a unit's
-- constants are made of has its value first.
abbrev pub import_order : List Source → Source → Answer (List (List ℕ))
import_order files s = order_from (file_graph files) (entering (file_node s))

-- ---- what other files declare

-- a declaration of another file, and the text that stands for it
pub record Outer : Type 0 where
  pub name : List ℕ
  pub file : ℕ
  pub decl : Tree

pub record Gathered : Type 0 where
  pub vars : List Outer
  pub funs : List Outer

abbrev pub outer : (class : List ℕ) → (file : ℕ) → (name : List ℕ) → Tree → Outer
outer class file name decl = record { name = class ++ dot ∷ name; file = file; decl = decl }

abbrev pub with_declaration : (class : List ℕ) → (file : ℕ) → Tree → Gathered → Gathered
with_declaration class file (tree.var shape (tree.ident name place) start changes at) g =
    record {
      vars = g.vars ++ outer class file name
          (tree.var shape (tree.ident name place) start changes at) ∷ [];
      funs = g.funs;
    }
with_declaration class file (tree.function (tree.ident name place) formals result vars body at) g =
    record {
      vars = g.vars;
      funs = g.funs ++ outer class file name
          (tree.function (tree.ident name place) formals result vars body at) ∷ [];
    }
with_declaration class file other g = g

abbrev pub with_declarations : (class : List ℕ) → (file : ℕ) → Tree → Gathered → Gathered
with_declarations class file (tree.cons m ms) g =
    with_declarations class file ms (with_declaration class file m g)
with_declarations class file other g = g

abbrev pub members_of : Tree → Tree
members_of (tree.unit name members at) = members
members_of (tree.actor name params ins outs members at) = members
members_of other = tree.nil

-- the declarations of a unit, which is to be what the import asks for
abbrev pub source_gathered : List Source → Source → Gathered → Answer Gathered
source_gathered files s g =
    and_then (as_asked true s)
    (λ _. and_then (source_resolved files s)
    (λ body. Gives (with_declarations s.name s.file (members_of body) g)))

abbrev pub unit_gathered : List Source → Option Source → Gathered → Answer Gathered
unit_gathered files None g = Gives g
unit_gathered files (Some s) g = source_gathered files s g

abbrev pub units_gathered : List Source → List (List ℕ) → Gathered → Answer Gathered
units_gathered files [] g = Gives g
units_gathered files (name ∷ names) g =
    and_then (unit_gathered files (source_named name files) g)
    (λ next. units_gathered files names next)

-- ---- an actor with what its imports lead to

pub record Scope : Type 0 where
  pub class : List ℕ
  pub file : ℕ
  pub actor : Tree
  pub vars : List Outer
  pub funs : List Outer

-- an actor's body, which is to be one
abbrev pub scope_of : (class : List ℕ) → (file : ℕ) → Gathered → Tree → Answer Scope
scope_of class file g (tree.actor name params ins outs members at) = Gives (record {
  class = class;
  file = file;
  actor = tree.actor name params ins outs members at;
  vars = g.vars;
  funs = g.funs;
})
scope_of class file g other = Refuses not_as_asked file 0

-- the files are judged in the order in which they are gathered, and the actor last
abbrev pub actor_gathered : List Source → Source → Answer Scope
actor_gathered files s =
    and_then (as_asked false s) (λ _.
    and_then (import_order files s) (λ names.
    and_then (units_gathered files names (record { vars = []; funs = [] })) (λ g.
    and_then (source_resolved files s) (λ body. scope_of s.name s.file g body))))
