-- The actor of a class over the values of its parameters, as a leaf of a network.
-- Trusted: part of what a promise means.
use Rattle.std.specs.Prelude.{◌≡◌, ℕ, zero, suc, max, false, List, [], ◌∷◌, length, map}
use Rattle.cal_ast.specs.Tree as tree
use Rattle.cal_ast.specs.Tree.{Tree}
use Rattle.cal_model.specs.Actor.{Port, Actor}
use Rattle.cal_model.specs.Rates.{need, give}
use Rattle.cal_check.specs.Variables.{Spot, Given, VarDecl}
use Rattle.cal_check.specs.Routines.{FunDecl}
use Rattle.cal_check.specs.Actors as actors
use Rattle.cal_check.specs.Actors.{IsSource}
use Rattle.cal_imports.specs.Answer.{Gives}
use Rattle.cal_imports.specs.Sources.{Source}
use Rattle.cal_imports.specs.Whole.{Scope, Outer}
use Rattle.cal_imports.specs.Resolved.{resolved}
use Rattle.fnl_tree.specs.Tree.{Binding, Leaf}
use Rattle.fnl_flatten.specs.Head.{HeadPort, Head}

-- ---- an actor with the declarations of other files

-- a variable of another file, which doesn't change
abbrev pub var_of : Outer → VarDecl
var_of o = record {
  name = o.name;
  file = o.file;
  shape = shape_of o.decl;
  start = start_of o.decl;
  changes = false;
  is_param = false;
}
  where
    shape_of : Tree → Tree
    shape_of (tree.var shape name start changes at) = shape
    shape_of other = tree.nil

    start_of : Tree → Tree
    start_of (tree.var shape name start changes at) = start
    start_of other = tree.absent

abbrev pub fun_of : Outer → FunDecl
fun_of o = record { name = o.name; file = o.file; decl = o.decl }

-- what the checks of an actor take
abbrev pub source_of : Scope → actors.Source
source_of s = record {
  class = s.class;
  file = s.file;
  actor = s.actor;
  vars = map var_of s.vars;
  funs = map fun_of s.funs;
}

-- ---- an actor as a leaf

abbrev pub given_of : Binding → Given
given_of b = record {
  name = b.name;
  value = b.value;
  place = record { file = b.place.file; at = b.place.offset };
}

-- where a value that is missed is named
abbrev pub owner_of : Leaf → Spot
owner_of leaf = record { file = leaf.instance_at.file; at = leaf.instance_at.offset }

-- its class has a file that breaks no rule of scope, and the actor in it breaks no rule over these values
pub record IsActorOf (files : List Source) (leaf : Leaf) (actor : Actor) : Type 0 where
  pub scope : Scope
  pub is_scope : resolved files leaf.class ≡ Gives scope
  pub is_source : IsSource (source_of scope) (map given_of leaf.bindings) (owner_of leaf) actor

-- ---- its ports

-- the greatest rate of so many actions
abbrev pub most : (ℕ → ℕ) → ℕ → ℕ
most rate zero = 0
most rate (suc n) = max (rate n) (most rate n)

-- the ports of one direction from a number on, over what each action takes or gives
abbrev pub ports_from : ℕ → (ℕ → ℕ → ℕ) → ℕ → List Port → List HeadPort
ports_from k rate actions [] = []
ports_from k rate actions (p ∷ ps) =
    record { name = p.name; kind = p.kind; largest = most (λ a. rate a k) actions }
    ∷ ports_from (suc k) rate actions ps

abbrev pub head_of : Actor → Head
head_of actor = record {
  ins = ports_from 0 (need actor) (length actor.actions) actor.ins;
  outs = ports_from 0 (give actor) (length actor.actions) actor.outs;
}
