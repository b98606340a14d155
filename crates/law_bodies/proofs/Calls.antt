-- What holds of each call.
use Rattle.std.proofs.Common.{ℕ, List, [], ◌∷◌, Option, None, Some}
use Rattle.cal_ast.specs.Tree as tree
use Rattle.cal_ast.specs.Tree.{Tree}
use Rattle.cal_model.specs.Actor.{Local}
use Rattle.cal_model.specs.Sound.{Each, EachCall, StartCalls}

-- .. in a start, if there is one
abbrev pub StartIs : (P Q : List ℕ → Type 0) → Option Tree → Type 0
StartIs P Q o = elim o [ None ↦ Unit {0} | Some e ↦ EachCall P Q e ]

module _ {P Q R S : List ℕ → Type 0} (p : (text : List ℕ) → P text → R text) (q : (text : List ℕ) → Q text → S text) where
  pub calls_as : (e : Tree) → EachCall P Q e → EachCall R S e
  calls_as (tree.cons t ts) h = (calls_as t h.0, calls_as ts h.1)
  calls_as (tree.present t) h = calls_as t h
  calls_as (tree.call name args at) h = (p name h.0, calls_as args h.1)
  calls_as (tree.paren e at) h = calls_as e h
  calls_as (tree.if_expr test first other at) h = (calls_as test h.0, calls_as first h.1, calls_as other h.2)
  calls_as (tree.list items at) h = calls_as items h
  calls_as (tree.comp item gens at) h = (calls_as item h.0, calls_as gens h.1)
  calls_as (tree.gen shape name from to at) h = (calls_as shape h.0, calls_as from h.1, calls_as to h.2)
  calls_as (tree.index base place at) h = (calls_as base h.0, calls_as place h.1)
  calls_as (tree.prefix op e at) h = calls_as e h
  calls_as (tree.binary op l r at) h = (calls_as l h.0, calls_as r h.1)
  calls_as (tree.type_of name args at) h = calls_as args h
  calls_as (tree.shape_arg name shape) h = calls_as shape h
  calls_as (tree.value_arg name value) h = calls_as value h
  calls_as (tree.assign name places value at) h = (calls_as places h.0, calls_as value h.1)
  calls_as (tree.call_stmt (tree.ident name place) args at) h = (q name h.0, calls_as args h.1)
  calls_as (tree.if_stmt test first other at) h = (calls_as test h.0, calls_as first h.1, calls_as other h.2)
  calls_as (tree.while_stmt test body at) h = (calls_as test h.0, calls_as body h.1)
  calls_as (tree.foreach_stmt shape name from to body at) h = (calls_as shape h.0, calls_as from h.1, calls_as to h.2, calls_as body h.3)
  calls_as (tree.block vars body at) h = (calls_as vars h.0, calls_as body h.1)
  calls_as (tree.var shape name start changes at) h = (calls_as shape h.0, calls_as start h.1)
  calls_as other h = tt

  starts_as : (o : Option Tree) → StartIs P Q o → StartIs R S o
  starts_as None h = tt
  starts_as (Some e) h = calls_as e h

  pub locals_as : (xs : List Local) → Each (StartCalls P Q) xs → Each (StartCalls R S) xs
  locals_as [] h = tt
  locals_as (x ∷ xs) h = (starts_as x.start h.0, locals_as xs h.1)

-- .. if it holds of any name
module _ {P Q : List ℕ → Type 0} (p : (text : List ℕ) → P text) (q : (text : List ℕ) → Q text) where
  pub calls_any : (e : Tree) → EachCall P Q e
  calls_any (tree.cons t ts) = (calls_any t, calls_any ts)
  calls_any (tree.present t) = calls_any t
  calls_any (tree.call name args at) = (p name, calls_any args)
  calls_any (tree.paren e at) = calls_any e
  calls_any (tree.if_expr test first other at) = (calls_any test, calls_any first, calls_any other)
  calls_any (tree.list items at) = calls_any items
  calls_any (tree.comp item gens at) = (calls_any item, calls_any gens)
  calls_any (tree.gen shape name from to at) = (calls_any shape, calls_any from, calls_any to)
  calls_any (tree.index base place at) = (calls_any base, calls_any place)
  calls_any (tree.prefix op e at) = calls_any e
  calls_any (tree.binary op l r at) = (calls_any l, calls_any r)
  calls_any (tree.type_of name args at) = calls_any args
  calls_any (tree.shape_arg name shape) = calls_any shape
  calls_any (tree.value_arg name value) = calls_any value
  calls_any (tree.assign name places value at) = (calls_any places, calls_any value)
  calls_any (tree.call_stmt (tree.ident name place) args at) = (q name, calls_any args)
  calls_any (tree.if_stmt test first other at) = (calls_any test, calls_any first, calls_any other)
  calls_any (tree.while_stmt test body at) = (calls_any test, calls_any body)
  calls_any (tree.foreach_stmt shape name from to body at) = (calls_any shape, calls_any from, calls_any to, calls_any body)
  calls_any (tree.block vars body at) = (calls_any vars, calls_any body)
  calls_any (tree.var shape name start changes at) = (calls_any shape, calls_any start)
  calls_any other = tt

  start_any : (o : Option Tree) → StartIs P Q o
  start_any None = tt
  start_any (Some e) = calls_any e

  pub locals_any : (xs : List Local) → Each (StartCalls P Q) xs
  locals_any [] = tt
  locals_any (x ∷ xs) = (start_any x.start, locals_any xs)
