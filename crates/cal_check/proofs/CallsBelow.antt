-- What is written out calls what its source calls.
use Rattle.std.proofs.Common.{ℕ, suc, Bool, true, false, List, ℤ, pos, negsuc, Option, None, Some}
use Rattle.std.specs.Prelude.{if◌then◌else◌}
use Rattle.rvc_base.specs.Width.{is_num}
use Rattle.cal_ast.specs.declared.expr.PrefixOp.TheVariants.{Neg}
use Rattle.cal_ast.specs.declared.expr.BinOp.TheVariants.{Sub}
use Rattle.cal_ast.specs.Places.{begins}
use Rattle.cal_ast.specs.Tree as tree
use Rattle.cal_ast.specs.Tree.{Tree}
use Rattle.cal_model.specs.Value.{Shape}
use Rattle.cal_model.specs.Actor.{Local}
use Rattle.cal_model.specs.Kinding.{Judged, Fine, Broken, Names, constant_number, counter, kind, with_counters, with_known}
use Rattle.cal_model.specs.Sound.{Each, EachCall, StartCalls}
use Rattle.cal_check.specs.Routines.{first_met, is_awaited, local_if, local_of, locals_before, locals_of, met_if, start_of, type_in, type_met}
use Rattle.cal_check.specs.Statements.{type_of_var}
use Rattle.cal_check.specs.Written.{behind_vars, by_number, constant_written, gens_written, number_tree, statement_written, var_written, vars_written, with_inner, written}

module _ (P Q : List ℕ → Type 0) where
  if-calls : (b : Bool) (t u : Tree) → EachCall P Q t → EachCall P Q u → EachCall P Q (if b then t else u)
  if-calls true t u h i = h
  if-calls false t u h i = i

  number-calls : (z : ℤ) (at : ℕ) → EachCall P Q (number_tree z at)
  number-calls (pos n) at = tt
  number-calls (negsuc n) at =
      if-calls (is_num (pos (suc n))) (tree.prefix Neg (tree.number (suc n) at) at) (tree.binary Sub (tree.prefix Neg (tree.number n at) at) (tree.number 1 at) at) tt (tt, tt)

  by-number-calls : (j : Judged ℤ) (e : Tree) → EachCall P Q e → EachCall P Q (by_number j e)
  by-number-calls (Fine z) e h = number-calls z (begins e)
  by-number-calls (Broken rule at) e h = h

  constant-calls : (e : Tree) (names : Names) → EachCall P Q e → EachCall P Q (constant_written e names)
  constant-calls e names h = by-number-calls (constant_number (kind e names) e names) e h

  mutual
    pub written-calls : (e : Tree) (names : Names) → EachCall P Q e → EachCall P Q (written e names)
    written-calls (tree.cons t ts) names h = (written-calls t names h.0, written-calls ts names h.1)
    written-calls (tree.present t) names h = written-calls t names h
    written-calls (tree.call name args at) names h = (h.0, written-calls args names h.1)
    written-calls (tree.paren e at) names h = written-calls e names h
    written-calls (tree.if_expr test first other at) names h = (written-calls test names h.0, written-calls first names h.1, written-calls other names h.2)
    written-calls (tree.list items at) names h = written-calls items names h
    written-calls (tree.comp item gens at) names h = (written-calls item (with_counters gens names) h.0, gens-calls gens names h.1)
    written-calls (tree.index base place at) names h = (written-calls base names h.0, written-calls place names h.1)
    written-calls (tree.prefix op e at) names h = written-calls e names h
    written-calls (tree.binary op l r at) names h = (written-calls l names h.0, written-calls r names h.1)
    written-calls (tree.type_of name args at) names h = written-calls args names h
    written-calls (tree.shape_arg name shape) names h = written-calls shape names h
    written-calls (tree.value_arg name value) names h = constant-calls value names h
    written-calls other names h = h

    gens-calls : (gens : Tree) (names : Names) → EachCall P Q gens → EachCall P Q (gens_written gens names)
    gens-calls (tree.cons (tree.gen shape (tree.ident name place) from to at) gens) names h =
        ((written-calls shape names h.0.0, constant-calls from names h.0.1, constant-calls to names h.0.2), gens-calls gens (with_known (counter name) names) h.1)
    gens-calls other names h = h

  var-calls : (v : Tree) (names : Names) → EachCall P Q v → EachCall P Q (var_written v names)
  var-calls (tree.var shape name start changes at) names h = (written-calls shape names h.0, written-calls start names h.1)
  var-calls other names h = h

  vars-calls : (vars : Tree) (names : Names) → EachCall P Q vars → EachCall P Q (vars_written vars names)
  vars-calls (tree.cons v vs) names h = (var-calls v names h.0, vars-calls vs (with_inner v names) h.1)
  vars-calls other names h = h

  pub statement-calls : (s : Tree) (names : Names) → EachCall P Q s → EachCall P Q (statement_written s names)
  statement-calls (tree.cons s ss) names h = (statement-calls s names h.0, statement-calls ss names h.1)
  statement-calls (tree.present ss) names h = statement-calls ss names h
  statement-calls (tree.assign name places value at) names h = (written-calls places names h.0, written-calls value names h.1)
  statement-calls (tree.call_stmt (tree.ident name place) args at) names h = (h.0, written-calls args names h.1)
  statement-calls (tree.if_stmt test first other at) names h = (written-calls test names h.0, statement-calls first names h.1, statement-calls other names h.2)
  statement-calls (tree.while_stmt test body at) names h = (written-calls test names h.0, statement-calls body names h.1)
  statement-calls (tree.foreach_stmt shape (tree.ident name place) from to body at) names h =
      (written-calls shape names h.0, written-calls from names h.1, written-calls to names h.2, statement-calls body (with_known (counter name) names) h.3)
  statement-calls (tree.block vars body at) names h = (vars-calls vars names h.0, statement-calls body (behind_vars vars names) h.1)
  statement-calls other names h = h

  -- ---- locals

  abbrev OptionCalls : Option Tree → Type 0
  OptionCalls None = Unit {0}
  OptionCalls (Some e) = EachCall P Q e

  start-calls : (start : Tree) (names : Names) → EachCall P Q start → OptionCalls (start_of start names)
  start-calls (tree.present e) names h = written-calls e names h
  start-calls other names h = tt

  local-calls : (v : Tree) (names : Names) → EachCall P Q v → StartCalls P Q (local_of v names)
  local-calls (tree.var shape (tree.ident name place) start changes at) names h = start-calls start names h.1
  local-calls other names h = tt

  pub locals-call : (vars : Tree) (names : Names) → EachCall P Q vars → Each (StartCalls P Q) (locals_of vars names)
  locals-call (tree.cons v vs) names h = (local-calls v names h.0, locals-call vs (with_inner v names) h.1)
  locals-call other names h = tt

  -- ---- those before one whose type breaks a rule, and what stands for it

  local-if-calls : (j : Judged Shape) (x : Local) (xs : List Local) → StartCalls P Q x → Each (StartCalls P Q) xs → Each (StartCalls P Q) (local_if j x xs)
  local-if-calls (Fine t) x xs h rest = (h, rest)
  local-if-calls (Broken rule at) x xs h rest = tt

  pub before-call : (vars : Tree) (names : Names) → EachCall P Q vars → Each (StartCalls P Q) (locals_before vars names)
  before-call (tree.cons v vs) names h =
      local-if-calls (type_of_var v names) (local_of v names) (locals_before vs (with_inner v names)) (local-calls v names h.0) (before-call vs (with_inner v names) h.1)
  before-call other names h = tt

  type-calls : (v : Tree) → EachCall P Q v → EachCall P Q (type_in v)
  type-calls (tree.var shape name start changes at) h = h.0
  type-calls other h = tt

  type-met-calls : (b : Bool) (shape : Tree) → EachCall P Q shape → EachCall P Q (type_met b shape)
  type-met-calls true shape h = ((tt, ((h, tt, tt), tt)), tt)
  type-met-calls false shape h = tt

  met-calls : (j : Judged Shape) (v others : Tree) → EachCall P Q v → EachCall P Q others → EachCall P Q (met_if j v others)
  met-calls (Fine t) v others h rest = rest
  met-calls (Broken rule at) v others h rest = type-met-calls (is_awaited (Broken rule at)) (type_in v) (type-calls v h)

  pub met-call : (vars : Tree) (names : Names) → EachCall P Q vars → EachCall P Q (first_met vars names)
  met-call (tree.cons v vs) names h = met-calls (type_of_var v names) v (first_met vs (with_inner v names)) h.0 (met-call vs (with_inner v names) h.1)
  met-call other names h = tt
