-- Expressions, types and statements with their sizes and bounds written out: each size of a type and each bound of a
-- generator is a number, with `-` before it if it is below 0. They have the same values.
-- Trusted: part of what a promise means.
use Rattle.std.specs.Prelude.{ℕ, suc, None, ℤ, pos, negsuc, if◌then◌else◌}
use Rattle.rvc_base.specs.Width.{is_num}
use Rattle.cal_ast.specs.declared.expr.PrefixOp.TheVariants.{Neg}
use Rattle.cal_ast.specs.declared.expr.BinOp.TheVariants.{Sub}
use Rattle.cal_ast.specs.Places.{begins}
use Rattle.cal_ast.specs.Tree as tree
use Rattle.cal_ast.specs.Tree.{Tree}
use Rattle.cal_model.specs.Kinding.{Judged, Fine, Broken, Names, kind, constant_number, with_known, with_counters, counter, type_judged}
use Rattle.cal_model.specs.Sound.{kind_of_judged}

-- A number by numbers and `-` alone. The least number isn't `-` before a number of the language.
abbrev pub number_tree : ℤ → ℕ → Tree
number_tree (pos n) at = tree.number n at
number_tree (negsuc n) at =
    if is_num (pos (suc n)) then tree.prefix Neg (tree.number (suc n) at) at
    else tree.binary Sub (tree.prefix Neg (tree.number n at) at) (tree.number 1 at) at

-- a constant expression by its number, if it has one
abbrev pub by_number : Judged ℤ → Tree → Tree
by_number (Fine z) e = number_tree z (begins e)
by_number (Broken rule at) e = e

abbrev pub constant_written : Tree → Names → Tree
constant_written e names = by_number (constant_number (kind e names) e names) e

abbrev mutual
  -- an expression or a type
  pub written : Tree → Names → Tree
  written (tree.cons t ts) names = tree.cons (written t names) (written ts names)
  written (tree.present t) names = tree.present (written t names)
  written (tree.call name args at) names = tree.call name (written args names) at
  written (tree.paren e at) names = tree.paren (written e names) at
  written (tree.if_expr test first other at) names =
      tree.if_expr (written test names) (written first names) (written other names) at
  written (tree.list items at) names = tree.list (written items names) at
  written (tree.comp item gens at) names =
      tree.comp (written item (with_counters gens names)) (gens_written gens names) at
  written (tree.index base place at) names =
      tree.index (written base names) (written place names) at
  written (tree.prefix op e at) names = tree.prefix op (written e names) at
  written (tree.binary op l r at) names = tree.binary op (written l names) (written r names) at
  written (tree.type_of name args at) names = tree.type_of name (written args names) at
  written (tree.shape_arg name shape) names = tree.shape_arg name (written shape names)
  written (tree.value_arg name value) names = tree.value_arg name (constant_written value names)
  written other names = other

  -- each generator sees the variables of those before it
  pub gens_written : Tree → Names → Tree
  gens_written (tree.cons (tree.gen shape (tree.ident name place) from to at) gens) names =
      tree.cons (tree.gen (written shape names) (tree.ident name place)
      (constant_written from names) (constant_written to names) at)
      (gens_written gens (with_known (counter name) names))
  gens_written other names = other

-- ---- statements

-- a variable that is declared inside, which is never a constant
abbrev pub with_inner : Tree → Names → Names
with_inner (tree.var shape (tree.ident name place) start changes at) names =
    with_known (record {
      name = name;
      kind = kind_of_judged (type_judged shape names);
      value = None;
      changes = changes;
    }) names
with_inner other names = names

abbrev pub var_written : Tree → Names → Tree
var_written (tree.var shape name start changes at) names =
    tree.var (written shape names) name (written start names) changes at
var_written other names = other

-- variables of a block, each of which sees those before it, and the names behind them
abbrev pub vars_written : Tree → Names → Tree
vars_written (tree.cons v vs) names =
    tree.cons (var_written v names) (vars_written vs (with_inner v names))
vars_written other names = other

abbrev pub behind_vars : Tree → Names → Names
behind_vars (tree.cons v vs) names = behind_vars vs (with_inner v names)
behind_vars other names = names

abbrev pub statement_written : Tree → Names → Tree
statement_written (tree.cons s ss) names =
    tree.cons (statement_written s names) (statement_written ss names)
statement_written (tree.present ss) names = tree.present (statement_written ss names)
statement_written (tree.assign name places value at) names =
    tree.assign name (written places names) (written value names) at
statement_written (tree.call_stmt name args at) names =
    tree.call_stmt name (written args names) at
statement_written (tree.if_stmt test first other at) names =
    tree.if_stmt (written test names) (statement_written first names)
    (statement_written other names) at
statement_written (tree.while_stmt test body at) names =
    tree.while_stmt (written test names) (statement_written body names) at
statement_written (tree.foreach_stmt shape (tree.ident name place) from to body at) names =
    tree.foreach_stmt (written shape names) (tree.ident name place) (written from names)
    (written to names) (statement_written body (with_known (counter name) names)) at
statement_written (tree.block vars body at) names =
    tree.block (vars_written vars names) (statement_written body (behind_vars vars names)) at
statement_written other names = other
