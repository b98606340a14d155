-- Calls of functions, whatever procedures are called.
use Rattle.std.proofs.Common.{ℕ, List}
use Rattle.cal_ast.specs.Tree as tree
use Rattle.cal_ast.specs.Tree.{Tree}
use Rattle.cal_model.specs.Sound.{EachCall}

-- what is said of the procedures may be left out
pub calls_any : (P Q : List ℕ → Type 0) (e : Tree) → EachCall P Q e → EachCall P (λ text. Unit {0}) e
calls_any P Q (tree.cons t ts) h = (calls_any P Q t h.0, calls_any P Q ts h.1)
calls_any P Q (tree.present t) h = calls_any P Q t h
calls_any P Q (tree.call name args at) h = (h.0, calls_any P Q args h.1)
calls_any P Q (tree.paren e at) h = calls_any P Q e h
calls_any P Q (tree.if_expr test first other at) h = (calls_any P Q test h.0, calls_any P Q first h.1, calls_any P Q other h.2)
calls_any P Q (tree.list items at) h = calls_any P Q items h
calls_any P Q (tree.comp item gens at) h = (calls_any P Q item h.0, calls_any P Q gens h.1)
calls_any P Q (tree.gen shape name from to at) h = (calls_any P Q shape h.0, calls_any P Q from h.1, calls_any P Q to h.2)
calls_any P Q (tree.index base place at) h = (calls_any P Q base h.0, calls_any P Q place h.1)
calls_any P Q (tree.prefix op e at) h = calls_any P Q e h
calls_any P Q (tree.binary op l r at) h = (calls_any P Q l h.0, calls_any P Q r h.1)
calls_any P Q (tree.type_of name args at) h = calls_any P Q args h
calls_any P Q (tree.shape_arg name shape) h = calls_any P Q shape h
calls_any P Q (tree.value_arg name value) h = calls_any P Q value h
calls_any P Q (tree.assign name places value at) h = (calls_any P Q places h.0, calls_any P Q value h.1)
calls_any P Q (tree.call_stmt (tree.ident name place) args at) h = (tt, calls_any P Q args h.1)
calls_any P Q (tree.if_stmt test first other at) h = (calls_any P Q test h.0, calls_any P Q first h.1, calls_any P Q other h.2)
calls_any P Q (tree.while_stmt test body at) h = (calls_any P Q test h.0, calls_any P Q body h.1)
calls_any P Q (tree.foreach_stmt shape name from to body at) h = (calls_any P Q shape h.0, calls_any P Q from h.1, calls_any P Q to h.2, calls_any P Q body h.3)
calls_any P Q (tree.block vars body at) h = (calls_any P Q vars h.0, calls_any P Q body h.1)
calls_any P Q (tree.var shape name start changes at) h = (calls_any P Q shape h.0, calls_any P Q start h.1)
calls_any P Q other h = tt
