-- The calls in a part: of functions in expressions, and of procedures in statements.
-- Trusted: part of what a promise means.
use Rattle.std.specs.Prelude.{ℕ, List, [], ◌∷◌, ◌++◌}
use Rattle.cal_ast.specs.Tree as tree
use Rattle.cal_ast.specs.Tree.{Tree}
use Rattle.cal_imports.specs.Walk.{Edge}

abbrev pub with_call : (name : List ℕ) → (at : ℕ) → List Edge → List Edge
with_call name at found = found ++ record { to = name; at = at } ∷ []

-- calls with those in a part, in the order of its text, a call before those in its arguments
abbrev pub with_calls : Tree → List Edge → List Edge
with_calls (tree.cons t ts) found = with_calls ts (with_calls t found)
with_calls (tree.present t) found = with_calls t found
with_calls (tree.call name args at) found = with_calls args (with_call name at found)
with_calls (tree.paren e at) found = with_calls e found
with_calls (tree.if_expr test first other at) found =
    with_calls other (with_calls first (with_calls test found))
with_calls (tree.list items at) found = with_calls items found
with_calls (tree.comp item gens at) found = with_calls gens (with_calls item found)
with_calls (tree.gen shape name from to at) found =
    with_calls to (with_calls from (with_calls shape found))
with_calls (tree.index base place at) found = with_calls place (with_calls base found)
with_calls (tree.prefix op e at) found = with_calls e found
with_calls (tree.binary op l r at) found = with_calls r (with_calls l found)
with_calls (tree.type_of name args at) found = with_calls args found
with_calls (tree.shape_arg name shape) found = with_calls shape found
with_calls (tree.value_arg name value) found = with_calls value found
with_calls (tree.assign name places value at) found = with_calls value (with_calls places found)
with_calls (tree.call_stmt (tree.ident name place) args at) found =
    with_calls args (with_call name at found)
with_calls (tree.if_stmt test first other at) found =
    with_calls other (with_calls first (with_calls test found))
with_calls (tree.while_stmt test body at) found = with_calls body (with_calls test found)
with_calls (tree.foreach_stmt shape name from to body at) found =
    with_calls body (with_calls to (with_calls from (with_calls shape found)))
with_calls (tree.block vars body at) found = with_calls body (with_calls vars found)
with_calls (tree.port shape name at) found = with_calls shape found
with_calls (tree.var shape name start changes at) found = with_calls start (with_calls shape found)
with_calls (tree.function name formals result vars body at) found =
    with_calls body (with_calls vars (with_calls result (with_calls formals found)))
with_calls (tree.procedure name formals vars body at) found =
    with_calls body (with_calls vars (with_calls formals found))
with_calls other found = found

-- .. with those in two or three parts

abbrev pub with_both : (first second : Tree) → List Edge → List Edge
with_both first second found = with_calls second (with_calls first found)

abbrev pub with_three : (first second third : Tree) → List Edge → List Edge
with_three first second third found = with_calls third (with_both first second found)
