-- Which names a part of an actor uses.
-- Trusted: part of what a promise means.
use Rattle.std.specs.Prelude.{ℕ, List}
use Rattle.cal_ast.specs.Tree as tree
use Rattle.cal_ast.specs.Tree.{Tree}

-- the variables and the functions that a part uses are such, and so are the variables that it assigns
abbrev pub OnlyUses : (P : List ℕ → Type 0) → Tree → Type 0
OnlyUses P (tree.variable text at) = P text
OnlyUses P (tree.call text args at) = P text × OnlyUses P args
OnlyUses P (tree.cons t ts) = OnlyUses P t × OnlyUses P ts
OnlyUses P (tree.present t) = OnlyUses P t
OnlyUses P (tree.paren e at) = OnlyUses P e
OnlyUses P (tree.if_expr test first other at) =
    OnlyUses P test × OnlyUses P first × OnlyUses P other
OnlyUses P (tree.list items at) = OnlyUses P items
OnlyUses P (tree.comp item gens at) = OnlyUses P item × OnlyUses P gens
OnlyUses P (tree.gen shape x from to at) = OnlyUses P shape × OnlyUses P from × OnlyUses P to
OnlyUses P (tree.index base place at) = OnlyUses P base × OnlyUses P place
OnlyUses P (tree.prefix op e at) = OnlyUses P e
OnlyUses P (tree.binary op l r at) = OnlyUses P l × OnlyUses P r
OnlyUses P (tree.type_of x args at) = OnlyUses P args
OnlyUses P (tree.shape_arg x shape) = OnlyUses P shape
OnlyUses P (tree.value_arg x value) = OnlyUses P value
OnlyUses P (tree.assign (tree.ident x place) places value at) =
    P x × OnlyUses P places × OnlyUses P value
OnlyUses P (tree.call_stmt x args at) = OnlyUses P args
OnlyUses P (tree.if_stmt test first other at) =
    OnlyUses P test × OnlyUses P first × OnlyUses P other
OnlyUses P (tree.while_stmt test body at) = OnlyUses P test × OnlyUses P body
OnlyUses P (tree.foreach_stmt shape x from to body at) =
    OnlyUses P shape × OnlyUses P from × OnlyUses P to × OnlyUses P body
OnlyUses P (tree.block vars body at) = OnlyUses P vars × OnlyUses P body
OnlyUses P (tree.var shape x start changes at) = OnlyUses P shape × OnlyUses P start
OnlyUses P (tree.function x formals result vars body at) =
    OnlyUses P formals × OnlyUses P result × OnlyUses P vars × OnlyUses P body
OnlyUses P (tree.procedure x formals vars body at) =
    OnlyUses P formals × OnlyUses P vars × OnlyUses P body
OnlyUses P (tree.action tagged initialize ins outs guards vars body at) =
    OnlyUses P ins × OnlyUses P outs × OnlyUses P guards × OnlyUses P vars × OnlyUses P body
OnlyUses P (tree.port shape x at) = OnlyUses P shape
OnlyUses P (tree.param shape x start at) = OnlyUses P shape × OnlyUses P start
OnlyUses P (tree.actor x params ins outs members at) =
    OnlyUses P params × OnlyUses P ins × OnlyUses P outs × OnlyUses P members
OnlyUses P (tree.pattern asked names repeat at) = OnlyUses P repeat
OnlyUses P (tree.output asked values repeat at) = OnlyUses P values × OnlyUses P repeat
OnlyUses P other = Unit {0}
