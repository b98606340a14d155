-- Where the parts of a tree begin.
-- Trusted: part of what a promise means.
use Rattle.std.specs.Prelude.{ℕ}
use Rattle.cal_ast.specs.Tree.{Tree, absent, present, nil, cons, ident, tag, import_part, file, actor, unit, param, port, var, function, procedure, action, pattern, output, schedule, move, priority, type_of, assign, call_stmt, if_stmt, while_stmt, foreach_stmt, block, number, truth, variable, call, paren, if_expr, list, comp, gen, index, prefix, binary}

-- the offset at which a part begins, or the first of several parts
abbrev pub begins : Tree → ℕ
begins (present x) = begins x
begins (cons x xs) = begins x
begins (ident text at) = at
begins (tag parts at) = at
begins (import_part path last at) = at
begins (file in_package imports body at) = at
begins (actor name params ins outs members at) = at
begins (unit name members at) = at
begins (param shape name start at) = at
begins (port shape name at) = at
begins (var shape name start changes at) = at
begins (function name formals result vars body at) = at
begins (procedure name formals vars body at) = at
begins (action t initialize patterns outputs guards vars body at) = at
begins (pattern from names repeat at) = at
begins (output to values repeat at) = at
begins (schedule start moves at) = at
begins (move from tags to at) = at
begins (priority chains at) = at
begins (type_of name args at) = at
begins (assign name places value at) = at
begins (call_stmt name args at) = at
begins (if_stmt test first other at) = at
begins (while_stmt test body at) = at
begins (foreach_stmt shape name from to body at) = at
begins (block vars body at) = at
begins (number value at) = at
begins (truth value at) = at
begins (variable text at) = at
begins (call name args at) = at
begins (paren inner at) = at
begins (if_expr test first other at) = at
begins (list items at) = at
begins (comp item gens at) = at
begins (gen shape name from to at) = at
begins (index base i at) = at
begins (prefix op operand at) = at
begins (binary op left right at) = at
begins _ = 0
