-- Trees that are equal, ignoring offsets.
-- Trusted: part of what a promise means.
use Rattle.std.specs.Prelude.{◌≡◌}
use Rattle.cal_ast.specs.Tree.{Tree, absent, present, nil, cons, ident, tag, import_part, file, actor, unit, param, port, var, function, procedure, action, pattern, output, schedule, move, priority, type_of, shape_arg, value_arg, assign, call_stmt, if_stmt, while_stmt, foreach_stmt, block, number, truth, variable, call, paren, if_expr, list, comp, gen, index, prefix, binary}

-- the tree with 0 for each offset
abbrev pub unplaced : Tree → Tree
unplaced absent = absent
unplaced (present t) = present (unplaced t)
unplaced nil = nil
unplaced (cons t u) = cons (unplaced t) (unplaced u)
unplaced (ident text at) = ident text 0
unplaced (tag parts at) = tag (unplaced parts) 0
unplaced (import_part path last at) = import_part (unplaced path) (unplaced last) 0
unplaced (file in_package imports body at) =
    file (unplaced in_package) (unplaced imports) (unplaced body) 0
unplaced (actor name params ins outs members at) =
    actor (unplaced name) (unplaced params) (unplaced ins) (unplaced outs) (unplaced members) 0
unplaced (unit name members at) = unit (unplaced name) (unplaced members) 0
unplaced (param shape name start at) = param (unplaced shape) (unplaced name) (unplaced start) 0
unplaced (port shape name at) = port (unplaced shape) (unplaced name) 0
unplaced (var shape name start changes at) =
    var (unplaced shape) (unplaced name) (unplaced start) changes 0
unplaced (function name formals result vars body at) =
    function (unplaced name) (unplaced formals) (unplaced result) (unplaced vars) (unplaced body) 0
unplaced (procedure name formals vars body at) =
    procedure (unplaced name) (unplaced formals) (unplaced vars) (unplaced body) 0
unplaced (action tags initialize patterns outputs guards vars body at) =
    action (unplaced tags) initialize (unplaced patterns) (unplaced outputs) (unplaced guards)
    (unplaced vars) (unplaced body) 0
unplaced (pattern from names repeat at) =
    pattern (unplaced from) (unplaced names) (unplaced repeat) 0
unplaced (output to values repeat at) = output (unplaced to) (unplaced values) (unplaced repeat) 0
unplaced (schedule start moves at) = schedule (unplaced start) (unplaced moves) 0
unplaced (move from tags to at) = move (unplaced from) (unplaced tags) (unplaced to) 0
unplaced (priority chains at) = priority (unplaced chains) 0
unplaced (type_of name args at) = type_of (unplaced name) (unplaced args) 0
unplaced (shape_arg name shape) = shape_arg (unplaced name) (unplaced shape)
unplaced (value_arg name value) = value_arg (unplaced name) (unplaced value)
unplaced (assign name places value at) = assign (unplaced name) (unplaced places) (unplaced value) 0
unplaced (call_stmt name args at) = call_stmt (unplaced name) (unplaced args) 0
unplaced (if_stmt test first other at) = if_stmt (unplaced test) (unplaced first) (unplaced other) 0
unplaced (while_stmt test body at) = while_stmt (unplaced test) (unplaced body) 0
unplaced (foreach_stmt shape name from to body at) =
    foreach_stmt (unplaced shape) (unplaced name) (unplaced from) (unplaced to) (unplaced body) 0
unplaced (block vars body at) = block (unplaced vars) (unplaced body) 0
unplaced (number value at) = number value 0
unplaced (truth value at) = truth value 0
unplaced (variable text at) = variable text 0
unplaced (call name args at) = call name (unplaced args) 0
unplaced (paren inner at) = paren (unplaced inner) 0
unplaced (if_expr test first other at) = if_expr (unplaced test) (unplaced first) (unplaced other) 0
unplaced (list items at) = list (unplaced items) 0
unplaced (comp item gens at) = comp (unplaced item) (unplaced gens) 0
unplaced (gen shape name from to at) =
    gen (unplaced shape) (unplaced name) (unplaced from) (unplaced to) 0
unplaced (index base place at) = index (unplaced base) (unplaced place) 0
unplaced (prefix op operand at) = prefix op (unplaced operand) 0
unplaced (binary op left right at) = binary op (unplaced left) (unplaced right) 0

-- equal, ignoring offsets
abbrev pub IsEqualApart : Tree → Tree → Type 0
IsEqualApart t u = unplaced t ≡ unplaced u
