-- Operators, ends, and what a tree drops.
-- Trusted: part of what a promise means.
use Rattle.std.specs.Prelude.{ℕ, suc, max, Bool, true, false, ◌||◌}
use Rattle.cal_ast.specs.Places.{begins}
use Rattle.cal_ast.specs.declared.expr.PrefixOp.{PrefixOp}
use Rattle.cal_ast.specs.declared.expr.PrefixOp.TheVariants as prefixes
use Rattle.cal_ast.specs.declared.expr.BinOp.{BinOp}
use Rattle.cal_ast.specs.declared.expr.BinOp.TheVariants as binaries
use Rattle.cal_ast.specs.Tree.{Tree, absent, present, nil, cons, ident, tag, import_part, file, actor, unit, param, port, var, function, procedure, action, pattern, output, schedule, move, priority, type_of, shape_arg, value_arg, assign, call_stmt, if_stmt, while_stmt, foreach_stmt, block, number, truth, variable, call, paren, if_expr, list, comp, gen, index, prefix, binary}
use Rattle.cal_lexer.specs.Lexeme.{Lexeme}
use Rattle.cal_grammar.specs.Token.{same_word}

-- the level of a binary operator, from 1 for the tightest to 10 for the loosest; 0 for what is none
abbrev pub level_of : Lexeme → ℕ
level_of Lexeme.Or = 10
level_of Lexeme.OrOr = 10
level_of Lexeme.And = 9
level_of Lexeme.AndAnd = 9
level_of Lexeme.Bar = 8
level_of Lexeme.Caret = 7
level_of Lexeme.Ampersand = 6
level_of Lexeme.Equal = 5
level_of Lexeme.NotEqual = 5
level_of Lexeme.Less = 4
level_of Lexeme.LessEqual = 4
level_of Lexeme.Greater = 4
level_of Lexeme.GreaterEqual = 4
level_of Lexeme.ShiftLeft = 3
level_of Lexeme.ShiftRight = 3
level_of Lexeme.Plus = 2
level_of Lexeme.Minus = 2
level_of Lexeme.Star = 1
level_of Lexeme.Slash = 1
level_of Lexeme.Div = 1
level_of Lexeme.Mod = 1
level_of _ = 0

-- the level of the loosest operators
abbrev pub loosest : ℕ
loosest = 10

-- the binary operator that a word of a level stands for
abbrev pub binary_of : Lexeme → BinOp
binary_of Lexeme.OrOr = binaries.Or
binary_of Lexeme.And = binaries.And
binary_of Lexeme.AndAnd = binaries.And
binary_of Lexeme.Bar = binaries.BitOr
binary_of Lexeme.Caret = binaries.BitXor
binary_of Lexeme.Ampersand = binaries.BitAnd
binary_of Lexeme.Equal = binaries.Eq
binary_of Lexeme.NotEqual = binaries.Ne
binary_of Lexeme.Less = binaries.Lt
binary_of Lexeme.LessEqual = binaries.Le
binary_of Lexeme.Greater = binaries.Gt
binary_of Lexeme.GreaterEqual = binaries.Ge
binary_of Lexeme.ShiftLeft = binaries.Shl
binary_of Lexeme.ShiftRight = binaries.Shr
binary_of Lexeme.Plus = binaries.Add
binary_of Lexeme.Minus = binaries.Sub
binary_of Lexeme.Star = binaries.Mul
binary_of Lexeme.Slash = binaries.Div
binary_of Lexeme.Div = binaries.Div
binary_of Lexeme.Mod = binaries.Mod
binary_of _ = binaries.Or

-- whether a word is a prefix, and which operator it stands for
abbrev pub is_prefix : Lexeme → Bool
is_prefix Lexeme.Not = true
is_prefix Lexeme.Minus = true
is_prefix Lexeme.Tilde = true
is_prefix _ = false

abbrev pub prefix_of : Lexeme → PrefixOp
prefix_of Lexeme.Minus = prefixes.Neg
prefix_of Lexeme.Tilde = prefixes.BitNot
prefix_of _ = prefixes.Not

-- the long end of what begins with a word
abbrev pub long_end : Lexeme → Lexeme
long_end Lexeme.Actor = Lexeme.EndActor
long_end Lexeme.Unit = Lexeme.EndUnit
long_end Lexeme.Action = Lexeme.EndAction
long_end Lexeme.Initialize = Lexeme.EndInitialize
long_end Lexeme.Function = Lexeme.EndFunction
long_end Lexeme.Procedure = Lexeme.EndProcedure
long_end Lexeme.If = Lexeme.EndIf
long_end Lexeme.While = Lexeme.EndWhile
long_end Lexeme.Foreach = Lexeme.EndForeach
long_end Lexeme.Begin = Lexeme.EndBegin
long_end Lexeme.Schedule = Lexeme.EndSchedule
long_end Lexeme.Priority = Lexeme.EndPriority
long_end _ = Lexeme.End

-- whether w ends what begins with v: `end`, or its long end
abbrev pub ends : Lexeme → Lexeme → Bool
ends v w = same_word Lexeme.End w || same_word (long_end v) w

-- A pair of parentheses at an offset, round an expression: it is dropped round a binary or prefix operation and round
-- an `if`, which then have its offset.
abbrev pub group : ℕ → Tree → Tree
group q (if_expr test first other at) = if_expr test first other q
group q (prefix op operand at) = prefix op operand q
group q (binary op left right at) = binary op left right q
group q x = paren x q

-- an action under a tag, which its offset is then
abbrev pub with_tag : Tree → Tree → Tree
with_tag t (action none initialize patterns outputs guards vars body at) =
    action (present t) initialize patterns outputs guards vars body (begins t)
with_tag t x = x

-- the dotted path of an import, with one name more at its front
abbrev pub onto : Tree → Tree → Tree
onto first (import_part path last at) = import_part (cons first path) last at
onto first x = x

-- the same tree of an import at an offset
abbrev pub import_at : ℕ → Tree → Tree
import_at q (import_part path last at) = import_part path last q
import_at q x = x

-- a file in a package, whose word stands at an offset
abbrev pub with_package : ℕ → Tree → Tree → Tree
with_package q t (file none imports body at) = file (present t) imports body q
with_package q t x = x

-- the offset of the first of several imports, or of what comes after them
abbrev pub first_place : Tree → Tree → ℕ
first_place nil x = begins x
first_place imports x = begins imports

-- The height: how deep expressions, statements, types and pairs of parentheses nest, dropped pairs apart.
abbrev pub height : Tree → ℕ
height absent = 0
height (present t) = height t
height nil = 0
height (cons t u) = max (height t) (height u)
height (ident text at) = 0
height (tag parts at) = 0
height (import_part path last at) = 0
height (file in_package imports body at) = height body
height (actor nm params ins outs members at) =
    max (height params) (max (height ins) (max (height outs) (height members)))
height (unit nm members at) = height members
height (param shape nm start at) = max (height shape) (height start)
height (port shape nm at) = height shape
height (var shape nm start changes at) = max (height shape) (height start)
height (function nm formals result vars body at) =
    max (height formals) (max (height result) (max (height vars) (height body)))
height (procedure nm formals vars body at) = max (height formals) (max (height vars) (height body))
height (action t initialize patterns outputs guards vars body at) =
    max (height patterns) (max (height outputs)
    (max (height guards) (max (height vars) (height body))))
height (pattern from names repeat at) = height repeat
height (output to values repeat at) = max (height values) (height repeat)
height (schedule start moves at) = 0
height (move from tags to at) = 0
height (priority chains at) = 0
height (type_of nm args at) = suc (height args)
height (shape_arg nm shape) = height shape
height (value_arg nm value) = height value
height (assign nm places value at) = suc (max (height places) (height value))
height (call_stmt nm args at) = suc (height args)
height (if_stmt test first other at) = suc (max (height test) (max (height first) (height other)))
height (while_stmt test body at) = suc (max (height test) (height body))
height (foreach_stmt shape nm from to body at) =
    suc (max (height shape) (max (height from) (max (height to) (height body))))
height (block vars body at) = suc (max (height vars) (height body))
height (number value at) = 1
height (truth value at) = 1
height (variable text at) = 1
height (call nm args at) = suc (height args)
height (paren inner at) = suc (height inner)
height (if_expr test first other at) = suc (max (height test) (max (height first) (height other)))
height (list items at) = suc (height items)
height (comp item gens at) = suc (max (height item) (height gens))
height (gen shape nm from to at) = max (height shape) (max (height from) (height to))
height (index base i at) = suc (max (height base) (height i))
height (prefix op operand at) = suc (height operand)
height (binary op left right at) = suc (max (height left) (height right))

-- the greatest height that is read
abbrev pub max_height : ℕ
max_height = 256
