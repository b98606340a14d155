-- Small trees and their canonical texts, which are computed. (Texts with numbers are run in tests.)
use Rattle.std.proofs.Common.{◌≡◌, ℕ, true, false, List, [], ◌∷◌, ◌++◌, codes, refl}
use Rattle.cal_ast.specs.Tree.{Tree, absent, present, nil, cons, listed, ident, tag, import_part, file, actor, unit, param, port, var, function, procedure, action, pattern, output, schedule, move, priority, type_of, shape_arg, value_arg, assign, call_stmt, if_stmt, while_stmt, foreach_stmt, block, truth, variable, call, paren, if_expr, list, comp, gen, index, prefix, binary}
use Rattle.cal_ast.specs.declared.expr.PrefixOp.TheVariants as prefixes
use Rattle.cal_ast.specs.declared.expr.BinOp.TheVariants as binaries
use Rattle.cal_print.specs.Canon.{canon}

-- lines, each with LF behind it
lines : List (List ℕ) → List ℕ
lines [] = []
lines (text ∷ texts) = text ++ (10 ∷ lines texts)

a : Tree
a = variable (codes "a") 0

b : Tree
b = variable (codes "b") 0

c : Tree
c = variable (codes "c") 0

int : Tree
int = type_of (ident (codes "int") 0) nil 0

name_tag : List ℕ → Tree
name_tag text = tag (cons (ident text 0) nil) 0

-- an empty actor
empty_actor : canon (file absent nil (actor (ident (codes "A") 0) nil nil nil nil 0) 0) ≡ lines (codes "actor A ( ) ==> : end" ∷ [])
unfolding lines
empty_actor = refl

-- a package, imports, and a unit with a constant, a variable and a function
a_unit : canon (file (present (tag (listed (ident (codes "p") 0 ∷ ident (codes "q") 0 ∷ [])) 0))
    (listed (import_part (listed (ident (codes "r") 0 ∷ [])) absent 0 ∷ import_part (listed (ident (codes "r") 0 ∷ ident (codes "s") 0 ∷ [])) (present (ident (codes "t") 0)) 0 ∷ []))
    (unit (ident (codes "U") 0) (listed (var int (ident (codes "x") 0) (present a) false 0 ∷ var int (ident (codes "y") 0) (present b) true 0 ∷
    function (ident (codes "f") 0) (listed (port int (ident (codes "n") 0) 0 ∷ [])) int (listed (var int (ident (codes "m") 0) absent true 0 ∷ [])) (variable (codes "n") 0) 0 ∷ [])) 0) 0)
    ≡ lines (codes "package p . q ;" ∷ codes "import r . * ;" ∷ codes "import r . s . t ;" ∷ codes "unit U : int x = a ;" ∷ codes "int y := b ;" ∷
    codes "function f ( int n ) --> int var int m : n end" ∷ codes "end" ∷ [])
unfolding lines a b int
a_unit = refl

-- an actor with parameters, ports, a labelled action, an initialization, a schedule and priorities
an_actor : canon (file absent nil (actor (ident (codes "A") 0)
    (listed (param int (ident (codes "p") 0) absent 0 ∷ param int (ident (codes "q") 0) (present a) 0 ∷ []))
    (listed (port int (ident (codes "I") 0) 0 ∷ port int (ident (codes "J") 0) 0 ∷ []))
    (listed (port int (ident (codes "O") 0) 0 ∷ []))
    (listed (
    var int (ident (codes "x") 0) absent true 0 ∷
    action absent true nil (listed (output absent (listed (a ∷ [])) absent 0 ∷ [])) nil nil absent 0 ∷
    action (present (tag (listed (ident (codes "t") 0 ∷ ident (codes "u") 0 ∷ [])) 0)) false
    (listed (pattern (present (ident (codes "I") 0)) (listed (ident (codes "i") 0 ∷ ident (codes "j") 0 ∷ [])) absent 0 ∷ pattern (present (ident (codes "J") 0)) (listed (ident (codes "k") 0 ∷ [])) (present b) 0 ∷ []))
    (listed (output (present (ident (codes "O") 0)) (listed (a ∷ b ∷ [])) (present c) 0 ∷ []))
    (listed (a ∷ b ∷ [])) (listed (var int (ident (codes "v") 0) (present c) false 0 ∷ [])) (present (listed (call_stmt (ident (codes "g") 0) (listed (a ∷ b ∷ [])) 0 ∷ []))) 0 ∷
    schedule (ident (codes "s0") 0) (listed (move (ident (codes "s0") 0) (listed (name_tag (codes "t") ∷ name_tag (codes "w") ∷ [])) (ident (codes "s1") 0) 0 ∷ [])) 0 ∷
    priority (listed (listed (name_tag (codes "t") ∷ name_tag (codes "v") ∷ name_tag (codes "w") ∷ []) ∷ [])) 0 ∷ []))
    0) 0)
    ≡ lines (codes "actor A ( int p , int q = a ) int I , int J ==> int O : int x ;" ∷
    codes "initialize ==> [ a ] end" ∷
    codes "t . u : action I : [ i , j ] , J : [ k ] repeat b ==> O : [ a , b ] repeat c guard a , b var int v = c do g ( a , b ) ;" ∷
    codes "end" ∷
    codes "schedule fsm s0 : s0 ( t , w ) --> s1 ;" ∷
    codes "end" ∷
    codes "priority t > v > w ;" ∷
    codes "end" ∷
    codes "end" ∷ [])
unfolding lines a b c int name_tag
an_actor = refl

-- statements: an `if` alone in an `else` is written out, with an `end` of its own
some_statements : canon (procedure (ident (codes "p") 0) nil (listed (var int (ident (codes "x") 0) absent true 0 ∷ var int (ident (codes "y") 0) (present a) true 0 ∷ [])) (listed (
    if_stmt a (listed (assign (ident (codes "x") 0) (listed (b ∷ c ∷ [])) a 0 ∷ [])) (present (listed (if_stmt b nil absent 0 ∷ []))) 0 ∷
    while_stmt a nil 0 ∷
    foreach_stmt int (ident (codes "i") 0) a b nil 0 ∷
    block (listed (var int (ident (codes "z") 0) absent true 0 ∷ [])) (listed (assign (ident (codes "z") 0) nil a 0 ∷ [])) 0 ∷
    block nil nil 0 ∷ [])) 0)
    ≡ lines (codes "procedure p ( ) var int x , int y := a begin if a then x [ b ] [ c ] := a ;" ∷
    codes "else if b then end" ∷
    codes "end" ∷
    codes "while a do end" ∷
    codes "foreach int i in a .. b do end" ∷
    codes "begin var int z do z := a ;" ∷
    codes "end" ∷
    codes "begin end" ∷
    codes "end" ∷ [])
unfolding lines a b c int
some_statements = refl

-- an operand that is an operation or an `if` stands in parentheses, and so does such a base; what the tree has in
-- parentheses keeps them, and no part has them otherwise
to_the_left : canon (binary binaries.Sub (binary binaries.Sub a b 0) c 0) ≡ codes "( a - b ) - c "
unfolding a b c
to_the_left = refl

two_prefixes : canon (prefix prefixes.Not (prefix prefixes.Neg (prefix prefixes.BitNot a 0) 0) 0) ≡ codes "not ( - ( ~ a ) ) "
unfolding a
two_prefixes = refl

pair_in_an_operation : canon (binary binaries.Mul (paren a 0) (paren (paren b 0) 0) 0) ≡ codes "( a ) * ( ( b ) ) "
unfolding a b
pair_in_an_operation = refl

if_operand : canon (binary binaries.Add (if_expr a (binary binaries.Or a b 0) (truth true 0) 0) (call (codes "f") (listed (prefix prefixes.Neg b 0 ∷ c ∷ [])) 0) 0)
    ≡ lines (codes "( if a then a or b else true end" ∷ []) ++ codes ") + f ( - b , c ) "
unfolding lines a b c
if_operand = refl

loose_base : canon (index (index (binary binaries.BitAnd a b 0) (binary binaries.BitOr a b 0) 0) c 0) ≡ codes "( a & b ) [ a | b ] [ c ] "
unfolding a b c
loose_base = refl

some_lists : canon (binary binaries.Eq (list (listed (a ∷ prefix prefixes.Not b 0 ∷ [])) 0) (comp a (listed (gen int (ident (codes "i") 0) a b 0 ∷ gen int (ident (codes "j") 0) b c 0 ∷ [])) 0) 0)
    ≡ codes "[ a , not b ] = [ a : for int i in a .. b , for int j in b .. c ] "
unfolding a b c int
some_lists = refl

type_args : canon (type_of (ident (codes "List") 0) (listed (shape_arg (ident (codes "type") 0) int ∷ value_arg (ident (codes "size") 0) a ∷ [])) 0) ≡ codes "List ( type : int , size = a ) "
unfolding a int
type_args = refl
