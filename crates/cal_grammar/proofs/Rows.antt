-- Small sources, as the definitions have them: worked examples that are computed.
use Rattle.std.proofs.Common.{◌≡◌, ℕ, zero, suc, List, [], ◌∷◌, codes, length, ◌+◌, refl}
use Rattle.cal_grammar.specs.Program.{Outcome, Gave, Refused, TooHigh, Spent, read as read_rules}
use Rattle.cal_ast.specs.Tree.{Tree, absent, present, nil, cons, number, variable, paren, binary, if_stmt}
use Rattle.cal_ast.specs.declared.expr.BinOp.TheVariants as binaries
use Rattle.cal_lexer.specs.Lexeme.{Lexeme, Placed, placed}
use Rattle.cal_grammar.specs.Operators.{max_height}
use Rattle.cal_grammar.specs.Spells.{an_expr, a_stmt}
use Rattle.cal_grammar.specs.Rules.{part, whole, read}

-- `unit U : int X = ; end` is refused at 17
no_value : read max_height whole (placed Lexeme.Unit 0 ∷ placed (Lexeme.Name (codes "U")) 5 ∷ placed Lexeme.Colon 7 ∷ placed (Lexeme.Name (codes "int")) 9 ∷ placed (Lexeme.Name (codes "X")) 13 ∷ placed Lexeme.Equal 15 ∷ placed Lexeme.Semicolon 17 ∷ placed Lexeme.End 19 ∷ []) ≡ Refused (placed Lexeme.Semicolon 17 ∷ placed Lexeme.End 19 ∷ [])
unfolding read read_rules
no_value = refl

-- a number in two pairs fits the room 3
two_pairs : read 3 (part an_expr) (placed Lexeme.LeftParen 0 ∷ placed Lexeme.LeftParen 1 ∷ placed (Lexeme.Number 1) 2 ∷ placed Lexeme.RightParen 3 ∷ placed Lexeme.RightParen 4 ∷ []) ≡ Gave (paren (paren (number 1 2) 1) 0) []
unfolding read read_rules
two_pairs = refl

-- and in the room 2 the second closing parenthesis is too high
two_pairs_high : read 2 (part an_expr) (placed Lexeme.LeftParen 0 ∷ placed Lexeme.LeftParen 1 ∷ placed (Lexeme.Number 1) 2 ∷ placed Lexeme.RightParen 3 ∷ placed Lexeme.RightParen 4 ∷ []) ≡ TooHigh (placed Lexeme.RightParen 4 ∷ [])
unfolding read read_rules
two_pairs_high = refl

-- pairs round an operation are dropped, and it has the offset of the first
dropped_pairs : read 2 (part an_expr) (placed Lexeme.LeftParen 0 ∷ placed Lexeme.LeftParen 1 ∷ placed (Lexeme.Number 1) 2 ∷ placed Lexeme.Minus 3 ∷ placed (Lexeme.Number 2) 4 ∷ placed Lexeme.RightParen 5 ∷ placed Lexeme.RightParen 6 ∷ []) ≡ Gave (binary binaries.Sub (number 1 2) (number 2 4) 0) []
unfolding read read_rules
dropped_pairs = refl

-- operators of one level group to the left
to_the_left : read 3 (part an_expr) (placed (Lexeme.Number 1) 0 ∷ placed Lexeme.Minus 1 ∷ placed (Lexeme.Number 2) 2 ∷ placed Lexeme.Minus 3 ∷ placed (Lexeme.Number 3) 4 ∷ []) ≡ Gave (binary binaries.Sub (binary binaries.Sub (number 1 0) (number 2 2) 0) (number 3 4) 0) []
unfolding read read_rules
to_the_left = refl

-- n pairs round the number 1
open_pairs : ℕ → List Placed → List Placed
open_pairs zero l = l
open_pairs (suc n) l = placed Lexeme.LeftParen 0 ∷ open_pairs n l

close_pairs : ℕ → List Placed
close_pairs zero = []
close_pairs (suc n) = placed Lexeme.RightParen 0 ∷ close_pairs n

in_pairs : ℕ → Outcome Placed Tree
in_pairs n = read max_height (part an_expr) (open_pairs n (placed (Lexeme.Number 1) 0 ∷ close_pairs n))

left_of : Outcome Placed Tree → ℕ
left_of (Gave x left) = 0
left_of (Refused left) = 1000 + length left
left_of (TooHigh left) = 2000 + length left
left_of Spent = 3000

-- 255 pairs are read, and of 256 the last one is too high
many_pairs : left_of (in_pairs 255) ≡ 0
unfolding read read_rules in_pairs left_of open_pairs close_pairs
many_pairs = refl

too_many_pairs : left_of (in_pairs 256) ≡ 2001
unfolding read read_rules in_pairs left_of open_pairs close_pairs
too_many_pairs = refl

-- an empty file is refused at its end
empty : read max_height whole [] ≡ Refused []
unfolding read read_rules
empty = refl

-- ` + 1`, n times
more_ones : ℕ → List Placed → List Placed
more_ones zero l = l
more_ones (suc n) l = placed Lexeme.Plus 0 ∷ placed (Lexeme.Number 1) 0 ∷ more_ones n l

-- `unit U : int X = 1`, then 200 times ` + 1`, then ` ; ; end`: refused at the second `;`
second_semicolon : left_of (read max_height whole (placed Lexeme.Unit 0 ∷ placed (Lexeme.Name (codes "U")) 0 ∷ placed Lexeme.Colon 0 ∷ placed (Lexeme.Name (codes "int")) 0 ∷ placed (Lexeme.Name (codes "X")) 0 ∷ placed Lexeme.Equal 0 ∷ placed (Lexeme.Number 1) 0 ∷ more_ones 200 (placed Lexeme.Semicolon 0 ∷ placed Lexeme.Semicolon 0 ∷ placed Lexeme.End 0 ∷ []))) ≡ 1002
unfolding read read_rules left_of more_ones
second_semicolon = refl

-- an `elsif` is an `if` alone in the `else`, and one end closes both
else_if : read 3 (part a_stmt) (placed Lexeme.If 0 ∷ placed (Lexeme.Name (codes "a")) 1 ∷ placed Lexeme.Then 2 ∷ placed Lexeme.Elsif 3 ∷ placed (Lexeme.Name (codes "b")) 4 ∷ placed Lexeme.Then 5 ∷ placed Lexeme.EndIf 6 ∷ []) ≡ Gave (if_stmt (variable (codes "a") 1) nil (present (cons (if_stmt (variable (codes "b") 4) nil absent 3) nil)) 0) []
unfolding read read_rules
else_if = refl
