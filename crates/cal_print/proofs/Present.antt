-- If there are parts, what introduces them stands.
use Rattle.std.proofs.Common.{◌≡◌, ◌==◌, false, List, [], ◌∷◌, map, length, refl}
use Rattle.cal_ast.specs.Tree.{Tree, listed}
use Rattle.cal_lexer.specs.Lexeme.{Lexeme}
use Rattle.cal_print.specs.Tokens.{where_any}

pub where_not_empty : {X : Type 0} (f : X → Tree) (all : List X) (ws : List Lexeme) → false ≡ (length all == 0) → where_any (listed (map f all)) ws ≡ ws
where_not_empty f [] ws h = cc
where_not_empty f (x ∷ xs) ws h = refl
