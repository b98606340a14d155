-- Lists of printable tokens and their parts.
use Rattle.std.proofs.Common.{List, [], ◌∷◌, ◌++◌}
use Rattle.std.specs.List.{All}
use Rattle.std.proofs.lemmas.List.Elements.{All-nil, All-cons, All-head, All-tail}
use Rattle.cal_lexer.specs.Lexeme.{Lexeme}
use Rattle.law_canon.specs.Printable.{IsPrintable, ArePrintable}

pub joined : (ws vs : List Lexeme) → ArePrintable ws → ArePrintable vs → ArePrintable (ws ++ vs)
joined [] vs some others = others
joined (w ∷ ws) vs some others = (some.0, joined ws vs some.1 others)

pub left : (ws vs : List Lexeme) → ArePrintable (ws ++ vs) → ArePrintable ws
left [] vs all = tt
left (w ∷ ws) vs all = (all.0, left ws vs all.1)

pub right : (ws vs : List Lexeme) → ArePrintable (ws ++ vs) → ArePrintable vs
right [] vs all = all
right (w ∷ ws) vs all = right ws vs all.1

pub each : (ws : List Lexeme) → ArePrintable ws → All IsPrintable ws
each [] all = All-nil IsPrintable
each (w ∷ ws) all = All-cons IsPrintable w ws all.0 (each ws all.1)

pub from_each : (ws : List Lexeme) → All IsPrintable ws → ArePrintable ws
from_each [] all = tt
from_each (w ∷ ws) all = (All-head IsPrintable w ws all, from_each ws (All-tail IsPrintable w ws all))
