-- The operators by their text.
-- Trusted: part of what a promise means.
use Rattle.std.specs.Prelude.{ℕ, List, [], ◌∷◌, Option, None, Some, option_map, if◌then◌else◌, codes}
use Rattle.std.specs.Str.{bytes_eq}
use Rattle.cal_ast.specs.declared.expr.PrefixOp.{PrefixOp}
use Rattle.cal_ast.specs.declared.expr.BinOp.{BinOp}
use Rattle.cal_ast.specs.declared.expr.BinOp.TheVariants as binaries
use Rattle.cal_lexer.specs.Lexeme.{Lexeme}
use Rattle.cal_lexer.specs.Words.{spelling}
use Rattle.cal_grammar.specs.Operators.{binary_of, prefix_of}
use Rattle.fnl_markup.specs.Tags.{Attribute, attribute}
use Rattle.fnl_expr.specs.Given.{given}

-- the word of the language that a text is, among some words
abbrev pub word_among : List Lexeme → List ℕ → Option Lexeme
word_among [] text = None
word_among (word ∷ words) text =
    if bytes_eq text (spelling word) then Some word else word_among words text

abbrev pub binary_words : List Lexeme
binary_words =
    Lexeme.Or ∷ Lexeme.OrOr ∷ Lexeme.And ∷ Lexeme.AndAnd ∷
    Lexeme.Bar ∷ Lexeme.Caret ∷ Lexeme.Ampersand ∷ Lexeme.Equal ∷ Lexeme.NotEqual ∷
    Lexeme.Less ∷ Lexeme.LessEqual ∷ Lexeme.Greater ∷ Lexeme.GreaterEqual ∷
    Lexeme.ShiftLeft ∷ Lexeme.ShiftRight ∷ Lexeme.Plus ∷ Lexeme.Minus ∷
    Lexeme.Star ∷ Lexeme.Slash ∷ Lexeme.Div ∷ Lexeme.Mod ∷ []

abbrev pub prefix_words : List Lexeme
prefix_words = Lexeme.Not ∷ Lexeme.Minus ∷ Lexeme.Tilde ∷ []

-- the binary operator that a text spells
abbrev pub binary_named : List ℕ → Option BinOp
binary_named text = option_map binary_of (word_among binary_words text)

-- the prefix that a text spells
abbrev pub prefix_named : List ℕ → Option PrefixOp
prefix_named text = option_map prefix_of (word_among prefix_words text)

-- the level of a binary operator, from 1 for the tightest to 10 for the loosest
abbrev pub level : BinOp → ℕ
level binaries.Or = 10
level binaries.And = 9
level binaries.BitOr = 8
level binaries.BitXor = 7
level binaries.BitAnd = 6
level binaries.Eq = 5
level binaries.Ne = 5
level binaries.Lt = 4
level binaries.Le = 4
level binaries.Gt = 4
level binaries.Ge = 4
level binaries.Shl = 3
level binaries.Shr = 3
level binaries.Add = 2
level binaries.Sub = 2
level binaries.Mul = 1
level binaries.Div = 1
level binaries.Mod = 1

abbrev pub binary_in : Option Attribute → Option BinOp
binary_in None = None
binary_in (Some (attribute name value at)) = binary_named value

abbrev pub prefix_in : Option Attribute → Option PrefixOp
prefix_in None = None
prefix_in (Some (attribute name value at)) = prefix_named value

-- the operators that attributes give

abbrev pub binary_given : List Attribute → Option BinOp
binary_given attributes = binary_in (given (codes "name") attributes)

abbrev pub prefix_given : List Attribute → Option PrefixOp
prefix_given attributes = prefix_in (given (codes "name") attributes)
