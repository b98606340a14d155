-- What is promised of the reading of a part of a list of tokens.
-- Trusted: part of what a promise means.
use Rattle.std.specs.Prelude.{◌≡◌, ◌-◌, ℕ, List, [], ◌∷◌, take, drop}
use Rattle.rvc_base.specs.Rules.{spells_no_file, too_high}
use Rattle.rvc_base.specs.declared.refusal.Rule.{Rule}
use Rattle.rvc_base.specs.declared.refusal.Front.{Front as Answer}
use Rattle.rvc_base.specs.declared.refusal.Front.TheVariants.{Refused, Memory}
use Rattle.cal_grammar.specs.Reading.{IsRefused, IsTooHigh}
use Rattle.cal_ast.specs.Tree.{Tree}
use Rattle.cal_lexer.specs.Lexeme.{Placed, plain_tokens}
use Rattle.cal_lexer.specs.declared.token.Token.{Token}
use Rattle.cal_grammar.specs.Operators.{height, max_height}
use Rattle.cal_grammar.specs.Refusals.{place_in}
use Rattle.cal_grammar.specs.Spells.{Part, Spells}
use Rattle.cal_grammar.specs.Token.{offset}

-- the tokens from one number up to another, without the latter
abbrev pub between : ℕ → ℕ → List Token → List Placed
between from to tokens = plain_tokens (take (to - from) (drop from tokens))

-- where these end: the offset of the token behind them; if there is none, the end of the text
abbrev pub end_at : ℕ → ℕ → List Token → ℕ
end_at to end tokens = place_in end (plain_tokens (drop to tokens))

-- all these tokens together spell the tree as this part of the grammar
abbrev pub spells_as : Part → List Placed → Tree → Type 0
spells_as p ts x = Spells p ts [] x

-- which rule these tokens break as this part of the grammar, and where; they end at `end`
pub data BreaksAs (p : Part) (end : ℕ) (ts : List Placed) : Rule → ℕ → Type 0 where
  breaks_off : (left : List Placed) → IsRefused (spells_as p) ts left
      → BreaksAs p end ts spells_no_file (place_in end left)
  grows_high : (t : Placed) (left : List Placed)
      → IsTooHigh (spells_as p) height max_height ts (t ∷ left)
      → BreaksAs p end ts too_high (offset t)

-- a refusal names this file, and what its tokens break; running out of memory says nothing of them
abbrev pub IsRightlyAs : Part → ℕ → ℕ → List Placed → Answer → Type 0
IsRightlyAs p number end ts (Refused refusal) = (refusal.place.file ≡ number)
    × BreaksAs p end ts refusal.rule refusal.place.offset
IsRightlyAs p number end ts Memory = Unit {0}
