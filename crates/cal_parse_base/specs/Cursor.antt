-- Where the parser stands: the tokens that are left, as plain ones.
-- Not trusted: no promise is read with it.
use Rattle.std.specs.Prelude.{◌≡◌, ℕ, List, ◌∷◌, Bool, true, false, Result, Ok, Err, string_bytes}
use Rattle.cal_ast.specs.declared.ident.Ident.{Ident}
use Rattle.cal_parse_base.specs.declared.fault.Fault.{Fault}
use Rattle.cal_parse_base.specs.declared.fault.Fault.TheVariants as faults
use Rattle.cal_grammar.specs.Program.{ahead}
use Rattle.cal_lexer.specs.Lexeme.{Lexeme, placed, plain_tokens}
use Rattle.cal_lexer.specs.declared.token.Token.{Token}
use Rattle.cal_grammar.specs.Operators.{ends}
use Rattle.cal_grammar.specs.Token.{here, names, same_word}

-- whether there is a token of such a kind at the front
abbrev pub stands : (Lexeme → Bool) → List Token → Bool
stands f ts = here f (ahead (plain_tokens ts))

-- a token of this kind and offset was taken
abbrev pub Took : Lexeme → ℕ → List Token → List Token → Type 0
Took k at old new = plain_tokens old ≡ placed k at ∷ plain_tokens new

-- what was asked of the front doesn't hold, and nothing was taken
abbrev pub Stays : (Lexeme → Bool) → List Token → List Token → Type 0
Stays f old new = (stands f old ≡ false) × (new ≡ old)

-- a name was taken, or none stands there
abbrev pub TookName : Result Ident Fault → List Token → List Token → Type 0
TookName (Ok i) old new = Took (Lexeme.Name (string_bytes i.text)) i.at old new
TookName (Err faults.Refused) old new = Stays names old new
TookName (Err faults.TooHigh) old new = ⊥
TookName (Err faults.Memory) old new = Unit {0}

-- a word was taken, or it doesn't stand there
abbrev pub TookWord : Lexeme → Result ℕ Fault → List Token → List Token → Type 0
TookWord w (Ok at) old new = Took w at old new
TookWord w (Err faults.Refused) old new = Stays (same_word w) old new
TookWord w (Err faults.TooHigh) old new = ⊥
TookWord w (Err faults.Memory) old new = ⊥

-- the end of what begins with v was taken
pub record TookEnd (v : Lexeme) (old new : List Token) : Type 0 where
  pub kind : Lexeme
  pub at : ℕ
  pub is_end : ends v kind ≡ true
  pub took : Took kind at old new

-- the same, or none stands there
abbrev pub Finished : Lexeme → Bool → List Token → List Token → Type 0
Finished v true old new = TookEnd v old new
Finished v false old new = Stays (ends v) old new
