-- What takes the tokens that stand before a part, an operand or a pair.
-- Not trusted: no promise is read with it.
use Rattle.std.specs.Prelude.{◌≡◌, ◌<◌, ◌≤◌, ℕ, suc, true, false, List, [], ◌∷◌, Result, Ok, Err, string_bytes, Vec}
use Rattle.std.specs.declared.alloc.Global.{Global}
use Rattle.cal_ast.specs.declared.expr.BinOp.{BinOp}
use Rattle.cal_ast.specs.declared.ident.Ident.{Ident}
use Rattle.cal_lexer.specs.Lexeme.{Lexeme, Placed, placed, plain_tokens}
use Rattle.cal_lexer.specs.declared.token.Token.{Token}
use Rattle.cal_parse_base.specs.declared.fault.Fault.{Fault}
use Rattle.cal_parse_base.specs.declared.fault.Fault.TheVariants as faults
use Rattle.cal_parse_base.specs.declared.operators.Prefix.{Prefix}
use Rattle.cal_parse_base.specs.Cursor.{Took, stands}
use Rattle.cal_grammar.specs.Operators.{binary_of, is_prefix, prefix_of}
use Rattle.cal_grammar.specs.Rules.{at_level}
use Rattle.cal_grammar.specs.Token.{same_word}

-- nothing was taken, since a part of this height doesn't fit
abbrev pub HasNoRoom : ℕ → ℕ → List Token → List Token → Type 0
HasNoRoom room high old new = (room < high) × (new ≡ old)

-- a name that begins a part was taken
abbrev pub LedByName : ℕ → Result Ident Fault → List Token → List Token → Type 0
LedByName room (Ok i) old new = Took (Lexeme.Name (string_bytes i.text)) i.at old new × (1 ≤ room)
LedByName room (Err faults.Refused) old new = ⊥
LedByName room (Err faults.TooHigh) old new = HasNoRoom room 1 old new
LedByName room (Err faults.Memory) old new = Unit {0}

-- a word that begins a part was taken
abbrev pub LedByWord : ℕ → Lexeme → Result ℕ Fault → List Token → List Token → Type 0
LedByWord room w (Ok at) old new = Took w at old new × (1 ≤ room)
LedByWord room w (Err faults.Refused) old new = ⊥
LedByWord room w (Err faults.TooHigh) old new = HasNoRoom room 1 old new
LedByWord room w (Err faults.Memory) old new = ⊥

-- a binary operator of a level was taken
pub record IsOperator (n : ℕ) (op : BinOp) (old new : List Token) : Type 0 where
  pub kind : Lexeme
  pub at : ℕ
  pub is_level : at_level n kind ≡ true
  pub is_op : op ≡ binary_of kind
  pub took : Took kind at old new

-- the same, behind a left side of this height
abbrev pub TookOperator : ℕ → ℕ → ℕ → Result BinOp Fault → List Token → List Token → Type 0
TookOperator room n high (Ok op) old new = IsOperator n op old new × (high < room)
TookOperator room n high (Err faults.Refused) old new = ⊥
TookOperator room n high (Err faults.TooHigh) old new = HasNoRoom room (suc high) old new
TookOperator room n high (Err faults.Memory) old new = ⊥

-- a prefix was taken
pub record IsPrefix (p : Prefix) (old new : List Token) : Type 0 where
  pub kind : Lexeme
  pub is_kind : is_prefix kind ≡ true
  pub is_op : p.op ≡ prefix_of kind
  pub took : Took kind p.at old new

abbrev pub TookPrefix : ℕ → Result Prefix Fault → List Token → List Token → Type 0
TookPrefix room (Ok p) old new = IsPrefix p old new × (1 ≤ room)
TookPrefix room (Err faults.Refused) old new = ⊥
TookPrefix room (Err faults.TooHigh) old new = HasNoRoom room 1 old new
TookPrefix room (Err faults.Memory) old new = ⊥

-- these opening parentheses before other tokens
abbrev pub opened : List ℕ → List Placed → List Placed
opened [] ts = ts
opened (q ∷ qs) ts = placed Lexeme.LeftParen q ∷ opened qs ts

-- all opening parentheses at the front were taken
abbrev pub TookOpens : Result (Vec ℕ Global) Fault → List Token → List Token → Type 0
TookOpens (Ok qs) old new = (plain_tokens old ≡ opened qs.items (plain_tokens new))
    × (stands (same_word Lexeme.LeftParen) new ≡ false)
TookOpens (Err faults.Refused) old new = ⊥
TookOpens (Err faults.TooHigh) old new = ⊥
TookOpens (Err faults.Memory) old new = Unit {0}
