-- Parts that stand alone: what is read as a part, and nothing behind it.
-- Not trusted: no promise is read with it.
use Rattle.std.specs.Prelude.{◌≡◌, ℕ, List, Result, Ok, Err}
use Rattle.cal_grammar.specs.Program.{Outcome, Gave, give, fail, ask, invoke, exec}
use Rattle.cal_ast.specs.Tree.{Tree}
use Rattle.cal_lexer.specs.Lexeme.{Placed, plain_tokens}
use Rattle.cal_lexer.specs.declared.token.Token.{Token}
use Rattle.cal_parse_base.specs.declared.fault.Fault.{Fault}
use Rattle.cal_parse_base.specs.Tells.{TellsFault}
use Rattle.cal_grammar.specs.Rules.{Step, at_end, part, read}
use Rattle.cal_grammar.specs.Spells.{Part}

-- a part, and the end behind it
abbrev pub alone : Part → Step
alone p = invoke (part p) (λ x. ask at_end (give x) fail)

-- what is read so, in a room
abbrev pub read_alone : ℕ → Part → List Placed → Outcome Placed Tree
read_alone m p ts = exec read m (alone p) ts

-- what is given is the tree that is read so, or why none is; `view` is the tree of a value
abbrev pub TellsAlone : {A : Type 0} → (A → Tree) → ℕ → Part → Result A Fault → List Token
    → List Token → Type 0
TellsAlone view m p (Ok x) old new = read_alone m p (plain_tokens old)
    ≡ Gave (view x) (plain_tokens new)
TellsAlone view m p (Err fault) old new = TellsFault fault new (read_alone m p (plain_tokens old))
