-- The plain tokens: what a token is, without memory, and where it stands.
-- Trusted: part of what a promise means.
use Rattle.std.specs.Prelude.{ℕ, List, string_bytes, map}
use Rattle.cal_lexer.specs.declared.token.Token.{Token}
use Rattle.cal_lexer.specs.declared.token.TokenKind.{TokenKind}
use Rattle.cal_lexer.specs.declared.token.TokenKind.TheVariants as kinds

-- a name, a number, a reserved word or a symbol
pub data Lexeme : Type 0 where
  Name : (text : List ℕ) → Lexeme
  Number : (value : ℕ) → Lexeme
  Actor : Lexeme
  Unit : Lexeme
  Package : Lexeme
  Import : Lexeme
  Action : Lexeme
  Initialize : Lexeme
  Function : Lexeme
  Procedure : Lexeme
  Guard : Lexeme
  Var : Lexeme
  Do : Lexeme
  Begin : Lexeme
  End : Lexeme
  If : Lexeme
  Then : Lexeme
  Elsif : Lexeme
  Else : Lexeme
  While : Lexeme
  Foreach : Lexeme
  For : Lexeme
  In : Lexeme
  Repeat : Lexeme
  Schedule : Lexeme
  Fsm : Lexeme
  Priority : Lexeme
  True : Lexeme
  False : Lexeme
  Not : Lexeme
  And : Lexeme
  Or : Lexeme
  Div : Lexeme
  Mod : Lexeme
  EndActor : Lexeme
  EndUnit : Lexeme
  EndAction : Lexeme
  EndInitialize : Lexeme
  EndFunction : Lexeme
  EndProcedure : Lexeme
  EndIf : Lexeme
  EndWhile : Lexeme
  EndForeach : Lexeme
  EndBegin : Lexeme
  EndSchedule : Lexeme
  EndPriority : Lexeme
  LongDoubleArrow : Lexeme
  LongArrow : Lexeme
  Assign : Lexeme
  DotDot : Lexeme
  LessEqual : Lexeme
  GreaterEqual : Lexeme
  NotEqual : Lexeme
  ShiftLeft : Lexeme
  ShiftRight : Lexeme
  AndAnd : Lexeme
  OrOr : Lexeme
  LeftParen : Lexeme
  RightParen : Lexeme
  LeftBracket : Lexeme
  RightBracket : Lexeme
  Comma : Lexeme
  Semicolon : Lexeme
  Colon : Lexeme
  Dot : Lexeme
  Plus : Lexeme
  Minus : Lexeme
  Star : Lexeme
  Slash : Lexeme
  Equal : Lexeme
  Less : Lexeme
  Greater : Lexeme
  Ampersand : Lexeme
  Bar : Lexeme
  Caret : Lexeme
  Tilde : Lexeme
  LeftBrace : Lexeme
  RightBrace : Lexeme

-- a token and the offset of its first byte
pub data Placed : Type 0 where
  placed : (kind : Lexeme) (at : ℕ) → Placed

-- what a kind of tokens stands for
abbrev pub lexeme : TokenKind → Lexeme
lexeme (kinds.Name text) = Name (string_bytes text)
lexeme (kinds.Number value) = Number value
lexeme kinds.Actor = Actor
lexeme kinds.Unit = Unit
lexeme kinds.Package = Package
lexeme kinds.Import = Import
lexeme kinds.Action = Action
lexeme kinds.Initialize = Initialize
lexeme kinds.Function = Function
lexeme kinds.Procedure = Procedure
lexeme kinds.Guard = Guard
lexeme kinds.Var = Var
lexeme kinds.Do = Do
lexeme kinds.Begin = Begin
lexeme kinds.End = End
lexeme kinds.If = If
lexeme kinds.Then = Then
lexeme kinds.Elsif = Elsif
lexeme kinds.Else = Else
lexeme kinds.While = While
lexeme kinds.Foreach = Foreach
lexeme kinds.For = For
lexeme kinds.In = In
lexeme kinds.Repeat = Repeat
lexeme kinds.Schedule = Schedule
lexeme kinds.Fsm = Fsm
lexeme kinds.Priority = Priority
lexeme kinds.True = True
lexeme kinds.False = False
lexeme kinds.Not = Not
lexeme kinds.And = And
lexeme kinds.Or = Or
lexeme kinds.Div = Div
lexeme kinds.Mod = Mod
lexeme kinds.EndActor = EndActor
lexeme kinds.EndUnit = EndUnit
lexeme kinds.EndAction = EndAction
lexeme kinds.EndInitialize = EndInitialize
lexeme kinds.EndFunction = EndFunction
lexeme kinds.EndProcedure = EndProcedure
lexeme kinds.EndIf = EndIf
lexeme kinds.EndWhile = EndWhile
lexeme kinds.EndForeach = EndForeach
lexeme kinds.EndBegin = EndBegin
lexeme kinds.EndSchedule = EndSchedule
lexeme kinds.EndPriority = EndPriority
lexeme kinds.LongDoubleArrow = LongDoubleArrow
lexeme kinds.LongArrow = LongArrow
lexeme kinds.Assign = Assign
lexeme kinds.DotDot = DotDot
lexeme kinds.LessEqual = LessEqual
lexeme kinds.GreaterEqual = GreaterEqual
lexeme kinds.NotEqual = NotEqual
lexeme kinds.ShiftLeft = ShiftLeft
lexeme kinds.ShiftRight = ShiftRight
lexeme kinds.AndAnd = AndAnd
lexeme kinds.OrOr = OrOr
lexeme kinds.LeftParen = LeftParen
lexeme kinds.RightParen = RightParen
lexeme kinds.LeftBracket = LeftBracket
lexeme kinds.RightBracket = RightBracket
lexeme kinds.Comma = Comma
lexeme kinds.Semicolon = Semicolon
lexeme kinds.Colon = Colon
lexeme kinds.Dot = Dot
lexeme kinds.Plus = Plus
lexeme kinds.Minus = Minus
lexeme kinds.Star = Star
lexeme kinds.Slash = Slash
lexeme kinds.Equal = Equal
lexeme kinds.Less = Less
lexeme kinds.Greater = Greater
lexeme kinds.Ampersand = Ampersand
lexeme kinds.Bar = Bar
lexeme kinds.Caret = Caret
lexeme kinds.Tilde = Tilde
lexeme kinds.LeftBrace = LeftBrace
lexeme kinds.RightBrace = RightBrace

abbrev pub plain : Token → Placed
plain t = placed (lexeme t.kind) t.at

-- what a list of tokens stands for
abbrev pub plain_tokens : List Token → List Placed
plain_tokens ts = map plain ts
