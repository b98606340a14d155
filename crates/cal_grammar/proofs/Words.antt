-- The words are told apart by their numbers.
use Rattle.std.proofs.Common.{◌≡◌, ℕ, ◌⊎◌, inl, inr, List, [], ◌∷◌, get_or, Bool, true, false, ◌&&◌, nat_lt, refl, sym, ap, ◌∙◌}
use Rattle.std.proofs.lemmas.Bool.{eqb-true}
use Rattle.cal_lexer.specs.Lexeme.{Lexeme}
use Rattle.cal_lexer.specs.Words.{word_number}
use Rattle.cal_grammar.specs.Token.{same_word}

words : List Lexeme
words = Lexeme.End ∷ Lexeme.Actor ∷ Lexeme.Unit ∷ Lexeme.Package ∷ Lexeme.Import ∷ Lexeme.Action ∷ Lexeme.Initialize ∷ Lexeme.Function ∷ Lexeme.Procedure ∷ Lexeme.Guard ∷ Lexeme.Var ∷ Lexeme.Do ∷ Lexeme.Begin ∷ Lexeme.End ∷ Lexeme.If ∷ Lexeme.Then ∷ Lexeme.Elsif ∷ Lexeme.Else ∷ Lexeme.While ∷ Lexeme.Foreach ∷ Lexeme.For ∷ Lexeme.In ∷ Lexeme.Repeat ∷ Lexeme.Schedule ∷ Lexeme.Fsm ∷ Lexeme.Priority ∷ Lexeme.True ∷ Lexeme.False ∷ Lexeme.Not ∷ Lexeme.And ∷ Lexeme.Or ∷ Lexeme.Div ∷ Lexeme.Mod ∷ Lexeme.EndActor ∷ Lexeme.EndUnit ∷ Lexeme.EndAction ∷ Lexeme.EndInitialize ∷ Lexeme.EndFunction ∷ Lexeme.EndProcedure ∷ Lexeme.EndIf ∷ Lexeme.EndWhile ∷ Lexeme.EndForeach ∷ Lexeme.EndBegin ∷ Lexeme.EndSchedule ∷ Lexeme.EndPriority ∷ Lexeme.LongDoubleArrow ∷ Lexeme.LongArrow ∷ Lexeme.Assign ∷ Lexeme.DotDot ∷ Lexeme.LessEqual ∷ Lexeme.GreaterEqual ∷ Lexeme.NotEqual ∷ Lexeme.ShiftLeft ∷ Lexeme.ShiftRight ∷ Lexeme.AndAnd ∷ Lexeme.OrOr ∷ Lexeme.LeftParen ∷ Lexeme.RightParen ∷ Lexeme.LeftBracket ∷ Lexeme.RightBracket ∷ Lexeme.Comma ∷ Lexeme.Semicolon ∷ Lexeme.Colon ∷ Lexeme.Dot ∷ Lexeme.Plus ∷ Lexeme.Minus ∷ Lexeme.Star ∷ Lexeme.Slash ∷ Lexeme.Equal ∷ Lexeme.Less ∷ Lexeme.Greater ∷ Lexeme.Ampersand ∷ Lexeme.Bar ∷ Lexeme.Caret ∷ Lexeme.Tilde ∷ Lexeme.LeftBrace ∷ Lexeme.RightBrace ∷ []

word_at : ℕ → Lexeme
unfolding words
word_at n = get_or words n Lexeme.End

word_known : (w : Lexeme) → (word_number w ≡ 0) ⊎ (word_at (word_number w) ≡ w)
unfolding words word_at
word_known (Lexeme.Name text) = inl refl
word_known (Lexeme.Number value) = inl refl
word_known Lexeme.Actor = inr refl
word_known Lexeme.Unit = inr refl
word_known Lexeme.Package = inr refl
word_known Lexeme.Import = inr refl
word_known Lexeme.Action = inr refl
word_known Lexeme.Initialize = inr refl
word_known Lexeme.Function = inr refl
word_known Lexeme.Procedure = inr refl
word_known Lexeme.Guard = inr refl
word_known Lexeme.Var = inr refl
word_known Lexeme.Do = inr refl
word_known Lexeme.Begin = inr refl
word_known Lexeme.End = inr refl
word_known Lexeme.If = inr refl
word_known Lexeme.Then = inr refl
word_known Lexeme.Elsif = inr refl
word_known Lexeme.Else = inr refl
word_known Lexeme.While = inr refl
word_known Lexeme.Foreach = inr refl
word_known Lexeme.For = inr refl
word_known Lexeme.In = inr refl
word_known Lexeme.Repeat = inr refl
word_known Lexeme.Schedule = inr refl
word_known Lexeme.Fsm = inr refl
word_known Lexeme.Priority = inr refl
word_known Lexeme.True = inr refl
word_known Lexeme.False = inr refl
word_known Lexeme.Not = inr refl
word_known Lexeme.And = inr refl
word_known Lexeme.Or = inr refl
word_known Lexeme.Div = inr refl
word_known Lexeme.Mod = inr refl
word_known Lexeme.EndActor = inr refl
word_known Lexeme.EndUnit = inr refl
word_known Lexeme.EndAction = inr refl
word_known Lexeme.EndInitialize = inr refl
word_known Lexeme.EndFunction = inr refl
word_known Lexeme.EndProcedure = inr refl
word_known Lexeme.EndIf = inr refl
word_known Lexeme.EndWhile = inr refl
word_known Lexeme.EndForeach = inr refl
word_known Lexeme.EndBegin = inr refl
word_known Lexeme.EndSchedule = inr refl
word_known Lexeme.EndPriority = inr refl
word_known Lexeme.LongDoubleArrow = inr refl
word_known Lexeme.LongArrow = inr refl
word_known Lexeme.Assign = inr refl
word_known Lexeme.DotDot = inr refl
word_known Lexeme.LessEqual = inr refl
word_known Lexeme.GreaterEqual = inr refl
word_known Lexeme.NotEqual = inr refl
word_known Lexeme.ShiftLeft = inr refl
word_known Lexeme.ShiftRight = inr refl
word_known Lexeme.AndAnd = inr refl
word_known Lexeme.OrOr = inr refl
word_known Lexeme.LeftParen = inr refl
word_known Lexeme.RightParen = inr refl
word_known Lexeme.LeftBracket = inr refl
word_known Lexeme.RightBracket = inr refl
word_known Lexeme.Comma = inr refl
word_known Lexeme.Semicolon = inr refl
word_known Lexeme.Colon = inr refl
word_known Lexeme.Dot = inr refl
word_known Lexeme.Plus = inr refl
word_known Lexeme.Minus = inr refl
word_known Lexeme.Star = inr refl
word_known Lexeme.Slash = inr refl
word_known Lexeme.Equal = inr refl
word_known Lexeme.Less = inr refl
word_known Lexeme.Greater = inr refl
word_known Lexeme.Ampersand = inr refl
word_known Lexeme.Bar = inr refl
word_known Lexeme.Caret = inr refl
word_known Lexeme.Tilde = inr refl
word_known Lexeme.LeftBrace = inr refl
word_known Lexeme.RightBrace = inr refl

-- what passes the test is the word
pub same_is : (v w : Lexeme) → same_word v w ≡ true → w ≡ v
same_is v w e = go (word_known v) (word_known w) (and_left _ _ e) (eqb-true (word_number v) (word_number w) (and_right _ _ e))
  where
    and_left : (a b : Bool) → (a && b) ≡ true → a ≡ true
    and_left true b h = refl
    and_left false b h = h

    and_right : (a b : Bool) → (a && b) ≡ true → b ≡ true
    and_right true b h = h
    and_right false b h = cc

    go : (word_number v ≡ 0) ⊎ (word_at (word_number v) ≡ v) → (word_number w ≡ 0) ⊎ (word_at (word_number w) ≡ w) → nat_lt 0 (word_number v) ≡ true → word_number v ≡ word_number w → w ≡ v
    go (inl z) k more same = let off : nat_lt 0 0 ≡ true = rw z at more in cc
    go (inr a) (inl z) more same = let zero_v : word_number v ≡ 0 = same ∙ z in let off : nat_lt 0 0 ≡ true = rw zero_v at more in cc
    go (inr a) (inr b) more same = sym b ∙ ap word_at (sym same) ∙ a
