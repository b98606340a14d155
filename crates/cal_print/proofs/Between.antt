-- What is written behind a piece whose last token is a word.
use Rattle.std.proofs.Common.{ℕ, List, [], ◌∷◌, ◌++◌, Option, ap, append_assoc, ◌∙◌}
use Rattle.cal_lexer.specs.Lexeme.{Lexeme}
use Rattle.cal_print.specs.Writes.{Writes}
use Rattle.cal_print.proofs.Texts.{then, reword}

pub between_then : {a b c : Option (List ℕ)} (opening : Lexeme) (ws : List Lexeme) (closing : Lexeme) (rest : List Lexeme) → Writes a (opening ∷ ws ++ (closing ∷ [])) b → Writes b rest c
    → Writes a (opening ∷ ws ++ (closing ∷ rest)) c
between_then opening ws closing rest f g =
    reword (then f g) (ap (λ us. opening ∷ us) (append_assoc ws (closing ∷ []) rest))

-- what stands behind the head of a `foreach`
pub head_then : {a b c : Option (List ℕ)} (shape name from to rest : List Lexeme)
    → Writes a (Lexeme.Foreach ∷ shape ++ name ++ (Lexeme.In ∷ from ++ (Lexeme.DotDot ∷ to ++ (Lexeme.Do ∷ [])))) b → Writes b rest c
    → Writes a (Lexeme.Foreach ∷ shape ++ name ++ (Lexeme.In ∷ from ++ (Lexeme.DotDot ∷ to ++ (Lexeme.Do ∷ rest)))) c
head_then shape name from to rest f g =
    reword (then f g)
    (ap (λ us. Lexeme.Foreach ∷ us) (append_assoc (shape ++ name) (Lexeme.In ∷ from ++ (Lexeme.DotDot ∷ to ++ (Lexeme.Do ∷ []))) rest)
    ∙ ap (λ us. Lexeme.Foreach ∷ shape ++ name ++ (Lexeme.In ∷ us)) (append_assoc from (Lexeme.DotDot ∷ to ++ (Lexeme.Do ∷ [])) rest)
    ∙ ap (λ us. Lexeme.Foreach ∷ shape ++ name ++ (Lexeme.In ∷ from ++ (Lexeme.DotDot ∷ us))) (append_assoc to (Lexeme.Do ∷ []) rest))
