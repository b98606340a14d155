-- Texts of tokens, and tokens that are written one behind the other.
use Rattle.std.proofs.Common.{◌≡◌, ℕ, List, [], ◌∷◌, ◌++◌, Option, Some, refl, ap, append_assoc, append-nil, sym, ◌∙◌, subst}
use Rattle.cal_ast.specs.Tree.{Tree}
use Rattle.cal_lexer.specs.Lexeme.{Lexeme}
use Rattle.cal_lexer.specs.Words.{spelling}
use Rattle.cal_print.specs.Tokens.{words}
use Rattle.cal_print.specs.Spelling.{text_of, gap_behind}
use Rattle.cal_print.specs.Writes.{Writes}

pub text_of_append : (a b : List Lexeme) → text_of (a ++ b) ≡ text_of a ++ text_of b
text_of_append [] b = refl
text_of_append (w ∷ a) b = ap (λ t. spelling w ++ (gap_behind w ∷ t)) (text_of_append a b) ∙ sym (append_assoc (spelling w) (gap_behind w ∷ text_of a) (text_of b))

-- no token was written
pub nothing : {old : Option (List ℕ)} → Writes old [] old
nothing = record { is = λ text e. (text, e, sym (append-nil text)) }

pub then : {a b c : Option (List ℕ)} {u v : List Lexeme} → Writes a u b → Writes b v c → Writes a (u ++ v) c
then {a} {b} {c} {u} {v} f g = record {
  is = λ text e.
      let late = g.is text e in
      let early = f.is late.0 late.1 in
      (early.0, early.1, late.2 ∙ ap (λ t. t ++ text_of v) early.2 ∙ append_assoc early.0 (text_of u) (text_of v) ∙ ap (λ t. early.0 ++ t) (sym (text_of_append u v)));
}

-- the same tokens, said otherwise
pub reword : {old new : Option (List ℕ)} {u v : List Lexeme} → Writes old u new → u ≡ v → Writes old v new
reword {old} {new} w e = subst (λ ws. Writes old ws new) e w

-- the tokens of a tree are those of an equal tree
pub as_tree : {old new : Option (List ℕ)} (x y : Tree) → Writes old (words x) new → y ≡ x → Writes old (words y) new
as_tree x y w e = reword w (ap words (sym e))

-- tokens that were put behind an empty text are all of it
pub whole : {old new : Option (List ℕ)} {ws : List Lexeme} (text : List ℕ) → old ≡ Some [] → Writes old ws new → new ≡ Some text → text ≡ text_of ws
whole {old} {new} {ws} text empty w is =
    let found = w.is text is in
    let same : found.0 ≡ [] = cc in
    found.2 ∙ ap (λ before. before ++ text_of ws) same
