-- The words of networks that are names elsewhere.
use Rattle.std.proofs.Common.{◌≡◌, ℕ, Bool, true, false, List, ◌⊎◌, inl, inr, ◌||◌, refl, ap}
use Rattle.std.proofs.lemmas.Slice.Eq.{bytes_eq-Decides}
use Rattle.cal_lexer.specs.Lexeme.{Lexeme}
use Rattle.cal_grammar.specs.Token.{names, same_word}
use Rattle.cal_grammar.proofs.Words.{same_is}
use Rattle.nl_grammar.specs.Headings.{is_called}
use Rattle.nl_grammar.specs.Spells.{is_sign}

pub name_is : (k : Lexeme) → names k ≡ true → (s : List ℕ) × (k ≡ Lexeme.Name s)
name_is (Lexeme.Name s) e = (s, refl)
name_is _ e = absurd cc

-- what passes the test is the name
pub called_is : (name : List ℕ) (k : Lexeme) → is_called name k ≡ true → k ≡ Lexeme.Name name
called_is name (Lexeme.Name text) e = ap (λ s. Lexeme.Name s) ((bytes_eq-Decides text name).0 e)
called_is name _ e = absurd cc

pub sign_is : (k : Lexeme) → is_sign k ≡ true → (k ≡ Lexeme.Equal) ⊎ (k ≡ Lexeme.Assign)
sign_is k e = go (same_word Lexeme.Equal k) refl (same_word Lexeme.Assign k) refl e
  where
    go : (a : Bool) → same_word Lexeme.Equal k ≡ a → (b : Bool) → same_word Lexeme.Assign k ≡ b → (a || b) ≡ true → (k ≡ Lexeme.Equal) ⊎ (k ≡ Lexeme.Assign)
    go true p b q h = inl (same_is Lexeme.Equal k p)
    go false p true q h = inr (same_is Lexeme.Assign k q)
    go false p false q h = absurd cc
