-- What a test of the token at the front says: the arms that a match leaves to the last one, and words by their numbers.
use Rattle.std.proofs.Common.{◌≡◌, ℕ, Bool, true, false, ◌&&◌, nat_lt, nat_eq, List, [], ◌∷◌, Some, refl, sym, ap, ◌∙◌, arith}
use Rattle.std.specs.List.{slice_get}
use Rattle.std.proofs.lemmas.Bool.{eqb-true, eqb-false, ltb-true}
use Rattle.cal_lexer.specs.Lexeme.{Lexeme, lexeme}
use Rattle.cal_lexer.specs.Words.{lexeme_of, word_number}
use Rattle.cal_lexer.specs.declared.token.Token.{Token}
use Rattle.cal_lexer.specs.declared.token.TokenKind.{TokenKind}
use Rattle.cal_lexer.specs.declared.token.TokenKind.TheVariants as kinds
use Rattle.cal_lexer.specs.declared.word.Word.{Word}
use Rattle.cal_lexer.specs.declared.word.Word.TheVariants as words
use Rattle.cal_grammar.specs.Operators.{is_prefix}
use Rattle.cal_grammar.specs.Rules.{starts_expr}
use Rattle.cal_grammar.specs.Token.{counts, names, same_word}
use Rattle.cal_parse_base.specs.Cursor.{stands}

-- what stands at the front
pub front : (f : Lexeme → Bool) (ts : List Token) (t : Token) → Some t ≡ slice_get ts 0 → f (lexeme t.kind) ≡ stands f ts
front f [] t h = cc
front f (x ∷ ts) t h = let same : t ≡ x = cc in ap (λ y. f (lexeme y.kind)) same

-- the last arm of a match
pub no_name : (k : TokenKind) → ((text : _) → k ≡ kinds.Name text → ⊥) → false ≡ names (lexeme k)
no_name (kinds.Name text) other = absurd (other text refl)
no_name _ other = refl

pub no_number : (k : TokenKind) → ((value : ℕ) → k ≡ kinds.Number value → ⊥) → false ≡ counts (lexeme k)
no_number (kinds.Number value) other = absurd (other value refl)
no_number _ other = refl

pub no_start :
    (k : TokenKind) → ((text : _) → k ≡ kinds.Name text → ⊥) → ((value : ℕ) → k ≡ kinds.Number value → ⊥)
    → (k ≡ kinds.True → ⊥) → (k ≡ kinds.False → ⊥) → (k ≡ kinds.If → ⊥) → (k ≡ kinds.LeftParen → ⊥) → (k ≡ kinds.LeftBracket → ⊥)
    → (k ≡ kinds.Not → ⊥) → (k ≡ kinds.Minus → ⊥) → (k ≡ kinds.Tilde → ⊥) → false ≡ starts_expr (lexeme k)
no_start (kinds.Name text) other _ _ _ _ _ _ _ _ _ = absurd (other text refl)
no_start (kinds.Number value) _ other _ _ _ _ _ _ _ _ = absurd (other value refl)
no_start kinds.True _ _ other _ _ _ _ _ _ _ = absurd (other refl)
no_start kinds.False _ _ _ other _ _ _ _ _ _ = absurd (other refl)
no_start kinds.If _ _ _ _ other _ _ _ _ _ = absurd (other refl)
no_start kinds.LeftParen _ _ _ _ _ other _ _ _ _ = absurd (other refl)
no_start kinds.LeftBracket _ _ _ _ _ _ other _ _ _ = absurd (other refl)
no_start kinds.Not _ _ _ _ _ _ _ other _ _ = absurd (other refl)
no_start kinds.Minus _ _ _ _ _ _ _ _ other _ = absurd (other refl)
no_start kinds.Tilde _ _ _ _ _ _ _ _ _ other = absurd (other refl)
no_start _ _ _ _ _ _ _ _ _ _ _ = refl

pub no_prefix : (k : TokenKind) → (k ≡ kinds.Not → ⊥) → (k ≡ kinds.Minus → ⊥) → (k ≡ kinds.Tilde → ⊥) → false ≡ is_prefix (lexeme k)
no_prefix kinds.Not other _ _ = absurd (other refl)
no_prefix kinds.Minus _ other _ = absurd (other refl)
no_prefix kinds.Tilde _ _ other = absurd (other refl)
no_prefix _ _ _ _ = refl

-- what isn't a word is none of them
pub no_word : (v w : Lexeme) → word_number w ≡ 0 → false ≡ same_word v w
no_word v w none = go (nat_lt 0 (word_number v)) (nat_eq (word_number v) (word_number w)) refl refl
  where
    go : (p q : Bool) → nat_lt 0 (word_number v) ≡ p → nat_eq (word_number v) (word_number w) ≡ q → false ≡ (p && q)
    go false q more same = refl
    go true false more same = refl
    go true true more same = let a = ltb-true 0 (word_number v) more in let b = eqb-true (word_number v) (word_number w) same in absurd (omega arith)

word_counts : (w : Word) → nat_lt 0 (word_number (lexeme_of w)) ≡ true
word_counts words.Actor = refl
word_counts _ = refl

turned : (a b : ℕ) → nat_eq a b ≡ nat_eq b a
turned a b = go (nat_eq a b) (nat_eq b a) refl refl
  where
    go : (p q : Bool) → nat_eq a b ≡ p → nat_eq b a ≡ q → p ≡ q
    go true true e f = refl
    go false false e f = refl
    go true false e f = absurd (eqb-false b a f (sym (eqb-true a b e)))
    go false true e f = absurd (eqb-false a b e (sym (eqb-true b a f)))

-- words are the same if their numbers are
pub same_number : (word found : Word) (w : Lexeme) (a b : ℕ) → lexeme_of found ≡ w → a ≡ word_number (lexeme_of found) → b ≡ word_number (lexeme_of word) → nat_eq a b ≡ same_word (lexeme_of word) w
same_number word found w a b is e f =
    ap (λ n. nat_eq n b) (e ∙ ap word_number is) ∙ ap (λ n. nat_eq (word_number w) n) f
    ∙ turned (word_number w) (word_number (lexeme_of word))
    ∙ ap (λ p. p && nat_eq (word_number (lexeme_of word)) (word_number w)) (sym (word_counts word))
