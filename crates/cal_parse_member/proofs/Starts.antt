-- What begins no member: the arms that a match leaves to the last one.
use Rattle.std.proofs.Common.{◌≡◌, false, refl}
use Rattle.cal_lexer.specs.Lexeme.{lexeme}
use Rattle.cal_lexer.specs.declared.token.TokenKind.{TokenKind}
use Rattle.cal_lexer.specs.declared.token.TokenKind.TheVariants as kinds
use Rattle.cal_grammar.specs.Rules.{starts_member}

pub no_member : (k : TokenKind) → ((text : _) → k ≡ kinds.Name text → ⊥) → (k ≡ kinds.Function → ⊥) → (k ≡ kinds.Procedure → ⊥) → (k ≡ kinds.Action → ⊥) → (k ≡ kinds.Initialize → ⊥) → (k ≡ kinds.Priority → ⊥) → false ≡ starts_member (lexeme k)
no_member (kinds.Name text) other _ _ _ _ _ = absurd (other text refl)
no_member kinds.Function _ other _ _ _ _ = absurd (other refl)
no_member kinds.Procedure _ _ other _ _ _ = absurd (other refl)
no_member kinds.Action _ _ _ other _ _ = absurd (other refl)
no_member kinds.Initialize _ _ _ _ other _ = absurd (other refl)
no_member kinds.Priority _ _ _ _ _ other = absurd (other refl)
no_member _ _ _ _ _ _ _ = refl
