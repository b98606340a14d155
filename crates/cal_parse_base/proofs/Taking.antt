-- A token that is taken.
use Rattle.std.proofs.Common.{◌≡◌, ℕ, suc, ◌<◌, Bool, true, false, ◌||◌, List, [], ◌∷◌, ◌++◌, length, Option, None, Some, refl, sym, ap, ◌∙◌, arith}
use Rattle.cal_grammar.specs.Program.{ahead}
use Rattle.cal_lexer.specs.Lexeme.{Lexeme, Placed, placed, plain, plain_tokens, lexeme}
use Rattle.cal_lexer.specs.declared.token.Token.{Token}
use Rattle.cal_grammar.specs.Token.{here, same_word, kind_of}
use Rattle.cal_grammar.specs.Operators.{ends, long_end}
use Rattle.cal_parse_base.specs.Cursor.{stands, Took, TookEnd, Stays, Finished}
use Rattle.cal_parse_base.specs.Leading.{opened}
use Rattle.cal_grammar.proofs.Words.{same_is}

pub length-plain : (ts : List Token) → length (plain_tokens ts) ≡ length ts
length-plain [] = refl
length-plain (t ∷ ts) = ap suc (length-plain ts)

-- what was taken is gone
pub took_less : (k : Lexeme) (at : ℕ) (old new : List Token) → Took k at old new → length new < length old
took_less k at old new e =
    let sizes : length (plain_tokens old) ≡ suc (length (plain_tokens new)) = ap length e in
    omega (arith, length-plain old, length-plain new)

pub word_taken : (w : Lexeme) (t : Token) (ts rest : List Token) → ts ≡ t ∷ rest → stands (same_word w) ts ≡ true → Took w t.at ts rest
word_taken w t ts rest e h =
    let front : plain_tokens ts ≡ plain t ∷ plain_tokens rest = ap plain_tokens e in
    let same : same_word w (lexeme t.kind) ≡ true = sym (ap (λ l. here (same_word w) (ahead l)) front) ∙ h in
    front ∙ ap (λ k. placed k t.at ∷ plain_tokens rest) (same_is w (lexeme t.kind) same)

pub none_stands : (f : Lexeme → Bool) (ts : List Token) → ts ≡ [] → stands f ts ≡ true → ⊥
none_stands f ts e h = let off : here f (ahead (plain_tokens [])) ≡ true = sym (ap (λ l. stands f l) e) ∙ h in cc

pub end_taken : (v : Lexeme) (at : ℕ) (old new : List Token) → Took Lexeme.End at old new → TookEnd v old new
end_taken v at old new h = record { kind = Lexeme.End; at = at; is_end = refl; took = h }

long_same : (v : Lexeme) → same_word (long_end v) (long_end v) ≡ true
long_same Lexeme.Actor = refl
long_same Lexeme.Unit = refl
long_same Lexeme.Action = refl
long_same Lexeme.Initialize = refl
long_same Lexeme.Function = refl
long_same Lexeme.Procedure = refl
long_same Lexeme.If = refl
long_same Lexeme.While = refl
long_same Lexeme.Foreach = refl
long_same Lexeme.Begin = refl
long_same Lexeme.Schedule = refl
long_same Lexeme.Priority = refl
long_same _ = refl

either_true : (a b : Bool) → b ≡ true → (a || b) ≡ true
either_true true b e = refl
either_true false b e = e

neither_true : (a b : Bool) → a ≡ false → b ≡ false → (a || b) ≡ false
neither_true true b e f = e
neither_true false b e f = f

pub long_taken : (v w : Lexeme) (at : ℕ) (old new : List Token) → w ≡ long_end v → Took w at old new → TookEnd v old new
long_taken v w at old new e h = record {
  kind = long_end v;
  at = at;
  is_end = either_true (same_word Lexeme.End (long_end v)) (same_word (long_end v) (long_end v)) (long_same v);
  took = h ∙ ap (λ k. placed k at ∷ plain_tokens new) e;
}

neither_here : (v : Lexeme) (h : Option Placed) → here (same_word Lexeme.End) h ≡ false → here (same_word (long_end v)) h ≡ false → here (ends v) h ≡ false
neither_here v None a b = refl
neither_here v (Some t) a b = neither_true (same_word Lexeme.End (kind_of t)) (same_word (long_end v) (kind_of t)) a b

pub no_end : (v w : Lexeme) (ts : List Token) → w ≡ long_end v → stands (same_word Lexeme.End) ts ≡ false → stands (same_word w) ts ≡ false → stands (ends v) ts ≡ false
no_end v w ts e a b = neither_here v (ahead (plain_tokens ts)) a (sym (ap (λ k. stands (same_word k) ts) e) ∙ b)

-- what `finish` says when its answer is known
pub end_stood : (v : Lexeme) (b : Bool) (old new : List Token) → Finished v b old new → b ≡ true → TookEnd v old new
end_stood v true old new h e = h
end_stood v false old new h e = absurd cc

pub none_stood : (v : Lexeme) (b : Bool) (old new : List Token) → Finished v b old new → b ≡ false → Stays (ends v) old new
none_stood v true old new h e = absurd cc
none_stood v false old new h e = h

-- one more parenthesis that was taken
pub opened_push : (qs : List ℕ) (q : ℕ) (ts : List Placed) → opened (qs ++ q ∷ []) ts ≡ opened qs (placed Lexeme.LeftParen q ∷ ts)
opened_push [] q ts = refl
opened_push (p ∷ qs) q ts = ap (λ l. placed Lexeme.LeftParen p ∷ l) (opened_push qs q ts)
