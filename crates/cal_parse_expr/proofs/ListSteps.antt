-- Lists that are read one part after the other.
use Rattle.std.proofs.Common.{◌≡◌, ℕ, false, List, [], ◌∷◌, ◌++◌, refl, ap, ◌∙◌}
use Rattle.cal_grammar.specs.Program.{Outcome, Gave, Refused, TooHigh, Spent, ahead, exec, after}
use Rattle.cal_ast.specs.Tree.{Tree, cons, nil, listed}
use Rattle.cal_lexer.specs.Lexeme.{Placed, placed}
use Rattle.cal_grammar.specs.Token.{here, same_word}
use Rattle.cal_grammar.specs.Spells.{Mark, mark, Part, separated, rest}
use Rattle.cal_grammar.specs.Rules.{part, read}
use Rattle.cal_parse_base.specs.Tells.{joined, before}
use Rattle.cal_grammar.proofs.Reading.{read_is}
use Rattle.cal_grammar.proofs.Follow.{same_mark}

pub joined-listed : (xs : List Tree) (x : Tree) → joined xs (cons x nil) ≡ listed (xs ++ x ∷ [])
joined-listed [] x = refl
joined-listed (y ∷ xs) x = ap (λ t. cons y t) (joined-listed xs x)

pub joined-nil : (xs : List Tree) → joined xs nil ≡ listed xs
joined-nil [] = refl
joined-nil (y ∷ xs) = ap (λ t. cons y t) (joined-nil xs)

joined-append : (xs : List Tree) (x ys : Tree) → joined xs (cons x ys) ≡ joined (xs ++ x ∷ []) ys
joined-append [] x ys = refl
joined-append (y ∷ xs) x ys = ap (λ t. cons y t) (joined-append xs x ys)

pub before-append : (xs : List Tree) (x : Tree) (o : Outcome Placed Tree) → before xs (before (x ∷ []) o) ≡ before (xs ++ x ∷ []) o
before-append xs x (Gave ys left) = ap (λ t. Gave t left) (joined-append xs x ys)
before-append xs x (Refused left) = refl
before-append xs x (TooHigh left) = refl
before-append xs x Spent = refl

pub before-none : (o : Outcome Placed Tree) → o ≡ before [] o
before-none (Gave ys left) = refl
before-none (Refused left) = refl
before-none (TooHigh left) = refl
before-none Spent = refl

pub after_cons : (x : Tree) (o : Outcome Placed Tree) → after o (λ xs l. Gave (cons x xs) l) ≡ before (x ∷ []) o
after_cons x (Gave ys left) = refl
after_cons x (Refused left) = refl
after_cons x (TooHigh left) = refl
after_cons x Spent = refl

module _ (m : ℕ) (v : Mark) (p : Part) where
  -- a part and the mark behind it
  pub separated_more : (ts l : List Placed) (x : Tree) (q : ℕ) → read m (part p) ts ≡ Gave x (placed (mark v) q ∷ l) → read m (part (separated v p)) ts ≡ before (x ∷ []) (read m (part (separated v p)) l)
  separated_more ts l x q e =
      let goes : read m (part (rest v p)) (placed (mark v) q ∷ l) ≡ read m (part (separated v p)) l = rw (read_is m (part (rest v p)) (placed (mark v) q ∷ l), same_mark v, exec) refl in
      let opened : read m (part (separated v p)) ts ≡ after (read m (part (separated v p)) l) (λ xs r. Gave (cons x xs) r) = rw (read_is m (part (separated v p)) ts, e, goes, exec) refl in
      opened ∙ after_cons x (read m (part (separated v p)) l)

  -- a part, and no mark behind it
  pub separated_last : (ts l : List Placed) (x : Tree) → read m (part p) ts ≡ Gave x l → here (same_word (mark v)) (ahead l) ≡ false → read m (part (separated v p)) ts ≡ Gave (cons x nil) l
  separated_last ts l x e none =
      let ends : read m (part (rest v p)) l ≡ Gave nil l = rw (read_is m (part (rest v p)) l, none, exec) refl in
      rw (read_is m (part (separated v p)) ts, e, ends, exec) refl

  -- a part that isn't read
  pub separated_refused : (ts l : List Placed) → read m (part p) ts ≡ Refused l → read m (part (separated v p)) ts ≡ Refused l
  separated_refused ts l e = rw (read_is m (part (separated v p)) ts, e, exec) refl

  pub separated_high : (ts l : List Placed) → read m (part p) ts ≡ TooHigh l → read m (part (separated v p)) ts ≡ TooHigh l
  separated_high ts l e = rw (read_is m (part (separated v p)) ts, e, exec) refl

  -- the same behind parts that were read already
  module _ (start ts : List Placed) (xs : List Tree) (far : read m (part (separated v p)) start ≡ before xs (read m (part (separated v p)) ts)) where
    pub on_more : (l : List Placed) (x : Tree) (q : ℕ) → read m (part p) ts ≡ Gave x (placed (mark v) q ∷ l) → read m (part (separated v p)) start ≡ before (xs ++ x ∷ []) (read m (part (separated v p)) l)
    on_more l x q e = far ∙ ap (λ o. before xs o) (separated_more ts l x q e) ∙ before-append xs x (read m (part (separated v p)) l)

    pub on_last : (l : List Placed) (x : Tree) → read m (part p) ts ≡ Gave x l → here (same_word (mark v)) (ahead l) ≡ false → read m (part (separated v p)) start ≡ Gave (listed (xs ++ x ∷ [])) l
    on_last l x e none = far ∙ ap (λ o. before xs o) (separated_last ts l x e none) ∙ ap (λ t. Gave t l) (joined-listed xs x)

    pub on_refused : (l : List Placed) → read m (part p) ts ≡ Refused l → read m (part (separated v p)) start ≡ Refused l
    on_refused l e = far ∙ ap (λ o. before xs o) (separated_refused ts l e)

    pub on_high : (l : List Placed) → read m (part p) ts ≡ TooHigh l → read m (part (separated v p)) start ≡ TooHigh l
    on_high l e = far ∙ ap (λ o. before xs o) (separated_high ts l e)
