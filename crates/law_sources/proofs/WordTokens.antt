-- The lexis has no dot in a name.
use Rattle.std.proofs.Common.{◌≡◌, ℕ, Bool, true, false, ◌&&◌, List, [], ◌∷◌, ◌++◌, take, Option, None, Some, refl, sym, ap, subst, ◌∙◌}
use Rattle.std.specs.Prelude.{if◌then◌else◌, slice_index, not, drop, length, nat_lt, ◌==◌}
use Rattle.std.specs.Char.{is_ascii_digit, is_ascii_hexdigit}
use Rattle.std.specs.List.{list_all}
use Rattle.cal_imports.specs.Sources.{dot}
use Rattle.cal_lexer.specs.Lexeme.{Lexeme, Placed, placed}
use Rattle.cal_lexer.specs.Lexes.{LexesFrom, ends, after_gap, after_token}
use Rattle.cal_lexer.specs.Lexis.{begins_name, decimal_number, find, first_of_both, goes_on_name, hexadecimal, long_ends, number, reserved, symbol, symbols_of_one, symbols_of_three, symbols_of_two, token_of, value_of, word, words}
use Rattle.cal_grammar.specs.Token.{names}

-- letters, digits and `_` alone
abbrev pub IsWord : List ℕ → Type 0
IsWord text = list_all goes_on_name text ≡ true

-- ---- a dot

both : (a b : Bool) → (a && b) ≡ true → (a ≡ true) × (b ≡ true)
both true true h = (refl, refl)
both true false h = absurd cc
both false b h = absurd cc

pub word_has_no_dot : (before behind : List ℕ) → IsWord (before ++ dot ∷ behind) → ⊥
word_has_no_dot [] behind h = let here = both (goes_on_name dot) (list_all goes_on_name behind) h in let e : false ≡ true = here.0 in absurd cc
word_has_no_dot (b ∷ before) behind h = word_has_no_dot before behind (both (goes_on_name b) (list_all goes_on_name (before ++ dot ∷ behind)) h).1

-- the last dot tells what is before it from what is behind it
pub record AreSplit (a b m n : List ℕ) : Type 0 where
  pub before : a ≡ b
  pub behind : m ≡ n

head_same : (x y : ℕ) (xs ys : List ℕ) → x ∷ xs ≡ y ∷ ys → (x ≡ y) × (xs ≡ ys)
head_same x y xs ys h = (cc, cc)

pub split : (a b m n : List ℕ) → IsWord m → IsWord n → a ++ dot ∷ m ≡ b ++ dot ∷ n → AreSplit a b m n
split [] [] m n u v h = record { before = refl; behind = (head_same dot dot m n h).1 }
split [] (y ∷ b) m n u v h = absurd (word_has_no_dot b n (subst IsWord (head_same dot y m (b ++ dot ∷ n) h).1 u))
split (x ∷ a) [] m n u v h = absurd (word_has_no_dot a m (subst IsWord (sym (head_same x dot (a ++ dot ∷ m) n h).1) v))
split (x ∷ a) (y ∷ b) m n u v h =
    let parts = head_same x y (a ++ dot ∷ m) (b ++ dot ∷ n) h in
    let rest = split a b m n u v parts.1 in
    record { before = ap (λ z. z ∷ a) parts.0 ∙ ap (λ zs. y ∷ zs) rest.before; behind = rest.behind }

-- ---- reserved words, symbols and numbers are no names

all_nameless : List (List ℕ × Lexeme) → Bool
all_nameless [] = true
all_nameless (e ∷ table) = not (names e.1) && all_nameless table

nameless_at : (b : Bool) (kind : Lexeme) (s : List ℕ) (rest : Option Lexeme) → not (names kind) ≡ true → (rest ≡ Some (Lexeme.Name s) → ⊥)
    → (if b then Some kind else rest) ≡ Some (Lexeme.Name s) → ⊥
nameless_at true kind s rest here later h = let same : kind ≡ Lexeme.Name s = cc in let e : false ≡ true = subst (λ k. not (names k) ≡ true) same here in absurd cc
nameless_at false kind s rest here later h = later h

not_found : (table : List (List ℕ × Lexeme)) (text s : List ℕ) → all_nameless table ≡ true → find text table ≡ Some (Lexeme.Name s) → ⊥
unfolding all_nameless
not_found [] text s all h = absurd cc
not_found (e ∷ table) text s all h =
    let parts = both (not (names e.1)) (all_nameless table) all in
    nameless_at _ e.1 s (find text table) parts.0 (λ i. not_found table text s parts.1 i) h

neither : (o other : Option Lexeme) (s : List ℕ) → (o ≡ Some (Lexeme.Name s) → ⊥) → (other ≡ Some (Lexeme.Name s) → ⊥) → first_of_both o other ≡ Some (Lexeme.Name s) → ⊥
neither None other s h k e = k e
neither (Some found) other s h k e = h e

words_nameless : all_nameless words ≡ true
unfolding all_nameless
words_nameless = refl

ends_nameless : all_nameless long_ends ≡ true
unfolding all_nameless
ends_nameless = refl

three_nameless : all_nameless symbols_of_three ≡ true
unfolding all_nameless
three_nameless = refl

two_nameless : all_nameless symbols_of_two ≡ true
unfolding all_nameless
two_nameless = refl

one_nameless : all_nameless symbols_of_one ≡ true
unfolding all_nameless
one_nameless = refl

not_reserved : (text s : List ℕ) → reserved text ≡ Some (Lexeme.Name s) → ⊥
not_reserved text s h = neither (find text words) (find text long_ends) s (not_found words text s words_nameless) (not_found long_ends text s ends_nameless) h

no_symbol : (text s : List ℕ) → symbol text ≡ Some (Lexeme.Name s) → ⊥
no_symbol text s h =
    neither (find text symbols_of_three) (first_of_both (find text symbols_of_two) (find text symbols_of_one)) s (not_found symbols_of_three text s three_nameless)
    (neither (find text symbols_of_two) (find text symbols_of_one) s (not_found symbols_of_two text s two_nameless) (not_found symbols_of_one text s one_nameless))
    h

if_number : (b : Bool) (n : ℕ) (s : List ℕ) → (if b then Some (Lexeme.Number n) else None) ≡ Some (Lexeme.Name s) → ⊥
if_number true n s h = absurd cc
if_number false n s h = absurd cc

no_number : (text s : List ℕ) → number text ≡ Some (Lexeme.Name s) → ⊥
no_number text s h = go (slice_index text 1 == 120) h
  where
    go : (b : Bool) → (if b then hexadecimal text else decimal_number text) ≡ Some (Lexeme.Name s) → ⊥
    go true i =
        if_number ((slice_index text 0 == 48) && (nat_lt 2 (length text) && list_all is_ascii_hexdigit (drop 2 text)))
        (value_of 16 (drop 2 text)) s i
    go false i = if_number (list_all is_ascii_digit text) (value_of 10 text) s i

-- ---- tokens

name_word : (text s : List ℕ) → word text ≡ Some (Lexeme.Name s) → IsWord s
name_word text s h = go (list_all goes_on_name text) refl h
  where
    text_is : (o : Option Lexeme) → reserved text ≡ o → first_of_both o (Some (Lexeme.Name text)) ≡ Some (Lexeme.Name s) → text ≡ s
    text_is None e i = cc
    text_is (Some k) e i = absurd (not_reserved text s (e ∙ i))

    go : (b : Bool) → list_all goes_on_name text ≡ b → (if b then first_of_both (reserved text) (Some (Lexeme.Name text)) else None) ≡ Some (Lexeme.Name s) → IsWord s
    go true all i = subst IsWord (text_is (reserved text) refl i) all
    go false all i = absurd cc

token_word : (text s : List ℕ) → token_of text ≡ Some (Lexeme.Name s) → IsWord s
token_word text s h = go (begins_name (slice_index text 0)) (is_ascii_digit (slice_index text 0)) h
  where
    go : (b d : Bool) → (if b then word text else (if d then number text else symbol text)) ≡ Some (Lexeme.Name s) → IsWord s
    go true d i = name_word text s i
    go false true i = absurd (no_number text s i)
    go false false i = absurd (no_symbol text s i)

-- a name has letters, digits and `_` alone
abbrev pub IsWordIn : Lexeme → Type 0
IsWordIn (Lexeme.Name s) = IsWord s
IsWordIn other = Unit {0}

abbrev pub IsWordAt : Placed → Type 0
IsWordAt (placed kind at) = IsWordIn kind

abbrev pub AreWords : List Placed → Type 0
AreWords [] = Unit {0}
AreWords (t ∷ ts) = IsWordAt t × AreWords ts

kind_word : (text : List ℕ) (kind : Lexeme) → token_of text ≡ Some kind → IsWordIn kind
kind_word text (Lexeme.Name s) h = token_word text s h
kind_word text _ h = tt

pub lexed_words : {bytes : List ℕ} {at : ℕ} {tokens : List Placed} → LexesFrom bytes at tokens → AreWords tokens
lexed_words ends = tt
lexed_words (after_gap e h) = lexed_words h
lexed_words (after_token {bytes = bytes} {size = size} {kind = kind} next e h) = (kind_word (take size bytes) kind next.is, lexed_words h)
