-- No token has a blank in it.
use Rattle.std.proofs.Common.{◌≡◌, ℕ, Bool, true, false, List, [], ◌∷◌, ◌++◌, length, Option, Some, None, refl, ap, subst, arith}
use Rattle.std.specs.Prelude.{◌&&◌, ◌==◌, not, slice_index, nat_lt, if◌then◌else◌}
use Rattle.std.specs.List.{list_all}
use Rattle.std.specs.Char.{is_ascii_digit, is_ascii_hexdigit}
use Rattle.std.specs.Str.{bytes_eq}
use Rattle.std.proofs.lemmas.Bool.{and_parts, and_right, eqb-true}
use Rattle.std.proofs.lemmas.Bool.Decides.{nat_tests}
use Rattle.std.proofs.lemmas.Slice.Eq.{bytes_eq-Decides}
use Rattle.cal_lexer.specs.Lexeme.{Lexeme}
use Rattle.cal_lexer.specs.Lexis.{is_blank, begins_name, goes_on_name, find, symbols_of_one, symbols_of_two, symbols_of_three, symbol, word, hexadecimal, decimal_number, number, token_of}

-- a byte that a test refuses, somewhere in a text
fails_at : (passes : ℕ → Bool) (xs ys : List ℕ) (b : ℕ) → passes b ≡ false → list_all passes (xs ++ (b ∷ ys)) ≡ false
fails_at passes [] ys b e = rw e
fails_at passes (x ∷ xs) ys b e = and_right (passes x) (list_all passes (xs ++ (b ∷ ys))) (fails_at passes xs ys b e)

blank_not_name : (b : ℕ) → is_blank b ≡ true → goes_on_name b ≡ false
blank_not_name b e = grind (arith, nat_tests)

blank_not_digit : (b : ℕ) → is_blank b ≡ true → is_ascii_digit b ≡ false
blank_not_digit b e = grind (arith, nat_tests)

blank_not_hex : (b : ℕ) → is_blank b ≡ true → is_ascii_hexdigit b ≡ false
blank_not_hex b e = grind (arith, nat_tests)

-- words

word_blank : (xs ys : List ℕ) (b : ℕ) → is_blank b ≡ true → word (xs ++ (b ∷ ys)) ≡ None
word_blank xs ys b e = rw (fails_at goes_on_name xs ys b (blank_not_name b e))

-- symbols

is_dark : ℕ → Bool
is_dark b = not (is_blank b)

all_dark : List (List ℕ × Lexeme) → Bool
all_dark [] = true
all_dark (e ∷ table) = list_all is_dark e.0 && all_dark table

-- what isn't dark isn't in such a table
find_at : (t u : Bool) (text : List ℕ) (e : List ℕ × Lexeme) (other : Option Lexeme) → bytes_eq text e.0 ≡ t → list_all is_dark text ≡ false → list_all is_dark e.0 ≡ true → other ≡ None → (if t then Some e.1 else other) ≡ None
find_at true u text e other is bright dark none = let same : text ≡ e.0 = (bytes_eq-Decides text e.0).0 is in let f = ap (list_all is_dark) same in cc
find_at false u text e other is bright dark none = none

find_dark : (table : List (List ℕ × Lexeme)) (text : List ℕ) → all_dark table ≡ true → list_all is_dark text ≡ false → find text table ≡ None
unfolding all_dark
find_dark [] text dark bright = refl
find_dark (e ∷ table) text dark bright =
    let parts = and_parts (list_all is_dark e.0) (all_dark table) dark in
    find_at _ true text e (find text table) refl bright parts.0 (find_dark table text parts.1 bright)

dark_one : all_dark symbols_of_one ≡ true
unfolding all_dark is_dark
dark_one = refl

dark_two : all_dark symbols_of_two ≡ true
unfolding all_dark is_dark
dark_two = refl

dark_three : all_dark symbols_of_three ≡ true
unfolding all_dark is_dark
dark_three = refl

blank_not_dark : (b : ℕ) → is_blank b ≡ true → is_dark b ≡ false
unfolding is_dark
blank_not_dark b e = rw e

symbol_blank : (xs ys : List ℕ) (b : ℕ) → is_blank b ≡ true → symbol (xs ++ (b ∷ ys)) ≡ None
symbol_blank xs ys b e =
    let bright : list_all is_dark (xs ++ (b ∷ ys)) ≡ false = fails_at is_dark xs ys b (blank_not_dark b e) in
    rw (find_dark symbols_of_three _ dark_three bright, find_dark symbols_of_two _ dark_two bright, find_dark symbols_of_one _ dark_one bright)

-- numbers

decimal_blank : (xs ys : List ℕ) (b : ℕ) → is_blank b ≡ true → decimal_number (xs ++ (b ∷ ys)) ≡ None
decimal_blank xs ys b e = rw (fails_at is_ascii_digit xs ys b (blank_not_digit b e))

hex_all : (x y z : Bool) → z ≡ false → (x && (y && z)) ≡ false
hex_all true true z e = e
hex_all true false z e = refl
hex_all false y z e = refl

-- the text begins with a digit, and `x` stands second
hex_blank : (xs ys : List ℕ) (b : ℕ) → is_blank b ≡ true → is_ascii_digit (slice_index (xs ++ (b ∷ ys)) 0) ≡ true → slice_index (xs ++ (b ∷ ys)) 1 ≡ 120 → hexadecimal (xs ++ (b ∷ ys)) ≡ None
hex_blank [] ys b e digit x = let f = blank_not_digit b e in cc
hex_blank (a ∷ []) ys b e digit x = let f : is_blank 120 ≡ true = subst (λ k. is_blank k ≡ true) x e in cc
hex_blank (a ∷ c ∷ xs) ys b e digit x =
    let none : list_all is_ascii_hexdigit (xs ++ (b ∷ ys)) ≡ false = fails_at is_ascii_hexdigit xs ys b (blank_not_hex b e) in
    rw (hex_all (a == 48) (nat_lt 2 (length (a ∷ c ∷ (xs ++ (b ∷ ys))))) (list_all is_ascii_hexdigit (xs ++ (b ∷ ys))) none)

number_at : (t : Bool) (xs ys : List ℕ) (b : ℕ) → (slice_index (xs ++ (b ∷ ys)) 1 == 120) ≡ t → is_blank b ≡ true → is_ascii_digit (slice_index (xs ++ (b ∷ ys)) 0) ≡ true → number (xs ++ (b ∷ ys)) ≡ None
number_at true xs ys b is e digit = rw is (hex_blank xs ys b e digit (eqb-true (slice_index (xs ++ (b ∷ ys)) 1) 120 is))
number_at false xs ys b is e digit = rw is (decimal_blank xs ys b e)

blank_at : (named digit : Bool) (xs ys : List ℕ) (b : ℕ) → begins_name (slice_index (xs ++ (b ∷ ys)) 0) ≡ named → is_ascii_digit (slice_index (xs ++ (b ∷ ys)) 0) ≡ digit → is_blank b ≡ true → token_of (xs ++ (b ∷ ys)) ≡ None
blank_at true digit xs ys b name is e = rw name (word_blank xs ys b e)
blank_at false true xs ys b name is e = rw (name, is) (number_at _ xs ys b refl e is)
blank_at false false xs ys b name is e = rw (name, is) (symbol_blank xs ys b e)

-- a text that holds a blank is no token
pub blank_in : (xs ys : List ℕ) (b : ℕ) → is_blank b ≡ true → token_of (xs ++ (b ∷ ys)) ≡ None
blank_in xs ys b e = blank_at _ _ xs ys b refl refl e
