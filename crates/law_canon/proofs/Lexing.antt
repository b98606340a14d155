-- The canonical spelling of tokens is read back.
use Rattle.std.proofs.Common.{◌≡◌, ℕ, suc, ◌+◌, ◌-◌, ◌^◌, ◌<◌, true, false, List, [], ◌∷◌, ◌++◌, length, take, drop, Option, Some, None, refl, sym, ap, ◌∙◌, subst, arith, le-ltb}
use Rattle.std.specs.Prelude.{◌&&◌, ◌==◌, not, is_some, decimal, slice_index}
use Rattle.std.specs.List.{list_all}
use Rattle.std.specs.Char.{is_ascii_digit}
use Rattle.std.proofs.lemmas.Bool.{and_parts, not-true, lt-leb}
use Rattle.std.proofs.lemmas.Bool.Decides.{nat_tests}
use Rattle.std.proofs.lemmas.List.{length-append}
use Rattle.std.proofs.Math.Seq.{take-append_seam, drop-append_seam, take-append-add}
use Rattle.cal_lexer.specs.Lexeme.{Lexeme, Placed, placed}
use Rattle.cal_lexer.specs.Lexis.{max_name, front, Token, Gap, IsNext, flaw, is_blank, begins_name, goes_on_name, is_name, reserved, token_of}
use Rattle.cal_lexer.specs.Lexes.{LexesFrom, ends, after_gap, after_token}
use Rattle.cal_lexer.proofs.Fronts.{front_other}
use Rattle.cal_lexer.specs.Words.{spelling}
use Rattle.cal_print.specs.Spelling.{gap_behind, text_of}
use Rattle.law_canon.specs.Printable.{IsPrintable, ArePrintable, kinds}
use Rattle.law_canon.proofs.Blanks.{blank_in}
use Rattle.law_canon.proofs.Digits.{AreDigitsOf, decimal_digits, no_leading_zero}

-- a text that is a token is the longest one before a blank
next_text : (text rest : List ℕ) (gap : ℕ) (w : Lexeme) → is_blank gap ≡ true → front (text ++ (gap ∷ rest)) ≡ Token → token_of text ≡ Some w → IsNext (text ++ (gap ∷ rest)) (length text) w
next_text text rest gap w blank begins is = record {
  begins = begins;
  within = omega (arith, length-append text (gap ∷ rest));
  is = ap token_of (take-append_seam text (gap ∷ rest)) ∙ is;
  longest = λ more less most.
      let m : more ≡ length text + suc (more - length text - 1) = omega arith in
      ap (λ k. token_of (take k (text ++ (gap ∷ rest)))) m
      ∙ ap token_of (take-append-add text (gap ∷ rest) (suc (more - length text - 1)))
      ∙ blank_in text (take (more - length text - 1) rest) gap blank;
}

gap_front : (w : Lexeme) (rest : List ℕ) → front (gap_behind w ∷ rest) ≡ Gap 1
gap_front Lexeme.Semicolon rest = refl
gap_front Lexeme.End rest = refl
gap_front _ rest = refl

-- what begins with a letter, `_` or a digit begins with a token
front_word : (b : ℕ) (rest : List ℕ) → goes_on_name b ≡ true → front (b ∷ rest) ≡ Token
front_word b rest named =
    let blank : is_blank b ≡ false = grind (arith, nat_tests) in
    let slash : (b == 47) ≡ false = grind (arith, nat_tests) in
    let quote : (b == 34) ≡ false = grind (arith, nat_tests) in
    let bang : (b == 33) ≡ false = grind (arith, nat_tests) in
    front_other (b ∷ rest) false (omega arith) blank (rw slash) (rw slash) quote (rw (blank, named, bang))

-- names

record IsNameText (text : List ℕ) : Type 0 where
  begins : begins_name (slice_index text 0) ≡ true
  all : list_all goes_on_name text ≡ true
  free : is_some (reserved text) ≡ false

name_parts : (text : List ℕ) → is_name text ≡ true → IsNameText text
unfolding is_name
name_parts text e =
    let outer = and_parts (begins_name (slice_index text 0) && list_all goes_on_name text) (not (is_some (reserved text))) e in
    let inner = and_parts (begins_name (slice_index text 0)) (list_all goes_on_name text) outer.0 in
    record { begins = inner.0; all = inner.1; free = not-true (is_some (reserved text)) outer.1 }

none_of : (o : Option Lexeme) → is_some o ≡ false → o ≡ None
none_of None e = refl
none_of (Some w) e = cc

name_is : (text : List ℕ) → IsNameText text → token_of text ≡ Some (Lexeme.Name text)
name_is text parts = rw (parts.begins, parts.all, none_of (reserved text) parts.free)

front_name : (text rest : List ℕ) → IsNameText text → front (text ++ rest) ≡ Token
front_name [] rest parts = let e = parts.begins in cc
front_name (b ∷ text) rest parts = front_word b (text ++ rest) ((and_parts (goes_on_name b) (list_all goes_on_name text) parts.all).0)

-- numbers

digit_word : (b : ℕ) → is_ascii_digit b ≡ true → goes_on_name b ≡ true
digit_word b e = grind (arith, nat_tests)

digit_not_name : (b : ℕ) → is_ascii_digit b ≡ true → begins_name b ≡ false
digit_not_name b e = grind (arith, nat_tests)

digit_not_x : (b : ℕ) → is_ascii_digit b ≡ true → (b == 120) ≡ false
digit_not_x b e = grind (arith, nat_tests)

no_x : (ds : List ℕ) → list_all is_ascii_digit ds ≡ true → (slice_index ds 1 == 120) ≡ false
no_x [] e = refl
no_x (a ∷ []) e = refl
no_x (a ∷ c ∷ ds) e =
    let behind = and_parts (is_ascii_digit a) (list_all is_ascii_digit (c ∷ ds)) e in
    digit_not_x c ((and_parts (is_ascii_digit c) (list_all is_ascii_digit ds) behind.1).0)

first_digit : (ds : List ℕ) → 0 < length ds → list_all is_ascii_digit ds ≡ true → is_ascii_digit (slice_index ds 0) ≡ true
first_digit [] some e = absurd (omega arith)
first_digit (b ∷ ds) some e = (and_parts (is_ascii_digit b) (list_all is_ascii_digit ds) e).0

number_is : (ds : List ℕ) (n : ℕ) → AreDigitsOf n ds → token_of ds ≡ Some (Lexeme.Number n)
number_is ds n are =
    let first : is_ascii_digit (slice_index ds 0) ≡ true = first_digit ds are.some are.digits in
    rw (digit_not_name (slice_index ds 0) first, first, no_x ds are.digits, are.digits) (ap (λ v. Some (Lexeme.Number v)) are.value)

front_number : (ds rest : List ℕ) (n : ℕ) → AreDigitsOf n ds → front (ds ++ rest) ≡ Token
front_number [] rest n are = absurd (let some = are.some in omega arith)
front_number (b ∷ ds) rest n are = front_word b (ds ++ rest) (digit_word b (first_digit (b ∷ ds) are.some are.digits))

-- the token that a spelling begins with, and that it has no flaw
record IsBack (w : Lexeme) (rest : List ℕ) : Type 0 where
  next : IsNext (spelling w ++ (gap_behind w ∷ rest)) (length (spelling w)) w
  flawless : flaw w (spelling w) (gap_behind w ∷ rest) ≡ None

back : (w : Lexeme) (rest : List ℕ) → IsPrintable w → IsBack w rest
back (Lexeme.Name text) rest h =
    let parts = name_parts text h.0 in
    record {
      next = next_text text rest 32 (Lexeme.Name text) refl (front_name text (32 ∷ rest) parts) (name_is text parts);
      flawless = rw (le-ltb max_name (length text) h.1);
    }
back (Lexeme.Number value) rest h =
    let are = decimal_digits value h in
    record {
      next = next_text (decimal value) rest 32 (Lexeme.Number value) refl (front_number (decimal value) (32 ∷ rest) value are) (number_is (decimal value) value are);
      flawless = rw (lt-leb (2 ^ 128) value h, no_leading_zero value h);
    }
back Lexeme.LeftBrace rest h = absurd h
back Lexeme.RightBrace rest h = absurd h
back w rest h = record {
  next = next_text (spelling w) rest (gap_behind w) w refl refl refl;
  flawless = refl;
}

-- The text of printable tokens has these tokens and no fault, wherever it stands.
pub lexes_back : (ws : List Lexeme) (at : ℕ) → ArePrintable ws → (tokens : List Placed) × LexesFrom (text_of ws) at tokens × (kinds tokens ≡ ws)
lexes_back [] at all = ([], ends, refl)
lexes_back (w ∷ ws) at all =
    let text = spelling w in
    let behind = gap_behind w ∷ text_of ws in
    let rest = lexes_back ws (at + length text + 1) all.1 in
    let found = back w (text_of ws) all.0 in
    let past : drop (length text) (text ++ behind) ≡ behind = drop-append_seam text behind in
    let front_is : take (length text) (text ++ behind) ≡ text = take-append_seam text behind in
    let flawless : flaw w (take (length text) (text ++ behind)) (drop (length text) (text ++ behind)) ≡ None = rw (front_is, past) found.flawless in
    let gap : LexesFrom behind (at + length text) rest.0 = after_gap (gap_front w (text_of ws)) rest.1 in (
      placed w at ∷ rest.0,
      after_token found.next flawless (subst (λ bytes. LexesFrom bytes (at + length text) rest.0) (sym past) gap),
      ap (λ rest. w ∷ rest) rest.2,
    )
