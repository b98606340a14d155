-- What a text lexes to is printable.
use Rattle.std.proofs.Common.{◌≡◌, ℕ, ◌^◌, ◌<◌, ◌≤◌, Bool, true, false, List, [], ◌∷◌, length, take, drop, Option, Some, None, refl, ◌∙◌, subst}
use Rattle.std.specs.Prelude.{◌==◌, slice_index, nat_lt, nat_le, if◌then◌else◌}
use Rattle.std.specs.List.{list_all}
use Rattle.std.specs.Char.{is_ascii_digit}
use Rattle.std.specs.Str.{bytes_eq}
use Rattle.std.proofs.lemmas.Bool.{ltb-false, leb-false}
use Rattle.rvc_base.specs.declared.refusal.Rule.{Rule}
use Rattle.rvc_base.specs.Rules.{name_too_long, number_too_big}
use Rattle.cal_lexer.specs.Lexeme.{Lexeme, Placed}
use Rattle.cal_lexer.specs.Lexis.{max_name, flaw, begins_name, goes_on_name, is_name, find, first_of_both, words, long_ends, reserved, symbols_of_one, symbols_of_two, symbols_of_three, symbol, word, hexadecimal, decimal_number, number, token_of}
use Rattle.cal_lexer.specs.Lexes.{LexesFrom, ends, after_gap, after_token}
use Rattle.cal_lexer.proofs.Braces.{token_braceless}
use Rattle.law_canon.specs.Printable.{IsPrintable, ArePrintable, kinds}

-- if it is a name, then it is one
abbrev IsSound : Lexeme → Type 0
IsSound (Lexeme.Name text) = is_name text ≡ true
IsSound _ = Unit {0}

AllSound : List (List ℕ × Lexeme) → Type 0
AllSound [] = Unit {0}
AllSound (e ∷ table) = IsSound e.1 × AllSound table

found_at : (t : Bool) (found kind : Lexeme) (other : Option Lexeme) → IsSound found → (other ≡ Some kind → IsSound kind) → (if t then Some found else other) ≡ Some kind → IsSound kind
found_at true found kind other here later e = let same : found ≡ kind = cc in subst IsSound same here
found_at false found kind other here later e = later e

find_sound : (table : List (List ℕ × Lexeme)) (text : List ℕ) (kind : Lexeme) → AllSound table → find text table ≡ Some kind → IsSound kind
unfolding AllSound
find_sound [] text kind all e = cc
find_sound (entry ∷ table) text kind all e = found_at (bytes_eq text entry.0) entry.1 kind (find text table) all.0 (find_sound table text kind all.1) e

both_sound : (o other : Option Lexeme) (kind : Lexeme) → (o ≡ Some kind → IsSound kind) → (other ≡ Some kind → IsSound kind) → first_of_both o other ≡ Some kind → IsSound kind
both_sound None other kind first second e = second e
both_sound (Some found) other kind first second e = first e

sound_words : AllSound words
unfolding AllSound
sound_words = search tt

sound_ends : AllSound long_ends
unfolding AllSound
sound_ends = search tt

sound_three : AllSound symbols_of_three
unfolding AllSound
sound_three = search tt

sound_two : AllSound symbols_of_two
unfolding AllSound
sound_two = search tt

sound_one : AllSound symbols_of_one
unfolding AllSound
sound_one = search tt

reserved_sound : (text : List ℕ) (kind : Lexeme) → reserved text ≡ Some kind → IsSound kind
reserved_sound text kind e = both_sound (find text words) (find text long_ends) kind (find_sound words text kind sound_words) (find_sound long_ends text kind sound_ends) e

symbol_sound : (text : List ℕ) (kind : Lexeme) → symbol text ≡ Some kind → IsSound kind
symbol_sound text kind e =
    both_sound (find text symbols_of_three) (first_of_both (find text symbols_of_two) (find text symbols_of_one)) kind (find_sound symbols_of_three text kind sound_three)
    (both_sound (find text symbols_of_two) (find text symbols_of_one) kind (find_sound symbols_of_two text kind sound_two) (find_sound symbols_of_one text kind sound_one))
    e

name_sound : (text : List ℕ) → begins_name (slice_index text 0) ≡ true → list_all goes_on_name text ≡ true → reserved text ≡ None → is_name text ≡ true
unfolding is_name
name_sound text begins all free = rw (begins, all, free)

word_at : (all : Bool) (o : Option Lexeme) (text : List ℕ) (kind : Lexeme) → begins_name (slice_index text 0) ≡ true → list_all goes_on_name text ≡ all → reserved text ≡ o
    → (if all then first_of_both o (Some (Lexeme.Name text)) else None) ≡ Some kind → IsSound kind
word_at false o text kind begins all free e = cc
word_at true None text kind begins all free e = let same : Lexeme.Name text ≡ kind = cc in subst IsSound same (name_sound text begins all free)
word_at true (Some found) text kind begins all free e = reserved_sound text kind (free ∙ e)

number_sound : (t : Bool) (value : ℕ) (kind : Lexeme) → (if t then Some (Lexeme.Number value) else None) ≡ Some kind → IsSound kind
number_sound true value kind e = let same : Lexeme.Number value ≡ kind = cc in subst IsSound same tt
number_sound false value kind e = cc

number_at : (hex : Bool) (text : List ℕ) (kind : Lexeme) → (if hex then hexadecimal text else decimal_number text) ≡ Some kind → IsSound kind
number_at true text kind e = number_sound _ _ kind e
number_at false text kind e = number_sound _ _ kind e

token_at : (named digit : Bool) (text : List ℕ) (kind : Lexeme) → begins_name (slice_index text 0) ≡ named → is_ascii_digit (slice_index text 0) ≡ digit
    → (if named then word text else (if digit then number text else symbol text)) ≡ Some kind → IsSound kind
token_at true digit text kind begins is e = word_at (list_all goes_on_name text) (reserved text) text kind begins refl refl e
token_at false true text kind begins is e = number_at (slice_index text 1 == 120) text kind e
token_at false false text kind begins is e = symbol_sound text kind e

token_sound : (text : List ℕ) (kind : Lexeme) → token_of text ≡ Some kind → IsSound kind
token_sound text kind e = token_at (begins_name (slice_index text 0)) (is_ascii_digit (slice_index text 0)) text kind refl refl e

-- a token without a flaw

short_name : (t : Bool) (n : ℕ) → nat_lt max_name n ≡ t → (if t then Some name_too_long else None) ≡ None → n ≤ max_name
short_name true n is e = cc
short_name false n is e = ltb-false max_name n is

small_number : (t : Bool) (n : ℕ) (other : Option Rule) → nat_le (2 ^ 128) n ≡ t → (if t then Some number_too_big else other) ≡ None → n < 2 ^ 128
small_number true n other is e = cc
small_number false n other is e = leb-false (2 ^ 128) n is

token_printable : (kind : Lexeme) (text rest : List ℕ) → token_of text ≡ Some kind → flaw kind text rest ≡ None → IsPrintable kind
token_printable (Lexeme.Name name) text rest is flawless = (token_sound text (Lexeme.Name name) is, short_name (nat_lt max_name (length name)) (length name) refl flawless)
token_printable (Lexeme.Number value) text rest is flawless = small_number (nat_le (2 ^ 128) value) value _ refl flawless
token_printable Lexeme.LeftBrace text rest is flawless = let other = token_braceless text Lexeme.LeftBrace is in absurd cc
token_printable Lexeme.RightBrace text rest is flawless = let other = token_braceless text Lexeme.RightBrace is in absurd cc
token_printable _ text rest is flawless = tt

-- What a text lexes to is printable.
pub lexed_is_printable : {bytes : List ℕ} {at : ℕ} {tokens : List Placed} → LexesFrom bytes at tokens → ArePrintable (kinds tokens)
lexed_is_printable ends = tt
lexed_is_printable (after_gap gap rest) = lexed_is_printable rest
lexed_is_printable {bytes} (after_token {size = size} {kind = kind} next flawless rest) = (token_printable kind (take size bytes) (drop size bytes) next.is flawless, lexed_is_printable rest)
