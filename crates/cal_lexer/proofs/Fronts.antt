-- Blanks, comments and faults at the front of a text.
use Rattle.std.proofs.Common.{◌≡◌, ℕ, suc, ◌+◌, ◌-◌, ◌<◌, ◌≤◌, Bool, true, false, List, [], ◌∷◌, length, take, drop, None, refl, sym, ap, ◌∙◌, arith, eqb-true, lt-ltb}
use Rattle.std.proofs.lemmas.List.{length-drop}
use Rattle.std.specs.Prelude.{◌&&◌, ◌||◌, ◌==◌, not, is_some, if◌then◌else◌, slice_index}
use borrow.Author.Tests.{le-ltb}
use Rattle.rvc_base.specs.Rules.{foreign_byte, open_comment, string_literal}
use Rattle.cal_lexer.specs.Lexis.{front, Front, Gap, Fault, Token, before, at_line_end, at_close, comment, is_blank, begins_name, is_foreign, in_alphabet, find, symbols_of_one, symbols_of_two}
use Rattle.std.specs.Char.{is_ascii_digit}
use Rattle.cal_lexer.specs.Pieces.{IsGap}

pub both : (x y : Bool) → (x && y) ≡ true → (x ≡ true) × (y ≡ true)
both true true e = (refl, refl)
both true false e = cc
both false y e = cc

pub first_is : (b c mark : ℕ) → ((b == 47) && (c == mark)) ≡ true → b ≡ 47
first_is b c mark e = eqb-true b 47 ((both (b == 47) (c == mark) e).0)

pub second_is : (b c mark : ℕ) → ((b == 47) && (c == mark)) ≡ true → c ≡ mark
second_is b c mark e = eqb-true c mark ((both (b == 47) (c == mark) e).1)

stop_le : (t : Bool) (n m : ℕ) → n ≤ m → (if t then 0 else n + 1) ≤ suc m
stop_le true n m h = omega arith
stop_le false n m h = omega arith

before_le : (stops : List ℕ → Bool) (bytes : List ℕ) → before stops bytes ≤ length bytes
before_le stops [] = omega arith
before_le stops (b ∷ rest) = stop_le (stops (b ∷ rest)) (before stops rest) (length rest) (before_le stops rest)

pub gap_line : (bytes : List ℕ) → slice_index bytes 0 ≡ 47 → slice_index bytes 1 ≡ 47 → IsGap bytes (before at_line_end bytes)
gap_line [] e f = absurd (omega arith)
gap_line (b ∷ rest) e f = record { positive = rw e (omega arith); within = before_le at_line_end (b ∷ rest); is = rw (e, f) }

some_byte : (bytes : List ℕ) (c : ℕ) → slice_index bytes 0 ≡ suc c → 0 < length bytes
some_byte [] c e = absurd (omega arith)
some_byte (b ∷ rest) c e = omega arith

close_at : (t : Bool) (b : ℕ) (rest : List ℕ) → ((b == 42) && (slice_index rest 0 == 47)) ≡ t → (before at_close rest < length rest → before at_close rest + 2 ≤ length rest)
    → (if t then 0 else before at_close rest + 1) < suc (length rest) → (if t then 0 else before at_close rest + 1) + 2 ≤ suc (length rest)
close_at true b rest e later h =
    let c : slice_index rest 0 ≡ 47 = eqb-true (slice_index rest 0) 47 ((both (b == 42) (slice_index rest 0 == 47) e).1) in
    let some : 0 < length rest = some_byte rest 46 c in
    omega arith
close_at false b rest e later h = let k = later (omega arith) in omega arith

close_fits : (bytes : List ℕ) → before at_close bytes < length bytes → before at_close bytes + 2 ≤ length bytes
close_fits [] h = absurd (omega arith)
close_fits (b ∷ rest) h = close_at ((b == 42) && (slice_index rest 0 == 47)) b rest refl (close_fits rest) h

front_comment : (bytes : List ℕ) → slice_index bytes 0 ≡ 47 → slice_index bytes 1 ≡ 42 → front bytes ≡ comment (drop 2 bytes)
front_comment [] e f = absurd (omega arith)
front_comment (b ∷ rest) e f = rw (e, f)

pub gap_comment : (bytes : List ℕ) (inside : ℕ) → slice_index bytes 0 ≡ 47 → slice_index bytes 1 ≡ 42 → inside ≡ before at_close (drop 2 bytes) → inside < length bytes - 2 → IsGap bytes (inside + 4)
gap_comment bytes inside e f is less =
    let len = length-drop 2 bytes in
    let within : before at_close (drop 2 bytes) < length (drop 2 bytes) = omega arith in
    let fits : before at_close (drop 2 bytes) + 2 ≤ length (drop 2 bytes) = close_fits (drop 2 bytes) within in
    record {
      positive = omega arith;
      within = omega arith;
      is = front_comment bytes e f ∙ rw (lt-ltb (before at_close (drop 2 bytes)) (length (drop 2 bytes)) within) (ap (λ n. Gap (n + 4)) (sym is));
    }

pub unclosed : (bytes : List ℕ) (inside : ℕ) → slice_index bytes 0 ≡ 47 → slice_index bytes 1 ≡ 42 → inside ≡ before at_close (drop 2 bytes) → length bytes - 2 ≤ inside → front bytes ≡ Fault open_comment
unclosed bytes inside e f is most =
    let len = length-drop 2 bytes in
    let past : length (drop 2 bytes) ≤ before at_close (drop 2 bytes) = omega arith in
    front_comment bytes e f ∙ rw (le-ltb (before at_close (drop 2 bytes)) (length (drop 2 bytes)) past)

pub front_quote : (bytes : List ℕ) → slice_index bytes 0 ≡ 34 → front bytes ≡ Fault string_literal
front_quote [] e = absurd (omega arith)
front_quote (b ∷ rest) e = rw e

pub front_blank : (bytes : List ℕ) → 0 < length bytes → is_blank (slice_index bytes 0) ≡ true → IsGap bytes 1
front_blank [] h e = absurd (omega arith)
front_blank (b ∷ rest) h e = record { positive = omega arith; within = omega arith; is = rw e }

last : (blank line block quote foreign other : Bool) (a b c d e f : Front) → blank ≡ false → line ≡ false → block ≡ false → quote ≡ false → foreign ≡ other
    → (if blank then a else (if line then b else (if block then c else (if quote then d else (if foreign then e else f))))) ≡ (if other then e else f)
last blank line block quote foreign other a b c d e f p q r s t = rw (p, q, r, s, t)

-- neither a blank, nor a comment, nor a quote
pub front_other : (bytes : List ℕ) (foreign : Bool) → 0 < length bytes → is_blank (slice_index bytes 0) ≡ false → ((slice_index bytes 0 == 47) && (slice_index bytes 1 == 47)) ≡ false → ((slice_index bytes 0 == 47) && (slice_index bytes 1 == 42)) ≡ false
    → (slice_index bytes 0 == 34) ≡ false → is_foreign (slice_index bytes 0) (slice_index bytes 1) ≡ foreign → front bytes ≡ (if foreign then Fault foreign_byte else Token)
front_other [] foreign h blank line block quote is = absurd (omega arith)
front_other (b ∷ rest) foreign h blank line block quote is = last _ _ _ _ _ _ _ _ _ _ _ _ blank line block quote is

pub token_some : (bytes : List ℕ) → front bytes ≡ Token → 0 < length bytes
token_some [] e = cc
token_some (b ∷ rest) e = omega arith

-- no symbol, so the first byte is a `!`, and `=` stands behind it
bang : (x y z : Bool) → (not (x || y) || (x && not z)) ≡ false → y ≡ false → (x ≡ true) × (z ≡ true)
bang true y true e f = (refl, refl)
bang true y false e f = cc
bang false true z e f = cc
bang false false z e f = cc

alphabet : (b : ℕ) → begins_name b ≡ false → is_ascii_digit b ≡ false → is_blank b ≡ false → (b == 34) ≡ false → in_alphabet b ≡ ((b == 33) || is_some (find (b ∷ []) symbols_of_one))
alphabet b name digit blank quote = rw (blank, name, digit, quote)

pub some_symbol : (bytes : List ℕ) → 0 < length bytes → begins_name (slice_index bytes 0) ≡ false → is_ascii_digit (slice_index bytes 0) ≡ false → is_blank (slice_index bytes 0) ≡ false → (slice_index bytes 0 == 34) ≡ false
    → is_foreign (slice_index bytes 0) (slice_index bytes 1) ≡ false → find (take 1 bytes) symbols_of_one ≡ None → find (take 2 bytes) symbols_of_two ≡ None → ⊥
some_symbol [] h name digit blank quote known one two = absurd (omega arith)
some_symbol (b ∷ []) h name digit blank quote known one two =
    let facts = bang (b == 33) (is_some (find (b ∷ []) symbols_of_one)) false (rw (alphabet b name digit blank quote) at known) (ap is_some one) in cc
some_symbol (b ∷ c ∷ rest) h name digit blank quote known one two =
    let facts = bang (b == 33) (is_some (find (b ∷ []) symbols_of_one)) (c == 61) (rw (alphabet b name digit blank quote) at known) (ap is_some one) in
    let first : b ≡ 33 = eqb-true b 33 facts.0 in
    let second : c ≡ 61 = eqb-true c 61 facts.1 in
    let none = rw (first, second) at two in cc
