-- The longest token at the front of a text, and its first flaw.
use Rattle.std.proofs.Common.{◌≡◌, ℕ, zero, suc, ◌+◌, ◌-◌, ◌^◌, ◌<◌, ◌≤◌, Bool, true, false, List, [], ◌∷◌, length, take, drop, get_or, Option, Some, None, refl, sym, ap, ◌∙◌, subst, ⊎_elim, arith, eqb-true, lt-ltb}
use Rattle.std.proofs.lemmas.Bool.{cases_lt}
use Rattle.std.proofs.lemmas.Bool.Decides.{nat_tests}
use Rattle.std.proofs.lemmas.List.{get_or_past, length-take, length-drop, get_or-take, get_or-drop, drop-take, length-take-le}
use Rattle.std.proofs.lemmas.List.Folds.{list_all_at}
use Rattle.std.specs.Prelude.{◌&&◌, ◌==◌, MatchOption, if◌then◌else◌, slice_index, nat_lt, nat_le}
use Rattle.std.specs.List.{list_all}
use Rattle.std.specs.Char.{is_ascii_digit, is_ascii_hexdigit}
use borrow.Author.Tests.{le-ltb, le-leb, lt-leb, ltb-true}
use Rattle.rvc_base.specs.Rules.{number_too_big, number_runs_on, leading_zero, name_too_long}
use Rattle.cal_lexer.specs.Lexeme.{Lexeme, Name, Number}
use Rattle.cal_lexer.specs.Lexis.{max_name, front, Token, IsNext, flaw, token_of, word, number, hexadecimal, decimal_number, value_of, symbol, begins_name, goes_on_name, reserved, first_of_both, find, words, long_ends, symbols_of_one, symbols_of_two, symbols_of_three, runs_on, has_leading_zero}
use Rattle.cal_lexer.specs.Lexes.{FaultsFrom, flawed}
use Rattle.cal_lexer.specs.Pieces.{IsLongestSymbol, IsRun, IsToken, IsTooBig, IsNumber}
use Rattle.cal_lexer.proofs.Fronts.{both, token_some}

-- runs

run_longer : (passes : ℕ → Bool) (bytes : List ℕ) (n more : ℕ) → IsRun passes bytes n → n < more → more ≤ length bytes → list_all passes (take more bytes) ≡ false
run_longer passes bytes n more run less most =
    list_all_at passes (take more bytes) n 0 (omega (arith, length-take more bytes)) (rw (get_or-take more bytes n 0 less) (run.stops (omega arith)))

pub run_positive : (passes : ℕ → Bool) (bytes : List ℕ) (n : ℕ) → passes (slice_index bytes 0) ≡ true → 0 < length bytes → IsRun passes bytes n → 0 < n
run_positive passes bytes zero yes_first some run = let stop = run.stops some in cc
run_positive passes bytes (suc n) yes_first some run = omega arith

passes_at : (passes : ℕ → Bool) (xs : List ℕ) (i : ℕ) (b : Bool) → passes (get_or xs i 0) ≡ b → list_all passes xs ≡ true → i < length xs → b ≡ true
passes_at passes xs i true is all h = refl
passes_at passes xs i false is all h = let none = list_all_at passes xs i 0 h is in cc

-- a prefix begins as the whole does
first_of_take : (n : ℕ) (bytes : List ℕ) → 0 < n → slice_index (take n bytes) 0 ≡ slice_index bytes 0
first_of_take n bytes h = get_or-take n bytes 0 0 h

-- words

goes_on : (b : ℕ) → begins_name b ≡ true → goes_on_name b ≡ true
goes_on b e = rw e

token_word : (n : ℕ) (bytes : List ℕ) → 0 < n → begins_name (slice_index bytes 0) ≡ true → token_of (take n bytes) ≡ word (take n bytes)
token_word n bytes h e = rw (first_of_take n bytes h, e)

next_word : (bytes : List ℕ) (n : ℕ) (kind : Lexeme) → front bytes ≡ Token → begins_name (slice_index bytes 0) ≡ true → IsRun goes_on_name bytes n → first_of_both (reserved (take n bytes)) (Some (Name (take n bytes))) ≡ Some kind → IsNext bytes n kind
next_word bytes n kind begins named run is =
    let positive : 0 < n = run_positive goes_on_name bytes n (goes_on (slice_index bytes 0) named) (token_some bytes begins) run in
    record {
      begins = begins;
      within = run.within;
      is = token_word n bytes positive named ∙ rw run.pass is;
      longest = λ more less most. token_word more bytes (omega arith) named ∙ rw (run_longer goes_on_name bytes n more run less most);
    }

-- reserved words and symbols have no flaw

is_fixed : Lexeme → Bool
is_fixed (Name text) = false
is_fixed (Number value) = false
is_fixed _ = true

flaw_fixed : (kind : Lexeme) (text rest : List ℕ) → is_fixed kind ≡ true → flaw kind text rest ≡ None
unfolding is_fixed
flaw_fixed (Name name) text rest e = cc
flaw_fixed (Number value) text rest e = cc
flaw_fixed _ text rest e = refl

all_fixed : List (List ℕ × Lexeme) → Bool
all_fixed [] = true
all_fixed (e ∷ table) = is_fixed e.1 && all_fixed table

fixed_at : (b : Bool) (kind found : Lexeme) (rest : Option Lexeme) → is_fixed kind ≡ true → (rest ≡ Some found → is_fixed found ≡ true) → (if b then Some kind else rest) ≡ Some found → is_fixed found ≡ true
fixed_at true kind found rest here later e = let same : kind ≡ found = cc in subst (λ k. is_fixed k ≡ true) same here
fixed_at false kind found rest here later e = later e

fixed_found : (table : List (List ℕ × Lexeme)) (text : List ℕ) (kind : Lexeme) → all_fixed table ≡ true → find text table ≡ Some kind → is_fixed kind ≡ true
unfolding all_fixed
fixed_found [] text kind all found = cc
fixed_found (e ∷ table) text kind all found =
    let parts = both (is_fixed e.1) (all_fixed table) all in
    fixed_at _ e.1 kind (find text table) parts.0 (fixed_found table text kind parts.1) found

fixed_both : (o other : Option Lexeme) (kind : Lexeme) → (o ≡ Some kind → is_fixed kind ≡ true) → (other ≡ Some kind → is_fixed kind ≡ true) → first_of_both o other ≡ Some kind → is_fixed kind ≡ true
fixed_both None other kind h k e = k e
fixed_both (Some found) other kind h k e = h e

words_fixed : all_fixed words ≡ true
unfolding all_fixed is_fixed
words_fixed = refl

ends_fixed : all_fixed long_ends ≡ true
unfolding all_fixed is_fixed
ends_fixed = refl

three_fixed : all_fixed symbols_of_three ≡ true
unfolding all_fixed is_fixed
three_fixed = refl

two_fixed : all_fixed symbols_of_two ≡ true
unfolding all_fixed is_fixed
two_fixed = refl

one_fixed : all_fixed symbols_of_one ≡ true
unfolding all_fixed is_fixed
one_fixed = refl

reserved_fixed : (text : List ℕ) (kind : Lexeme) → reserved text ≡ Some kind → is_fixed kind ≡ true
reserved_fixed text kind e = fixed_both (find text words) (find text long_ends) kind (fixed_found words text kind words_fixed) (fixed_found long_ends text kind ends_fixed) e

symbol_fixed : (text : List ℕ) (kind : Lexeme) → symbol text ≡ Some kind → is_fixed kind ≡ true
symbol_fixed text kind e =
    fixed_both (find text symbols_of_three) (first_of_both (find text symbols_of_two) (find text symbols_of_one)) kind (fixed_found symbols_of_three text kind three_fixed)
    (fixed_both (find text symbols_of_two) (find text symbols_of_one) kind (fixed_found symbols_of_two text kind two_fixed) (fixed_found symbols_of_one text kind one_fixed))
    e

pub reserved_token : (bytes text : List ℕ) (n : ℕ) (kind : Lexeme) → front bytes ≡ Token → begins_name (slice_index bytes 0) ≡ true → IsRun goes_on_name bytes n → text ≡ take n bytes → Some kind ≡ reserved text → IsToken bytes n kind
reserved_token bytes text n kind begins named run same e =
    let found : reserved (take n bytes) ≡ Some kind = ap reserved (sym same) ∙ sym e in
    record {
      positive = run_positive goes_on_name bytes n (goes_on (slice_index bytes 0) named) (token_some bytes begins) run;
      next = next_word bytes n kind begins named run (rw found);
      flawless = flaw_fixed kind (take n bytes) (drop n bytes) (reserved_fixed (take n bytes) kind found);
    }

next_name : (bytes text : List ℕ) (n : ℕ) → front bytes ≡ Token → begins_name (slice_index bytes 0) ≡ true → IsRun goes_on_name bytes n → text ≡ take n bytes → reserved text ≡ None → IsNext bytes n (Name (take n bytes))
next_name bytes text n begins named run same e =
    let found : reserved (take n bytes) ≡ None = ap reserved (sym same) ∙ e in
    next_word bytes n (Name (take n bytes)) begins named run (rw found)

pub name_token : (bytes text : List ℕ) (n : ℕ) → front bytes ≡ Token → begins_name (slice_index bytes 0) ≡ true → IsRun goes_on_name bytes n → text ≡ take n bytes → reserved text ≡ None → n ≤ max_name → IsToken bytes n (Name text)
name_token bytes text n begins named run same e small =
    subst (λ t. IsToken bytes n (Name t)) (sym same) (record {
      positive = run_positive goes_on_name bytes n (goes_on (slice_index bytes 0) named) (token_some bytes begins) run;
      next = next_name bytes text n begins named run same e;
      flawless = rw (le-ltb max_name (length (take n bytes)) (omega (arith, length-take-le n bytes run.within)));
    })

pub name_fault : (bytes text : List ℕ) (n at : ℕ) → front bytes ≡ Token → begins_name (slice_index bytes 0) ≡ true → IsRun goes_on_name bytes n → text ≡ take n bytes → reserved text ≡ None → max_name < n → FaultsFrom bytes at name_too_long at
name_fault bytes text n at begins named run same e big =
    flawed (next_name bytes text n begins named run same e) (rw (lt-ltb max_name (length (take n bytes)) (omega (arith, length-take-le n bytes run.within))))

-- symbols

token_symbol : (n : ℕ) (bytes : List ℕ) → 0 < n → begins_name (slice_index bytes 0) ≡ false → is_ascii_digit (slice_index bytes 0) ≡ false → token_of (take n bytes) ≡ symbol (take n bytes)
token_symbol n bytes h e f = rw (first_of_take n bytes h, e, f)

pub symbol_token : (bytes : List ℕ) (size : ℕ) (kind : Lexeme) → front bytes ≡ Token → begins_name (slice_index bytes 0) ≡ false → is_ascii_digit (slice_index bytes 0) ≡ false → IsLongestSymbol bytes size kind → IsToken bytes size kind
symbol_token bytes size kind begins name digit found =
    let above = found.positive in
    record {
      positive = found.positive;
      next = record {
        begins = begins;
        within = found.within;
        is = token_symbol size bytes found.positive name digit ∙ found.is;
        longest = λ more less most. token_symbol more bytes (omega arith) name digit ∙ found.longest more less most;
      };
      flawless = flaw_fixed kind (take size bytes) (drop size bytes) (symbol_fixed (take size bytes) kind found.is);
    }

-- numbers

is_x : (b : ℕ) (t : Bool) → (b == 120) ≡ t → is_ascii_digit b ≡ true → t ≡ false
is_x b true e digit = let same : b ≡ 120 = eqb-true b 120 e in let none = rw same at digit in cc
is_x b false e digit = refl

digit_not_name : (b : ℕ) → is_ascii_digit b ≡ true → begins_name b ≡ false
digit_not_name b digit = grind (arith, nat_tests)

token_number : (n : ℕ) (bytes : List ℕ) → 0 < n → is_ascii_digit (slice_index bytes 0) ≡ true → token_of (take n bytes) ≡ number (take n bytes)
token_number n bytes h e = rw (first_of_take n bytes h, digit_not_name (slice_index bytes 0) e, e)

-- in a run of digits no `x` stands second
second_of_run : (bytes : List ℕ) (n : ℕ) → IsRun is_ascii_digit bytes n → (slice_index (take n bytes) 1 == 120) ≡ false
second_of_run bytes n run =
    ⊎_elim (λ long. is_x (slice_index (take n bytes) 1) _ refl (passes_at is_ascii_digit (take n bytes) 1 _ refl run.pass (omega (arith, length-take-le n bytes run.within))))
    (λ short. rw (get_or_past (take n bytes) 1 0 (omega (arith, length-take-le n bytes run.within))))
    (cases_lt 1 n)

-- without a hexadecimal digit behind the `x` there is no hexadecimal number
no_hex_at : (bytes : List ℕ) (more : ℕ) (t : Bool) → ((slice_index bytes 0 == 48) && ((slice_index bytes 1 == 120) && is_ascii_hexdigit (slice_index bytes 2))) ≡ false → slice_index (take more bytes) 1 ≡ 120
    → ((slice_index (take more bytes) 0 == 48) && (nat_lt 2 (length (take more bytes)) && list_all is_ascii_hexdigit (drop 2 (take more bytes)))) ≡ t → t ≡ false
no_hex_at bytes more false mark x e = refl
no_hex_at bytes more true mark x e =
    let outer = both (slice_index (take more bytes) 0 == 48) (nat_lt 2 (length (take more bytes)) && list_all is_ascii_hexdigit (drop 2 (take more bytes))) e in
    let inner = both (nat_lt 2 (length (take more bytes))) (list_all is_ascii_hexdigit (drop 2 (take more bytes))) outer.1 in
    let long : 2 < length (take more bytes) = ltb-true 2 (length (take more bytes)) inner.0 in
    let most : 2 < more = omega (arith, length-take more bytes) in
    let zeroth : (slice_index bytes 0 == 48) ≡ true = ap (λ k. k == 48) (sym (get_or-take more bytes 0 0 (omega arith))) ∙ outer.0 in
    let first : slice_index bytes 1 ≡ 120 = sym (get_or-take more bytes 1 0 (omega arith)) ∙ x in
    let second : is_ascii_hexdigit (slice_index bytes 2) ≡ true =
    ap is_ascii_hexdigit (sym (get_or-drop 2 (take more bytes) 0 0 ∙ get_or-take more bytes 2 0 most)) ∙ passes_at is_ascii_hexdigit (drop 2 (take more bytes)) 0 _ refl inner.1 (omega (arith, length-drop 2 (take more bytes))) in
    let none = rw (zeroth, first, second) at mark in cc

no_hex : (bytes : List ℕ) (more : ℕ) → ((slice_index bytes 0 == 48) && ((slice_index bytes 1 == 120) && is_ascii_hexdigit (slice_index bytes 2))) ≡ false → slice_index (take more bytes) 1 ≡ 120 → hexadecimal (take more bytes) ≡ None
no_hex bytes more mark x = let e = no_hex_at bytes more _ mark x refl in rw e

number_none : (text : List ℕ) (t : Bool) → (slice_index text 1 == 120) ≡ t → (slice_index text 1 ≡ 120 → hexadecimal text ≡ None) → decimal_number text ≡ None → number text ≡ None
number_none text true e hex decimal = rw e (hex (eqb-true (slice_index text 1) 120 e))
number_none text false e hex decimal = rw e decimal

pub next_decimal : (bytes : List ℕ) (n : ℕ) → front bytes ≡ Token → is_ascii_digit (slice_index bytes 0) ≡ true → IsRun is_ascii_digit bytes n
    → ((slice_index bytes 0 == 48) && ((slice_index bytes 1 == 120) && is_ascii_hexdigit (slice_index bytes 2))) ≡ false → IsNext bytes n (Number (value_of 10 (take n bytes)))
next_decimal bytes n begins digit run mark =
    let positive : 0 < n = run_positive is_ascii_digit bytes n digit (token_some bytes begins) run in
    record {
      begins = begins;
      within = run.within;
      is = token_number n bytes positive digit ∙ rw (second_of_run bytes n run, run.pass);
      longest = λ more less most. token_number more bytes (omega arith) digit ∙ number_none (take more bytes) _ refl (no_hex bytes more mark) (rw (run_longer is_ascii_digit bytes n more run less most));
    }

hex_some : (xs : List ℕ) → is_ascii_hexdigit (slice_index xs 0) ≡ true → 0 < length xs
hex_some [] e = cc
hex_some (b ∷ xs) e = omega arith

behind_two : (bytes : List ℕ) (n h : ℕ) → n ≡ 2 + h → drop 2 (take n bytes) ≡ take h (drop 2 bytes)
behind_two bytes n h e = rw e (drop-take 2 h bytes)

all_fail : (x y z : Bool) → z ≡ false → (x && (y && z)) ≡ false
all_fail true true z e = e
all_fail true false z e = refl
all_fail false y z e = refl

hex_none : (text : List ℕ) → list_all is_ascii_hexdigit (drop 2 text) ≡ false → hexadecimal text ≡ None
hex_none text e = rw (all_fail (slice_index text 0 == 48) (nat_lt 2 (length text)) (list_all is_ascii_hexdigit (drop 2 text)) e)

hex_is : (text : List ℕ) → slice_index text 0 ≡ 48 → 2 < length text → list_all is_ascii_hexdigit (drop 2 text) ≡ true → hexadecimal text ≡ Some (Number (value_of 16 (drop 2 text)))
hex_is text e h all = rw (e, lt-ltb 2 (length text) h, all)

number_hex : (text : List ℕ) → slice_index text 1 ≡ 120 → number text ≡ hexadecimal text
number_hex text e = rw e

pub next_hex : (bytes : List ℕ) (n h : ℕ) → front bytes ≡ Token → slice_index bytes 0 ≡ 48 → slice_index bytes 1 ≡ 120 → is_ascii_hexdigit (slice_index bytes 2) ≡ true → IsRun is_ascii_hexdigit (drop 2 bytes) h → n ≡ 2 + h
    → (digits : List ℕ) → digits ≡ take h (drop 2 bytes) → IsNext bytes n (Number (value_of 16 digits))
next_hex bytes n h begins zeroth first second run size digits same =
    let hexed : is_ascii_hexdigit (slice_index (drop 2 bytes) 0) ≡ true = ap is_ascii_hexdigit (get_or-drop 2 bytes 0 0) ∙ second in
    let some : 0 < length (drop 2 bytes) = hex_some (drop 2 bytes) hexed in
    let positive : 0 < h = run_positive is_ascii_hexdigit (drop 2 bytes) h hexed some run in
    let digit : is_ascii_digit (slice_index bytes 0) ≡ true = rw zeroth in
    let long = length-drop 2 bytes in
    let runs = run.within in
    let within : n ≤ length bytes = omega arith in
    let all : list_all is_ascii_hexdigit (drop 2 (take n bytes)) ≡ true = ap (list_all is_ascii_hexdigit) (behind_two bytes n h size) ∙ run.pass in
    record {
      begins = begins;
      within = within;
      is = token_number n bytes (omega arith) digit ∙ number_hex (take n bytes) (get_or-take n bytes 1 0 (omega arith) ∙ first)
          ∙ hex_is (take n bytes) (get_or-take n bytes 0 0 (omega arith) ∙ zeroth) (omega (arith, length-take-le n bytes within)) all
          ∙ ap (λ ds. Some (Number (value_of 16 ds))) (behind_two bytes n h size ∙ sym same);
      longest = λ more less most.
          token_number more bytes (omega arith) digit ∙ number_hex (take more bytes) (get_or-take more bytes 1 0 (omega arith) ∙ first)
          ∙ hex_none (take more bytes) (ap (list_all is_ascii_hexdigit) (behind_two bytes more (more - 2) (omega arith)) ∙ run_longer is_ascii_hexdigit (drop 2 bytes) h (more - 2) run (omega arith) (omega arith));
    }

number_flaw : (value : ℕ) (text rest : List ℕ) → value < 2 ^ 128 → flaw (Number value) text rest ≡ (if runs_on rest then Some number_runs_on else (if has_leading_zero text then Some leading_zero else None))
number_flaw value text rest h = let e : nat_le (2 ^ 128) value ≡ false = lt-leb (2 ^ 128) value h in rw e

pub too_big : (bytes : List ℕ) (n at : ℕ) → IsTooBig bytes n → FaultsFrom bytes at number_too_big at
too_big bytes n at big = flawed big.next (rw (le-leb (2 ^ 128) big.value big.big))

pub runs_on_fault : (bytes : List ℕ) (n value at : ℕ) → IsNext bytes n (Number value) → value < 2 ^ 128 → runs_on (drop n bytes) ≡ true → FaultsFrom bytes at number_runs_on at
runs_on_fault bytes n value at next small e = flawed next (number_flaw value (take n bytes) (drop n bytes) small ∙ rw e)

pub zero_fault : (bytes : List ℕ) (n value at : ℕ) → IsNext bytes n (Number value) → value < 2 ^ 128 → runs_on (drop n bytes) ≡ false → has_leading_zero (take n bytes) ≡ true → FaultsFrom bytes at leading_zero at
zero_fault bytes n value at next small e f = flawed next (number_flaw value (take n bytes) (drop n bytes) small ∙ rw (e, f))

positive_number : (bytes : List ℕ) (n value : ℕ) → IsNext bytes n (Number value) → 0 < n
positive_number bytes zero value next = let some = next.is in cc
positive_number bytes (suc n) value next = omega arith

pub number_token : (bytes : List ℕ) (n value : ℕ) → IsNext bytes n (Number value) → value < 2 ^ 128 → runs_on (drop n bytes) ≡ false → has_leading_zero (take n bytes) ≡ false → IsToken bytes n (Number value)
number_token bytes n value next small e f = record {
  positive = positive_number bytes n value next;
  next = next;
  flawless = number_flaw value (take n bytes) (drop n bytes) small ∙ rw (e, f);
}

pub read_number : (r : Option ℕ) (bytes : List ℕ) (n value : ℕ) → IsNext bytes n (Number value) → MatchOption r (2 ^ 128 ≤ value) (λ v. (v ≡ value) × (v < 2 ^ 128)) → MatchOption r (IsTooBig bytes n) (IsNumber bytes n)
read_number None bytes n value next big = record { value = value; big = big; next = next }
read_number (Some v) bytes n value next e = record { small = e.1; next = subst (λ k. IsNext bytes n (Number k)) (sym e.0) next }

-- a name is ASCII

below_128 : (b : ℕ) → goes_on_name b ≡ true → b < 128
below_128 b e = grind (arith, nat_tests)

pub name_ascii : (xs : List ℕ) → list_all goes_on_name xs ≡ true → (i : ℕ) → slice_index xs i < 128
name_ascii [] all i = omega arith
name_ascii (b ∷ xs) all zero = below_128 b ((both (goes_on_name b) (list_all goes_on_name xs) all).0)
name_ascii (b ∷ xs) all (suc i) = name_ascii xs ((both (goes_on_name b) (list_all goes_on_name xs) all).1) i
