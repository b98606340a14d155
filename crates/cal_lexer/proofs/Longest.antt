-- The symbols by their lengths.
use Rattle.std.proofs.Common.{◌≡◌, ℕ, ◌<◌, ◌≤◌, Bool, true, false, List, [], ◌∷◌, length, take, Option, Some, None, refl, sym, ap, ◌∙◌, ⊎_elim, arith}
use Rattle.std.proofs.lemmas.Bool.{cases_lt}
use Rattle.std.proofs.lemmas.List.{length-take}
use Rattle.std.proofs.lemmas.Slice.Eq.{bytes_eq-Decides}
use Rattle.std.specs.Str.{bytes_eq}
use Rattle.cal_lexer.specs.Lexeme.{Lexeme}
use Rattle.cal_lexer.specs.Lexis.{find, first_of_both, symbol, symbols_of_one, symbols_of_two, symbols_of_three}
use Rattle.cal_lexer.specs.Pieces.{IsLongestSymbol}

-- each text of the table has n bytes
abbrev AllOf : ℕ → List (List ℕ × Lexeme) → Type 0
AllOf n [] = Unit {0}
AllOf n (e ∷ table) = (length e.0 ≡ n) × AllOf n table

all_one : AllOf 1 symbols_of_one
all_one = (refl, (refl, (refl, (refl, (refl, (refl, (refl, (refl, (refl, (refl, (refl, (refl, (refl, (refl, (refl, (refl, (refl, (refl, (refl, tt)))))))))))))))))))

all_two : AllOf 2 symbols_of_two
all_two = (refl, (refl, (refl, (refl, (refl, (refl, (refl, (refl, (refl, tt)))))))))

all_three : AllOf 3 symbols_of_three
all_three = (refl, (refl, tt))

found_at : (n : ℕ) (e : List ℕ × Lexeme) (table : List (List ℕ × Lexeme)) (text : List ℕ) (kind : Lexeme) (b : Bool) → bytes_eq text e.0 ≡ b → length e.0 ≡ n → (find text table ≡ Some kind → length text ≡ n) → find text (e ∷ table) ≡ Some kind → length text ≡ n
found_at n e table text kind true is len later found = let same : text ≡ e.0 = (bytes_eq-Decides text e.0).0 is in ap length same ∙ len
found_at n e table text kind false is len later found = later (rw is at found)

-- what is found in such a table has n bytes
pub found_length : (n : ℕ) (table : List (List ℕ × Lexeme)) (text : List ℕ) (kind : Lexeme) → AllOf n table → find text table ≡ Some kind → length text ≡ n
found_length n [] text kind all found = cc
found_length n (e ∷ table) text kind all found = found_at n e table text kind (bytes_eq text e.0) refl all.0 (found_length n table text kind all.1) found

none_at : (o : Option Lexeme) (n : ℕ) (text : List ℕ) → ((kind : Lexeme) → o ≡ Some kind → length text ≡ n) → (length text ≡ n → ⊥) → o ≡ None
none_at None n text h other = refl
none_at (Some kind) n text h other = absurd (other (h kind refl))

find_other : (n : ℕ) (table : List (List ℕ × Lexeme)) (text : List ℕ) → AllOf n table → (length text ≡ n → ⊥) → find text table ≡ None
find_other n table text all other = none_at (find text table) n text (λ kind found. found_length n table text kind all found) other

or_none : (o : Option Lexeme) → first_of_both o None ≡ o
or_none None = refl
or_none (Some kind) = refl

symbol_one : (text : List ℕ) → length text ≡ 1 → symbol text ≡ find text symbols_of_one
symbol_one text e = rw (find_other 3 symbols_of_three text all_three (λ f. omega arith), find_other 2 symbols_of_two text all_two (λ f. omega arith))

symbol_two : (text : List ℕ) → length text ≡ 2 → symbol text ≡ find text symbols_of_two
symbol_two text e = rw (find_other 3 symbols_of_three text all_three (λ f. omega arith), find_other 1 symbols_of_one text all_one (λ f. omega arith)) (or_none (find text symbols_of_two))

symbol_three : (text : List ℕ) → length text ≡ 3 → symbol text ≡ find text symbols_of_three
symbol_three text e = rw (find_other 2 symbols_of_two text all_two (λ f. omega arith), find_other 1 symbols_of_one text all_one (λ f. omega arith)) (or_none (find text symbols_of_three))

symbol_long : (text : List ℕ) → 3 < length text → symbol text ≡ None
symbol_long text h = rw (find_other 3 symbols_of_three text all_three (λ f. omega arith), find_other 2 symbols_of_two text all_two (λ f. omega arith), find_other 1 symbols_of_one text all_one (λ f. omega arith))

pub longest_three : (bytes : List ℕ) (kind : Lexeme) → Some kind ≡ find (take 3 bytes) symbols_of_three → IsLongestSymbol bytes 3 kind
longest_three bytes kind e =
    let len : length (take 3 bytes) ≡ 3 = found_length 3 symbols_of_three (take 3 bytes) kind all_three (sym e) in
    record {
      positive = omega arith;
      within = omega (arith, length-take 3 bytes);
      is = symbol_three (take 3 bytes) len ∙ sym e;
      longest = λ more less most. symbol_long (take more bytes) (omega (arith, length-take more bytes));
    }

at_three : (bytes : List ℕ) (more : ℕ) → find (take 3 bytes) symbols_of_three ≡ None → 2 < more → more ≤ length bytes → symbol (take more bytes) ≡ None
at_three bytes more none less most =
    ⊎_elim (λ long. symbol_long (take more bytes) (omega (arith, length-take more bytes)))
    (λ short. let is : more ≡ 3 = omega arith in rw is (symbol_three (take 3 bytes) (omega (arith, length-take 3 bytes)) ∙ none))
    (cases_lt 3 more)

pub longest_two : (bytes : List ℕ) (kind : Lexeme) → find (take 3 bytes) symbols_of_three ≡ None → Some kind ≡ find (take 2 bytes) symbols_of_two → IsLongestSymbol bytes 2 kind
longest_two bytes kind none e =
    let len : length (take 2 bytes) ≡ 2 = found_length 2 symbols_of_two (take 2 bytes) kind all_two (sym e) in
    record {
      positive = omega arith;
      within = omega (arith, length-take 2 bytes);
      is = symbol_two (take 2 bytes) len ∙ sym e;
      longest = λ more less most. at_three bytes more none less most;
    }

pub longest_one : (bytes : List ℕ) (kind : Lexeme) → find (take 3 bytes) symbols_of_three ≡ None → find (take 2 bytes) symbols_of_two ≡ None → Some kind ≡ find (take 1 bytes) symbols_of_one → IsLongestSymbol bytes 1 kind
longest_one bytes kind none nothing e =
    let len : length (take 1 bytes) ≡ 1 = found_length 1 symbols_of_one (take 1 bytes) kind all_one (sym e) in
    record {
      positive = omega arith;
      within = omega (arith, length-take 1 bytes);
      is = symbol_one (take 1 bytes) len ∙ sym e;
      longest = λ more less most.
          ⊎_elim (λ long. at_three bytes more none long most)
          (λ short. let is : more ≡ 2 = omega arith in rw is (symbol_two (take 2 bytes) (omega (arith, length-take 2 bytes)) ∙ nothing))
          (cases_lt 2 more);
    }
