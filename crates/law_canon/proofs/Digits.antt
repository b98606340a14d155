-- The decimal text of a number: digits, without a leading zero, that stand for it.
use Rattle.std.proofs.Common.{◌≡◌, ℕ, zero, suc, ◌+◌, ◌*◌, ◌/◌, ◌%◌, ◌^◌, ◌<◌, ◌≤◌, true, false, List, [], ◌∷◌, ◌++◌, length, refl, sym, ap, ◌∙◌, subst, arith}
use Rattle.std.specs.Prelude.{◌==◌, decimal, slice_index}
use Rattle.std.specs.List.{list_all}
use Rattle.std.specs.Char.{is_ascii_digit}
use Rattle.std.proofs.lemmas.Bool.{ne_eqb}
use Rattle.std.proofs.lemmas.Bool.Decides.{nat_tests}
use Rattle.std.proofs.lemmas.Fmt.{decimal_by_steps_wide, decimal_digit}
use Rattle.std.proofs.lemmas.List.Folds.{list_all-append}
use Rattle.std.proofs.lemmas.List.{length-append}
use Rattle.std.proofs.lemmas.List.Sums.{fold-append}
use Rattle.cal_lexer.specs.Lexis.{value_of, digit_value, has_leading_zero}

pub record AreDigitsOf (n : ℕ) (ds : List ℕ) : Type 0 where
  pub digits : list_all is_ascii_digit ds ≡ true
  pub value : value_of 10 ds ≡ n
  pub some : 0 < length ds
  pub first : 0 < n → 48 < slice_index ds 0

digit_is : (d : ℕ) → d < 10 → is_ascii_digit (48 + d) ≡ true
digit_is d low = grind (arith, nat_tests)

digit_stands : (d : ℕ) → d < 10 → digit_value (48 + d) ≡ d
digit_stands d low = let e = digit_is d low in rw e (omega arith)

one_digit : (n : ℕ) → n < 10 → AreDigitsOf n ((48 + n) ∷ [])
one_digit n low = record {
  digits = rw (digit_is n low);
  value = omega (arith, digit_stands n low);
  some = omega arith;
  first = λ above. omega arith;
}

first_stays : (ds : List ℕ) (d : ℕ) → 0 < length ds → slice_index (ds ++ (d ∷ [])) 0 ≡ slice_index ds 0
first_stays [] d h = absurd (omega arith)
first_stays (c ∷ ds) d h = refl

digit_more : (n : ℕ) (ds : List ℕ) → 10 ≤ n → AreDigitsOf (n / 10) ds → AreDigitsOf n (ds ++ ((48 + n % 10) ∷ []))
digit_more n ds high front =
    let low : n % 10 < 10 = omega arith in
    record {
      digits = list_all-append is_ascii_digit ds ((48 + n % 10) ∷ []) ∙ rw (front.digits, digit_is (n % 10) low) refl;
      value = fold-append (λ value b. value * 10 + digit_value b) 0 ds ((48 + n % 10) ∷ [])
          ∙ ap (λ v. v * 10 + digit_value (48 + n % 10)) front.value ∙ ap (λ d. n / 10 * 10 + d) (digit_stands (n % 10) low) ∙ omega arith;
      some = omega (arith, length-append ds ((48 + n % 10) ∷ []));
      first = λ above. subst (λ b. 48 < b) (sym (first_stays ds (48 + n % 10) front.some)) (front.first (omega arith));
    }

pub decimal_digits : (n : ℕ) → n < 2 ^ 128 → AreDigitsOf n (decimal n)
decimal_digits n fits = decimal_by_steps_wide AreDigitsOf one_digit digit_more n (omega arith)

-- no number has a leading zero
starts_above : (ds : List ℕ) → 48 < slice_index ds 0 → has_leading_zero ds ≡ false
starts_above ds h = let e : (slice_index ds 0 == 48) ≡ false = ne_eqb (slice_index ds 0) 48 (λ same. omega arith) in rw e

pub no_leading_zero : (n : ℕ) → n < 2 ^ 128 → has_leading_zero (decimal n) ≡ false
no_leading_zero zero fits = rw (decimal_digit 0 (omega arith))
no_leading_zero (suc n) fits = let d = decimal_digits (suc n) fits in starts_above (decimal (suc n)) (d.first (omega arith))
