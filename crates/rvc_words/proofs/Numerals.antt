-- Numbers by the facts that the code finds.
use Rattle.std.proofs.Common.{◌⊎◌, inl, inr, leb, ◌≡◌, ℕ, ◌<◌, ◌≤◌, ◌^◌, Bool, true, false, not, ◌&&◌, cond, List, length, None, Some, Result, Ok, Err, refl, ap, sym, arith, rules}
use Rattle.std.specs.List.{list_all}
use Rattle.std.specs.Str.Parse.{digits_value, ParsesUnsigned}
use Rattle.std.proofs.lemmas.Str.Parse.{IsNumeralModel, numerals_by_value, parse_digits}
use Rattle.std.proofs.lemmas.Bool.Decides.{nat_tests}
use Rattle.rvc_words.specs.Forms.{is_digit, is_empty, number}
use Rattle.rvc_words.specs.Limits.{max_digits}

own : IsNumeralModel (λ ds. list_all is_digit ds ≡ true) (digits_value 10)
own = numerals_by_value _ (search rules)

-- what `parse` says of digits
pub parsed_ok : (w : List ℕ) (n : ℕ) → ParsesUnsigned {E = ℕ} 64 10 w (Ok n) → list_all is_digit w ≡ true → (0 < length w) × (n ≡ digits_value 10 w)
parsed_ok w n h d = let r : Result ℕ ℕ = Ok n in let p = parse_digits own 64 w r h d in (p.0.0, p.1)

pub parsed_err : (w : List ℕ) → ParsesUnsigned {E = ℕ} 64 10 w (Err 0) → list_all is_digit w ≡ true → 0 < length w → digits_value 10 w < 2 ^ 64 → ⊥
parsed_err w h d some fits = let r : Result ℕ ℕ = Err 0 in let p = parse_digits own 64 w r h d in p (some, fits)

pub number_some : (least most : ℕ) (w : List ℕ) (n : ℕ) → 0 < length w → length w ≤ max_digits → list_all is_digit w ≡ true → n ≡ digits_value 10 w → least ≤ n → n ≤ most → Some n ≡ number least most w
unfolding number
number_some least most w n some short digits e low high = grind (arith, nat_tests)

abbrev fits : (least most : ℕ) → List ℕ → Bool
fits least most w = not (is_empty w) && leb (length w) max_digits && list_all is_digit w && leb least (digits_value 10 w) && leb (digits_value 10 w) most

either : (b : Bool) → (b ≡ false) ⊎ (b ≡ true)
either true = inr refl
either false = inl refl

pub number_none : (least most : ℕ) (w : List ℕ) → (0 < length w → length w ≤ max_digits → list_all is_digit w ≡ true → least ≤ digits_value 10 w → digits_value 10 w ≤ most → ⊥) → None ≡ number least most w
unfolding number
number_none least most w never =
    elim (either (fits least most w)) [
      | inl unfit ↦ ap (λ t. cond t (Some (digits_value 10 w)) None) (sym unfit)
      | inr fit ↦ absurd (never (grind (arith, nat_tests)) (grind (arith, nat_tests)) (grind (arith, nat_tests)) (grind (arith, nat_tests)) (grind (arith, nat_tests)))
    ]
