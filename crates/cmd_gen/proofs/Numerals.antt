-- The number that a top names.
use Rattle.std.proofs.Common.{◌⊎◌, inl, inr, leb, ◌≡◌, ℕ, ◌<◌, ◌≤◌, Bool, true, false, not, ◌&&◌, cond, List, length, Option, None, Some, Result, Ok, Err, refl, ap, sym, ◌∙◌, arith, rules}
use Rattle.std.specs.Prelude.{IsSome}
use Rattle.std.specs.List.{list_all}
use Rattle.std.specs.Str.Parse.{digits_value, ParsesUnsigned}
use Rattle.std.proofs.lemmas.Str.Parse.{IsNumeralModel, numerals_by_value, parse_digits}
use Rattle.std.proofs.lemmas.Bool.Decides.{nat_tests}
use Rattle.rvc_words.specs.Forms.{is_digit, is_empty, number}
use Rattle.rvc_words.specs.Limits.{max_digits, max_generated}
use Rattle.cmd_gen.specs.Jobs.{instances_of}

own : IsNumeralModel (λ ds. list_all is_digit ds ≡ true) (digits_value 10)
own = numerals_by_value _ (search rules)

abbrev fits : (least most : ℕ) → List ℕ → Bool
fits least most w = not (is_empty w) && leb (length w) max_digits && list_all is_digit w && leb least (digits_value 10 w) && leb (digits_value 10 w) most

either : (b : Bool) → (b ≡ false) ⊎ (b ≡ true)
either true = inr refl
either false = inl refl

-- a word that names a number is its digits
pub record Names (w : List ℕ) (n : ℕ) : Type 0 where
  pub some : 0 < length w
  pub digits : list_all is_digit w ≡ true
  pub value : n ≡ digits_value 10 w
  pub least : 1 ≤ n
  pub most : n ≤ 1000

chosen : (t : Bool) (v n : ℕ) → cond t (Some v) None ≡ Some n → (t ≡ true) × (v ≡ n)
chosen true v n e = (refl, (let same : Some v ≡ Some n = e in cc))
chosen false v n e = cc

pub names_number : (w : List ℕ) (n : ℕ) → instances_of w ≡ Some n → Names w n
unfolding number
names_number w n e =
    let so = chosen (fits 1 max_generated w) (digits_value 10 w) n e in
    let fit : fits 1 max_generated w ≡ true = so.0 in
    let same : digits_value 10 w ≡ n = so.1 in
    record {
      some = grind (arith, nat_tests);
      digits = grind (arith, nat_tests);
      value = sym so.1;
      least = grind (arith, nat_tests);
      most = grind (arith, nat_tests);
    }

pub some_number : (w : List ℕ) → IsSome (instances_of w) → (n : ℕ) × (instances_of w ≡ Some n)
some_number w some = so (instances_of w) some
  where
    so : (o : Option ℕ) → IsSome o → (n : ℕ) × (o ≡ Some n)
    so (Some n) some = (n, refl)
    so None some = search rules

pub parsed : (w : List ℕ) (m : ℕ) → ParsesUnsigned {E = ℕ} 32 10 w (Ok m) → IsSome (instances_of w) → (instances_of w ≡ Some m) × (0 < m)
parsed w m h some =
    let n = some_number w some in
    let names = names_number w n.0 n.1 in
    let r : Result ℕ ℕ = Ok m in
    let p = parse_digits own 32 w r h names.digits in
    let same : n.0 ≡ m = names.value ∙ sym p.1 in
    (n.1 ∙ ap Some same, (let least = names.least in omega (arith, least, same)))

pub not_parsed : (w : List ℕ) → ParsesUnsigned {E = ℕ} 32 10 w (Err 0) → IsSome (instances_of w) → ⊥
not_parsed w h some =
    let n = some_number w some in
    let names = names_number w n.0 n.1 in
    let r : Result ℕ ℕ = Err 0 in
    let p = parse_digits own 32 w r h names.digits in
    let few : digits_value 10 w ≤ 1000 = (let most = names.most in let value = names.value in omega (arith, most, value)) in
    p (names.some, (let f = few in omega (arith, f)))
