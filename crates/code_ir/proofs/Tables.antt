-- Tables and lists of places that grow at their end.
use Rattle.std.proofs.Common.{◌≡◌, ℕ, zero, suc, ◌+◌, ◌-◌, ◌<◌, ◌≤◌, refl, sym, ap, ◌∙◌, subst, Bool, true, false, List, [], ◌∷◌, ◌++◌, length, arith, length-append}
use Rattle.std.specs.Prelude.{Some, slice_get, ◌==◌}
use Rattle.code_ir.specs.Code.{Code, begins, is_among, body_of}
use Rattle.code_ir.specs.Typing.{AreDistinct, FitsAlone, AllFitAlone, IsUnfit}
use Rattle.code_ir.specs.declared.instr.Instr.{Instr}
use Rattle.std.specs.Bool.{MatchBool}
use Rattle.std.proofs.lemmas.Bool.Decides.{when_true, when_false}
use Rattle.std.proofs.lemmas.Option.{slice_get_within}
use Rattle.code_ir.specs.Tables.{IsTableOf}
use Rattle.code_ir.proofs.Effects.{chosen, by-le}
use Rattle.code_ir.proofs.Bodies.{found, or-left, or-right, eqb-turned}

among-more : (y x : ℕ) (ys : List ℕ) → is_among y ys ≡ false → (x == y) ≡ false → is_among y (ys ++ x ∷ []) ≡ false
among-more y x [] e f = rw f refl
among-more y x (z ∷ ys) e f = rw (or-left (z == y) _ e) (among-more y x ys (or-right (z == y) _ e) f)

pub distinct-more : (size : ℕ) (xs : List ℕ) (x : ℕ) → AreDistinct size xs → x < size → is_among x xs ≡ false → AreDistinct size (xs ++ x ∷ [])
distinct-more size [] x d h e = (h, refl, tt)
distinct-more size (y ∷ ys) x d h e =
    (d.0, among-more y x ys d.1 (eqb-turned y x (or-left (y == x) _ e)), distinct-more size ys x d.2 h (or-right (y == x) _ e))

pub get-more : {X : Type 0} (xs : List X) (v : X) → slice_get (xs ++ v ∷ []) (length xs) ≡ Some v
get-more [] v = refl
get-more (x ∷ xs) v = get-more xs v

pub get-before : {X : Type 0} (xs ys : List X) (p : ℕ) → p < length xs → slice_get (xs ++ ys) p ≡ slice_get xs p
get-before [] ys p h = absurd (omega arith)
get-before (x ∷ xs) ys zero h = refl
get-before (x ∷ xs) ys (suc p) h = get-before xs ys p (omega arith)

at-last : (f : ℕ → ℕ) (xs : List ℕ) (n p v : ℕ) → length xs ≡ n → p ≡ n → v ≡ f n → slice_get (xs ++ v ∷ []) p ≡ Some (f p)
at-last f xs n p v e g h =
    let same : p ≡ length xs = g ∙ sym e in
    rw (same) (get-more xs v ∙ ap Some (h ∙ ap f (sym e)))

pub table-more : (n : ℕ) (f : ℕ → ℕ) (xs : List ℕ) (v : ℕ) → IsTableOf n f xs → v ≡ f n → IsTableOf (n + 1) f (xs ++ v ∷ [])
table-more n f xs v table e = record {
  size = let size : length xs ≡ n = table.size in omega (arith, length-append xs (v ∷ []), size);
  at = λ p h. chosen-place p h;
}
  where
    chosen-place : (p : ℕ) → p < n + 1 → slice_get (xs ++ v ∷ []) p ≡ Some (f p)
    chosen-place p h = by-le (suc p) n (λ less. get-before xs (v ∷ []) p (omega (arith, table.size, less)) ∙ table.at p less) (λ more. at-last f xs n p v table.size (omega arith) e)

pub body-step : (code : Code) (p before now : ℕ) → before ≡ body_of code (p - 1) → (is_among p (begins code) ≡ true → now ≡ p) → (is_among p (begins code) ≡ false → now ≡ before) → now ≡ body_of code p
body-step code zero before now e t f = body-first (is_among 0 (begins code)) t f
  where
    body-first : (b : Bool) → (b ≡ true → now ≡ 0) → (b ≡ false → now ≡ before) → now ≡ 0
    body-first true t f = t refl
    body-first false t f = f refl ∙ e
body-step code (suc p) before now e t f =
    chosen (λ b. now ≡ b) (is_among (suc p) (begins code)) (suc p) (body_of code p) t (λ g. f g ∙ e ∙ ap (body_of code) (omega arith))

-- ---- instructions that fit

pub unfit-here : (code : Code) (p : ℕ) (r : Bool) → p < length code.instrs → ((i : Instr) → slice_get code.instrs p ≡ Some i → MatchBool r (FitsAlone code p i) (¬ FitsAlone code p i)) → r ≡ false → IsUnfit code p
unfit-here code p r inside told e =
    let there : (i : Instr) × (slice_get code.instrs p ≡ Some i) = found code.instrs p inside in
    (there.0, there.1, when_false (FitsAlone code p there.0) (¬ FitsAlone code p there.0) e (told there.0 there.1))

abbrev pub FitBelow : Code → ℕ → Type 0
FitBelow code n = (p : ℕ) (i : Instr) → p < n → slice_get code.instrs p ≡ Some i → FitsAlone code p i

pub fit-more : (code : Code) (n : ℕ) (r : Bool) → FitBelow code n → ((i : Instr) → slice_get code.instrs n ≡ Some i → MatchBool r (FitsAlone code n i) (¬ FitsAlone code n i)) → r ≡ true → FitBelow code (n + 1)
fit-more code n r below told e p i h g =
    by-le (suc p) n (λ less. below p i less g)
    (λ more.
    let same : n ≡ p = omega arith in
    subst (λ q. slice_get code.instrs q ≡ Some i → FitsAlone code q i) same (λ at. when_true (FitsAlone code n i) (¬ FitsAlone code n i) e (told i at)) g)

pub fit-all : (code : Code) (n : ℕ) → FitBelow code n → length code.instrs ≤ n → AllFitAlone code
fit-all code n below all p i g =
    let inside : p < length code.instrs = slice_get_within code.instrs p i g in below p i (omega arith) g
