-- Lists, and lists of which each element keeps something.
use Rattle.std.proofs.Common.{◌≡◌, ℕ, zero, suc, ◌<◌, ◌⊎◌, inl, inr, List, [], ◌∷◌, ◌++◌, length, refl, subst, arith, Contains, Some}
use Rattle.std.specs.Prelude.{slice_get}
use Rattle.cal_model.specs.Sound.{Each}

pub none-left : {A : Type 0} (xs : List A) → length xs ≡ 0 → xs ≡ []
none-left [] h = refl
none-left (x ∷ xs) h = absurd (omega arith)

pub each-front : {A : Type 0} (P : A → Type 0) (xs ys : List A) → Each P (xs ++ ys) → Each P xs
each-front P [] ys h = tt
each-front P (x ∷ xs) ys h = (h.0, each-front P xs ys h.1)

pub each-append : {A : Type 0} (P : A → Type 0) (xs ys : List A) → Each P xs → Each P ys → Each P (xs ++ ys)
each-append P [] ys p q = q
each-append P (x ∷ xs) ys p q = (p.0, each-append P xs ys p.1 q)

pub each-map : {A : Type 0} (P Q : A → Type 0) (xs : List A) → ((x : A) → P x → Q x) → Each P xs → Each Q xs
each-map P Q [] f h = tt
each-map P Q (x ∷ xs) f h = (f x h.0, each-map P Q xs f h.1)

pub head-or-rest : {A : Type 0} (x y : A) (xs : List A) → Contains (y ∷ xs) x → (y ≡ x) ⊎ Contains xs x
head-or-rest x y xs (zero, h, e) = inl e
head-or-rest x y xs (suc k, h, e) = inr (k, omega arith, e)

pub in-none : {A : Type 0} (x : A) → Contains [] x → ⊥
in-none x h = let e : h.0 < 0 = h.1 in absurd (omega arith)

pub at-head : {A : Type 0} (x y : A) (xs : List A) → y ≡ x → Contains (y ∷ xs) x
at-head x y xs e = (0, omega arith, e)

pub in-rest : {A : Type 0} (x y : A) (xs : List A) → Contains xs x → Contains (y ∷ xs) x
in-rest x y xs (k, h, e) = (suc k, omega arith, e)

-- what holds of each that is there
pub each-of : {A : Type 0} (P : A → Type 0) (xs : List A) → ((x : A) → Contains xs x → P x) → Each P xs
each-of P [] f = tt
each-of P (x ∷ xs) f = (f x (at-head x x xs refl), each-of P xs (λ y c. f y (in-rest y x xs c)))

-- what holds of each holds of the one at a place
pub each-at : {A : Type 0} (P : A → Type 0) (xs : List A) (i : ℕ) (x : A) → Each P xs → slice_get xs i ≡ Some x → P x
each-at P [] i x h e = absurd (cc)
each-at P (y ∷ ys) zero x h e = subst P (let s : y ≡ x = cc in s) h.0
each-at P (y ∷ ys) (suc i) x h e = each-at P ys i x h.1 e
