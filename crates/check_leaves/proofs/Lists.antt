-- Lists that are longer by one.
use Rattle.std.proofs.Common.{◌≡◌, ℕ, zero, suc, ◌<◌, Bool, true, false, List, [], ◌∷◌, ◌++◌, length, map, get_or, Some, refl, sym, ap, subst, ◌∙◌, arith}
use Rattle.std.specs.Prelude.{◌==◌, Contains, slice_get}
use Rattle.std.proofs.lemmas.Bool.Decides.{nat_tests}
use Rattle.cal_model.specs.Sound.{Each}
use Rattle.cal_check.proofs.Lists.{at-head, in-rest}

by_test : {A : Type 0} (k n : ℕ) (b : Bool) → (k == n) ≡ b → k < suc n → (k < n → A) → (k ≡ n → A) → A
by_test k n true e low f g = let same : k ≡ n = grind (arith, nat_tests) in g same
by_test k n false e low f g = let less : k < n = grind (arith, nat_tests) in f less

-- before the last, or the last
pub split : {A : Type 0} (k n : ℕ) → k < suc n → (k < n → A) → (k ≡ n → A) → A
split k n low f g = by_test k n (k == n) refl low f g

pub some_same : {A : Type 0} (x y : A) → Some x ≡ Some y → x ≡ y
some_same x y h = cc

pub within : {A : Type 0} (xs : List A) (k : ℕ) (x : A) → slice_get xs k ≡ Some x → k < length xs
within [] k x h = absurd (cc)
within (y ∷ ys) zero x h = omega arith
within (y ∷ ys) (suc k) x h = let less = within ys k x h in omega (arith, less)

pub longer : {A : Type 0} (xs : List A) (x : A) → length (xs ++ x ∷ []) ≡ suc (length xs)
longer [] x = refl
longer (y ∷ ys) x = ap suc (longer ys x)

pub get_front : {A : Type 0} (xs ys : List A) (k : ℕ) → k < length xs → slice_get (xs ++ ys) k ≡ slice_get xs k
get_front [] ys k low = absurd (omega (arith, low))
get_front (x ∷ xs) ys zero low = refl
get_front (x ∷ xs) ys (suc k) low = get_front xs ys k (omega (arith, low))

pub get_last : {A : Type 0} (xs : List A) (x : A) → slice_get (xs ++ x ∷ []) (length xs) ≡ Some x
get_last [] x = refl
get_last (y ∷ ys) x = get_last ys x

pub still : {A : Type 0} (xs ys : List A) (k : ℕ) (x : A) → slice_get xs k ≡ Some x → slice_get (xs ++ ys) k ≡ Some x
still xs ys k x h = get_front xs ys k (within xs k x h) ∙ h

-- what stands in the longer list, in the shorter one or at its end
pub earlier_or_last : {A B : Type 0} (xs : List A) (x y : A) (k : ℕ) → slice_get (xs ++ x ∷ []) k ≡ Some y
    → (slice_get xs k ≡ Some y → B) → (k ≡ length xs → x ≡ y → B) → B
earlier_or_last xs x y k h f g =
    let many = longer xs x in
    let low = within (xs ++ x ∷ []) k y h in
    let below : k < suc (length xs) = subst (λ n. k < n) many low in
    split k (length xs) below
    (λ less. f (sym (get_front xs (x ∷ []) k less) ∙ h))
    (λ same. g same (some_same x y (sym (get_last xs x) ∙ sym (ap (slice_get (xs ++ x ∷ [])) same) ∙ h)))

pub contains_last : {A : Type 0} (xs : List A) (x : A) → Contains (xs ++ x ∷ []) x
contains_last [] x = at-head x x [] refl
contains_last (y ∷ ys) x = in-rest x y (ys ++ x ∷ []) (contains_last ys x)

pub no_items : {A : Type 0} (xs : List A) → length xs ≡ 0 → xs ≡ []
no_items [] h = refl
no_items (x ∷ xs) h = absurd (omega (arith, h))

-- an item that was read
pub item_at : {A : Type 0} (xs : List A) (x : A) (k : ℕ) → k < length xs → x ≡ get_or xs k x → slice_get xs k ≡ Some x
item_at [] x k low e = absurd (omega (arith, low))
item_at (y ∷ ys) x zero low e = ap Some (sym e)
item_at (y ∷ ys) x (suc k) low e = item_at ys x k (omega (arith, low)) e

pub mapped_at : {A B : Type 0} (f : A → B) (xs : List A) (x : A) (k : ℕ) → slice_get xs k ≡ Some x → slice_get (map f xs) k ≡ Some (f x)
mapped_at f [] x k h = absurd (cc)
mapped_at f (y ∷ ys) x zero h = ap (λ z. Some (f z)) (some_same y x h)
mapped_at f (y ∷ ys) x (suc k) h = mapped_at f ys x k h

pub each_at : {A : Type 0} (P : A → Type 0) (xs : List A) (k : ℕ) (x : A) → Each P xs → slice_get xs k ≡ Some x → P x
each_at P [] k x h e = absurd (cc)
each_at P (y ∷ ys) zero x h e = subst P (some_same y x e) h.0
each_at P (y ∷ ys) (suc k) x h e = each_at P ys k x h.1 e
