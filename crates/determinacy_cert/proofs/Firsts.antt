-- The first of what is listed number by number, as loops seek it.
use Rattle.std.proofs.Common.{◌≡◌, ℕ, zero, suc, ◌+◌, ◌-◌, ◌<◌, ◌≤◌, List, [], ◌∷◌, ◌++◌, refl, sym, ap, ◌∙◌, arith}
use Rattle.std.specs.Prelude.{Option, None, Some}
use Rattle.determinacy_cert.specs.Failing.{each_from, first}

abbrev pub first_or : {A : Type 0} → Option A → List A → Option A
first_or None ys = first ys
first_or (Some x) ys = Some x

pub first_both : {A : Type 0} (xs ys : List A) → first (xs ++ ys) ≡ first_or (first xs) ys
first_both [] ys = refl
first_both (x ∷ xs) ys = refl

first_with : {A : Type 0} (o : Option A) (xs ys : List A) → first xs ≡ o → first (xs ++ ys) ≡ first_or o ys
first_with o xs ys h = first_both xs ys ∙ ap (λ w. first_or w ys) h

one_more : (n a : ℕ) → a < n → n - a ≡ suc (n - (a + 1))
one_more n a h = omega arith

from_here : {A : Type 0} (n a : ℕ) (f : ℕ → List A) → a < n → each_from (n - a) a f ≡ f a ++ each_from (n - (a + 1)) (a + 1) f
from_here n a f h =
    let next : suc a ≡ a + 1 = omega arith in
    ap (λ m. each_from m a f) (one_more n a h) ∙ ap (λ k. f a ++ each_from (n - (a + 1)) k f) next

-- nothing is listed at this number: what is sought is sought from the next one on
pub next_on : {A : Type 0} (n a : ℕ) (f : ℕ → List A) (o : Option A) → a < n → first (f a) ≡ None → first (each_from (n - a) a f) ≡ o → first (each_from (n - (a + 1)) (a + 1) f) ≡ o
next_on n a f o h e k = sym (first_with None (f a) (each_from (n - (a + 1)) (a + 1) f) e) ∙ ap first (sym (from_here n a f h)) ∙ k

-- something is listed at this number: it is the first
pub found_here : {A : Type 0} (n a : ℕ) (f : ℕ → List A) (o : Option A) (x : A) → a < n → first (f a) ≡ Some x → first (each_from (n - a) a f) ≡ o → Some x ≡ o
found_here n a f o x h e k = sym (first_with (Some x) (f a) (each_from (n - (a + 1)) (a + 1) f) e) ∙ ap first (sym (from_here n a f h)) ∙ k

-- no number is left
pub all_sought : {A : Type 0} (n a : ℕ) (f : ℕ → List A) (o : Option A) → n ≤ a → first (each_from (n - a) a f) ≡ o → None ≡ o
all_sought n a f o h k = let none : n - a ≡ 0 = omega arith in ap (λ m. first (each_from m a f)) (sym none) ∙ k

pub from_start : {A : Type 0} (n : ℕ) (f : ℕ → List A) → first (each_from (n - 0) 0 f) ≡ first (each_from n 0 f)
from_start n f = let same : n - 0 ≡ n = omega arith in ap (λ m. first (each_from m 0 f)) same

pub no_first : {A : Type 0} (xs : List A) → first xs ≡ None → xs ≡ []
no_first [] h = refl
no_first (x ∷ xs) h = absurd (cc)

pub none_listed : {A : Type 0} (n k : ℕ) (f : ℕ → List A) → ((i : ℕ) → f i ≡ []) → each_from n k f ≡ []
none_listed zero k f h = refl
none_listed (suc n) k f h = ap (λ xs. xs ++ each_from n (suc k) f) (h k) ∙ none_listed n (suc k) f h
