-- What holds of each item of a list, and of the list without its last one.
use Rattle.std.proofs.Common.{◌≡◌, zero, suc, List, [], ◌∷◌, ◌++◌, length, All, Any, Option, None, Some, MatchOption, sym, refl, subst, arith}
use Rattle.std.proofs.lemmas.List.Elements.{All-append}
use Rattle.std.proofs.lemmas.List.{get_or_append_left}
use Rattle.std.proofs.Math.Seq.{get_or-append_seam}
use lib.ListN.{length-append}

module _ {A : Type 0} (Q : A → Type 0) where
  pub all-one : (x : A) → Q x → All Q (x ∷ [])
  all-one x q zero d lt = q
  all-one x q (suc k) d lt = absurd (omega arith)

  pub all-more : (xs now : List A) (x : A) → now ≡ xs ++ x ∷ [] → All Q xs → Q x → All Q now
  all-more xs now x e all q = subst (λ (l : List A). All Q l) (sym e) (All-append Q xs (x ∷ []) all (all-one x q))

  pub all-last : (xs ys : List A) (x : A) → xs ≡ ys ++ x ∷ [] → All Q xs → Q x × All Q ys
  all-last xs ys x e all =
      let both : All Q (ys ++ x ∷ []) = subst (λ (l : List A). All Q l) e all in
      let long = length-append ys (x ∷ []) in (
        subst Q (get_or-append_seam ys x [] x) (both (length ys) x (omega (arith, long))),
        λ k d lt. subst Q (get_or_append_left ys (x ∷ []) d k lt) (both k d (omega (arith, long))),
      )

  -- some item of the list, which is the first one or one of the others
  pub any-cases : {G : Type 0} (x : A) (xs : List A) → Any Q (x ∷ xs) → (Q x → G) → (Any Q xs → G) → G
  any-cases x xs (zero, y, lt, is, q) here there = here (subst Q (sym is) q)
  any-cases x xs (suc k, y, lt, is, q) here there = there (k, y, omega arith, is, q)

  pub any-none : {G : Type 0} → Any Q [] → G
  any-none (k, y, lt, is, q) = absurd (omega arith)

pub nil-of : {A : Type 0} (xs : List A) → length xs ≡ 0 → xs ≡ []
nil-of [] e = refl
nil-of (x ∷ xs) e = absurd (omega arith)

-- if no item was found, what holds of none
pub none-case : {A : Type 0} {X : Type 0} (Y : A → Type 0) (r : Option A) → ((x : A) → r ≡ Some x → ⊥) → MatchOption r X Y → X
none-case Y None nothing h = h
none-case Y (Some x) nothing h = absurd (nothing x refl)
