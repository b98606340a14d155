-- What holds of each item still does once one more is pushed.
use Rattle.std.proofs.Common.{◌≡◌, zero, suc, List, [], ◌∷◌, ◌++◌, All, sym, subst, arith}
use Rattle.std.proofs.lemmas.List.Elements.{All-append}

module _ {A : Type 0} (Q : A → Type 0) where
  all-one : (x : A) → Q x → All Q (x ∷ [])
  all-one x q zero d lt = q
  all-one x q (suc k) d lt = absurd (omega arith)

  pub all-more : (xs now : List A) (x : A) → now ≡ xs ++ x ∷ [] → All Q xs → Q x → All Q now
  all-more xs now x e all q = subst (λ (l : List A). All Q l) (sym e) (All-append Q xs (x ∷ []) all (all-one x q))
