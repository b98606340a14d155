-- Parts in order, one part off.
use Rattle.std.proofs.Common.{◌≡◌, ℕ, ◌+◌, ◌<◌, ◌≤◌, List, [], ◌∷◌, ◌++◌, map, length, drop, get_or, refl, sym, ap, subst, ◌∙◌, add-one}
use Rattle.std.proofs.Math.Seq.{drop-cons}
use Rattle.std.proofs.lemmas.List.{drop_all, append_assoc, append-nil}
use Rattle.cal_ast.specs.Tree.{Tree, listed}
use Rattle.cal_model.specs.Kinding.{Judged, Fine, Broken, and_so}
use Rattle.cal_scope.specs.Names.{with_name}
use Rattle.cal_scope.specs.Expressions.{declared_by, declared_name}
use Rattle.cal_scope.specs.Judging.{Breaks}
use Rattle.cal_scope.specs.declared.fault.ScopeFault.{ScopeFault}
use Rattle.cal_scope.proofs.Judged.{breaks_on, so_ext, so_fine, so_so}

-- the judgements of parts in order, each over what those before it left
abbrev pub each_in : {A S : Type 0} → (A → S → Judged Tree) → (A → S → S) → List A → S → Judged (List Tree)
each_in f next [] s = Fine []
each_in f next (x ∷ xs) s = and_so (f x s) (λ r. and_so (each_in f next xs (next x s)) (λ rs. Fine (r ∷ rs)))

-- what parts leave
abbrev pub after : {A S : Type 0} → (A → S → S) → List A → S → S
after next [] s = s
after next (x ∷ xs) s = after next xs (next x s)

-- what was found so far, and the judgement of the rest
abbrev pub with_rest : {A S : Type 0} → (A → S → Judged Tree) → (A → S → S) → List Tree → List A → S → Judged (List Tree)
with_rest f next done xs s = and_so (each_in f next xs s) (λ rs. Fine (done ++ rs))

-- how a loop over parts stands: what was found, at which place, over what those before left
abbrev pub IsJudgedUpTo : {A S : Type 0} → (A → S → Judged Tree) → (A → S → S) → List Tree → ℕ → List A → S → S → Type 0
IsJudgedUpTo f next done n xs s first = (with_rest f next done (drop n xs) s ≡ each_in f next xs first) × (after next (drop n xs) s ≡ after next xs first)

module _ {A S : Type 0} (f : A → S → Judged Tree) (next : A → S → S) where
  same_rest : (o : Judged (List Tree)) → and_so o (λ rs. Fine rs) ≡ o
  same_rest (Fine rs) = refl
  same_rest (Broken rule at) = refl

  pub judged_start : (xs : List A) (s : S) (done : List Tree) → done ≡ [] → IsJudgedUpTo f next done 0 xs s s
  judged_start xs s done e = (ap (λ ts. and_so (each_in f next xs s) (λ rs. Fine (ts ++ rs))) e ∙ same_rest (each_in f next xs s), refl)

  opened : (xs : List A) (n : ℕ) (d : A) (s : S) → n < length xs
      → each_in f next (drop n xs) s ≡ and_so (f (get_or xs n d) s) (λ r. and_so (each_in f next (drop (n + 1) xs) (next (get_or xs n d) s)) (λ rs. Fine (r ∷ rs)))
  opened xs n d s h =
      ap (λ ys. each_in f next ys s) (drop-cons xs n d h)
      ∙ ap (λ m. and_so (f (get_or xs n d) s) (λ r. and_so (each_in f next (drop m xs) (next (get_or xs n d) s)) (λ rs. Fine (r ∷ rs)))) (sym (add-one n))

  left : (xs : List A) (n : ℕ) (d : A) (s : S) → n < length xs → after next (drop n xs) s ≡ after next (drop (n + 1) xs) (next (get_or xs n d) s)
  left xs n d s h =
      ap (λ ys. after next ys s) (drop-cons xs n d h)
      ∙ ap (λ m. after next (drop m xs) (next (get_or xs n d) s)) (sym (add-one n))

  pub judged_next : (xs : List A) (n : ℕ) (d : A) (s new first : S) (r : Tree) (done more : List Tree) → n < length xs
      → f (get_or xs n d) s ≡ Fine r → new ≡ next (get_or xs n d) s → more ≡ done ++ r ∷ []
      → IsJudgedUpTo f next done n xs s first → IsJudgedUpTo f next more (n + 1) xs new first
  judged_next xs n d s new first r done more h e g m inv =
      let rest = each_in f next (drop (n + 1) xs) (next (get_or xs n d) s) in (
        ap (λ u. with_rest f next more (drop (n + 1) xs) u) g
            ∙ so_ext rest (λ rs. Fine (more ++ rs)) (λ rs. Fine (done ++ (r ∷ rs))) (λ rs. ap (λ ts. Fine (ts ++ rs)) m ∙ ap Fine (append_assoc done (r ∷ []) rs))
            ∙ sym (so_so rest (λ rs. Fine (r ∷ rs)) (λ rs. Fine (done ++ rs)))
            ∙ ap (λ o. and_so o (λ rs. Fine (done ++ rs))) (sym (opened xs n d s h ∙ so_fine (f (get_or xs n d) s) r _ e))
            ∙ inv.0,
        ap (λ u. after next (drop (n + 1) xs) u) g ∙ sym (left xs n d s h) ∙ inv.1,
      )

  pub judged_breaks : (xs : List A) (n : ℕ) (d : A) (s first : S) (done : List Tree) (fault : ScopeFault) → n < length xs
      → Breaks fault (f (get_or xs n d) s) → IsJudgedUpTo f next done n xs s first → Breaks fault (each_in f next xs first)
  judged_breaks xs n d s first done fault h b inv =
      subst (λ o. Breaks fault o) inv.0
      (breaks_on fault (each_in f next (drop n xs) s) (λ rs. Fine (done ++ rs))
      (subst (λ o. Breaks fault o) (sym (opened xs n d s h)) (breaks_on fault (f (get_or xs n d) s) _ b)))

  pub judged_done : (xs : List A) (n : ℕ) (s first : S) (done : List Tree) → length xs ≤ n → IsJudgedUpTo f next done n xs s first
      → each_in f next xs first ≡ Fine done
  judged_done xs n s first done h inv =
      sym inv.0 ∙ ap (λ ys. with_rest f next done ys s) (drop_all n xs h) ∙ ap Fine (append-nil done)

  pub after_done : (xs : List A) (n : ℕ) (s first : S) (done : List Tree) → length xs ≤ n → IsJudgedUpTo f next done n xs s first
      → s ≡ after next xs first
  after_done xs n s first done h inv = sym (ap (λ ys. after next ys s) (drop_all n xs h)) ∙ inv.1

-- ---- what declarations leave

pub declared_after : {A : Type 0} (t : A → Tree) (xs : List A) (here : List (List ℕ)) → declared_by (listed (map t xs)) here ≡ after (λ x h. with_name (declared_name (t x)) h) xs here
declared_after t [] here = refl
declared_after t (x ∷ xs) here = declared_after t xs (with_name (declared_name (t x)) here)
