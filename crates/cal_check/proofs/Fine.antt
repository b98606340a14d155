-- Parts of which none is broken.
use Rattle.std.proofs.Common.{◌≡◌, ℕ, Bool, true, false, List, [], ◌∷◌, ◌++◌, map, refl, sym, ap, ◌∙◌, Some}
use Rattle.rvc_base.specs.declared.refusal.Rule.{Rule}
use Rattle.cal_ast.specs.Tree.{Tree}
use Rattle.cal_model.specs.Value.{Kind}
use Rattle.cal_model.specs.Kinding.{Judged, Fine, Broken, Names, kind}
use Rattle.cal_model.proofs.KindValues.{split, one-kind}
use Rattle.cal_ast.specs.Places.{begins}
use Rattle.cal_check.specs.Violations.{Violation, unless, broken, fine, if_fine, all_broken, and_all, all_fine}
use Rattle.cal_check.specs.Constants.{stored_kind}

pub not-none : (v : Violation) (vs : List Violation) → v ∷ vs ≡ [] → ⊥
not-none v vs h = cc

-- both lists are empty
pub none-of : {A : Type 0} (xs ys : List A) → xs ++ ys ≡ [] → (xs ≡ []) × (ys ≡ [])
none-of [] ys h = (refl, h)
none-of (x ∷ xs) ys h = absurd (cc)

pub unless-true : (b : Bool) (rule : Rule) (at : ℕ) → unless b rule at ≡ [] → b ≡ true
unless-true true rule at h = refl
unless-true false rule at h = absurd (cc)

pub broken-none : {A : Type 0} (j : Judged A) → broken j ≡ [] → (a : A) × (j ≡ Fine a)
broken-none (Fine a) h = (a, refl)
broken-none (Broken rule at) h = absurd (cc)

pub if-none : {A : Type 0} (j : Judged A) (f : A → List Violation) → if_fine j f ≡ [] → (a : A) × (j ≡ Fine a) × (f a ≡ [])
if-none (Fine a) f h = (a, refl, h)
if-none (Broken rule at) f h = absurd (cc)

-- the parts, each of which is fine
pub all-fine : {A : Type 0} (js : List (Judged A)) → all_broken js ≡ [] → (xs : List A) × (js ≡ map Fine xs) × (all_fine js ≡ Some xs)
all-fine [] h = ([], refl, refl)
all-fine (j ∷ js) h =
    let p = none-of (broken j) (all_broken js) h in
    let a = broken-none j p.0 in
    let rest = all-fine js p.1 in (
      a.0 ∷ rest.0,
      ap (λ k. k ∷ js) a.1 ∙ ap (λ ks. Fine a.0 ∷ ks) rest.1,
      ap (λ k. and_all (fine k) (all_fine js)) a.1 ∙ ap (λ o. and_all (Some a.0) o) rest.2,
    )

-- what is stored has the kind of what it is stored as
pub stored-is : (k l : Kind) (e : Tree) (names : Names) → stored_kind k e names ≡ Fine l → kind e names ≡ Fine k
stored-is k l e names h =
    let p = split (kind e names) (λ found. _) l h in
    p.1 ∙ ap Fine (sym (one-kind k p.0 l (begins e) p.2).0)
