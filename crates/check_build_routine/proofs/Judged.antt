-- How judging goes on after a part, and how it ends.
use Rattle.std.proofs.Common.{◌≡◌, refl, ap}
use Rattle.cal_model.specs.Kinding.{Judged, Fine, Broken, and_so}
use Rattle.const_env.specs.Judging.{Breaks}
use Rattle.const_env.specs.declared.fault.KindFault.{KindFault}
use Rattle.const_env.specs.declared.fault.KindFault.TheVariants as fault

-- a part that breaks a rule breaks it in the whole
pub breaks_on : {A B : Type 0} (f : KindFault) (o : Judged A) (g : A → Judged B) → Breaks f o → Breaks f (and_so o g)
breaks_on (fault.Broken rule at) o g h = ap (λ x. and_so x g) h
breaks_on fault.Memory o g h = tt

pub so_fine : {A B : Type 0} (o : Judged A) (a : A) (g : A → Judged B) → o ≡ Fine a → and_so o g ≡ g a
so_fine o a g h = ap (λ x. and_so x g) h

pub so_so : {A B C : Type 0} (o : Judged A) (f : A → Judged B) (g : B → Judged C) → and_so (and_so o f) g ≡ and_so o (λ a. and_so (f a) g)
so_so (Fine a) f g = refl
so_so (Broken rule at) f g = refl

pub so_ext : {A B : Type 0} (o : Judged A) (f g : A → Judged B) → ((a : A) → f a ≡ g a) → and_so o f ≡ and_so o g
so_ext (Fine a) f g h = h a
so_ext (Broken rule at) f g h = refl

pub so_same : {A : Type 0} (o : Judged A) → and_so o (λ a. Fine a) ≡ o
so_same (Fine a) = refl
so_same (Broken rule at) = refl
