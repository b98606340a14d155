-- How answers about several files go on, and how they end.
use Rattle.std.proofs.Common.{◌≡◌, ℕ, refl, ap}
use Rattle.std.specs.declared.result.Result.{Result}
use Rattle.std.specs.declared.result.Result.TheVariants.{Ok, Err}
use Rattle.cal_model.specs.Kinding.{Judged, Broken}
use Rattle.cal_scope.specs.Judging.{Judges}
use Rattle.cal_scope.specs.declared.fault.ScopeFault.{ScopeFault}
use Rattle.cal_scope.specs.declared.fault.ScopeFault.TheVariants as scope
use Rattle.cal_imports.specs.Answer.{Answer, Gives, Refuses, Answers, RefusedBy, and_then, in_file, placed}
use Rattle.cal_imports.specs.declared.fault.ImportFault.{ImportFault}
use Rattle.cal_imports.specs.declared.fault.ImportFault.TheVariants as fault

-- what refuses a part refuses the whole
pub refused_on : {A B : Type 0} (f : ImportFault) (o : Answer A) (g : A → Answer B) → RefusedBy f o → RefusedBy f (and_then o g)
refused_on (fault.Refused rule file at) o g h = ap (λ x. and_then x g) h
refused_on fault.Memory o g h = tt

pub then_gives : {A B : Type 0} (o : Answer A) (a : A) (g : A → Answer B) → o ≡ Gives a → and_then o g ≡ g a
then_gives o a g h = ap (λ x. and_then x g) h

pub placed_answers : {A B : Type 0} (view : A → B) (file : ℕ) (r : Result A ScopeFault) (j : Judged B) → Judges view r j → Answers view (placed file r) (in_file file j)
placed_answers view file (Ok a) j h = ap (in_file file) h
placed_answers view file (Err (scope.Broken rule at)) j h = ap (in_file file) h
placed_answers view file (Err scope.Memory) j h = tt

-- what gives an answer does so by its parts
pub then_gave : {A B : Type 0} (o : Answer A) (f : A → Answer B) (b : B) → and_then o f ≡ Gives b → (a : A) × (o ≡ Gives a) × (f a ≡ Gives b)
then_gave (Gives a) f b h = (a, refl, h)
then_gave (Refuses rule file at) f b h = cc
