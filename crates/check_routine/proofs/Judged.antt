-- A part that breaks a rule breaks it in the whole.
use Rattle.std.proofs.Common.{ℕ, ap}
use Rattle.cal_model.specs.Value.{Shape}
use Rattle.cal_model.specs.Kinding.{Judged, and_so}
use Rattle.const_env.specs.Judging.{Breaks}
use Rattle.const_env.specs.declared.fault.KindFault.{KindFault}
use Rattle.const_env.specs.declared.fault.KindFault.TheVariants as fault
use Rattle.cal_check.specs.Routines.{single}

pub breaks_on : {A B : Type 0} (f : KindFault) (o : Judged A) (g : A → Judged B) → Breaks f o → Breaks f (and_so o g)
breaks_on (fault.Broken rule at) o g h = ap (λ x. and_so x g) h
breaks_on fault.Memory o g h = tt

pub breaks_single : (f : KindFault) (o : Judged Shape) (at : ℕ) → Breaks f o → Breaks f (single o at)
breaks_single (fault.Broken rule place) o at h = ap (λ x. single x at) h
breaks_single fault.Memory o at h = tt
