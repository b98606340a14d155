-- What variables hold at first.
use Rattle.std.proofs.Common.{◌≡◌, true, List, [], ◌++◌, sym, ap, subst, ◌∙◌}
use Rattle.std.specs.Prelude.{Option, Some, if◌then◌else◌}
use Rattle.rvc_base.specs.Rules.{wrong_parameter}
use Rattle.rvc_base.specs.declared.refusal.Front.{Front}
use Rattle.cal_model.specs.Value.{Shape}
use Rattle.cal_check.specs.Violations.{violation}
use Rattle.cal_check.specs.Variables.{Come, Found, Given, Spot, VarDecl, found_in, given_broken, given_to, is_bare, param_broken}
use Rattle.check_given.specs.Causes.{IsCause}
use Rattle.check_variable.proofs.Faults.{cause_in_first, cause_in_others}

-- what a parameter breaks that is given this
abbrev param_breaks : VarDecl → Option Given → Spot → Shape → List Found
param_breaks x g owner t =
    given_broken g t ++ (if is_bare x.start g then found_in owner.file (violation wrong_parameter owner.at) else [])

broken_so : (x : VarDecl) (gs : List Given) (owner : Spot) (t : Shape) (g : Option Given) → x.is_param ≡ true → given_to x.name gs ≡ g → param_broken x gs owner t ≡ param_breaks x g owner t
broken_so x gs owner t g p e =
    ap (λ b. if b then param_breaks x (given_to x.name gs) owner t else []) p ∙ ap (λ h. param_breaks x h owner t) e

pub given_refused : (f : Front) (x : VarDecl) (gs : List Given) (owner : Spot) (t : Shape) (c : Come) (g : Given) → x.is_param ≡ true → given_to x.name gs ≡ Some g
    → IsCause f (given_broken (Some g) t) → IsCause f (found_in x.file c.breaks ++ param_broken x gs owner t)
given_refused f x gs owner t c g p e h =
    cause_in_others f (found_in x.file c.breaks) (param_broken x gs owner t)
    (subst (IsCause f) (sym (broken_so x gs owner t (Some g) p e)) (cause_in_first f (given_broken (Some g) t) (if is_bare x.start (Some g) then found_in owner.file (violation wrong_parameter owner.at) else []) h))
