-- Rules that are broken, with their files.
use Rattle.std.proofs.Common.{ℕ, zero, suc, List, [], ◌∷◌, ◌++◌, ap, arith, Contains}
use Rattle.std.proofs.lemmas.List.Elements.{Contains-append_left}
use Rattle.const_env.specs.declared.fault.KindFault.{KindFault}
use Rattle.const_env.specs.declared.fault.KindFault.TheVariants as fault
use Rattle.cal_check.specs.Violations.{Violation}
use Rattle.cal_check.specs.Variables.{Found, found_in}
use Rattle.check_stmt.specs.Judging.{Refuses}
use Rattle.check_routine.specs.Judging.{RefusesIn}

abbrev found : ℕ → Violation → Found
found file v = record { violation = v; file = file }

in-file : (file : ℕ) (v : Violation) (vs : List Violation) → Contains vs v → Contains (found_in file vs) (found file v)
in-file file v [] (k, h, s) = absurd (omega arith)
in-file file v (w ∷ vs) (zero, h, s) = (zero, omega arith, ap (found file) s)
in-file file v (w ∷ vs) (suc k, h, s) = let i = in-file file v vs (k, omega arith, s) in (suc i.0, omega arith, i.2)

pub refuses_in : (file : ℕ) (f : KindFault) (vs : List Violation) (more : List Found) → Refuses f vs → RefusesIn file f (found_in file vs ++ more)
refuses_in file (fault.Broken rule at) vs more h =
    let v : Violation = record { rule = rule; at = at } in
    Contains-append_left (found_in file vs) more (found file v) (in-file file v vs h)
refuses_in file fault.Memory vs more h = tt
