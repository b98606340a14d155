-- How a test goes on from part to part.
use Rattle.std.proofs.Common.{◌≡◌, List, [], ◌++◌, ap}
use Rattle.std.proofs.lemmas.List.Elements.{Contains-append_left, Contains-append_right}
use Rattle.cal_check.specs.Violations.{Violation}
use Rattle.fnl_scopes.specs.declared.fault.ScopeFault.{ScopeFault}
use Rattle.fnl_scopes.specs.declared.fault.ScopeFault.TheVariants.{Broken, Memory}
use Rattle.fnl_scopes.specs.Tested.{IsCause}

pub in_first : (f : ScopeFault) (vs ws : List Violation) → IsCause vs f → IsCause (vs ++ ws) f
in_first (Broken rule at) vs ws h = Contains-append_left vs ws _ h
in_first Memory vs ws h = tt

pub in_others : (f : ScopeFault) (vs ws : List Violation) → IsCause ws f → IsCause (vs ++ ws) f
in_others (Broken rule at) vs ws h = Contains-append_right vs ws _ h
in_others Memory vs ws h = tt

-- a part that breaks no rule
pub skip : (vs ws : List Violation) → vs ≡ [] → vs ++ ws ≡ ws
skip vs ws h = ap (λ xs. xs ++ ws) h
