-- Of a source that breaks no rule all variables have values, and the functions that it has are those over which its members
-- are judged.
use Rattle.std.proofs.Common.{◌≡◌, List, [], map, length, sym, ap, ◌∙◌}
use Rattle.cal_model.specs.Actor.{Held}
use Rattle.cal_model.specs.Kinding.{Names}
use Rattle.cal_check.specs.Actions.{or_none}
use Rattle.cal_check.specs.Actors.{Conforms, Source, all_funs, all_valued, around_of, at_rest, declared_vars, funs_of}
use Rattle.cal_check.specs.Sources.{IsSourceFormed}
use Rattle.cal_check.specs.Variables.{Given, Spot}
use Rattle.cal_check.specs.Violations.{all_fine}
use Rattle.cal_check.proofs.JudgedRoutines.{functions-found}
use Rattle.cal_check.proofs.NoneBroken.{nothing-broken}
use Rattle.cal_check.proofs.RestNames.{map-rest, rest_behind}
use Rattle.cal_check.proofs.SettledFuns.{rounds-same}
use Rattle.cal_check.proofs.SoundActions.{or-none}
use Rattle.cal_check.proofs.SourceNames.{all-are-valued, base_names}

-- the functions of the whole are those over which its members are judged
pub functions-are : (s : Source) (gs : List Given) (owner : Spot) → IsSourceFormed s → Conforms s gs owner
    → or_none (all_fine (funs_of (all_funs s) (around_of s gs owner).names)) ≡ (around_of s gs owner).names.funs
functions-are s gs owner formed c =
    let names : Names = (around_of s gs owner).names in
    let funs = functions-found (all_funs s) names formed.funs (nothing-broken s gs owner c.nothing).members.heads in
    let bare : Names = base_names (map at_rest (all_valued s gs owner).known) in
    or-none (all_fine (funs_of (all_funs s) names)) funs.found funs.all
    ∙ sym funs.over
    ∙ sym (rounds-same formed.funs_end.rank (length (all_funs s)) (all_funs s) bare formed.funs formed.funs_end.calls formed.funs_end.in_range)

-- what is known of the variables where members are judged, and their names
pub record AreHeld (s : Source) (gs : List Given) (owner : Spot) : Type 0 where
  pub known : (around_of s gs owner).names.globals ≡ rest_behind (all_valued s gs owner).held []
  pub named : map (λ x. x.name) (all_valued s gs owner).held ≡ map (λ x. x.name) (declared_vars s)

pub all-are-held : (s : Source) (gs : List Given) (owner : Spot) → Conforms s gs owner → AreHeld s gs owner
all-are-held s gs owner c =
    let held : List Held = (all_valued s gs owner).held in
    let none = nothing-broken s gs owner c.nothing in
    let valued = all-are-valued s gs owner none.useful none.whole in
    record { known = ap (λ ks. map at_rest ks) valued.known ∙ map-rest held []; named = valued.named }
