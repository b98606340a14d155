-- Instances with the values that a network gives to their parameters.
-- Trusted: part of what a promise means.
use Rattle.std.specs.Prelude.{◌≡◌, ℕ, List, [], ◌∷◌, Some}
use Rattle.cal_model.specs.Kinding.{Names}
use Rattle.cal_check.specs.Variables.{Given}
use Rattle.fnl_read.specs.Net.{Instance}
use Rattle.fnl_frames.specs.Views.{instance_of}
use Rattle.fnl_bind.specs.Library.{instance_parameters}
use Rattle.fnl_bind.specs.Values.{all_given}
use Rattle.check_given.specs.Given.{all_given as all_given_of}
use Rattle.fnl_values.specs.declared.visits.Visit.{Visit as DeclaredVisit}

pub record Visit : Type 0 where
  pub instance : Instance
  pub given : List Given

abbrev pub visit_of : DeclaredVisit → Visit
visit_of v = record { instance = instance_of v.instance.now; given = all_given_of v.given.items }

-- each instance in order, with all values that it is given
abbrev pub AreVisits : ℕ → Names → List Instance → List Visit → Type 0
AreVisits file names [] [] = Unit {0}
AreVisits file names (i ∷ is) (v ∷ vs) =
    (v.instance ≡ i) × (all_given file (instance_parameters i) names ≡ Some v.given)
    × AreVisits file names is vs
AreVisits file names is vs = ⊥
