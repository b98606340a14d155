-- Where schedules lead on.
use Rattle.std.specs.Prelude.{ℕ, Bool, false, ◌||◌, ◌==◌, List, [], ◌∷◌}
use Rattle.cal_model.specs.Actor.{Action, Move}
use Rattle.cal_model.specs.Eligible.{is_empty}

-- whether an action has no tag, so that the schedule doesn't hold it back
abbrev pub has_untagged : List Action → Bool
has_untagged [] = false
has_untagged (act ∷ acts) = is_empty act.tag || has_untagged acts

-- whether the schedule leads on from a state
abbrev pub leads_on : List Move → ℕ → Bool
leads_on [] s = false
leads_on (m ∷ ms) s = m.from == s || leads_on ms s
