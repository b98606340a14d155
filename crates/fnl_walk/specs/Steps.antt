-- What the steps of a walk keep, and why they stop.
-- Not trusted: no promise is read with it.
use Rattle.std.specs.Prelude.{◌≡◌, ◌⊎◌, ℕ, zero, suc, ◌+◌, ◌*◌, ◌-◌, ◌<◌, Bool, true, false, List, [], ◌∷◌, ◌++◌, length, Some, slice_get}
use Rattle.std.specs.declared.result.Result.{Result}
use Rattle.std.specs.declared.result.Result.TheVariants.{Ok, Err}
use Rattle.rvc_base.specs.Rules.{too_many_instances}
use Rattle.rvc_base.specs.declared.refusal.Front.{Front}
use Rattle.rvc_base.specs.declared.refusal.Front.TheVariants as front
use Rattle.net_model.specs.Limits.{max_instances}
use Rattle.cal_model.specs.Sound.{Each}
use Rattle.cal_check.specs.Variables.{Spot, Found}
use Rattle.fnl_bind.specs.Library.{Entry, is_among, instance_class}
use Rattle.fnl_bind.specs.Networks.{Place, names_at, net_with, own_found}
use Rattle.check_given.specs.Causes.{IsCause}
use Rattle.fnl_values.specs.Visiting.{Visit, AreVisits}
use Rattle.fnl_walk.specs.Walk.{Open, Walk, IsSteady, count_of, finished, found_left, spots_left}

abbrev pub found : List Entry → Walk → List Found
found library w = found_left library w.open_nets w.above

abbrev pub spots : List Entry → Walk → List Spot
spots library w = spots_left library w.open_nets w.above

-- what is still to come, together with what was found, is the same
pub record Keeps (library : List Entry) (old new : Walk) : Type 0 where
  pub found : found library new ≡ found library old
  pub tree : finished library new.open_nets new.above new.grown
      ≡ finished library old.open_nets old.above old.grown
  -- the instances that were met
  pub met : List Spot
  pub spots : spots library old ≡ met ++ spots library new
  pub count : length met + count_of old.grown ≡ count_of new.grown
  pub steady : IsSteady new

-- the next instance passes the limit
pub record Passes (library : List Entry) (w : Walk) (spot : Spot) : Type 0 where
  pub full : count_of w.grown ≡ suc max_instances
  pub next : slice_get (spots library w) 0 ≡ Some spot

-- a rule that is broken in what is to come, or the limit on instances; running out of memory says nothing
abbrev pub Stops : List Entry → Walk → Front → Type 0
Stops library w (front.Refused r) =
    IsCause (front.Refused r) (found library w)
    ⊎ ((r.rule ≡ too_many_instances)
    × Passes library w (record { file = r.place.file; at = r.place.offset }))
Stops library w front.Memory = Unit {0}

-- no walk has more steps left than these
abbrev pub steps_left : Walk → ℕ
steps_left w = 2 * (suc max_instances - count_of w.grown) + length w.open_nets

abbrev pub Goes : List Entry → Walk → Walk → Result (Unit {0}) Front → Type 0
Goes library old new (Ok u) = Keeps library old new × (steps_left new < steps_left old)
Goes library old new (Err f) = Stops library old f

-- whether there was a step
abbrev pub StepsTo : List Entry → Walk → Walk → Result Bool Front → Type 0
StepsTo library old new (Ok true) =
    Keeps library old new × (steps_left new < steps_left old)
StepsTo library old new (Ok false) = (new ≡ old) × (old.open_nets ≡ [])
StepsTo library old new (Err f) = Stops library old f

-- ---- networks that are opened

-- a network with so many levels inside it; none at the last level is visited
abbrev pub opened : ℕ → ℕ → List ℕ → ℕ → List Visit → Open
opened file number path zero visits =
    record { file = file; path = path; number = number; levels = zero; visits = [] }
opened file number path (suc n) visits =
    record { file = file; path = path; number = number; levels = n; visits = visits }

-- a walk with one network more, which breaks no rule
pub record Opens (levels : ℕ) (p : Place) (old new : Walk) : Type 0 where
  pub conforms : own_found p ≡ []
  pub visits : List Visit
  pub are_visits : AreVisits p.entry.file (names_at p) p.entry.net.instances visits
  pub no_circle : Each (λ v. is_among (instance_class v.instance) p.above ≡ false) visits
  pub is : new ≡ record {
    open_nets = opened p.entry.file (length old.grown.nets) p.path levels visits ∷ old.open_nets;
    above = p.above;
    grown = record {
      nets = old.grown.nets ++ net_with p [] ∷ [];
      leaves = old.grown.leaves;
    };
  }

abbrev pub OpensTo : ℕ → Place → Walk → Walk → Result (Unit {0}) Front → Type 0
OpensTo levels p old new (Ok u) = Opens levels p old new
OpensTo levels p old new (Err f) = IsCause f (own_found p)
