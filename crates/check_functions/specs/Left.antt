-- Functions that were found over other names, of which some are to be judged anew.
-- Trusted but for `Leaves`, `renewed_by`, `renewed_at` and `renewed`: part of what a promise means.
use Rattle.std.specs.Prelude.{◌≡◌, ℕ, suc, Bool, true, false, ◌||◌, ◌==◌, List, [], ◌∷◌, length, slice_get, Option, None, Some, if◌then◌else◌}
use Rattle.cal_model.specs.Actor.{Fun}
use Rattle.cal_model.specs.Call.{fun_named}
use Rattle.cal_model.specs.Kinding.{Judged, Fine, Broken, Names}
use Rattle.cal_model.specs.Tags.{is_seen}
use Rattle.cal_check.specs.Routines.{FunDecl, fun_judged}
use Rattle.const_env.specs.Constants.{has_fun, with_set}
use Rattle.check_functions.specs.Known.{is_named_in}

abbrev pub is_among : ℕ → List ℕ → Bool
is_among place [] = false
is_among place (p ∷ ps) = (place == p) || is_among place ps

-- ---- what is found of functions that are declared

abbrev pub found_of : Judged Fun → Option Fun
found_of (Fine f) = Some f
found_of (Broken rule at) = None

abbrev pub decl_found : FunDecl → Names → Option Fun
decl_found f names = found_of (fun_judged f.name f.decl names)

abbrev pub one_if : Bool → ℕ → ℕ
one_if true n = suc n
one_if false n = n

-- of how many a function is found
abbrev pub count_of : List FunDecl → List Fun → ℕ
count_of [] found = 0
count_of (f ∷ fs) found = one_if (has_fun f.name found) (count_of fs found)

-- Those at these places are to be judged anew, and the others are as they are among all that are seen. So are those of an
-- order, whether they are to be judged anew or not.
pub record AreLeft (order : List (List ℕ)) (places : List ℕ) (fs : List FunDecl) (all found : List Fun) : Type 0 where
  pub right : (i : ℕ) (f : FunDecl) → slice_get fs i ≡ Some f → is_among i places ≡ false
      → fun_named f.name found ≡ fun_named f.name all
  pub early : (i : ℕ) (f : FunDecl) → slice_get fs i ≡ Some f → is_seen f.name order ≡ true
      → fun_named f.name found ≡ fun_named f.name all
  pub none : (name : List ℕ) → is_named_in name fs ≡ false → fun_named name found ≡ None
  pub count : length found ≡ count_of fs found

-- the places that were added are among those that are left
abbrev pub Leaves : (places old new : List ℕ) → Type 0
Leaves places old new = (p : ℕ) → is_among p new ≡ false
    → (is_among p old ≡ false) × (is_among p places ≡ false)

-- ---- functions that are judged anew

-- A function in the place of the one of its name. If the head of one breaks a rule that was found before, none of this
-- is of use.
abbrev pub renewed_by : List ℕ → Judged Fun → Names → Option Names
renewed_by name (Fine f) names = Some (record names { funs = with_set f names.funs })
renewed_by name (Broken rule at) names = if has_fun name names.funs then None else Some names

abbrev pub renewed_at : Option FunDecl → Names → Option Names
renewed_at None names = Some names
renewed_at (Some f) names = renewed_by f.name (fun_judged f.name f.decl names) names

-- .. one after the other, each over these names and functions
abbrev pub renewed : (places : List ℕ) → List FunDecl → Names → Option Names
renewed [] fs names = Some names
renewed (p ∷ ps) fs names = elim (renewed_at (slice_get fs p) names) [
  | None ↦ None
  | Some next ↦ renewed ps fs next
]
