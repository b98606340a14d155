-- An order of the functions that are called where something must be constant, and of the names that these use.
-- Trusted but for `Extends`, `Closes`, `all_seen`, `names_met`, `laid_by`, `laid_at`, `laid_named` and `laid`: part of what a promise means.
use Rattle.std.specs.Prelude.{◌≡◌, ◌<◌, ◌&&◌, ℕ, Bool, true, false, List, [], ◌∷◌, slice_get, Option, None, Some, if◌then◌else◌}
use Rattle.cal_ast.specs.Tree.{Tree}
use Rattle.cal_model.specs.Actor.{Fun}
use Rattle.cal_model.specs.Kinding.{Judged, Fine, Broken, Names}
use Rattle.cal_model.specs.Tags.{is_seen, number_of_name, with_seen}
use Rattle.cal_check.specs.Actors.{uses}
use Rattle.cal_check.specs.Routines.{FunDecl, fun_judged}
use Rattle.const_env.specs.Constants.{with_set}
use Rattle.check_functions.specs.Known.{names_differ}
use Rattle.check_functions.specs.Needs.{needs_of}

-- what a function among these names uses comes before it
abbrev pub AreBefore : (order : List (List ℕ)) → List FunDecl → Type 0
AreBefore order fs = (i : ℕ) (f : FunDecl) → slice_get fs i ≡ Some f → is_seen f.name order ≡ true
    → (x : List ℕ) → uses x f.decl ≡ true → number_of_name x order < number_of_name f.name order

-- the functions that are called where something must be constant, and what they use, directly or indirectly
pub record IsOrder (order : List (List ℕ)) (fs : List FunDecl) : Type 0 where
  pub called : (x : List ℕ) → is_seen x (needs_of fs).calls ≡ true → is_seen x order ≡ true
  pub before : AreBefore order fs

-- names in such an order, and the names of all functions as they stand
pub record Ordered : Type 0 where
  pub names : List (List ℕ)
  pub funs : List (List ℕ)

-- names, each where it is met first
abbrev pub names_met : List (List ℕ) → List FunDecl → List (List ℕ)
names_met met [] = met
names_met met (f ∷ fs) = names_met (with_seen met f.name) fs

pub record IsOrderOf (order : Ordered) (fs : List FunDecl) : Type 0 where
  pub is_order : names_differ fs ≡ true → IsOrder order.names fs
  pub funs : order.funs ≡ names_met [] fs

-- there is such an order, unless functions call themselves
abbrev pub AreOrdered : Option Ordered → List FunDecl → Type 0
AreOrdered None fs = Unit {0}
AreOrdered (Some order) fs = IsOrderOf order fs

-- whatever functions are called where something must be constant: they may be others once the name is known
abbrev pub changes_all : (name : List ℕ) → Option Ordered → Bool
changes_all name None = true
changes_all name (Some order) = is_seen name order.names

-- ---- what calls answer

-- names were added behind the others, and if what functions use came before them, it still does
pub record Extends (fs : List FunDecl) (old new : Ordered) : Type 0 where
  pub funs : new.funs ≡ old.funs
  pub before : names_differ fs ≡ true → old.funs ≡ names_met [] fs → AreBefore old.names fs → AreBefore new.names fs
  pub keeps : (x : List ℕ) → is_seen x old.names ≡ true → is_seen x new.names ≡ true

-- a function was added behind all that it uses, or nothing was
abbrev pub Closes : (closed : Bool) → (name : List ℕ) → (decl : Tree) → (old new : Ordered) → Type 0
Closes false name decl old new = new ≡ old
Closes true name decl old new = (new ≡ record old { names = with_seen old.names name })
    × ((x : List ℕ) → uses x decl ≡ true → is_seen x old.names ≡ true)

abbrev pub all_seen : (names order : List (List ℕ)) → Bool
all_seen [] order = true
all_seen (name ∷ names) order = is_seen name order && all_seen names order

-- ---- functions that are found one after the other

-- each over these names and those that were found before it
abbrev pub laid_by : Judged Fun → Names → Names
laid_by (Fine f) names = record names { funs = with_set f names.funs }
laid_by (Broken rule at) names = names

abbrev pub laid_at : Option FunDecl → Names → Names
laid_at None names = names
laid_at (Some f) names = laid_by (fun_judged f.name f.decl names) names

-- .. the function of a name, if it is one
abbrev pub laid_named : (name : List ℕ) → Ordered → List FunDecl → Names → Names
laid_named name order fs names =
    if is_seen name order.funs
    then laid_at (slice_get fs (number_of_name name order.funs)) names
    else names

abbrev pub laid : (left : List (List ℕ)) → Ordered → List FunDecl → Names → Names
laid [] order fs names = names
laid (name ∷ left) order fs names = laid left order fs (laid_named name order fs names)
