-- What is kept of names while more of them become known.
-- Trusted but for `with_global`, `with_alone`, `with_none`, `with_left`, `GrowsBy`, `Grows`, `IsSame`, `RenewedTo` and
-- `AreRenewed`: part of what a promise means.
use Rattle.std.specs.Prelude.{◌≡◌, ℕ, Bool, true, false, List, [], ◌∷◌, option_map, Option, None, Some}
use Rattle.cal_model.specs.Kinding.{Known, Names}
use Rattle.cal_check.specs.Routines.{FunDecl}
use Rattle.cal_check.specs.Variables.{seen}
use Rattle.const_env.specs.Held.{Kept as Environment, names_in}
use Rattle.check_functions.specs.Alike.{SeeAlike}
use Rattle.check_functions.specs.Known.{names_alone, names_differ}
use Rattle.check_functions.specs.Left.{AreLeft, Leaves, renewed}
use Rattle.check_functions.specs.Order.{AreOrdered, Ordered, changes_all}
use Rattle.check_functions.specs.Said.{AreSaid, Saying, places_in}

-- what is kept of names: without functions, an order of what is called where something must be constant, where functions
-- say names there, the names with the functions, if they were made, and the places of the functions that are to be judged
-- anew
pub record Kept : Type 0 where
  pub alone : Names
  pub order : Option Ordered
  pub said : List Saying
  pub seen : Option Names
  pub left : List ℕ

-- the names with the functions, of which none are left to be judged anew if they have no order
abbrev pub AreThose : Option Ordered → (left : List ℕ) → List FunDecl → List Known → Option Names → Type 0
AreThose order left fs known None = Unit {0}
AreThose None left fs known (Some found) = SeeAlike found (seen fs known) × (left ≡ [])
AreThose (Some order) left fs known (Some found) = (found.globals ≡ known) × (found.locals ≡ [])
    × AreLeft order.names left fs (seen fs known).funs found.funs

-- .. as it lies in memory
pub record Growing : Type 0 where
  pub alone : Environment
  pub order : Option Ordered
  pub said : List Saying
  pub seen : Option Environment
  pub left : List ℕ

abbrev pub kept_in : Growing → Kept
kept_in names = record {
  alone = names_in names.alone;
  order = names.order;
  said = names.said;
  seen = option_map names_in names.seen;
  left = names.left;
}

-- it is kept of these functions over names that are known
pub record IsKept (kept : Kept) (fs : List FunDecl) (known : List Known) : Type 0 where
  pub alone : kept.alone ≡ names_alone known
  pub order : AreOrdered kept.order fs
  pub said : AreSaid fs kept.said
  pub seen : names_differ fs ≡ true → AreThose kept.order kept.left fs known kept.seen

-- the names with the functions were made, and are alike those that are seen
abbrev pub IsMade : Option Environment → Names → Type 0
IsMade None names = ⊥
IsMade (Some env) names = SeeAlike (names_in env) names

-- ---- one name more

abbrev pub with_global : Known → Names → Names
with_global x names = record names { globals = x ∷ names.globals }

abbrev pub with_alone : Known → Kept → Kept
with_alone x kept = record kept { alone = with_global x kept.alone }

-- the names with the functions aren't kept if all functions may be others
abbrev pub with_none : Kept → Kept
with_none kept = record kept { seen = None }

-- else these are left to be judged anew
abbrev pub with_left : Known → List ℕ → Kept → Kept
with_left x left kept = record kept { seen = option_map (with_global x) kept.seen; left = left }

abbrev pub GrowsBy : (all : Bool) → Known → (old new : Kept) → Type 0
GrowsBy true x old new = new ≡ with_none old
GrowsBy false x old new = (new ≡ with_left x new.left old)
    × Leaves (places_in x.name old.said) old.left new.left

abbrev pub Grows : Known → (old new : Kept) → Type 0
Grows x old new = GrowsBy (changes_all x.name old.order) x old new

-- ---- functions that are judged anew

-- the names with the functions are others, and nothing else
abbrev pub IsSame : (old new : Kept) → Type 0
IsSame old new = new ≡ record old { seen = new.seen }

abbrev pub RenewedTo : (left : List ℕ) → List FunDecl → (old new : Option Names) → Type 0
RenewedTo left fs None new = ⊥
RenewedTo left fs (Some old) None = ⊥
RenewedTo left fs (Some old) (Some new) = renewed left fs old ≡ Some new

abbrev pub AreRenewed : List FunDecl → (old new : Kept) → Type 0
AreRenewed fs old new = RenewedTo old.left fs old.seen new.seen
