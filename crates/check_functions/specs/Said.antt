-- Which functions say a name in what must be constant in them.
-- Trusted but for `items_or_none`, `with_places`, `AddsPlace` and `Says`: part of what a promise means.
use Rattle.std.specs.Prelude.{◌≡◌, ℕ, true, List, [], ◌∷◌, ◌++◌, slice_get, String, string_bytes, Vec, Option, None, Some, if◌then◌else◌}
use Rattle.std.specs.Str.{bytes_eq}
use Rattle.std.specs.declared.alloc.Global.{Global as Heap}
use Rattle.cal_model.specs.Tags.{is_seen}
use Rattle.cal_check.specs.Routines.{FunDecl}
use Rattle.check_functions.specs.Left.{is_among}
use Rattle.check_functions.specs.Needs.{needs_of}

-- a name, and the places of functions
abbrev pub Saying : Type 0
Saying = List ℕ × List ℕ

abbrev pub saying_of : String Heap × Vec ℕ Heap → Saying
saying_of e = (string_bytes e.0, e.1.items)

abbrev pub places_in : (name : List ℕ) → List Saying → List ℕ
places_in name [] = []
places_in name (s ∷ said) = if bytes_eq name s.0 then s.1 else places_in name said

-- each function is at the places of each name that it says where something must be constant
abbrev pub AreSaid : List FunDecl → List Saying → Type 0
AreSaid fs said = (place : ℕ) (f : FunDecl) → slice_get fs place ≡ Some f
    → (x : List ℕ) → is_seen x (needs_of (f ∷ [])).names ≡ true
    → is_among place (places_in x said) ≡ true

-- ---- what calls answer

abbrev pub items_or_none : Option (Vec ℕ Heap) → List ℕ
items_or_none None = []
items_or_none (Some v) = v.items

-- these are the places of the name now
abbrev pub with_places : (name : List ℕ) → (places : List ℕ) → List Saying → List Saying
with_places name places [] = (name, places) ∷ []
with_places name places (s ∷ said) =
    if bytes_eq name s.0 then (s.0, places) ∷ said else s ∷ with_places name places said

-- one place more of a name
abbrev pub AddsPlace : (name : List ℕ) → (place : ℕ) → (old new : List Saying) → Type 0
AddsPlace name place old new = (x : List ℕ)
    → places_in x new ≡ (if bytes_eq x name then places_in x old ++ place ∷ [] else places_in x old)

-- the place is one of each of these names now, and what was one still is
pub record Says (names : List (List ℕ)) (place : ℕ) (old new : List Saying) : Type 0 where
  pub keeps : (x : List ℕ) (p : ℕ) → is_among p (places_in x old) ≡ true
      → is_among p (places_in x new) ≡ true
  pub says : (x : List ℕ) → is_seen x names ≡ true → is_among place (places_in x new) ≡ true
