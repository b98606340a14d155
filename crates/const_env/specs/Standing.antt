-- Where names stand in a list.
-- Not trusted: no promise is read with it.
use Rattle.std.specs.Prelude.{◌≡◌, ℕ, suc, List, [], ◌∷◌, Option, None, Some, option_map, slice_get, String, string_bytes, if◌then◌else◌}
use Rattle.std.specs.Str.{bytes_eq}
use Rattle.std.specs.declared.alloc.Global.{Global as Heap}
use Rattle.cal_model.specs.Actor.{Fun}
use Rattle.cal_model.specs.Kinding.{Known}
use Rattle.cal_model.specs.View.{kind_view}
use Rattle.const_env.specs.declared.inside.Variable.{Variable}

-- a name and its place
abbrev pub Placed : Type 0
Placed = List ℕ × ℕ

abbrev pub placed_of : String Heap × ℕ → Placed
placed_of e = (string_bytes e.0, e.1)

abbrev pub place_named : (name : List ℕ) → List Placed → Option ℕ
place_named name [] = None
place_named name (p ∷ ps) = if bytes_eq name p.0 then Some p.1 else place_named name ps

-- the name stands at this place now
abbrev pub with_place : (name : List ℕ) → (place : ℕ) → List Placed → List Placed
with_place name place [] = (name, place) ∷ []
with_place name place (p ∷ ps) =
    if bytes_eq name p.0 then (p.0, place) ∷ ps else p ∷ with_place name place ps

module _ {X Y : Type 0} (view : X → Y) (xs : List X) where
  -- what is known is the item at the place, as it is seen; without a place it is nothing
  abbrev pub LeadsTo : Option ℕ → (known : Option Y) → Type 0
  LeadsTo None known = known ≡ None
  LeadsTo (Some place) known =
      (x : X) × (slice_get xs place ≡ Some x) × (known ≡ Some (view x))

  -- each name's place leads to what is known of it
  abbrev pub LeadEach : List Placed → (known : List ℕ → Option Y) → Type 0
  LeadEach places known = (name : List ℕ) → LeadsTo (place_named name places) (known name)

-- where the first function of a name stands
abbrev pub fun_place : (name : List ℕ) → List Fun → Option ℕ
fun_place name [] = None
fun_place name (f ∷ fs) =
    if bytes_eq f.name name then Some 0 else option_map suc (fun_place name fs)

-- the places are those of functions, by their names
abbrev pub StandFirst : List Fun → List Placed → Type 0
StandFirst fs places = (name : List ℕ) → place_named name places ≡ fun_place name fs

-- a variable by its name, with what is known of it
abbrev pub seen_variable : Variable → Known
seen_variable x = record {
  name = string_bytes x.name;
  kind = kind_view x.kind;
  value = None;
  changes = x.changes;
}
