-- Where values of a name stand.
-- Not trusted: no promise is read with it.
use Rattle.std.specs.Prelude.{◌≡◌, ℕ, suc, Bool, false, List, [], ◌∷◌, ◌++◌, Option, None, Some, nat_lt, String, string_bytes, if◌then◌else◌}
use Rattle.std.specs.Map.{lookup}
use Rattle.std.specs.Str.{bytes_eq}
use Rattle.std.specs.declared.alloc.Global.{Global as Heap}
use Rattle.fnl_tree.specs.declared.tree.LeafValue.{LeafValue}

-- the place of the first of the name, if the first of all stands at this place; or else another one
abbrev pub first_place : (at : ℕ) → (name : List ℕ) → List LeafValue → Option ℕ → Option ℕ
first_place at name [] other = other
first_place at name (g ∷ gs) other =
    if bytes_eq name (string_bytes g.name) then Some at else first_place (suc at) name gs other

abbrev pub is_before : Option ℕ → ℕ → Bool
is_before None place = false
is_before (Some first) place = nat_lt first place

-- places under names
abbrev pub Places : Type 0
Places = List (String Heap × ℕ)

abbrev pub place_under : (name : List ℕ) → Places → Option ℕ
place_under name places = lookup (λ k. bytes_eq name (string_bytes k)) places

-- under each name is the place of the first of these
abbrev pub LeadTo : Places → List LeafValue → Type 0
LeadTo places gs = (name : List ℕ) → place_under name places ≡ first_place 0 name gs None

-- .. if the places of those that stand behind are put already
abbrev pub LeadBehind : Places → (before all : List LeafValue) → Type 0
LeadBehind places before all = (name : List ℕ)
    → first_place 0 name before (place_under name places) ≡ first_place 0 name all None

-- a place is put under a name
abbrev pub IsPut : (name : List ℕ) → (place : ℕ) → (old new : Places) → Type 0
IsPut name place old new = (other : List ℕ)
    → place_under other new ≡ (if bytes_eq other name then Some place else place_under other old)

-- some of the values, of which the others stand behind
abbrev pub IsFront : (front all : List LeafValue) → Type 0
IsFront front all = (behind : List LeafValue) × (all ≡ front ++ behind)
