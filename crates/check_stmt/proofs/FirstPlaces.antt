-- The first procedure of each name by its place.
use Rattle.std.proofs.Common.{◌≡◌, ℕ, zero, suc, Bool, true, false, cond, List, [], ◌∷◌, ◌++◌, map, length, refl, sym, ap, ◌∙◌, subst}
use Rattle.std.specs.Prelude.{Option, None, Some, is_some, slice_get, String, if◌then◌else◌, string_bytes}
use Rattle.std.specs.Map.{lookup}
use Rattle.std.specs.Str.{bytes_eq}
use Rattle.std.specs.declared.alloc.Global.{Global as Heap}
use Rattle.std.proofs.lemmas.List.{map-append}
use Rattle.std.proofs.lemmas.Slice.Eq.{bytes_eq-Decides}
use Rattle.indexmap.specs.IndexMap.{IndexMap, insert_entry}
use Rattle.indexmap.proofs.CallerLemmas.{insert_entry-new}
use Rattle.cal_model.specs.Actor.{Proc}
use Rattle.cal_model.specs.Statement.{proc_named}
use Rattle.const_env.specs.Standing.{Placed, place_named, placed_of, LeadsTo, LeadEach}
use Rattle.check_stmt.specs.Firsts.{with_first}

-- ---- places, as they lie in the index

pub found_place : (name : List ℕ) (es : List (String Heap × ℕ))
    → lookup (λ k. bytes_eq name (string_bytes k)) es ≡ place_named name (map placed_of es)
found_place name [] = refl
found_place name (e ∷ es) = go (bytes_eq name (string_bytes e.0)) (found_place name es)
  where
    go : (b : Bool) → lookup (λ k. bytes_eq name (string_bytes k)) es ≡ place_named name (map placed_of es)
        → cond b (Some e.1) (lookup (λ k. bytes_eq name (string_bytes k)) es) ≡ (if b then Some e.1 else place_named name (map placed_of es))
    go true rest = refl
    go false rest = rest

none_is : {A : Type 0} (o : Option A) → is_some o ≡ false → o ≡ None
none_is None h = refl
none_is (Some a) h = cc

-- a name that stands nowhere goes last
pub placed_last : {S : Type 0} (m : IndexMap (String Heap) ℕ S) (k : String Heap) (v : ℕ) (name : List ℕ) → string_bytes k ≡ name
    → is_some (place_named name (map placed_of m.entries)) ≡ false
    → map placed_of (insert_entry (λ a b. bytes_eq (string_bytes a) (string_bytes b)) m.entries k v) ≡ with_first name v (map placed_of m.entries)
placed_last m k v name e h =
    let absent : is_some (place_named (string_bytes k) (map placed_of m.entries)) ≡ false = ap (λ n. is_some (place_named n (map placed_of m.entries))) e ∙ h in
    ap (map placed_of) (insert_entry-new (λ a b. bytes_eq (string_bytes a) (string_bytes b)) m k v (found_place (string_bytes k) m.entries ∙ none_is _ absent))
    ∙ map-append placed_of m.entries ((k, v) ∷ [])
    ∙ ap (λ n. map placed_of m.entries ++ (n, v) ∷ []) e
    ∙ sym (ap (λ b. if b then map placed_of m.entries else map placed_of m.entries ++ (name, v) ∷ []) h)

-- and one that stands somewhere stays there
pub placed_before : (name : List ℕ) (v : ℕ) (ps : List Placed) → is_some (place_named name ps) ≡ true → ps ≡ with_first name v ps
placed_before name v ps h = sym (ap (λ b. if b then ps else ps ++ (name, v) ∷ []) h)

-- ---- places of what stands in front of more

place_in_front : (name : List ℕ) (ps qs : List Placed) → place_named name (ps ++ qs) ≡ (if is_some (place_named name ps) then place_named name ps else place_named name qs)
place_in_front name [] qs = refl
place_in_front name (p ∷ ps) qs = go (bytes_eq name p.0) (place_in_front name ps qs)
  where
    go : (b : Bool) → place_named name (ps ++ qs) ≡ (if is_some (place_named name ps) then place_named name ps else place_named name qs)
        → (if b then Some p.1 else place_named name (ps ++ qs))
        ≡ (if is_some (if b then Some p.1 else place_named name ps) then (if b then Some p.1 else place_named name ps) else place_named name qs)
    go true rest = refl
    go false rest = rest

proc_in_front : (name : List ℕ) (ps qs : List Proc) → proc_named name (ps ++ qs) ≡ (if is_some (proc_named name ps) then proc_named name ps else proc_named name qs)
proc_in_front name [] qs = refl
proc_in_front name (p ∷ ps) qs = go (bytes_eq p.name name) (proc_in_front name ps qs)
  where
    go : (b : Bool) → proc_named name (ps ++ qs) ≡ (if is_some (proc_named name ps) then proc_named name ps else proc_named name qs)
        → (if b then Some p else proc_named name (ps ++ qs))
        ≡ (if is_some (if b then Some p else proc_named name ps) then (if b then Some p else proc_named name ps) else proc_named name qs)
    go true rest = refl
    go false rest = rest

get_last : {X : Type 0} (xs : List X) (x : X) → slice_get (xs ++ x ∷ []) (length xs) ≡ Some x
get_last [] x = refl
get_last (y ∷ xs) x = get_last xs x

get_more : {X : Type 0} (xs ys : List X) (n : ℕ) (x : X) → slice_get xs n ≡ Some x → slice_get (xs ++ ys) n ≡ Some x
get_more [] ys n x e = cc
get_more (y ∷ xs) ys zero x e = e
get_more (y ∷ xs) ys (suc n) x e = get_more xs ys n x e

turned : (a b : List ℕ) → bytes_eq a b ≡ false → bytes_eq b a ≡ false
turned a b f = go (bytes_eq b a) refl
  where
    go : (t : Bool) → bytes_eq b a ≡ t → t ≡ false
    go true e = sym ((bytes_eq-Decides a b).1 (sym ((bytes_eq-Decides b a).0 e))) ∙ f
    go false e = refl

-- ---- one procedure more

module _ {X : Type 0} (view : X → Proc) (xs : List X) (x : X) (ps : List Placed) where
  abbrev then_placed : List Placed
  then_placed = with_first (view x).name (length xs) ps

  abbrev known : List ℕ → Option Proc
  known name = proc_named name (map view (xs ++ x ∷ []))

  -- the name stood at this place before
  stood : (name : List ℕ) (n : ℕ) → place_named name ps ≡ Some n → place_named name then_placed ≡ Some n
  stood name n e = go (is_some (place_named (view x).name ps))
    where
      go : (b : Bool) → place_named name (if b then ps else ps ++ ((view x).name, length xs) ∷ []) ≡ Some n
      go true = e
      go false = place_in_front name ps (((view x).name, length xs) ∷ [])
          ∙ ap (λ o. if is_some o then o else place_named name (((view x).name, length xs) ∷ [])) e

  -- it stood nowhere, and is that of the procedure
  goes_last : (name : List ℕ) → (view x).name ≡ name → place_named name ps ≡ None → place_named name then_placed ≡ Some (length xs)
  goes_last name e h =
      ap (λ o. place_named name (if is_some o then ps else ps ++ ((view x).name, length xs) ∷ [])) (ap (λ n. place_named n ps) e ∙ h)
      ∙ place_in_front name ps (((view x).name, length xs) ∷ [])
      ∙ ap (λ o. if is_some o then o else place_named name (((view x).name, length xs) ∷ [])) h
      ∙ ap (λ b. if b then Some (length xs) else None) ((bytes_eq-Decides name (view x).name).1 (sym e))

  -- it stood nowhere, and is another
  stays_out : (name : List ℕ) → bytes_eq (view x).name name ≡ false → place_named name ps ≡ None → place_named name then_placed ≡ None
  stays_out name f h = go (is_some (place_named (view x).name ps))
    where
      go : (b : Bool) → place_named name (if b then ps else ps ++ ((view x).name, length xs) ∷ []) ≡ None
      go true = h
      go false = place_in_front name ps (((view x).name, length xs) ∷ [])
          ∙ ap (λ o. if is_some o then o else place_named name (((view x).name, length xs) ∷ [])) h
          ∙ ap (λ b. if b then Some (length xs) else None) (turned (view x).name name f)

  known_more : (name : List ℕ) → known name ≡ (if is_some (proc_named name (map view xs)) then proc_named name (map view xs) else proc_named name (view x ∷ []))
  known_more name = ap (proc_named name) (map-append view xs (x ∷ [])) ∙ proc_in_front name (map view xs) (view x ∷ [])

  one_more : LeadEach view xs ps (λ name. proc_named name (map view xs)) → LeadEach view (xs ++ x ∷ []) then_placed known
  one_more leads name = go (place_named name ps) refl (leads name)
    where
      go : (o : Option ℕ) → place_named name ps ≡ o → LeadsTo view xs o (proc_named name (map view xs)) → LeadsTo view (xs ++ x ∷ []) (place_named name then_placed) (known name)
      go (Some n) e h =
          subst (λ o. LeadsTo view (xs ++ x ∷ []) o (known name)) (sym (stood name n e))
          (h.0, get_more xs (x ∷ []) n h.0 h.1, known_more name ∙ ap (λ o. if is_some o then o else proc_named name (view x ∷ [])) h.2)
      go None e h = own (bytes_eq (view x).name name) refl
        where
          own : (b : Bool) → bytes_eq (view x).name name ≡ b → LeadsTo view (xs ++ x ∷ []) (place_named name then_placed) (known name)
          own true is =
              let same : (view x).name ≡ name = (bytes_eq-Decides (view x).name name).0 is in
              subst (λ o. LeadsTo view (xs ++ x ∷ []) o (known name)) (sym (goes_last name same e))
              (x, get_last xs x, known_more name ∙ ap (λ o. if is_some o then o else proc_named name (view x ∷ [])) h ∙ ap (λ b. if b then Some (view x) else None) is)
          own false is =
              subst (λ o. LeadsTo view (xs ++ x ∷ []) o (known name)) (sym (stays_out name is e))
              (known_more name ∙ ap (λ o. if is_some o then o else proc_named name (view x ∷ [])) h ∙ ap (λ b. if b then Some (view x) else None) is)

pub proc_pushed : {X : Type 0} (view : X → Proc) (olds news : List X) (x : X) (name : List ℕ) (places after : List Placed) → LeadEach view olds places (λ n. proc_named n (map view olds))
    → news ≡ olds ++ x ∷ [] → (view x).name ≡ name → after ≡ with_first name (length olds) places → LeadEach view news after (λ n. proc_named n (map view news))
proc_pushed view olds news x name places after leads e f g =
    subst (λ ps. LeadEach view news ps (λ n. proc_named n (map view news))) (sym (g ∙ ap (λ n. with_first n (length olds) places) (sym f)))
    (subst (λ xs. LeadEach view xs (with_first (view x).name (length olds) places) (λ n. proc_named n (map view xs))) (sym e) (one_more view olds x places leads))
