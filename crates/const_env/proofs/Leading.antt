-- Names by their places.
use Rattle.std.proofs.Common.{◌≡◌, ℕ, zero, suc, Bool, true, false, cond, List, [], ◌∷◌, ◌++◌, map, length, refl, sym, ap, ◌∙◌, subst}
use Rattle.std.specs.Prelude.{Option, None, Some, slice_get, String, if◌then◌else◌, string_bytes}
use Rattle.std.specs.Map.{lookup}
use Rattle.std.specs.Str.{bytes_eq}
use Rattle.std.specs.declared.alloc.Global.{Global as Heap}
use Rattle.std.proofs.lemmas.Slice.Eq.{bytes_eq-Decides}
use Rattle.indexmap.specs.IndexMap.{insert_entry}
use Rattle.cal_model.specs.Kinding.{Known, known_as}
use Rattle.const_env.specs.Counting.{declared_by, known_variable, variable_view}
use Rattle.const_env.specs.Held.{last_first}
use Rattle.const_env.specs.Standing.{Placed, place_named, placed_of, with_place, LeadsTo, LeadEach, seen_variable}
use Rattle.const_env.specs.declared.inside.Variable.{Variable}
use Rattle.const_env.proofs.Backwards.{entry_known, last_mapped}

-- ---- places, as they lie in the index

pub found_place : (name : List ℕ) (es : List (String Heap × ℕ))
    → lookup (λ k. bytes_eq name (string_bytes k)) es ≡ place_named name (map placed_of es)
found_place name [] = refl
found_place name (e ∷ es) = go (bytes_eq name (string_bytes e.0)) (found_place name es)
  where
    go : (b : Bool) → lookup (λ k. bytes_eq name (string_bytes k)) es ≡ place_named name (map placed_of es)
        → cond b (Some e.1) (lookup (λ k. bytes_eq name (string_bytes k)) es) ≡ (if b then Some e.1 else place_named name (map placed_of es))
    go true rest = refl
    go false rest = rest

put_under : (k : String Heap) (v : ℕ) (es : List (String Heap × ℕ))
    → map placed_of (insert_entry (λ a b. bytes_eq (string_bytes a) (string_bytes b)) es k v) ≡ with_place (string_bytes k) v (map placed_of es)
put_under k v [] = refl
put_under k v (e ∷ es) = go (bytes_eq (string_bytes k) (string_bytes e.0)) (put_under k v es)
  where
    go : (b : Bool) → map placed_of (insert_entry (λ a c. bytes_eq (string_bytes a) (string_bytes c)) es k v) ≡ with_place (string_bytes k) v (map placed_of es)
        → map placed_of (if b then (e.0, v) ∷ es else e ∷ insert_entry (λ a c. bytes_eq (string_bytes a) (string_bytes c)) es k v)
        ≡ (if b then (string_bytes e.0, v) ∷ map placed_of es else placed_of e ∷ with_place (string_bytes k) v (map placed_of es))
    go true rest = refl
    go false rest = ap (λ ps. placed_of e ∷ ps) rest

pub put_place : (k : String Heap) (v : ℕ) (name : List ℕ) (es : List (String Heap × ℕ)) → string_bytes k ≡ name
    → map placed_of (insert_entry (λ a b. bytes_eq (string_bytes a) (string_bytes b)) es k v) ≡ with_place name v (map placed_of es)
put_place k v name es e =
    subst (λ n. map placed_of (insert_entry (λ a b. bytes_eq (string_bytes a) (string_bytes b)) es k v) ≡ with_place n v (map placed_of es)) e (put_under k v es)

-- ---- a place that is put, and the others

pub put_same : (name : List ℕ) (place : ℕ) (ps : List Placed) → place_named name (with_place name place ps) ≡ Some place
put_same name place [] = ap (λ b. if b then Some place else None) ((bytes_eq-Decides name name).1 refl)
put_same name place (p ∷ ps) = go (bytes_eq name p.0) refl (put_same name place ps)
  where
    go : (b : Bool) → bytes_eq name p.0 ≡ b → place_named name (with_place name place ps) ≡ Some place
        → place_named name (if b then (p.0, place) ∷ ps else p ∷ with_place name place ps) ≡ Some place
    go true e rest = ap (λ b. if b then Some place else place_named name ps) e
    go false e rest = ap (λ b. if b then Some p.1 else place_named name (with_place name place ps)) e ∙ rest

pub put_other : (name new : List ℕ) (place : ℕ) (ps : List Placed) → bytes_eq name new ≡ false → place_named name (with_place new place ps) ≡ place_named name ps
put_other name new place [] f = ap (λ b. if b then Some place else None) f
put_other name new place (p ∷ ps) f = go (bytes_eq new p.0) refl (put_other name new place ps f)
  where
    go : (b : Bool) → bytes_eq new p.0 ≡ b → place_named name (with_place new place ps) ≡ place_named name ps
        → place_named name (if b then (p.0, place) ∷ ps else p ∷ with_place new place ps) ≡ place_named name (p ∷ ps)
    go true e rest =
        let other : bytes_eq name p.0 ≡ false = subst (λ n. bytes_eq name n ≡ false) ((bytes_eq-Decides new p.0).0 e) f in
        ap (λ b. if b then Some place else place_named name ps) other ∙ sym (ap (λ b. if b then Some p.1 else place_named name ps) other)
    go false e rest = ap (λ o. if bytes_eq name p.0 then Some p.1 else o) rest

pub turned : (a b : List ℕ) → bytes_eq a b ≡ false → bytes_eq b a ≡ false
turned a b f = go (bytes_eq b a) refl
  where
    go : (t : Bool) → bytes_eq b a ≡ t → t ≡ false
    go true e = sym ((bytes_eq-Decides a b).1 (sym ((bytes_eq-Decides b a).0 e))) ∙ f
    go false e = refl

-- ---- one item more

get_last : {X : Type 0} (xs : List X) (x : X) → slice_get (xs ++ x ∷ []) (length xs) ≡ Some x
get_last [] x = refl
get_last (y ∷ xs) x = get_last xs x

get_more : {X : Type 0} (xs ys : List X) (n : ℕ) (x : X) → slice_get xs n ≡ Some x → slice_get (xs ++ ys) n ≡ Some x
get_more [] ys n x e = cc
get_more (y ∷ xs) ys zero x e = e
get_more (y ∷ xs) ys (suc n) x e = get_more xs ys n x e

leads_more : {X Y : Type 0} (view : X → Y) (xs ys : List X) (place : Option ℕ) (known : Option Y) → LeadsTo view xs place known → LeadsTo view (xs ++ ys) place known
leads_more view xs ys None known h = h
leads_more view xs ys (Some n) known h = (h.0, get_more xs ys n h.0 h.1, h.2)

-- it stands behind the others, and is what is known of its name
lead_one_more : {X Y : Type 0} (view : X → Y) (xs : List X) (x : X) (new : List ℕ) (places : List Placed) (before after : List ℕ → Option Y) → LeadEach view xs places before
    → ((name : List ℕ) → bytes_eq new name ≡ true → after name ≡ Some (view x)) → ((name : List ℕ) → bytes_eq new name ≡ false → after name ≡ before name)
    → LeadEach view (xs ++ x ∷ []) (with_place new (length xs) places) after
lead_one_more {X} {Y} view xs x new places before after leads its others name = go (bytes_eq new name) refl
  where
    go : (b : Bool) → bytes_eq new name ≡ b → LeadsTo view (xs ++ x ∷ []) (place_named name (with_place new (length xs) places)) (after name)
    go true e =
        let there : place_named name (with_place new (length xs) places) ≡ Some (length xs) =
        subst (λ n. place_named n (with_place new (length xs) places) ≡ Some (length xs)) ((bytes_eq-Decides new name).0 e) (put_same new (length xs) places) in
        subst (λ o. LeadsTo view (xs ++ x ∷ []) o (after name)) (sym there) (x, get_last xs x, its name e)
    go false e =
        let there : place_named name (with_place new (length xs) places) ≡ place_named name places = put_other name new (length xs) places (turned new name e) in
        subst (λ o. LeadsTo view (xs ++ x ∷ []) o (after name)) (sym there)
        (subst (λ k. LeadsTo view (xs ++ x ∷ []) (place_named name places) k) (sym (others name e)) (leads_more view xs (x ∷ []) (place_named name places) (before name) (leads name)))

-- ---- one entry more, which hides those of its name

entry_more : {X : Type 0} (view : X → Known) (xs : List X) (x : X) (places : List Placed) → LeadEach view xs places (λ name. known_as name (last_first view xs []))
    → LeadEach view (xs ++ x ∷ []) (with_place (view x).name (length xs) places) (λ name. known_as name (last_first view (xs ++ x ∷ []) []))
entry_more view xs x places leads =
    lead_one_more view xs x (view x).name places (λ name. known_as name (last_first view xs [])) (λ name. known_as name (last_first view (xs ++ x ∷ []) [])) leads
    (λ name e. entry_known view name (xs ++ x ∷ []) xs x refl ∙ ap (λ b. if b then Some (view x) else known_as name (last_first view xs [])) e)
    (λ name e. entry_known view name (xs ++ x ∷ []) xs x refl ∙ ap (λ b. if b then Some (view x) else known_as name (last_first view xs [])) e)

pub entry_pushed : {X : Type 0} (view : X → Known) (olds news : List X) (x : X) (name : List ℕ) (places after : List Placed) → LeadEach view olds places (λ n. known_as n (last_first view olds []))
    → news ≡ olds ++ x ∷ [] → (view x).name ≡ name → after ≡ with_place name (length olds) places → LeadEach view news after (λ n. known_as n (last_first view news []))
entry_pushed view olds news x name places after leads e f g =
    subst (λ ps. LeadEach view news ps (λ n. known_as n (last_first view news []))) (sym (g ∙ ap (λ n. with_place n (length olds) places) (sym f)))
    (subst (λ xs. LeadEach view xs (with_place (view x).name (length olds) places) (λ n. known_as n (last_first view xs []))) (sym e) (entry_more view olds x places leads))

-- ---- variables, as they are sought

pub variables_seen : (xs : List Variable) → map known_variable (declared_by xs []) ≡ last_first seen_variable xs []
variables_seen xs = last_mapped known_variable variable_view xs []
