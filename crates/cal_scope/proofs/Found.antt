-- Names among others, and the index of the names of a file.
use Rattle.std.proofs.Common.{◌≡◌, ℕ, Bool, true, false, cond, ◌||◌, List, [], ◌∷◌, ◌++◌, map, refl, ap, ◌∙◌}
use Rattle.std.proofs.lemmas.List.{map-append}
use Rattle.std.proofs.lemmas.Slice.Eq.{bytes_eq-Decides}
use Rattle.std.specs.Prelude.{Option, None, Some, String, if◌then◌else◌, option_map, option_copied, string_bytes}
use Rattle.std.specs.Borrow.{Bor}
use Rattle.std.specs.List.{list_any}
use Rattle.std.specs.Map.{lookup}
use Rattle.std.specs.Str.{bytes_eq}
use Rattle.std.specs.declared.alloc.Global.{Global as Heap}
use Rattle.indexmap.specs.IndexMap.{IndexMap, insert_entry}
use Rattle.indexmap.proofs.CallerLemmas.{insert_entry-new}
use Rattle.cal_scope.specs.Names.{global_named, is_among, with_name}
use Rattle.cal_scope.specs.Meanings.{global_of, meaning_of}
use Rattle.cal_scope.specs.declared.file_names.Meaning.{Meaning}

grouped : (a b c : Bool) → (a || (b || c)) ≡ ((a || b) || c)
grouped true b c = refl
grouped false b c = refl

-- a name is among these or those
pub among_both : (name : List ℕ) (xs ys : List (List ℕ)) → is_among name (xs ++ ys) ≡ (is_among name xs || is_among name ys)
among_both name [] ys = refl
among_both name (x ∷ xs) ys = ap (λ b. bytes_eq name x || b) (among_both name xs ys) ∙ grouped (bytes_eq name x) (is_among name xs) (is_among name ys)

pub among_here : (name : List ℕ) (xs ys : List (List ℕ)) → is_among name xs ≡ true → is_among name (xs ++ ys) ≡ true
among_here name xs ys h = among_both name xs ys ∙ ap (λ b. b || is_among name ys) h

pub among_outside : (name : List ℕ) (xs ys : List (List ℕ)) → is_among name xs ≡ false → is_among name (xs ++ ys) ≡ is_among name ys
among_outside name xs ys h = among_both name xs ys ∙ ap (λ b. b || is_among name ys) h

-- ---- the index of a scope

pub among_keys : (name : List ℕ) (keys : List (String Heap)) → list_any (λ k. bytes_eq name (string_bytes k)) keys ≡ is_among name (map string_bytes keys)
among_keys name [] = refl
among_keys name (k ∷ keys) = ap (λ b. bytes_eq name (string_bytes k) || b) (among_keys name keys)

branches : (b : Bool) (keys : List (String Heap)) (k : String Heap) → map string_bytes (if b then keys else keys ++ k ∷ []) ≡ (if b then map string_bytes keys else map string_bytes keys ++ string_bytes k ∷ [])
branches true keys k = refl
branches false keys k = map-append string_bytes keys (k ∷ [])

pub added_key : (keys : List (String Heap)) (k : String Heap)
    → map string_bytes (if list_any (λ x. bytes_eq (string_bytes k) (string_bytes x)) keys then keys else keys ++ k ∷ []) ≡ with_name (string_bytes k) (map string_bytes keys)
added_key keys k =
    branches (list_any (λ x. bytes_eq (string_bytes k) (string_bytes x)) keys) keys k
    ∙ ap (λ b. if b then map string_bytes keys else map string_bytes keys ++ string_bytes k ∷ []) (among_keys (string_bytes k) keys)

-- ---- the index of a file

-- the first entry of the name
pub found_entry : (name : List ℕ) (es : List (String Heap × Meaning)) → option_map (meaning_of name) (lookup (λ k. bytes_eq name (string_bytes k)) es) ≡ global_named name (map global_of es)
found_entry name [] = refl
found_entry name (e ∷ es) = go (bytes_eq name (string_bytes e.0)) (λ h. (bytes_eq-Decides name (string_bytes e.0)).0 h) (found_entry name es)
  where
    go : (b : Bool) → (b ≡ true → name ≡ string_bytes e.0) → option_map (meaning_of name) (lookup (λ k. bytes_eq name (string_bytes k)) es) ≡ global_named name (map global_of es)
        → option_map (meaning_of name) (cond b (Some e.1) (lookup (λ k. bytes_eq name (string_bytes k)) es)) ≡ (if b then Some (global_of e) else global_named name (map global_of es))
    go true same rest = ap (λ n. Some (meaning_of n e.1)) (same refl)
    go false same rest = rest

pub found_borrowed : (name : List ℕ) (o : Option (Bor Meaning)) → option_map (λ m. meaning_of name m.now) o ≡ option_map (meaning_of name) (option_copied o)
found_borrowed name None = refl
found_borrowed name (Some m) = refl

-- an entry that is absent by its meaning is absent
pub absent : (name : List ℕ) (o : Option Meaning) → option_map (meaning_of name) o ≡ None → o ≡ None
absent name None h = refl
absent name (Some m) h = cc

-- an entry that wasn't there goes last
pub added_entry : {S : Type 0} (m : IndexMap (String Heap) Meaning S) (k : String Heap) (v : Meaning) (name : List ℕ) → string_bytes k ≡ name → global_named name (map global_of m.entries) ≡ None
    → map global_of (insert_entry (λ a b. bytes_eq (string_bytes a) (string_bytes b)) m.entries k v) ≡ map global_of m.entries ++ meaning_of name v ∷ []
added_entry m k v name e h =
    let none : lookup (λ x. bytes_eq (string_bytes k) (string_bytes x)) m.entries ≡ None = absent (string_bytes k) _ (found_entry (string_bytes k) m.entries ∙ ap (λ n. global_named n (map global_of m.entries)) e ∙ h) in
    ap (map global_of) (insert_entry-new (λ a b. bytes_eq (string_bytes a) (string_bytes b)) m k v none)
    ∙ map-append global_of m.entries ((k, v) ∷ [])
    ∙ ap (λ n. map global_of m.entries ++ meaning_of n v ∷ []) e
