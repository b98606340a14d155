-- The numbers of classes, as they lie in the index.
use Rattle.std.proofs.Common.{◌≡◌, ℕ, Bool, true, false, cond, List, [], ◌∷◌, map, Some, refl, ap, subst}
use Rattle.std.specs.Prelude.{String, if◌then◌else◌, string_bytes}
use Rattle.std.specs.Map.{lookup}
use Rattle.std.specs.Str.{bytes_eq}
use Rattle.std.specs.declared.alloc.Global.{Global as Heap}
use Rattle.indexmap.specs.IndexMap.{insert_entry}
use Rattle.check_leaves.specs.Finding.{number_of, numbered_of, with_number}

pub found_number : (class : List ℕ) (es : List (String Heap × ℕ))
    → lookup (λ k. bytes_eq class (string_bytes k)) es ≡ number_of class (map numbered_of es)
found_number class [] = refl
found_number class (e ∷ es) = go (bytes_eq class (string_bytes e.0)) (found_number class es)
  where
    go : (b : Bool) → lookup (λ k. bytes_eq class (string_bytes k)) es ≡ number_of class (map numbered_of es)
        → cond b (Some e.1) (lookup (λ k. bytes_eq class (string_bytes k)) es) ≡ (if b then Some e.1 else number_of class (map numbered_of es))
    go true rest = refl
    go false rest = rest

put_under : (k : String Heap) (v : ℕ) (es : List (String Heap × ℕ))
    → map numbered_of (insert_entry (λ a b. bytes_eq (string_bytes a) (string_bytes b)) es k v) ≡ with_number (string_bytes k) v (map numbered_of es)
put_under k v [] = refl
put_under k v (e ∷ es) = go (bytes_eq (string_bytes k) (string_bytes e.0)) (put_under k v es)
  where
    go : (b : Bool) → map numbered_of (insert_entry (λ a c. bytes_eq (string_bytes a) (string_bytes c)) es k v) ≡ with_number (string_bytes k) v (map numbered_of es)
        → map numbered_of (if b then (e.0, v) ∷ es else e ∷ insert_entry (λ a c. bytes_eq (string_bytes a) (string_bytes c)) es k v)
        ≡ (if b then (string_bytes e.0, v) ∷ map numbered_of es else numbered_of e ∷ with_number (string_bytes k) v (map numbered_of es))
    go true rest = refl
    go false rest = ap (λ ns. numbered_of e ∷ ns) rest

pub put_number : (k : String Heap) (v : ℕ) (class : List ℕ) (es : List (String Heap × ℕ)) → string_bytes k ≡ class
    → map numbered_of (insert_entry (λ a b. bytes_eq (string_bytes a) (string_bytes b)) es k v) ≡ with_number class v (map numbered_of es)
put_number k v class es e =
    subst (λ c. map numbered_of (insert_entry (λ a b. bytes_eq (string_bytes a) (string_bytes b)) es k v) ≡ with_number c v (map numbered_of es)) e (put_under k v es)
