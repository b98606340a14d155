-- The index of a set of files.
use Rattle.std.proofs.Common.{◌≡◌, ℕ, Bool, true, false, cond, List, [], ◌∷◌, ◌++◌, map, refl, ap, ◌∙◌}
use Rattle.std.proofs.lemmas.List.{map-append}
use Rattle.std.proofs.lemmas.Slice.Eq.{bytes_eq-Decides}
use Rattle.std.specs.Prelude.{Option, None, Some, String, if◌then◌else◌, option_map, option_copied, string_bytes}
use Rattle.std.specs.Borrow.{Bor}
use Rattle.std.specs.Map.{lookup}
use Rattle.std.specs.Str.{bytes_eq}
use Rattle.std.specs.declared.alloc.Global.{Global as Heap}
use Rattle.indexmap.specs.IndexMap.{IndexMap, insert_entry}
use Rattle.indexmap.proofs.CallerLemmas.{insert_entry-new}
use Rattle.cal_imports.specs.Sources.{source_named}
use Rattle.cal_imports.specs.View.{source, source_of}
use Rattle.cal_imports.specs.declared.entry.Entry.{Entry}

-- the first entry of the class
pub found_entry : (name : List ℕ) (es : List (String Heap × Entry)) → option_map (source name) (lookup (λ k. bytes_eq name (string_bytes k)) es) ≡ source_named name (map source_of es)
found_entry name [] = refl
found_entry name (e ∷ es) = go (bytes_eq name (string_bytes e.0)) (λ h. (bytes_eq-Decides name (string_bytes e.0)).0 h) (found_entry name es)
  where
    go : (b : Bool) → (b ≡ true → name ≡ string_bytes e.0) → option_map (source name) (lookup (λ k. bytes_eq name (string_bytes k)) es) ≡ source_named name (map source_of es)
        → option_map (source name) (cond b (Some e.1) (lookup (λ k. bytes_eq name (string_bytes k)) es)) ≡ (if b then Some (source_of e) else source_named name (map source_of es))
    go true same rest = ap (λ n. Some (source n e.1)) (same refl)
    go false same rest = rest

pub found_borrowed : (name : List ℕ) (o : Option (Bor Entry)) → option_map (λ e. source name e.now) o ≡ option_map (source name) (option_copied o)
found_borrowed name None = refl
found_borrowed name (Some e) = refl

-- an entry that is absent by its source is absent
pub absent : (name : List ℕ) (o : Option Entry) → option_map (source name) o ≡ None → o ≡ None
absent name None h = refl
absent name (Some e) h = cc

-- an entry that wasn't there goes last
pub added_entry : {S : Type 0} (m : IndexMap (String Heap) Entry S) (k : String Heap) (v : Entry) (name : List ℕ) → string_bytes k ≡ name → source_named name (map source_of m.entries) ≡ None
    → map source_of (insert_entry (λ a b. bytes_eq (string_bytes a) (string_bytes b)) m.entries k v) ≡ map source_of m.entries ++ source name v ∷ []
added_entry m k v name e h =
    let none : lookup (λ x. bytes_eq (string_bytes k) (string_bytes x)) m.entries ≡ None = absent (string_bytes k) _ (found_entry (string_bytes k) m.entries ∙ ap (λ n. source_named n (map source_of m.entries)) e ∙ h) in
    ap (map source_of) (insert_entry-new (λ a b. bytes_eq (string_bytes a) (string_bytes b)) m k v none)
    ∙ map-append source_of m.entries ((k, v) ∷ [])
    ∙ ap (λ n. map source_of m.entries ++ source n v ∷ []) e
