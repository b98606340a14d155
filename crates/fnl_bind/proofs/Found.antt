-- The index of a set of networks.
use Rattle.std.proofs.Common.{◌≡◌, ℕ, Bool, true, false, cond, List, [], ◌∷◌, ◌++◌, map, refl, sym, ap, ◌∙◌}
use Rattle.std.proofs.lemmas.List.{map-append}
use Rattle.std.proofs.lemmas.Slice.Eq.{bytes_eq-Decides}
use Rattle.std.specs.Prelude.{Option, None, Some, String, if◌then◌else◌, option_map, option_copied, string_bytes}
use Rattle.std.specs.Borrow.{Bor}
use Rattle.std.specs.Map.{lookup}
use Rattle.std.specs.Str.{bytes_eq}
use Rattle.std.specs.declared.alloc.Global.{Global as Heap}
use Rattle.indexmap.specs.IndexMap.{IndexMap, insert_entry}
use Rattle.indexmap.proofs.CallerLemmas.{insert_entry-new}
use Rattle.fnl_bind.specs.Library.{network_of}
use Rattle.fnl_bind.specs.View.{entry_of, entry_under}
use Rattle.fnl_bind.specs.declared.entry.NetEntry.{NetEntry}

-- texts are the same either way
same-text : (a b : List ℕ) → bytes_eq a b ≡ bytes_eq b a
same-text a b = go (bytes_eq a b) (bytes_eq b a) refl refl
  where
    go : (x y : Bool) → bytes_eq a b ≡ x → bytes_eq b a ≡ y → bytes_eq a b ≡ bytes_eq b a
    go true y h i = h ∙ sym ((bytes_eq-Decides b a).1 (sym ((bytes_eq-Decides a b).0 h)))
    go false true h i = (bytes_eq-Decides a b).1 (sym ((bytes_eq-Decides b a).0 i)) ∙ sym i
    go false false h i = h ∙ sym i

-- the first entry of the class
pub found_entry : (class : List ℕ) (es : List (String Heap × NetEntry)) → option_map (entry_under class) (lookup (λ k. bytes_eq class (string_bytes k)) es) ≡ network_of class (map entry_of es)
found_entry class [] = refl
found_entry class (e ∷ es) =
    go (bytes_eq class (string_bytes e.0)) (λ h. (bytes_eq-Decides class (string_bytes e.0)).0 h) (found_entry class es)
    ∙ ap (λ b. if b then Some (entry_of e) else network_of class (map entry_of es)) (same-text class (string_bytes e.0))
  where
    go : (b : Bool) → (b ≡ true → class ≡ string_bytes e.0)
        → option_map (entry_under class) (lookup (λ k. bytes_eq class (string_bytes k)) es) ≡ network_of class (map entry_of es)
        → option_map (entry_under class) (cond b (Some e.1) (lookup (λ k. bytes_eq class (string_bytes k)) es)) ≡ (if b then Some (entry_of e) else network_of class (map entry_of es))
    go true same rest = ap (λ n. Some (entry_under n e.1)) (same refl)
    go false same rest = rest

pub found_borrowed : (class : List ℕ) (o : Option (Bor NetEntry)) → option_map (λ e. entry_under class e.now) o ≡ option_map (entry_under class) (option_copied o)
found_borrowed class None = refl
found_borrowed class (Some e) = refl

-- an entry that is absent by what it is seen as is absent
absent : (class : List ℕ) (o : Option NetEntry) → option_map (entry_under class) o ≡ None → o ≡ None
absent class None h = refl
absent class (Some e) h = cc

-- an entry that wasn't there goes last
pub added_entry : {S : Type 0} (m : IndexMap (String Heap) NetEntry S) (k : String Heap) (v : NetEntry) (class : List ℕ) → string_bytes k ≡ class → network_of class (map entry_of m.entries) ≡ None
    → map entry_of (insert_entry (λ a b. bytes_eq (string_bytes a) (string_bytes b)) m.entries k v) ≡ map entry_of m.entries ++ entry_under class v ∷ []
added_entry m k v class e h =
    let none : lookup (λ x. bytes_eq (string_bytes k) (string_bytes x)) m.entries ≡ None = absent (string_bytes k) _ (found_entry (string_bytes k) m.entries ∙ ap (λ n. network_of n (map entry_of m.entries)) e ∙ h) in
    ap (map entry_of) (insert_entry-new (λ a b. bytes_eq (string_bytes a) (string_bytes b)) m k v none)
    ∙ map-append entry_of m.entries ((k, v) ∷ [])
    ∙ ap (λ n. map entry_of m.entries ++ entry_under n v ∷ []) e
