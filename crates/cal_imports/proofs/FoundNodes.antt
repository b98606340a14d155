-- The index of nodes.
use Rattle.std.proofs.Common.{◌≡◌, ℕ, Bool, true, false, cond, List, [], ◌∷◌, ◌++◌, map, refl, ap, ◌∙◌}
use Rattle.std.proofs.lemmas.List.{map-append}
use Rattle.std.proofs.lemmas.Slice.Eq.{bytes_eq-Decides}
use Rattle.std.specs.Prelude.{Option, None, Some, String, is_some, if◌then◌else◌, option_map, option_copied, string_bytes}
use Rattle.std.specs.Borrow.{Bor}
use Rattle.std.specs.Map.{lookup}
use Rattle.std.specs.Str.{bytes_eq}
use Rattle.std.specs.declared.alloc.Global.{Global as Heap}
use Rattle.indexmap.specs.IndexMap.{IndexMap, insert_entry}
use Rattle.indexmap.proofs.CallerLemmas.{insert_entry-new}
use Rattle.cal_imports.specs.Walk as walks
use Rattle.cal_imports.specs.Walk.{node_named, with_node}
use Rattle.cal_imports.specs.GraphView.{node, node_of}
use Rattle.cal_imports.specs.declared.graph.Node.{Node}

-- the first entry of the name
pub found_entry : (name : List ℕ) (es : List (String Heap × Node)) → option_map (node name) (lookup (λ k. bytes_eq name (string_bytes k)) es) ≡ node_named name (map node_of es)
found_entry name [] = refl
found_entry name (e ∷ es) = go (bytes_eq name (string_bytes e.0)) (λ h. (bytes_eq-Decides name (string_bytes e.0)).0 h) (found_entry name es)
  where
    go : (b : Bool) → (b ≡ true → name ≡ string_bytes e.0) → option_map (node name) (lookup (λ k. bytes_eq name (string_bytes k)) es) ≡ node_named name (map node_of es)
        → option_map (node name) (cond b (Some e.1) (lookup (λ k. bytes_eq name (string_bytes k)) es)) ≡ (if b then Some (node_of e) else node_named name (map node_of es))
    go true same rest = ap (λ n. Some (node n e.1)) (same refl)
    go false same rest = rest

pub found_borrowed : (name : List ℕ) (o : Option (Bor Node)) → option_map (λ e. node name e.now) o ≡ option_map (node name) (option_copied o)
found_borrowed name None = refl
found_borrowed name (Some e) = refl

-- an entry that is absent by its name is absent
pub absent : (name : List ℕ) (o : Option Node) → option_map (node name) o ≡ None → o ≡ None
absent name None h = refl
absent name (Some e) h = cc

-- an entry that wasn't there goes last
pub added_entry : {S : Type 0} (m : IndexMap (String Heap) Node S) (k : String Heap) (v : Node) (name : List ℕ) → string_bytes k ≡ name → node_named name (map node_of m.entries) ≡ None
    → map node_of (insert_entry (λ a b. bytes_eq (string_bytes a) (string_bytes b)) m.entries k v) ≡ map node_of m.entries ++ node name v ∷ []
added_entry m k v name e h =
    let none : lookup (λ x. bytes_eq (string_bytes k) (string_bytes x)) m.entries ≡ None = absent (string_bytes k) _ (found_entry (string_bytes k) m.entries ∙ ap (λ n. node_named n (map node_of m.entries)) e ∙ h) in
    ap (map node_of) (insert_entry-new (λ a b. bytes_eq (string_bytes a) (string_bytes b)) m k v none)
    ∙ map-append node_of m.entries ((k, v) ∷ [])
    ∙ ap (λ n. map node_of m.entries ++ node n v ∷ []) e

-- a node that is there isn't added again
pub there : (n : walks.Node) (ns : List walks.Node) → is_some (node_named n.name ns) ≡ true → with_node n ns ≡ ns
there n ns h = ap (λ b. if b then ns else ns ++ n ∷ []) h

pub not_there : (n : walks.Node) (ns : List walks.Node) → node_named n.name ns ≡ None → with_node n ns ≡ ns ++ n ∷ []
not_there n ns h = ap (λ o. if is_some o then ns else ns ++ n ∷ []) h
