-- Open networks and their classes, the innermost last in memory, and networks and actors as they are found.
use Rattle.std.proofs.Common.{◌≡◌, ℕ, suc, ◌<◌, true, false, List, [], ◌∷◌, ◌++◌, length, map, reverse, refl, sym, ap, ◌∙◌, arith, append-nil}
use Rattle.std.specs.Prelude.{IsSome, None, Option, Some, String, option_to_list, string_bytes}
use Rattle.std.specs.declared.alloc.Global.{Global as Heap}
use Rattle.std.proofs.lemmas.List.{map-append, reverse-append}
use Rattle.fnl_tree.specs.View.{leaf_of, net_of}
use Rattle.fnl_tree.specs.declared.tree.Leaf.{Leaf}
use Rattle.fnl_tree.specs.declared.tree.Net.{Net}
use Rattle.fnl_tree.specs.Tree.{InnerLeaf, Part, Net as BoundNet, Leaf as BoundLeaf}
use Rattle.fnl_walk.specs.Walk as walks
use Rattle.fnl_walk.specs.Walk.{outside}
use Rattle.fnl_walk.specs.View.{open_of}
use Rattle.fnl_walk.specs.declared.walk.Open.{Open}

pub innermost : (os : List Open) (o : Open) → reverse (map open_of (os ++ o ∷ [])) ≡ open_of o ∷ reverse (map open_of os)
innermost os o = ap reverse (map-append open_of os (o ∷ [])) ∙ reverse-append (map open_of os) (open_of o ∷ [])

pub innermost_class : (cs : List (String Heap)) (c : String Heap) → reverse (map string_bytes (cs ++ c ∷ [])) ≡ string_bytes c ∷ reverse (map string_bytes cs)
innermost_class cs c = ap reverse (map-append string_bytes cs (c ∷ [])) ∙ reverse-append (map string_bytes cs) (string_bytes c ∷ [])

pub last_net : (ns : List Net) (n : Net) → map net_of (ns ++ n ∷ []) ≡ map net_of ns ++ net_of n ∷ []
last_net ns n = map-append net_of ns (n ∷ [])

pub last_leaf : (ls : List Leaf) (l : Leaf) → map leaf_of (ls ++ l ∷ []) ≡ map leaf_of ls ++ leaf_of l ∷ []
last_leaf ls l = map-append leaf_of ls (l ∷ [])

pub nets_count : (ns : List Net) → length (map net_of ns) ≡ length ns
nets_count [] = refl
nets_count (n ∷ ns) = ap suc (nets_count ns)

pub leaves_count : (ls : List Leaf) → length (map leaf_of ls) ≡ length ls
leaves_count [] = refl
leaves_count (l ∷ ls) = ap suc (leaves_count ls)

-- an actor's part
abbrev pub leaf_part : List ℕ → ℕ → List Part
leaf_part id n = record { id = id; inner = InnerLeaf n } ∷ []

abbrev made : List walks.Open → List (List ℕ) → List BoundNet → List BoundLeaf → walks.Walk
made os above ns ls = record { open_nets = os; above = above; grown = record { nets = ns; leaves = ls } }

pub walk_is : (os ps : List walks.Open) (above : List (List ℕ)) (ns ms : List BoundNet) (ls ks : List BoundLeaf) → os ≡ ps → ns ≡ ms → ls ≡ ks → made os above ns ls ≡ made ps above ms ks
walk_is os ps above ns ms ls ks p q r =
    ap (λ x. made x above ns ls) p ∙ ap (λ x. made ps above x ls) q ∙ ap (λ x. made ps above ms x) r

-- ---- classes that are taken off

not_true : false ≡ true → ⊥
not_true e = grind arith

none_left : (n : ℕ) (cs : List (String Heap)) → n ≡ length cs → (0 < n → ⊥) → cs ≡ []
none_left n [] e h = refl
none_left n (c ∷ cs) e h = absurd (h (omega (arith, e)))

pub class_left : (n : ℕ) (old new : List (String Heap)) (r : Option (String Heap)) → old ≡ new ++ option_to_list r → n ≡ length old → (0 < n → IsSome r)
    → reverse (map string_bytes new) ≡ outside (reverse (map string_bytes old))
class_left n old new (Some c) e f h = sym (ap (λ cs. outside (reverse (map string_bytes cs))) e ∙ ap outside (innermost_class new c))
class_left n old new None e f h =
    let none : old ≡ [] = none_left n old f (λ less. not_true (h less)) in
    let same : new ≡ [] = sym (append-nil new) ∙ sym e ∙ none in
    ap (λ cs. reverse (map string_bytes cs)) same ∙ sym (ap (λ cs. outside (reverse (map string_bytes cs))) none)
