-- Actors with the values that they are given.
use Rattle.std.proofs.Common.{◌≡◌, ℕ, List, [], ◌∷◌, map, refl, ap, ◌∙◌}
use Rattle.rvc_base.specs.declared.refusal.Place.{Place}
use Rattle.fnl_tree.specs.Tree.{Binding, Leaf}
use Rattle.fnl_tree.specs.View as view
use Rattle.fnl_tree.specs.declared.tree.LeafValue.{LeafValue}
use Rattle.fnl_bind.specs.Networks.{binding_of}
use Rattle.check_given.specs.Given.{given_of}

pub bindings_same : (gs : List LeafValue) → map view.binding_of gs ≡ map binding_of (map given_of gs)
bindings_same [] = refl
bindings_same (g ∷ gs) = ap (λ bs. view.binding_of g ∷ bs) (bindings_same gs)

abbrev made : (path class : List ℕ) → Place → Place → List Binding → Leaf
made path class class_at instance_at bs = record { path = path; class = class; class_at = class_at; instance_at = instance_at; bindings = bs }

pub leaf_is : (path other class same : List ℕ) (class_at instance_at : Place) (bs cs : List Binding) → path ≡ other → class ≡ same → bs ≡ cs
    → made path class class_at instance_at bs ≡ made other same class_at instance_at cs
leaf_is path other class same class_at instance_at bs cs p q r =
    ap (λ x. made x class class_at instance_at bs) p
    ∙ ap (λ x. made other x class_at instance_at bs) q
    ∙ ap (λ x. made other same class_at instance_at x) r
