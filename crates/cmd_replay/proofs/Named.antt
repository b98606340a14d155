-- The names of a network's instances.
use Rattle.std.proofs.Common.{◌≡◌, ℕ, List, [], ◌∷◌, length, map, refl, ap, ◌∙◌, arith}
use Rattle.net_model.specs.Network.{Leaf}
use Rattle.trace_replay.specs.Head.{name_of}
use Rattle.cmd_replay.specs.Naming.{name_of_instance, names_of_instances}

leaves_named : {X : Type 0} (leaves : List (Leaf X)) → map name_of leaves ≡ names_of_instances (map (λ leaf. leaf.path) leaves) (map (λ leaf. leaf.class) leaves)
leaves_named [] = refl
leaves_named (leaf ∷ leaves) = ap (λ names. name_of_instance leaf.path leaf.class ∷ names) (leaves_named leaves)

pub named_so : {X : Type 0} (leaves : List (Leaf X)) (paths classes : List (List ℕ)) → map (λ leaf. leaf.path) leaves ≡ paths → map (λ leaf. leaf.class) leaves ≡ classes
    → map name_of leaves ≡ names_of_instances paths classes
named_so leaves paths classes called classed =
    leaves_named leaves
    ∙ (ap (λ ps. names_of_instances ps (map (λ leaf. leaf.class) leaves)) called ∙ ap (λ cs. names_of_instances paths cs) classed)

pub many_names : (paths classes : List (List ℕ)) → length paths ≡ length classes → length (names_of_instances paths classes) ≡ length paths
many_names [] classes same = refl
many_names (path ∷ paths) [] same = absurd (omega (arith, same))
many_names (path ∷ paths) (class ∷ classes) same = (let e = many_names paths classes (omega (arith, same)) in omega (arith, e))
