-- What stands in a trace before its first event, by the names of instances.
use Rattle.std.proofs.Common.{◌≡◌, ℕ, ◌+◌, List, [], ◌∷◌, ◌++◌, length, map, refl, sym, ap, ◌∙◌}
use Rattle.std.specs.Prelude.{codes}
use Rattle.trace_text.specs.declared.line.Line.TheVariants.{Header, Inst}
use Rattle.trace_text.specs.Text.{line_feed, line_text}
use Rattle.net_model.specs.Network.{Leaf, Network}
use Rattle.net_model.specs.Trace.{head_text, instance_lines}
use Rattle.cmd_run_network.specs.Network.{head_named, instance_named, instances_named}

lines_are : {X : Type 0} (k : ℕ) (leaves : List (Leaf X)) → instances_named k (map (λ leaf. leaf.path) leaves) (map (λ leaf. leaf.class) leaves) ≡ instance_lines k leaves
lines_are k [] = refl
lines_are k (leaf ∷ leaves) =
    ap (λ rest. instance_named k leaf.path leaf.class ++ rest) (lines_are (k + 1) leaves) ∙ regroup (line_text (Inst k)) leaf.path (codes " ") leaf.class line_feed (instance_lines (k + 1) leaves)
  where
    regroup : (a b c d e f : List ℕ) → (a ++ b ++ c ++ d ++ e) ++ f ≡ a ++ b ++ c ++ d ++ e ++ f
    regroup a b c d e f = refl

pub head_is : {X : Type 0} (net : Network X) (instances links grow : ℕ) (paths classes : List (List ℕ)) → length net.leaves ≡ instances → length net.links ≡ links
    → map (λ leaf. leaf.path) net.leaves ≡ paths → map (λ leaf. leaf.class) net.leaves ≡ classes → head_named instances links grow paths classes ≡ head_text net grow
head_is net instances links grow paths classes many joined called classed =
    ap (λ n. line_text (Header n links grow) ++ instances_named 0 paths classes) (sym many)
    ∙ ap (λ n. line_text (Header (length net.leaves) n grow) ++ instances_named 0 paths classes) (sym joined)
    ∙ ap (λ ps. line_text (Header (length net.leaves) (length net.links) grow) ++ instances_named 0 ps classes) (sym called)
    ∙ ap (λ cs. line_text (Header (length net.leaves) (length net.links) grow) ++ instances_named 0 (map (λ leaf. leaf.path) net.leaves) cs) (sym classed)
    ∙ ap (λ rest. line_text (Header (length net.leaves) (length net.links) grow) ++ rest) (lines_are 0 net.leaves)

-- what stands there by equal numbers
pub head_so : (head : List ℕ) (n count links grow limit : ℕ) (paths classes : List (List ℕ)) → head ≡ head_named n links grow paths classes → n ≡ count → grow ≡ limit → head ≡ head_named count links limit paths classes
head_so head n count links grow limit paths classes is many grown =
    is ∙ ap (λ k. head_named k links grow paths classes) many ∙ ap (λ g. head_named count links g paths classes) grown
