-- What flattening answers is the flat network of the tree.
use Rattle.std.proofs.Common.{◌≡◌, ◌<◌, List, length, sym, subst, ap, ◌∙◌, arith}
use Rattle.std.proofs.lemmas.List.{length-map}
use Rattle.std.proofs.lemmas.Option.{slice_get_within}
use Rattle.net_model.specs.Network.{Network}
use Rattle.fnl_tree.specs.Tree.{Tree}
use Rattle.fnl_flatten.specs.declared.flat.Flat.{Flat}
use Rattle.fnl_flatten.specs.Flattened.{AnswersAreFlat, IsFlattened, StandsFor}
use Rattle.fnl_flatten.specs.Head.{Head}
use Rattle.fnl_flatten.specs.Links.{AreLinks}

as_many : {X : Type 0} (tree : Tree) (heads : List Head) (flat : Flat) (net : Network X) → IsFlattened tree heads flat
    → StandsFor heads flat net → length net.leaves ≡ length tree.leaves
as_many tree heads flat net is stands =
    sym (length-map net.leaves (λ leaf. leaf.path))
    ∙ ap length (stands.paths ∙ is.paths)
    ∙ length-map tree.leaves (λ leaf. leaf.path)

pub answer_is_flat : {X : Type 0} → AnswersAreFlat X
answer_is_flat tree heads flat net whole is stands =
    let count : length net.leaves ≡ length tree.leaves = as_many tree heads flat net is stands in
    let top : 0 < length tree.nets = slice_get_within tree.nets 0 (whole.sound).top (whole.sound).is_top in
    record {
      conforms = is.conforms;
      paths = stands.paths ∙ is.paths;
      classes = stands.classes ∙ is.classes;
      count = count ∙ sym whole.one_a_leaf;
      few = omega (arith, count, top, (whole.sound).few);
      behaviours = stands.behaviours;
      links = subst (AreLinks tree heads) (sym stands.links) is.links;
      top = is.top;
      is_top = is.is_top;
      ins = stands.ins ∙ is.ins;
      outs = stands.outs ∙ is.outs;
    }
