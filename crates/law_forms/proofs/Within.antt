-- The kind of an expression is within what lists may have.
use Rattle.std.proofs.Common.{◌≡◌, List, [], ◌∷◌, length, ap, ◌∙◌, subst}
use Rattle.rvc_base.specs.Rules.{wrong_kind}
use Rattle.cal_ast.specs.Tree as tree
use Rattle.cal_ast.specs.Tree.{Tree}
use Rattle.cal_model.specs.Value.{Kind, NumKind, BoolKind, ListKind, kind_of_scalar}
use Rattle.cal_model.specs.Call.{fun_named}
use Rattle.cal_model.specs.Kinding.{Fine, Names, arguments_fit, elements_in, kind, kinds, meant_by, with_counters}
use Rattle.cal_model.proofs.KindValues.{fine-is, not-fine, split, tested}
use Rattle.law_forms.proofs.Like.{IsWithin, list_within, one_scalar, one_within}
use Rattle.law_forms.proofs.Ones.{IsItem, IsListed, binary_one, branch_parts, called, item_parts, known_kind, listed_kinds, prefix_one}
use Rattle.law_forms.proofs.SeenNames.{KnownWithin, within_counters}

mutual
  pub within : (e : Tree) (known : Names) (k : Kind) → KnownWithin known → kind e known ≡ Fine k → IsWithin k
  within (tree.number a at) known k low h = subst IsWithin (fine-is NumKind k h) tt
  within (tree.truth b at) known k low h = subst IsWithin (fine-is BoolKind k h) tt
  within (tree.variable text at) known k low h =
      let x = known_kind (meant_by text known) k at h in
      subst IsWithin x.2 (low text x.0 x.1)
  within (tree.call text args at) known k low h =
      let f = called (fun_named text known.funs) _ k at h in
      let i = split (arguments_fit args f.0.formals known) _ k f.2 in
      let b = tested i.0 (Fine (kind_of_scalar f.0.result)) _ at k i.2 in
      subst IsWithin (fine-is (kind_of_scalar f.0.result) k b.1) (one_within (kind_of_scalar f.0.result) (one_scalar f.0.result))
  within (tree.paren e at) known k low h = within e known k low h
  within (tree.if_expr test first other at) known k low h =
      let x = split (kind test known) _ k h in
      let y = split (kind first known) _ k x.2 in
      let z = split (kind other known) _ k y.2 in
      let b = branch_parts x.0 y.0 z.0 k at z.2 in
      within first known k low (y.1 ∙ ap Fine b.1)
  within (tree.list es at) known k low h =
      let ks = split (kinds es known) _ k h in
      let l : IsListed ks.0 k = listed_kinds ks.0 k at ks.2 in
      list_within (length ks.0) l.at l.item k l.judged (first_within es known ks.0 l.item l.others low ks.1 l.some)
  within (tree.comp item gens at) known k low h =
      let i = split (kind item (with_counters gens known)) _ k h in
      let m = split (elements_in gens known) _ k i.2 in
      list_within m.0 at i.0 k m.2 (within item (with_counters gens known) i.0 (within_counters gens known low) i.1)
  within (tree.index base place at) known k low h =
      let x = split (kind base known) _ k h in
      let y = split (kind place known) _ k x.2 in
      let i : IsItem x.0 y.0 k = item_parts x.0 y.0 k at y.2 in
      let list : IsWithin (ListKind i.count k) = subst IsWithin i.list (within base known x.0 low x.1) in
      list.2
  within (tree.prefix op e at) known k low h =
      let x = split (kind e known) _ k h in
      one_within k (prefix_one op x.0 k at x.2).1
  within (tree.binary op l r at) known k low h =
      let x = split (kind l known) _ k h in
      let y = split (kind r known) _ k x.2 in
      one_within k (binary_one op x.0 y.0 k at y.2).2
  within other known k low h = absurd (not-fine wrong_kind 0 k h)

  first_within : (es : Tree) (known : Names) (ks : List Kind) (item : Kind) (others : List Kind) → KnownWithin known → kinds es known ≡ Fine ks → ks ≡ item ∷ others → IsWithin item
  first_within tree.nil known ks item others low h some =
      let none : ◌≡◌ {A = List Kind} [] (item ∷ others) = fine-is [] ks h ∙ some in absurd (cc)
  first_within (tree.cons e es) known ks item others low h some =
      let k = split (kind e known) _ ks h in
      let more = split (kinds es known) _ ks k.2 in
      let same : k.0 ∷ more.0 ≡ item ∷ others = fine-is (k.0 ∷ more.0) ks more.2 ∙ some in
      let first : k.0 ≡ item = cc in
      within e known item low (k.1 ∙ ap Fine first)
  first_within other known ks item others low h some = absurd (not-fine wrong_kind 0 ks h)
