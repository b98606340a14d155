-- What is written out is plain: each size and each bound is a number.
use Rattle.std.proofs.Common.{◌≡◌, ℕ, suc, Bool, true, false, List, [], ◌∷◌, ℤ, pos, negsuc, refl, sym, ap, subst, Option, None, Some}
use Rattle.std.specs.Prelude.{if◌then◌else◌}
use Rattle.rvc_base.specs.Width.{is_num}
use Rattle.rvc_base.specs.Rules.{unknown_name, wrong_kind}
use Rattle.cal_ast.specs.declared.expr.PrefixOp.TheVariants.{Neg}
use Rattle.cal_ast.specs.declared.expr.BinOp.TheVariants.{Sub}
use Rattle.cal_ast.specs.Places.{begins}
use Rattle.cal_ast.specs.Tree as tree
use Rattle.cal_ast.specs.Tree.{Tree}
use Rattle.cal_model.specs.Value.{Kind, Shape, kind_of_type}
use Rattle.cal_model.specs.Actor.{Local, Fun}
use Rattle.cal_model.specs.Call.{fun_named}
use Rattle.cal_model.specs.Kinding.{Judged, Fine, Broken, Names, Argument, and_so, kind, kinds, arguments_fit, elements_in, type_judged, type_arguments, constant_number, with_counters, with_known, counter, counts, is_word, one_kind}
use Rattle.cal_model.specs.Sound.{IsPlain, IsWrittenOut}
use Rattle.cal_model.proofs.KindValues.{not-fine, split, tested}
use Rattle.cal_check.specs.Written.{number_tree, by_number, constant_written, written, gens_written}

-- a test chooses one of two trees that are written out
if-written : (b : Bool) (t u : Tree) → IsWrittenOut t → IsWrittenOut u → IsWrittenOut (if b then t else u)
if-written true t u p q = p
if-written false t u p q = q

pub number-plain : (z : ℤ) (at : ℕ) → IsWrittenOut (number_tree z at)
number-plain (pos n) at = tt
number-plain (negsuc n) at =
    if-written (is_num (pos (suc n))) (tree.prefix Neg (tree.number (suc n) at) at) (tree.binary Sub (tree.prefix Neg (tree.number n at) at) (tree.number 1 at) at) tt (tt, tt)

pub by-number : (e : Tree) (names : Names) (z : ℤ) → constant_number (kind e names) e names ≡ Fine z → constant_written e names ≡ number_tree z (begins e)
by-number e names z h = ap (λ j. by_number j e) h

constant-plain : (e : Tree) (names : Names) (z : ℤ) → constant_number (kind e names) e names ≡ Fine z → IsWrittenOut (constant_written e names)
constant-plain e names z h = subst (λ t. IsWrittenOut t) (sym (by-number e names z h)) (number-plain z (begins e))

-- the function that a call names, whose arguments are fine
pub fun-called : {A : Type 0} (o : Option Fun) (args : Tree) (at : ℕ) (names : Names) (g : Fun → Bool → Judged A) (a : A)
    → elim o [ None ↦ Broken unknown_name at | Some f ↦ and_so (arguments_fit args f.formals names) (λ b. g f b) ] ≡ Fine a
    → (f : Fun) × (b : Bool) × (o ≡ Some f) × (arguments_fit args f.formals names ≡ Fine b) × (g f b ≡ Fine a)
fun-called None args at names g a h = absurd (not-fine unknown_name at a h)
fun-called (Some f) args at names g a h = let p = split (arguments_fit args f.formals names) (λ b. g f b) a h in (f, p.0, refl, p.1, p.2)

mutual
  pub plain : (e : Tree) (names : Names) (k : Kind) → kind e names ≡ Fine k → IsPlain (written e names)
  plain (tree.number n at) names k h = tt
  plain (tree.truth b at) names k h = tt
  plain (tree.variable name at) names k h = tt
  plain (tree.call name args at) names k h =
      let f = fun-called (fun_named name names.funs) args at names _ k h in
      arguments-plain args f.0.formals names f.1 f.3
  plain (tree.paren e at) names k h = plain e names k h
  plain (tree.if_expr test first other at) names k h =
      let c = split (kind test names) _ k h in
      let t = split (kind first names) _ k c.2 in
      let u = split (kind other names) _ k t.2 in
      (plain test names c.0 c.1, plain first names t.0 t.1, plain other names u.0 u.1)
  plain (tree.list items at) names k h = let ks = split (kinds items names) _ k h in all-plain items names ks.0 ks.1
  plain (tree.comp item gens at) names k h =
      let i = split (kind item (with_counters gens names)) _ k h in
      let n = split (elements_in gens names) _ k i.2 in
      (plain item (with_counters gens names) i.0 i.1, gens-plain gens names n.0 n.1)
  plain (tree.index base place at) names k h =
      let b = split (kind base names) _ k h in
      let p = split (kind place names) _ k b.2 in
      (plain base names b.0 b.1, plain place names p.0 p.1)
  plain (tree.prefix op e at) names k h = let p = split (kind e names) _ k h in plain e names p.0 p.1
  plain (tree.binary op l r at) names k h =
      let p = split (kind l names) _ k h in
      let q = split (kind r names) _ k p.2 in
      (plain l names p.0 p.1, plain r names q.0 q.1)
  plain other names k h = absurd (not-fine wrong_kind 0 k h)

  pub all-plain : (es : Tree) (names : Names) (ks : List Kind) → kinds es names ≡ Fine ks → IsPlain (written es names)
  all-plain tree.nil names ks h = tt
  all-plain (tree.cons e es) names ks h =
      let p = split (kind e names) _ ks h in
      let q = split (kinds es names) _ ks p.2 in
      (plain e names p.0 p.1, all-plain es names q.0 q.1)
  all-plain other names ks h = absurd (not-fine wrong_kind 0 ks h)

  pub arguments-plain : (args : Tree) (fs : List Local) (names : Names) (b : Bool) → arguments_fit args fs names ≡ Fine b → IsPlain (written args names)
  arguments-plain tree.nil fs names b h = tt
  arguments-plain (tree.cons e es) [] names b h =
      let p = split (kind e names) _ b h in
      let q = split (arguments_fit es [] names) _ b p.2 in
      (plain e names p.0 p.1, arguments-plain es [] names q.0 q.1)
  arguments-plain (tree.cons e es) (f ∷ fs) names b h =
      let p = split (kind e names) _ b h in
      let o = split (one_kind (kind_of_type f.shape) p.0 (begins e)) (λ l. arguments_fit es fs names) b p.2 in
      (plain e names p.0 p.1, arguments-plain es fs names b o.2)
  arguments-plain other fs names b h = absurd (not-fine wrong_kind 0 b h)

  pub gens-plain : (gens : Tree) (names : Names) (n : ℕ) → elements_in gens names ≡ Fine n → IsPlain (gens_written gens names)
  gens-plain tree.nil names n h = tt
  gens-plain (tree.cons (tree.gen shape (tree.ident name place) from to at) gens) names n h =
      let t = split (type_judged shape names) _ n h in
      let s = split (counts t.0 (begins shape)) _ n t.2 in
      let a = split (constant_number (kind from names) from names) _ n s.2 in
      let b = split (constant_number (kind to names) to names) _ n a.2 in
      let m = split (elements_in gens (with_known (counter name) names)) _ n b.2 in (
        (type-plain shape names t.0 t.1, constant-plain from names a.0 a.1, constant-plain to names b.0 b.1),
        gens-plain gens (with_known (counter name) names) m.0 m.1,
      )
  gens-plain other names n h = absurd (not-fine wrong_kind 0 n h)

  pub type-plain : (shape : Tree) (names : Names) (t : Shape) → type_judged shape names ≡ Fine t → IsPlain (written shape names)
  type-plain (tree.type_of (tree.ident name place) args at) names t h =
      let w = tested (is_word name) _ _ place t h in
      let g = split (type_arguments args names) _ t w.1 in
      type-arguments-plain args names g.0 g.1
  type-plain other names t h = absurd (not-fine wrong_kind 0 t h)

  pub type-arguments-plain : (args : Tree) (names : Names) (g : List Argument) → type_arguments args names ≡ Fine g → IsPlain (written args names)
  type-arguments-plain tree.nil names g h = tt
  type-arguments-plain (tree.cons (tree.shape_arg (tree.ident name place) shape) args) names g h =
      let t = split (type_judged shape names) _ g h in
      let others = split (type_arguments args names) _ g t.2 in
      (type-plain shape names t.0 t.1, type-arguments-plain args names others.0 others.1)
  type-arguments-plain (tree.cons (tree.value_arg (tree.ident name place) value) args) names g h =
      let z = split (constant_number (kind value names) value names) _ g h in
      let others = split (type_arguments args names) _ g z.2 in
      (constant-plain value names z.0 z.1, type-arguments-plain args names others.0 others.1)
  type-arguments-plain other names g h = absurd (not-fine wrong_kind 0 g h)
