-- What is written out keeps its kind, if what must be constant gives numbers of the language.
use Rattle.std.proofs.Common.{◌≡◌, ℕ, zero, suc, ◌*◌, Bool, true, false, List, [], ◌∷◌, ℤ, pos, negsuc, ◌-ℤ◌, refl, sym, ap, subst, ◌∙◌, arith, Option, None, Some}
use Rattle.std.specs.Prelude.{if◌then◌else◌, neg_ℤ}
use Rattle.std.proofs.lemmas.Int.{ints}
use Rattle.rvc_base.specs.Arithmetic.{Computed, whole}
use Rattle.rvc_base.specs.Arithmetic as arithmetic
use Rattle.rvc_base.specs.declared.trap.Trap.TheVariants.{Overflow}
use Rattle.rvc_base.specs.Width.{IsNum, is_num}
use Rattle.rvc_base.specs.Turns.{max_turns}
use Rattle.rvc_base.specs.Rules.{unknown_name, wrong_kind, wrong_number_of_arguments}
use Rattle.cal_ast.specs.declared.expr.PrefixOp.TheVariants.{Neg}
use Rattle.cal_ast.specs.declared.expr.BinOp.TheVariants.{Sub}
use Rattle.cal_ast.specs.Places.{begins}
use Rattle.cal_ast.specs.Tree as tree
use Rattle.cal_ast.specs.Tree.{Tree}
use Rattle.cal_model.specs.Value.{Kind, NumKind, Shape, Num, kind_of_scalar, kind_of_type}
use Rattle.cal_model.specs.Outcome.{Out, Gives, Traps, Lacks, Clashes, and_then}
use Rattle.cal_model.specs.Env.{Env}
use Rattle.cal_model.specs.Expression.{Calls, computed, prefixed, with_right, eval, span}
use Rattle.cal_model.specs.Actor.{Local, Fun}
use Rattle.cal_model.specs.Call.{fun_named}
use Rattle.cal_model.specs.Kinding.{Judged, Fine, Broken, Known, Names, Argument, OfShape, OfSize, and_so, kind, kinds, arguments_fit, elements_in, type_judged, type_arguments, type_with, constant, constant_number, number_given, with_counters, with_known, counter, is_word, one_kind, counts, list_kind, list_of_kind, item_kind, branch_kind, prefix_kind, binary_kind}
use Rattle.cal_model.proofs.Numbers.{num-is, is-num}
use Rattle.cal_model.proofs.KindValues.{not-fine, fine-is, split, tested}
use Rattle.cal_check.specs.Written.{number_tree, constant_written, written, gens_written}
use Rattle.cal_check.specs.Laws.{ConstantsFit}
use Rattle.cal_check.proofs.PlainTrees.{by-number, fun-called}

-- ---- numbers that are written out give themselves

whole-gives : (z : ℤ) → IsNum z → whole z ≡ arithmetic.Gives z
whole-gives z h = ap (λ b. if b then arithmetic.Gives z else arithmetic.Traps Overflow) (num-is z h)

smaller : (n : ℕ) → IsNum (negsuc n) → IsNum (pos n)
smaller n h = omega (arith, ints)

neg-is-num : (n : ℕ) → IsNum (negsuc n) → IsNum (neg_ℤ (pos n))
neg-is-num zero h = omega (arith, ints)
neg-is-num (suc n) h = omega (arith, ints)

one-is-num : (n : ℕ) → IsNum (negsuc n) → IsNum (pos 1)
one-is-num n h = omega (arith, ints)

one-less : (n : ℕ) → neg_ℤ (pos n) -ℤ pos 1 ≡ negsuc n
one-less zero = refl
one-less (suc n) = omega (arith, ints)

pos-gives : (n at : ℕ) → IsNum (pos n) → (calls : Calls) (env : Env) (left : ℕ) → eval (tree.number n at) calls env left ≡ Gives (Num (pos n)) left
pos-gives n at h calls env left = ap (λ o. computed o left) (whole-gives (pos n) h)

neg-gives : (n at : ℕ) → IsNum (pos (suc n)) → IsNum (negsuc n) → (calls : Calls) (env : Env) (left : ℕ)
    → eval (tree.prefix Neg (tree.number (suc n) at) at) calls env left ≡ Gives (Num (negsuc n)) left
neg-gives n at h k calls env left =
    ap (λ o. and_then (computed o left) (λ v m. prefixed Neg v m)) (whole-gives (pos (suc n)) h)
    ∙ ap (λ o. computed o left) (whole-gives (negsuc n) k)

least-gives : (n at : ℕ) → IsNum (negsuc n) → (calls : Calls) (env : Env) (left : ℕ)
    → eval (tree.binary Sub (tree.prefix Neg (tree.number n at) at) (tree.number 1 at) at) calls env left ≡ Gives (Num (negsuc n)) left
least-gives n at h calls env left =
    let one = whole-gives (pos n) (smaller n h) in
    let two = whole-gives (neg_ℤ (pos n)) (neg-is-num n h) in
    let three = whole-gives (pos 1) (one-is-num n h) in
    let four : whole (neg_ℤ (pos n) -ℤ pos 1) ≡ arithmetic.Gives (negsuc n) = ap whole (one-less n) ∙ whole-gives (negsuc n) h in
    ap (λ o. and_then (and_then (computed o left) (λ v m. prefixed Neg v m)) (λ v m. with_right Sub v (λ k. computed (whole (pos 1)) k) m)) one
    ∙ ap (λ o. and_then (computed o left) (λ v m. with_right Sub v (λ k. computed (whole (pos 1)) k) m)) two
    ∙ ap (λ o. with_right Sub (Num (neg_ℤ (pos n))) (λ k. computed o k) left) three
    ∙ ap (λ o. computed o left) four

-- a tree of numbers and `-` that gives this number wherever it is evaluated
pub record GivesNumber (z : ℤ) (t : Tree) : Type 0 where
  pub is_number : (names : Names) → kind t names ≡ Fine NumKind
  pub gives : (calls : Calls) (env : Env) (left : ℕ) → eval t calls env left ≡ Gives (Num z) left

below-gives : (b : Bool) (n at : ℕ) → is_num (pos (suc n)) ≡ b → IsNum (negsuc n)
    → GivesNumber (negsuc n) (if b then tree.prefix Neg (tree.number (suc n) at) at else tree.binary Sub (tree.prefix Neg (tree.number n at) at) (tree.number 1 at) at)
below-gives true n at e h = record { is_number = λ names. refl; gives = neg-gives n at (is-num (pos (suc n)) e) h }
below-gives false n at e h = record { is_number = λ names. refl; gives = least-gives n at h }

pub number-gives : (z : ℤ) (at : ℕ) → IsNum z → GivesNumber z (number_tree z at)
number-gives (pos n) at h = record { is_number = λ names. refl; gives = pos-gives n at h }
number-gives (negsuc n) at h = below-gives (is_num (pos (suc n))) n at refl h

given-number : (z : ℤ) (t : Tree) (names : Names) → GivesNumber z t → constant_number (kind t names) t names ≡ Fine z
given-number z t names g = ap (λ j. constant_number j t names) (g.is_number names) ∙ ap (λ o. number_given o (begins t)) (g.gives _ _ max_turns)

-- ---- constants

-- what a constant number is evaluated to
pub constant-gives : (j : Judged Kind) (e : Tree) (names : Names) (z : ℤ) → constant_number j e names ≡ Fine z → number_given (constant e names) (begins e) ≡ Fine z
constant-gives (Fine NumKind) e names z h = h
constant-gives (Fine Kind.BoolKind) e names z h = absurd (not-fine wrong_kind (begins e) z h)
constant-gives (Fine (Kind.ListKind n k)) e names z h = absurd (not-fine wrong_kind (begins e) z h)
constant-gives (Broken rule at) e names z h = absurd (not-fine rule at z h)

pub given-is : (o : Out _) (at : ℕ) (z : ℤ) → number_given o at ≡ Fine z → (left : ℕ) × (o ≡ Gives (Num z) left)
given-is (Gives (Num x) left) at z h = (left, ap (λ y. Gives (Num y) left) (fine-is x z h))
given-is (Gives other left) at z h = absurd (not-fine _ at z h)
given-is (Traps c) at z h = absurd (not-fine _ at z h)
given-is Lacks at z h = absurd (not-fine _ at z h)
given-is Clashes at z h = absurd (not-fine _ at z h)

pub is-a-number : (e : Tree) (names : Names) (z : ℤ) → ConstantsFit names → constant_number (kind e names) e names ≡ Fine z → IsNum z
is-a-number e names z fit h =
    let g = given-is (constant e names) (begins e) z (constant-gives (kind e names) e names z h) in
    fit.1 names.locals e z g.0 fit.0 g.1

pub constant-kept : (e : Tree) (names : Names) (z : ℤ) → ConstantsFit names → constant_number (kind e names) e names ≡ Fine z
    → constant_number (kind (constant_written e names) names) (constant_written e names) names ≡ Fine z
constant-kept e names z fit h =
    subst (λ t. constant_number (kind t names) t names ≡ Fine z) (sym (by-number e names z h))
    (given-number z (number_tree z (begins e)) names (number-gives z (begins e) (is-a-number e names z fit h)))

-- ---- places

pub begins-written : (e : Tree) (names : Names) → begins (written e names) ≡ begins e
begins-written (tree.cons t ts) names = begins-written t names
begins-written (tree.present t) names = begins-written t names
begins-written (tree.call name args at) names = refl
begins-written (tree.paren e at) names = refl
begins-written (tree.if_expr test first other at) names = refl
begins-written (tree.list items at) names = refl
begins-written (tree.comp item gens at) names = refl
begins-written (tree.index base place at) names = refl
begins-written (tree.prefix op e at) names = refl
begins-written (tree.binary op l r at) names = refl
begins-written (tree.type_of name args at) names = refl
begins-written (tree.shape_arg name shape) names = refl
begins-written (tree.value_arg name value) names = refl
begins-written other names = refl

-- ---- names inside

pub counters-same : (gens : Tree) (names inner : Names) → with_counters (gens_written gens names) inner ≡ with_counters gens inner
counters-same (tree.cons (tree.gen shape (tree.ident name place) from to at) gens) names inner =
    counters-same gens (with_known (counter name) names) (with_known (counter name) inner)
counters-same other names inner = refl

-- one more name inside, which is no constant
pub fit-more : (x : Known) (names : Names) → x.value ≡ None → ConstantsFit names → ConstantsFit (with_known x names)
fit-more x names e fit = ((e, fit.0), fit.1)

pub fit-inside : (gens : Tree) (names : Names) → ConstantsFit names → ConstantsFit (with_counters gens names)
fit-inside (tree.cons (tree.gen shape (tree.ident name place) from to at) gens) names fit = fit-inside gens (with_known (counter name) names) (fit-more (counter name) names refl fit)
fit-inside other names fit = fit

-- ---- expressions

and-fine : {A B : Type 0} (o : Judged A) (f : A → Judged B) (a : A) (b : B) → o ≡ Fine a → f a ≡ Fine b → and_so o f ≡ Fine b
and-fine o f a b p q = ap (λ j. and_so j f) p ∙ q

-- the kind of a call of this function
abbrev of_call : Option Fun → Tree → ℕ → Names → Judged Kind
of_call o args at names = elim o [
  | None ↦ Broken unknown_name at
  | Some f ↦ and_so (arguments_fit args f.formals names)
      (λ as_many. if as_many then Fine (kind_of_scalar f.result)
      else Broken wrong_number_of_arguments at)
]

call-fine : (o : Option Fun) (f : Fun) (args : Tree) (at : ℕ) (names : Names) (b : Bool) (k : Kind) → o ≡ Some f → arguments_fit args f.formals names ≡ Fine b
    → (if b then Fine (kind_of_scalar f.result) else Broken wrong_number_of_arguments at) ≡ Fine k → of_call o args at names ≡ Fine k
call-fine o f args at names b k e p q = ap (λ o. of_call o args at names) e ∙ and-fine (arguments_fit args f.formals names) _ b k p q

tested-fine : {A : Type 0} (b : Bool) (o p : Judged A) (a : A) → b ≡ true → o ≡ Fine a → (if b then o else p) ≡ Fine a
tested-fine true o p a e h = h
tested-fine false o p a e h = absurd (cc)

mutual
  pub kept : (e : Tree) (names : Names) (k : Kind) → ConstantsFit names → kind e names ≡ Fine k → kind (written e names) names ≡ Fine k
  kept (tree.number n at) names k fit h = h
  kept (tree.truth b at) names k fit h = h
  kept (tree.variable name at) names k fit h = h
  kept (tree.call name args at) names k fit h =
      let f = fun-called (fun_named name names.funs) args at names (λ f as_many. if as_many then Fine (kind_of_scalar f.result) else Broken wrong_number_of_arguments at) k h in
      call-fine (fun_named name names.funs) f.0 (written args names) at names f.1 k f.2 (arguments-kept args f.0.formals names f.1 fit f.3) f.4
  kept (tree.paren e at) names k fit h = kept e names k fit h
  kept (tree.if_expr test first other at) names k fit h =
      let c = split (kind test names) (λ c. and_so (kind first names) (λ k. and_so (kind other names) (λ l. branch_kind c k l at))) k h in
      let t = split (kind first names) (λ k. and_so (kind other names) (λ l. branch_kind c.0 k l at)) k c.2 in
      let u = split (kind other names) (λ l. branch_kind c.0 t.0 l at) k t.2 in
      and-fine (kind (written test names) names) (λ c. and_so (kind (written first names) names) (λ k. and_so (kind (written other names) names) (λ l. branch_kind c k l at))) c.0 k
      (kept test names c.0 fit c.1)
      (and-fine (kind (written first names) names) (λ k. and_so (kind (written other names) names) (λ l. branch_kind c.0 k l at)) t.0 k
      (kept first names t.0 fit t.1)
      (and-fine (kind (written other names) names) (λ l. branch_kind c.0 t.0 l at) u.0 k (kept other names u.0 fit u.1) u.2))
  kept (tree.list items at) names k fit h =
      let ks = split (kinds items names) (λ ks. list_kind ks at) k h in
      and-fine (kinds (written items names) names) (λ ks. list_kind ks at) ks.0 k (all-kept items names ks.0 fit ks.1) ks.2
  kept (tree.comp item gens at) names k fit h =
      let i = split (kind item (with_counters gens names)) (λ k. and_so (elements_in gens names) (λ n. list_of_kind n k at)) k h in
      let n = split (elements_in gens names) (λ n. list_of_kind n i.0 at) k i.2 in
      let item_kept : kind (written item (with_counters gens names)) (with_counters (gens_written gens names) names) ≡ Fine i.0 =
      subst (λ inner. kind (written item (with_counters gens names)) inner ≡ Fine i.0) (sym (counters-same gens names names))
      (kept item (with_counters gens names) i.0 (fit-inside gens names fit) i.1) in
      and-fine (kind (written item (with_counters gens names)) (with_counters (gens_written gens names) names)) (λ k. and_so (elements_in (gens_written gens names) names) (λ n. list_of_kind n k at)) i.0 k
      item_kept
      (and-fine (elements_in (gens_written gens names) names) (λ n. list_of_kind n i.0 at) n.0 k (elements-kept gens names n.0 fit n.1) n.2)
  kept (tree.index base place at) names k fit h =
      let b = split (kind base names) (λ k. and_so (kind place names) (λ l. item_kind k l at)) k h in
      let p = split (kind place names) (λ l. item_kind b.0 l at) k b.2 in
      and-fine (kind (written base names) names) (λ k. and_so (kind (written place names) names) (λ l. item_kind k l at)) b.0 k (kept base names b.0 fit b.1)
      (and-fine (kind (written place names) names) (λ l. item_kind b.0 l at) p.0 k (kept place names p.0 fit p.1) p.2)
  kept (tree.prefix op e at) names k fit h =
      let p = split (kind e names) (λ k. prefix_kind op k at) k h in
      and-fine (kind (written e names) names) (λ k. prefix_kind op k at) p.0 k (kept e names p.0 fit p.1) p.2
  kept (tree.binary op l r at) names k fit h =
      let p = split (kind l names) (λ k. and_so (kind r names) (λ m. binary_kind op k m at)) k h in
      let q = split (kind r names) (λ m. binary_kind op p.0 m at) k p.2 in
      and-fine (kind (written l names) names) (λ k. and_so (kind (written r names) names) (λ m. binary_kind op k m at)) p.0 k (kept l names p.0 fit p.1)
      (and-fine (kind (written r names) names) (λ m. binary_kind op p.0 m at) q.0 k (kept r names q.0 fit q.1) q.2)
  kept other names k fit h = absurd (not-fine wrong_kind 0 k h)

  pub all-kept : (es : Tree) (names : Names) (ks : List Kind) → ConstantsFit names → kinds es names ≡ Fine ks → kinds (written es names) names ≡ Fine ks
  all-kept tree.nil names ks fit h = h
  all-kept (tree.cons e es) names ks fit h =
      let p = split (kind e names) (λ k. and_so (kinds es names) (λ ks. Fine (k ∷ ks))) ks h in
      let q = split (kinds es names) (λ ks. Fine (p.0 ∷ ks)) ks p.2 in
      and-fine (kind (written e names) names) (λ k. and_so (kinds (written es names) names) (λ ks. Fine (k ∷ ks))) p.0 ks (kept e names p.0 fit p.1)
      (and-fine (kinds (written es names) names) (λ ks. Fine (p.0 ∷ ks)) q.0 ks (all-kept es names q.0 fit q.1) q.2)
  all-kept other names ks fit h = absurd (not-fine wrong_kind 0 ks h)

  pub arguments-kept : (args : Tree) (fs : List Local) (names : Names) (b : Bool) → ConstantsFit names → arguments_fit args fs names ≡ Fine b
      → arguments_fit (written args names) fs names ≡ Fine b
  arguments-kept tree.nil [] names b fit h = h
  arguments-kept tree.nil (f ∷ fs) names b fit h = h
  arguments-kept (tree.cons e es) [] names b fit h =
      let p = split (kind e names) (λ k. and_so (arguments_fit es [] names) (λ as_many. Fine false)) b h in
      let q = split (arguments_fit es [] names) (λ as_many. Fine false) b p.2 in
      and-fine (kind (written e names) names) (λ k. and_so (arguments_fit (written es names) [] names) (λ as_many. Fine false)) p.0 b (kept e names p.0 fit p.1)
      (and-fine (arguments_fit (written es names) [] names) (λ as_many. Fine false) q.0 b (arguments-kept es [] names q.0 fit q.1) q.2)
  arguments-kept (tree.cons e es) (f ∷ fs) names b fit h =
      let p = split (kind e names) (λ k. and_so (one_kind (kind_of_type f.shape) k (begins e)) (λ l. arguments_fit es fs names)) b h in
      let o = split (one_kind (kind_of_type f.shape) p.0 (begins e)) (λ l. arguments_fit es fs names) b p.2 in
      let o_kept : one_kind (kind_of_type f.shape) p.0 (begins (written e names)) ≡ Fine o.0 =
      subst (λ at. one_kind (kind_of_type f.shape) p.0 at ≡ Fine o.0) (sym (begins-written e names)) o.1 in
      and-fine (kind (written e names) names) (λ k. and_so (one_kind (kind_of_type f.shape) k (begins (written e names))) (λ l. arguments_fit (written es names) fs names)) p.0 b
      (kept e names p.0 fit p.1)
      (and-fine (one_kind (kind_of_type f.shape) p.0 (begins (written e names))) (λ l. arguments_fit (written es names) fs names) o.0 b o_kept (arguments-kept es fs names b fit o.2))
  arguments-kept other fs names b fit h = absurd (not-fine wrong_kind 0 b h)

  pub elements-kept : (gens : Tree) (names : Names) (n : ℕ) → ConstantsFit names → elements_in gens names ≡ Fine n → elements_in (gens_written gens names) names ≡ Fine n
  elements-kept tree.nil names n fit h = h
  elements-kept (tree.cons (tree.gen shape (tree.ident name place) from to at) gens) names n fit h =
      let t = split (type_judged shape names) _ n h in
      let s = split (counts t.0 (begins shape)) _ n t.2 in
      let a = split (constant_number (kind from names) from names) _ n s.2 in
      let b = split (constant_number (kind to names) to names) _ n a.2 in
      let m = split (elements_in gens (with_known (counter name) names)) (λ n. Fine (span a.0 b.0 * n)) n b.2 in
      let s_kept : counts t.0 (begins (written shape names)) ≡ Fine s.0 = subst (λ at. counts t.0 at ≡ Fine s.0) (sym (begins-written shape names)) s.1 in
      and-fine (type_judged (written shape names) names) _ t.0 n (type-kept shape names t.0 fit t.1)
      (and-fine (counts t.0 (begins (written shape names))) _ s.0 n s_kept
      (and-fine (constant_number (kind (constant_written from names) names) (constant_written from names) names) _ a.0 n (constant-kept from names a.0 fit a.1)
      (and-fine (constant_number (kind (constant_written to names) names) (constant_written to names) names) _ b.0 n (constant-kept to names b.0 fit b.1)
      (and-fine (elements_in (gens_written gens (with_known (counter name) names)) (with_known (counter name) names)) (λ n. Fine (span a.0 b.0 * n)) m.0 n
      (elements-kept gens (with_known (counter name) names) m.0 (fit-more (counter name) names refl fit) m.1) m.2))))
  elements-kept other names n fit h = absurd (not-fine wrong_kind 0 n h)

  pub type-kept : (shape : Tree) (names : Names) (t : Shape) → ConstantsFit names → type_judged shape names ≡ Fine t → type_judged (written shape names) names ≡ Fine t
  type-kept (tree.type_of (tree.ident name place) args at) names t fit h =
      let w = tested (is_word name) (and_so (type_arguments args names) (λ given. type_with name given at)) unknown_name place t h in
      let g = split (type_arguments args names) (λ given. type_with name given at) t w.1 in
      tested-fine (is_word name) (and_so (type_arguments (written args names) names) (λ given. type_with name given at)) (Broken unknown_name place) t w.0
      (and-fine (type_arguments (written args names) names) (λ given. type_with name given at) g.0 t (type-arguments-kept args names g.0 fit g.1) g.2)
  type-kept other names t fit h = absurd (not-fine wrong_kind 0 t h)

  pub type-arguments-kept : (args : Tree) (names : Names) (g : List Argument) → ConstantsFit names → type_arguments args names ≡ Fine g → type_arguments (written args names) names ≡ Fine g
  type-arguments-kept tree.nil names g fit h = h
  type-arguments-kept (tree.cons (tree.shape_arg (tree.ident name place) shape) args) names g fit h =
      let t = split (type_judged shape names) (λ t. and_so (type_arguments args names) (λ others. Fine (OfShape name t ∷ others))) g h in
      let others = split (type_arguments args names) (λ others. Fine (OfShape name t.0 ∷ others)) g t.2 in
      and-fine (type_judged (written shape names) names) (λ t. and_so (type_arguments (written args names) names) (λ others. Fine (OfShape name t ∷ others))) t.0 g (type-kept shape names t.0 fit t.1)
      (and-fine (type_arguments (written args names) names) (λ others. Fine (OfShape name t.0 ∷ others)) others.0 g (type-arguments-kept args names others.0 fit others.1) others.2)
  type-arguments-kept (tree.cons (tree.value_arg (tree.ident name place) value) args) names g fit h =
      let z = split (constant_number (kind value names) value names) (λ z. and_so (type_arguments args names) (λ others. Fine (OfSize name z ∷ others))) g h in
      let others = split (type_arguments args names) (λ others. Fine (OfSize name z.0 ∷ others)) g z.2 in
      and-fine (constant_number (kind (constant_written value names) names) (constant_written value names) names) (λ z. and_so (type_arguments (written args names) names) (λ others. Fine (OfSize name z ∷ others))) z.0 g
      (constant-kept value names z.0 fit z.1)
      (and-fine (type_arguments (written args names) names) (λ others. Fine (OfSize name z.0 ∷ others)) others.0 g (type-arguments-kept args names others.0 fit others.1) others.2)
  type-arguments-kept other names g fit h = absurd (not-fine wrong_kind 0 g h)
