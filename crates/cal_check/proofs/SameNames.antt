-- A plain tree has one kind over all names of the same kinds: it needs no constant of them.
use Rattle.std.proofs.Common.{◌≡◌, ℕ, ◌*◌, Bool, true, false, List, [], ◌∷◌, refl, sym, ap, ◌∙◌, Option, None, Some}
use Rattle.std.specs.Prelude.{if◌then◌else◌}
use Rattle.std.specs.Str.{bytes_eq}
use Rattle.rvc_base.specs.Turns.{max_turns}
use Rattle.rvc_base.specs.Rules.{unknown_name, wrong_number_of_arguments}
use Rattle.cal_ast.specs.declared.expr.PrefixOp.TheVariants.{Neg}
use Rattle.cal_ast.specs.declared.expr.BinOp.TheVariants.{Sub}
use Rattle.cal_ast.specs.Places.{begins}
use Rattle.cal_ast.specs.Tree as tree
use Rattle.cal_ast.specs.Tree.{Tree}
use Rattle.cal_model.specs.Value.{Kind, NumKind, Value, kind_of_scalar, kind_of_type}
use Rattle.cal_model.specs.Outcome.{Out, Gives, Traps, Lacks, Clashes, and_then}
use Rattle.cal_model.specs.Env.{Env}
use Rattle.cal_model.specs.Expression.{Calls, applied, eval, prefixed, span, with_right}
use Rattle.cal_model.specs.Actor.{Local, Fun}
use Rattle.cal_model.specs.Call.{fun_named}
use Rattle.cal_model.specs.Kinding.{Judged, Fine, Broken, Known, Names, OfShape, OfSize, and_so, kind, kinds, arguments_fit, elements_in, type_judged, type_arguments, type_with, constant_number, number_given, meant_by, with_counters, with_known, counter, is_word, one_kind, counts, list_kind, list_of_kind, item_kind, branch_kind, prefix_kind, binary_kind}
use Rattle.cal_model.specs.Sound.{IsPlain, IsWrittenOut}
use Rattle.cal_check.specs.Laws.{AreAlike, IsFunLike, IsKnownLike}
use Rattle.cal_check.specs.Uses.{OnlyUses}

-- ---- judgements

pub and-same : {A B : Type 0} (o p : Judged A) (f g : A → Judged B) → o ≡ p → ((a : A) → f a ≡ g a) → and_so o f ≡ and_so p g
and-same {A} {B} o p f g e h = ap (λ j. and_so j f) e ∙ go p
  where
    go : (p : Judged A) → and_so p f ≡ and_so p g
    go (Fine a) = h a
    go (Broken rule at) = refl

-- ---- numbers that are written out

-- they are numbers, and give the same wherever they are evaluated
number-kind : (e : Tree) (names : Names) → IsWrittenOut e → kind e names ≡ Fine NumKind
number-kind (tree.number n at) names h = refl
number-kind (tree.paren e at) names h = number-kind e names h
number-kind (tree.prefix Neg e at) names h = ap (λ j. and_so j (λ k. prefix_kind Neg k at)) (number-kind e names h)
number-kind (tree.binary Sub l r at) names h =
    ap (λ j. and_so j (λ k. and_so (kind r names) (λ m. binary_kind Sub k m at))) (number-kind l names h.0)
    ∙ ap (λ j. and_so j (λ m. binary_kind Sub NumKind m at)) (number-kind r names h.1)
number-kind other names h = absurd h

right-same : (o : Out Value) (f g : ℕ → Out Value) → ((k : ℕ) → f k ≡ g k) → and_then o (λ v m. with_right Sub v f m) ≡ and_then o (λ v m. with_right Sub v g m)
right-same (Gives v m) f g h = ap (λ o. and_then o (λ w k. applied Sub v w k)) (h m)
right-same (Traps c) f g h = refl
right-same Lacks f g h = refl
right-same Clashes f g h = refl

number-value : (e : Tree) (calls others : Calls) (env more : Env) (left : ℕ) → IsWrittenOut e → eval e calls env left ≡ eval e others more left
number-value (tree.number n at) calls others env more left h = refl
number-value (tree.paren e at) calls others env more left h = number-value e calls others env more left h
number-value (tree.prefix Neg e at) calls others env more left h = ap (λ o. and_then o (λ v m. prefixed Neg v m)) (number-value e calls others env more left h)
number-value (tree.binary Sub l r at) calls others env more left h =
    ap (λ o. and_then o (λ v m. with_right Sub v (λ k. eval r calls env k) m)) (number-value l calls others env more left h.0)
    ∙ right-same (eval l others more left) (λ k. eval r calls env k) (λ k. eval r others more k) (λ k. number-value r calls others env more k h.1)
number-value other calls others env more left h = absurd h

number-same : (e : Tree) (n m : Names) → IsWrittenOut e → constant_number (kind e n) e n ≡ constant_number (kind e m) e m
number-same e n m h =
    ap (λ j. constant_number j e n) (number-kind e n h)
    ∙ ap (λ o. number_given o (begins e)) (number-value e _ _ _ _ max_turns h)
    ∙ sym (ap (λ j. constant_number j e m) (number-kind e m h))

-- ---- names

if-like : (b : Bool) (x : Known) (o p : Option Known) → IsKnownLike o p → IsKnownLike (if b then Some x else o) (if b then Some x else p)
if-like true x o p h = (refl, refl)
if-like false x o p h = h

module _ (P : List ℕ → Type 0) where
  -- one more name inside both
  pub more-alike : (x : Known) (n m : Names) → AreAlike P n m → AreAlike P (with_known x n) (with_known x m)
  more-alike x n m h = record {
    known = λ name u. if-like (bytes_eq x.name name) x (meant_by name n) (meant_by name m) (h.known name u);
    funs = h.funs;
  }

  counters-alike : (gens : Tree) (n m : Names) → AreAlike P n m → AreAlike P (with_counters gens n) (with_counters gens m)
  counters-alike (tree.cons (tree.gen shape (tree.ident name place) from to at) gens) n m h =
      counters-alike gens (with_known (counter name) n) (with_known (counter name) m) (more-alike (counter name) n m h)
  counters-alike other n m h = h

  -- the kind of a name
  abbrev kind_meant : Option Known → ℕ → Judged Kind
  kind_meant o at = elim o [ None ↦ Broken unknown_name at | Some x ↦ Fine x.kind ]

  meant-same : (o p : Option Known) (at : ℕ) → IsKnownLike o p → kind_meant o at ≡ kind_meant p at
  meant-same None None at h = refl
  meant-same None (Some y) at h = absurd h
  meant-same (Some x) None at h = absurd h
  meant-same (Some x) (Some y) at h = ap Fine h.0

  -- ---- calls

  abbrev of_call : Option Fun → Tree → ℕ → Names → Judged Kind
  of_call o args at names = elim o [
    | None ↦ Broken unknown_name at
    | Some f ↦ and_so (arguments_fit args f.formals names)
        (λ as_many. if as_many then Fine (kind_of_scalar f.result)
        else Broken wrong_number_of_arguments at)
  ]

  call-same : (o p : Option Fun) (args : Tree) (at : ℕ) (n m : Names) → IsFunLike o p → ((fs : List Local) → arguments_fit args fs n ≡ arguments_fit args fs m)
      → of_call o args at n ≡ of_call p args at m
  call-same None None args at n m h i = refl
  call-same None (Some g) args at n m h i = absurd h
  call-same (Some f) None args at n m h i = absurd h
  call-same (Some f) (Some g) args at n m h i =
      and-same (arguments_fit args f.formals n) (arguments_fit args g.formals m)
      (λ b. if b then Fine (kind_of_scalar f.result) else Broken wrong_number_of_arguments at) (λ b. if b then Fine (kind_of_scalar g.result) else Broken wrong_number_of_arguments at)
      (i f.formals ∙ ap (λ fs. arguments_fit args fs m) h.0)
      (λ b. ap (λ t. if b then Fine (kind_of_scalar t) else Broken wrong_number_of_arguments at) h.1)

  -- ---- expressions

  tested-same : {A : Type 0} (b : Bool) (o p q : Judged A) → o ≡ p → (if b then o else q) ≡ (if b then p else q)
  tested-same b o p q h = ap (λ j. if b then j else q) h

  mutual
    pub same : (e : Tree) (n m : Names) → AreAlike P n m → IsPlain e → OnlyUses P e → kind e n ≡ kind e m
    same (tree.number v at) n m h p u = refl
    same (tree.truth b at) n m h p u = refl
    same (tree.variable name at) n m h p u = meant-same (meant_by name n) (meant_by name m) at (h.known name u)
    same (tree.call name args at) n m h p u =
        call-same (fun_named name n.funs) (fun_named name m.funs) args at n m (h.funs name u.0) (λ fs. arguments-same args fs n m h p u.1)
    same (tree.paren e at) n m h p u = same e n m h p u
    same (tree.if_expr test first other at) n m h p u =
        and-same (kind test n) (kind test m) _ _ (same test n m h p.0 u.0)
        (λ c. and-same (kind first n) (kind first m) _ _ (same first n m h p.1 u.1)
        (λ k. and-same (kind other n) (kind other m) (λ l. branch_kind c k l at) (λ l. branch_kind c k l at) (same other n m h p.2 u.2) (λ l. refl)))
    same (tree.list items at) n m h p u = ap (λ j. and_so j (λ ks. list_kind ks at)) (all-same items n m h p u)
    same (tree.comp item gens at) n m h p u =
        and-same (kind item (with_counters gens n)) (kind item (with_counters gens m)) _ _ (same item (with_counters gens n) (with_counters gens m) (counters-alike gens n m h) p.0 u.0)
        (λ k. ap (λ j. and_so j (λ c. list_of_kind c k at)) (elements-same gens n m h p.1 u.1))
    same (tree.index base place at) n m h p u =
        and-same (kind base n) (kind base m) _ _ (same base n m h p.0 u.0) (λ k. ap (λ j. and_so j (λ l. item_kind k l at)) (same place n m h p.1 u.1))
    same (tree.prefix op e at) n m h p u = ap (λ j. and_so j (λ k. prefix_kind op k at)) (same e n m h p u)
    same (tree.binary op l r at) n m h p u =
        and-same (kind l n) (kind l m) _ _ (same l n m h p.0 u.0) (λ k. ap (λ j. and_so j (λ q. binary_kind op k q at)) (same r n m h p.1 u.1))
    same other n m h p u = refl

    pub all-same : (es : Tree) (n m : Names) → AreAlike P n m → IsPlain es → OnlyUses P es → kinds es n ≡ kinds es m
    all-same tree.nil n m h p u = refl
    all-same (tree.cons e es) n m h p u =
        and-same (kind e n) (kind e m) _ _ (same e n m h p.0 u.0) (λ k. ap (λ j. and_so j (λ ks. Fine (k ∷ ks))) (all-same es n m h p.1 u.1))
    all-same other n m h p u = refl

    pub arguments-same : (args : Tree) (fs : List Local) (n m : Names) → AreAlike P n m → IsPlain args → OnlyUses P args → arguments_fit args fs n ≡ arguments_fit args fs m
    arguments-same tree.nil [] n m h p u = refl
    arguments-same tree.nil (f ∷ fs) n m h p u = refl
    arguments-same (tree.cons e es) [] n m h p u =
        and-same (kind e n) (kind e m) _ _ (same e n m h p.0 u.0) (λ k. ap (λ j. and_so j (λ as_many. Fine false)) (arguments-same es [] n m h p.1 u.1))
    arguments-same (tree.cons e es) (f ∷ fs) n m h p u =
        and-same (kind e n) (kind e m) _ _ (same e n m h p.0 u.0)
        (λ k. and-same (one_kind (kind_of_type f.shape) k (begins e)) (one_kind (kind_of_type f.shape) k (begins e)) _ _ refl (λ l. arguments-same es fs n m h p.1 u.1))
    arguments-same other fs n m h p u = refl

    pub elements-same : (gens : Tree) (n m : Names) → AreAlike P n m → IsPlain gens → OnlyUses P gens → elements_in gens n ≡ elements_in gens m
    elements-same tree.nil n m h p u = refl
    elements-same (tree.cons (tree.gen shape (tree.ident name place) from to at) gens) n m h p u =
        and-same (type_judged shape n) (type_judged shape m) _ _ (type-same shape n m h p.0.0 u.0.0)
        (λ t. and-same (counts t (begins shape)) (counts t (begins shape)) _ _ refl
        (λ s. and-same (constant_number (kind from n) from n) (constant_number (kind from m) from m) _ _ (number-same from n m p.0.1)
        (λ a. and-same (constant_number (kind to n) to n) (constant_number (kind to m) to m) _ _ (number-same to n m p.0.2)
        (λ b. ap (λ j. and_so j (λ c. Fine (span a b * c))) (elements-same gens (with_known (counter name) n) (with_known (counter name) m) (more-alike (counter name) n m h) p.1 u.1)))))
    elements-same other n m h p u = refl

    pub type-same : (shape : Tree) (n m : Names) → AreAlike P n m → IsPlain shape → OnlyUses P shape → type_judged shape n ≡ type_judged shape m
    type-same (tree.type_of (tree.ident name place) args at) n m h p u =
        ap (λ j. if is_word name then and_so j (λ given. type_with name given at) else Broken unknown_name place) (type-arguments-same args n m h p u)
    type-same other n m h p u = refl

    pub type-arguments-same : (args : Tree) (n m : Names) → AreAlike P n m → IsPlain args → OnlyUses P args → type_arguments args n ≡ type_arguments args m
    type-arguments-same tree.nil n m h p u = refl
    type-arguments-same (tree.cons (tree.shape_arg (tree.ident name place) shape) args) n m h p u =
        and-same (type_judged shape n) (type_judged shape m) _ _ (type-same shape n m h p.0 u.0)
        (λ t. ap (λ j. and_so j (λ others. Fine (OfShape name t ∷ others))) (type-arguments-same args n m h p.1 u.1))
    type-arguments-same (tree.cons (tree.value_arg (tree.ident name place) value) args) n m h p u =
        and-same (constant_number (kind value n) value n) (constant_number (kind value m) value m) _ _ (number-same value n m p.0)
        (λ z. ap (λ j. and_so j (λ others. Fine (OfSize name z ∷ others))) (type-arguments-same args n m h p.1 u.1))
    type-arguments-same other n m h p u = refl
