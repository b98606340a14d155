-- Kinds and types over names of which those that a part says mean the same; of what calls no function, or functions that
-- are the same and give the same.
use Rattle.std.proofs.Common.{◌≡◌, ℕ, ◌*◌, true, false, List, [], ◌∷◌, ◌++◌, refl, ap, ◌∙◌, Option, None, Some}
use Rattle.std.specs.Prelude.{if◌then◌else◌}
use Rattle.std.specs.Str.{bytes_eq}
use Rattle.rvc_base.specs.Turns.{max_turns}
use Rattle.rvc_base.specs.Rules.{unknown_name, wrong_number_of_arguments}
use Rattle.cal_ast.specs.Places.{begins}
use Rattle.cal_ast.specs.Tree as tree
use Rattle.cal_ast.specs.Tree.{Tree}
use Rattle.cal_model.specs.Value.{Kind, NumKind, BoolKind, ListKind, Values, kind_of_scalar, kind_of_type}
use Rattle.cal_model.specs.Env.{find}
use Rattle.cal_model.specs.Actor.{Fun, Local}
use Rattle.cal_model.specs.Call.{calls_of, fun_named}
use Rattle.cal_model.specs.Expression.{span}
use Rattle.cal_model.specs.Kinding.{Judged, Fine, Broken, Known, Names, OfShape, OfSize, and_so, arguments_fit, binary_kind, branch_kind, constant, constant_calls, constant_number, constants, counter, counts, elements_in, is_word, item_kind, kind, kinds, known_as, list_kind, list_of_kind, meant_by, number_given, one_kind, prefix_kind, type_arguments, type_judged, type_with, with_counters, with_known}
use Rattle.cal_model.proofs.KindNames.{find-constant}
use Rattle.check_functions.proofs.Bare.{SaysOnly}
use Rattle.check_functions.proofs.SameValues.{eval-same}

pub and-same : {A B : Type 0} (o p : Judged A) (f g : A → Judged B) → o ≡ p → ((a : A) → f a ≡ g a) → and_so o f ≡ and_so p g
and-same {A} {B} o p f g e h = ap (λ j. and_so j f) e ∙ go p
  where
    go : (p : Judged A) → and_so p f ≡ and_so p g
    go (Fine a) = h a
    go (Broken rule at) = refl

pub found-same : (name : List ℕ) (xs ys : List Known) → known_as name xs ≡ known_as name ys → find name (constants xs) ≡ find name (constants ys)
found-same name xs ys h =
    let f = find-constant name xs in
    let g = find-constant name ys in
    cc

abbrev of_call : Option Fun → Tree → ℕ → Names → Judged Kind
of_call o args at names = elim o [
  | None ↦ Broken unknown_name at
  | Some f ↦ and_so (arguments_fit args f.formals names)
      (λ as_many. if as_many then Fine (kind_of_scalar f.result)
      else Broken wrong_number_of_arguments at)
]

call-same : (o : Option Fun) (args : Tree) (at : ℕ) (n m : Names) → ((fs : List Local) → arguments_fit args fs n ≡ arguments_fit args fs m) → of_call o args at n ≡ of_call o args at m
call-same None args at n m h = refl
call-same (Some f) args at n m h =
    ap (λ j. and_so j (λ as_many. if as_many then Fine (kind_of_scalar f.result) else Broken wrong_number_of_arguments at)) (h f.formals)

module _ (P : List ℕ → Type 0) (C : List ℕ → Type 0) where
  -- the names of which P holds mean the same; the functions that may be called are the same and give the same
  pub record MeanSame (n m : Names) : Type 0 where
    pub names : (name : List ℕ) → P name → meant_by name n ≡ meant_by name m
    pub funs : (name : List ℕ) → C name → fun_named name n.funs ≡ fun_named name m.funs
    pub given : (name : List ℕ) → C name → (args : Values) (left : ℕ)
        → calls_of n.funs (constants n.globals) name args left ≡ calls_of m.funs (constants m.globals) name args left

  pub more-same : (x : Known) (n m : Names) → MeanSame n m → MeanSame (with_known x n) (with_known x m)
  more-same x n m s = record {
    names = λ name p. ap (λ o. if bytes_eq x.name name then Some x else o) (s.names name p);
    funs = s.funs;
    given = s.given;
  }

  pub counters-same : (gens : Tree) (n m : Names) → MeanSame n m → MeanSame (with_counters gens n) (with_counters gens m)
  counters-same (tree.cons (tree.gen shape (tree.ident name place) from to at) gens) n m s =
      counters-same gens (with_known (counter name) n) (with_known (counter name) m) (more-same (counter name) n m s)
  counters-same other n m s = s

  -- ---- constants

  pub constant-same : (e : Tree) (n m : Names) → MeanSame n m → SaysOnly P C true e → constant e n ≡ constant e m
  constant-same e n m s r =
      eval-same P C (constant_calls n) (constant_calls m) e (record { globals = constants (n.locals ++ n.globals); locals = [] }) (record { globals = constants (m.locals ++ m.globals); locals = [] }) max_turns
      (record { names = λ name p. found-same name (n.locals ++ n.globals) (m.locals ++ m.globals) (s.names name p); given = s.given }) r

  pub number-same : (e : Tree) (n m : Names) → MeanSame n m → SaysOnly P C true e → kind e n ≡ kind e m → constant_number (kind e n) e n ≡ constant_number (kind e m) e m
  number-same e n m s r k = ap (λ j. constant_number j e n) k ∙ go (kind e m)
    where
      go : (j : Judged Kind) → constant_number j e n ≡ constant_number j e m
      go (Fine NumKind) = ap (λ o. number_given o (begins e)) (constant-same e n m s r)
      go (Fine BoolKind) = refl
      go (Fine (ListKind l k)) = refl
      go (Broken rule at) = refl

  -- ---- kinds

  abbrev kind_meant : Option Known → ℕ → Judged Kind
  kind_meant o at = elim o [ None ↦ Broken unknown_name at | Some x ↦ Fine x.kind ]

  mutual
    pub kind-same : (e : Tree) (n m : Names) → MeanSame n m → SaysOnly P C true e → kind e n ≡ kind e m
    kind-same (tree.number v at) n m s r = refl
    kind-same (tree.truth b at) n m s r = refl
    kind-same (tree.variable name at) n m s r = ap (λ o. kind_meant o at) (s.names name r)
    kind-same (tree.call name args at) n m s r =
        ap (λ o. of_call o args at n) (s.funs name r.0) ∙ call-same (fun_named name m.funs) args at n m (λ fs. fit-same args fs n m s r.1)
    kind-same (tree.paren e at) n m s r = kind-same e n m s r
    kind-same (tree.if_expr test first other at) n m s r =
        and-same (kind test n) (kind test m) _ _ (kind-same test n m s r.0)
        (λ c. and-same (kind first n) (kind first m) _ _ (kind-same first n m s r.1)
        (λ k. ap (λ j. and_so j (λ l. branch_kind c k l at)) (kind-same other n m s r.2)))
    kind-same (tree.list items at) n m s r = ap (λ j. and_so j (λ ks. list_kind ks at)) (kinds-same items n m s r)
    kind-same (tree.comp item gens at) n m s r =
        and-same (kind item (with_counters gens n)) (kind item (with_counters gens m)) _ _ (kind-same item (with_counters gens n) (with_counters gens m) (counters-same gens n m s) r.0)
        (λ k. ap (λ j. and_so j (λ c. list_of_kind c k at)) (elements-same gens n m s r.1))
    kind-same (tree.index base place at) n m s r =
        and-same (kind base n) (kind base m) _ _ (kind-same base n m s r.0) (λ k. ap (λ j. and_so j (λ l. item_kind k l at)) (kind-same place n m s r.1))
    kind-same (tree.prefix op e at) n m s r = ap (λ j. and_so j (λ k. prefix_kind op k at)) (kind-same e n m s r)
    kind-same (tree.binary op l o at) n m s r =
        and-same (kind l n) (kind l m) _ _ (kind-same l n m s r.0) (λ k. ap (λ j. and_so j (λ q. binary_kind op k q at)) (kind-same o n m s r.1))
    kind-same other n m s r = refl

    kinds-same : (es : Tree) (n m : Names) → MeanSame n m → SaysOnly P C true es → kinds es n ≡ kinds es m
    kinds-same tree.nil n m s r = refl
    kinds-same (tree.cons e es) n m s r =
        and-same (kind e n) (kind e m) _ _ (kind-same e n m s r.0) (λ k. ap (λ j. and_so j (λ ks. Fine (k ∷ ks))) (kinds-same es n m s r.1))
    kinds-same other n m s r = refl

    fit-same : (args : Tree) (fs : List Local) (n m : Names) → MeanSame n m → SaysOnly P C true args → arguments_fit args fs n ≡ arguments_fit args fs m
    fit-same tree.nil [] n m s r = refl
    fit-same tree.nil (f ∷ fs) n m s r = refl
    fit-same (tree.cons e es) [] n m s r =
        and-same (kind e n) (kind e m) _ _ (kind-same e n m s r.0) (λ k. ap (λ j. and_so j (λ as_many. Fine false)) (fit-same es [] n m s r.1))
    fit-same (tree.cons e es) (f ∷ fs) n m s r =
        and-same (kind e n) (kind e m) _ _ (kind-same e n m s r.0)
        (λ k. and-same (one_kind (kind_of_type f.shape) k (begins e)) (one_kind (kind_of_type f.shape) k (begins e)) _ _ refl (λ l. fit-same es fs n m s r.1))
    fit-same other fs n m s r = refl

    elements-same : (gens : Tree) (n m : Names) → MeanSame n m → SaysOnly P C true gens → elements_in gens n ≡ elements_in gens m
    elements-same tree.nil n m s r = refl
    elements-same (tree.cons (tree.gen shape (tree.ident name place) from to at) gens) n m s r =
        and-same (type_judged shape n) (type_judged shape m) _ _ (type-same shape n m s r.0.0)
        (λ t. and-same (counts t (begins shape)) (counts t (begins shape)) _ _ refl
        (λ u. and-same (constant_number (kind from n) from n) (constant_number (kind from m) from m) _ _ (number-same from n m s r.0.1 (kind-same from n m s r.0.1))
        (λ x. and-same (constant_number (kind to n) to n) (constant_number (kind to m) to m) _ _ (number-same to n m s r.0.2 (kind-same to n m s r.0.2))
        (λ y. ap (λ j. and_so j (λ c. Fine (span x y * c)))
        (elements-same gens (with_known (counter name) n) (with_known (counter name) m) (more-same (counter name) n m s) r.1)))))
    elements-same other n m s r = refl

    pub type-same : (shape : Tree) (n m : Names) → MeanSame n m → SaysOnly P C true shape → type_judged shape n ≡ type_judged shape m
    type-same (tree.type_of (tree.ident name place) args at) n m s r =
        ap (λ j. if is_word name then and_so j (λ given. type_with name given at) else Broken unknown_name place) (type-arguments-same args n m s r)
    type-same other n m s r = refl

    type-arguments-same : (args : Tree) (n m : Names) → MeanSame n m → SaysOnly P C true args → type_arguments args n ≡ type_arguments args m
    type-arguments-same tree.nil n m s r = refl
    type-arguments-same (tree.cons (tree.shape_arg (tree.ident name place) shape) args) n m s r =
        and-same (type_judged shape n) (type_judged shape m) _ _ (type-same shape n m s r.0)
        (λ t. ap (λ j. and_so j (λ others. Fine (OfShape name t ∷ others))) (type-arguments-same args n m s r.1))
    type-arguments-same (tree.cons (tree.value_arg (tree.ident name place) value) args) n m s r =
        and-same (constant_number (kind value n) value n) (constant_number (kind value m) value m) _ _ (number-same value n m s r.0 (kind-same value n m s r.0))
        (λ z. ap (λ j. and_so j (λ others. Fine (OfSize name z ∷ others))) (type-arguments-same args n m s r.1))
    type-arguments-same other n m s r = refl
