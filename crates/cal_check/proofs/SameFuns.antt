-- Kinds, what is written out, and functions, over functions of which those that are called are the same.
use Rattle.std.proofs.Common.{◌≡◌, ℕ, ◌*◌, Bool, true, false, List, [], ◌∷◌, ◌++◌, refl, sym, ap, ◌∙◌, Option, None, Some}
use Rattle.std.specs.Prelude.{if◌then◌else◌}
use Rattle.rvc_base.specs.Turns.{max_turns}
use Rattle.rvc_base.specs.Rules.{unknown_name, wrong_number_of_arguments}
use Rattle.cal_ast.specs.Places.{begins}
use Rattle.cal_ast.specs.declared.expr.PrefixOp.TheVariants.{Not}
use Rattle.cal_ast.specs.Tree as tree
use Rattle.cal_ast.specs.Tree.{Tree}
use Rattle.cal_model.specs.Value.{Kind, NumKind, BoolKind, ListKind, Shape, kind_of_scalar, kind_of_type}
use Rattle.cal_model.specs.Env.{Var}
use Rattle.cal_model.specs.Expression.{span}
use Rattle.cal_model.specs.Actor.{Fun, Local}
use Rattle.cal_model.specs.Call.{calls_of, fun_named}
use Rattle.cal_model.specs.Kinding.{Judged, Fine, Broken, Known, Names, OfShape, OfSize, and_so, arguments_fit, binary_kind, branch_kind, constant, constant_calls, constant_number, constants, counter, counts, elements_in, is_word, item_kind, kind, kinds, list_kind, list_of_kind, number_given, one_kind, prefix_kind, type_arguments, type_judged, type_with, with_counters, with_known}
use Rattle.cal_model.specs.Sound.{EachCall, kind_of_judged, known_local, with_locals}
use Rattle.cal_check.specs.Formed.{AreDeclared, FormalCalls, FormalsCall}
use Rattle.cal_check.specs.Routines.{Head, formal_judged, formal_of, formals_judged, first_met, fun_if, fun_judged, fun_of, head_judged, local_if, locals_before, locals_of, met_if, result_judged, shape_of, single, single_type, start_of, useless_fun}
use Rattle.cal_check.specs.Statements.{behind, names_behind}
use Rattle.cal_check.specs.Written.{behind_vars, by_number, constant_written, gens_written, with_inner, written}
use Rattle.cal_check.proofs.SameCalls.{CallsSame, eval-same}
use Rattle.cal_check.proofs.SameNames.{and-same}

-- the same names with these functions
abbrev pub on : List Fun → Names → Names
on fs names = record names { funs = fs }

-- the functions of these names are the same, and give the same
pub record FunsSame (P : List ℕ → Type 0) (a b : List Fun) : Type 0 where
  pub named : (name : List ℕ) → P name → fun_named name a ≡ fun_named name b
  pub given : (globals : List Var) → CallsSame P (calls_of a) (calls_of b) globals

counters-on : (gens : Tree) (a : List Fun) (names : Names) → with_counters gens (on a names) ≡ on a (with_counters gens names)
counters-on (tree.cons (tree.gen shape (tree.ident name place) from to at) gens) a names = counters-on gens a (with_known (counter name) names)
counters-on other a names = refl

abbrev of_call : Option Fun → Tree → ℕ → Names → Judged Kind
of_call o args at names = elim o [
  | None ↦ Broken unknown_name at
  | Some f ↦ and_so (arguments_fit args f.formals names)
      (λ as_many. if as_many then Fine (kind_of_scalar f.result)
      else Broken wrong_number_of_arguments at)
]

module _ (P Q : List ℕ → Type 0) (a b : List Fun) (f : FunsSame P a b) where
  constant-same : (e : Tree) (n : Names) → EachCall P Q e → constant e (on a n) ≡ constant e (on b n)
  constant-same e n r =
      eval-same P Q (constant_calls (on a n)) (constant_calls (on b n)) e (record { globals = constants (n.locals ++ n.globals); locals = [] }) max_turns
      (λ name p args left. f.given (constants n.globals) name p args left) r

  number-same : (e : Tree) (n : Names) → kind e (on a n) ≡ kind e (on b n) → EachCall P Q e → constant_number (kind e (on a n)) e (on a n) ≡ constant_number (kind e (on b n)) e (on b n)
  number-same e n k r = ap (λ j. constant_number j e (on a n)) k ∙ go (kind e (on b n))
    where
      go : (j : Judged Kind) → constant_number j e (on a n) ≡ constant_number j e (on b n)
      go (Fine NumKind) = ap (λ o. number_given o (begins e)) (constant-same e n r)
      go (Fine BoolKind) = refl
      go (Fine (ListKind m k)) = refl
      go (Broken rule at) = refl

  call-same : (o : Option Fun) (args : Tree) (at : ℕ) (n : Names) → ((fs : List Local) → arguments_fit args fs (on a n) ≡ arguments_fit args fs (on b n))
      → of_call o args at (on a n) ≡ of_call o args at (on b n)
  call-same None args at n h = refl
  call-same (Some g) args at n h =
      ap (λ j. and_so j (λ as_many. if as_many then Fine (kind_of_scalar g.result) else Broken wrong_number_of_arguments at)) (h g.formals)

  inside : (item gens : Tree) (n : Names) → kind item (on a (with_counters gens n)) ≡ kind item (on b (with_counters gens n)) → kind item (with_counters gens (on a n)) ≡ kind item (with_counters gens (on b n))
  inside item gens n h = ap (λ m. kind item m) (counters-on gens a n) ∙ h ∙ sym (ap (λ m. kind item m) (counters-on gens b n))

  mutual
    pub kind-same : (e : Tree) (n : Names) → EachCall P Q e → kind e (on a n) ≡ kind e (on b n)
    kind-same (tree.number v at) n r = refl
    kind-same (tree.truth v at) n r = refl
    kind-same (tree.variable name at) n r = refl
    kind-same (tree.call name args at) n r =
        ap (λ o. of_call o args at (on a n)) (f.named name r.0) ∙ call-same (fun_named name b) args at n (λ fs. arguments-same args fs n r.1)
    kind-same (tree.paren e at) n r = kind-same e n r
    kind-same (tree.if_expr test first other at) n r =
        and-same (kind test (on a n)) (kind test (on b n)) _ _ (kind-same test n r.0)
        (λ c. and-same (kind first (on a n)) (kind first (on b n)) _ _ (kind-same first n r.1)
        (λ k. ap (λ j. and_so j (λ l. branch_kind c k l at)) (kind-same other n r.2)))
    kind-same (tree.list items at) n r = ap (λ j. and_so j (λ ks. list_kind ks at)) (kinds-same items n r)
    kind-same (tree.comp item gens at) n r =
        and-same (kind item (with_counters gens (on a n))) (kind item (with_counters gens (on b n))) _ _ (inside item gens n (kind-same item (with_counters gens n) r.0))
        (λ k. ap (λ j. and_so j (λ c. list_of_kind c k at)) (elements-same gens n r.1))
    kind-same (tree.index base place at) n r =
        and-same (kind base (on a n)) (kind base (on b n)) _ _ (kind-same base n r.0) (λ k. ap (λ j. and_so j (λ l. item_kind k l at)) (kind-same place n r.1))
    kind-same (tree.prefix op e at) n r = ap (λ j. and_so j (λ k. prefix_kind op k at)) (kind-same e n r)
    kind-same (tree.binary op l o at) n r =
        and-same (kind l (on a n)) (kind l (on b n)) _ _ (kind-same l n r.0) (λ k. ap (λ j. and_so j (λ q. binary_kind op k q at)) (kind-same o n r.1))
    kind-same other n r = refl

    pub kinds-same : (es : Tree) (n : Names) → EachCall P Q es → kinds es (on a n) ≡ kinds es (on b n)
    kinds-same tree.nil n r = refl
    kinds-same (tree.cons e es) n r =
        and-same (kind e (on a n)) (kind e (on b n)) _ _ (kind-same e n r.0) (λ k. ap (λ j. and_so j (λ ks. Fine (k ∷ ks))) (kinds-same es n r.1))
    kinds-same other n r = refl

    arguments-same : (args : Tree) (fs : List Local) (n : Names) → EachCall P Q args → arguments_fit args fs (on a n) ≡ arguments_fit args fs (on b n)
    arguments-same tree.nil [] n r = refl
    arguments-same tree.nil (x ∷ fs) n r = refl
    arguments-same (tree.cons e es) [] n r =
        and-same (kind e (on a n)) (kind e (on b n)) _ _ (kind-same e n r.0) (λ k. ap (λ j. and_so j (λ as_many. Fine false)) (arguments-same es [] n r.1))
    arguments-same (tree.cons e es) (x ∷ fs) n r =
        and-same (kind e (on a n)) (kind e (on b n)) _ _ (kind-same e n r.0)
        (λ k. and-same (one_kind (kind_of_type x.shape) k (begins e)) (one_kind (kind_of_type x.shape) k (begins e)) _ _ refl (λ l. arguments-same es fs n r.1))
    arguments-same other fs n r = refl

    elements-same : (gens : Tree) (n : Names) → EachCall P Q gens → elements_in gens (on a n) ≡ elements_in gens (on b n)
    elements-same tree.nil n r = refl
    elements-same (tree.cons (tree.gen shape (tree.ident name place) from to at) gens) n r =
        and-same (type_judged shape (on a n)) (type_judged shape (on b n)) _ _ (type-same shape n r.0.0)
        (λ t. and-same (counts t (begins shape)) (counts t (begins shape)) _ _ refl
        (λ s. and-same (constant_number (kind from (on a n)) from (on a n)) (constant_number (kind from (on b n)) from (on b n)) _ _ (number-same from n (kind-same from n r.0.1) r.0.1)
        (λ x. and-same (constant_number (kind to (on a n)) to (on a n)) (constant_number (kind to (on b n)) to (on b n)) _ _ (number-same to n (kind-same to n r.0.2) r.0.2)
        (λ y. ap (λ j. and_so j (λ c. Fine (span x y * c))) (elements-same gens (with_known (counter name) n) r.1)))))
    elements-same other n r = refl

    pub type-same : (shape : Tree) (n : Names) → EachCall P Q shape → type_judged shape (on a n) ≡ type_judged shape (on b n)
    type-same (tree.type_of (tree.ident name place) args at) n r =
        ap (λ j. if is_word name then and_so j (λ given. type_with name given at) else Broken unknown_name place) (type-arguments-same args n r)
    type-same other n r = refl

    type-arguments-same : (args : Tree) (n : Names) → EachCall P Q args → type_arguments args (on a n) ≡ type_arguments args (on b n)
    type-arguments-same tree.nil n r = refl
    type-arguments-same (tree.cons (tree.shape_arg (tree.ident name place) shape) args) n r =
        and-same (type_judged shape (on a n)) (type_judged shape (on b n)) _ _ (type-same shape n r.0)
        (λ t. ap (λ j. and_so j (λ others. Fine (OfShape name t ∷ others))) (type-arguments-same args n r.1))
    type-arguments-same (tree.cons (tree.value_arg (tree.ident name place) value) args) n r =
        and-same (constant_number (kind value (on a n)) value (on a n)) (constant_number (kind value (on b n)) value (on b n)) _ _ (number-same value n (kind-same value n r.0) r.0)
        (λ z. ap (λ j. and_so j (λ others. Fine (OfSize name z ∷ others))) (type-arguments-same args n r.1))
    type-arguments-same other n r = refl

  -- ---- what is written out

  constant-written-same : (e : Tree) (n : Names) → EachCall P Q e → constant_written e (on a n) ≡ constant_written e (on b n)
  constant-written-same e n r = ap (λ j. by_number j e) (number-same e n (kind-same e n r) r)

  mutual
    pub written-same : (e : Tree) (n : Names) → EachCall P Q e → written e (on a n) ≡ written e (on b n)
    written-same (tree.cons t ts) n r = ap (λ x. tree.cons x (written ts (on a n))) (written-same t n r.0) ∙ ap (λ x. tree.cons (written t (on b n)) x) (written-same ts n r.1)
    written-same (tree.present t) n r = ap tree.present (written-same t n r)
    written-same (tree.call name args at) n r = ap (λ x. tree.call name x at) (written-same args n r.1)
    written-same (tree.paren e at) n r = ap (λ x. tree.paren x at) (written-same e n r)
    written-same (tree.if_expr test first other at) n r =
        ap (λ x. tree.if_expr x (written first (on a n)) (written other (on a n)) at) (written-same test n r.0)
        ∙ ap (λ x. tree.if_expr (written test (on b n)) x (written other (on a n)) at) (written-same first n r.1)
        ∙ ap (λ x. tree.if_expr (written test (on b n)) (written first (on b n)) x at) (written-same other n r.2)
    written-same (tree.list items at) n r = ap (λ x. tree.list x at) (written-same items n r)
    written-same (tree.comp item gens at) n r =
        ap (λ x. tree.comp x (gens_written gens (on a n)) at)
        (ap (λ m. written item m) (counters-on gens a n) ∙ written-same item (with_counters gens n) r.0 ∙ sym (ap (λ m. written item m) (counters-on gens b n)))
        ∙ ap (λ x. tree.comp (written item (with_counters gens (on b n))) x at) (gens-same gens n r.1)
    written-same (tree.index base place at) n r =
        ap (λ x. tree.index x (written place (on a n)) at) (written-same base n r.0) ∙ ap (λ x. tree.index (written base (on b n)) x at) (written-same place n r.1)
    written-same (tree.prefix op e at) n r = ap (λ x. tree.prefix op x at) (written-same e n r)
    written-same (tree.binary op l o at) n r =
        ap (λ x. tree.binary op x (written o (on a n)) at) (written-same l n r.0) ∙ ap (λ x. tree.binary op (written l (on b n)) x at) (written-same o n r.1)
    written-same (tree.type_of name args at) n r = ap (λ x. tree.type_of name x at) (written-same args n r)
    written-same (tree.shape_arg name shape) n r = ap (λ x. tree.shape_arg name x) (written-same shape n r)
    written-same (tree.value_arg name value) n r = ap (λ x. tree.value_arg name x) (constant-written-same value n r)
    written-same other n r = refl

    gens-same : (gens : Tree) (n : Names) → EachCall P Q gens → gens_written gens (on a n) ≡ gens_written gens (on b n)
    gens-same (tree.cons (tree.gen shape (tree.ident name place) from to at) gens) n r =
        ap (λ x. tree.cons (tree.gen x (tree.ident name place) (constant_written from (on a n)) (constant_written to (on a n)) at) (gens_written gens (on a (with_known (counter name) n)))) (written-same shape n r.0.0)
        ∙ ap (λ x. tree.cons (tree.gen (written shape (on b n)) (tree.ident name place) x (constant_written to (on a n)) at) (gens_written gens (on a (with_known (counter name) n)))) (constant-written-same from n r.0.1)
        ∙ ap (λ x. tree.cons (tree.gen (written shape (on b n)) (tree.ident name place) (constant_written from (on b n)) x at) (gens_written gens (on a (with_known (counter name) n)))) (constant-written-same to n r.0.2)
        ∙ ap (λ x. tree.cons (tree.gen (written shape (on b n)) (tree.ident name place) (constant_written from (on b n)) (constant_written to (on b n)) at) x) (gens-same gens (with_known (counter name) n) r.1)
    gens-same other n r = refl

  -- ---- formals and locals

  single-same : (shape : Tree) (n : Names) → EachCall P Q shape → single_type shape (on a n) ≡ single_type shape (on b n)
  single-same shape n r = ap (λ j. single j (begins shape)) (type-same shape n r)

  formal-same : (x : Tree) (n : Names) → FormalCalls P Q x → formal_judged x (on a n) ≡ formal_judged x (on b n)
  formal-same (tree.port shape (tree.ident name place) at) n r = ap (λ j. and_so j (λ t. Fine (formal_of name t))) (single-same shape n r)
  formal-same other n r = refl

  formals-same : (fs : Tree) (n : Names) → FormalsCall P Q fs → formals_judged fs (on a n) ≡ formals_judged fs (on b n)
  formals-same tree.nil n r = refl
  formals-same (tree.cons x xs) n r =
      and-same (formal_judged x (on a n)) (formal_judged x (on b n)) _ _ (formal-same x n r.0)
      (λ l. ap (λ j. and_so j (λ ls. Fine (l ∷ ls))) (formals-same xs (with_known (known_local l) n) r.1))
  formals-same other n r = refl

  abbrev is_fine : {A : Type 0} → Judged A → Bool
  is_fine (Fine x) = true
  is_fine (Broken rule at) = false

  -- variables, and the names behind them but for the functions
  record VarsSame (vars : Tree) (n : Names) : Type 0 where
    inner : Names
    behind_a : behind_vars vars (on a n) ≡ on a inner
    behind_b : behind_vars vars (on b n) ≡ on b inner
    locals : locals_of vars (on a n) ≡ locals_of vars (on b n)
    before : locals_before vars (on a n) ≡ locals_before vars (on b n)
    met : first_met vars (on a n) ≡ first_met vars (on b n)
    fine : is_fine (names_behind vars (on a n)) ≡ is_fine (names_behind vars (on b n))

  start-same : (start : Tree) (n : Names) → EachCall P Q start → start_of start (on a n) ≡ start_of start (on b n)
  start-same (tree.present e) n r = ap Some (written-same e n r)
  start-same other n r = refl

  abbrev known_by : List ℕ → Bool → Judged Shape → Known
  known_by name changes j = record { name = name; kind = kind_of_judged j; value = None; changes = changes }

  vars-same : (vars : Tree) (n : Names) → AreDeclared vars → EachCall P Q vars → VarsSame vars n
  vars-same tree.nil n d r = record { inner = n; behind_a = refl; behind_b = refl; locals = refl; before = refl; met = refl; fine = refl }
  vars-same (tree.cons (tree.var shape (tree.ident name place) start changes at) vs) n d r =
      let j : Judged Shape = type_judged shape (on a n) in
      let k : Judged Shape = type_judged shape (on b n) in
      let e : j ≡ k = type-same shape n r.0.0 in
      let next : Names = with_known (known_by name changes j) n in
      let rest = vars-same vs next d.1 r.1 in
      let there : on b (with_known (known_by name changes k) n) ≡ on b next = ap (λ i. on b (with_known (known_by name changes i) n)) (sym e) in
      record {
        inner = rest.inner;
        behind_a = rest.behind_a;
        behind_b = ap (λ m. behind_vars vs m) there ∙ rest.behind_b;
        locals = ap (λ i. record { name = name; shape = shape_of i; start = start_of start (on a n); changes = changes } ∷ locals_of vs (on a next)) e
            ∙ ap (λ o. record { name = name; shape = shape_of k; start = o; changes = changes } ∷ locals_of vs (on a next)) (start-same start n r.0.1)
            ∙ ap (λ ls. record { name = name; shape = shape_of k; start = start_of start (on b n); changes = changes } ∷ ls) (rest.locals ∙ ap (λ m. locals_of vs m) (sym there));
        before = ap (λ i. local_if i (record { name = name; shape = shape_of i; start = start_of start (on a n); changes = changes }) (locals_before vs (on a next))) e
            ∙ ap (λ o. local_if k (record { name = name; shape = shape_of k; start = o; changes = changes }) (locals_before vs (on a next))) (start-same start n r.0.1)
            ∙ ap (λ ls. local_if k (record { name = name; shape = shape_of k; start = start_of start (on b n); changes = changes }) ls) (rest.before ∙ ap (λ m. locals_before vs m) (sym there));
        met = ap (λ i. met_if i (tree.var shape (tree.ident name place) start changes at) (first_met vs (on a next))) e
            ∙ ap (λ t. met_if k (tree.var shape (tree.ident name place) start changes at) t) (rest.met ∙ ap (λ m. first_met vs m) (sym there));
        fine = go j k e (rest.fine ∙ ap (λ m. is_fine (names_behind vs m)) (sym there));
      }
    where
      go : (j k : Judged Shape) → j ≡ k → is_fine (names_behind vs (with_inner (tree.var shape (tree.ident name place) start changes at) (on a n)))
          ≡ is_fine (names_behind vs (with_inner (tree.var shape (tree.ident name place) start changes at) (on b n)))
          → is_fine (and_so (behind j (tree.var shape (tree.ident name place) start changes at) (on a n)) (λ inner. names_behind vs inner))
          ≡ is_fine (and_so (behind k (tree.var shape (tree.ident name place) start changes at) (on b n)) (λ inner. names_behind vs inner))
      go (Fine t) (Fine u) e h = h
      go (Fine t) (Broken rule p) e h = absurd (cc)
      go (Broken rule p) (Fine u) e h = absurd (cc)
      go (Broken rule p) (Broken other q) e h = refl
  vars-same other n d r = absurd d

  -- ---- functions

  locals-on : (xs : List Local) (c : List Fun) (n : Names) → with_locals xs (on c n) ≡ on c (with_locals xs n)
  locals-on [] c n = refl
  locals-on (x ∷ xs) c n = locals-on xs c (with_known (known_local x) n)

  result-same : (result : Tree) (fs : List Local) (n : Names) → EachCall P Q result → result_judged result fs (on a n) ≡ result_judged result fs (on b n)
  result-same result fs n r =
      ap (λ j. and_so j (λ t. Fine (record { formals = fs; result = t })))
      (ap (λ m. single_type result m) (locals-on fs a n) ∙ single-same result (with_locals fs n) r ∙ sym (ap (λ m. single_type result m) (locals-on fs b n)))

  if-same : (j k : Judged Names) (full : List ℕ) (head : Head) (vars body : Tree) (n : Names) → is_fine j ≡ is_fine k → fun_if j full head vars body n ≡ fun_if k full head vars body n
  if-same (Fine x) (Fine y) full head vars body n e = refl
  if-same (Fine x) (Broken rule at) full head vars body n e = absurd (cc)
  if-same (Broken rule at) (Fine y) full head vars body n e = absurd (cc)
  if-same (Broken rule at) (Broken other p) full head vars body n e = refl

  over-same : (j : Judged Names) (full : List ℕ) (head : Head) (vars body : Tree) (n m : Names) → fun_of full head vars body n ≡ fun_of full head vars body m
      → useless_fun full head vars n ≡ useless_fun full head vars m → fun_if j full head vars body n ≡ fun_if j full head vars body m
  over-same (Fine x) full head vars body n m e u = e
  over-same (Broken rule at) full head vars body n m e u = u

  fun-made : (full : List ℕ) (head : Head) (vars body : Tree) (n : Names) → AreDeclared vars → EachCall P Q vars → EachCall P Q body
      → fun_if (names_behind vars (with_locals head.formals (on a n))) full head vars body (on a n) ≡ fun_if (names_behind vars (with_locals head.formals (on b n))) full head vars body (on b n)
  fun-made full head vars body n d rv rb =
      let i : Names = with_locals head.formals n in
      let s = vars-same vars i d rv in
      let ea = locals-on head.formals a n in
      let eb = locals-on head.formals b n in
      let locals : locals_of vars (with_locals head.formals (on a n)) ≡ locals_of vars (with_locals head.formals (on b n)) =
      ap (λ m. locals_of vars m) ea ∙ s.locals ∙ sym (ap (λ m. locals_of vars m) eb) in
      let body_same : written body (behind_vars vars (with_locals head.formals (on a n))) ≡ written body (behind_vars vars (with_locals head.formals (on b n))) =
      ap (λ m. written body (behind_vars vars m)) ea ∙ ap (λ m. written body m) s.behind_a ∙ written-same body s.inner rb
      ∙ sym (ap (λ m. written body m) s.behind_b) ∙ sym (ap (λ m. written body (behind_vars vars m)) eb) in
      let before : locals_before vars (with_locals head.formals (on a n)) ≡ locals_before vars (with_locals head.formals (on b n)) =
      ap (λ m. locals_before vars m) ea ∙ s.before ∙ sym (ap (λ m. locals_before vars m) eb) in
      let met : first_met vars (with_locals head.formals (on a n)) ≡ first_met vars (with_locals head.formals (on b n)) =
      ap (λ m. first_met vars m) ea ∙ s.met ∙ sym (ap (λ m. first_met vars m) eb) in
      let fine : is_fine (names_behind vars (with_locals head.formals (on a n))) ≡ is_fine (names_behind vars (with_locals head.formals (on b n))) =
      ap (λ m. is_fine (names_behind vars m)) ea ∙ s.fine ∙ sym (ap (λ m. is_fine (names_behind vars m)) eb) in
      if-same (names_behind vars (with_locals head.formals (on a n))) (names_behind vars (with_locals head.formals (on b n))) full head vars body (on a n) fine
      ∙ over-same (names_behind vars (with_locals head.formals (on b n))) full head vars body (on a n) (on b n)
      (ap (λ ls. record { name = full; formals = head.formals; locals = ls; result = head.result; body = written body (behind_vars vars (with_locals head.formals (on a n))) }) locals
      ∙ ap (λ t. record { name = full; formals = head.formals; locals = locals_of vars (with_locals head.formals (on b n)); result = head.result; body = t }) body_same)
      (ap (λ ls. record { name = full; formals = head.formals; locals = ls; result = head.result; body = tree.prefix Not (tree.list (first_met vars (with_locals head.formals (on a n))) 0) 0 }) before
      ∙ ap (λ t. record { name = full; formals = head.formals; locals = locals_before vars (with_locals head.formals (on b n)); result = head.result; body = tree.prefix Not (tree.list t 0) 0 }) met)

  pub fun-same : (full : List ℕ) (name formals result vars body : Tree) (at : ℕ) (n : Names) → AreDeclared vars → FormalsCall P Q formals → EachCall P Q result → EachCall P Q vars → EachCall P Q body
      → fun_judged full (tree.function name formals result vars body at) (on a n) ≡ fun_judged full (tree.function name formals result vars body at) (on b n)
  fun-same full name formals result vars body at n d rf rr rv rb =
      and-same (head_judged (tree.function name formals result vars body at) (on a n)) (head_judged (tree.function name formals result vars body at) (on b n)) _ _
      (and-same (formals_judged formals (on a n)) (formals_judged formals (on b n)) _ _ (formals-same formals n rf) (λ fs. result-same result fs n rr))
      (λ head. ap Fine (fun-made full head vars body n d rv rb))
