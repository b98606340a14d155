-- Evaluation, kinds and what is written out, over functions of which those that are called are the same.
use Rattle.std.proofs.Common.{◌≡◌, ℕ, zero, suc, ◌+ℤ◌, ℤ, pos, true, false, List, [], ◌∷◌, refl, sym, ap, subst, ◌∙◌, Option, None, Some}
use Rattle.rvc_base.specs.Turns.{max_turns}
use Rattle.cal_ast.specs.declared.expr.BinOp.{BinOp}
use Rattle.cal_ast.specs.declared.expr.BinOp.TheVariants.{Or, And}
use Rattle.cal_ast.specs.Tree as tree
use Rattle.cal_ast.specs.Tree.{Tree}
use Rattle.cal_model.specs.Value.{Shape, Single, Value, Num, Truth, Items, Values, Cons, one, joined, stored}
use Rattle.cal_model.specs.Outcome.{Out, Gives, Traps, Lacks, Clashes, alone, and_then, needed, turn}
use Rattle.cal_model.specs.Env.{Env, Var, variable, with_local}
use Rattle.cal_model.specs.Expression.{Calls, Given, applied, args_given, chosen, each_from, elements, eval, eval_all, indexed, prefixed, range_of, size_of_value, span, type_meant, type_named, with_right}
use Rattle.cal_model.specs.Actor.{Fun, Local}
use Rattle.cal_model.specs.Call.{answered, arguments, declared, first_value, on_call}
use Rattle.cal_model.specs.Sound.{Each, EachCall, StartCalls}

-- ---- outcomes

pub then-same : {A B : Type 0} (o p : Out A) (f g : A → ℕ → Out B) → o ≡ p → ((a : A) (m : ℕ) → f a m ≡ g a m) → and_then o f ≡ and_then p g
then-same {A} {B} o p f g e h = ap (λ q. and_then q f) e ∙ go p
  where
    go : (p : Out A) → and_then p f ≡ and_then p g
    go (Gives a m) = h a m
    go (Traps c) = refl
    go Lacks = refl
    go Clashes = refl

pub turn-same : {A : Type 0} (left : ℕ) (f g : ℕ → Out A) → ((k : ℕ) → f k ≡ g k) → turn left f ≡ turn left g
turn-same zero f g h = refl
turn-same (suc left) f g h = h left

pub chosen-same : {A : Type 0} (v : Value) (f g f' g' : ℕ → Out A) (left : ℕ) → ((k : ℕ) → f k ≡ f' k) → ((k : ℕ) → g k ≡ g' k) → chosen v f g left ≡ chosen v f' g' left
chosen-same (Truth true) f g f' g' left h i = h left
chosen-same (Truth false) f g f' g' left h i = i left
chosen-same (Num z) f g f' g' left h i = refl
chosen-same (Items vs) f g f' g' left h i = refl

pub right-same : (op : BinOp) (v : Value) (f g : ℕ → Out Value) (left : ℕ) → ((k : ℕ) → f k ≡ g k) → with_right op v f left ≡ with_right op v g left
right-same And (Truth false) f g left h = refl
right-same Or (Truth true) f g left h = refl
right-same op v f g left h = ap (λ o. and_then o (λ w m. applied op v w m)) (h left)

pub range-same : {A : Type 0} (a b : Value) (f g : ℤ → ℤ → Out A) → ((low high : ℤ) → f low high ≡ g low high) → range_of a b f ≡ range_of a b g
range-same (Num a) (Num b) f g h = h a b
range-same v w f g h = refl

pub each-same : (n : ℕ) (i : ℤ) (f g : ℤ → ℕ → Out Values) (left : ℕ) → ((j : ℤ) (k : ℕ) → f j k ≡ g j k) → each_from n i f left ≡ each_from n i g left
each-same zero i f g left h = refl
each-same (suc n) i f g left h =
    then-same (f i left) (g i left) _ _ (h i left) (λ vs m.
    ap (λ o. and_then o (λ ws k. Gives (joined vs ws) k)) (each-same n (i +ℤ pos 1) f g m h))

-- ---- evaluation

-- the functions of these names give the same over these globals
abbrev pub CallsSame : (List ℕ → Type 0) → Calls → Calls → List Var → Type 0
CallsSame P c d globals = (name : List ℕ) → P name → (args : Values) (left : ℕ) → c globals name args left ≡ d globals name args left

module _ (P Q : List ℕ → Type 0) (c d : Calls) where
  mutual
    pub eval-same : (e : Tree) (x : Env) (left : ℕ) → CallsSame P c d x.globals → EachCall P Q e → eval e c x left ≡ eval e d x left
    eval-same (tree.number n at) x left a r = refl
    eval-same (tree.truth b at) x left a r = refl
    eval-same (tree.variable name at) x left a r = refl
    eval-same (tree.call name args at) x left a r =
        then-same (eval_all args c x left) (eval_all args d x left) _ _ (all-same args x left a r.1) (λ vs m. turn-same m _ _ (λ k. a name r.0 vs k))
    eval-same (tree.paren e at) x left a r = eval-same e x left a r
    eval-same (tree.if_expr test first other at) x left a r =
        then-same (eval test c x left) (eval test d x left) _ _ (eval-same test x left a r.0) (λ v m.
        chosen-same v _ _ _ _ m (λ k. eval-same first x k a r.1) (λ k. eval-same other x k a r.2))
    eval-same (tree.list items at) x left a r = ap (λ o. and_then o (λ vs m. Gives (Items vs) m)) (all-same items x left a r)
    eval-same (tree.comp item gens at) x left a r =
        ap (λ o. and_then o (λ vs m. Gives (Items vs) m))
        (elements-same gens (λ inner k. eval item c inner k) (λ inner k. eval item d inner k) x left a r.1 (λ v k b. eval-same item v k b r.0))
    eval-same (tree.index base place at) x left a r =
        then-same (eval base c x left) (eval base d x left) _ _ (eval-same base x left a r.0) (λ v m.
        ap (λ o. and_then o (λ i k. indexed v i k)) (eval-same place x m a r.1))
    eval-same (tree.prefix op e at) x left a r = ap (λ o. and_then o (λ v m. prefixed op v m)) (eval-same e x left a r)
    eval-same (tree.binary op l o at) x left a r =
        then-same (eval l c x left) (eval l d x left) _ _ (eval-same l x left a r.0) (λ v m. right-same op v _ _ m (λ k. eval-same o x k a r.1))
    eval-same other x left a r = refl

    pub all-same : (es : Tree) (x : Env) (left : ℕ) → CallsSame P c d x.globals → EachCall P Q es → eval_all es c x left ≡ eval_all es d x left
    all-same tree.nil x left a r = refl
    all-same (tree.cons e es) x left a r =
        then-same (eval e c x left) (eval e d x left) _ _ (eval-same e x left a r.0) (λ v m.
        ap (λ o. and_then o (λ vs k. Gives (Cons v vs) k)) (all-same es x m a r.1))
    all-same other x left a r = refl

    elements-same : (gens : Tree) (f g : Env → ℕ → Out Value) (x : Env) (left : ℕ) → CallsSame P c d x.globals → EachCall P Q gens
        → ((v : Env) (k : ℕ) → CallsSame P c d v.globals → f v k ≡ g v k) → elements gens f c x left ≡ elements gens g d x left
    elements-same tree.nil f g x left a r h = turn-same left _ _ (λ m. ap (λ o. and_then o (λ v k. Gives (one v) k)) (h x m a))
    elements-same (tree.cons (tree.gen shape (tree.ident name place) from to at) gens) f g x left a r h =
        then-same (type_meant shape c x left) (type_meant shape d x left) _ _ (type-same shape x left a r.0.0) (λ t n.
        then-same (alone (eval from c x max_turns) n) (alone (eval from d x max_turns) n) _ _ (ap (λ o. alone o n) (eval-same from x max_turns a r.0.1)) (λ v j.
        then-same (alone (eval to c x max_turns) j) (alone (eval to d x max_turns) j) _ _ (ap (λ o. alone o j) (eval-same to x max_turns a r.0.2)) (λ w k.
        range-same v w _ _ (λ low high.
        each-same (span low high) low _ _ k (λ i m.
        elements-same gens f g (with_local (variable name t false (stored t (Num i))) x) m a r.1 h)))))
    elements-same other f g x left a r h = refl

    pub type-same : (shape : Tree) (x : Env) (left : ℕ) → CallsSame P c d x.globals → EachCall P Q shape → type_meant shape c x left ≡ type_meant shape d x left
    type-same (tree.type_of (tree.ident name place) args at) x left a r =
        ap (λ o. and_then o (λ given m. needed (type_named name given) m)) (args-same args x left a r)
    type-same other x left a r = refl

    args-same : (args : Tree) (x : Env) (left : ℕ) → CallsSame P c d x.globals → EachCall P Q args → args_given args c x left ≡ args_given args d x left
    args-same tree.nil x left a r = refl
    args-same (tree.cons (tree.shape_arg name shape) args) x left a r =
        then-same (type_meant shape c x left) (type_meant shape d x left) _ _ (type-same shape x left a r.0) (λ t m.
        ap (λ o. and_then {B = Given} o (λ given k. Gives (record given { items = Some t }) k)) (args-same args x m a r.1))
    args-same (tree.cons (tree.value_arg name value) args) x left a r =
        then-same (alone (eval value c x max_turns) left) (alone (eval value d x max_turns) left) _ _ (ap (λ o. alone o left) (eval-same value x max_turns a r.0)) (λ v m.
        ap (λ o. and_then {B = Given} o (λ given k. Gives (record given { size = size_of_value v }) k)) (args-same args x m a r.1))
    args-same other x left a r = refl

  -- ---- what functions give

  abbrev StartCallsIn : Option Tree → Type 0
  StartCallsIn None = Unit {0}
  StartCallsIn (Some e) = EachCall P Q e

  first-same : (t : Shape) (start : Option Tree) (x : Env) (left : ℕ) → CallsSame P c d x.globals → StartCallsIn start → first_value t start c x left ≡ first_value t start d x left
  first-same t None x left a r = refl
  first-same t (Some e) x left a r = ap (λ o. and_then o (λ v k. Gives (stored t v) k)) (eval-same e x left a r)

  -- the locals, and what follows over the same globals
  declared-same : {B : Type 0} (xs : List Local) (x : Env) (left : ℕ) (f g : Env → ℕ → Out B) → CallsSame P c d x.globals → Each (StartCalls P Q) xs
      → ((v : Env) (k : ℕ) → CallsSame P c d v.globals → f v k ≡ g v k) → and_then (declared xs c x left) f ≡ and_then (declared xs d x left) g
  declared-same [] x left f g a r h = h x left a
  declared-same {B} (z ∷ zs) x left f g a r h =
      ap (λ o. and_then (and_then o (λ v m. declared zs c (with_local (variable z.name z.shape z.changes v) x) m)) f) (first-same z.shape z.start x left a r.0)
      ∙ go (first_value z.shape z.start d x left) (λ v m. declared-same zs (with_local (variable z.name z.shape z.changes v) x) m f g a r.1 h)
    where
      go : (o : Out Value) → ((v : Value) (m : ℕ) → and_then (declared zs c (with_local (variable z.name z.shape z.changes v) x) m) f ≡ and_then (declared zs d (with_local (variable z.name z.shape z.changes v) x) m) g)
          → and_then (and_then o (λ v m. declared zs c (with_local (variable z.name z.shape z.changes v) x) m)) f
          ≡ and_then (and_then o (λ v m. declared zs d (with_local (variable z.name z.shape z.changes v) x) m)) g
      go (Gives v m) less = less v m
      go (Traps t) less = refl
      go Lacks less = refl
      go Clashes less = refl

  pub answered-same : (f : Fun) (globals : List Var) (args : Values) (left : ℕ) → Each (StartCalls P Q) f.locals → EachCall P Q f.body
      → CallsSame P c d globals → answered f c globals args left ≡ answered f d globals args left
  answered-same f globals args left starts body calls = go (on_call globals f.formals args left) (on-globals f globals args left)
    where
      on-globals : (f : Fun) (globals : List Var) (args : Values) (left : ℕ) → (entry : Env) (h : ℕ) → on_call globals f.formals args left ≡ Gives entry h → entry.globals ≡ globals
      on-globals f globals args left entry h e = from (arguments f.formals args) e
        where
          from : (o : Option (List Var)) → and_then (needed o left) (λ vars k. Gives (record { globals = globals; locals = vars }) k) ≡ Gives entry h → entry.globals ≡ globals
          from None e = absurd (cc)
          from (Some vars) e = let same : record { globals = globals; locals = vars } ≡ entry = cc in sym (ap (λ x. x.globals) same)

      go : (o : Out Env) → ((entry : Env) (h : ℕ) → o ≡ Gives entry h → entry.globals ≡ globals)
          → and_then o (λ entry h. and_then (declared f.locals c entry h) (λ env m. and_then (eval f.body c env m) (λ v k. Gives (stored (Single f.result) v) k)))
          ≡ and_then o (λ entry h. and_then (declared f.locals d entry h) (λ env m. and_then (eval f.body d env m) (λ v k. Gives (stored (Single f.result) v) k)))
      go (Gives entry h) is =
          let e : entry.globals ≡ globals = is entry h refl in
          declared-same f.locals entry h _ _ (subst (λ g. CallsSame P c d g) (sym e) calls) starts (λ v k a.
          ap (λ o. and_then o (λ w k. Gives (stored (Single f.result) w) k)) (eval-same f.body v k a body))
      go (Traps t) is = refl
      go Lacks is = refl
      go Clashes is = refl
