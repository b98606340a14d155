-- Evaluation doesn't depend on names that it doesn't reach: over two environments that agree on the names that both
-- have, and with functions that agree where they are called, it comes to the same if it lacks no name.
use Rattle.std.proofs.Common.{◌≡◌, ℕ, zero, suc, ◌<◌, ℤ, pos, ◌+ℤ◌, Bool, true, false, List, [], ◌∷◌, ◌++◌, length, refl, sym, ap, subst, arith, Option, None, Some}
use Rattle.std.specs.Prelude.{if◌then◌else◌}
use Rattle.std.specs.Str.{bytes_eq}
use Rattle.std.proofs.lemmas.Slice.Eq.{bytes_eq-Decides}
use Rattle.rvc_base.specs.Turns.{max_turns}
use Rattle.cal_ast.specs.declared.expr.BinOp.{BinOp}
use Rattle.cal_ast.specs.declared.expr.BinOp.TheVariants.{Or, And}
use Rattle.cal_ast.specs.Tree as tree
use Rattle.cal_ast.specs.Tree.{Tree}
use Rattle.cal_model.specs.Value.{Shape, Single, Value, Num, Truth, Items, Values, stored}
use Rattle.cal_model.specs.Outcome.{Out, Gives, Traps, Lacks, Clashes, and_then, turn, alone, needed, known}
use Rattle.cal_model.specs.Env.{Var, Env, find, look_up, variable, with_local}
use Rattle.cal_model.specs.Expression.{Calls, eval, eval_all, elements, type_meant, args_given, prefixed, applied, with_right, chosen, indexed, span, range_of, each_from, type_named}
use Rattle.cal_model.specs.Actor.{Local, Fun}
use Rattle.cal_model.specs.Call.{first_value, declared, arguments, answered, fun_named, calls_within, calls_of}
use Rattle.cal_model.specs.Keeping.{answer}
use Rattle.cal_model.specs.Kinding.{Known, constant_calls, constants, constant}
use Rattle.cal_model.specs.Sound.{Each, EachCall, StartCalls, FunCallsBelow, FunsNeverReturn}

-- ---- all calls

abbrev pub any_name : List ℕ → Type 0
any_name name = Unit {0}

-- any function may be called
pub any-call : (t : Tree) → EachCall (λ name. Unit {0}) (λ name. Unit {0}) t
any-call (tree.cons t ts) = (any-call t, any-call ts)
any-call (tree.present t) = any-call t
any-call (tree.call name args at) = (tt, any-call args)
any-call (tree.paren e at) = any-call e
any-call (tree.if_expr test first other at) = (any-call test, any-call first, any-call other)
any-call (tree.list items at) = any-call items
any-call (tree.comp item gens at) = (any-call item, any-call gens)
any-call (tree.gen shape name from to at) = (any-call shape, any-call from, any-call to)
any-call (tree.index base place at) = (any-call base, any-call place)
any-call (tree.prefix op e at) = any-call e
any-call (tree.binary op l r at) = (any-call l, any-call r)
any-call (tree.type_of name args at) = any-call args
any-call (tree.shape_arg name shape) = any-call shape
any-call (tree.value_arg name value) = any-call value
any-call (tree.assign name places value at) = (any-call places, any-call value)
any-call (tree.call_stmt (tree.ident name place) args at) = (tt, any-call args)
any-call (tree.if_stmt test first other at) = (any-call test, any-call first, any-call other)
any-call (tree.while_stmt test body at) = (any-call test, any-call body)
any-call (tree.foreach_stmt shape name from to body at) = (any-call shape, any-call from, any-call to, any-call body)
any-call (tree.block vars body at) = (any-call vars, any-call body)
any-call (tree.var shape name start changes at) = (any-call shape, any-call start)
any-call other = tt

abbrev pub StartCallsIn : (P Q : List ℕ → Type 0) → Option Tree → Type 0
StartCallsIn P Q None = Unit {0}
StartCallsIn P Q (Some e) = EachCall P Q e

any-start : (x : Local) → StartCalls (λ name. Unit {0}) (λ name. Unit {0}) x
any-start x = go x.start
  where
    go : (o : Option Tree) → StartCallsIn (λ name. Unit {0}) (λ name. Unit {0}) o
    go None = tt
    go (Some e) = any-call e

pub any-starts : (xs : List Local) → Each (StartCalls (λ name. Unit {0}) (λ name. Unit {0})) xs
any-starts [] = tt
any-starts (x ∷ xs) = (any-start x, any-starts xs)

-- two outcomes are the same; one of them may lack a name if L allows it
abbrev pub Agree : (L : Type 0) {A : Type 0} → Out A → Out A → Type 0
Agree L Lacks Lacks = Unit {0}
Agree L Lacks p = L
Agree L (Gives a k) Lacks = L
Agree L (Gives a k) (Gives b m) = Gives a k ≡ Gives b m
Agree L (Traps c) Lacks = L
Agree L (Traps c) (Traps d) = c ≡ d
Agree L Clashes Lacks = L
Agree L Clashes Clashes = Unit {0}
Agree L o p = ⊥

-- two names mean the same; one of them may mean nothing if L allows it
abbrev pub Match : Type 0 → Option Value → Option Value → Type 0
Match L None None = Unit {0}
Match L None (Some w) = L
Match L (Some v) None = L
Match L (Some v) (Some w) = v ≡ w

-- environments that agree, as does what the functions that P speaks of give
pub record Alike (L : Type 0) (P : List ℕ → Type 0) (c d : Calls) (x y : Env) : Type 0 where
  pub names : (name : List ℕ) → Match L (look_up name x) (look_up name y)
  pub calls : (name : List ℕ) → P name → (args : Values) (left : ℕ) → Agree L (c x.globals name args left) (d y.globals name args left)

then-then : {A B C : Type 0} (o : Out A) (f : A → ℕ → Out B) (g : B → ℕ → Out C) → and_then (and_then o f) g ≡ and_then o (λ a k. and_then (f a k) g)
then-then (Gives a k) f g = refl
then-then (Traps c) f g = refl
then-then Lacks f g = refl
then-then Clashes f g = refl

-- the rest of what declares locals, and what follows, once the first local has its value
abbrev with_rest : {B : Type 0} → Calls → Local → List Local → Env → (Env → ℕ → Out B) → Value → ℕ → Out B
with_rest c z zs x f v m = and_then (declared zs c (with_local (variable z.name z.shape z.changes v) x) m) f

declared-step : {B : Type 0} (c : Calls) (z : Local) (zs : List Local) (x : Env) (left : ℕ) (f : Env → ℕ → Out B)
    → and_then (declared (z ∷ zs) c x left) f ≡ and_then (first_value z.shape z.start c x left) (with_rest c z zs x f)
declared-step c z zs x left f =
    then-then (first_value z.shape z.start c x left) (λ v m. declared zs c (with_local (variable z.name z.shape z.changes v) x) m) f

-- outcomes that agree are the same if none may lack a name
pub agree-is : {A : Type 0} (o p : Out A) → Agree ⊥ o p → o ≡ p
agree-is Lacks Lacks e = refl
agree-is Lacks (Gives b m) e = absurd e
agree-is Lacks (Traps d) e = absurd e
agree-is Lacks Clashes e = absurd e
agree-is (Gives a k) Lacks e = absurd e
agree-is (Gives a k) (Gives b m) e = e
agree-is (Gives a k) (Traps d) e = absurd e
agree-is (Gives a k) Clashes e = absurd e
agree-is (Traps c) Lacks e = absurd e
agree-is (Traps c) (Traps d) e = ap Traps e
agree-is (Traps c) (Gives b m) e = absurd e
agree-is (Traps c) Clashes e = absurd e
agree-is Clashes Lacks e = absurd e
agree-is Clashes Clashes e = refl
agree-is Clashes (Gives b m) e = absurd e
agree-is Clashes (Traps d) e = absurd e

module _ (L : Type 0) where
  agree-same : {A : Type 0} (o : Out A) → Agree L o o
  agree-same (Gives a k) = refl
  agree-same (Traps c) = refl
  agree-same Lacks = tt
  agree-same Clashes = tt

  pub agree-lacks : {A : Type 0} (o : Out A) → L → Agree L o Lacks
  agree-lacks (Gives a k) l = l
  agree-lacks (Traps c) l = l
  agree-lacks Lacks l = tt
  agree-lacks Clashes l = l

  lacks-agree : {A : Type 0} (o : Out A) → L → Agree L Lacks o
  lacks-agree (Gives a k) l = l
  lacks-agree (Traps c) l = l
  lacks-agree Lacks l = tt
  lacks-agree Clashes l = l

  agree-then : {A B : Type 0} (o p : Out A) (f g : A → ℕ → Out B) → Agree L o p → ((a : A) (k : ℕ) → Agree L (f a k) (g a k))
      → Agree L (and_then o f) (and_then p g)
  agree-then Lacks Lacks f g e h = tt
  agree-then Lacks (Gives b m) f g e h = lacks-agree (g b m) e
  agree-then Lacks (Traps d) f g e h = e
  agree-then Lacks Clashes f g e h = e
  agree-then (Gives a k) Lacks f g e h = agree-lacks (f a k) e
  agree-then (Gives a k) (Gives b m) f g e h = subst (λ q. Agree L (f a k) (and_then q g)) e (h a k)
  agree-then (Gives a k) (Traps d) f g e h = absurd e
  agree-then (Gives a k) Clashes f g e h = absurd e
  agree-then (Traps c) Lacks f g e h = e
  agree-then (Traps c) (Traps d) f g e h = e
  agree-then (Traps c) (Gives b m) f g e h = absurd e
  agree-then (Traps c) Clashes f g e h = absurd e
  agree-then Clashes Lacks f g e h = e
  agree-then Clashes Clashes f g e h = tt
  agree-then Clashes (Gives b m) f g e h = absurd e
  agree-then Clashes (Traps d) f g e h = absurd e

  agree-alone : {A : Type 0} (o p : Out A) (left : ℕ) → Agree L o p → Agree L (alone o left) (alone p left)
  agree-alone Lacks Lacks left e = tt
  agree-alone Lacks (Gives b m) left e = e
  agree-alone Lacks (Traps d) left e = e
  agree-alone Lacks Clashes left e = e
  agree-alone (Gives a k) Lacks left e = e
  agree-alone (Gives a k) (Gives b m) left e = ap (λ q. alone q left) e
  agree-alone (Gives a k) (Traps d) left e = absurd e
  agree-alone (Gives a k) Clashes left e = absurd e
  agree-alone (Traps c) Lacks left e = e
  agree-alone (Traps c) (Traps d) left e = e
  agree-alone (Traps c) (Gives b m) left e = absurd e
  agree-alone (Traps c) Clashes left e = absurd e
  agree-alone Clashes Lacks left e = e
  agree-alone Clashes Clashes left e = tt
  agree-alone Clashes (Gives b m) left e = absurd e
  agree-alone Clashes (Traps d) left e = absurd e

  agree-known : (o p : Option Value) (left : ℕ) → Match L o p → Agree L (known o left) (known p left)
  agree-known None None left e = tt
  agree-known None (Some w) left e = e
  agree-known (Some v) None left e = e
  agree-known (Some v) (Some w) left e = ap (λ u. Gives u left) e

  agree-turn : {A : Type 0} (left : ℕ) (f g : ℕ → Out A) → ((k : ℕ) → Agree L (f k) (g k)) → Agree L (turn left f) (turn left g)
  agree-turn zero f g h = refl
  agree-turn (suc left) f g h = h left

  agree-chosen : (v : Value) (f g f' g' : ℕ → Out Value) (left : ℕ) → ((k : ℕ) → Agree L (f k) (f' k)) → ((k : ℕ) → Agree L (g k) (g' k))
      → Agree L (chosen v f g left) (chosen v f' g' left)
  agree-chosen (Truth true) f g f' g' left h i = h left
  agree-chosen (Truth false) f g f' g' left h i = i left
  agree-chosen (Num z) f g f' g' left h i = tt
  agree-chosen (Items vs) f g f' g' left h i = tt

  agree-right : (op : BinOp) (v : Value) (f g : ℕ → Out Value) (left : ℕ) → ((k : ℕ) → Agree L (f k) (g k))
      → Agree L (with_right op v f left) (with_right op v g left)
  agree-right And (Truth false) f g left h = refl
  agree-right Or (Truth true) f g left h = refl
  agree-right op v f g left h = agree-then (f left) (g left) (λ w m. applied op v w m) (λ w m. applied op v w m) (h left) (λ w m. agree-same (applied op v w m))

  agree-range : (a b : Value) (f g : ℤ → ℤ → Out Values) → ((low high : ℤ) → Agree L (f low high) (g low high)) → Agree L (range_of a b f) (range_of a b g)
  agree-range (Num a) (Num b) f g h = h a b
  agree-range v w f g h = tt

  agree-each : (n : ℕ) (i : ℤ) (f g : ℤ → ℕ → Out Values) (left : ℕ) → ((j : ℤ) (k : ℕ) → Agree L (f j k) (g j k)) → Agree L (each_from n i f left) (each_from n i g left)
  agree-each zero i f g left h = refl
  agree-each (suc n) i f g left h =
      agree-then (f i left) (g i left) _ _ (h i left) (λ vs m.
      agree-then (each_from n (i +ℤ pos 1) f m) (each_from n (i +ℤ pos 1) g m) _ _ (agree-each n (i +ℤ pos 1) f g m h) (λ ws k. refl))

  match-if : (b : Bool) (v : Value) (o p : Option Value) → Match L o p → Match L (if b then Some v else o) (if b then Some v else p)
  match-if true v o p h = refl
  match-if false v o p h = h

  alike-local : (P : List ℕ → Type 0) (c d : Calls) (x y : Env) (z : Var) → Alike L P c d x y → Alike L P c d (with_local z x) (with_local z y)
  alike-local P c d x y z a = record {
    names = λ name. match-if (bytes_eq z.name name) z.value (look_up name x) (look_up name y) (a.names name);
    calls = a.calls;
  }

  match-after : (name : List ℕ) (vars xs ys : List Var) → Match L (find name xs) (find name ys) → Match L (find name (vars ++ xs)) (find name (vars ++ ys))
  match-after name [] xs ys h = h
  match-after name (z ∷ zs) xs ys h = match-if (bytes_eq z.name name) z.value (find name (zs ++ xs)) (find name (zs ++ ys)) (match-after name zs xs ys h)

module _ (L : Type 0) (P Q : List ℕ → Type 0) (c d : Calls) where
  mutual
    pub eval-agrees : (e : Tree) (x y : Env) (left : ℕ) → Alike L P c d x y → EachCall P Q e → Agree L (eval e c x left) (eval e d y left)
    eval-agrees (tree.number n at) x y left a r = agree-same L (eval (tree.number n at) c x left)
    eval-agrees (tree.truth b at) x y left a r = refl
    eval-agrees (tree.variable name at) x y left a r = agree-known L (look_up name x) (look_up name y) left (a.names name)
    eval-agrees (tree.call name args at) x y left a r =
        agree-then L (eval_all args c x left) (eval_all args d y left) _ _ (all-agree args x y left a r.1) (λ vs m.
        agree-turn L m _ _ (λ k. a.calls name r.0 vs k))
    eval-agrees (tree.paren e at) x y left a r = eval-agrees e x y left a r
    eval-agrees (tree.if_expr test first other at) x y left a r =
        agree-then L (eval test c x left) (eval test d y left) _ _ (eval-agrees test x y left a r.0) (λ v m.
        agree-chosen L v _ _ _ _ m (λ k. eval-agrees first x y k a r.1) (λ k. eval-agrees other x y k a r.2))
    eval-agrees (tree.list items at) x y left a r =
        agree-then L (eval_all items c x left) (eval_all items d y left) _ _ (all-agree items x y left a r) (λ vs m. refl)
    eval-agrees (tree.comp item gens at) x y left a r =
        agree-then L (elements gens (λ inner k. eval item c inner k) c x left) (elements gens (λ inner k. eval item d inner k) d y left) _ _
        (elements-agree gens (λ inner k. eval item c inner k) (λ inner k. eval item d inner k) x y left a r.1 (λ v w k b. eval-agrees item v w k b r.0)) (λ vs m. refl)
    eval-agrees (tree.index base place at) x y left a r =
        agree-then L (eval base c x left) (eval base d y left) _ _ (eval-agrees base x y left a r.0) (λ v m.
        agree-then L (eval place c x m) (eval place d y m) _ _ (eval-agrees place x y m a r.1) (λ i k. agree-same L (indexed v i k)))
    eval-agrees (tree.prefix op e at) x y left a r =
        agree-then L (eval e c x left) (eval e d y left) _ _ (eval-agrees e x y left a r) (λ v m. agree-same L (prefixed op v m))
    eval-agrees (tree.binary op l o at) x y left a r =
        agree-then L (eval l c x left) (eval l d y left) _ _ (eval-agrees l x y left a r.0) (λ v m.
        agree-right L op v _ _ m (λ k. eval-agrees o x y k a r.1))
    eval-agrees other x y left a r = tt

    all-agree : (es : Tree) (x y : Env) (left : ℕ) → Alike L P c d x y → EachCall P Q es → Agree L (eval_all es c x left) (eval_all es d y left)
    all-agree tree.nil x y left a r = refl
    all-agree (tree.cons e es) x y left a r =
        agree-then L (eval e c x left) (eval e d y left) _ _ (eval-agrees e x y left a r.0) (λ v m.
        agree-then L (eval_all es c x m) (eval_all es d y m) _ _ (all-agree es x y m a r.1) (λ vs k. refl))
    all-agree other x y left a r = tt

    elements-agree : (gens : Tree) (f g : Env → ℕ → Out Value) (x y : Env) (left : ℕ) → Alike L P c d x y → EachCall P Q gens
        → ((v w : Env) (k : ℕ) → Alike L P c d v w → Agree L (f v k) (g w k)) → Agree L (elements gens f c x left) (elements gens g d y left)
    elements-agree tree.nil f g x y left a r h =
        agree-turn L left _ _ (λ m. agree-then L (f x m) (g y m) _ _ (h x y m a) (λ v k. refl))
    elements-agree (tree.cons (tree.gen shape (tree.ident name place) from to at) gens) f g x y left a r h =
        agree-then L (type_meant shape c x left) (type_meant shape d y left) _ _ (type-agrees shape x y left a r.0.0) (λ t n.
        agree-then L (alone (eval from c x max_turns) n) (alone (eval from d y max_turns) n) _ _ (agree-alone L (eval from c x max_turns) (eval from d y max_turns) n (eval-agrees from x y max_turns a r.0.1)) (λ v j.
        agree-then L (alone (eval to c x max_turns) j) (alone (eval to d y max_turns) j) _ _ (agree-alone L (eval to c x max_turns) (eval to d y max_turns) j (eval-agrees to x y max_turns a r.0.2)) (λ w k.
        agree-range L v w _ _ (λ low high.
        agree-each L (span low high) low _ _ k (λ i m.
        elements-agree gens f g (with_local (variable name t false (stored t (Num i))) x) (with_local (variable name t false (stored t (Num i))) y) m
        (alike-local L P c d x y (variable name t false (stored t (Num i))) a) r.1 h)))))
    elements-agree other f g x y left a r h = tt

    type-agrees : (shape : Tree) (x y : Env) (left : ℕ) → Alike L P c d x y → EachCall P Q shape → Agree L (type_meant shape c x left) (type_meant shape d y left)
    type-agrees (tree.type_of (tree.ident name place) args at) x y left a r =
        agree-then L (args_given args c x left) (args_given args d y left) _ _ (args-agree args x y left a r) (λ given m. agree-same L (needed (type_named name given) m))
    type-agrees other x y left a r = tt

    args-agree : (args : Tree) (x y : Env) (left : ℕ) → Alike L P c d x y → EachCall P Q args → Agree L (args_given args c x left) (args_given args d y left)
    args-agree tree.nil x y left a r = refl
    args-agree (tree.cons (tree.shape_arg name shape) args) x y left a r =
        agree-then L (type_meant shape c x left) (type_meant shape d y left) _ _ (type-agrees shape x y left a r.0) (λ t m.
        agree-then L (args_given args c x m) (args_given args d y m) _ _ (args-agree args x y m a r.1) (λ given k. refl))
    args-agree (tree.cons (tree.value_arg name value) args) x y left a r =
        agree-then L (alone (eval value c x max_turns) left) (alone (eval value d y max_turns) left) _ _ (agree-alone L (eval value c x max_turns) (eval value d y max_turns) left (eval-agrees value x y max_turns a r.0)) (λ v m.
        agree-then L (args_given args c x m) (args_given args d y m) _ _ (args-agree args x y m a r.1) (λ given k. refl))
    args-agree other x y left a r = tt

  -- ---- what functions give

  first-agrees : (t : Shape) (start : Option Tree) (x y : Env) (left : ℕ) → Alike L P c d x y → StartCallsIn P Q start → Agree L (first_value t start c x left) (first_value t start d y left)
  first-agrees t None x y left a r = refl
  first-agrees t (Some e) x y left a r = agree-then L (eval e c x left) (eval e d y left) _ _ (eval-agrees e x y left a r) (λ v k. refl)

  declared-agrees : {B : Type 0} (xs : List Local) (x y : Env) (left : ℕ) (f g : Env → ℕ → Out B) → Alike L P c d x y → Each (StartCalls P Q) xs
      → ((v w : Env) (k : ℕ) → Alike L P c d v w → Agree L (f v k) (g w k)) → Agree L (and_then (declared xs c x left) f) (and_then (declared xs d y left) g)
  declared-agrees [] x y left f g a r h = h x y left a
  declared-agrees (z ∷ zs) x y left f g a r h =
      let here = declared-step c z zs x left f in
      let there = declared-step d z zs y left g in
      subst (λ o. Agree L o (and_then (declared (z ∷ zs) d y left) g)) (sym here)
      (subst (λ o. Agree L (and_then (first_value z.shape z.start c x left) (with_rest c z zs x f)) o) (sym there)
      (agree-then L (first_value z.shape z.start c x left) (first_value z.shape z.start d y left) (with_rest c z zs x f) (with_rest d z zs y g) (first-agrees z.shape z.start x y left a r.0) (λ v m.
      declared-agrees zs (with_local (variable z.name z.shape z.changes v) x) (with_local (variable z.name z.shape z.changes v) y) m f g
      (alike-local L P c d x y (variable z.name z.shape z.changes v) a) r.1 h)))

  abbrev answered_by : Calls → Fun → List Var → Option (List Var) → ℕ → Out Value
  answered_by e f globals o left =
      and_then (and_then (needed o left) (λ vars k. Gives (record { globals = globals; locals = vars }) k)) (λ entry h.
      and_then (declared f.locals e entry h) (λ env m.
      and_then (eval f.body e env m) (λ v k. Gives (stored (Single f.result) v) k)))

  answered-agrees : (f : Fun) (xs ys : List Var) (args : Values) (left : ℕ) → Each (StartCalls P Q) f.locals → EachCall P Q f.body
      → ((name : List ℕ) → Match L (find name xs) (find name ys))
      → ((name : List ℕ) → P name → (vs : Values) (k : ℕ) → Agree L (c xs name vs k) (d ys name vs k))
      → Agree L (answered f c xs args left) (answered f d ys args left)
  answered-agrees f xs ys args left starts body names calls = go (arguments f.formals args)
    where
      go : (o : Option (List Var)) → Agree L (answered_by c f xs o left) (answered_by d f ys o left)
      go None = tt
      go (Some vars) =
          declared-agrees f.locals (record { globals = xs; locals = vars }) (record { globals = ys; locals = vars }) left _ _
          (record { names = λ name. match-after L name vars xs ys (names name); calls = calls }) starts
          (λ v w m a. agree-then L (eval f.body c v m) (eval f.body d w m) _ _ (eval-agrees f.body v w m a body) (λ u k. refl))

-- over globals that agree, functions give the same, however many calls may be open
pub calls-agree : (n m : ℕ) (funs : List Fun) (xs ys : List Var) → ((name : List ℕ) → Match (Unit {0}) (find name xs) (find name ys))
    → (name : List ℕ) (args : Values) (left : ℕ) → Agree (Unit {0}) (calls_within n funs xs name args left) (calls_within m funs ys name args left)
calls-agree zero m funs xs ys h name args left = lacks-agree (Unit {0}) (calls_within m funs ys name args left) tt
calls-agree (suc n) zero funs xs ys h name args left = agree-lacks (Unit {0}) (calls_within (suc n) funs xs name args left) tt
calls-agree (suc n) (suc m) funs xs ys h name args left = go (fun_named name funs) (λ other p vs k. calls-agree n m funs xs ys h other vs k)
  where
    go : (o : Option Fun) → ((other : List ℕ) → Unit {0} → (vs : Values) (k : ℕ) → Agree (Unit {0}) (calls_within n funs xs other vs k) (calls_within m funs ys other vs k))
        → Agree (Unit {0}) (elim o [ None ↦ Lacks | Some f ↦ answered f (calls_within n funs) xs args left ]) (elim o [ None ↦ Lacks | Some f ↦ answered f (calls_within m funs) ys args left ])
    go None less = tt
    go (Some f) less = answered-agrees (Unit {0}) any_name any_name (calls_within n funs) (calls_within m funs) f xs ys args left (any-starts f.locals) (any-call f.body) h less

-- ---- the bound on open calls

match-same : (o : Option Value) → Match ⊥ o o
match-same None = tt
match-same (Some v) = refl

-- what holds of each function holds of the one that is named, which has the name
pub named-one : (F : Fun → Type 0) (name : List ℕ) (fs : List Fun) (f : Fun) → Each F fs → fun_named name fs ≡ Some f → F f × (f.name ≡ name)
named-one F name [] f h e = let no : None ≡ Some f = e in absurd (grind arith)
named-one F name (g ∷ gs) f h e = go (bytes_eq g.name name) refl e (named-one F name gs f h.1)
  where
    go : (b : Bool) → bytes_eq g.name name ≡ b → (if b then Some g else fun_named name gs) ≡ Some f → (fun_named name gs ≡ Some f → F f × (f.name ≡ name)) → F f × (f.name ≡ name)
    go true s i rest = let same : g ≡ f = cc in subst (λ k. F k × (k.name ≡ name)) same (h.0, (bytes_eq-Decides g.name name).0 s)
    go false s i rest = rest i

-- if functions have ranks, it doesn't count how many more calls than its rank may be open at a function
calls-same : (n m : ℕ) (funs : List Fun) (rank : List ℕ → ℕ) (globals : List Var) → Each (FunCallsBelow rank) funs
    → (name : List ℕ) → rank name < n → rank name < m → (args : Values) (left : ℕ) → Agree ⊥ (calls_within n funs globals name args left) (calls_within m funs globals name args left)
calls-same zero m funs rank globals below name h i args left = absurd (omega arith)
calls-same (suc n) zero funs rank globals below name h i args left = absurd (omega arith)
calls-same (suc n) (suc m) funs rank globals below name h i args left =
    go (fun_named name funs) refl (λ other p q vs k. calls-same n m funs rank globals below other p q vs k)
  where
    go : (o : Option Fun) → fun_named name funs ≡ o
        → ((other : List ℕ) → rank other < n → rank other < m → (vs : Values) (k : ℕ) → Agree ⊥ (calls_within n funs globals other vs k) (calls_within m funs globals other vs k))
        → Agree ⊥ (elim o [ None ↦ Lacks | Some f ↦ answered f (calls_within n funs) globals args left ]) (elim o [ None ↦ Lacks | Some f ↦ answered f (calls_within m funs) globals args left ])
    go None e less = tt
    go (Some f) e less =
        let is = named-one (FunCallsBelow rank) name funs f below e in
        let same : rank f.name ≡ rank name = ap rank is.1 in
        answered-agrees ⊥ (λ other. rank other < rank f.name) (λ other. ⊥) (calls_within n funs) (calls_within m funs) f globals globals args left is.0.locals is.0.body
        (λ other. match-same (find other globals)) (λ other p vs k. less other (omega arith) (omega arith) vs k)

abbrev answer_by : Calls → List Var → Values → ℕ → Option Fun → Out Value
answer_by calls globals args left None = Lacks
answer_by calls globals args left (Some f) = answered f calls globals args left

one-less : (n : ℕ) (funs : List Fun) (globals : List Var) (name : List ℕ) (args : Values) (left : ℕ) (never : FunsNeverReturn funs) → length funs ≡ suc n
    → (o : Option Fun) → fun_named name funs ≡ o → answer_by (calls_within n funs) globals args left o ≡ answer_by (calls_within (suc n) funs) globals args left o
one-less n funs globals name args left never h None e = refl
one-less n funs globals name args left never h (Some f) e =
    let is = named-one (FunCallsBelow never.rank) name funs f never.calls e in
    let within = named-one (λ g. never.rank g.name < length funs) name funs f never.in_range e in
    let less : never.rank f.name < suc n = subst (λ k. never.rank f.name < k) h within.0 in
    agree-is (answered f (calls_within n funs) globals args left) (answered f (calls_within (suc n) funs) globals args left)
    (answered-agrees ⊥ (λ other. never.rank other < never.rank f.name) (λ other. ⊥) (calls_within n funs) (calls_within (suc n) funs) f globals globals args left is.0.locals is.0.body
    (λ other. match-same (find other globals))
    (λ other p vs k. calls-same n (suc n) funs never.rank globals never.calls other (omega arith) (omega arith) vs k))

none-named : (name : List ℕ) (fs : List Fun) → length fs ≡ zero → fun_named name fs ≡ None
none-named name [] h = refl
none-named name (g ∷ gs) h = absurd (omega arith)

-- what a function gives is what its body gives over all functions
pub calls-are-answered : (funs : List Fun) (globals : List Var) (name : List ℕ) (args : Values) (left : ℕ) → FunsNeverReturn funs
    → calls_of funs globals name args left ≡ answer funs globals args left (fun_named name funs)
calls-are-answered funs globals name args left never = go (length funs) refl
  where
    go : (n : ℕ) → length funs ≡ n → calls_within n funs globals name args left ≡ answer_by (calls_within n funs) globals args left (fun_named name funs)
    go zero h = ap (λ o. answer_by (calls_within zero funs) globals args left o) (sym (none-named name funs h))
    go (suc n) h = one-less n funs globals name args left never h (fun_named name funs) refl

-- ---- constants

-- functions see the constants alone, which are all that is seen if no name is declared inside
pub constant-is-value : (globals : List Known) (funs : List Fun) (e : Tree)
    → constant e (record { globals = globals; locals = []; funs = funs }) ≡ eval e (calls_of funs) (record { globals = constants globals; locals = [] }) max_turns
constant-is-value globals funs e =
    let env : Env = record { globals = constants globals; locals = [] } in
    agree-is (eval e (constant_calls (record { globals = globals; locals = []; funs = funs })) env max_turns) (eval e (calls_of funs) env max_turns)
    (eval-agrees ⊥ any_name any_name (constant_calls (record { globals = globals; locals = []; funs = funs })) (calls_of funs) e env env max_turns
    (record { names = λ name. match-same (look_up name env); calls = λ name p args left. agree-same ⊥ (calls_of funs (constants globals) name args left) }) (any-call e))
