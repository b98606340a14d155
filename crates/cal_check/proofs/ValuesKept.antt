-- What is written out has the value of its source, wherever the constants mean what they mean in the source.
use Rattle.std.proofs.Common.{◌≡◌, ℕ, zero, suc, ◌+ℤ◌, ℤ, pos, Bool, true, false, List, [], ◌∷◌, ◌++◌, refl, sym, ap, subst, ◌∙◌, Option, None, Some}
use Rattle.std.specs.Prelude.{if◌then◌else◌}
use Rattle.std.specs.Str.{bytes_eq}
use Rattle.rvc_base.specs.Turns.{max_turns}
use Rattle.rvc_base.specs.Rules.{wrong_kind}
use Rattle.cal_ast.specs.declared.expr.BinOp.{BinOp}
use Rattle.cal_ast.specs.declared.expr.BinOp.TheVariants.{Or, And}
use Rattle.cal_ast.specs.Places.{begins}
use Rattle.cal_ast.specs.Tree as tree
use Rattle.cal_ast.specs.Tree.{Tree}
use Rattle.cal_model.specs.Value.{Kind, Shape, Single, Value, Num, Truth, Items, Values, Cons, one, kind_of_type, stored}
use Rattle.cal_model.specs.Outcome.{Out, Gives, Traps, Lacks, Clashes, alone, and_then, known, needed, turn}
use Rattle.cal_model.specs.Env.{Env, Var, find, look_up, variable, with_local}
use Rattle.cal_model.specs.Expression.{Calls, Given, applied, args_given, chosen, each_from, elements, eval, eval_all, indexed, prefixed, range_of, size_of_value, span, type_meant, type_named, with_right}
use Rattle.cal_model.specs.Actor.{Fun, Local}
use Rattle.cal_model.specs.Call.{answered, arguments, calls_of, calls_within, declared, first_value, fun_named}
use Rattle.cal_model.specs.Keeping.{HasAllOf, HasEach, IsEnvOf, StandFor}
use Rattle.cal_model.specs.Kinding.{Fine, Known, Names, Argument, arguments_fit, constant, constant_calls, constant_number, constants, counter, counts, elements_in, is_word, kind, kinds, known_as, one_kind, type_arguments, type_judged, with_counters, with_known, without}
use Rattle.cal_model.proofs.KindNames.{same-text}
use Rattle.cal_model.proofs.KindValues.{not-fine, split, tested}
use Rattle.cal_check.specs.Laws.{ConstantsFit}
use Rattle.cal_check.specs.Written.{constant_written, gens_written, written}
use Rattle.cal_check.proofs.KeptKinds.{constant-gives, fit-inside, fit-more, given-is, is-a-number, number-gives}
use Rattle.cal_check.proofs.PlainTrees.{by-number, fun-called}
use Rattle.cal_check.proofs.SameCalls.{chosen-same, each-same, range-same, right-same, then-same, turn-same}

-- ---- outcomes: the same, if nothing is lacking

abbrev pub Below : {A : Type 0} → Out A → Out A → Type 0
Below Lacks p = Unit {0}
Below (Gives a k) p = p ≡ Gives a k
Below (Traps c) p = p ≡ Traps c
Below Clashes p = p ≡ Clashes

below-self : {A : Type 0} (o : Out A) → Below o o
below-self Lacks = tt
below-self (Gives a k) = refl
below-self (Traps c) = refl
below-self Clashes = refl

below-then : {A B : Type 0} (o p : Out A) (f g : A → ℕ → Out B) → Below o p → ((a : A) (k : ℕ) → Below (f a k) (g a k)) → Below (and_then o f) (and_then p g)
below-then Lacks p f g h i = tt
below-then (Gives a k) p f g h i = subst (λ q. Below (f a k) (and_then q g)) (sym h) (i a k)
below-then (Traps c) p f g h i = ap (λ q. and_then q g) h
below-then Clashes p f g h i = ap (λ q. and_then q g) h

below-alone : {A : Type 0} (o p : Out A) (left : ℕ) → Below o p → Below (alone o left) (alone p left)
below-alone Lacks p left h = tt
below-alone (Gives a k) p left h = ap (λ q. alone q left) h
below-alone (Traps c) p left h = ap (λ q. alone q left) h
below-alone Clashes p left h = ap (λ q. alone q left) h

below-turn : {A : Type 0} (left : ℕ) (f g : ℕ → Out A) → ((k : ℕ) → Below (f k) (g k)) → Below (turn left f) (turn left g)
below-turn zero f g h = refl
below-turn (suc left) f g h = h left

below-chosen : (v : Value) (f g f' g' : ℕ → Out Value) (left : ℕ) → ((k : ℕ) → Below (f k) (f' k)) → ((k : ℕ) → Below (g k) (g' k)) → Below (chosen v f g left) (chosen v f' g' left)
below-chosen (Truth true) f g f' g' left h i = h left
below-chosen (Truth false) f g f' g' left h i = i left
below-chosen (Num z) f g f' g' left h i = refl
below-chosen (Items vs) f g f' g' left h i = refl

below-right : (op : BinOp) (v : Value) (f g : ℕ → Out Value) (left : ℕ) → ((k : ℕ) → Below (f k) (g k)) → Below (with_right op v f left) (with_right op v g left)
below-right And (Truth false) f g left h = refl
below-right Or (Truth true) f g left h = refl
below-right op v f g left h = below-then (f left) (g left) (λ w m. applied op v w m) (λ w m. applied op v w m) (h left) (λ w m. below-self (applied op v w m))

below-range : (a b : Value) (f g : ℤ → ℤ → Out Values) → ((low high : ℤ) → Below (f low high) (g low high)) → Below (range_of a b f) (range_of a b g)
below-range (Num a) (Num b) f g h = h a b
below-range v w f g h = refl

below-each : (n : ℕ) (i : ℤ) (f g : ℤ → ℕ → Out Values) (left : ℕ) → ((j : ℤ) (k : ℕ) → Below (f j k) (g j k)) → Below (each_from n i f left) (each_from n i g left)
below-each zero i f g left h = refl
below-each (suc n) i f g left h =
    below-then (f i left) (g i left) _ _ (h i left) (λ vs m.
    below-then (each_from n (i +ℤ pos 1) f m) (each_from n (i +ℤ pos 1) g m) _ _ (below-each n (i +ℤ pos 1) f g m h) (λ ws k. refl))

-- ---- environments: what is found in one is found in the other

abbrev pub MeansNoLess : Option Value → Option Value → Type 0
MeansNoLess None p = Unit {0}
MeansNoLess (Some v) p = p ≡ Some v

pub record Grown (c d : Calls) (x y : Env) : Type 0 where
  pub names : (name : List ℕ) → MeansNoLess (look_up name x) (look_up name y)
  pub calls : (name : List ℕ) (args : Values) (left : ℕ) → Below (c x.globals name args left) (d y.globals name args left)

below-known : (o p : Option Value) (left : ℕ) → MeansNoLess o p → Below (known o left) (known p left)
below-known None p left h = tt
below-known (Some v) p left h = ap (λ q. known q left) h

more-if : (b : Bool) (v : Value) (o p : Option Value) → MeansNoLess o p → MeansNoLess (if b then Some v else o) (if b then Some v else p)
more-if true v o p h = refl
more-if false v o p h = h

grown-local : (c d : Calls) (x y : Env) (z : Var) → Grown c d x y → Grown c d (with_local z x) (with_local z y)
grown-local c d x y z a = record { names = λ name. more-if (bytes_eq z.name name) z.value (look_up name x) (look_up name y) (a.names name); calls = a.calls }

module _ (c d : Calls) where
  mutual
    pub eval-below : (e : Tree) (x y : Env) (left : ℕ) → Grown c d x y → Below (eval e c x left) (eval e d y left)
    eval-below (tree.number n at) x y left a = below-self (eval (tree.number n at) c x left)
    eval-below (tree.truth b at) x y left a = refl
    eval-below (tree.variable name at) x y left a = below-known (look_up name x) (look_up name y) left (a.names name)
    eval-below (tree.call name args at) x y left a =
        below-then (eval_all args c x left) (eval_all args d y left) _ _ (all-below args x y left a) (λ vs m. below-turn m _ _ (λ k. a.calls name vs k))
    eval-below (tree.paren e at) x y left a = eval-below e x y left a
    eval-below (tree.if_expr test first other at) x y left a =
        below-then (eval test c x left) (eval test d y left) _ _ (eval-below test x y left a) (λ v m.
        below-chosen v _ _ _ _ m (λ k. eval-below first x y k a) (λ k. eval-below other x y k a))
    eval-below (tree.list items at) x y left a = below-then (eval_all items c x left) (eval_all items d y left) _ _ (all-below items x y left a) (λ vs m. refl)
    eval-below (tree.comp item gens at) x y left a =
        below-then (elements gens (λ inner k. eval item c inner k) c x left) (elements gens (λ inner k. eval item d inner k) d y left) _ _
        (elements-below gens (λ inner k. eval item c inner k) (λ inner k. eval item d inner k) x y left a (λ v w k b. eval-below item v w k b)) (λ vs m. refl)
    eval-below (tree.index base place at) x y left a =
        below-then (eval base c x left) (eval base d y left) _ _ (eval-below base x y left a) (λ v m.
        below-then (eval place c x m) (eval place d y m) _ _ (eval-below place x y m a) (λ i k. below-self (indexed v i k)))
    eval-below (tree.prefix op e at) x y left a = below-then (eval e c x left) (eval e d y left) _ _ (eval-below e x y left a) (λ v m. below-self (prefixed op v m))
    eval-below (tree.binary op l o at) x y left a =
        below-then (eval l c x left) (eval l d y left) _ _ (eval-below l x y left a) (λ v m. below-right op v _ _ m (λ k. eval-below o x y k a))
    eval-below other x y left a = refl

    all-below : (es : Tree) (x y : Env) (left : ℕ) → Grown c d x y → Below (eval_all es c x left) (eval_all es d y left)
    all-below tree.nil x y left a = refl
    all-below (tree.cons e es) x y left a =
        below-then (eval e c x left) (eval e d y left) _ _ (eval-below e x y left a) (λ v m.
        below-then (eval_all es c x m) (eval_all es d y m) _ _ (all-below es x y m a) (λ vs k. refl))
    all-below other x y left a = refl

    elements-below : (gens : Tree) (f g : Env → ℕ → Out Value) (x y : Env) (left : ℕ) → Grown c d x y
        → ((v w : Env) (k : ℕ) → Grown c d v w → Below (f v k) (g w k)) → Below (elements gens f c x left) (elements gens g d y left)
    elements-below tree.nil f g x y left a h = below-turn left _ _ (λ m. below-then (f x m) (g y m) _ _ (h x y m a) (λ v k. refl))
    elements-below (tree.cons (tree.gen shape (tree.ident name place) from to at) gens) f g x y left a h =
        below-then (type_meant shape c x left) (type_meant shape d y left) _ _ (type-below shape x y left a) (λ t n.
        below-then (alone (eval from c x max_turns) n) (alone (eval from d y max_turns) n) _ _ (below-alone (eval from c x max_turns) (eval from d y max_turns) n (eval-below from x y max_turns a)) (λ v j.
        below-then (alone (eval to c x max_turns) j) (alone (eval to d y max_turns) j) _ _ (below-alone (eval to c x max_turns) (eval to d y max_turns) j (eval-below to x y max_turns a)) (λ w k.
        below-range v w _ _ (λ low high.
        below-each (span low high) low _ _ k (λ i m.
        elements-below gens f g (with_local (variable name t false (stored t (Num i))) x) (with_local (variable name t false (stored t (Num i))) y) m
        (grown-local c d x y (variable name t false (stored t (Num i))) a) h)))))
    elements-below other f g x y left a h = refl

    type-below : (shape : Tree) (x y : Env) (left : ℕ) → Grown c d x y → Below (type_meant shape c x left) (type_meant shape d y left)
    type-below (tree.type_of (tree.ident name place) args at) x y left a =
        below-then (args_given args c x left) (args_given args d y left) _ _ (args-below args x y left a) (λ given m. below-self (needed (type_named name given) m))
    type-below other x y left a = refl

    args-below : (args : Tree) (x y : Env) (left : ℕ) → Grown c d x y → Below (args_given args c x left) (args_given args d y left)
    args-below tree.nil x y left a = refl
    args-below (tree.cons (tree.shape_arg name shape) args) x y left a =
        below-then (type_meant shape c x left) (type_meant shape d y left) _ _ (type-below shape x y left a) (λ t m.
        below-then (args_given args c x m) (args_given args d y m) _ _ (args-below args x y m a) (λ given k. refl))
    args-below (tree.cons (tree.value_arg name value) args) x y left a =
        below-then (alone (eval value c x max_turns) left) (alone (eval value d y max_turns) left) _ _ (below-alone (eval value c x max_turns) (eval value d y max_turns) left (eval-below value x y max_turns a)) (λ v m.
        below-then (args_given args c x m) (args_given args d y m) _ _ (args-below args x y m a) (λ given k. refl))
    args-below other x y left a = refl

  -- ---- what functions give

  first-below : (t : Shape) (start : Option Tree) (x y : Env) (left : ℕ) → Grown c d x y → Below (first_value t start c x left) (first_value t start d y left)
  first-below t None x y left a = refl
  first-below t (Some e) x y left a = below-then (eval e c x left) (eval e d y left) _ _ (eval-below e x y left a) (λ v k. refl)

  then-then : {A B C : Type 0} (o : Out A) (f : A → ℕ → Out B) (g : B → ℕ → Out C) → and_then (and_then o f) g ≡ and_then o (λ a k. and_then (f a k) g)
  then-then (Gives a k) f g = refl
  then-then (Traps t) f g = refl
  then-then Lacks f g = refl
  then-then Clashes f g = refl

  declared-below : {B : Type 0} (xs : List Local) (x y : Env) (left : ℕ) (f g : Env → ℕ → Out B) → Grown c d x y
      → ((v w : Env) (k : ℕ) → Grown c d v w → Below (f v k) (g w k)) → Below (and_then (declared xs c x left) f) (and_then (declared xs d y left) g)
  declared-below [] x y left f g a h = h x y left a
  declared-below (z ∷ zs) x y left f g a h =
      subst (λ o. Below o (and_then (declared (z ∷ zs) d y left) g))
      (sym (then-then (first_value z.shape z.start c x left) (λ v m. declared zs c (with_local (variable z.name z.shape z.changes v) x) m) f))
      (subst (λ o. Below (and_then (first_value z.shape z.start c x left) (λ v m. and_then (declared zs c (with_local (variable z.name z.shape z.changes v) x) m) f)) o)
      (sym (then-then (first_value z.shape z.start d y left) (λ v m. declared zs d (with_local (variable z.name z.shape z.changes v) y) m) g))
      (below-then (first_value z.shape z.start c x left) (first_value z.shape z.start d y left) _ _ (first-below z.shape z.start x y left a) (λ v m.
      declared-below zs (with_local (variable z.name z.shape z.changes v) x) (with_local (variable z.name z.shape z.changes v) y) m f g
      (grown-local c d x y (variable z.name z.shape z.changes v) a) h)))

  abbrev answered_by : Calls → Fun → List Var → Option (List Var) → ℕ → Out Value
  answered_by e f globals o left =
      and_then (and_then (needed o left) (λ vars k. Gives (record { globals = globals; locals = vars }) k)) (λ entry h.
      and_then (declared f.locals e entry h) (λ env m.
      and_then (eval f.body e env m) (λ v k. Gives (stored (Single f.result) v) k)))

  more-after : (name : List ℕ) (vars xs ys : List Var) → MeansNoLess (find name xs) (find name ys) → MeansNoLess (find name (vars ++ xs)) (find name (vars ++ ys))
  more-after name [] xs ys h = h
  more-after name (z ∷ zs) xs ys h = more-if (bytes_eq z.name name) z.value (find name (zs ++ xs)) (find name (zs ++ ys)) (more-after name zs xs ys h)

  answered-below : (f : Fun) (xs ys : List Var) (args : Values) (left : ℕ) → ((name : List ℕ) → MeansNoLess (find name xs) (find name ys))
      → ((name : List ℕ) (vs : Values) (k : ℕ) → Below (c xs name vs k) (d ys name vs k)) → Below (answered f c xs args left) (answered f d ys args left)
  answered-below f xs ys args left names calls = go (arguments f.formals args)
    where
      go : (o : Option (List Var)) → Below (answered_by c f xs o left) (answered_by d f ys o left)
      go None = refl
      go (Some vars) =
          declared-below f.locals (record { globals = xs; locals = vars }) (record { globals = ys; locals = vars }) left _ _
          (record { names = λ name. more-after name vars xs ys (names name); calls = calls })
          (λ v w m a. below-then (eval f.body c v m) (eval f.body d w m) _ _ (eval-below f.body v w m a) (λ u k. refl))

pub calls-below : (n : ℕ) (funs : List Fun) (xs ys : List Var) → ((name : List ℕ) → MeansNoLess (find name xs) (find name ys)) → (name : List ℕ) (args : Values) (left : ℕ)
    → Below (calls_within n funs xs name args left) (calls_within n funs ys name args left)
calls-below zero funs xs ys h name args left = tt
calls-below (suc n) funs xs ys h name args left = go (fun_named name funs) (λ other vs k. calls-below n funs xs ys h other vs k)
  where
    go : (o : Option Fun) → ((other : List ℕ) (vs : Values) (k : ℕ) → Below (calls_within n funs xs other vs k) (calls_within n funs ys other vs k))
        → Below (elim o [ None ↦ Lacks | Some f ↦ answered f (calls_within n funs) xs args left ]) (elim o [ None ↦ Lacks | Some f ↦ answered f (calls_within n funs) ys args left ])
    go None less = tt
    go (Some f) less = answered-below (calls_within n funs) (calls_within n funs) f xs ys args left h less

-- ---- constants

abbrev pub constant_env : Names → Env
constant_env names = record { globals = constants (names.locals ++ names.globals); locals = [] }

-- each constant means in an environment what it is known with
abbrev pub Extends : Names → Calls → Env → Type 0
Extends names calls env = Grown (constant_calls names) calls (constant_env names) env

gone : (n name : List ℕ) (ys : List Var) → bytes_eq name n ≡ true → find n (without name ys) ≡ None
gone n name [] e = refl
gone n name (y ∷ ys) e = go (bytes_eq y.name name) refl (gone n name ys e)
  where
    other : (b : Bool) → bytes_eq y.name n ≡ b → bytes_eq y.name name ≡ false → find n (without name ys) ≡ None → (if b then Some y.value else find n (without name ys)) ≡ None
    other true f g rest = absurd (let w : false ≡ true = sym g ∙ ap (λ t. bytes_eq y.name t) (same-text name n e) ∙ f in cc)
    other false f g rest = rest

    go : (a : Bool) → bytes_eq y.name name ≡ a → find n (without name ys) ≡ None → find n (if a then without name ys else y ∷ without name ys) ≡ None
    go true f rest = rest
    go false f rest = other (bytes_eq y.name n) refl f rest

stays : (n name : List ℕ) (ys : List Var) → bytes_eq name n ≡ false → find n (without name ys) ≡ find n ys
stays n name [] e = refl
stays n name (y ∷ ys) e = go (bytes_eq y.name name) refl (stays n name ys e)
  where
    go : (a : Bool) → bytes_eq y.name name ≡ a → find n (without name ys) ≡ find n ys → find n (if a then without name ys else y ∷ without name ys) ≡ (if bytes_eq y.name n then Some y.value else find n ys)
    go true f rest = rest ∙ sym (ap (λ b. if b then Some y.value else find n ys) (ap (λ t. bytes_eq t n) (same-text y.name name f) ∙ e))
    go false f rest = ap (λ o. if bytes_eq y.name n then Some y.value else o) rest

pub hidden-more : (n name : List ℕ) (ys : List Var) (v : Value) (o : Option Value) → MeansNoLess (find n ys) o → MeansNoLess (find n (without name ys)) (if bytes_eq name n then Some v else o)
hidden-more n name ys v o h = go (bytes_eq name n) refl
  where
    go : (b : Bool) → bytes_eq name n ≡ b → MeansNoLess (find n (without name ys)) (if b then Some v else o)
    go true e = subst (λ x. MeansNoLess x (Some v)) (sym (gone n name ys e)) tt
    go false e = subst (λ x. MeansNoLess x o) (sym (stays n name ys e)) h

-- a variable inside that is no constant
extends-more : (name : List ℕ) (t : Shape) (i : ℤ) (names : Names) (calls : Calls) (env : Env) → Extends names calls env
    → Extends (with_known (counter name) names) calls (with_local (variable name t false (stored t (Num i))) env)
extends-more name t i names calls env g = record {
  names = λ n. hidden-more n name (constants (names.locals ++ names.globals)) (stored t (Num i)) (look_up n env) (g.names n);
  calls = g.calls;
}

-- what is written for a constant number gives what the expression gives
constant-value : (e : Tree) (names : Names) (z : ℤ) (calls : Calls) (env : Env) (left : ℕ) → ConstantsFit names → Extends names calls env → constant_number (kind e names) e names ≡ Fine z
    → alone (eval (constant_written e names) calls env max_turns) left ≡ alone (eval e calls env max_turns) left
constant-value e names z calls env left fit g h =
    let value = given-is (constant e names) (begins e) z (constant-gives (kind e names) e names z h) in
    let below : Below (Gives (Num z) value.0) (eval e calls env max_turns) =
    subst (λ o. Below o (eval e calls env max_turns)) value.1 (eval-below (constant_calls names) calls e (constant_env names) env max_turns g) in
    let number = (number-gives z (begins e) (is-a-number e names z fit h)).gives calls env max_turns in
    ap (λ t. alone (eval t calls env max_turns) left) (by-number e names z h)
    ∙ ap (λ o. alone o left) number
    ∙ sym (ap (λ o. alone o left) below)

-- ---- expressions

mutual
  pub value-kept : (e : Tree) (names : Names) (k : Kind) (calls : Calls) (env : Env) (left : ℕ) → ConstantsFit names → Extends names calls env → kind e names ≡ Fine k
      → eval (written e names) calls env left ≡ eval e calls env left
  value-kept (tree.number n at) names k calls env left fit g h = refl
  value-kept (tree.truth b at) names k calls env left fit g h = refl
  value-kept (tree.variable name at) names k calls env left fit g h = refl
  value-kept (tree.call name args at) names k calls env left fit g h =
      let f = fun-called (fun_named name names.funs) args at names _ k h in
      ap (λ o. and_then o (λ vs m. turn m (λ j. calls env.globals name vs j))) (arguments-values args f.0.formals names f.1 calls env left fit g f.3)
  value-kept (tree.paren e at) names k calls env left fit g h = value-kept e names k calls env left fit g h
  value-kept (tree.if_expr test first other at) names k calls env left fit g h =
      let c = split (kind test names) _ k h in
      let t = split (kind first names) _ k c.2 in
      let u = split (kind other names) _ k t.2 in
      then-same (eval (written test names) calls env left) (eval test calls env left) _ _ (value-kept test names c.0 calls env left fit g c.1) (λ v m.
      chosen-same v _ _ _ _ m (λ j. value-kept first names t.0 calls env j fit g t.1) (λ j. value-kept other names u.0 calls env j fit g u.1))
  value-kept (tree.list items at) names k calls env left fit g h =
      let ks = split (kinds items names) _ k h in
      ap (λ o. and_then o (λ vs m. Gives (Items vs) m)) (all-values items names ks.0 calls env left fit g ks.1)
  value-kept (tree.comp item gens at) names k calls env left fit g h =
      let i = split (kind item (with_counters gens names)) _ k h in
      let n = split (elements_in gens names) _ k i.2 in
      ap (λ o. and_then o (λ vs m. Gives (Items vs) m))
      (elements-values gens names n.0 (λ inner j. eval (written item (with_counters gens names)) calls inner j) (λ inner j. eval item calls inner j) calls env left fit g n.1
      (λ inner j f. value-kept item (with_counters gens names) i.0 calls inner j (fit-inside gens names fit) f i.1))
  value-kept (tree.index base place at) names k calls env left fit g h =
      let b = split (kind base names) _ k h in
      let p = split (kind place names) _ k b.2 in
      then-same (eval (written base names) calls env left) (eval base calls env left) _ _ (value-kept base names b.0 calls env left fit g b.1) (λ v m.
      ap (λ o. and_then o (λ i j. indexed v i j)) (value-kept place names p.0 calls env m fit g p.1))
  value-kept (tree.prefix op e at) names k calls env left fit g h =
      let p = split (kind e names) _ k h in
      ap (λ o. and_then o (λ v m. prefixed op v m)) (value-kept e names p.0 calls env left fit g p.1)
  value-kept (tree.binary op l r at) names k calls env left fit g h =
      let p = split (kind l names) _ k h in
      let q = split (kind r names) _ k p.2 in
      then-same (eval (written l names) calls env left) (eval l calls env left) _ _ (value-kept l names p.0 calls env left fit g p.1) (λ v m.
      right-same op v _ _ m (λ j. value-kept r names q.0 calls env j fit g q.1))
  value-kept other names k calls env left fit g h = absurd (not-fine wrong_kind 0 k h)

  pub all-values : (es : Tree) (names : Names) (ks : List Kind) (calls : Calls) (env : Env) (left : ℕ) → ConstantsFit names → Extends names calls env → kinds es names ≡ Fine ks
      → eval_all (written es names) calls env left ≡ eval_all es calls env left
  all-values tree.nil names ks calls env left fit g h = refl
  all-values (tree.cons e es) names ks calls env left fit g h =
      let p = split (kind e names) _ ks h in
      let q = split (kinds es names) _ ks p.2 in
      then-same (eval (written e names) calls env left) (eval e calls env left) _ _ (value-kept e names p.0 calls env left fit g p.1) (λ v m.
      ap (λ o. and_then o (λ vs j. Gives (Cons v vs) j)) (all-values es names q.0 calls env m fit g q.1))
  all-values other names ks calls env left fit g h = absurd (not-fine wrong_kind 0 ks h)

  pub arguments-values : (args : Tree) (fs : List Local) (names : Names) (b : Bool) (calls : Calls) (env : Env) (left : ℕ) → ConstantsFit names → Extends names calls env
      → arguments_fit args fs names ≡ Fine b → eval_all (written args names) calls env left ≡ eval_all args calls env left
  arguments-values tree.nil fs names b calls env left fit g h = refl
  arguments-values (tree.cons e es) [] names b calls env left fit g h =
      let p = split (kind e names) _ b h in
      let q = split (arguments_fit es [] names) _ b p.2 in
      then-same (eval (written e names) calls env left) (eval e calls env left) _ _ (value-kept e names p.0 calls env left fit g p.1) (λ v m.
      ap (λ o. and_then o (λ vs j. Gives (Cons v vs) j)) (arguments-values es [] names q.0 calls env m fit g q.1))
  arguments-values (tree.cons e es) (f ∷ fs) names b calls env left fit g h =
      let p = split (kind e names) _ b h in
      let q = split (one_kind (kind_of_type f.shape) p.0 (begins e)) (λ l. arguments_fit es fs names) b p.2 in
      then-same (eval (written e names) calls env left) (eval e calls env left) _ _ (value-kept e names p.0 calls env left fit g p.1) (λ v m.
      ap (λ o. and_then o (λ vs j. Gives (Cons v vs) j)) (arguments-values es fs names b calls env m fit g q.2))
  arguments-values other fs names b calls env left fit g h = absurd (not-fine wrong_kind 0 b h)

  elements-values : (gens : Tree) (names : Names) (n : ℕ) (f g : Env → ℕ → Out Value) (calls : Calls) (env : Env) (left : ℕ) → ConstantsFit names → Extends names calls env → elements_in gens names ≡ Fine n
      → ((inner : Env) (j : ℕ) → Extends (with_counters gens names) calls inner → f inner j ≡ g inner j) → elements (gens_written gens names) f calls env left ≡ elements gens g calls env left
  elements-values tree.nil names n f g calls env left fit x h i = turn-same left _ _ (λ m. ap (λ o. and_then o (λ v k. Gives (one v) k)) (i env m x))
  elements-values (tree.cons (tree.gen shape (tree.ident name place) from to at) gens) names n f g calls env left fit x h i =
      let t = split (type_judged shape names) _ n h in
      let c = split (counts t.0 (begins shape)) _ n t.2 in
      let a = split (constant_number (kind from names) from names) _ n c.2 in
      let b = split (constant_number (kind to names) to names) _ n a.2 in
      let m = split (elements_in gens (with_known (counter name) names)) _ n b.2 in
      then-same (type_meant (written shape names) calls env left) (type_meant shape calls env left) _ _ (type-values shape names t.0 calls env left fit x t.1) (λ s o.
      then-same (alone (eval (constant_written from names) calls env max_turns) o) (alone (eval from calls env max_turns) o) _ _ (constant-value from names a.0 calls env o fit x a.1) (λ v j.
      then-same (alone (eval (constant_written to names) calls env max_turns) j) (alone (eval to calls env max_turns) j) _ _ (constant-value to names b.0 calls env j fit x b.1) (λ w k.
      range-same v w _ _ (λ low high.
      each-same (span low high) low _ _ k (λ z p.
      elements-values gens (with_known (counter name) names) m.0 f g calls (with_local (variable name s false (stored s (Num z))) env) p (fit-more (counter name) names refl fit)
      (extends-more name s z names calls env x) m.1 i)))))
  elements-values other names n f g calls env left fit x h i = absurd (not-fine wrong_kind 0 n h)

  pub type-values : (shape : Tree) (names : Names) (t : Shape) (calls : Calls) (env : Env) (left : ℕ) → ConstantsFit names → Extends names calls env → type_judged shape names ≡ Fine t
      → type_meant (written shape names) calls env left ≡ type_meant shape calls env left
  type-values (tree.type_of (tree.ident name place) args at) names t calls env left fit g h =
      let w = tested (is_word name) _ _ place t h in
      let a = split (type_arguments args names) _ t w.1 in
      ap (λ o. and_then o (λ given m. needed (type_named name given) m)) (type-arguments-values args names a.0 calls env left fit g a.1)
  type-values other names t calls env left fit g h = absurd (not-fine wrong_kind 0 t h)

  type-arguments-values : (args : Tree) (names : Names) (a : List Argument) (calls : Calls) (env : Env) (left : ℕ) → ConstantsFit names → Extends names calls env → type_arguments args names ≡ Fine a
      → args_given (written args names) calls env left ≡ args_given args calls env left
  type-arguments-values tree.nil names a calls env left fit g h = refl
  type-arguments-values (tree.cons (tree.shape_arg (tree.ident name place) shape) args) names a calls env left fit g h =
      let t = split (type_judged shape names) _ a h in
      let others = split (type_arguments args names) _ a t.2 in
      then-same (type_meant (written shape names) calls env left) (type_meant shape calls env left) _ _ (type-values shape names t.0 calls env left fit g t.1) (λ s m.
      ap (λ o. and_then {B = Given} o (λ given k. Gives (record given { items = Some s }) k)) (type-arguments-values args names others.0 calls env m fit g others.1))
  type-arguments-values (tree.cons (tree.value_arg (tree.ident name place) value) args) names a calls env left fit g h =
      let z = split (constant_number (kind value names) value names) _ a h in
      let others = split (type_arguments args names) _ a z.2 in
      then-same (alone (eval (constant_written value names) calls env max_turns) left) (alone (eval value calls env max_turns) left) _ _ (constant-value value names z.0 calls env left fit g z.1) (λ v m.
      ap (λ o. and_then {B = Given} o (λ given k. Gives (record given { size = size_of_value v }) k)) (type-arguments-values args names others.0 calls env m fit g others.1))
  type-arguments-values other names a calls env left fit g h = absurd (not-fine wrong_kind 0 a h)

-- ---- environments of names

pub const-known : (name : List ℕ) (xs : List Known) (v : Value) → find name (constants xs) ≡ Some v → (x : Known) × (known_as name xs ≡ Some x) × (x.value ≡ Some v)
const-known name [] v h = absurd (cc)
const-known name (x ∷ xs) v h = go x.value refl (bytes_eq x.name name) refl h (λ e. const-known name xs v e)
  where
    go : (o : Option Value) → x.value ≡ o → (b : Bool) → bytes_eq x.name name ≡ b
        → find name (elim o [ None ↦ without x.name (constants xs) | Some w ↦ record { name = x.name; value = w; kept = None } ∷ constants xs ]) ≡ Some v
        → (find name (constants xs) ≡ Some v → (y : Known) × (known_as name xs ≡ Some y) × (y.value ≡ Some v))
        → (y : Known) × ((if b then Some x else known_as name xs) ≡ Some y) × (y.value ≡ Some v)
    go None e true f i rest = absurd (let w : None ≡ Some v = sym (gone name x.name (constants xs) f) ∙ i in cc)
    go None e false f i rest = rest (sym (stays name x.name (constants xs) f) ∙ i)
    go (Some w) e true f i rest =
        let j : Some w ≡ Some v = sym (ap (λ b. if b then Some w else find name (constants xs)) f) ∙ i in
        (x, refl, e ∙ j)
    go (Some w) e false f i rest = rest (sym (ap (λ b. if b then Some w else find name (constants xs)) f) ∙ i)

no-less : (names : List Known) (vars : List Var) → StandFor names vars → HasEach names vars → (name : List ℕ) → MeansNoLess (find name (constants names)) (find name vars)
no-less names vars stand has name = go (find name (constants names)) refl
  where
    go : (o : Option Value) → find name (constants names) ≡ o → MeansNoLess o (find name vars)
    go None e = tt
    go (Some v) e =
        let x = const-known name names v e in
        let w = has name x.0 x.1 in
        w.1 ∙ ap Some ((stand name x.0 w.0 x.1 w.1).constant v x.2)

pub env-extends : (names : Names) (env : Env) → IsEnvOf names env → HasAllOf names env → Extends names (calls_of names.funs) env
env-extends names env is has = record {
  names = no-less (names.locals ++ names.globals) (env.locals ++ env.globals) is.all has.all;
  calls = λ name args left. calls-below _ names.funs (constants names.globals) env.globals (no-less names.globals env.globals is.globals has.globals) name args left;
}
