-- Evaluation over environments in which the names that a part says mean the same; what calls no function, or functions
-- that give the same.
use Rattle.std.proofs.Common.{◌≡◌, ℕ, zero, suc, ◌+ℤ◌, ℤ, pos, true, false, List, refl, ap, ◌∙◌, Some}
use Rattle.std.specs.Prelude.{if◌then◌else◌}
use Rattle.std.specs.Str.{bytes_eq}
use Rattle.rvc_base.specs.Turns.{max_turns}
use Rattle.cal_ast.specs.declared.expr.BinOp.{BinOp}
use Rattle.cal_ast.specs.declared.expr.BinOp.TheVariants.{Or, And}
use Rattle.cal_ast.specs.Tree as tree
use Rattle.cal_ast.specs.Tree.{Tree}
use Rattle.cal_model.specs.Value.{Value, Num, Truth, Items, Values, Cons, one, joined, stored}
use Rattle.cal_model.specs.Outcome.{Out, Gives, Traps, Lacks, Clashes, alone, and_then, known, needed, turn}
use Rattle.cal_model.specs.Env.{Env, Var, look_up, variable, with_local}
use Rattle.cal_model.specs.Expression.{Calls, Given, applied, args_given, chosen, each_from, elements, eval, eval_all, indexed, prefixed, range_of, size_of_value, span, type_meant, type_named, with_right}
use Rattle.check_functions.proofs.Bare.{SaysOnly}

-- ---- outcomes

then-same : {A B : Type 0} (o p : Out A) (f g : A → ℕ → Out B) → o ≡ p → ((a : A) (m : ℕ) → f a m ≡ g a m) → and_then o f ≡ and_then p g
then-same {A} {B} o p f g e h = ap (λ q. and_then q f) e ∙ go p
  where
    go : (p : Out A) → and_then p f ≡ and_then p g
    go (Gives a m) = h a m
    go (Traps c) = refl
    go Lacks = refl
    go Clashes = refl

turn-same : {A : Type 0} (left : ℕ) (f g : ℕ → Out A) → ((k : ℕ) → f k ≡ g k) → turn left f ≡ turn left g
turn-same zero f g h = refl
turn-same (suc left) f g h = h left

chosen-same : (v : Value) (f g f' g' : ℕ → Out Value) (left : ℕ) → ((k : ℕ) → f k ≡ f' k) → ((k : ℕ) → g k ≡ g' k) → chosen v f g left ≡ chosen v f' g' left
chosen-same (Truth true) f g f' g' left h i = h left
chosen-same (Truth false) f g f' g' left h i = i left
chosen-same (Num z) f g f' g' left h i = refl
chosen-same (Items vs) f g f' g' left h i = refl

right-same : (op : BinOp) (v : Value) (f g : ℕ → Out Value) (left : ℕ) → ((k : ℕ) → f k ≡ g k) → with_right op v f left ≡ with_right op v g left
right-same And (Truth false) f g left h = refl
right-same Or (Truth true) f g left h = refl
right-same op v f g left h = ap (λ o. and_then o (λ w m. applied op v w m)) (h left)

range-same : (a b : Value) (f g : ℤ → ℤ → Out Values) → ((low high : ℤ) → f low high ≡ g low high) → range_of a b f ≡ range_of a b g
range-same (Num a) (Num b) f g h = h a b
range-same v w f g h = refl

each-same : (n : ℕ) (i : ℤ) (f g : ℤ → ℕ → Out Values) (left : ℕ) → ((j : ℤ) (k : ℕ) → f j k ≡ g j k) → each_from n i f left ≡ each_from n i g left
each-same zero i f g left h = refl
each-same (suc n) i f g left h =
    then-same (f i left) (g i left) _ _ (h i left) (λ vs m.
    ap (λ o. and_then o (λ ws k. Gives (joined vs ws) k)) (each-same n (i +ℤ pos 1) f g m h))

module _ (P : List ℕ → Type 0) (C : List ℕ → Type 0) where
  module _ (c d : Calls) where
    -- ---- environments

    -- the names of which P holds mean the same, and functions give the same if calls are allowed
    pub record SeeSame (x y : Env) : Type 0 where
      pub names : (name : List ℕ) → P name → look_up name x ≡ look_up name y
      pub given : (name : List ℕ) → C name → (args : Values) (left : ℕ) → c x.globals name args left ≡ d y.globals name args left

    pub more-same : (z : Var) (x y : Env) → SeeSame x y → SeeSame (with_local z x) (with_local z y)
    more-same z x y s = record {
      names = λ name p. ap (λ o. if bytes_eq z.name name then Some z.value else o) (s.names name p);
      given = s.given;
    }

    -- ---- evaluation

    mutual
      pub eval-same : (e : Tree) (x y : Env) (left : ℕ) → SeeSame x y → SaysOnly P C true e → eval e c x left ≡ eval e d y left
      eval-same (tree.number n at) x y left s r = refl
      eval-same (tree.truth b at) x y left s r = refl
      eval-same (tree.variable name at) x y left s r = ap (λ o. known o left) (s.names name r)
      eval-same (tree.call name args at) x y left s r =
          then-same (eval_all args c x left) (eval_all args d y left) _ _ (all-same args x y left s r.1) (λ vs m. turn-same m _ _ (λ k. s.given name r.0 vs k))
      eval-same (tree.paren e at) x y left s r = eval-same e x y left s r
      eval-same (tree.if_expr test first other at) x y left s r =
          then-same (eval test c x left) (eval test d y left) _ _ (eval-same test x y left s r.0) (λ v m.
          chosen-same v _ _ _ _ m (λ k. eval-same first x y k s r.1) (λ k. eval-same other x y k s r.2))
      eval-same (tree.list items at) x y left s r = ap (λ o. and_then o (λ vs m. Gives (Items vs) m)) (all-same items x y left s r)
      eval-same (tree.comp item gens at) x y left s r =
          ap (λ o. and_then o (λ vs m. Gives (Items vs) m))
          (elements-same gens (λ inner k. eval item c inner k) (λ inner k. eval item d inner k) x y left s r.1 (λ v w k b. eval-same item v w k b r.0))
      eval-same (tree.index base place at) x y left s r =
          then-same (eval base c x left) (eval base d y left) _ _ (eval-same base x y left s r.0) (λ v m.
          ap (λ o. and_then o (λ i k. indexed v i k)) (eval-same place x y m s r.1))
      eval-same (tree.prefix op e at) x y left s r = ap (λ o. and_then o (λ v m. prefixed op v m)) (eval-same e x y left s r)
      eval-same (tree.binary op l o at) x y left s r =
          then-same (eval l c x left) (eval l d y left) _ _ (eval-same l x y left s r.0) (λ v m. right-same op v _ _ m (λ k. eval-same o x y k s r.1))
      eval-same other x y left s r = refl

      all-same : (es : Tree) (x y : Env) (left : ℕ) → SeeSame x y → SaysOnly P C true es → eval_all es c x left ≡ eval_all es d y left
      all-same tree.nil x y left s r = refl
      all-same (tree.cons e es) x y left s r =
          then-same (eval e c x left) (eval e d y left) _ _ (eval-same e x y left s r.0) (λ v m.
          ap (λ o. and_then o (λ vs k. Gives (Cons v vs) k)) (all-same es x y m s r.1))
      all-same other x y left s r = refl

      elements-same : (gens : Tree) (f g : Env → ℕ → Out Value) (x y : Env) (left : ℕ) → SeeSame x y → SaysOnly P C true gens
          → ((v w : Env) (k : ℕ) → SeeSame v w → f v k ≡ g w k) → elements gens f c x left ≡ elements gens g d y left
      elements-same tree.nil f g x y left s r h = turn-same left _ _ (λ m. ap (λ o. and_then o (λ v k. Gives (one v) k)) (h x y m s))
      elements-same (tree.cons (tree.gen shape (tree.ident name place) from to at) gens) f g x y left s r h =
          then-same (type_meant shape c x left) (type_meant shape d y left) _ _ (type-same shape x y left s r.0.0) (λ t n.
          then-same (alone (eval from c x max_turns) n) (alone (eval from d y max_turns) n) _ _ (ap (λ o. alone o n) (eval-same from x y max_turns s r.0.1)) (λ v j.
          then-same (alone (eval to c x max_turns) j) (alone (eval to d y max_turns) j) _ _ (ap (λ o. alone o j) (eval-same to x y max_turns s r.0.2)) (λ w k.
          range-same v w _ _ (λ low high.
          each-same (span low high) low _ _ k (λ i m.
          elements-same gens f g (with_local (variable name t false (stored t (Num i))) x) (with_local (variable name t false (stored t (Num i))) y) m
          (more-same (variable name t false (stored t (Num i))) x y s) r.1 h)))))
      elements-same other f g x y left s r h = refl

      type-same : (shape : Tree) (x y : Env) (left : ℕ) → SeeSame x y → SaysOnly P C true shape → type_meant shape c x left ≡ type_meant shape d y left
      type-same (tree.type_of (tree.ident name place) args at) x y left s r =
          ap (λ o. and_then o (λ given m. needed (type_named name given) m)) (args-same args x y left s r)
      type-same other x y left s r = refl

      args-same : (args : Tree) (x y : Env) (left : ℕ) → SeeSame x y → SaysOnly P C true args → args_given args c x left ≡ args_given args d y left
      args-same tree.nil x y left s r = refl
      args-same (tree.cons (tree.shape_arg name shape) args) x y left s r =
          then-same (type_meant shape c x left) (type_meant shape d y left) _ _ (type-same shape x y left s r.0) (λ t m.
          ap (λ o. and_then {B = Given} o (λ given k. Gives (record given { items = Some t }) k)) (args-same args x y m s r.1))
      args-same (tree.cons (tree.value_arg name value) args) x y left s r =
          then-same (alone (eval value c x max_turns) left) (alone (eval value d y max_turns) left) _ _ (ap (λ o. alone o left) (eval-same value x y max_turns s r.0)) (λ v m.
          ap (λ o. and_then {B = Given} o (λ given k. Gives (record given { size = size_of_value v }) k)) (args-same args x y m s r.1))
      args-same other x y left s r = refl
