-- Expressions give the same where the names that they use mean the same, and the functions that they call give the same.
use Rattle.std.proofs.Common.{◌≡◌, ℕ, false, List, refl, ap, Some}
use Rattle.std.specs.Prelude.{if◌then◌else◌}
use Rattle.std.specs.Str.{bytes_eq}
use Rattle.rvc_base.specs.Turns.{max_turns}
use Rattle.cal_ast.specs.Tree as tree
use Rattle.cal_ast.specs.Tree.{Tree}
use Rattle.cal_model.specs.Value.{Value, Num, Items, Values, Cons, one, stored}
use Rattle.cal_model.specs.Outcome.{Out, Gives, alone, and_then, known, needed}
use Rattle.cal_model.specs.Env.{Env, Var, look_up, variable, with_local}
use Rattle.cal_model.specs.Expression.{Calls, Given, args_given, elements, eval, eval_all, indexed, prefixed, size_of_value, span, type_meant, type_named}
use Rattle.cal_model.specs.Sound.{EachCall}
use Rattle.cal_check.specs.Uses.{OnlyUses}
use Rattle.cal_check.proofs.SameCalls.{chosen-same, each-same, range-same, right-same, then-same, turn-same}

-- in an expression or a type variables of these names are used, and functions of those
abbrev pub InUse : (V Q : List ℕ → Type 0) → Tree → Type 0
InUse V Q (tree.variable text at) = V text
InUse V Q (tree.call text args at) = Q text × InUse V Q args
InUse V Q (tree.cons t ts) = InUse V Q t × InUse V Q ts
InUse V Q (tree.paren e at) = InUse V Q e
InUse V Q (tree.if_expr test first other at) = InUse V Q test × InUse V Q first × InUse V Q other
InUse V Q (tree.list items at) = InUse V Q items
InUse V Q (tree.comp item gens at) = InUse V Q item × InUse V Q gens
InUse V Q (tree.gen shape x from to at) = InUse V Q shape × InUse V Q from × InUse V Q to
InUse V Q (tree.index base place at) = InUse V Q base × InUse V Q place
InUse V Q (tree.prefix op e at) = InUse V Q e
InUse V Q (tree.binary op l r at) = InUse V Q l × InUse V Q r
InUse V Q (tree.type_of x args at) = InUse V Q args
InUse V Q (tree.shape_arg x shape) = InUse V Q shape
InUse V Q (tree.value_arg x value) = InUse V Q value
InUse V Q other = Unit {0}

pub used-in : (V : List ℕ → Type 0) (e : Tree) → OnlyUses V e → InUse V V e
used-in V (tree.variable text at) h = h
used-in V (tree.call text args at) h = (h.0, used-in V args h.1)
used-in V (tree.cons t ts) h = (used-in V t h.0, used-in V ts h.1)
used-in V (tree.paren e at) h = used-in V e h
used-in V (tree.if_expr test first other at) h = (used-in V test h.0, used-in V first h.1, used-in V other h.2)
used-in V (tree.list items at) h = used-in V items h
used-in V (tree.comp item gens at) h = (used-in V item h.0, used-in V gens h.1)
used-in V (tree.gen shape x from to at) h = (used-in V shape h.0, used-in V from h.1, used-in V to h.2)
used-in V (tree.index base place at) h = (used-in V base h.0, used-in V place h.1)
used-in V (tree.prefix op e at) h = used-in V e h
used-in V (tree.binary op l r at) h = (used-in V l h.0, used-in V r h.1)
used-in V (tree.type_of x args at) h = used-in V args h
used-in V (tree.shape_arg x shape) h = used-in V shape h
used-in V (tree.value_arg x value) h = used-in V value h
used-in V other h = tt

pub called-in : (Q R : List ℕ → Type 0) (e : Tree) → EachCall Q R e → InUse (λ name. Unit {0}) Q e
called-in Q R (tree.variable text at) h = tt
called-in Q R (tree.call text args at) h = (h.0, called-in Q R args h.1)
called-in Q R (tree.cons t ts) h = (called-in Q R t h.0, called-in Q R ts h.1)
called-in Q R (tree.paren e at) h = called-in Q R e h
called-in Q R (tree.if_expr test first other at) h = (called-in Q R test h.0, called-in Q R first h.1, called-in Q R other h.2)
called-in Q R (tree.list items at) h = called-in Q R items h
called-in Q R (tree.comp item gens at) h = (called-in Q R item h.0, called-in Q R gens h.1)
called-in Q R (tree.gen shape x from to at) h = (called-in Q R shape h.0, called-in Q R from h.1, called-in Q R to h.2)
called-in Q R (tree.index base place at) h = (called-in Q R base h.0, called-in Q R place h.1)
called-in Q R (tree.prefix op e at) h = called-in Q R e h
called-in Q R (tree.binary op l r at) h = (called-in Q R l h.0, called-in Q R r h.1)
called-in Q R (tree.type_of x args at) h = called-in Q R args h
called-in Q R (tree.shape_arg x shape) h = called-in Q R shape h
called-in Q R (tree.value_arg x value) h = called-in Q R value h
called-in Q R other h = tt

-- these names mean the same in both environments, and functions of those names give the same over their globals
pub record World (V Q : List ℕ → Type 0) (c d : Calls) (a b : Env) : Type 0 where
  pub seen : (name : List ℕ) → V name → look_up name a ≡ look_up name b
  pub given : (name : List ℕ) → Q name → (args : Values) (left : ℕ) → c a.globals name args left ≡ d b.globals name args left

module _ (V Q : List ℕ → Type 0) (c d : Calls) where
  pub deeper : (a b : Env) (x : Var) → World V Q c d a b → World V Q c d (with_local x a) (with_local x b)
  deeper a b x w = record {
    seen = λ name v. ap (λ o. if bytes_eq x.name name then Some x.value else o) (w.seen name v);
    given = w.given;
  }

  mutual
    pub eval-alike : (e : Tree) (a b : Env) (left : ℕ) → World V Q c d a b → InUse V Q e → eval e c a left ≡ eval e d b left
    eval-alike (tree.number n at) a b left w u = refl
    eval-alike (tree.truth x at) a b left w u = refl
    eval-alike (tree.variable name at) a b left w u = ap (λ o. known o left) (w.seen name u)
    eval-alike (tree.call name args at) a b left w u =
        then-same (eval_all args c a left) (eval_all args d b left) _ _ (all-alike args a b left w u.1) (λ vs m. turn-same m _ _ (λ k. w.given name u.0 vs k))
    eval-alike (tree.paren e at) a b left w u = eval-alike e a b left w u
    eval-alike (tree.if_expr test first other at) a b left w u =
        then-same (eval test c a left) (eval test d b left) _ _ (eval-alike test a b left w u.0) (λ v m.
        chosen-same v _ _ _ _ m (λ k. eval-alike first a b k w u.1) (λ k. eval-alike other a b k w u.2))
    eval-alike (tree.list items at) a b left w u = ap (λ o. and_then o (λ vs m. Gives (Items vs) m)) (all-alike items a b left w u)
    eval-alike (tree.comp item gens at) a b left w u =
        ap (λ o. and_then o (λ vs m. Gives (Items vs) m))
        (elements-alike gens (λ inner k. eval item c inner k) (λ inner k. eval item d inner k) a b left w u.1 (λ v z k x. eval-alike item v z k x u.0))
    eval-alike (tree.index base place at) a b left w u =
        then-same (eval base c a left) (eval base d b left) _ _ (eval-alike base a b left w u.0) (λ v m.
        ap (λ o. and_then o (λ i k. indexed v i k)) (eval-alike place a b m w u.1))
    eval-alike (tree.prefix op e at) a b left w u = ap (λ o. and_then o (λ v m. prefixed op v m)) (eval-alike e a b left w u)
    eval-alike (tree.binary op l o at) a b left w u =
        then-same (eval l c a left) (eval l d b left) _ _ (eval-alike l a b left w u.0) (λ v m. right-same op v _ _ m (λ k. eval-alike o a b k w u.1))
    eval-alike other a b left w u = refl

    pub all-alike : (es : Tree) (a b : Env) (left : ℕ) → World V Q c d a b → InUse V Q es → eval_all es c a left ≡ eval_all es d b left
    all-alike tree.nil a b left w u = refl
    all-alike (tree.cons e es) a b left w u =
        then-same (eval e c a left) (eval e d b left) _ _ (eval-alike e a b left w u.0) (λ v m.
        ap (λ o. and_then o (λ vs k. Gives (Cons v vs) k)) (all-alike es a b m w u.1))
    all-alike other a b left w u = refl

    elements-alike : (gens : Tree) (f g : Env → ℕ → Out Value) (a b : Env) (left : ℕ) → World V Q c d a b → InUse V Q gens
        → ((v z : Env) (k : ℕ) → World V Q c d v z → f v k ≡ g z k) → elements gens f c a left ≡ elements gens g d b left
    elements-alike tree.nil f g a b left w u h = turn-same left _ _ (λ m. ap (λ o. and_then o (λ v k. Gives (one v) k)) (h a b m w))
    elements-alike (tree.cons (tree.gen shape (tree.ident name place) from to at) gens) f g a b left w u h =
        then-same (type_meant shape c a left) (type_meant shape d b left) _ _ (type-alike shape a b left w u.0.0) (λ t n.
        then-same (alone (eval from c a max_turns) n) (alone (eval from d b max_turns) n) _ _ (ap (λ o. alone o n) (eval-alike from a b max_turns w u.0.1)) (λ v j.
        then-same (alone (eval to c a max_turns) j) (alone (eval to d b max_turns) j) _ _ (ap (λ o. alone o j) (eval-alike to a b max_turns w u.0.2)) (λ y k.
        range-same v y _ _ (λ low high.
        each-same (span low high) low _ _ k (λ i m.
        elements-alike gens f g (with_local (variable name t false (stored t (Num i))) a) (with_local (variable name t false (stored t (Num i))) b) m
        (deeper a b (variable name t false (stored t (Num i))) w) u.1 h)))))
    elements-alike other f g a b left w u h = refl

    pub type-alike : (shape : Tree) (a b : Env) (left : ℕ) → World V Q c d a b → InUse V Q shape → type_meant shape c a left ≡ type_meant shape d b left
    type-alike (tree.type_of (tree.ident name place) args at) a b left w u =
        ap (λ o. and_then o (λ given m. needed (type_named name given) m)) (args-alike args a b left w u)
    type-alike other a b left w u = refl

    args-alike : (args : Tree) (a b : Env) (left : ℕ) → World V Q c d a b → InUse V Q args → args_given args c a left ≡ args_given args d b left
    args-alike tree.nil a b left w u = refl
    args-alike (tree.cons (tree.shape_arg name shape) args) a b left w u =
        then-same (type_meant shape c a left) (type_meant shape d b left) _ _ (type-alike shape a b left w u.0) (λ t m.
        ap (λ o. and_then {B = Given} o (λ given k. Gives (record given { items = Some t }) k)) (args-alike args a b m w u.1))
    args-alike (tree.cons (tree.value_arg name value) args) a b left w u =
        then-same (alone (eval value c a max_turns) left) (alone (eval value d b max_turns) left) _ _ (ap (λ o. alone o left) (eval-alike value a b max_turns w u.0)) (λ v m.
        ap (λ o. and_then {B = Given} o (λ given k. Gives (record given { size = size_of_value v }) k)) (args-alike args a b m w u.1))
    args-alike other a b left w u = refl
