-- An actor of one action, which takes one list of three tokens and sends two tokens, is sound: an example for tests.
use Rattle.std.proofs.Common.{◌≡◌, ℕ, zero, suc, ◌<◌, ◌≤◌, Bool, true, false, List, [], ◌∷◌, refl, sym, ap, subst, ◌∙◌, arith, rules, None, Some, String, Global}
use Rattle.std.specs.Prelude.{string_bytes, Contains, slice_get, if◌then◌else◌, ◌==◌}
use Rattle.rvc_base.specs.Chain.{ChainLeads}
use Rattle.rvc_base.specs.declared.scalar.Scalar.TheVariants as scalar
use Rattle.cal_ast.specs.Tree as tree
use Rattle.cal_ast.specs.Tree.{listed}
use Rattle.cal_ast.specs.View.{expr_tree}
use Rattle.cal_ast.specs.declared.expr.Expr.{Expr}
use Rattle.cal_ast.specs.declared.expr.ExprForm.{Number}
use Rattle.cal_ast.specs.declared.expr.ExprForm as forms
use Rattle.cal_model.specs.declared.bound.Bound.{Bound}
use Rattle.cal_model.specs.declared.bound.Port.{Port}
use Rattle.cal_model.specs.declared.bound.BoundPattern.{BoundPattern}
use Rattle.cal_model.specs.declared.bound.BoundOutput.{BoundOutput}
use Rattle.cal_model.specs.declared.bound.BoundAction.{BoundAction}
use Rattle.cal_model.specs.View.{actor_of}
use Rattle.cal_model.specs.Value.{NumKind}
use Rattle.cal_model.specs.Actor.{Pattern, Output, Action, Actor}
use Rattle.cal_model.specs.Rates.{need, give}
use Rattle.cal_model.specs.Sound.{IsSound, IsAction}

abbrev takes : List ℕ → Pattern
takes name = record { port = 0; names = name ∷ []; repeat = Some 3 }

abbrev sends : Output
sends = record { port = 0; values = listed (tree.number 7 0 ∷ tree.number 8 0 ∷ []); repeat = None }

abbrev act : List ℕ → Action
act name = record { tag = []; patterns = takes name ∷ []; outputs = sends ∷ []; guards = []; locals = []; body = tree.nil; initialize = false }

abbrev pub lone : (class inlet outlet name : List ℕ) → Actor
lone class inlet outlet name = record {
  class = class;
  ins = record { name = inlet; kind = scalar.Uint 8 } ∷ [];
  outs = record { name = outlet; kind = scalar.Uint 8 } ∷ [];
  vars = [];
  funs = [];
  procs = [];
  actions = act name ∷ [];
  states = [];
  moves = [];
  pairs = [];
}

pub nothing-in : {A : Type 0} (x : A) → ¬ Contains [] x
nothing-in x c = let h : c.0 < 0 = c.1 in absurd (omega arith)

pub in-one : {A : Type 0} (x y : A) → Contains (y ∷ []) x → y ≡ x
in-one x y (zero, h, e) = e
in-one x y (suc k, h, e) = absurd (omega arith)

pub if-few : (b : Bool) (n : ℕ) → n ≤ 4096 → (if b then n else 0) ≤ 4096
if-few true n h = h
if-few false n h = omega arith

lone-action : (class inlet outlet name : List ℕ) → IsAction (lone class inlet outlet name) (act name)
lone-action class inlet outlet name = record {
  patterns = (record { port = omega arith; repeat = omega arith }, tt);
  ports_in = (nothing-in 0, tt);
  ports_out = (nothing-in 0, tt);
  distinct = (nothing-in name, tt);
  guards = tt;
  locals = tt;
  body = tt;
  plain = tt;
  outputs = (record { port = omega arith; repeat = tt; found = NumKind ∷ NumKind ∷ []; kinds = refl; each = (refl, (refl, tt)); plain = (tt, (tt, tt)) }, tt);
  takes_nothing = λ e. absurd (grind arith);
  unguarded = λ e. refl;
}

needs-few : (class inlet outlet name : List ℕ) (a port : ℕ) → need (lone class inlet outlet name) a port ≤ 4096
needs-few class inlet outlet name zero port = if-few (0 == port) 3 (omega arith)
needs-few class inlet outlet name (suc a) port = omega arith

gives-few : (class inlet outlet name : List ℕ) (a port : ℕ) → give (lone class inlet outlet name) a port ≤ 4096
gives-few class inlet outlet name zero port = if-few (0 == port) 2 (omega arith)
gives-few class inlet outlet name (suc a) port = omega arith

no-initialize : (name : List ℕ) (a : ℕ) (other : Action) → slice_get (act name ∷ []) a ≡ Some other → other.initialize ≡ true → ⊥
no-initialize name zero other e h = let same : act name ≡ other = cc in let f : false ≡ true = ap (λ x. x.initialize) same ∙ h in grind arith
no-initialize name (suc a) other e h = let no : None ≡ Some other = e in grind arith

pub no-chain : (a b : ℕ) (through : List ℕ) → ChainLeads [] a through b → ⊥
no-chain a b [] h = nothing-in (a, b) h
no-chain a b (x ∷ through) h = nothing-in (a, x) h.0

pub lone-is-sound : (class inlet outlet name : List ℕ) → (outlet ≡ inlet → ⊥) → IsSound (lone class inlet outlet name)
lone-is-sound class inlet outlet name apart = record {
  ports = ((λ c. apart (in-one inlet outlet c)), (nothing-in outlet, tt));
  port_sizes = ((omega arith, omega arith), ((omega arith, omega arith), tt));
  distinct = tt;
  vars = tt;
  funs = tt;
  procs = tt;
  funs_end = record { rank = λ n. 0; in_range = tt; calls = tt };
  procs_end = record { rank = λ n. 0; in_range = tt; calls = tt };
  calls = record { funs = tt; procs = tt; actions = (record { guards = tt; locals = tt; body = tt; outputs = ((tt, (tt, tt)), tt) }, tt) };
  actions = (lone-action class inlet outlet name, tt);
  one_initialize = λ a b x y e f h i. absurd (no-initialize name a x e h);
  takes = needs-few class inlet outlet name;
  gives = gives-few class inlet outlet name;
  states = tt;
  moves = tt;
  one_target = λ m n c d. absurd (nothing-in m c);
  pairs = tt;
  no_cycle = λ a above. no-chain a a above.0 above.1;
  few_actions = omega arith;
  few_states = omega arith;
  few_ins = omega arith;
  few_outs = omega arith;
  few_scalars = omega arith;
}

-- ---- as a `Bound`

pub number-tree : (n at : ℕ) → expr_tree (record { form = Number n; at = at }) ≡ tree.number n at
number-tree n at = search (rules, forms.the_lemmas)

pub lone-bound : (b : Bound) (inlet outlet : Port) (a : BoundAction) (q : BoundPattern) (o : BoundOutput) (x : String Global) (v w : Expr)
    → b.ins.items ≡ inlet ∷ [] → b.outs.items ≡ outlet ∷ [] → b.vars.items ≡ [] → b.funs.items ≡ [] → b.procs.items ≡ [] → b.actions.items ≡ a ∷ []
    → b.states.items ≡ [] → b.moves.items ≡ [] → b.pairs.items ≡ []
    → a.tag.items ≡ [] → a.patterns.items ≡ q ∷ [] → a.outputs.items ≡ o ∷ [] → a.guards.items ≡ [] → a.locals.items ≡ [] → a.body.items ≡ [] → a.initialize ≡ false
    → q.port ≡ 0 → q.names.items ≡ x ∷ [] → q.repeat ≡ Some 3 → o.port ≡ 0 → o.values.items ≡ v ∷ w ∷ [] → o.repeat ≡ None
    → expr_tree v ≡ tree.number 7 0 → expr_tree w ≡ tree.number 8 0 → inlet.kind ≡ scalar.Uint 8 → outlet.kind ≡ scalar.Uint 8
    → (string_bytes outlet.name ≡ string_bytes inlet.name → ⊥)
    → IsSound (actor_of b)
lone-bound b inlet outlet a q o x v w e1 e2 e3 e4 e5 e6 e7 e8 e9 f1 f2 f3 f4 f5 f6 f7 g1 g2 g3 h1 h2 h3 i j k l apart =
    let same : actor_of b ≡ lone (string_bytes b.class) (string_bytes inlet.name) (string_bytes outlet.name) (string_bytes x) =
    rw (e1, e2, e3, e4, e5, e6, e7, e8, e9, f1, f2, f3, f4, f5, f6, f7, g1, g2, g3, h1, h2, h3, i, j, k, l) refl in
    subst (λ n. IsSound n) (sym same) (lone-is-sound (string_bytes b.class) (string_bytes inlet.name) (string_bytes outlet.name) (string_bytes x) apart)
