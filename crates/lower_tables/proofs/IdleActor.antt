-- An actor with an `initialize` is sound: an example for tests.
use Rattle.std.proofs.Common.{◌≡◌, ℕ, zero, suc, ◌<◌, ◌≤◌, Bool, true, false, List, [], ◌∷◌, map, refl, sym, ap, subst, ◌∙◌, arith, None, Some}
use Rattle.std.specs.Prelude.{Contains, slice_get, string_bytes}
use Rattle.rvc_base.specs.Chain.{ChainLeads}
use Rattle.cal_ast.specs.Tree as tree
use Rattle.cal_model.specs.declared.bound.Bound.{Bound}
use Rattle.cal_model.specs.Actor.{Action, Actor}
use Rattle.cal_model.specs.Rates.{need, give}
use Rattle.cal_model.specs.Sound.{IsAction, IsSound}
use Rattle.cal_model.specs.View.{action_view, actor_of}

abbrev pub bare : Bool → Action
bare first = record { tag = []; patterns = []; outputs = []; guards = []; locals = []; body = tree.nil; initialize = first }

abbrev idle : List ℕ → Actor
idle class = record {
  class = class;
  ins = [];
  outs = [];
  vars = [];
  funs = [];
  procs = [];
  actions = bare true ∷ bare false ∷ [];
  states = [];
  moves = [];
  pairs = [];
}

nothing-in : {A : Type 0} (x : A) → ¬ Contains [] x
nothing-in x c = let h : c.0 < 0 = c.1 in absurd (omega arith)

no-chain : (a b : ℕ) (through : List ℕ) → ChainLeads [] a through b → ⊥
no-chain a b [] h = nothing-in (a, b) h
no-chain a b (x ∷ through) h = nothing-in (a, x) h.0

none-needed : (class : List ℕ) (a port : ℕ) → need (idle class) a port ≤ 4096
none-needed class zero port = omega arith
none-needed class (suc zero) port = omega arith
none-needed class (suc (suc a)) port = omega arith

none-given : (class : List ℕ) (a port : ℕ) → give (idle class) a port ≤ 4096
none-given class zero port = omega arith
none-given class (suc zero) port = omega arith
none-given class (suc (suc a)) port = omega arith

is-first : (a : ℕ) (act : Action) → slice_get (bare true ∷ bare false ∷ []) a ≡ Some act → act.initialize ≡ true → a ≡ 0
is-first zero act e h = refl
is-first (suc zero) act e h =
    let same : bare false ≡ act = cc in
    let no : false ≡ true = ap (λ x. x.initialize) same ∙ h in
    absurd (cc)
is-first (suc (suc a)) act e h = absurd (let no : None ≡ Some act = e in cc)

is-action : (class : List ℕ) (first : Bool) → IsAction (idle class) (bare first)
is-action class first = record {
  patterns = tt;
  ports_in = tt;
  ports_out = tt;
  distinct = tt;
  guards = tt;
  locals = tt;
  body = tt;
  plain = tt;
  outputs = tt;
  takes_nothing = λ e. refl;
  unguarded = λ e. refl;
}

idle-is-sound : (class : List ℕ) → IsSound (idle class)
idle-is-sound class = record {
  ports = tt;
  port_sizes = tt;
  distinct = tt;
  vars = tt;
  funs = tt;
  procs = tt;
  funs_end = record { rank = λ n. 0; in_range = tt; calls = tt };
  procs_end = record { rank = λ n. 0; in_range = tt; calls = tt };
  calls = record {
    funs = tt;
    procs = tt;
    actions = (record { guards = tt; locals = tt; body = tt; outputs = tt }, (record { guards = tt; locals = tt; body = tt; outputs = tt }, tt));
  };
  actions = (is-action class true, (is-action class false, tt));
  one_initialize = λ a b x y e f h i. is-first a x e h ∙ sym (is-first b y f i);
  takes = none-needed class;
  gives = none-given class;
  states = tt;
  moves = tt;
  one_target = λ m n c d. absurd (nothing-in m c);
  pairs = tt;
  no_cycle = λ a above. no-chain a a above.0 above.1;
  few_actions = omega arith;
  few_states = omega arith;
  few_ins = omega arith;
  few_outs = omega arith;
  few_scalars = omega arith;
}

pub idle-bound : (b : Bound) → b.ins.items ≡ [] → b.outs.items ≡ [] → b.vars.items ≡ [] → b.funs.items ≡ [] → b.procs.items ≡ []
    → map action_view b.actions.items ≡ bare true ∷ bare false ∷ [] → b.states.items ≡ [] → b.moves.items ≡ [] → b.pairs.items ≡ []
    → IsSound (actor_of b)
idle-bound b e1 e2 e3 e4 e5 e6 e7 e8 e9 =
    let same : actor_of b ≡ idle (string_bytes b.class) = rw (e1, e2, e3, e4, e5, e6, e7, e8, e9) refl in
    subst IsSound (sym same) (idle-is-sound (string_bytes b.class))
