-- Worked examples of calls that are hidden, and of one that isn't.
use Rattle.std.proofs.Common.{◌≡◌, ℕ, zero, suc, ◌≤◌, Bool, true, false, List, [], ◌∷◌, length, refl, ap, ◌∙◌, arith, codes, Option, None, Some}
use Rattle.std.specs.Prelude.{Contains, slice_get, if◌then◌else◌, ◌==◌}
use Rattle.rvc_base.specs.declared.scalar.Scalar.TheVariants as scalar
use Rattle.cal_ast.specs.Tree as tree
use Rattle.cal_ast.specs.Tree.{Tree, listed}
use Rattle.cal_model.specs.Value.{NumKind, Single}
use Rattle.cal_model.specs.Actor.{Local, Fun, Action, Actor}
use Rattle.cal_model.specs.Kinding.{Known, Names}
use Rattle.cal_model.specs.Rates.{need, give}
use Rattle.cal_model.specs.Sound.{IsSound, IsAction, HidesNoCall, FunHidesNoCall, names_of}
use Rattle.cal_model.proofs.LoneAction.{nothing-in, in-one, if-few, no-chain}
use Rattle.cal_model.proofs.Rows.{n_, name_, int_type}

-- a function that gives its argument
abbrev gives_its_own : Fun
gives_its_own = record {
  name = codes "f";
  formals = record { name = codes "a"; shape = Single (scalar.Int 8); start = None; changes = false } ∷ [];
  locals = [];
  result = scalar.Int 8;
  body = name_ (codes "a");
}

abbrev f_of_1 : Tree
f_of_1 = tree.call (codes "f") (listed (n_ 1 ∷ [])) 0

-- `In:[name] ==> Out:[f(1)]`
abbrev act : List ℕ → Action
act name = record {
  tag = [];
  patterns = record { port = 0; names = name ∷ []; repeat = None } ∷ [];
  outputs = record { port = 0; values = listed (f_of_1 ∷ []); repeat = None } ∷ [];
  guards = [];
  locals = [];
  body = tree.nil;
  initialize = false;
}

abbrev calling : List ℕ → Actor
calling name = record {
  class = codes "Calling";
  ins = record { name = codes "In"; kind = scalar.Uint 8 } ∷ [];
  outs = record { name = codes "Out"; kind = scalar.Uint 8 } ∷ [];
  vars = [];
  funs = gives_its_own ∷ [];
  procs = [];
  actions = act name ∷ [];
  states = [];
  moves = [];
  pairs = [];
}

some-none : {x : Known} → Some x ≡ None → ⊥
some-none h = cc

apart : ¬ Contains (codes "Out" ∷ []) (codes "In")
apart c = let same : codes "Out" ≡ codes "In" = in-one (codes "In") (codes "Out") c in let sizes = ap length same in omega arith

-- a pattern variable of the function's name hides it
not_sound : ¬ IsSound (calling (codes "f"))
not_sound sound = some-none (sound.calls.actions.0.outputs.0.0.0)

few-if-one : (b : Bool) → (if b then 1 else 0) ≤ 4096
few-if-one b = if-few b 1 (omega arith)

needs-few : (a port : ℕ) → need (calling (codes "x")) a port ≤ 4096
needs-few zero port = few-if-one (0 == port)
needs-few (suc a) port = omega arith

gives-few : (a port : ℕ) → give (calling (codes "x")) a port ≤ 4096
gives-few zero port = few-if-one (0 == port)
gives-few (suc a) port = omega arith

no-initialize : (a : ℕ) (other : Action) → slice_get (act (codes "x") ∷ []) a ≡ Some other → other.initialize ≡ true → ⊥
no-initialize zero other e h = let same : act (codes "x") ≡ other = cc in let i : false ≡ true = ap (λ y. y.initialize) same ∙ h in grind arith
no-initialize (suc a) other e h = let no : None ≡ Some other = e in grind arith

is-action : IsAction (calling (codes "x")) (act (codes "x"))
is-action = record {
  patterns = (record { port = omega arith; repeat = tt }, tt);
  ports_in = (nothing-in 0, tt);
  ports_out = (nothing-in 0, tt);
  distinct = (nothing-in (codes "x"), tt);
  guards = tt;
  locals = tt;
  body = tt;
  plain = tt;
  outputs = (record { port = omega arith; repeat = tt; found = NumKind ∷ []; kinds = refl; each = (refl, tt); plain = ((tt, tt), tt) }, tt);
  takes_nothing = λ e. absurd (grind arith);
  unguarded = λ e. refl;
}

-- one of another name doesn't
is_sound : IsSound (calling (codes "x"))
is_sound = record {
  ports = (apart, (nothing-in (codes "Out"), tt));
  port_sizes = ((omega arith, omega arith), ((omega arith, omega arith), tt));
  distinct = (nothing-in (codes "f"), tt);
  vars = tt;
  funs = (
    record {
      formals = (record { scalar = scalar.Int 8; single = refl; size = (omega arith, omega arith); bare = refl }, tt);
      locals = tt;
      distinct = (nothing-in (codes "a"), tt);
      result = (omega arith, omega arith);
      body = refl;
      plain = tt;
    },
    tt,
  );
  procs = tt;
  funs_end = record { rank = λ n. 0; in_range = (omega arith, tt); calls = (record { locals = tt; body = tt }, tt) };
  procs_end = record { rank = λ n. 0; in_range = tt; calls = tt };
  calls = record {
    funs = (record { locals = tt; body = tt }, tt);
    procs = tt;
    actions = (record { guards = tt; locals = tt; body = tt; outputs = (((refl, (tt, tt)), tt), tt) }, tt);
  };
  actions = (is-action, tt);
  one_initialize = λ a b x y e f h i. absurd (no-initialize a x e h);
  takes = needs-few;
  gives = gives-few;
  states = tt;
  moves = tt;
  one_target = λ m n c d. absurd (nothing-in m c);
  pairs = tt;
  no_cycle = λ a above. no-chain a a above.0 above.1;
  few_actions = omega arith;
  few_states = omega arith;
  few_ins = omega arith;
  few_outs = omega arith;
  few_scalars = omega arith;
}

-- ---- other names that are declared inside

abbrev nothing_inside : Names
nothing_inside = names_of (calling (codes "x"))

-- a formal hides in the body, and a local in the starts of those after it
abbrev byte_named : List ℕ → Option Tree → Local
byte_named name start = record { name = name; shape = Single (scalar.Uint 8); start = start; changes = false }

abbrev g_of : List Local → List Local → Fun
g_of formals locals = record { name = codes "g"; formals = formals; locals = locals; result = scalar.Int 8; body = f_of_1 }

formal_hides : ¬ FunHidesNoCall nothing_inside (g_of (byte_named (codes "f") None ∷ []) [])
formal_hides h = some-none h.body.0

local_hides : ¬ FunHidesNoCall nothing_inside (g_of [] (byte_named (codes "f") None ∷ byte_named (codes "b") (Some f_of_1) ∷ []))
local_hides h = some-none h.locals.1.0.0

others_hide_nothing : FunHidesNoCall nothing_inside (g_of (byte_named (codes "a") None ∷ []) (byte_named (codes "b") (Some f_of_1) ∷ []))
others_hide_nothing = record { locals = ((refl, (tt, tt)), tt); body = (refl, (tt, tt)) }

-- a generator's variable hides in the element, and not in its own bounds
abbrev made_of : Tree → Tree → Tree
made_of item bound = tree.comp item (listed (tree.gen int_type (tree.ident (codes "f") 0) (n_ 1) bound 0 ∷ [])) 0

generator_hides : ¬ HidesNoCall (made_of f_of_1 (n_ 2)) nothing_inside
generator_hides h = some-none h.0.0

its_bound_is_outside : HidesNoCall (made_of (n_ 2) f_of_1) nothing_inside
its_bound_is_outside = (tt, (tt, tt, (refl, (tt, tt)), tt))

-- a block's variable hides in the body, and not in its own start
abbrev block_of : Tree → Tree → Tree
block_of start value =
    tree.block (listed (tree.var int_type (tree.ident (codes "f") 0) (tree.present start) true 0 ∷ [])) (listed (tree.assign (tree.ident (codes "f") 0) tree.nil value 0 ∷ [])) 0

variable_hides : ¬ HidesNoCall (block_of (n_ 1) f_of_1) nothing_inside
variable_hides h = some-none h.1.0.1.0

its_start_is_outside : HidesNoCall (block_of f_of_1 (n_ 1)) nothing_inside
its_start_is_outside = ((tt, (refl, (tt, tt)), tt), ((tt, tt), tt))

-- a loop's variable hides a procedure in the body
abbrev loops : List ℕ → Tree
loops name = tree.foreach_stmt int_type (tree.ident name 0) (n_ 1) (n_ 2) (listed (tree.call_stmt (tree.ident (codes "p") 0) tree.nil 0 ∷ [])) 0

loop_hides : ¬ HidesNoCall (loops (codes "p")) nothing_inside
loop_hides h = some-none h.3.0.0

loop_of_another_name : HidesNoCall (loops (codes "i")) nothing_inside
loop_of_another_name = (tt, tt, tt, ((refl, tt), tt))
