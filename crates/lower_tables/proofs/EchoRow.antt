-- A worked actor and its code, which have what the laws of behaviour and runs ask for: `In:[x] ==> Out:[x]`, with its code.
use Rattle.std.proofs.Common.{take, ◌≡◌, ℕ, zero, suc, ◌<◌, ◌≤◌, inl, inr, Bool, true, false, ℤ, List, [], ◌∷◌, length, refl, sym, ap, subst, ◌∙◌, arith, codes, None, Some}
use Rattle.std.specs.Prelude.{slice_index, Contains, slice_get, if◌then◌else◌, ◌==◌, IsTrue}
use Rattle.rvc_base.specs.Chain.{ChainLeads}
use Rattle.rvc_base.specs.Lawful.{tokens_on}
use Rattle.rvc_base.specs.declared.scalar.Scalar.TheVariants as scalar
use Rattle.code_ir.specs.declared.instr.Instr.TheVariants as op
use Rattle.cal_ast.specs.Tree as tree
use Rattle.cal_ast.specs.Tree.{listed}
use Rattle.cal_model.specs.Value.{NumKind}
use Rattle.cal_model.specs.Env.{Var}
use Rattle.cal_model.specs.Actor.{Action, Actor}
use Rattle.cal_model.specs.ActorState.{AreTokensOf, AreVarsOf}
use Rattle.cal_model.specs.Eligible.{IsStateOf, next}
use Rattle.cal_model.specs.Firing.{body}
use Rattle.cal_model.specs.Rates.{need, give}
use Rattle.cal_model.specs.Selection.{Above, State, has_its_tokens, seen_by}
use Rattle.cal_model.specs.Sound.{IsSound, IsAction}
use Rattle.schedule_fsm.specs.Automaton.{target}
use Rattle.lowered_actor.specs.Actor as coded
use Rattle.lowered_actor.specs.Meaning as lowered
use Rattle.lower_tables.specs.Carrying.{BodiesRunAlike, BodyRuns, GuardsRun, GuardsRunAlike, HasTables, HoldsNumbers}
use Rattle.code_ir.specs.Running.{go, stop}
use Rattle.code_ir.specs.declared.outcome.Outcome.TheVariants as outcome
use Rattle.lowered_actor.specs.Laws.{AreCellsOf}
use Rattle.rvc_base.specs.Storing.{conv}
use Rattle.lower_tables.specs.Tables.{AreRatesOf}
use Rattle.cal_model.specs.Call.{calls_of}
use Rattle.priority_order.specs.Ranking.{is_above}
use Rattle.rvc_base.specs.Line.{IsNext}

abbrev copies : Action
copies = record {
  tag = [];
  patterns = record { port = 0; names = codes "x" ∷ []; repeat = None } ∷ [];
  outputs = record { port = 0; values = listed (tree.variable (codes "x") 0 ∷ []); repeat = None } ∷ [];
  guards = [];
  locals = [];
  body = tree.nil;
  initialize = false;
}

abbrev echo : Actor
echo = record {
  class = codes "Echo";
  ins = record { name = codes "In"; kind = scalar.Uint 8 } ∷ [];
  outs = record { name = codes "Out"; kind = scalar.Uint 8 } ∷ [];
  vars = [];
  funs = [];
  procs = [];
  actions = copies ∷ [];
  states = [];
  moves = [];
  pairs = [];
}

abbrev coded_copies : coded.Action
coded_copies = record { needs = 1 ∷ []; gives = 1 ∷ []; guards = []; fire = 0; sends = 0 ∷ [] }

abbrev coded_echo : coded.Actor
coded_echo = record {
  code = record {
    instrs = op.Token 0 0 ∷ op.Store 0 (Some (scalar.Uint 8)) ∷ op.Done ∷ [];
    routines = [];
    entries = 0 ∷ [];
    cells = 1;
  };
  fsm = record { states = 1; actions = 1; targets = Some 0 ∷ [] };
  order = record { count = 1; cells = false ∷ []; line = 0 ∷ [] };
  actions = coded_copies ∷ [];
  first = ℤ.pos 0 ∷ [];
  kept = 0;
  start = 0;
  saved = [];
  ins = 1;
  outs = 1;
}

-- it has no variables
abbrev no_numbers : List Var → List ℤ
no_numbers vars = []

-- ---- the actor is sound

nothing-in : {A : Type 0} (x : A) → ¬ Contains [] x
nothing-in x c = let h : c.0 < 0 = c.1 in absurd (omega arith)

in-one : {A : Type 0} (x y : A) → Contains (y ∷ []) x → y ≡ x
in-one x y (zero, h, e) = e
in-one x y (suc k, h, e) = absurd (omega arith)

apart : ¬ Contains (codes "Out" ∷ []) (codes "In")
apart c = let same : codes "Out" ≡ codes "In" = in-one (codes "In") (codes "Out") c in let sizes = ap length same in omega arith

no-chain : (a b : ℕ) (through : List ℕ) → ChainLeads [] a through b → ⊥
no-chain a b [] h = nothing-in (a, b) h
no-chain a b (x ∷ through) h = nothing-in (a, x) h.0

few-if-one : (b : Bool) → (if b then 1 else 0) ≤ 4096
few-if-one true = omega arith
few-if-one false = omega arith

needs-few : (a port : ℕ) → need echo a port ≤ 4096
needs-few zero port = few-if-one (0 == port)
needs-few (suc a) port = omega arith

gives-few : (a port : ℕ) → give echo a port ≤ 4096
gives-few zero port = few-if-one (0 == port)
gives-few (suc a) port = omega arith

no-initialize : (a : ℕ) (other : Action) → slice_get (copies ∷ []) a ≡ Some other → other.initialize ≡ true → ⊥
no-initialize zero other e h = let same : copies ≡ other = cc in let i : false ≡ true = ap (λ y. y.initialize) same ∙ h in grind arith
no-initialize (suc a) other e h = let no : None ≡ Some other = e in grind arith

is-action : IsAction echo copies
is-action = record {
  patterns = (record { port = omega arith; repeat = tt }, tt);
  ports_in = (nothing-in 0, tt);
  ports_out = (nothing-in 0, tt);
  distinct = (nothing-in (codes "x"), tt);
  guards = tt;
  locals = tt;
  body = tt;
  plain = tt;
  outputs = (record { port = omega arith; repeat = tt; found = NumKind ∷ []; kinds = refl; each = (refl, tt); plain = (tt, tt) }, tt);
  takes_nothing = λ e. absurd (grind arith);
  unguarded = λ e. refl;
}

echo_is_sound : IsSound echo
echo_is_sound = record {
  ports = (apart, (nothing-in (codes "Out"), tt));
  port_sizes = ((omega arith, omega arith), ((omega arith, omega arith), tt));
  distinct = tt;
  vars = tt;
  funs = tt;
  procs = tt;
  funs_end = record { rank = λ n. 0; in_range = tt; calls = tt };
  procs_end = record { rank = λ n. 0; in_range = tt; calls = tt };
  calls = record { funs = tt; procs = tt; actions = (record { guards = tt; locals = tt; body = tt; outputs = ((tt, tt), tt) }, tt) };
  actions = (is-action, tt);
  one_initialize = λ a b x y e f h i. absurd (no-initialize a x e h);
  takes = needs-few;
  gives = gives-few;
  states = tt;
  moves = tt;
  one_target = λ m n c d. absurd (nothing-in m c);
  pairs = tt;
  no_cycle = λ a above. no-chain a a above.0 above.1;
  few_actions = omega arith;
  few_states = omega arith;
  few_ins = omega arith;
  few_outs = omega arith;
  few_scalars = omega arith;
}

-- ---- it has its tables

in-state : (s : ℕ) → IsStateOf echo s → s < 1
in-state s (inl h) = omega arith
in-state s (inr h) = absurd (let no : false ≡ true = h.0 in cc)

leads-so : (s a : ℕ) → s < 1 → a < 1 → target coded_echo.fsm s a ≡ next echo s a
leads-so zero zero h i = refl
leads-so zero (suc a) h i = absurd (omega arith)
leads-so (suc s) a h i = absurd (omega arith)

rates-so : (a : ℕ) (action : coded.Action) → slice_get (coded_copies ∷ []) a ≡ Some action → (a ≡ 0) × (coded_copies ≡ action)
rates-so zero action e = (refl, cc)
rates-so (suc a) action e = absurd (let no : None ≡ Some action = e in cc)

none-above : (a b : ℕ) → a < 1 → b < 1 → coded_echo.order.cells ≡ false ∷ [] → ¬ IsTrue (is_above coded_echo.order a b)
none-above zero zero h i e t = let no : false ≡ true = t in cc
none-above zero (suc b) h i e t = omega arith
none-above (suc a) b h i e t = omega arith

echo_has_tables : HasTables echo coded_echo
echo_has_tables = record {
  schedule = record {
    states = λ s. ((λ h. inl (omega arith)), in-state s);
    actions = refl;
    leads = λ s a is low. leads-so s a (in-state s is) low;
  };
  start = refl;
  priority = record {
    count = refl;
    above = λ a b h i. ((λ t. absurd (none-above a b h i refl t)), (λ up. absurd (no-chain a b up.0 up.1)));
    line = record {
      each = λ a h. (0, omega arith, (let e : 0 ≡ a = omega arith in e));
      next = λ k h. only k h;
    };
  };
  actions = refl;
  rates = λ a action e.
      let so = rates-so a action e in
      subst (λ act. AreRatesOf echo a act.needs act.gives) so.1
      (subst (λ n. AreRatesOf echo n (1 ∷ []) (1 ∷ [])) (sym so.0) (record { needs_are = refl; gives_are = refl }));
  kept = refl;
  saved = refl;
  ins = refl;
  outs = refl;
}
  where
    first : IsNext 1 (Above echo) (Contains []) 0
    first = record {
      may = record { in_range = omega arith; new = nothing-in 0; after = λ a h up. absurd (no-chain a 0 up.0 up.1) };
      least = λ c may. omega arith;
    }

    only : (k : ℕ) → k < 1 → IsNext 1 (Above echo) (Contains (take k (0 ∷ []))) (slice_index (0 ∷ []) k)
    only zero h = first
    only (suc k) h = absurd (omega arith)

-- ---- its code does what it does

echo_holds : HoldsNumbers echo no_numbers coded_echo
echo_holds = record { count = λ y is. refl; first = refl }

abbrev Run : lowered.ActorState → State → List (List ℤ) → coded.Action → Action → Type 0
Run x y u c b = GuardsRun coded_echo x (lowered.taken coded_echo (tokens_on u) 0) (calls_of echo.funs) (seen_by echo y u b) b.guards c.guards

echo_guards : GuardsRunAlike echo no_numbers coded_echo
echo_guards x y u zero act action stands ready =
    let one : copies ≡ act = let e = ready.there in cc in
    let other : coded_copies ≡ action = let e = ready.coded_there in cc in
    subst (λ c. Run x y u c act) other (subst (λ b. Run x y u coded_copies b) one tt)
echo_guards x y u (suc a) act action stands ready = absurd (let no : None ≡ Some act = ready.there in cc)

no-vars : (xs : List Var) → AreVarsOf [] xs → xs ≡ []
no-vars [] h = refl
no-vars (x ∷ xs) h = absurd h

at-start : (y : State) → y.at ≡ 0 → y.vars ≡ [] → y ≡ record { at = 0; vars = [] }
at-start y p q = ap (λ n. record { at = n; vars = y.vars }) p ∙ ap (λ xs. record { at = 0; vars = xs }) q

cells-are : (x : lowered.ActorState) → x.at ≡ 0 → x.cells ≡ [] → AreCellsOf coded_echo x coded_echo.first
cells-are x p q =
    let same : x ≡ record { at = 0; cells = [] } = ap (λ n. record { at = n; cells = x.cells }) p ∙ ap (λ zs. record { at = 0; cells = zs }) q in
    subst (λ z. AreCellsOf coded_echo z coded_echo.first) (sym same) (record { state = refl; size = refl; kept = refl })

one-token : (x : lowered.ActorState) (us : List ℤ) → AreCellsOf coded_echo x coded_echo.first → has_its_tokens echo (us ∷ []) 0 ≡ true
    → BodyRuns no_numbers coded_echo x (lowered.taken coded_echo (tokens_on (us ∷ [])) 0) coded_copies (body echo (record { at = 0; vars = [] }) (us ∷ []) 0)
one-token x [] are h = absurd (let no : false ≡ true = h in cc)
one-token x (v ∷ rest) are h =
    record { cells = coded_echo.first; are = are; o = outcome.Done; left = conv (scalar.Uint 8) v ∷ []; ends = go refl (go refl (stop refl)); agrees = (refl, refl, refl) }

all-tokens : (x : lowered.ActorState) (u : List (List ℤ)) → AreCellsOf coded_echo x coded_echo.first → AreTokensOf echo u → has_its_tokens echo u 0 ≡ true
    → BodyRuns no_numbers coded_echo x (lowered.taken coded_echo (tokens_on u) 0) coded_copies (body echo (record { at = 0; vars = [] }) u 0)
all-tokens x [] are t h = absurd t
all-tokens x (us ∷ []) are t h = one-token x us are h
all-tokens x (us ∷ vs ∷ u) are t h = absurd t.1

echo_bodies : BodiesRunAlike echo no_numbers coded_echo
echo_bodies x y u (suc a) act action stands ready enabled = absurd (let no : None ≡ Some act = ready.there in cc)
echo_bodies x y u zero act action stands ready enabled =
    let other : coded_copies ≡ action = let e = ready.coded_there in cc in
    let low : y.at < 1 = in-state y.at stands.state.at in
    let at = stands.at in
    let none : y.vars ≡ [] = no-vars y.vars stands.state.vars in
    subst (λ c. BodyRuns no_numbers coded_echo x (lowered.taken coded_echo (tokens_on u) 0) c (body echo y u 0)) other
    (subst (λ z. BodyRuns no_numbers coded_echo x (lowered.taken coded_echo (tokens_on u) 0) coded_copies (body echo z u 0)) (sym (at-start y (omega arith) none))
    (all-tokens x u (cells-are x (omega arith) stands.cells) ready.tokens ready.has))
