-- An example with guards that are truth values is sound.
use Rattle.std.proofs.Common.{◌≡◌, ℕ, zero, suc, ◌<◌, ◌≤◌, Bool, true, false, List, [], ◌∷◌, ◌++◌, length, refl, sym, ap, ◌∙◌, arith, codes, None, Some}
use Rattle.std.specs.Prelude.{Contains, slice_get, if◌then◌else◌, ◌==◌}
use Rattle.std.proofs.lemmas.Int.{ints}
use Rattle.rvc_base.specs.Chain.{ChainLeads}
use Rattle.cal_ast.specs.Tree.{Tree}
use Rattle.cal_model.specs.Value.{BoolKind}
use Rattle.cal_model.specs.Actor.{Action}
use Rattle.cal_model.specs.Rates.{need, give, taken_on}
use Rattle.cal_model.specs.Sound.{IsSound, IsAction, ActionHidesNoCall, AreDistinct, AreTagged, IsRepeat, Each, names_in_patterns}
use Rattle.kit_actors.specs.declared.guarded.Takes.{Takes}
use Rattle.kit_actors.specs.declared.guarded.Takes.TheVariants.{One, Two, Other, Four}
use Rattle.kit_actors.specs.Examples.{acting, example, inlets, of_actions, ranks, taken}
use Rattle.kit_actors.proofs.Sorted.{IsPart}

-- ---- lists of few elements

nothing_in : {A : Type 0} (x : A) → ¬ Contains [] x
nothing_in x c = let h : c.0 < 0 = c.1 in absurd (omega arith)

in_one : {A : Type 0} (x y : A) → Contains (y ∷ []) x → y ≡ x
in_one x y (zero, h, e) = e
in_one x y (suc k, h, e) = absurd (omega arith)

not_in_one : (x y : List ℕ) → (y ≡ x → ⊥) → ¬ Contains (y ∷ []) x
not_in_one x y apart c = apart (in_one x y c)

if_few : (b : Bool) (n : ℕ) → n ≤ 4096 → (if b then n else 0) ≤ 4096
if_few true n h = h
if_few false n h = omega arith

-- ---- what is taken

has_port : (x : Takes) → (taken x).port < length inlets
has_port One = omega arith
has_port Two = omega arith
has_port Other = omega arith
has_port Four = omega arith

is_repeat : (x : Takes) → IsRepeat (taken x).repeat
is_repeat One = tt
is_repeat Two = tt
is_repeat Other = tt
is_repeat Four = omega arith

abbrev first_of : List ℕ → ℕ
first_of [] = 0
first_of (x ∷ xs) = x

d_apart : codes "d" ≡ codes "v" → ⊥
d_apart e = let one : ℕ = 100 in let two : ℕ = 118 in let h : one ≡ two = ap first_of e in omega arith

are_distinct : (x : Takes) → AreDistinct (names_in_patterns (taken x ∷ []) ++ [])
are_distinct One = (nothing_in (codes "v"), tt)
are_distinct Two = (not_in_one (codes "v") (codes "d") d_apart, (nothing_in (codes "d"), tt))
are_distinct Other = (nothing_in (codes "v"), tt)
are_distinct Four = (nothing_in (codes "t"), tt)

takes_few : (x : Takes) (port : ℕ) → taken_on port (taken x ∷ []) ≤ 4096
takes_few One port = if_few (0 == port) 1 (omega arith)
takes_few Two port = if_few (0 == port) 2 (omega arith)
takes_few Other port = if_few (1 == port) 1 (omega arith)
takes_few Four port = if_few (0 == port) 4 (omega arith)

-- ---- an action

is_action : (actions : List Action) (ranked : Bool) (tag : List ℕ) (x : Takes) (g : Tree) → IsPart BoolKind g x → IsAction (of_actions actions ranked) (acting tag x g)
is_action actions ranked tag x g p = record {
  patterns = (record { port = has_port x; repeat = is_repeat x }, tt);
  ports_in = (nothing_in (taken x).port, tt);
  ports_out = tt;
  distinct = are_distinct x;
  guards = ((p.judged, p.plain), tt);
  locals = tt;
  body = tt;
  plain = tt;
  outputs = tt;
  takes_nothing = λ e. absurd (cc);
  unguarded = λ e. absurd (cc);
}

hides_none : (actions : List Action) (ranked : Bool) (tag : List ℕ) (x : Takes) (g : Tree) → IsPart BoolKind g x
    → ActionHidesNoCall (of_actions actions ranked) (acting tag x g)
hides_none actions ranked tag x g p = record { guards = (p.calls, tt); locals = tt; body = tt; outputs = tt }

-- ---- the actor

needs_few : (x y : Takes) (g h : Tree) (ranked : Bool) (a port : ℕ) → need (example x g y h ranked) a port ≤ 4096
needs_few x y g h ranked zero port = takes_few x port
needs_few x y g h ranked (suc zero) port = takes_few y port
needs_few x y g h ranked (suc (suc a)) port = omega arith

gives_few : (x y : Takes) (g h : Tree) (ranked : Bool) (a port : ℕ) → give (example x g y h ranked) a port ≤ 4096
gives_few x y g h ranked zero port = omega arith
gives_few x y g h ranked (suc zero) port = omega arith
gives_few x y g h ranked (suc (suc a)) port = omega arith

no_initialize : (x y : Takes) (g h : Tree) (ranked : Bool) (a : ℕ) (act : Action) → slice_get (example x g y h ranked).actions a ≡ Some act → act.initialize ≡ true → ⊥
no_initialize x y g h ranked zero act e i = let same : acting (codes "a") x g ≡ act = cc in let no : false ≡ true = ap (λ z. z.initialize) same ∙ i in grind arith
no_initialize x y g h ranked (suc zero) act e i = let same : acting (codes "b") y h ≡ act = cc in let no : false ≡ true = ap (λ z. z.initialize) same ∙ i in grind arith
no_initialize x y g h ranked (suc (suc a)) act e i = let no : None ≡ Some act = e in grind arith

are_tagged : (x y : Takes) (g h : Tree) (ranked : Bool) → Each (AreTagged (example x g y h ranked)) (ranks ranked)
are_tagged x y g h true = (((refl, λ e. cc), (refl, λ e. cc)), tt)
are_tagged x y g h false = tt

zero_apart : {A : Type 0} → ◌≡◌ {A = ℕ} 1 0 → A
zero_apart e = absurd (omega arith)

-- the one chain of the one pair
one_chain : (a b : ℕ) (through : List ℕ) → ChainLeads ((0, 1) ∷ []) a through b → (0 ≡ a) × (1 ≡ b)
one_chain a b [] h = let e : (0, 1) ≡ (a, b) = in_one (a, b) (0, 1) h in (ap (λ p. p.0) e, ap (λ p. p.1) e)
one_chain a b (x ∷ through) h =
    let e : (0, 1) ≡ (a, x) = in_one (a, x) (0, 1) h.0 in
    let next : (0 ≡ x) × (1 ≡ b) = one_chain x b through h.1 in
    zero_apart (ap (λ p. p.1) e ∙ sym next.0)

no_chain : (a b : ℕ) (through : List ℕ) → ChainLeads [] a through b → ⊥
no_chain a b [] h = nothing_in (a, b) h
no_chain a b (x ∷ through) h = nothing_in (a, x) h.0

no_cycle : (ranked : Bool) (a : ℕ) (through : List ℕ) → ChainLeads (ranks ranked) a through a → ⊥
no_cycle true a through h = let p = one_chain a a through h in zero_apart (p.1 ∙ sym p.0)
no_cycle false a through h = no_chain a a through h

b_apart : codes "B" ≡ codes "A" → ⊥
b_apart e = let one : ℕ = 66 in let two : ℕ = 65 in let h : one ≡ two = ap first_of e in omega arith

f_apart : codes "f" ≡ codes "s" → ⊥
f_apart e = let one : ℕ = 102 in let two : ℕ = 115 in let h : one ≡ two = ap first_of e in omega arith

pub example_is_sound : (x : Takes) (g : Tree) (y : Takes) (h : Tree) (ranked : Bool) → IsPart BoolKind g x → IsPart BoolKind h y → IsSound (example x g y h ranked)
example_is_sound x g y h ranked p q = record {
  ports = (not_in_one (codes "A") (codes "B") b_apart, (nothing_in (codes "B"), tt));
  port_sizes = ((omega arith, omega arith), ((omega arith, omega arith), tt));
  distinct = (not_in_one (codes "s") (codes "f") f_apart, (nothing_in (codes "f"), tt));
  vars = (((omega arith, omega arith), omega (arith, ints)), tt);
  funs = (record { formals = tt; locals = tt; distinct = tt; result = tt; body = refl; plain = tt }, tt);
  procs = tt;
  funs_end = record { rank = λ n. 0; in_range = (omega arith, tt); calls = (record { locals = tt; body = tt }, tt) };
  procs_end = record { rank = λ n. 0; in_range = tt; calls = tt };
  calls = record {
    funs = (record { locals = tt; body = tt }, tt);
    procs = tt;
    actions = (hides_none (example x g y h ranked).actions ranked (codes "a") x g p, (hides_none (example x g y h ranked).actions ranked (codes "b") y h q, tt));
  };
  actions = (is_action (example x g y h ranked).actions ranked (codes "a") x g p, (is_action (example x g y h ranked).actions ranked (codes "b") y h q, tt));
  one_initialize = λ a b act other e f i j. absurd (no_initialize x y g h ranked a act e i);
  takes = needs_few x y g h ranked;
  gives = gives_few x y g h ranked;
  states = tt;
  moves = tt;
  one_target = λ m n c d. absurd (nothing_in m c);
  pairs = are_tagged x y g h ranked;
  no_cycle = λ a above. no_cycle ranked a above.0 above.1;
  few_actions = omega arith;
  few_states = omega arith;
  few_ins = omega arith;
  few_outs = omega arith;
  few_scalars = omega arith;
}
