-- The actor that counts is sound.
use Rattle.std.proofs.Common.{◌≡◌, ℕ, zero, suc, ◌<◌, ◌≤◌, Bool, true, false, List, [], ◌∷◌, codes, length, refl, ap, ◌∙◌, arith, None, Some}
use Rattle.std.proofs.lemmas.Int.{ints}
use Rattle.std.specs.Prelude.{Contains, slice_get, slice_index_or, if◌then◌else◌, ◌==◌}
use Rattle.rvc_base.specs.Chain.{ChainLeads}
use Rattle.cal_model.specs.Actor.{Action}
use Rattle.cal_model.specs.Rates.{need, give}
use Rattle.cal_model.specs.Value.{NumKind}
use Rattle.cal_model.specs.Sound.{IsAction, IsSound}
use Rattle.kit_actors.specs.Counting.{count, counting}

pub nothing-in : {A : Type 0} (x : A) → ¬ Contains [] x
nothing-in x c = let h : c.0 < 0 = c.1 in absurd (omega arith)

pub in-one : {A : Type 0} (x y : A) → Contains (y ∷ []) x → y ≡ x
in-one x y (zero, h, e) = e
in-one x y (suc k, h, e) = absurd (omega arith)

pub apart : ¬ Contains (codes "Out" ∷ []) (codes "In")
apart c = let same : codes "Out" ≡ codes "In" = in-one (codes "In") (codes "Out") c in let sizes = ap length same in omega arith

differ : ¬ Contains (codes "k" ∷ []) (codes "x")
differ c = let same : codes "k" ≡ codes "x" = in-one (codes "x") (codes "k") c in let heads : 107 ≡ 120 = ap (λ s. slice_index_or s 0 0) same in omega (arith, heads)

pub no-chain : (a b : ℕ) (through : List ℕ) → ChainLeads [] a through b → ⊥
no-chain a b [] h = nothing-in (a, b) h
no-chain a b (x ∷ through) h = nothing-in (a, x) h.0

pub few-if-one : (b : Bool) → (if b then 1 else 0) ≤ 4096
few-if-one true = omega arith
few-if-one false = omega arith

needs-few : (a port : ℕ) → need count a port ≤ 4096
needs-few zero port = few-if-one (0 == port)
needs-few (suc a) port = omega arith

gives-few : (a port : ℕ) → give count a port ≤ 4096
gives-few zero port = few-if-one (0 == port)
gives-few (suc a) port = omega arith

no-initialize : (a : ℕ) (other : Action) → slice_get (counting ∷ []) a ≡ Some other → other.initialize ≡ true → ⊥
no-initialize zero other e h = let same : counting ≡ other = cc in let i : false ≡ true = ap (λ y. y.initialize) same ∙ h in absurd (cc)
no-initialize (suc a) other e h = let no : None ≡ Some other = e in absurd (cc)

is-action : IsAction count counting
is-action = record {
  patterns = (record { port = omega arith; repeat = tt }, tt);
  ports_in = (nothing-in 0, tt);
  ports_out = (nothing-in 0, tt);
  distinct = (differ, (nothing-in (codes "k"), tt));
  guards = ((refl, (tt, tt)), tt);
  locals = ((omega arith, omega arith), (refl, (tt, tt)), tt);
  body = ((refl, (([], NumKind, refl, refl, record { meant = _; is_meant = refl; changes = refl; inside = refl }), tt)), tt);
  plain = (((tt, tt), ((tt, (tt, tt)), tt)), tt);
  outputs = (record { port = omega arith; repeat = tt; found = NumKind ∷ []; kinds = refl; each = (refl, tt); plain = ((tt, tt), tt) }, tt);
  takes_nothing = λ e. absurd (cc);
  unguarded = λ e. absurd (cc);
}

pub count-is-sound : IsSound count
count-is-sound = record {
  ports = (apart, (nothing-in (codes "Out"), tt));
  port_sizes = ((omega arith, omega arith), ((omega arith, omega arith), tt));
  distinct = (nothing-in (codes "n"), tt);
  vars = (((omega arith, omega arith), omega (arith, ints)), tt);
  funs = tt;
  procs = tt;
  funs_end = record { rank = λ n. 0; in_range = tt; calls = tt };
  procs_end = record { rank = λ n. 0; in_range = tt; calls = tt };
  calls = record { funs = tt; procs = tt; actions = (record { guards = ((tt, tt), tt); locals = ((tt, tt), tt); body = (((tt, tt), ((tt, (tt, tt)), tt)), tt); outputs = (((tt, tt), tt), tt) }, tt) };
  actions = (is-action, tt);
  one_initialize = λ a b x y e f h i. absurd (no-initialize a x e h);
  takes = needs-few;
  gives = gives-few;
  states = tt;
  moves = tt;
  one_target = λ m n c d. absurd (nothing-in m c);
  pairs = tt;
  no_cycle = λ a above. no-chain a a above.0 above.1;
  few_actions = omega arith;
  few_states = omega arith;
  few_ins = omega arith;
  few_outs = omega arith;
  few_scalars = omega arith;
}
