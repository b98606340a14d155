-- The actor that keeps the doubles of its last two tokens is sound.
use Rattle.std.proofs.Common.{◌≡◌, ℕ, zero, suc, ◌≤◌, ◌⊎◌, inl, inr, ⊎_elim, true, false, [], ◌∷◌, codes, length, refl, ap, ◌∙◌, arith, None, Some}
use Rattle.std.proofs.lemmas.Int.{ints}
use Rattle.std.specs.Prelude.{Contains, slice_get, ◌==◌}
use Rattle.rvc_base.specs.declared.scalar.Scalar.TheVariants as scalar
use Rattle.cal_model.specs.Actor.{Action}
use Rattle.cal_model.specs.Rates.{need, give}
use Rattle.cal_model.specs.Value.{NumKind}
use Rattle.cal_model.specs.Sound.{IsAction, IsFormal, IsFun, IsProc, IsSound, names_of}
use Rattle.kit_actors.specs.Doubling.{double, doubling, formal, keep, twice}
use Rattle.kit_actors.proofs.SoundCount.{apart, few-if-one, in-one, no-chain, nothing-in}

in-two : {A : Type 0} (x y z : A) → Contains (y ∷ z ∷ []) x → (y ≡ x) ⊎ (z ≡ x)
in-two x y z (zero, h, e) = inl e
in-two x y z (suc zero, h, e) = inr e
in-two x y z (suc (suc k), h, e) = absurd (omega arith)

first-apart : ¬ Contains (codes "twice" ∷ codes "keep" ∷ []) (codes "t")
first-apart c =
    ⊎_elim (λ (same : codes "twice" ≡ codes "t"). let sizes = ap length same in omega arith) (λ (same : codes "keep" ≡ codes "t"). let sizes = ap length same in omega arith)
    (in-two (codes "t") (codes "twice") (codes "keep") c)

second-apart : ¬ Contains (codes "keep" ∷ []) (codes "twice")
second-apart c = let same : codes "keep" ≡ codes "twice" = in-one (codes "twice") (codes "keep") c in let sizes = ap length same in omega arith

needs-few : (a port : ℕ) → need double a port ≤ 4096
needs-few zero port = few-if-one (0 == port)
needs-few (suc a) port = omega arith

gives-few : (a port : ℕ) → give double a port ≤ 4096
gives-few zero port = few-if-one (0 == port)
gives-few (suc a) port = omega arith

no-initialize : (a : ℕ) (other : Action) → slice_get (doubling ∷ []) a ≡ Some other → other.initialize ≡ true → ⊥
no-initialize zero other e h = let same : doubling ≡ other = cc in let i : false ≡ true = ap (λ y. y.initialize) same ∙ h in absurd (cc)
no-initialize (suc a) other e h = let no : None ≡ Some other = e in absurd (cc)

is-formal : IsFormal formal
is-formal = record { scalar = scalar.Uint 8; single = refl; size = (omega arith, omega arith); bare = refl }

is-function : IsFun (names_of double) twice
is-function = record {
  formals = (is-formal, tt);
  locals = tt;
  distinct = (nothing-in (codes "v"), tt);
  result = (omega arith, omega arith);
  body = refl;
  plain = (tt, tt);
}

is-procedure : IsProc double.procs (names_of double) keep
is-procedure = record {
  formals = (is-formal, tt);
  locals = tt;
  distinct = (nothing-in (codes "v"), tt);
  body = (
    (NumKind ∷ [], NumKind, refl, refl, record { meant = _; is_meant = refl; changes = refl; inside = refl }),
    ((NumKind ∷ [], NumKind, refl, refl, record { meant = _; is_meant = refl; changes = refl; inside = refl }), tt),
  );
  plain = (((tt, tt), (tt, tt)), (((tt, tt), tt), tt));
}

is-action : IsAction double doubling
is-action = record {
  patterns = (record { port = omega arith; repeat = tt }, tt);
  ports_in = (nothing-in 0, tt);
  ports_out = (nothing-in 0, tt);
  distinct = (nothing-in (codes "x"), tt);
  guards = tt;
  locals = tt;
  body = ((keep, refl, refl), tt);
  plain = (((tt, tt), tt), tt);
  outputs = (record { port = omega arith; repeat = tt; found = NumKind ∷ []; kinds = refl; each = (refl, tt); plain = (((tt, tt), (tt, tt)), tt) }, tt);
  takes_nothing = λ e. absurd (cc);
  unguarded = λ e. refl;
}

pub double-is-sound : IsSound double
double-is-sound = record {
  ports = (apart, (nothing-in (codes "Out"), tt));
  port_sizes = ((omega arith, omega arith), ((omega arith, omega arith), tt));
  distinct = (first-apart, (second-apart, (nothing-in (codes "keep"), tt)));
  vars = (((omega arith, omega arith, (omega arith, omega arith)), (refl, (omega (arith, ints), (omega (arith, ints), tt)))), tt);
  funs = (is-function, tt);
  procs = (is-procedure, tt);
  funs_end = record { rank = λ n. 0; in_range = (omega arith, tt); calls = (record { locals = tt; body = (tt, tt) }, tt) };
  procs_end = record { rank = λ n. 0; in_range = (omega arith, tt); calls = (record { body = (((tt, tt), (tt, tt)), (((tt, tt), tt), tt)) }, tt) };
  calls = record {
    funs = (record { locals = tt; body = (tt, tt) }, tt);
    procs = (record { locals = tt; body = (((tt, tt), (tt, tt)), (((tt, tt), tt), tt)) }, tt);
    actions = (record { guards = tt; locals = tt; body = ((refl, ((refl, (tt, tt)), tt)), tt); outputs = ((((tt, tt), (tt, tt)), tt), tt) }, tt);
  };
  actions = (is-action, tt);
  one_initialize = λ a b x y e f h i. absurd (no-initialize a x e h);
  takes = needs-few;
  gives = gives-few;
  states = tt;
  moves = tt;
  one_target = λ m n c d. absurd (nothing-in m c);
  pairs = tt;
  no_cycle = λ a above. no-chain a a above.0 above.1;
  few_actions = omega arith;
  few_states = omega arith;
  few_ins = omega arith;
  few_outs = omega arith;
  few_scalars = omega arith;
}
