-- Worked examples of the certification rule: which actors it certifies, and which guards exclude each other.
use Rattle.std.proofs.Common.{◌≡◌, ◌≢◌, ℕ, zero, suc, ◌<◌, ◌≤◌, ◌⊎◌, inl, inr, ℤ, pos, ◌<ℤ◌, refl, subst, Bool, true, false, List, [], ◌∷◌, codes, arith}
use Rattle.std.specs.Prelude.{Option, Some, None, slice_get, if◌then◌else◌, ◌==◌}
use Rattle.std.proofs.lemmas.Int.{ints}
use Rattle.rvc_base.specs.declared.scalar.Scalar.TheVariants as scalar
use Rattle.cal_ast.specs.Tree as tree
use Rattle.cal_ast.specs.Tree.{Tree, listed}
use Rattle.cal_ast.specs.declared.expr.PrefixOp.TheVariants.{Not}
use Rattle.cal_ast.specs.declared.expr.BinOp.TheVariants.{Eq, Ne, Lt, Gt, Sub}
use Rattle.cal_model.specs.Value.{Single, Num}
use Rattle.cal_model.specs.Actor.{Action, Actor}
use Rattle.cal_model.specs.Eligible.{eligible, IsStateOf}
use Rattle.cal_model.specs.Rates.{need}
use Rattle.cal_model.specs.Certified.{Interval, truths, Exclude, GuardsExclude, IsModest, HasTameGuards, IsCertified}
use Rattle.cal_model.proofs.Rows.{n_, two, name_}
use Rattle.cal_model.proofs.ActorRows.{port_, takes_, acts_, actor_, hi, lo, hi_lo, ta, tb, alt, divides_6, begins}
use Rattle.cal_model.proofs.PriorityRows.{one-above, none-above}

-- ---- conjuncts that exclude each other

abbrev run_ : Tree
run_ = name_ (codes "run")

above-not-0 : (z : ℤ) → pos 0 <ℤ z → ¬ (z ≡ pos 0)
above-not-0 z h e = omega (arith, ints)

-- run > 0 and run = 0
counters_exclude : Exclude (two Gt run_ (n_ 0)) (two Eq run_ (n_ 0))
counters_exclude = inl (record {
  left = run_;
  other = run_;
  one_op = Gt;
  other_op = Eq;
  n = pos 0;
  m = pos 0;
  one = record { right = n_ 0; at = 0; is = refl; comparison = refl; number = refl };
  two = record { right = n_ 0; at = 0; is = refl; comparison = refl; number = refl };
  same = refl;
  never = above-not-0;
})

not-0-above : (z : ℤ) → z ≡ pos 0 → ¬ (pos 0 <ℤ z)
not-0-above z e h = omega (arith, ints)

counters_exclude_too : Exclude (two Eq run_ (n_ 0)) (two Gt run_ (n_ 0))
counters_exclude_too = inl (record {
  left = run_;
  other = run_;
  one_op = Eq;
  other_op = Gt;
  n = pos 0;
  m = pos 0;
  one = record { right = n_ 0; at = 0; is = refl; comparison = refl; number = refl };
  two = record { right = n_ 0; at = 0; is = refl; comparison = refl; number = refl };
  same = refl;
  never = not-0-above;
})

below-not-above : (z : ℤ) → z <ℤ pos 10 → ¬ (pos 10 <ℤ z)
below-not-above z h k = omega (arith, ints)

-- they may stand at other places of the text
at_other_places : Exclude (tree.binary Lt (tree.variable (codes "v") 4) (tree.number 10 8) 6) (tree.binary Gt (tree.variable (codes "v") 30) (tree.number 10 34) 32)
at_other_places = inl (record {
  left = tree.variable (codes "v") 4;
  other = tree.variable (codes "v") 30;
  one_op = Lt;
  other_op = Gt;
  n = pos 10;
  m = pos 10;
  one = record { right = tree.number 10 8; at = 6; is = refl; comparison = refl; number = refl };
  two = record { right = tree.number 10 34; at = 32; is = refl; comparison = refl; number = refl };
  same = refl;
  never = below-not-above;
})

abbrev b_ : Tree
b_ = name_ (codes "b")

-- b and not b, in both orders
truths_exclude : Exclude b_ (tree.prefix Not b_ 0)
truths_exclude = inr (inl (record { inner = b_; at = 0; is = refl; same = refl }))

truths_exclude_too : Exclude (tree.prefix Not b_ 0) b_
truths_exclude_too = inr (inr (record { inner = b_; at = 0; is = refl; same = refl }))

-- ---- the actions of small actors

of-two : (one two : Action) (P : ℕ → Action → Type 0) → P 0 one → P 1 two → (a : ℕ) (act : Action) → slice_get (one ∷ two ∷ []) a ≡ Some act → P a act
of-two one two P p q zero act e = let same : one ≡ act = cc in subst (λ x. P 0 x) same p
of-two one two P p q (suc zero) act e = let same : two ≡ act = cc in subst (λ x. P 1 x) same q
of-two one two P p q (suc (suc a)) act e = let none : ◌≡◌ {A = Option Action} None (Some act) = e in absurd (grind arith)

-- ---- Two isn't certified: the higher action needs more tokens

hi-is-not-modest : ¬ IsModest hi_lo 0 1
hi-is-not-modest h = let more : 2 ≤ 1 = h.no_more 0 in omega arith

lo-is-not-above : ¬ IsModest hi_lo 1 0
lo-is-not-above h =
    let less : 0 < 1 = omega arith in
    let same : ◌≡◌ {A = ℕ} 1 0 = (one-above 0 1 1 0 less h.above).0 in
    omega arith

hi-and-lo : ¬ ((IsModest hi_lo 0 1 ⊎ IsModest hi_lo 1 0) ⊎ GuardsExclude hi lo)
hi-and-lo (inl (inl h)) = hi-is-not-modest h
hi-and-lo (inl (inr h)) = lo-is-not-above h
hi-and-lo (inr h) = h

two_is_not_certified : ¬ IsCertified hi_lo
two_is_not_certified h = hi-and-lo (h.pairs 0 0 1 hi lo (inl (omega arith)) refl refl (λ e. omega arith) refl refl)

-- ---- Alt is certified: its guards exclude each other

equal-apart : (z : ℤ) → z ≡ pos 0 → ¬ (z ≢ pos 0)
equal-apart z e h = h e

apart-equal : (z : ℤ) → z ≢ pos 0 → ¬ (z ≡ pos 0)
apart-equal z h e = h e

ta-or-tb : GuardsExclude ta tb
ta-or-tb = inl (inl (inl (record {
  left = name_ (codes "s");
  other = name_ (codes "s");
  one_op = Eq;
  other_op = Ne;
  n = pos 0;
  m = pos 0;
  one = record { right = n_ 0; at = 0; is = refl; comparison = refl; number = refl };
  two = record { right = n_ 0; at = 0; is = refl; comparison = refl; number = refl };
  same = refl;
  never = equal-apart;
})))

tb-or-ta : GuardsExclude tb ta
tb-or-ta = inl (inl (inl (record {
  left = name_ (codes "s");
  other = name_ (codes "s");
  one_op = Ne;
  other_op = Eq;
  n = pos 0;
  m = pos 0;
  one = record { right = n_ 0; at = 0; is = refl; comparison = refl; number = refl };
  two = record { right = n_ 0; at = 0; is = refl; comparison = refl; number = refl };
  same = refl;
  never = apart-equal;
})))

ta-is-tame : HasTameGuards alt ta
ta-is-tame = (((tt, tt), (truths, refl)), tt)

tb-is-tame : HasTameGuards alt tb
tb-is-tame = (((tt, tt), (truths, refl)), tt)

alt-excludes : (a b : ℕ) (one two : Action) → slice_get alt.actions a ≡ Some one → slice_get alt.actions b ≡ Some two → a ≢ b → GuardsExclude one two
alt-excludes a b one two e f apart = of-two ta tb (λ c act. c ≢ b → GuardsExclude act two)
    (of-two ta tb (λ d act. 0 ≢ d → GuardsExclude ta act) (λ n. absurd (n refl)) (λ n. ta-or-tb) b two f)
    (of-two ta tb (λ d act. 1 ≢ d → GuardsExclude tb act) (λ n. tb-or-ta) (λ n. absurd (n refl)) b two f)
    a one e apart

alt_is_certified : IsCertified alt
alt_is_certified = record {
  guards = λ s a act in_s e el. of-two ta tb (λ c x. HasTameGuards alt x) ta-is-tame tb-is-tame a act e;
  pairs = λ s a b one two in_s e f apart el other. inr (alt-excludes a b one two e f apart);
}

-- ---- a division by a token might trap

divides_6_is_not_tame : ¬ HasTameGuards begins divides_6
divides_6_is_not_tame h = let found : ◌≡◌ {A = Option Interval} None (Some h.0.1.0) = h.0.1.1 in grind arith

begins_is_not_certified : ¬ IsCertified begins
begins_is_not_certified h = divides_6_is_not_tame (h.guards 0 1 divides_6 (inl (omega arith)) refl refl)

-- ---- two actions without guards, of which none is above the other, aren't certified

abbrev either : Actor
either = actor_ (port_ (codes "In") ∷ []) [] (hi ∷ lo ∷ []) [] [] []

none-is-modest : ¬ ((IsModest either 0 1 ⊎ IsModest either 1 0) ⊎ GuardsExclude hi lo)
none-is-modest (inl (inl h)) = none-above 0 1 h.above
none-is-modest (inl (inr h)) = none-above 1 0 h.above
none-is-modest (inr h) = h

either_is_not_certified : ¬ IsCertified either
either_is_not_certified h = none-is-modest (h.pairs 0 0 1 hi lo (inl (omega arith)) refl refl (λ e. omega arith) refl refl)

-- the higher one needs less: then it is certified
abbrev lo_hi : Actor
lo_hi = actor_ (port_ (codes "In") ∷ []) [] (hi ∷ lo ∷ []) [] [] ((1, 0) ∷ [])

one-or-two : (b : Bool) → (if b then 1 else 0) ≤ (if b then 2 else 0)
one-or-two true = omega arith
one-or-two false = omega arith

lo-needs-less : (port : ℕ) → need lo_hi 1 port ≤ need lo_hi 0 port
lo-needs-less port = one-or-two (0 == port)

lo-is-modest : IsModest lo_hi 1 0
lo-is-modest = record { above = ([], (0, (omega arith), refl)); no_more = lo-needs-less }

lo-or-hi : (a b : ℕ) (one two : Action) → slice_get lo_hi.actions a ≡ Some one → slice_get lo_hi.actions b ≡ Some two → a ≢ b → IsModest lo_hi a b ⊎ IsModest lo_hi b a
lo-or-hi a b one two e f apart = of-two hi lo (λ c act. c ≢ b → IsModest lo_hi c b ⊎ IsModest lo_hi b c)
    (of-two hi lo (λ d act. 0 ≢ d → IsModest lo_hi 0 d ⊎ IsModest lo_hi d 0) (λ n. absurd (n refl)) (λ n. inr lo-is-modest) b two f)
    (of-two hi lo (λ d act. 1 ≢ d → IsModest lo_hi 1 d ⊎ IsModest lo_hi d 1) (λ n. inl lo-is-modest) (λ n. absurd (n refl)) b two f)
    a one e apart

lo_hi_is_certified : IsCertified lo_hi
lo_hi_is_certified = record {
  guards = λ s a act in_s e el. of-two hi lo (λ c x. HasTameGuards lo_hi x) tt tt a act e;
  pairs = λ s a b one two in_s e f apart el other. inl (lo-or-hi a b one two e f apart);
}

-- ---- a decoder of runs, which counts down: what its guards say of the count excludes each other

abbrev set_ : List ℕ → Tree → Tree
set_ name e = tree.assign (tree.ident name 0) tree.nil e 0

abbrev takes_run : Action
takes_run = record {
  tag = codes "get" ∷ [];
  patterns = takes_ 0 (codes "r" ∷ codes "v" ∷ []) ∷ [];
  outputs = [];
  guards = [];
  locals = [];
  body = listed (set_ (codes "run") (name_ (codes "r")) ∷ set_ (codes "level") (name_ (codes "v")) ∷ []);
  initialize = false;
}

abbrev sends_zero : Action
sends_zero = acts_ (codes "zero" ∷ []) [] (two Gt run_ (n_ 0) ∷ []) (set_ (codes "run") (two Sub run_ (n_ 1)) ∷ []) (n_ 0)

abbrev sends_level : Action
sends_level = acts_ (codes "put" ∷ []) [] (two Eq run_ (n_ 0) ∷ []) [] (name_ (codes "level"))

abbrev runs_down : Actor
runs_down = actor_ (port_ (codes "In") ∷ [])
    (record { name = codes "run"; shape = Single (scalar.Int 8); value = Num (pos 0); changes = true } ∷ record { name = codes "level"; shape = Single (scalar.Int 16); value = Num (pos 0); changes = true } ∷ [])
    (takes_run ∷ sends_zero ∷ sends_level ∷ [])
    (codes "idle" ∷ codes "give" ∷ [])
    (record { from = 0; action = 0; to = 1 } ∷ record { from = 1; action = 1; to = 1 } ∷ record { from = 1; action = 2; to = 0 } ∷ []) []

zero-or-level : GuardsExclude sends_zero sends_level
zero-or-level = inl (inl counters_exclude)

level-or-zero : GuardsExclude sends_level sends_zero
level-or-zero = inl (inl counters_exclude_too)

of-three : (one two three : Action) (P : ℕ → Action → Type 0) → P 0 one → P 1 two → P 2 three → (a : ℕ) (act : Action) → slice_get (one ∷ two ∷ three ∷ []) a ≡ Some act → P a act
of-three one two three P p q r zero act e = let same : one ≡ act = cc in subst (λ x. P 0 x) same p
of-three one two three P p q r (suc a) act e = of-two two three (λ b x. P (suc b) x) q r a act e

-- the schedule has two states, and there is no other
of-states : (P : ℕ → Type 0) → P 0 → P 1 → (s : ℕ) → IsStateOf runs_down s → P s
of-states P p q zero h = p
of-states P p q (suc zero) h = q
of-states P p q (suc (suc s)) (inl h) = absurd (omega arith)
of-states P p q (suc (suc s)) (inr h) = absurd (grind arith)

-- what is said of each two of three actions
each-pair : (one two three : Action) (Q : ℕ → Action → ℕ → Action → Type 0)
    → Q 0 one 0 one → Q 0 one 1 two → Q 0 one 2 three → Q 1 two 0 one → Q 1 two 1 two → Q 1 two 2 three → Q 2 three 0 one → Q 2 three 1 two → Q 2 three 2 three
    → (a b : ℕ) (x y : Action) → slice_get (one ∷ two ∷ three ∷ []) a ≡ Some x → slice_get (one ∷ two ∷ three ∷ []) b ≡ Some y → Q a x b y
each-pair one two three Q c00 c01 c02 c10 c11 c12 c20 c21 c22 a b x y e f = of-three one two three (λ c z. Q c z b y)
    (of-three one two three (λ d z. Q 0 one d z) c00 c01 c02 b y f)
    (of-three one two three (λ d z. Q 1 two d z) c10 c11 c12 b y f)
    (of-three one two three (λ d z. Q 2 three d z) c20 c21 c22 b y f)
    a x e

untrue : {A : Type 0} → false ≡ true → A
untrue h = absurd (grind arith)

-- two actions that are both eligible in a state exclude each other
abbrev AreApart : ℕ → ℕ → Action → ℕ → Action → Type 0
AreApart s a one b two = a ≢ b → eligible runs_down s a ≡ true → eligible runs_down s b ≡ true → GuardsExclude one two

-- in the first state there is one eligible action, and in the second one there are two
runs-exclude : (s : ℕ) → IsStateOf runs_down s → (a b : ℕ) (one two : Action) → slice_get runs_down.actions a ≡ Some one → slice_get runs_down.actions b ≡ Some two → AreApart s a one b two
runs-exclude = of-states (λ s. (a b : ℕ) (one two : Action) → slice_get runs_down.actions a ≡ Some one → slice_get runs_down.actions b ≡ Some two → AreApart s a one b two)
    (each-pair takes_run sends_zero sends_level (AreApart 0)
    (λ n h k. absurd (n refl)) (λ n h k. untrue k) (λ n h k. untrue k)
    (λ n h k. untrue h) (λ n h k. untrue h) (λ n h k. untrue h)
    (λ n h k. untrue h) (λ n h k. untrue h) (λ n h k. untrue h))
    (each-pair takes_run sends_zero sends_level (AreApart 1)
    (λ n h k. untrue h) (λ n h k. untrue h) (λ n h k. untrue h)
    (λ n h k. untrue k) (λ n h k. absurd (n refl)) (λ n h k. zero-or-level)
    (λ n h k. untrue k) (λ n h k. level-or-zero) (λ n h k. absurd (n refl)))

runs_down_is_certified : IsCertified runs_down
runs_down_is_certified = record {
  guards = λ s a act in_s e el. of-three takes_run sends_zero sends_level (λ c x. HasTameGuards runs_down x) tt (((tt, tt), (truths, refl)), tt) (((tt, tt), (truths, refl)), tt) a act e;
  pairs = λ s a b one two in_s e f apart el other. inr (runs-exclude s in_s a b one two e f apart el other);
}
