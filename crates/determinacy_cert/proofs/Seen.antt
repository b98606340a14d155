-- What a guard sees in a sound actor's state over tokens of its ports: values of the types that its names have.
use Rattle.std.proofs.Common.{◌≡◌, ℕ, zero, suc, ◌+◌, ◌-◌, ◌≤◌, ◌<◌, ◌^◌, Bool, true, false, ℤ, pos, ◌+ℤ◌, ◌≤ℤ◌, ◌<ℤ◌, List, [], ◌∷◌, ◌++◌, length, refl, sym, ap, ◌∙◌, subst, arith, pow_pos, pow_mono}
use Rattle.std.specs.Prelude.{Option, None, Some, if◌then◌else◌, slice_index_or}
use Rattle.std.specs.Str.{bytes_eq}
use Rattle.std.proofs.lemmas.Int.{ints}
use Rattle.rvc_base.specs.declared.scalar.Scalar.{Scalar}
use Rattle.rvc_base.specs.declared.scalar.Scalar.TheVariants as scalar
use Rattle.rvc_base.specs.Storing.{IsSize, InRange}
use Rattle.rvc_base.specs.Width.{IsNum}
use Rattle.rvc_base.specs.Turns.{max_turns}
use Rattle.rvc_base.specs.Arithmetic.{truth}
use Rattle.cal_ast.specs.Tree.{Tree}
use Rattle.cal_model.specs.Value.{Shape, Single, Many, Value, Num, Truth, Items, Values, Nil, Cons, count, of_number, IsOf, AreOf, IsType}
use Rattle.cal_model.specs.Outcome.{Out, Gives, Traps, Lacks, Clashes}
use Rattle.cal_model.specs.Env.{Var, find}
use Rattle.cal_model.specs.Expression.{eval}
use Rattle.cal_model.specs.Actor.{Port, Held, Pattern, Action, Actor}
use Rattle.cal_model.specs.Call.{calls_of}
use Rattle.cal_model.specs.Sound.{Each, IsSound}
use Rattle.cal_model.specs.ActorState.{IsVarOf, AreVarsOf, IsActorState, AreTokensOn, AreTokensOf}
use Rattle.cal_model.specs.Selection.{State, tokens_on, kind_of_port, token, tokens_from, pattern_value, pattern_vars_from, pattern_vars, seen_by, Guards, AreTrue, AreFalse, AreTrapping, guard_then, guards_say}
use Rattle.cal_model.specs.Certified.{Interval, hull, Ranged, ranged, ranged_vars, shape_of_tokens, ranged_names, ranged_patterns, guard_names, range, scalars_range, all_scalars_range, IsBare, HasTameGuards}
use Rattle.determinacy_cert.proofs.Intervals.{Lies, in_left, in_right}
use Rattle.determinacy_cert.proofs.Ranges.{Safe, just_lies}
use Rattle.determinacy_cert.proofs.RangeLaw.{AllIn, EachIn, StandsAs, StandUnder, SoundUnder, Both, As, range_safe}
use Rattle.determinacy_cert.proofs.RangeLaw as law

-- ---- values of types are numbers of the language

low_power : (n : ℕ) → n ≤ 64 → 2 ^ n ≤ 2 ^ 64
low_power n h = pow_mono h

single_sound : (t : Scalar) (v : Value) → IsSize t → IsOf (Single t) v → law.IsSound v
single_sound scalar.Bool (Truth b) size of = tt
single_sound scalar.Bool (Num z) size of = absurd of
single_sound (scalar.Int n) (Num z) size of =
    let small : 2 ^ (n - 1) ≤ 2 ^ 64 = low_power (n - 1) (let m : n ≤ 64 = size.1 in omega arith) in
    fits z (2 ^ (n - 1)) small of.0 of.1
  where
    fits : (z : ℤ) (m : ℕ) → m ≤ 2 ^ 64 → pos 0 ≤ℤ (z +ℤ pos m) → z <ℤ pos m → IsNum z
    fits z m h p q = omega (arith, ints)
single_sound (scalar.Int n) (Truth b) size of = absurd of
single_sound (scalar.Uint n) (Num z) size of =
    let small : 2 ^ n ≤ 2 ^ 64 = low_power n size.1 in fits z (2 ^ n) small of.0 of.1
  where
    fits : (z : ℤ) (m : ℕ) → m ≤ 2 ^ 64 → pos 0 ≤ℤ z → z <ℤ pos m → IsNum z
    fits z m h p q = omega (arith, ints)
single_sound (scalar.Uint n) (Truth b) size of = absurd of
single_sound t (Items vs) size of = absurd of

mutual
  of_sound : (t : Shape) (v : Value) → IsType t → IsOf t v → law.IsSound v
  of_sound (Single t) v type of = single_sound t v type of
  of_sound (Many n t) (Items vs) type of = are_sound t vs type.2 of.1
  of_sound (Many n t) (Num z) type of = absurd of
  of_sound (Many n t) (Truth b) type of = absurd of

  are_sound : (t : Shape) (vs : Values) → IsType t → AreOf t vs → law.AreSound vs
  are_sound t Nil type of = tt
  are_sound t (Cons v vs) type of = (of_sound t v type of.0, are_sound t vs type of.1)

-- ---- a constant's scalars lie between its least and its greatest

mutual
  all_left : (i j : Interval) (v : Value) → AllIn i v → AllIn (hull i j) v
  all_left i j (Num z) h = in_left i j z h
  all_left i j (Truth b) h = in_left i j (truth b) h
  all_left i j (Items vs) h = each_left i j vs h

  each_left : (i j : Interval) (vs : Values) → EachIn i vs → EachIn (hull i j) vs
  each_left i j Nil h = tt
  each_left i j (Cons v vs) h = (all_left i j v h.0, each_left i j vs h.1)

mutual
  all_right : (i j : Interval) (v : Value) → AllIn j v → AllIn (hull i j) v
  all_right i j (Num z) h = in_right i j z h
  all_right i j (Truth b) h = in_right i j (truth b) h
  all_right i j (Items vs) h = each_right i j vs h

  each_right : (i j : Interval) (vs : Values) → EachIn j vs → EachIn (hull i j) vs
  each_right i j Nil h = tt
  each_right i j (Cons v vs) h = (all_right i j v h.0, each_right i j vs h.1)

-- values without scalars lie anywhere
mutual
  none_within : (i : Interval) (v : Value) → scalars_range v ≡ None → AllIn i v
  none_within i (Num z) h = cc
  none_within i (Truth b) h = cc
  none_within i (Items vs) h = none_of_each i vs h

  none_of_each : (i : Interval) (vs : Values) → all_scalars_range vs ≡ None → EachIn i vs
  none_of_each i Nil h = tt
  none_of_each i (Cons v vs) h = go (scalars_range v) (all_scalars_range vs) refl refl h (none_within i v) (none_of_each i vs)
    where
      go : (o p : Option Interval) → scalars_range v ≡ o → all_scalars_range vs ≡ p
          → ◌≡◌ {A = Option Interval} (elim o [ None ↦ p | Some j ↦ elim p [ None ↦ Some j | Some k ↦ Some (hull j k) ] ]) None
          → (scalars_range v ≡ None → AllIn i v) → (all_scalars_range vs ≡ None → EachIn i vs) → AllIn i v × EachIn i vs
      go None p a b h f g = (f a, g (b ∙ h))
      go (Some j) None a b h f g = cc
      go (Some j) (Some k) a b h f g = cc

mutual
  pub scalars_within : (v : Value) (r : Interval) → scalars_range v ≡ Some r → AllIn r v
  scalars_within (Num z) r h = let same : _ ≡ r = (let e : scalars_range (Num z) ≡ Some r = h in cc) in subst (λ w. Lies w z) same (just_lies z)
  scalars_within (Truth b) r h = let same : _ ≡ r = (let e : scalars_range (Truth b) ≡ Some r = h in cc) in subst (λ w. Lies w (truth b)) same (just_lies (truth b))
  scalars_within (Items vs) r h = each_within vs r h

  each_within : (vs : Values) (r : Interval) → all_scalars_range vs ≡ Some r → EachIn r vs
  each_within Nil r h = tt
  each_within (Cons v vs) r h = go (scalars_range v) (all_scalars_range vs) refl refl h (scalars_within v) (each_within vs)
    where
      go : (o p : Option Interval) → scalars_range v ≡ o → all_scalars_range vs ≡ p
          → ◌≡◌ {A = Option Interval} (elim o [ None ↦ p | Some j ↦ elim p [ None ↦ Some j | Some k ↦ Some (hull j k) ] ]) (Some r)
          → ((s : Interval) → scalars_range v ≡ Some s → AllIn s v) → ((s : Interval) → all_scalars_range vs ≡ Some s → EachIn s vs) → AllIn r v × EachIn r vs
      go None p a b h f g = (none_within r v a, g r (b ∙ h))
      go (Some j) None a b h f g = let same : j ≡ r = cc in (subst (λ w. AllIn w v) same (f j a), none_of_each r vs b)
      go (Some j) (Some k) a b h f g =
          let same : hull j k ≡ r = cc in
          (subst (λ w. AllIn w v) same (all_left j k v (f j a)), subst (λ w. EachIn w vs) same (each_right j k vs (g k b)))

-- ---- names beside their values

-- each name stands beside a value as it says
abbrev pub Paired : List Ranged → List Var → Type 0
Paired [] [] = Unit {0}
Paired (r ∷ rs) (x ∷ xs) = (x.name ≡ r.name) × As r x.value × Paired rs xs
Paired rs xs = ⊥

paired_both : (rs ss : List Ranged) (xs ys : List Var) → Paired rs xs → Paired ss ys → Paired (rs ++ ss) (xs ++ ys)
paired_both [] ss [] ys p q = q
paired_both [] ss (x ∷ xs) ys p q = absurd p
paired_both (r ∷ rs) ss [] ys p q = absurd p
paired_both (r ∷ rs) ss (x ∷ xs) ys p q = (p.0, p.1, paired_both rs ss xs ys p.2 q)

found_if : (b : Bool) (s r : Ranged) (w v : Value) (o : Option Ranged) (p : Option Value) → As s w → (if b then Some s else o) ≡ Some r → (if b then Some w else p) ≡ Some v
    → (o ≡ Some r → p ≡ Some v → As r v) → As r v
found_if true s r w v o p held h k others = let one : s ≡ r = cc in let two : w ≡ v = cc in subst (λ y. As y v) one (subst (λ y. As s y) two held)
found_if false s r w v o p held h k others = others h k

sound_if : (b : Bool) (w v : Value) (p : Option Value) → law.IsSound w → (if b then Some w else p) ≡ Some v → (p ≡ Some v → law.IsSound v) → law.IsSound v
sound_if true w v p held k others = let two : w ≡ v = cc in subst (λ y. law.IsSound y) two held
sound_if false w v p held k others = others k

paired_finds : (rs : List Ranged) (xs : List Var) (name : List ℕ) (r : Ranged) (v : Value) → Paired rs xs → ranged name rs ≡ Some r → find name xs ≡ Some v → As r v
paired_finds [] xs name r v p h k = cc
paired_finds (s ∷ rs) [] name r v p h k = absurd p
paired_finds (s ∷ rs) (x ∷ xs) name r v p h k =
    found_if (bytes_eq s.name name) s r x.value v (ranged name rs) (find name xs) p.1 h (subst (λ n. (if bytes_eq n name then Some x.value else find name xs) ≡ Some v) p.0 k)
    (paired_finds rs xs name r v p.2)

paired_sound : (rs : List Ranged) (xs : List Var) (name : List ℕ) (v : Value) → Paired rs xs → find name xs ≡ Some v → law.IsSound v
paired_sound [] [] name v p k = cc
paired_sound [] (x ∷ xs) name v p k = absurd p
paired_sound (s ∷ rs) [] name v p k = absurd p
paired_sound (s ∷ rs) (x ∷ xs) name v p k = sound_if (bytes_eq x.name name) x.value v (find name xs) p.1.1 k (paired_sound rs xs name v p.2)

-- ---- the actor's variables

value_if : (b : Bool) (c d : Value) → (if b then None else Some c) ≡ Some d → (b ≡ false) × (c ≡ d)
value_if true c d h = cc
value_if false c d h = (refl, (let e : Some c ≡ Some d = h in cc))

var_as : (h : Held) (x : Var) → IsType h.shape → IsVarOf h x → As (record { name = h.name; shape = h.shape; value = if h.changes then None else Some h.value }) x.value
var_as h x type is = (
  record {
    of = is.value;
    constant = λ c r held within.
        let both = value_if h.changes h.value c held in
        subst (λ w. AllIn r w) (sym (is.constant both.0 ∙ both.1)) (scalars_within c r within);
  },
  of_sound h.shape x.value type is.value,
)

vars_paired : (hs : List Held) (xs : List Var) → Each (λ h. IsType h.shape × IsOf h.shape h.value) hs → AreVarsOf hs xs → Paired (ranged_vars hs) xs
vars_paired [] [] types are = tt
vars_paired [] (x ∷ xs) types are = absurd are
vars_paired (h ∷ hs) [] types are = absurd are
vars_paired (h ∷ hs) (x ∷ xs) types are = (are.0.name, var_as h x types.0.0 are.0, vars_paired hs xs types.1 are.1)

-- ---- tokens

zero_there : (t : Scalar) → InRange t (pos 0)
zero_there scalar.Bool = Rattle.std.proofs.Common.inl refl
zero_there (scalar.Int n) = let some : 0 < 2 ^ (n - 1) = pow_pos (n - 1) in (omega (arith, ints), omega (arith, ints))
zero_there (scalar.Uint n) = let some : 0 < 2 ^ n = pow_pos n in (omega (arith, ints), omega (arith, ints))

token_there : (t : Scalar) (us : List ℤ) (k : ℕ) → Each (InRange t) us → InRange t (slice_index_or us k (pos 0))
token_there t [] k h = zero_there t
token_there t (z ∷ us) zero h = h.0
token_there t (z ∷ us) (suc k) h = token_there t us k h.1

number_of_type : (t : Scalar) (z : ℤ) → InRange t z → IsOf (Single t) (of_number t z)
number_of_type scalar.Bool z h = tt
number_of_type (scalar.Int n) z h = h
number_of_type (scalar.Uint n) z h = h

tokens_there : (t : Scalar) (us : List ℤ) (n k far : ℕ) → Each (InRange t) us → (count (tokens_from t us n k far) ≡ n) × AreOf (Single t) (tokens_from t us n k far)
tokens_there t us zero k far h = (refl, tt)
tokens_there t us (suc n) k far h =
    let more = tokens_there t us n (k + far) far h in
    (ap suc more.0, (number_of_type t _ (token_there t us k h), more.1))

-- what a name of a pattern stands for
token_as : (t : Scalar) (us : List ℤ) (repeat : Option ℕ) (names k : ℕ) (name : List ℕ) → IsSize t → Each (InRange t) us
    → As (record { name = name; shape = shape_of_tokens t repeat; value = None }) (pattern_value t us repeat names k)
token_as t us None names k name size h =
    let of = number_of_type t (slice_index_or us k (pos 0)) (token_there t us k h) in
    (record { of = of; constant = λ c r held within. cc }, single_sound t (token t us k) size of)
token_as t us (Some n) names k name size h =
    let are = tokens_there t us n k names h in
    (record { of = are; constant = λ c r held within. cc }, are_sound (Single t) (tokens_from t us n k names) size are.1)

names_paired : (t : Scalar) (us : List ℤ) (q : Pattern) (k : ℕ) (names : List (List ℕ)) → IsSize t → Each (InRange t) us
    → Paired (ranged_names (shape_of_tokens t q.repeat) names) (pattern_vars_from t us q k names)
names_paired t us q k [] size h = tt
names_paired t us q k (name ∷ names) size h =
    paired_both (ranged_names (shape_of_tokens t q.repeat) names) _ (pattern_vars_from t us q (suc k) names) _
    (names_paired t us q (suc k) names size h)
    (refl, token_as t us q.repeat (length q.names) k name size h, tt)

sized_at : (ps : List Port) (p : ℕ) → Each (λ q. IsSize q.kind) ps → IsSize (kind_of_port ps p)
sized_at [] p h = tt
sized_at (q ∷ ps) zero h = h.0
sized_at (q ∷ ps) (suc p) h = sized_at ps p h.1

tokens_at : (ps : List Port) (u : List (List ℤ)) (p : ℕ) → AreTokensOn ps u → Each (InRange (kind_of_port ps p)) (tokens_on u p)
tokens_at [] [] p h = tt
tokens_at [] (us ∷ u) p h = absurd h
tokens_at (q ∷ ps) [] p h = absurd h
tokens_at (q ∷ ps) (us ∷ u) zero h = h.0
tokens_at (q ∷ ps) (us ∷ u) (suc p) h = tokens_at ps u p h.1

patterns_paired : (actor : Actor) (u : List (List ℤ)) (qs : List Pattern) → Each (λ q. IsSize q.kind) actor.ins → AreTokensOf actor u
    → Paired (ranged_patterns actor qs) (pattern_vars actor u qs)
patterns_paired actor u [] sizes tokens = tt
patterns_paired actor u (q ∷ qs) sizes tokens =
    paired_both (ranged_patterns actor qs) _ (pattern_vars actor u qs) _ (patterns_paired actor u qs sizes tokens)
    (names_paired (kind_of_port actor.ins q.port) (tokens_on u q.port) q 0 q.names (sized_at actor.ins q.port sizes) (tokens_at actor.ins u q.port tokens))

first_each : {A : Type 0} (P : A → Type 0) (xs ys : List A) → Each P (xs ++ ys) → Each P xs
first_each P [] ys h = tt
first_each P (x ∷ xs) ys h = (h.0, first_each P xs ys h.1)

seen_paired : (actor : Actor) (x : State) (u : List (List ℤ)) (act : Action) → IsSound actor → IsActorState actor x → AreTokensOf actor u
    → Paired (guard_names actor act) (pattern_vars actor u act.patterns ++ x.vars)
seen_paired actor x u act sound state tokens =
    paired_both (ranged_patterns actor act.patterns) (ranged_vars actor.vars) (pattern_vars actor u act.patterns) x.vars
    (patterns_paired actor u act.patterns (first_each (λ q. IsSize q.kind) actor.ins actor.outs sound.port_sizes) tokens)
    (vars_paired actor.vars x.vars sound.vars state.vars)

-- ---- guards never trap

pub guard_safe : (actor : Actor) (x : State) (u : List (List ℤ)) (act : Action) (g : Tree) (i : Interval) (left : ℕ) → IsSound actor → IsActorState actor x
    → AreTokensOf actor u → range g (guard_names actor act) ≡ Some i → Safe (Both i) (eval g (calls_of actor.funs) (seen_by actor x u act) left)
guard_safe actor x u act g i left sound state tokens h =
    let paired = seen_paired actor x u act sound state tokens in
    range_safe g (calls_of actor.funs) (seen_by actor x u act) (guard_names actor act) i left
    (λ name r v there found. (paired_finds (guard_names actor act) (pattern_vars actor u act.patterns ++ x.vars) name r v paired there found).0)
    (λ name v found. paired_sound (guard_names actor act) (pattern_vars actor u act.patterns ++ x.vars) name v paired found)
    h

abbrev pub NeverTraps : Guards → Type 0
NeverTraps AreTrue = Unit {0}
NeverTraps AreFalse = Unit {0}
NeverTraps (AreTrapping c) = ⊥

guard_then_safe : (P : Value → Type 0) (o : Out Value) (others : Guards) → Safe P o → NeverTraps others → NeverTraps (guard_then o others)
guard_then_safe P (Gives (Truth true) left) others h k = k
guard_then_safe P (Gives (Truth false) left) others h k = tt
guard_then_safe P (Gives (Num z) left) others h k = tt
guard_then_safe P (Gives (Items vs) left) others h k = tt
guard_then_safe P (Traps c) others h k = absurd h
guard_then_safe P Lacks others h k = tt
guard_then_safe P Clashes others h k = tt

guards_safe : (actor : Actor) (x : State) (u : List (List ℤ)) (act : Action) (gs : List Tree) → IsSound actor → IsActorState actor x → AreTokensOf actor u
    → Each (λ g. IsBare g × ((i : Interval) × (range g (guard_names actor act) ≡ Some i))) gs
    → NeverTraps (guards_say gs (calls_of actor.funs) (seen_by actor x u act))
guards_safe actor x u act [] sound state tokens tame = tt
guards_safe actor x u act (g ∷ gs) sound state tokens tame =
    guard_then_safe (Both tame.0.1.0) (eval g (calls_of actor.funs) (seen_by actor x u act) max_turns) (guards_say gs (calls_of actor.funs) (seen_by actor x u act))
    (guard_safe actor x u act g tame.0.1.0 max_turns sound state tokens tame.0.1.1)
    (guards_safe actor x u act gs sound state tokens tame.1)

pub tame_guards_never_trap : (actor : Actor) (x : State) (u : List (List ℤ)) (act : Action) → IsSound actor → IsActorState actor x → AreTokensOf actor u
    → HasTameGuards actor act → NeverTraps (guards_say act.guards (calls_of actor.funs) (seen_by actor x u act))
tame_guards_never_trap actor x u act sound state tokens tame = guards_safe actor x u act act.guards sound state tokens tame
