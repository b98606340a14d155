-- What the names of an action mean stands in its cells and tokens.
use Rattle.std.proofs.Common.{◌≡◌, ℕ, zero, suc, ◌+◌, ◌*◌, ◌<◌, ◌≤◌, ◌⊎◌, inl, inr, Bool, true, false, ◌&&◌, ℤ, pos, List, [], ◌∷◌, ◌++◌, length, take, refl, sym, ap, subst, ◌∙◌, Option, None, Some, arith}
use Rattle.std.specs.Prelude.{if◌then◌else◌, nat_le, slice_get, slice_index_or}
use Rattle.std.specs.List.{range_with_len}
use Rattle.std.specs.Str.{bytes_eq}
use Rattle.std.proofs.Math.Nat.{mul-le-mul_right}
use Rattle.std.proofs.lemmas.Option.{slice_get-get_or, slice_get_within}
use Rattle.rvc_base.specs.Arithmetic.{is_true, truth}
use Rattle.rvc_base.specs.Storing.{InRange, IsSize}
use Rattle.rvc_base.specs.declared.scalar.Scalar.{Scalar}
use Rattle.rvc_base.specs.declared.scalar.Scalar.TheVariants as scalar
use Rattle.cal_model.specs.Actor.{Action, Actor, Held, Pattern, Port}
use Rattle.cal_model.specs.ActorState.{AreTokensOf, AreTokensOn, AreVarsOf, IsActorState}
use Rattle.cal_model.specs.Env.{Var, find}
use Rattle.cal_model.specs.Rates.{need, parts_times, taken_on}
use Rattle.cal_model.specs.Selection.{State, has_its_tokens, has_its_tokens_on, kind_of_port, pattern_value, pattern_var, pattern_vars, pattern_vars_from, seen_by, token, tokens_from, tokens_on}
use Rattle.cal_model.specs.Sound.{Each, IsAction, IsPattern, IsSound}
use Rattle.cal_model.specs.Value.{HasKind, HaveKind, IsOf, IsType, Value, count, kind_of_scalar, kind_of_type, of_number, scalars_of_type}
use Rattle.cal_model.proofs.ActorStates.{first-sized}
use Rattle.cal_model.proofs.KeptByFirings.{action-at}
use Rattle.cal_model.proofs.KindValues.{of-type, single-is-num}
use Rattle.code_ir.proofs.Tables.{get-before}
use Rattle.lower_base.specs.Flat.{flat, flat_all}
use Rattle.lower_base.specs.Held.{Holds, StandAt}
use Rattle.lower_base.specs.Names.{Name, named}
use Rattle.lower_base.specs.declared.names.Seat.TheVariants.{Tokens}
use Rattle.lower_base.proofs.Keeping.{flat_length, scalars_same}
use Rattle.action_lower.specs.Seats.{HoldVars, numbers_of_vars, pattern_seat, pattern_seats, pattern_seats_from, pattern_shape, seen_seats, state_cells, taken, var_seats}
use Rattle.action_lower.proofs.PatternRates.{TakesItsOwn, take-their-own}

-- ---- names side by side with variables

pub record IsHeld (tokens : ℕ → List ℤ) (cells : List ℤ) (n : Name) (x : Var) : Type 0 where
  pub name : x.name ≡ n.text
  pub of_type : HasKind (kind_of_type n.shape) x.value
  pub stands : StandAt n.seat tokens cells (flat x.value)

abbrev pub AreHeld : (ℕ → List ℤ) → List ℤ → List Name → List Var → Type 0
AreHeld tokens cells [] [] = Unit {0}
AreHeld tokens cells (n ∷ ns) (x ∷ xs) = IsHeld tokens cells n x × AreHeld tokens cells ns xs
AreHeld tokens cells ns xs = ⊥

module _ (tokens : ℕ → List ℤ) (cells : List ℤ) where
  held-join : (ns ms : List Name) (xs ys : List Var) → AreHeld tokens cells ns xs → AreHeld tokens cells ms ys → AreHeld tokens cells (ns ++ ms) (xs ++ ys)
  held-join [] ms [] ys h g = g
  held-join [] ms (x ∷ xs) ys h g = absurd h
  held-join (n ∷ ns) ms [] ys h g = absurd h
  held-join (n ∷ ns) ms (x ∷ xs) ys h g = (h.0, held-join ns ms xs ys h.1 g)

  pub record Found (text : List ℕ) (xs : List Var) (n : Name) : Type 0 where
    pub value : Value
    pub meant : find text xs ≡ Some value
    pub of_type : HasKind (kind_of_type n.shape) value
    pub stands : StandAt n.seat tokens cells (flat value)

  pub held-found : (ns : List Name) (xs : List Var) (text : List ℕ) (n : Name) → AreHeld tokens cells ns xs → named text ns ≡ Some n → Found text xs n
  held-found [] [] text n h e = cc
  held-found [] (x ∷ xs) text n h e = absurd h
  held-found (m ∷ ns) [] text n h e = absurd h
  held-found (m ∷ ns) (x ∷ xs) text n h e = by (bytes_eq m.text text) refl e (held-found ns xs text n h.1)
    where
      test : (b : Bool) → bytes_eq m.text text ≡ b → find text (x ∷ xs) ≡ (if b then Some x.value else find text xs)
      test b same = ap (λ t. if bytes_eq t text then Some x.value else find text xs) h.0.name ∙ ap (λ c. if c then Some x.value else find text xs) same

      by : (b : Bool) → bytes_eq m.text text ≡ b → (if b then Some m else named text ns) ≡ Some n → (named text ns ≡ Some n → Found text xs n) → Found text (x ∷ xs) n
      by true same is more =
          let it : m ≡ n = cc in
          subst (Found text (x ∷ xs)) it (record { value = x.value; meant = test true same; of_type = h.0.of_type; stands = h.0.stands })
      by false same is more =
          let f : Found text xs n = more is in
          record { value = f.value; meant = test false same ∙ f.meant; of_type = f.of_type; stands = f.stands }

-- ---- numbers side by side

pub get-after : {X : Type 0} (xs ys : List X) (k : ℕ) → slice_get (xs ++ ys) (length xs + k) ≡ slice_get ys k
get-after [] ys k = let e : 0 + k ≡ k = omega arith in ap (slice_get ys) e
get-after (x ∷ xs) ys k = let e : suc (length xs) + k ≡ suc (length xs + k) = omega arith in ap (slice_get (x ∷ (xs ++ ys))) e ∙ get-after xs ys k

pub of-take : {X : Type 0} (n : ℕ) (xs : List X) (k : ℕ) (z : X) → slice_get (take n xs) k ≡ Some z → slice_get xs k ≡ Some z
of-take zero xs k z e = cc
of-take (suc n) [] k z e = e
of-take (suc n) (x ∷ xs) zero z e = e
of-take (suc n) (x ∷ xs) (suc k) z e = of-take n xs k z e

in-take : {X : Type 0} (n : ℕ) (xs : List X) (k : ℕ) (z : X) → k < n → slice_get xs k ≡ Some z → slice_get (take n xs) k ≡ Some z
in-take zero xs k z low e = absurd (omega arith)
in-take (suc n) [] k z low e = e
in-take (suc n) (x ∷ xs) zero z low e = e
in-take (suc n) (x ∷ xs) (suc k) z low e = in-take n xs k z (omega arith) e

-- ---- variables in cells

pub vars-held : (tokens : ℕ → List ℤ) (cells : List ℤ) (c : ℕ) (hs : List Held) (xs : List Var) → AreVarsOf hs xs → Each (λ h. IsType h.shape × IsOf h.shape h.value) hs
    → ((k : ℕ) (z : ℤ) → slice_get (numbers_of_vars xs) k ≡ Some z → slice_get cells (c + k) ≡ Some z) → AreHeld tokens cells (var_seats c hs) xs
vars-held tokens cells c [] [] is types at = tt
vars-held tokens cells c [] (x ∷ xs) is types at = absurd is
vars-held tokens cells c (h ∷ hs) [] is types at = absurd is
vars-held tokens cells c (h ∷ hs) (x ∷ xs) is types at =
    let kind : HasKind (kind_of_type h.shape) x.value = of-type x.value h.shape types.0.0 is.0.value in
    let size : length (flat x.value) ≡ scalars_of_type h.shape = flat_length (kind_of_type h.shape) x.value kind ∙ scalars_same h.shape in (
      record {
        name = is.0.name;
        of_type = kind;
        stands = λ k z e. at k z (get-before (flat x.value) (numbers_of_vars xs) k (slice_get_within (flat x.value) k z e) ∙ e);
      },
      vars-held tokens cells (c + scalars_of_type h.shape) hs xs is.1 types.1
          (λ k z e. let f : c + (length (flat x.value) + k) ≡ c + scalars_of_type h.shape + k = omega (arith, size) in
          ap (slice_get cells) (sym f) ∙ at (length (flat x.value) + k) z (get-after (flat x.value) (numbers_of_vars xs) k ∙ e)),
    )

-- ---- tokens

tokens-at : (ps : List Port) (u : List (List ℤ)) (port : ℕ) → AreTokensOn ps u → Each (InRange (kind_of_port ps port)) (tokens_on u port)
tokens-at [] [] port h = tt
tokens-at [] (us ∷ u) port h = absurd h
tokens-at (p ∷ ps) [] port h = absurd h
tokens-at (p ∷ ps) (us ∷ u) zero h = h.0
tokens-at (p ∷ ps) (us ∷ u) (suc port) h = tokens-at ps u port h.1

pub size-at : (ps : List Port) (port : ℕ) → Each (λ p. IsSize p.kind) ps → IsSize (kind_of_port ps port)
size-at [] port h = tt
size-at (p ∷ ps) zero h = h.0
size-at (p ∷ ps) (suc port) h = size-at ps port h.1

both-true : (a b : Bool) → (a && b) ≡ true → (a ≡ true) × (b ≡ true)
both-true true true h = (refl, refl)
both-true true false h = absurd (grind arith)
both-true false b h = absurd (grind arith)

le-is : (n m : ℕ) → nat_le n m ≡ true → n ≤ m
le-is n m h = grind arith

has-at : (actor : Actor) (u : List (List ℤ)) (a k s p : ℕ) → has_its_tokens_on actor u a (range_with_len s k) ≡ true → s ≤ p → p < s + k → need actor a p ≤ length (tokens_on u p)
has-at actor u a zero s p h i j = absurd (omega arith)
has-at actor u a (suc k) s p h i j = go (both-true (nat_le (need actor a s) (length (tokens_on u s))) (has_its_tokens_on actor u a (range_with_len (s + 1) k)) h) (has-at actor u a k (s + 1) p) (at-or-after s p i)
  where
    at-or-after : (s p : ℕ) → s ≤ p → (s ≡ p) ⊎ (s + 1 ≤ p)
    at-or-after s p h = grind arith

    go : (nat_le (need actor a s) (length (tokens_on u s)) ≡ true) × (has_its_tokens_on actor u a (range_with_len (s + 1) k) ≡ true)
        → (has_its_tokens_on actor u a (range_with_len (s + 1) k) ≡ true → s + 1 ≤ p → p < s + 1 + k → need actor a p ≤ length (tokens_on u p))
        → (s ≡ p) ⊎ (s + 1 ≤ p) → need actor a p ≤ length (tokens_on u p)
    go both ih (inl same) = subst (λ n. need actor a n ≤ length (tokens_on u n)) same (le-is (need actor a s) (length (tokens_on u s)) both.0)
    go both ih (inr after) = ih both.1 after (omega arith)

range-at : (t : Scalar) (us : List ℤ) (i : ℕ) → Each (InRange t) us → i < length us → InRange t (slice_index_or us i (pos 0))
range-at t [] i h low = absurd (omega arith)
range-at t (z ∷ us) zero h low = h.0
range-at t (z ∷ us) (suc i) h low = range-at t us i h.1 (omega arith)

number-kind : (t : Scalar) (z : ℤ) → IsSize t → InRange t z → HasKind (kind_of_scalar t) (of_number t z)
number-kind scalar.Bool z s h = tt
number-kind (scalar.Int n) z s h = single-is-num (scalar.Int n) z s h
number-kind (scalar.Uint n) z s h = single-is-num (scalar.Uint n) z s h

truth-back : (z : ℤ) → (z ≡ pos 0) ⊎ (z ≡ pos 1) → truth (is_true z) ≡ z
truth-back z (inl e) = ap (λ y. truth (is_true y)) e ∙ sym e
truth-back z (inr e) = ap (λ y. truth (is_true y)) e ∙ sym e

number-flat : (t : Scalar) (z : ℤ) → InRange t z → flat (of_number t z) ≡ z ∷ []
number-flat scalar.Bool z h = ap (λ y. y ∷ []) (truth-back z h)
number-flat (scalar.Int n) z h = refl
number-flat (scalar.Uint n) z h = refl

-- ---- the names of a pattern

module _ (t : Scalar) (us there : List ℤ) (size : IsSize t) (in_range : Each (InRange t) us) where
  -- the token at a place is there, and in the port's type
  abbrev IsThere : ℕ → Type 0
  IsThere i = (slice_get there i ≡ Some (slice_index_or us i (pos 0))) × (i < length us)

  single-stands : (k j : ℕ) (z : ℤ) (far : ℕ) → IsThere k → slice_get (flat (token t us k)) j ≡ Some z → slice_get there (k + j * far) ≡ Some z
  single-stands k j z far at e = by j (ap (λ l. slice_get l j) (sym (number-flat t (slice_index_or us k (pos 0)) (range-at t us k in_range at.1))) ∙ e)
    where
      by : (j : ℕ) → slice_get (slice_index_or us k (pos 0) ∷ []) j ≡ Some z → slice_get there (k + j * far) ≡ Some z
      by zero e = let f : k + 0 * far ≡ k = omega arith in ap (slice_get there) f ∙ at.0 ∙ e
      by (suc j) e = cc

  many-kind : (n k far : ℕ) → ((i : ℕ) → i < n → IsThere (k + i * far)) → (count (tokens_from t us n k far) ≡ n) × HaveKind (kind_of_scalar t) (tokens_from t us n k far)
  many-kind zero k far at = (refl, tt)
  many-kind (suc n) k far at =
      let first : IsThere k = let e : k + 0 * far ≡ k = omega arith in subst IsThere e (at 0 (omega arith)) in
      let rest = many-kind n (k + far) far (λ i low. let e : k + suc i * far ≡ k + far + i * far = omega arith in subst IsThere e (at (suc i) (omega arith))) in
      (ap suc rest.0, (number-kind t (slice_index_or us k (pos 0)) size (range-at t us k in_range first.1), rest.1))

  many-stand : (n k far j : ℕ) (z : ℤ) → ((i : ℕ) → i < n → IsThere (k + i * far)) → slice_get (flat_all (tokens_from t us n k far)) j ≡ Some z → slice_get there (k + j * far) ≡ Some z
  many-stand zero k far j z at e = cc
  many-stand (suc n) k far j z at e =
      by j (ap (λ l. slice_get (l ++ flat_all (tokens_from t us n (k + far) far)) j) (sym (number-flat t (slice_index_or us k (pos 0)) (range-at t us k in_range first.1))) ∙ e) (λ j f. many-stand n (k + far) far j z later f)
    where
      first : IsThere k
      first = let e : k + 0 * far ≡ k = omega arith in subst IsThere e (at 0 (omega arith))

      later : (i : ℕ) → i < n → IsThere (k + far + i * far)
      later i low = let e : k + suc i * far ≡ k + far + i * far = omega arith in subst IsThere e (at (suc i) (omega arith))

      by : (j : ℕ) → slice_get (slice_index_or us k (pos 0) ∷ flat_all (tokens_from t us n (k + far) far)) j ≡ Some z
          → ((j : ℕ) → slice_get (flat_all (tokens_from t us n (k + far) far)) j ≡ Some z → slice_get there (k + far + j * far) ≡ Some z) → slice_get there (k + j * far) ≡ Some z
      by zero e more = let f : k + 0 * far ≡ k = omega arith in ap (slice_get there) f ∙ first.0 ∙ e
      by (suc j) e more = let f : k + suc j * far ≡ k + far + j * far = omega arith in ap (slice_get there) f ∙ more j e

module _ (actor : Actor) (u : List (List ℤ)) (cells : List ℤ) (tokens : ℕ → List ℤ) (q : Pattern)
    (size : IsSize (kind_of_port actor.ins q.port)) (in_range : Each (InRange (kind_of_port actor.ins q.port)) (tokens_on u q.port))
    (there : (i : ℕ) → i < parts_times (length q.names) q.repeat → IsThere (kind_of_port actor.ins q.port) (tokens_on u q.port) (tokens q.port) size in_range i) where
  abbrev t : Scalar
  t = kind_of_port actor.ins q.port

  abbrev us : List ℤ
  us = tokens_on u q.port

  at-turn : (n k i : ℕ) → q.repeat ≡ Some n → k < length q.names → i < n → k + i * length q.names < parts_times (length q.names) q.repeat
  at-turn n k i e low under =
      let f : parts_times (length q.names) q.repeat ≡ length q.names * n = ap (parts_times (length q.names)) e in
      let g : suc i * length q.names ≤ n * length q.names = mul-le-mul_right (length q.names) under in
      let h : suc i * length q.names ≡ length q.names + i * length q.names = omega arith in
      let m : n * length q.names ≡ length q.names * n = omega arith in
      omega (arith, f, g, h, m)

  at-once : (k : ℕ) → q.repeat ≡ None → k < length q.names → k < parts_times (length q.names) q.repeat
  at-once k e low =
      let f : parts_times (length q.names) q.repeat ≡ length q.names * 1 = ap (parts_times (length q.names)) e in
      let g : length q.names * 1 ≡ length q.names = omega arith in
      omega (arith, f, g)

  value-held : (k : ℕ) (repeat : Option ℕ) → q.repeat ≡ repeat → k < length q.names
      → HasKind (kind_of_type (pattern_shape t repeat)) (pattern_value t us repeat (length q.names) k) × StandAt (Tokens q.port k (length q.names)) tokens cells (flat (pattern_value t us repeat (length q.names) k))
  value-held k None e low =
      let at = there k (at-once k e low) in
      (number-kind t (slice_index_or us k (pos 0)) size (range-at t us k in_range at.1), λ j z f. single-stands t us (tokens q.port) size in_range k j z (length q.names) at f)
  value-held k (Some n) e low =
      let at = λ (i : ℕ) (under : i < n). there (k + i * length q.names) (at-turn n k i e low under) in
      (many-kind t us (tokens q.port) size in_range n k (length q.names) at, λ j z f. many-stand t us (tokens q.port) size in_range n k (length q.names) j z at f)

  names-held : (k : ℕ) (texts : List (List ℕ)) → k + length texts ≤ length q.names → AreHeld tokens cells (pattern_seats_from t q k texts) (pattern_vars_from t us q k texts)
  names-held k [] low = tt
  names-held k (text ∷ texts) low =
      let v = value-held k q.repeat refl (omega arith) in
      held-join tokens cells (pattern_seats_from t q (suc k) texts) (pattern_seat t q k text ∷ []) (pattern_vars_from t us q (suc k) texts) (pattern_var t us q k text ∷ [])
      (names-held (suc k) texts (omega arith)) (record { name = refl; of_type = v.0; stands = v.1 }, tt)

-- ---- all of them

module _ (actor : Actor) (x : State) (u : List (List ℤ)) (a : ℕ) (act : Action) (cells : List ℤ)
    (sound : IsSound actor) (is_act : slice_get actor.actions a ≡ Some act) (in_state : IsActorState actor x) (of_ports : AreTokensOf actor u)
    (has : has_its_tokens actor u a ≡ true) (hold : HoldVars actor x cells) where
  needs : (port : ℕ) → need actor a port ≡ taken_on port act.patterns
  needs port = ap (λ o. elim o [ None ↦ 0 | Some y ↦ taken_on port y.patterns ]) is_act

  sizes : (port : ℕ) → IsSize (kind_of_port actor.ins port)
  sizes port = size-at actor.ins port (first-sized actor.ins actor.outs sound.port_sizes)

  is-there : (q : Pattern) → IsPattern actor q → TakesItsOwn act.patterns q → (i : ℕ) → i < parts_times (length q.names) q.repeat
      → IsThere (kind_of_port actor.ins q.port) (tokens_on u q.port) (taken actor u a q.port) (sizes q.port) (tokens-at actor.ins u q.port of_ports) i
  is-there q is own i low =
      let enough : need actor a q.port ≤ length (tokens_on u q.port) = has-at actor u a (length actor.ins) 0 q.port has (omega arith) (omega (arith, is.port)) in
      let same : need actor a q.port ≡ parts_times (length q.names) q.repeat = needs q.port ∙ own in
      let within : i < length (tokens_on u q.port) = omega (arith, enough, same) in
      (in-take (need actor a q.port) (tokens_on u q.port) i (slice_index_or (tokens_on u q.port) i (pos 0)) (omega (arith, same)) (slice_get-get_or (tokens_on u q.port) i (pos 0) within), within)

  pub patterns-held : (qs : List Pattern) → Each (IsPattern actor) qs → Each (TakesItsOwn act.patterns) qs → AreHeld (taken actor u a) cells (pattern_seats actor.ins qs) (pattern_vars actor u qs)
  patterns-held [] is own = tt
  patterns-held (q ∷ qs) is own =
      held-join (taken actor u a) cells (pattern_seats actor.ins qs) (pattern_seats_from (kind_of_port actor.ins q.port) q 0 q.names)
      (pattern_vars actor u qs) (pattern_vars_from (kind_of_port actor.ins q.port) (tokens_on u q.port) q 0 q.names)
      (patterns-held qs is.1 own.1)
      (names-held actor u cells (taken actor u a) q (sizes q.port) (tokens-at actor.ins u q.port of_ports) (is-there q is.0 own.0) 0 q.names (omega arith))

  pub inputs-held : AreHeld (taken actor u a) cells (pattern_seats actor.ins act.patterns) (pattern_vars actor u act.patterns)
  inputs-held =
      let is : IsAction actor act = action-at actor actor.actions a act sound.actions is_act in
      patterns-held act.patterns is.patterns (take-their-own act.patterns is.ports_in)

  pub state-held : AreHeld (taken actor u a) cells (var_seats 0 actor.vars) x.vars
  state-held =
      vars-held (taken actor u a) cells 0 actor.vars x.vars in_state.vars sound.vars
      (λ k z e. let f : 0 + k ≡ k = omega arith in ap (slice_get cells) f ∙ of-take (state_cells actor) cells k z (ap (λ l. slice_get l k) hold ∙ e))

  all-held : AreHeld (taken actor u a) cells (seen_seats actor act) (pattern_vars actor u act.patterns ++ x.vars)
  all-held =
      held-join (taken actor u a) cells (pattern_seats actor.ins act.patterns) (var_seats 0 actor.vars) (pattern_vars actor u act.patterns) x.vars inputs-held state-held

  pub seen-is-held : Holds (seen_seats actor act) (taken actor u a) cells (seen_by actor x u act)
  seen-is-held text n e =
      let f : Found (taken actor u a) cells text (pattern_vars actor u act.patterns ++ x.vars) n = held-found (taken actor u a) cells (seen_seats actor act) (pattern_vars actor u act.patterns ++ x.vars) text n all-held e in
      record { value = f.value; meant = f.meant; of_type = f.of_type; stands = f.stands }
