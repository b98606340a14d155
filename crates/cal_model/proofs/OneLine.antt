-- Priorities are determined by the actor: there is one line, and so one choice, one effect and one behaviour.
use Rattle.std.proofs.Common.{◌≡◌, ℕ, zero, suc, ◌+◌, ◌<◌, ◌≤◌, Bool, true, false, ℤ, List, [], ◌∷◌, ◌++◌, length, get_or, take, refl, sym, ap, subst, ◌∙◌, arith, ⊎_elim}
use Rattle.std.specs.Prelude.{IsTrue, ◌&&◌, ◌||◌, not, if◌then◌else◌, Contains, None, Some, is_some}
use Rattle.std.proofs.Math.Path.{fun_ext}
use Rattle.std.proofs.lemmas.Bool.{cases_lt}
use Rattle.std.proofs.lemmas.List.{take_more, take_all, get_or_default}
use Rattle.std.proofs.lemmas.Option.{slice_get_past}
use Rattle.rvc_base.specs.Behaviour.{Waits}
use Rattle.rvc_base.specs.Line.{IsNext, IsLine}
use Rattle.cal_model.specs.Actor.{Actor}
use Rattle.cal_model.specs.Eligible.{leads, eligible}
use Rattle.cal_model.specs.Selection.{State, Priorities, Above, readiness, are_true, outranked, is_exposed, has_its_tokens, choice_among, choice}
use Rattle.cal_model.specs.ActorState.{is_actor_state, kept_tokens}
use Rattle.cal_model.specs.Firing.{effect_of_exposed, effect, behaviour}

-- ---- lines

next-same : (n : ℕ) (A : ℕ → ℕ → Type 0) (S : ℕ → Type 0) (b c : ℕ) → IsNext n A S b → IsNext n A S c → b ≡ c
next-same n A S b c h i =
    let below : b ≤ c = h.least c i.may in
    let above : c ≤ b = i.least b h.may in
    omega arith

module _ (n : ℕ) (A : ℕ → ℕ → Type 0) where
  front-same : (k : ℕ) (l m : List ℕ) → IsLine n A l → IsLine n A m → k ≤ length l → k ≤ length m → take k l ≡ take k m
  front-same zero l m h i p q = refl
  front-same (suc k) l m h i p q =
      let fronts : take k l ≡ take k m = front-same k l m h i (omega arith) (omega arith) in
      let there : IsNext n A (Contains (take k l)) (get_or m k 0) = subst (λ front. IsNext n A (Contains front) (get_or m k 0)) (sym fronts) (i.next k (omega arith)) in
      let last : get_or l k 0 ≡ get_or m k 0 = next-same n A (Contains (take k l)) (get_or l k 0) (get_or m k 0) (h.next k (omega arith)) there in
      let one_more : k + 1 ≡ suc k = omega arith in
      subst (λ j. take j l ≡ take j m) one_more
      (take_more l k 0 (omega arith) ∙ ap (λ front. front ++ get_or l k 0 ∷ []) fronts ∙ ap (λ a. take k m ++ a ∷ []) last ∙ sym (take_more m k 0 (omega arith)))

  not-longer : (l m : List ℕ) → IsLine n A l → IsLine n A m → ¬ (length l < length m)
  not-longer l m h i longer =
      let whole : l ≡ take (length l) m = sym (take_all (length l) l (omega arith)) ∙ front-same (length l) l m h i (omega arith) (omega arith) in
      let next = i.next (length l) longer in
      next.may.new (subst (λ front. Contains front (get_or m (length l) 0)) whole (h.each (get_or m (length l) 0) next.may.in_range))

  -- two lines of the same numbers, with the same above the same, are one
  pub line-same : (l m : List ℕ) → IsLine n A l → IsLine n A m → l ≡ m
  line-same l m h i =
      ⊎_elim (λ (less : length l < length m). absurd (not-longer l m h i less)) (λ (most : length m ≤ length l).
      ⊎_elim (λ (less : length m < length l). absurd (not-longer m l i h less)) (λ (least : length l ≤ length m).
      sym (take_all (length l) l (omega arith)) ∙ front-same (length l) l m h i (omega arith) least ∙ take_all (length l) m most)
      (cases_lt (length m) (length l))) (cases_lt (length l) (length m))

-- ---- priorities

true-same : (b c : Bool) → (IsTrue b → IsTrue c) → (IsTrue c → IsTrue b) → b ≡ c
true-same true true f g = refl
true-same true false f g = sym (f refl)
true-same false true f g = g refl
true-same false false f g = refl

pub above-same : (actor : Actor) (p q : Priorities actor) (a b : ℕ) → a < length actor.actions → b < length actor.actions → p.above a b ≡ q.above a b
above-same actor p q a b i j =
    let one = p.is_above a b i j in
    let other = q.is_above a b i j in
    true-same (p.above a b) (q.above a b) (λ h. other.1 (one.0 h)) (λ h. one.1 (other.0 h))

pub one-line : (actor : Actor) (p q : Priorities actor) → p.line ≡ q.line
one-line actor p q = line-same _ _ p.line q.line p.is_line q.is_line

pub one-choice : (actor : Actor) (p q : Priorities actor) (x : State) (u : List (List ℤ)) → choice actor p x u ≡ choice actor q x u
one-choice actor p q x u = ap (choice_among actor x u) (one-line actor p q)

-- a number of a line is one of those that it lines up
in-line : (n : ℕ) (A : ℕ → ℕ → Type 0) (line : List ℕ) (b : ℕ) → IsLine n A line → Contains line b → b < n
in-line n A line b h (k, within, is) = let e : get_or line k 0 < n = (h.next k within).may.in_range in subst (λ c. c < n) (get_or_default line k 0 b within ∙ is) e

in-rest : (b c : ℕ) (xs : List ℕ) → Contains xs b → Contains (c ∷ xs) b
in-rest b c xs (k, h, e) = (suc k, (let i : suc k < suc (length xs) = omega arith in i), e)

outranked-same : (actor : Actor) (above other : ℕ → ℕ → Bool) (x : State) (u : List (List ℤ)) (a : ℕ) (line : List ℕ) → ((b : ℕ) → Contains line b → above b a ≡ other b a)
    → outranked actor above x u a line ≡ outranked actor other x u a line
outranked-same actor above other x u a [] h = refl
outranked-same actor above other x u a (b ∷ line) h =
    ap (λ over. (over && are_true (readiness actor x u b)) || outranked actor above x u a line) (h b (0, (let i : 0 < suc (length line) = omega arith in i), refl))
    ∙ ap (λ rest. (other b a && are_true (readiness actor x u b)) || rest) (outranked-same actor above other x u a line (λ c m. h c (in-rest c b line m)))

past-eligible : (actor : Actor) (s a : ℕ) → length actor.actions ≤ a → eligible actor s a ≡ false
past-eligible actor s a h = ap (λ o. is_some (elim o [ None ↦ None | Some act ↦ leads actor s a act ])) (slice_get_past actor.actions a h)

exposed-same : (actor : Actor) (p q : Priorities actor) (x : State) (u : List (List ℤ)) (a : ℕ) → is_exposed actor p x u a ≡ is_exposed actor q x u a
exposed-same actor p q x u a =
    ⊎_elim (λ (i : a < length actor.actions).
    ap (λ over. eligible actor x.at a && has_its_tokens actor u a && not over)
    (outranked-same actor p.above q.above x u a p.line (λ b m. above-same actor p q b a (in-line (length actor.actions) (Above actor) p.line b p.is_line m) i)
    ∙ ap (outranked actor q.above x u a) (one-line actor p q)))
    (λ (past : length actor.actions ≤ a).
    ap (λ e. e && has_its_tokens actor u a && not (outranked actor p.above x u a p.line)) (past-eligible actor x.at a past)
    ∙ ap (λ e. e && has_its_tokens actor u a && not (outranked actor q.above x u a q.line)) (sym (past-eligible actor x.at a past)))
    (cases_lt a (length actor.actions))

pub one-effect-each : (actor : Actor) (p q : Priorities actor) (x : State) (u : List (List ℤ)) (a : ℕ) → effect actor p x u a ≡ effect actor q x u a
one-effect-each actor p q x u a = ap (λ b. if b then effect_of_exposed actor x u a (readiness actor x u a) else None) (exposed-same actor p q x u a)

-- the same pointwise, as functions
choices-same : (actor : Actor) (p q : Priorities actor) → choice actor p ≡ choice actor q
choices-same actor p q = fun_ext (λ x. fun_ext (λ u. one-choice actor p q x u))

effects-same : (actor : Actor) (p q : Priorities actor) → effect actor p ≡ effect actor q
effects-same actor p q = fun_ext (λ x. fun_ext (λ u. fun_ext (λ a. one-effect-each actor p q x u a)))

pub one-behaviour : (actor : Actor) (p q : Priorities actor) → behaviour actor p ≡ behaviour actor q
one-behaviour actor p q =
    ap (λ e. record (behaviour actor p) { effect = λ x u a. if is_actor_state actor x then e x (kept_tokens actor u) a else None }) (effects-same actor p q)
    ∙ ap (λ c. record (behaviour actor q) { choice = λ x u. if is_actor_state actor x then c x (kept_tokens actor u) else Waits }) (choices-same actor p q)
