-- Rates: those of a lowered actor with the tables of an actor, and those of the tables.
use Rattle.std.proofs.Common.{◌≡◌, ℕ, zero, suc, ◌+◌, ◌<◌, ◌≤◌, Bool, true, false, ℤ, List, [], ◌∷◌, ◌++◌, length, refl, sym, ap, ◌∙◌, arith, ⊎_elim}
use Rattle.std.specs.Prelude.{◌&&◌, ◌==◌, if◌then◌else◌, nat_le, None, Some, is_some, slice_get, slice_index_or, IsTrue}
use Rattle.std.specs.List.{range_with_len}
use Rattle.std.proofs.lemmas.Bool.{eqb-true, cases_lt}
use Rattle.std.proofs.lemmas.List.{get_or_past}
use Rattle.std.proofs.lemmas.List.FromFn.{get_or-map-range_with_len, length-map-range_with_len}
use Rattle.std.proofs.lemmas.Option.{slice_get_past}
use Rattle.rvc_base.specs.Lawful.{tokens_on}
use Rattle.priority_order.specs.Ranking.{is_above}
use Rattle.cal_model.specs.Actor.{Action, Actor, Output, Pattern}
use Rattle.cal_model.specs.Eligible.{IsStateOf, eligible, next}
use Rattle.cal_model.specs.Kinding.{Names}
use Rattle.cal_model.specs.Laws.{LineIsOne}
use Rattle.cal_model.specs.Rates.{give, given_on, need, parts, parts_times, taken_on}
use Rattle.cal_model.specs.Selection.{Priorities, has_its_tokens, has_its_tokens_on}
use Rattle.cal_model.specs.Sound.{Each, IsAction, IsOutput, IsPattern, IsSound}
use Rattle.cal_model.proofs.KeptByFirings.{action-at}
use Rattle.lowered_actor.specs.Actor as coded
use Rattle.lowered_actor.specs.Meaning as lowered
use Rattle.lower_tables.specs.Carrying.{HasTables}
use Rattle.lower_tables.specs.Tables.{gives_of, needs_of}

pub there : {A : Type 0} (xs : List A) (k : ℕ) → k < length xs → (x : A) × (slice_get xs k ≡ Some x)
there [] k h = absurd (omega arith)
there (x ∷ xs) zero h = (x, refl)
there (x ∷ xs) (suc k) h = there xs k (omega arith)

not_same : (p q : ℕ) → q < p → (q == p) ≡ false
not_same p q h = by (q == p) refl
  where
    by : (b : Bool) → (q == p) ≡ b → b ≡ false
    by true e = let same = eqb-true q p e in absurd (omega arith)
    by false e = refl

-- ---- beyond the ports nothing is taken or sent

none_taken : (actor : Actor) (qs : List Pattern) (p : ℕ) → length actor.ins ≤ p → Each (IsPattern actor) qs → taken_on p qs ≡ 0
none_taken actor [] p h is = refl
none_taken actor (q ∷ qs) p h is =
    let low : q.port < p = let r = is.0.port in omega arith in
    ap (λ b. if b then parts_times (length q.names) q.repeat else taken_on p qs) (not_same p q.port low) ∙ none_taken actor qs p h is.1

none_given : (actor : Actor) (names : Names) (os : List Output) (p : ℕ) → length actor.outs ≤ p → Each (IsOutput actor names) os → given_on p os ≡ 0
none_given actor names [] p h is = refl
none_given actor names (o ∷ os) p h is =
    let low : o.port < p = let r = is.0.port in omega arith in
    ap (λ b. if b then parts_times (parts o.values) o.repeat else given_on p os) (not_same p o.port low) ∙ none_given actor names os p h is.1

module _ (actor : Actor) (sound : IsSound actor) (a : ℕ) (act : Action) (is : slice_get actor.actions a ≡ Some act) where
  action_is : IsAction actor act
  action_is = action-at actor actor.actions a act sound.actions is

  need_is : (p : ℕ) → need actor a p ≡ taken_on p act.patterns
  need_is p = ap (λ o. elim o [ None ↦ 0 | Some x ↦ taken_on p x.patterns ]) is

  give_is : (p : ℕ) → give actor a p ≡ given_on p act.outputs
  give_is p = ap (λ o. elim o [ None ↦ 0 | Some x ↦ given_on p x.outputs ]) is

  pub needs_at : (p : ℕ) → slice_index_or (needs_of actor a) p 0 ≡ need actor a p
  needs_at p =
      ⊎_elim
      (λ (low : p < length actor.ins). get_or-map-range_with_len (need actor a) 0 (length actor.ins) p p 0 low (omega arith))
      (λ (past : length actor.ins ≤ p).
      let size : length (needs_of actor a) ≡ length actor.ins = length-map-range_with_len (need actor a) 0 (length actor.ins) in
      get_or_past (needs_of actor a) p 0 (omega arith) ∙ sym (need_is p ∙ none_taken actor act.patterns p past action_is.patterns))
      (cases_lt p (length actor.ins))

  pub gives_at : (p : ℕ) → slice_index_or (gives_of actor a) p 0 ≡ give actor a p
  gives_at p =
      ⊎_elim
      (λ (low : p < length actor.outs). get_or-map-range_with_len (give actor a) 0 (length actor.outs) p p 0 low (omega arith))
      (λ (past : length actor.outs ≤ p).
      let size : length (gives_of actor a) ≡ length actor.outs = length-map-range_with_len (give actor a) 0 (length actor.outs) in
      get_or_past (gives_of actor a) p 0 (omega arith) ∙ sym (give_is p ∙ none_given actor _ act.outputs p past action_is.outputs))
      (cases_lt p (length actor.outs))

pub need_past : (actor : Actor) → IsSound actor → (a p : ℕ) → length actor.ins ≤ p → need actor a p ≡ 0
need_past actor sound a p high =
    ⊎_elim
    (λ (low : a < length actor.actions). let one = there actor.actions a low in need_is actor sound a one.0 one.1 p ∙ none_taken actor one.0.patterns p high (action_is actor sound a one.0 one.1).patterns)
    (λ (more : length actor.actions ≤ a). ap (λ o. elim o [ None ↦ 0 | Some x ↦ taken_on p x.patterns ]) (slice_get_past actor.actions a more))
    (cases_lt a (length actor.actions))

module _ (actor : Actor) (l : coded.Actor) (has : HasTables actor l) where
  pub record IsPaired (a : ℕ) : Type 0 where
    pub act : Action
    pub is : slice_get actor.actions a ≡ Some act
    pub action : coded.Action
    pub coded_is : slice_get l.actions a ≡ Some action

  pub paired : (a : ℕ) → a < length actor.actions → IsPaired a
  paired a h =
      let low : a < length l.actions = let e = has.actions in omega arith in
      let one = there actor.actions a h in
      let other = there l.actions a low in
      record { act = one.0; is = one.1; action = other.0; coded_is = other.1 }

  pub past : {A : Type 0} (a : ℕ) (d : A) (f : coded.Action → A) → length actor.actions ≤ a → elim (slice_get l.actions a) [ None ↦ d | Some action ↦ f action ] ≡ d
  past a d f h =
      let high : length l.actions ≤ a = let e = has.actions in omega arith in
      ap (λ o. elim o [ None ↦ d | Some action ↦ f action ]) (slice_get_past l.actions a high)

  pub need_same : IsSound actor → (a p : ℕ) → lowered.need l a p ≡ need actor a p
  need_same sound a p =
      ⊎_elim
      (λ (low : a < length actor.actions).
      let pair = paired a low in
      ap (λ o. elim o [ None ↦ 0 | Some action ↦ coded.number_on action.needs p ]) pair.coded_is
      ∙ ap (λ ns. slice_index_or ns p 0) (has.rates a pair.action pair.coded_is).needs_are
      ∙ needs_at actor sound a pair.act pair.is p)
      (λ (high : length actor.actions ≤ a).
      past a 0 (λ action. coded.number_on action.needs p) high
      ∙ sym (ap (λ o. elim o [ None ↦ 0 | Some x ↦ taken_on p x.patterns ]) (slice_get_past actor.actions a high)))
      (cases_lt a (length actor.actions))

  pub give_same : IsSound actor → (a p : ℕ) → lowered.give l a p ≡ give actor a p
  give_same sound a p =
      ⊎_elim
      (λ (low : a < length actor.actions).
      let pair = paired a low in
      ap (λ o. elim o [ None ↦ 0 | Some action ↦ coded.number_on action.gives p ]) pair.coded_is
      ∙ ap (λ ns. slice_index_or ns p 0) (has.rates a pair.action pair.coded_is).gives_are
      ∙ gives_at actor sound a pair.act pair.is p)
      (λ (high : length actor.actions ≤ a).
      past a 0 (λ action. coded.number_on action.gives p) high
      ∙ sym (ap (λ o. elim o [ None ↦ 0 | Some x ↦ given_on p x.outputs ]) (slice_get_past actor.actions a high)))
      (cases_lt a (length actor.actions))

-- ---- tokens

and_last : (a b : Bool) → (a && true) ≡ b → a ≡ b
and_last true b h = h
and_last false b h = h

and_more : (a b c : Bool) → (a && (b && c)) ≡ ((a && b) && c)
and_more true b c = refl
and_more false b c = refl

range_more : (a n : ℕ) → range_with_len a (suc n) ≡ range_with_len a n ++ (a + n) ∷ []
range_more a zero = let e : a ≡ a + 0 = omega arith in ap (λ k. k ∷ []) e
range_more a (suc n) =
    let e : a + 1 + n ≡ a + suc n = omega arith in
    ap (λ ks. a ∷ ks) (range_more (a + 1) n ∙ ap (λ k. range_with_len (a + 1) n ++ k ∷ []) e)

has_more : (actor : Actor) (u : List (List ℤ)) (a p : ℕ) (ports : List ℕ)
    → has_its_tokens_on actor u a (ports ++ p ∷ []) ≡ (has_its_tokens_on actor u a ports && nat_le (need actor a p) (length (tokens_on u p)))
has_more actor u a p [] = sym (and_last _ _ refl)
has_more actor u a p (q ∷ ports) =
    ap (λ b. nat_le (need actor a q) (length (tokens_on u q)) && b) (has_more actor u a p ports)
    ∙ and_more (nat_le (need actor a q) (length (tokens_on u q))) (has_its_tokens_on actor u a ports) (nat_le (need actor a p) (length (tokens_on u p)))

pub has_first : (actor : Actor) (needed : ℕ → ℕ) (u v : List (List ℤ)) (a n : ℕ) → ((p : ℕ) → p < n → needed p ≡ need actor a p) → ((p : ℕ) → p < n → length (tokens_on u p) ≡ length (tokens_on v p))
    → lowered.has_on_first needed (tokens_on u) n ≡ has_its_tokens_on actor v a (range_with_len 0 n)
has_first actor needed u v a zero same many = refl
has_first actor needed u v a (suc n) same many =
    let e : 0 + n ≡ n = omega arith in
    ap (λ b. b && nat_le (needed n) (length (tokens_on u n))) (has_first actor needed u v a n (λ p low. same p (omega arith)) (λ p low. many p (omega arith)))
    ∙ ap (λ k. has_its_tokens_on actor v a (range_with_len 0 n) && nat_le k (length (tokens_on u n))) (same n (omega arith))
    ∙ ap (λ k. has_its_tokens_on actor v a (range_with_len 0 n) && nat_le (need actor a n) k) (many n (omega arith))
    ∙ sym (ap (has_its_tokens_on actor v a) (range_more 0 n ∙ ap (λ k. range_with_len 0 n ++ k ∷ []) e) ∙ has_more actor v a n (range_with_len 0 n))

pub has_same : (actor : Actor) (l : coded.Actor) (u v : List (List ℤ)) (a : ℕ) → IsSound actor → HasTables actor l → ((p : ℕ) → p < length actor.ins → length (tokens_on u p) ≡ length (tokens_on v p))
    → lowered.has_its_tokens l (tokens_on u) a ≡ has_its_tokens actor v a
has_same actor l u v a sound has many =
    ap (lowered.has_on_first (lowered.need l a) (tokens_on u)) has.ins
    ∙ has_first actor (lowered.need l a) u v a (length actor.ins) (λ p low. need_same actor l has sound a p) many

-- ---- eligibility

pub eligible_same : (actor : Actor) (l : coded.Actor) (s a : ℕ) → HasTables actor l → IsStateOf actor s → a < length actor.actions → lowered.is_eligible l s a ≡ eligible actor s a
eligible_same actor l s a has is low = ap is_some (has.schedule.leads s a is low)

pub next_same : (actor : Actor) (l : coded.Actor) (s a to : ℕ) → HasTables actor l → IsStateOf actor s → a < length actor.actions → next actor s a ≡ Some to → lowered.next l s a ≡ to
next_same actor l s a to has is low e = ap (λ o. elim o [ None ↦ s | Some end ↦ end ]) (has.schedule.leads s a is low ∙ e)

-- ---- priorities

true_same : (b c : Bool) → (IsTrue b → IsTrue c) → (IsTrue c → IsTrue b) → b ≡ c
true_same true true f g = refl
true_same true false f g = sym (f refl)
true_same false true f g = g refl
true_same false false f g = refl

pub above_same : (actor : Actor) (p : Priorities actor) (l : coded.Actor) (a b : ℕ) → HasTables actor l → a < length actor.actions → b < length actor.actions → is_above l.order a b ≡ p.above a b
above_same actor p l a b has i j =
    let one = has.priority.above a b i j in
    let other = p.is_above a b i j in
    true_same (is_above l.order a b) (p.above a b) (λ h. other.1 (one.0 h)) (λ h. one.1 (other.0 h))

pub line_same : LineIsOne → (actor : Actor) (p : Priorities actor) (l : coded.Actor) → HasTables actor l → l.order.line ≡ p.line
line_same one actor p l has =
    one actor (record { above = is_above l.order; line = l.order.line; is_above = has.priority.above; is_line = has.priority.line }) p
