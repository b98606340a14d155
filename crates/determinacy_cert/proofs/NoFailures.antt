-- No failure is listed if and only if the certification rule holds.
use Rattle.std.proofs.Common.{◌≡◌, ◌≢◌, ℕ, zero, suc, ◌+◌, ◌-◌, ◌<◌, ◌≤◌, ◌⊎◌, inl, inr, Bool, true, false, List, [], ◌∷◌, ◌++◌, length, refl, sym, ap, subst, ◌∙◌, arith}
use Rattle.std.specs.Prelude.{◌&&◌, ◌||◌, ◌==◌, nat_le, Option, None, Some, if◌then◌else◌, slice_get}
use Rattle.std.proofs.lemmas.Bool.{eqb-true, leb-true, le-leb}
use Rattle.cal_model.specs.Actor.{Pattern, Action, Actor}
use Rattle.cal_model.specs.Rates.{need, taken_on}
use Rattle.cal_model.specs.Eligible.{IsStateOf, eligible, states_of, has_initialize}
use Rattle.cal_model.specs.Selection.{Priorities}
use Rattle.cal_model.specs.Certified.{HasTameGuards, GuardsExclude, IsModest, IsCertified}
use Rattle.determinacy_cert.specs.declared.fault.Reason.{Reason}
use Rattle.determinacy_cert.specs.declared.fault.Reason.TheVariants.{C1, C2}
use Rattle.determinacy_cert.specs.Deciding.{guards_exclude, needs_no_more}
use Rattle.determinacy_cert.specs.Failing.{guards_judged, action_judged, two_judged, pair_judged, failed, each_from, action_failures, pair_failures, pairs_failures, state_failures, all_states, failures}
use Rattle.determinacy_cert.proofs.Ranges.{two_true}
use Rattle.determinacy_cert.proofs.BareTrees.{both_true, tame_if, tame_then}
use Rattle.determinacy_cert.proofs.Exclusions.{either_true, left_true, right_true, guards_exclude_if, guards_exclude_then, exclude_both}

-- ---- lists

none_left : {A : Type 0} (xs ys : List A) → xs ++ ys ≡ [] → (xs ≡ []) × (ys ≡ [])
none_left [] ys h = (refl, h)
none_left (x ∷ xs) ys h = absurd (cc)

none_both : {A : Type 0} (xs ys : List A) → xs ≡ [] → ys ≡ [] → xs ++ ys ≡ []
none_both [] ys p q = q
none_both (x ∷ xs) ys p q = cc

each_none : {A : Type 0} (n k : ℕ) (f : ℕ → List A) (i : ℕ) → each_from n k f ≡ [] → k ≤ i → i < k + n → f i ≡ []
each_none zero k f i h p q = absurd (omega arith)
each_none (suc n) k f i h p q =
    let both = none_left (f k) (each_from n (suc k) f) h in
    elim (first_or_later k i p) [
      | inl same ↦ subst (λ j. f j ≡ []) same both.0
      | inr later ↦ each_none n (suc k) f i both.1 later (omega arith)
    ]
  where
    first_or_later : (k i : ℕ) → k ≤ i → (k ≡ i) ⊎ (suc k ≤ i)
    first_or_later k i p = grind arith

each_all : {A : Type 0} (n k : ℕ) (f : ℕ → List A) → ((i : ℕ) → k ≤ i → i < k + n → f i ≡ []) → each_from n k f ≡ []
each_all zero k f h = refl
each_all (suc n) k f h =
    none_both (f k) (each_from n (suc k) f) (h k (omega arith) (omega arith))
    (each_all n (suc k) f (λ i p q. h i (omega arith) (omega arith)))

not_failed : (s a b : ℕ) (o : Option Reason) → failed s a b o ≡ [] → o ≡ None
not_failed s a b None h = refl
not_failed s a b (Some r) h = absurd (cc)

failed_none : (s a b : ℕ) (o : Option Reason) → o ≡ None → failed s a b o ≡ []
failed_none s a b None h = refl
failed_none s a b (Some r) h = cc

pub in_list : {A : Type 0} (xs : List A) (k : ℕ) (x : A) → slice_get xs k ≡ Some x → k < length xs
in_list [] k x h = absurd (grind arith)
in_list (y ∷ xs) zero x h = omega arith
in_list (y ∷ xs) (suc k) x h = let e = in_list xs k x h in omega arith

-- ---- states

init_in : (b : Bool) (n s : ℕ) → (s < n) ⊎ ((b ≡ true) × (s ≡ n)) → s < (if b then suc n else n)
init_in true n s (inl h) = omega arith
init_in true n s (inr h) = let e = h.1 in omega arith
init_in false n s (inl h) = h
init_in false n s (inr h) = cc

in_init : (b : Bool) (n s : ℕ) → s < (if b then suc n else n) → (s < n) ⊎ ((b ≡ true) × (s ≡ n))
in_init true n s h = elim (last s n h) [ inl less ↦ inl less | inr same ↦ inr (refl, same) ]
  where
    last : (s n : ℕ) → s < suc n → (s < n) ⊎ (s ≡ n)
    last s n h = grind arith
in_init false n s h = inl h

state_in : (actor : Actor) (s : ℕ) → IsStateOf actor s → s < all_states actor
state_in actor s h = init_in (has_initialize actor.actions) (states_of actor) s h

is_state : (actor : Actor) (s : ℕ) → s < all_states actor → IsStateOf actor s
is_state actor s h = in_init (has_initialize actor.actions) (states_of actor) s h

-- ---- tokens

taken_if : (actor : Actor) (a b port n : ℕ) (c : Bool) (q : Pattern) (qs : List Pattern) → (q.port == port) ≡ c
    → need actor a q.port ≤ need actor b q.port → (taken_on port qs ≡ 0) ⊎ (need actor a port ≤ need actor b port)
    → ((if c then n else taken_on port qs) ≡ 0) ⊎ (need actor a port ≤ need actor b port)
taken_if actor a b port n true q qs e h k = inr (subst (λ p. need actor a p ≤ need actor b p) (eqb-true q.port port e) h)
taken_if actor a b port n false q qs e h k = k

taken_no_more : (actor : Actor) (a b port : ℕ) (qs : List Pattern) → needs_no_more actor a b qs ≡ true → (taken_on port qs ≡ 0) ⊎ (need actor a port ≤ need actor b port)
taken_no_more actor a b port [] h = inl refl
taken_no_more actor a b port (q ∷ qs) h =
    let both = two_true (nat_le (need actor a q.port) (need actor b q.port)) (needs_no_more actor a b qs) h in
    taken_if actor a b port _ (q.port == port) q qs refl (leb-true (need actor a q.port) (need actor b q.port) both.0) (taken_no_more actor a b port qs both.1)

needs_if : (actor : Actor) (a b port : ℕ) (one : Action) → slice_get actor.actions a ≡ Some one → needs_no_more actor a b one.patterns ≡ true → need actor a port ≤ need actor b port
needs_if actor a b port one is h =
    let needed : need actor a port ≡ taken_on port one.patterns = ap (λ o. elim o [ None ↦ 0 | Some act ↦ taken_on port act.patterns ]) is in
    elim (taken_no_more actor a b port one.patterns h) [ inl nothing ↦ (let e = needed ∙ nothing in omega arith) | inr less ↦ less ]

needs_then : (actor : Actor) (a b : ℕ) (qs : List Pattern) → ((port : ℕ) → need actor a port ≤ need actor b port) → needs_no_more actor a b qs ≡ true
needs_then actor a b [] h = refl
needs_then actor a b (q ∷ qs) h =
    both_true (nat_le (need actor a q.port) (need actor b q.port)) (needs_no_more actor a b qs)
    (le-leb (need actor a q.port) (need actor b q.port) (h q.port)) (needs_then actor a b qs h)

-- ---- pairs

no_reason : (b u : Bool) → (if b then None else if u then Some C1 else Some C2) ≡ None → b ≡ true
no_reason true u h = refl
no_reason false true h = absurd (cc)
no_reason false false h = absurd (cc)

reason_none : (b u : Bool) → b ≡ true → (if b then None else if u then Some C1 else Some C2) ≡ None
reason_none true u h = refl
reason_none false u h = cc

module _ (actor : Actor) (p : Priorities actor) where
  modest_if : (a b : ℕ) (one two : Action) → slice_get actor.actions a ≡ Some one → slice_get actor.actions b ≡ Some two
      → (p.above a b && needs_no_more actor a b one.patterns) ≡ true → IsModest actor a b
  modest_if a b one two is there h =
      let both = two_true (p.above a b) (needs_no_more actor a b one.patterns) h in
      record {
        above = (p.is_above a b (in_list actor.actions a one is) (in_list actor.actions b two there)).0 both.0;
        no_more = λ port. needs_if actor a b port one is both.1;
      }

  modest_then : (a b : ℕ) (one two : Action) → slice_get actor.actions a ≡ Some one → slice_get actor.actions b ≡ Some two
      → IsModest actor a b → (p.above a b && needs_no_more actor a b one.patterns) ≡ true
  modest_then a b one two is there h =
      both_true (p.above a b) (needs_no_more actor a b one.patterns)
      ((p.is_above a b (in_list actor.actions a one is) (in_list actor.actions b two there)).1 h.above) (needs_then actor a b one.patterns h.no_more)

  two_if : (a b : ℕ) (one two : Action) → slice_get actor.actions a ≡ Some one → slice_get actor.actions b ≡ Some two
      → two_judged actor p.above a b one two ≡ None → (IsModest actor a b ⊎ IsModest actor b a) ⊎ GuardsExclude one two
  two_if a b one two is there h =
      let x = p.above a b && needs_no_more actor a b one.patterns in
      let y = p.above b a && needs_no_more actor b a two.patterns in
      elim (either_true (x || y) (guards_exclude one two) (no_reason (x || y || guards_exclude one two) (p.above a b || p.above b a) h)) [
        | inl modest ↦ elim (either_true x y modest) [ inl m ↦ inl (inl (modest_if a b one two is there m)) | inr m ↦ inl (inr (modest_if b a two one there is m)) ]
        | inr apart ↦ inr (guards_exclude_if one two apart)
      ]

  two_then : (a b : ℕ) (one two : Action) → slice_get actor.actions a ≡ Some one → slice_get actor.actions b ≡ Some two
      → HasTameGuards actor one → HasTameGuards actor two
      → (IsModest actor a b ⊎ IsModest actor b a) ⊎ GuardsExclude one two → two_judged actor p.above a b one two ≡ None
  two_then a b one two is there g k (inl (inl m)) =
      reason_none _ (p.above a b || p.above b a)
      (left_true ((p.above a b && needs_no_more actor a b one.patterns) || (p.above b a && needs_no_more actor b a two.patterns)) (guards_exclude one two)
      (left_true (p.above a b && needs_no_more actor a b one.patterns) (p.above b a && needs_no_more actor b a two.patterns) (modest_then a b one two is there m)))
  two_then a b one two is there g k (inl (inr m)) =
      reason_none _ (p.above a b || p.above b a)
      (left_true ((p.above a b && needs_no_more actor a b one.patterns) || (p.above b a && needs_no_more actor b a two.patterns)) (guards_exclude one two)
      (right_true (p.above a b && needs_no_more actor a b one.patterns) (p.above b a && needs_no_more actor b a two.patterns) (modest_then b a two one there is m)))
  two_then a b one two is there g k (inr apart) =
      reason_none _ (p.above a b || p.above b a)
      (right_true ((p.above a b && needs_no_more actor a b one.patterns) || (p.above b a && needs_no_more actor b a two.patterns)) (guards_exclude one two)
      (guards_exclude_then actor one two g k apart))

  -- ---- no failure, then certified

  state_none : (s : ℕ) → failures actor p.above ≡ [] → IsStateOf actor s → state_failures actor p.above s ≡ []
  state_none s h is = each_none (all_states actor) 0 (λ t. state_failures actor p.above t) s h (omega arith) (let e = state_in actor s is in omega arith)

  eligible_failed : (e : Bool) (s a b : ℕ) (o : Option Reason) → e ≡ true → (if e then failed s a b o else []) ≡ [] → o ≡ None
  eligible_failed true s a b o e h = not_failed s a b o h
  eligible_failed false s a b o e h = cc

  guards_none : (s a : ℕ) (act : Action) → state_failures actor p.above s ≡ [] → slice_get actor.actions a ≡ Some act → eligible actor s a ≡ true → HasTameGuards actor act
  guards_none s a act h is el =
      let both = none_left (each_from (length actor.actions) 0 (λ c. action_failures actor s c)) (each_from (length actor.actions) 0 (λ c. pairs_failures actor p.above s c)) h in
      let here : action_failures actor s a ≡ [] = each_none (length actor.actions) 0 (λ c. action_failures actor s c) a both.0 (omega arith) (let e = in_list actor.actions a act is in omega arith) in
      let judged : action_judged actor a ≡ None = eligible_failed (eligible actor s a) s a a (action_judged actor a) el here in
      tame_if actor act (sym (ap (λ o. elim o [ None ↦ None | Some x ↦ guards_judged actor x ]) is) ∙ judged)

  pair_none : (s a b : ℕ) (one two : Action) → state_failures actor p.above s ≡ [] → slice_get actor.actions a ≡ Some one → slice_get actor.actions b ≡ Some two → a < b
      → eligible actor s a ≡ true → eligible actor s b ≡ true → (IsModest actor a b ⊎ IsModest actor b a) ⊎ GuardsExclude one two
  pair_none s a b one two h is there less ea eb =
      let both = none_left (each_from (length actor.actions) 0 (λ c. action_failures actor s c)) (each_from (length actor.actions) 0 (λ c. pairs_failures actor p.above s c)) h in
      let in_a = in_list actor.actions a one is in
      let in_b = in_list actor.actions b two there in
      let here : pairs_failures actor p.above s a ≡ [] = each_none (length actor.actions) 0 (λ c. pairs_failures actor p.above s c) a both.1 (omega arith) (omega arith) in
      let pair : pair_failures actor p.above s a b ≡ [] = each_none (length actor.actions - suc a) (suc a) (λ c. pair_failures actor p.above s a c) b here (omega arith) (omega arith) in
      let judged : pair_judged actor p.above a b ≡ None = eligible_failed (eligible actor s a && eligible actor s b) s a b (pair_judged actor p.above a b) (both_true (eligible actor s a) (eligible actor s b) ea eb) pair in
      two_if a b one two is there
      (sym (ap (λ o. elim o [ None ↦ None | Some x ↦ elim (slice_get actor.actions b) [ None ↦ None | Some y ↦ two_judged actor p.above a b x y ] ]) is
      ∙ ap (λ o. elim o [ None ↦ None | Some y ↦ two_judged actor p.above a b one y ]) there) ∙ judged)

  turned : (a b : ℕ) (one two : Action) → (IsModest actor b a ⊎ IsModest actor a b) ⊎ GuardsExclude two one → (IsModest actor a b ⊎ IsModest actor b a) ⊎ GuardsExclude one two
  turned a b one two (inl (inl m)) = inl (inr m)
  turned a b one two (inl (inr m)) = inl (inl m)
  turned a b one two (inr apart) = inr (exclude_both two one apart)

  pub certified_if : failures actor p.above ≡ [] → IsCertified actor
  certified_if h = record {
    guards = λ s a act state is el. guards_none s a act (state_none s h state) is el;
    pairs = λ s a b one two state is there apart ea eb. elim (apart_ways a b apart) [
      | inl less ↦ pair_none s a b one two (state_none s h state) is there less ea eb
      | inr more ↦ turned a b one two (pair_none s b a two one (state_none s h state) there is more eb ea)
    ];
  }
    where
      apart_ways : (a b : ℕ) → a ≢ b → (a < b) ⊎ (b < a)
      apart_ways a b h = grind arith

  -- ---- certified, then no failure

  action_then : (s a : ℕ) → IsCertified actor → IsStateOf actor s → (e : Bool) (o : Option Action) → eligible actor s a ≡ e → slice_get actor.actions a ≡ o
      → (if e then failed s a a (elim o [ None ↦ None | Some act ↦ guards_judged actor act ]) else []) ≡ []
  action_then s a h state false o el is = refl
  action_then s a h state true None el is = refl
  action_then s a h state true (Some act) el is = failed_none s a a (guards_judged actor act) (tame_then actor act (h.guards s a act state is el))

  both_eligible : (s a b : ℕ) → IsCertified actor → IsStateOf actor s → a ≢ b → (e d : Bool) (o r : Option Action) → eligible actor s a ≡ e → eligible actor s b ≡ d
      → slice_get actor.actions a ≡ o → slice_get actor.actions b ≡ r
      → (if e && d then failed s a b (elim o [ None ↦ None | Some x ↦ elim r [ None ↦ None | Some y ↦ two_judged actor p.above a b x y ] ]) else []) ≡ []
  both_eligible s a b h state apart false d o r ea eb is there = refl
  both_eligible s a b h state apart true false o r ea eb is there = refl
  both_eligible s a b h state apart true true None r ea eb is there = refl
  both_eligible s a b h state apart true true (Some one) None ea eb is there = refl
  both_eligible s a b h state apart true true (Some one) (Some two) ea eb is there =
      failed_none s a b (two_judged actor p.above a b one two)
      (two_then a b one two is there (h.guards s a one state is ea) (h.guards s b two state there eb) (h.pairs s a b one two state is there apart ea eb))

  pub certified_then : IsCertified actor → failures actor p.above ≡ []
  certified_then h =
      each_all (all_states actor) 0 (λ s. state_failures actor p.above s)
      (λ s low high.
      let state : IsStateOf actor s = is_state actor s (omega arith) in
      none_both (each_from (length actor.actions) 0 (λ a. action_failures actor s a)) (each_from (length actor.actions) 0 (λ a. pairs_failures actor p.above s a))
      (each_all (length actor.actions) 0 (λ a. action_failures actor s a) (λ a l k. action_then s a h state (eligible actor s a) (slice_get actor.actions a) refl refl))
      (each_all (length actor.actions) 0 (λ a. pairs_failures actor p.above s a)
      (λ a l k. each_all (length actor.actions - suc a) (suc a) (λ b. pair_failures actor p.above s a b)
      (λ b m n. both_eligible s a b h state (λ same. omega arith) (eligible actor s a) (eligible actor s b) (slice_get actor.actions a) (slice_get actor.actions b) refl refl refl refl))))
