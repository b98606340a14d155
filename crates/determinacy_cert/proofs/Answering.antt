-- What the first failure says of the actor, whichever test of its priorities it was sought by.
use Rattle.std.proofs.Common.{◌≡◌, ℕ, zero, suc, ◌-◌, ◌<◌, Bool, List, [], ◌++◌, length, refl, sym, ap, ◌∙◌}
use Rattle.std.specs.Prelude.{◌&&◌, ◌||◌, Option, None, Some, if◌then◌else◌, slice_get}
use Rattle.priority_order.specs.Ranking.{Ranking, is_above}
use Rattle.cal_model.specs.Actor.{Action, Actor}
use Rattle.cal_model.specs.Eligible.{eligible}
use Rattle.cal_model.specs.Selection.{Priorities}
use Rattle.cal_model.specs.Certified.{IsCertified}
use Rattle.determinacy_cert.specs.declared.fault.Reason.{Reason}
use Rattle.determinacy_cert.specs.declared.fault.Reason.TheVariants.{C1, C2}
use Rattle.determinacy_cert.specs.Deciding.{guards_exclude, needs_no_more}
use Rattle.determinacy_cert.specs.Failing.{Failure, two_judged, failed, each_from, action_failures, pair_failures, pairs_failures, state_failures, all_states, failures, first}
use Rattle.determinacy_cert.specs.Judging.{IsPriority}
use Rattle.determinacy_cert.proofs.Firsts.{no_first}
use Rattle.determinacy_cert.proofs.Keys.{one_test}
use Rattle.determinacy_cert.proofs.NoFailures.{in_list, certified_if, certified_then}

each_same : {A : Type 0} (n k : ℕ) (f g : ℕ → List A) → ((i : ℕ) → f i ≡ g i) → each_from n k f ≡ each_from n k g
each_same zero k f g h = refl
each_same (suc n) k f g h = ap (λ xs. xs ++ each_from n (suc k) f) (h k) ∙ ap (λ ys. g k ++ ys) (each_same n (suc k) f g h)

abbrev pair_by : Actor → (ℕ → ℕ → Bool) → ℕ → ℕ → Option Action → Option Action → Option Reason
pair_by actor above a b o r = elim o [ None ↦ None | Some one ↦ elim r [ None ↦ None | Some two ↦ two_judged actor above a b one two ] ]

module _ (actor : Actor) (above other : ℕ → ℕ → Bool) (agree : (a b : ℕ) → a < length actor.actions → b < length actor.actions → above a b ≡ other a b) where
  two_same : (a b : ℕ) (one two : Action) → slice_get actor.actions a ≡ Some one → slice_get actor.actions b ≡ Some two → two_judged actor above a b one two ≡ two_judged actor other a b one two
  two_same a b one two is there =
      let in_a = in_list actor.actions a one is in
      let in_b = in_list actor.actions b two there in
      ap (λ x. if (x && needs_no_more actor a b one.patterns) || (above b a && needs_no_more actor b a two.patterns) || guards_exclude one two then None else if x || above b a then Some C1 else Some C2) (agree a b in_a in_b)
      ∙ ap (λ y. if (other a b && needs_no_more actor a b one.patterns) || (y && needs_no_more actor b a two.patterns) || guards_exclude one two then None else if other a b || y then Some C1 else Some C2) (agree b a in_b in_a)

  pair_same : (a b : ℕ) (o r : Option Action) → slice_get actor.actions a ≡ o → slice_get actor.actions b ≡ r
      → pair_by actor above a b o r ≡ pair_by actor other a b o r
  pair_same a b None r is there = refl
  pair_same a b (Some one) None is there = refl
  pair_same a b (Some one) (Some two) is there = two_same a b one two is there

  pairs_same : (s a b : ℕ) → pair_failures actor above s a b ≡ pair_failures actor other s a b
  pairs_same s a b = ap (λ r. if eligible actor s a && eligible actor s b then failed s a b r else []) (pair_same a b (slice_get actor.actions a) (slice_get actor.actions b) refl refl)

  state_same : (s : ℕ) → state_failures actor above s ≡ state_failures actor other s
  state_same s =
      ap (λ ys. each_from (length actor.actions) 0 (λ a. action_failures actor s a) ++ ys)
      (each_same (length actor.actions) 0 (λ a. pairs_failures actor above s a) (λ a. pairs_failures actor other s a)
      (λ a. each_same (length actor.actions - suc a) (suc a) (λ b. pair_failures actor above s a b) (λ b. pair_failures actor other s a b) (λ b. pairs_same s a b)))

  pub failures_same : failures actor above ≡ failures actor other
  failures_same = each_same (all_states actor) 0 (λ s. state_failures actor above s) (λ s. state_failures actor other s) state_same

module _ (actor : Actor) (order : Ranking) (is : IsPriority actor order) where
  abbrev priorities : Priorities actor
  priorities = record { above = is_above order; line = order.line; is_above = is.above; is_line = is.line }

  agree : (p : Priorities actor) (a b : ℕ) → a < length actor.actions → b < length actor.actions → is_above order a b ≡ p.above a b
  agree p a b in_a in_b =
      one_test (is_above order a b) (p.above a b)
      (λ h. (p.is_above a b in_a in_b).1 ((is.above a b in_a in_b).0 h))
      (λ h. (is.above a b in_a in_b).1 ((p.is_above a b in_a in_b).0 h))

  pub is_certified : None ≡ first (failures actor (is_above order)) → IsCertified actor
  is_certified h = certified_if actor priorities (no_first (failures actor (is_above order)) (sym h))

  pub none_fails : None ≡ first (failures actor (is_above order)) → (p : Priorities actor) → failures actor p.above ≡ []
  none_fails h p = certified_then actor p (is_certified h)

  pub first_fails : (f : Failure) → Some f ≡ first (failures actor (is_above order)) → (p : Priorities actor) → first (failures actor p.above) ≡ Some f
  first_fails f h p = ap first (sym (failures_same actor (is_above order) p.above (agree p))) ∙ sym h

  pub not_certified : (f : Failure) → Some f ≡ first (failures actor (is_above order)) → ¬ IsCertified actor
  not_certified f h c = let none : Some f ≡ None = h ∙ ap first (certified_then actor priorities c) in cc
