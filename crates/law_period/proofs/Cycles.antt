-- No leaf on a cycle of links on which tokens are needed is the first of it to fire.
use Rattle.std.proofs.Common.{◌≡◌, ℕ, zero, suc, ◌+◌, ◌*◌, ◌<◌, ◌≤◌, List, [], ◌∷◌, ◌++◌, length, get_or, take, refl, ap, ◌∙◌, ⊎_elim, arith, add-one}
use Rattle.std.specs.Prelude.{Contains}
use Rattle.std.proofs.lemmas.Bool.{cases_eq}
use Rattle.std.proofs.lemmas.List.{take_more, take_all}
use Rattle.std.proofs.lemmas.List.Elements.{All-contains}
use Rattle.balanced_rates.specs.declared.link.RatedLink.{RatedLink}
use Rattle.period_order.specs.Turns.{turns, given, taken, IsPeriod}
use Rattle.period_order.proofs.Taking.{turns_of_other}
use Rattle.law_period.specs.Cycles.{Leads}
use Rattle.law_period.specs.Cycles.Leads.{by_link, further}

-- one way behind another
both_ways : (links : List RatedLink) (one two three : ℕ) → Leads links one two → Leads links two three → Leads links one three
both_ways links one two three first (by_link link found needs) = further one link found needs first
both_ways links one two three first (further leaf link found needs way) =
    further one link found needs (both_ways links one two link.writer first way)

-- a leaf on a cycle is behind a link whose writer is on one
record IsBehind (links : List RatedLink) (leaf : ℕ) : Type 0 where
  link : RatedLink
  found : Contains links link
  needs : 0 < link.need
  reads : link.reader ≡ leaf
  cycle : Leads links link.writer link.writer

behind_of : (links : List RatedLink) (one two : ℕ) → Leads links one two → Leads links two one → IsBehind links two
behind_of links one two (by_link link found needs) back = record {
  link = link;
  found = found;
  needs = needs;
  reads = refl;
  cycle = both_ways links link.writer link.reader link.writer (by_link link found needs) back;
}
behind_of links one two (further leaf link found needs way) back = record {
  link = link;
  found = found;
  needs = needs;
  reads = refl;
  cycle = both_ways links link.writer link.reader link.writer (by_link link found needs) (both_ways links link.reader one link.writer back way);
}

module _ (n : ℕ) (links : List RatedLink) (firings : ℕ → ℕ) (period : List ℕ) (is : IsPeriod n links firings period) where
  none_fires : (p : ℕ) → p ≤ length period → (leaf : ℕ) → Leads links leaf leaf → turns leaf (take p period) ≡ 0
  none_fires zero within leaf cycle = refl
  none_fires (suc p) within leaf cycle =
      let inside : p < length period = omega (arith, within) in
      let next = get_or period p 0 in
      let step : take (suc p) period ≡ take p period ++ next ∷ [] = rw (← add-one) (take_more period p 0 inside) in
      let before : turns leaf (take p period) ≡ 0 = none_fires p (omega (arith, inside)) leaf cycle in
      ⊎_elim
      (λ (it : leaf ≡ next).
      let behind = behind_of links leaf leaf cycle cycle in
      let link = behind.link in
      let none : turns link.writer (take p period) ≡ 0 = none_fires p (omega (arith, inside)) link.writer behind.cycle in
      let finds : taken link (take p period) + link.need ≤ given link (take p period) =
      All-contains (λ that. that.reader ≡ next → taken that (take p period) + that.need ≤ given that (take p period)) links link (is.finds p inside) behind.found (behind.reads ∙ it) in
      let nothing : link.give * turns link.writer (take p period) ≡ link.give * 0 = ap (λ z. link.give * z) none in
      let needs = behind.needs in
      absurd (omega arith))
      (λ apart. ap (λ ls. turns leaf ls) step ∙ (turns_of_other leaf next (take p period) apart ∙ before))
      (cases_eq leaf next)

  pub cycle_is_blocked : (leaf : ℕ) → leaf < n → 0 < firings leaf → Leads links leaf leaf → ⊥
  cycle_is_blocked leaf among fires cycle =
      let none : turns leaf (take (length period) period) ≡ 0 = none_fires (length period) (omega arith) leaf cycle in
      let whole : turns leaf (take (length period) period) ≡ turns leaf period = ap (λ ls. turns leaf ls) (take_all (length period) period (omega arith)) in
      let wanted : turns leaf period ≡ firings leaf = is.counts leaf among in
      omega (arith, fires)
