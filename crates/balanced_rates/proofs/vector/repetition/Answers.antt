use Rattle.std.proofs.Common.{◌≡◌, ℕ, length, drop, replicate, ap, ◌∙◌, subst, arith}
use Rattle.std.proofs.lemmas.List.{take_at, get_or-replicate}
use Rattle.balanced_rates.specs.Balance.{IsFirstFault}
use Rattle.balanced_rates.specs.Fault.{IsCause}
use Rattle.balanced_rates.specs.Split.{at, IsSplit}
use Rattle.balanced_rates.proofs.Parts.{split_none, least_of_split, multiples_of_split}
use Rattle.balanced_rates.proofs.vector.repetition.Goals as goal

pub balance-requires-clause-split : goal.balance-requires-clause-split
balance-requires-clause-split c =
    let leaves = c.args.leaves in
    let firings = c.deref_mut.result.now in
    let parts = c.deref_mut-2.result.now in
    let n : length firings ≡ leaves = omega (arith, c.deref_mut.ensures.len, c.in_ok-firings.ensures.len) in
    let ones : firings ≡ replicate leaves 1 = c.deref_mut.ensures.value ∙ c.in_ok-firings.ensures.items_if_clones_equal (λ y e. e) in
    split_none (length firings) (at parts) (at firings) (λ k inside. ap (λ ls. at ls k) c.deref_mut-2.ensures.value ∙ c.in_ok-parts.ensures.each k (omega (arith, inside)))
    (λ k inside. ap (λ ls. at ls k) ones ∙ get_or-replicate leaves k 1 0 (omega (arith, inside)))

pub returns-in-None-clause-least : goal.returns-in-None-clause-least
returns-in-None-clause-least c =
    let new = c.balance.new.firings in
    let items = c.in_ok-firings.firings.items in
    let n : length c.deref_mut.result.now ≡ c.args.leaves = omega (arith, c.deref_mut.ensures.len, c.in_ok-firings.ensures.len) in
    let width : length new ≡ c.in_ok-firings.firings.len = omega (arith, c.balance.auto.firings, c.deref_mut.ensures.len) in
    rw (take_at new (drop (length new) items) c.in_ok-firings.firings.len width)
    (least_of_split c.args.leaves c.args.links.now (at c.balance.new.parts) (at new) (subst (λ k. IsSplit k c.args.links.now (at c.balance.new.parts) (at new)) n c.in-None.ensures.0))

pub returns-in-None-clause-multiples : goal.returns-in-None-clause-multiples
returns-in-None-clause-multiples c =
    let new = c.balance.new.firings in
    let items = c.in_ok-firings.firings.items in
    let n : length c.deref_mut.result.now ≡ c.args.leaves = omega (arith, c.deref_mut.ensures.len, c.in_ok-firings.ensures.len) in
    let width : length new ≡ c.in_ok-firings.firings.len = omega (arith, c.balance.auto.firings, c.deref_mut.ensures.len) in
    rw (take_at new (drop (length new) items) c.in_ok-firings.firings.len width)
    (multiples_of_split c.args.leaves c.args.links.now (at c.balance.new.parts) (at new) (subst (λ k. IsSplit k c.args.links.now (at c.balance.new.parts) (at new)) n c.in-None.ensures.0))

pub returns-in-None-clause-faultless : goal.returns-in-None-clause-faultless
returns-in-None-clause-faultless c =
    let n : length c.deref_mut.result.now ≡ c.args.leaves = omega (arith, c.deref_mut.ensures.len, c.in_ok-firings.ensures.len) in
    subst (λ k. (l : ℕ) → ¬ IsFirstFault k c.args.longest c.args.links.now l) n c.in-None.ensures.1

pub returns-in-Some-clause-cause : goal.returns-in-Some-clause-cause
returns-in-Some-clause-cause c =
    let n : length c.deref_mut.result.now ≡ c.args.leaves = omega (arith, c.deref_mut.ensures.len, c.in_ok-firings.ensures.len) in
    subst (λ k. IsCause k c.args.longest c.args.links.now c.in-Some.fault) n c.in-Some.ensures
