use Rattle.std.proofs.Common.{◌≡◌, ◌+◌, ◌≤◌, length, take, sym, subst, below_more, arith}
use Rattle.std.proofs.lemmas.List.{take_all}
use Rattle.balanced_rates.specs.declared.link.RatedLink.{RatedLink}
use Rattle.balanced_rates.specs.Balance.{IsContrary, IsLong, total}
use Rattle.balanced_rates.specs.Split.{at, IsSplit}
use Rattle.balanced_rates.proofs.Outcomes.{retaken, no_first_fault, first_contrary, first_long}
use Rattle.balanced_rates.proofs.Parts.{faultless_of_split}
use Rattle.balanced_rates.proofs.vector.balance.Goals as goal

-- what stands behind the end of a list
abbrev beyond : RatedLink
beyond = record { writer = 0; reader = 0; give = 0; need = 0 }

pub loop-l-preserved : goal.loop-l-preserved
loop-l-preserved c =
    let n = length c.args.firings.now in
    let links = c.args.links.now in
    let l = c.loop-l.l in
    let parts = c.look_at.new.parts in
    let firings = c.look_at.new.firings in
    let split : IsSplit (length c.loop-l.firings) (take l links) (at c.loop-l.parts) (at c.loop-l.firings) = subst (λ k. IsSplit k (take l links) (at c.loop-l.parts) (at c.loop-l.firings)) (sym c.loop-l.auto.firings) c.loop-l.invariant.split in
    let now : IsSplit n (take (l + 1) links) (at parts) (at firings) × (total (at firings) n ≤ c.args.longest) =
    retaken (λ k ls. IsSplit k ls (at parts) (at firings) × (total (at firings) k ≤ c.args.longest)) n (length c.loop-l.firings) links l beyond c.loop-l.auto.firings c.loop-l-test.true (c.in-Balanced.ensures (take l links) split) in
    record {
      split = now.0;
      before = below_more (λ k. ¬ IsContrary n (take (k + 1) links) × ¬ IsLong n c.args.longest (take (k + 1) links)) l c.loop-l.invariant.before (faultless_of_split n c.args.longest (take (l + 1) links) (at parts) (at firings) now.0 now.1);
    }

pub returns-in-Contrary : goal.returns-in-Contrary
returns-in-Contrary c =
    let n = length c.args.firings.now in
    let links = c.args.links.now in
    let l = c.loop-l.l in
    let split : IsSplit (length c.loop-l.firings) (take l links) (at c.loop-l.parts) (at c.loop-l.firings) = subst (λ k. IsSplit k (take l links) (at c.loop-l.parts) (at c.loop-l.firings)) (sym c.loop-l.auto.firings) c.loop-l.invariant.split in
    first_contrary n c.args.longest links l c.loop-l-test.true c.loop-l.invariant.before
    (retaken (λ k ls. IsContrary k ls) n (length c.loop-l.firings) links l beyond c.loop-l.auto.firings c.loop-l-test.true (c.in-Contrary.ensures (take l links) split))

pub returns-in-Long : goal.returns-in-Long
returns-in-Long c =
    let n = length c.args.firings.now in
    let links = c.args.links.now in
    let l = c.loop-l.l in
    let split : IsSplit (length c.loop-l.firings) (take l links) (at c.loop-l.parts) (at c.loop-l.firings) = subst (λ k. IsSplit k (take l links) (at c.loop-l.parts) (at c.loop-l.firings)) (sym c.loop-l.auto.firings) c.loop-l.invariant.split in
    first_long n c.args.longest links l c.loop-l-test.true c.loop-l.invariant.before
    (retaken (λ k ls. IsLong k c.args.longest ls) n (length c.loop-l.firings) links l beyond c.loop-l.auto.firings c.loop-l-test.true (c.in-Long.ensures (take l links) split))

pub returns : goal.returns
returns c =
    let n = length c.args.firings.now in
    let links = c.args.links.now in
    let l = c.loop-l.l in
    let all : take l links ≡ links = take_all l links (omega arith) in (
      subst (λ ls. IsSplit n ls (at c.loop-l.parts) (at c.loop-l.firings)) all c.loop-l.invariant.split,
      no_first_fault n c.args.longest links (λ k inside. c.loop-l.invariant.before k (omega (arith, inside))),
    )
