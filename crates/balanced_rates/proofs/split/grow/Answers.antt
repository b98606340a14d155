use Rattle.std.proofs.Common.{◌≡◌, ℕ, ◌+◌, ◌*◌, ◌<◌, ◌≤◌, ◌≢◌, length, ap₂, ◌∙◌, rules, arith, below_more, get_or-set_same, get_or-set_other, mul_comm}
use Rattle.balanced_rates.specs.Balance.{total}
use Rattle.balanced_rates.specs.Split.{at, growth, grown}
use Rattle.balanced_rates.proofs.Parts.{total_more, total_onward, total_same}
use Rattle.balanced_rates.proofs.split.grow.Goals as goal

pub returns-then-sum-from-clause-beyond : goal.returns-then-sum-from-clause-beyond
returns-then-sum-from-clause-beyond c is_false =
    let j = c.args.joined in
    let n = length c.args.firings.now in
    let k = c.loop-k.k in
    let wanted : ℕ → ℕ = grown j.first j.second j.first_by j.second_by (at c.args.parts.now) (at c.args.firings.now) in
    let read : c.from.result ≡ at c.loop-k.firings k = search rules in
    let old : at c.loop-k.firings k ≡ at c.args.firings.now k = c.loop-k.invariant.left k (omega arith) in
    let factor : c.from-in-loop-k.result ≡ growth j.first j.second j.first_by j.second_by (at c.args.parts.now k) = search rules in
    let value : c.from.result * c.from-in-loop-k.result ≡ at c.args.firings.now k * growth j.first j.second j.first_by j.second_by (at c.args.parts.now k) = ap₂ (λ x y. x * y) (read ∙ old) factor in
    let more : total wanted (k + 1) ≡ total wanted k + wanted k = total_more wanted k in
    let onward : total wanted (k + 1) ≤ total wanted n = total_onward wanted (k + 1) n (omega arith) in
    omega arith

pub loop-k-preserved : goal.loop-k-preserved
loop-k-preserved c =
    let j = c.args.joined in
    let k = c.loop-k.k in
    let wanted : ℕ → ℕ = grown j.first j.second j.first_by j.second_by (at c.args.parts.now) (at c.args.firings.now) in
    let inside : k < length c.loop-k.firings = omega arith in
    let read : c.from.result ≡ at c.loop-k.firings k = search rules in
    let old : at c.loop-k.firings k ≡ at c.args.firings.now k = c.loop-k.invariant.left k (omega arith) in
    let factor : c.from-in-loop-k.result ≡ growth j.first j.second j.first_by j.second_by (at c.args.parts.now k) = search rules in
    let value : c.from.result * c.from-in-loop-k.result ≡ at c.args.firings.now k * growth j.first j.second j.first_by j.second_by (at c.args.parts.now k) = ap₂ (λ x y. x * y) (read ∙ old) factor in
    let more : total wanted (k + 1) ≡ total wanted k + wanted k = total_more wanted k in
    let new = c.from.result * c.from-in-loop-k.result in
    record {
      sum = omega arith;
      within = omega arith;
      done = below_more _ _ (λ i less. let other : i ≢ k = omega arith in get_or-set_other c.loop-k.firings k i new 0 other ∙ c.loop-k.invariant.done i less)
          (get_or-set_same c.loop-k.firings k new 0 inside ∙ (value ∙ mul_comm (at c.args.firings.now k) (growth j.first j.second j.first_by j.second_by (at c.args.parts.now k))));
      left = λ i more'. let other : i ≢ k = omega arith in get_or-set_other c.loop-k.firings k i new 0 other ∙ c.loop-k.invariant.left i (omega (arith, more'));
    }

pub returns-clause-within : goal.returns-clause-within
returns-clause-within c is_true =
    let j = c.args.joined in
    let n = length c.args.firings.now in
    let wanted : ℕ → ℕ = grown j.first j.second j.first_by j.second_by (at c.args.parts.now) (at c.args.firings.now) in
    let end : c.loop-k.k ≡ n = omega arith in
    let same : total (at c.loop-k.firings) n ≡ total wanted n = total_same (at c.loop-k.firings) wanted n (λ k inside. c.loop-k.invariant.done k (omega (arith, inside))) in
    let sum : c.loop-k.sum ≡ total wanted n = rw (← end) c.loop-k.invariant.sum in
    omega arith
