-- Workers that arrive at a gate.
use Rattle.std.proofs.Common.{◌≡◌, ℕ, ◌+◌, ◌-◌, subst, ⊎_elim, arith}
use Rattle.std.proofs.lemmas.Bool.{cases_lt}
use Rattle.claimed_bursts.specs.declared.crew.Crew.{Crew}
use Rattle.claimed_bursts.specs.Crews.{HaveArrived}

-- two halves
pub arrived_both : (arrived : ℕ → ℕ → Type 0) (crew low high : Crew) → low.first ≡ crew.first → high.first ≡ crew.first + low.count → (low.round ≡ crew.round) × (high.round ≡ crew.round)
    → low.count + high.count ≡ crew.count → HaveArrived arrived low → HaveArrived arrived high → HaveArrived arrived crew
arrived_both arrived crew low high low_begins high_begins rounds all low_are high_are = λ k within. ⊎_elim
    (λ below.
    subst (λ r. arrived r (crew.first + k)) rounds.0
    (subst (arrived low.round) (let e : low.first + k ≡ crew.first + k = omega (arith, low_begins) in e) (low_are k below)))
    (λ above.
    subst (λ r. arrived r (crew.first + k)) rounds.1
    (subst (arrived high.round) (let e : high.first + (k - low.count) ≡ crew.first + k = omega (arith, high_begins, above) in e)
    (high_are (k - low.count) (omega (arith, above, within, all)))))
    (cases_lt k low.count)
