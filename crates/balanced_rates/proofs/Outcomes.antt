-- What is known once a link more was looked at.
use Rattle.std.proofs.Common.{◌≡◌, ◌≢◌, ℕ, ◌+◌, ◌*◌, ◌<◌, ◌≤◌, List, [], ◌∷◌, ◌++◌, length, get_or, take, refl, subst, ⊎_elim, inl, inr, nat_eq}
use Rattle.std.specs.Prelude.{if◌then◌else◌}
use Rattle.std.proofs.lemmas.List.{take_more}
use Rattle.balanced_rates.specs.declared.link.RatedLink.{RatedLink}
use Rattle.balanced_rates.specs.declared.split.Outcome.{Outcome}
use Rattle.balanced_rates.specs.declared.split.Outcome.TheVariants.{Balanced, Contrary, Long}
use Rattle.balanced_rates.specs.Balance.{IsAmong, IsContrary, IsLong, IsFirstFault, total}
use Rattle.balanced_rates.specs.Fraction.{IsLowest}
use Rattle.balanced_rates.specs.Split.{IsSplit, After, MatchOutcome, grown}
use Rattle.balanced_rates.proofs.Parts.{IsJoined, split_more, split_joined, long_of_split, contrary_of_unlike, inside_of_balanced}

pub retaken : (P : ℕ → List RatedLink → Type 0) (n m : ℕ) (links : List RatedLink) (l : ℕ) (d : RatedLink) → m ≡ n → l < length links → P m (take l links ++ get_or links l d ∷ []) → P n (take (l + 1) links)
retaken P n m links l d same inside h =
    rw (take_more links l d inside) (subst (λ k. P k (take l links ++ get_or links l d ∷ [])) same h)

-- a link that joins no parts
pub settled : (n longest : ℕ) (links : List RatedLink) (link : RatedLink) (parts firings : ℕ → ℕ) (outcome : Outcome) → IsAmong n link → ¬ ((0 < link.give * firings link.writer) × (0 < link.need * firings link.reader) × (parts link.writer ≢ parts link.reader)) → MatchOutcome outcome (link.give * firings link.writer) (link.need * firings link.reader) (total firings n) longest → IsSplit n links parts firings → After n longest (links ++ link ∷ []) parts firings outcome
settled n longest links link parts firings Balanced among no_join h split =
    (split_more n links link parts firings split among h.0 (inside_of_balanced n link parts firings split.balances.positive among h.0 no_join), h.1)
settled n longest links link parts firings Contrary among no_join h split =
    contrary_of_unlike n links link parts firings split among h no_join
settled n longest links link parts firings Long among no_join h split =
    long_of_split n longest (links ++ link ∷ []) parts firings (split_more n links link parts firings split among h.0 (inside_of_balanced n link parts firings split.balances.positive among h.0 no_join)) h.1

-- a link that joins two
pub joined_is_long : (n longest : ℕ) (links : List RatedLink) (link : RatedLink) (parts firings : ℕ → ℕ) (p q : ℕ) → IsAmong n link → parts link.writer ≢ parts link.reader → IsLowest (link.give * firings link.writer) (link.need * firings link.reader) p q → longest < total (grown (parts link.writer) (parts link.reader) q p parts firings) n → IsSplit n links parts firings → IsLong n longest (links ++ link ∷ [])
joined_is_long n longest links link parts firings p q among apart lowest over split =
    let parts' : ℕ → ℕ = λ k. if nat_eq (parts k) (parts link.reader) then parts link.writer else parts k in
    long_of_split n longest (links ++ link ∷ []) parts' (grown (parts link.writer) (parts link.reader) q p parts firings)
    (split_joined n links link parts firings parts' (grown (parts link.writer) (parts link.reader) q p parts firings) p q split (record {
      among = among;
      apart = apart;
      lowest = lowest;
      grown = λ k inside. refl;
      united = λ k inside. refl;
    }))
    over

pub joined_is_split : (n longest : ℕ) (links : List RatedLink) (link : RatedLink) (parts firings parts' firings' : ℕ → ℕ) (p q : ℕ) → IsJoined n link parts firings parts' firings' p q → total firings' n ≤ longest → IsSplit n links parts firings → IsSplit n (links ++ link ∷ []) parts' firings' × (total firings' n ≤ longest)
joined_is_split n longest links link parts firings parts' firings' p q joined within split =
    (split_joined n links link parts firings parts' firings' p q split joined, within)

-- ---- the first fault
pub no_first_fault : (n longest : ℕ) (links : List RatedLink) → ((k : ℕ) → k < length links → ¬ IsContrary n (take (k + 1) links) × ¬ IsLong n longest (take (k + 1) links)) → (l : ℕ) → ¬ IsFirstFault n longest links l
no_first_fault n longest links none l fault =
    let faultless = none l fault.inside in ⊎_elim faultless.0 faultless.1 fault.fault

pub first_contrary : (n longest : ℕ) (links : List RatedLink) (l : ℕ) → l < length links → ((k : ℕ) → k < l → ¬ IsContrary n (take (k + 1) links) × ¬ IsLong n longest (take (k + 1) links)) → IsContrary n (take (l + 1) links) → IsFirstFault n longest links l × IsContrary n (take (l + 1) links)
first_contrary n longest links l inside before contrary =
    (record { inside = inside; fault = inl contrary; first = before }, contrary)

pub first_long : (n longest : ℕ) (links : List RatedLink) (l : ℕ) → l < length links → ((k : ℕ) → k < l → ¬ IsContrary n (take (k + 1) links) × ¬ IsLong n longest (take (k + 1) links)) → IsLong n longest (take (l + 1) links) → (l' : ℕ) × IsFirstFault n longest links l' × IsLong n longest (take (l' + 1) links)
first_long n longest links l inside before long =
    (l, record { inside = inside; fault = inr long; first = before }, long)
