-- What the certification rule gives, as statements (Kahn 1974, for each firing).
-- Trusted: part of what a promise means.
use Rattle.std.specs.Prelude.{◌≡◌, ◌↔◌, ℕ, [], Some, slice_get}
use Rattle.rvc_base.specs.Behaviour.{Behaviour}
use Rattle.net_model.specs.Network.{Leaf, Network}
use Rattle.net_model.specs.Stable.{IsStable}
use Rattle.net_model.specs.Wired.{IsWired}
use Rattle.cal_model.specs.Actor.{Actor}
use Rattle.cal_model.specs.Selection.{State, Priorities}
use Rattle.cal_model.specs.Firing.{behaviour}
use Rattle.cal_model.specs.Sound.{IsSound}
use Rattle.cal_model.specs.Certified.{IsCertified}
use Rattle.determinacy_cert.specs.Determinacy.{IsDeterminate}
use Rattle.determinacy_cert.specs.Failing.{failures}

-- what a sound and certified actor does isn't undone by tokens that come later
abbrev pub CertifiedAreStable : Type 0
CertifiedAreStable = (actor : Actor) (p : Priorities actor) → IsSound actor → IsCertified actor
    → IsStable (behaviour actor p)

-- this is the behaviour of a sound and certified actor
pub record IsOfCertified (b : Behaviour State) : Type 0 where
  pub actor : Actor
  pub priorities : Priorities actor
  pub is : b ≡ behaviour actor priorities
  pub sound : IsSound actor
  pub certified : IsCertified actor

-- .. as that of each leaf is
abbrev pub AreCertified : Network State → Type 0
AreCertified net = (i : ℕ) (leaf : Leaf State) → slice_get net.leaves i ≡ Some leaf
    → IsOfCertified leaf.behaviour

-- a wired network of such actors has one result, however it is scheduled
abbrev pub CertifiedAreDeterminate : Type 0
CertifiedAreDeterminate = (net : Network State) → IsWired net → AreCertified net → IsDeterminate net

-- an actor is certified exactly if the list of its failures is empty
abbrev pub NoFailureWhereCertified : Type 0
NoFailureWhereCertified = (actor : Actor) (p : Priorities actor) → (failures actor p.above ≡ [])
    ↔ IsCertified actor
