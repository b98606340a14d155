-- Networks of sound and certified actors are determinate.
use Rattle.std.proofs.Common.{sym, subst}
use Rattle.rvc_base.specs.Behaviour.{Behaviour}
use Rattle.rvc_base.specs.Lawful.{IsLawful}
use Rattle.cal_model.specs.Selection.{State}
use Rattle.cal_model.specs.Laws.{BehaviourIsLawful}
use Rattle.net_model.specs.Network.{Network}
use Rattle.net_model.specs.Stable.{IsStable}
use Rattle.net_model.specs.Wired.{IsWired}
use Rattle.determinacy_cert.specs.Determinacy.{IsDeterminate}
use Rattle.determinacy_cert.specs.Certifying.{CertifiedAreStable, IsOfCertified, AreCertified}

lawful_leaf : BehaviourIsLawful → (b : Behaviour State) → IsOfCertified b → IsLawful b
lawful_leaf law b is = subst IsLawful (sym is.is) (law is.actor is.priorities is.sound)

stable_leaf : CertifiedAreStable → (b : Behaviour State) → IsOfCertified b → IsStable b
stable_leaf law b is = subst IsStable (sym is.is) (law is.actor is.priorities is.sound is.certified)

pub certified_are_determinate : BehaviourIsLawful → CertifiedAreStable → (net : Network State) → IsWired net → AreCertified net → IsDeterminate net
certified_are_determinate lawful stable net wired certified = record {
  wired = wired;
  lawful = λ i leaf is. lawful_leaf lawful leaf.behaviour (certified i leaf is);
  stable = λ i leaf is. stable_leaf stable leaf.behaviour (certified i leaf is);
}
