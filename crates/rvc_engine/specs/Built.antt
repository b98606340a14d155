-- What a compiled network is: the source network of the files that were read, with code for each of its actors.
-- Trusted: part of what a promise means.
use Rattle.std.specs.Prelude.{◌≡◌, ℕ, List, [], ◌∷◌, map, Option, None, Some}
use Rattle.std.specs.Arc.{arc_value}
use Rattle.cal_model.specs.Actor.{Actor}
use Rattle.cal_model.specs.Certified.{IsCertified}
use Rattle.cal_model.specs.Selection.{Priorities, State}
use Rattle.cal_model.specs.Sound.{Each, IsSound}
use Rattle.net_model.specs.Network.{Network}
use Rattle.cal_files.specs.Loading.{Library}
use Rattle.lower_actor.specs.Leaves.{StandForActors}
use Rattle.determinacy_cert.specs.Failing.{failures, first}
use Rattle.determinacy_cert.specs.declared.fault.CertFault.{CertFault}
use Rattle.determinacy_cert.specs.declared.fault.CertFault.TheVariants.{Uncertified, Memory}
use Rattle.fnl_source.specs.Files.{Asked, class_asked, files_of, Read}
use Rattle.fnl_source.specs.Source.{Files, IsSourceNetwork}
use Rattle.network_check.specs.Checked.{AreRead, IsNetworkOf}
use Rattle.rvc_engine.specs.declared.image.Image.{Image}

-- ---- actors

-- An actor is certified if nothing is said of it. If something is, it is the first failure of the certification rule.
abbrev pub IsJudged : Actor → Option CertFault → Type 0
IsJudged actor None = IsCertified actor
IsJudged actor (Some (Uncertified state a b reason)) = (p : Priorities actor)
    → first (failures actor p.above)
    ≡ Some (record { state = state; a = a.0; b = b.0; reason = reason })
IsJudged actor (Some Memory) = ⊥

-- .. and so is each
abbrev pub AreJudged : List Actor → List (Option CertFault) → Type 0
AreJudged [] [] = Unit {0}
AreJudged (actor ∷ actors) (said ∷ more) = IsJudged actor said × AreJudged actors more
AreJudged actors more = ⊥

-- ---- the network

-- the network of these actors, with the lowered actors that stand for them and with what is said of each
pub record HasImage (image : Image) (actors : List Actor) (net : Network State) : Type 0 where
  pub sound : Each IsSound actors
  pub is_net : IsNetworkOf actors image.flat net
  pub codes : StandForActors actors (map arc_value image.codes.items)
  pub judged : AreJudged actors image.uncertified.items

-- it is the network that files mean from a class down
pub record IsImageOf (files : Files) (class : List ℕ) (image : Image) : Type 0 where
  pub net : Network State
  pub means : IsSourceNetwork files class net
  pub has : HasImage image means.actors net

-- Files were read, and the image is that of the network which they mean.
pub record IsBuilt (library : Library) (top : Asked) (names : List (List ℕ)) (image : Image) : Type 0 where
  pub reads : List Read
  pub are_read : AreRead library top names reads
  pub is_image : IsImageOf (files_of reads) (class_asked top) image
