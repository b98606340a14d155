-- The steps of certifying.
-- Not trusted: no promise is read with it.
use Rattle.std.specs.Prelude.{◌≡◌, ◌+◌, ℕ, List, [], ◌∷◌, map, Option, None, Some, slice_index_or}
use Rattle.cal_model.specs.Actor.{Actor}
use Rattle.determinacy_cert.specs.declared.fault.CertFault.{CertFault}
use Rattle.determinacy_cert.specs.declared.fault.CertFault.TheVariants.{Uncertified, Memory}
use Rattle.cmd_report.specs.declared.status.Status.{Status}
use Rattle.cmd_report.specs.declared.status.Status.TheVariants as status
use Rattle.rvc_engine.specs.Built.{AreJudged}
use Rattle.cmd_network.specs.Commands.{count_none}
use Rattle.cmd_certify.specs.declared.judging.Verdict.{Verdict}

-- what is said of the actors at these places
abbrev pub said_at : List (Option CertFault) → List ℕ → List (Option CertFault)
said_at all places = map (λ p. slice_index_or all p None) places

-- the status that the first of these gives which isn't nothing; the first has this number
abbrev pub status_at : ℕ → CertFault → Status
status_at leaf (Uncertified state a b reason) =
    status.Uncertified (record { 0 = leaf }) state a b reason
status_at leaf Memory = status.OutOfMemory

abbrev pub status_from : ℕ → List (Option CertFault) → Status
status_from leaf [] = status.Done
status_from leaf (None ∷ said) = status_from (leaf + 1) said
status_from leaf (Some fault ∷ said) = status_at leaf fault

-- Of these actors something is said, by which so many are certified and this is the status.
pub record IsVerdict (actors : List Actor) (v : Verdict) : Type 0 where
  pub all : List (Option CertFault)
  pub judged : AreJudged actors all
  pub certified : v.certified ≡ count_none all
  pub said : v.said ≡ status_from 0 all
