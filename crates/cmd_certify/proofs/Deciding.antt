-- The status that what is said of the actors at leaves comes to.
use Rattle.std.proofs.Common.{◌≡◌, List, [], ◌∷◌, ◌++◌, length, Option, None, Some, refl, sym, ap, subst}
use Rattle.std.specs.Prelude.{slice_get, take}
use Rattle.std.proofs.lemmas.List.{append_assoc, append-nil, length-append}
use Rattle.cal_model.specs.Actor.{Actor}
use Rattle.cal_model.specs.Certified.{IsCertified}
use Rattle.cal_model.specs.Laws.{SoundHavePriorities}
use Rattle.cal_model.specs.Sound.{Each, IsSound}
use Rattle.determinacy_cert.specs.Certifying.{NoFailureWhereCertified}
use Rattle.determinacy_cert.specs.declared.fault.CertFault.{CertFault}
use Rattle.determinacy_cert.specs.declared.fault.CertFault.TheVariants.{Uncertified, Memory}
use Rattle.cmd_report.specs.declared.status.Status.{Status}
use Rattle.cmd_report.specs.declared.status.Status.TheVariants as status
use Rattle.rvc_engine.specs.Built.{AreJudged, IsJudged}
use Rattle.cmd_certify.specs.Ends.{FailsFirst}
use Rattle.cmd_certify.specs.Steps.{status_at, status_from}
use Rattle.cmd_certify.proofs.Leaves.{not_certified}

-- each is certified, or this is the lowest that isn't
abbrev pub Outcome : List Actor → Status → Type 0
Outcome actors status.Done = Each IsCertified actors
Outcome actors (status.Uncertified inst state a b reason) = FailsFirst actors inst.0 state a.0 b.0 reason
Outcome actors status.OutOfMemory = ⊥
Outcome actors (status.ReadFault at) = ⊥
Outcome actors (status.WriteFault channel) = ⊥
Outcome actors (status.Refused r) = ⊥
Outcome actors status.Quiet = ⊥
Outcome actors (status.Trapped inst action trap) = ⊥
Outcome actors (status.Stalled inst action link) = ⊥
Outcome actors (status.Budget firings) = ⊥
Outcome actors (status.Usage cause) = ⊥
Outcome actors (status.NotRun number why) = ⊥

seam : {A : Type 0} (xs ys : List A) (y : A) → slice_get (xs ++ y ∷ ys) (length xs) ≡ Some y
seam [] ys y = refl
seam (x ∷ xs) ys y = seam xs ys y

take_front : {A : Type 0} (xs ys : List A) → take (length xs) (xs ++ ys) ≡ xs
take_front [] ys = refl
take_front (x ∷ xs) ys = ap (λ zs. x ∷ zs) (take_front xs ys)

each_more : {A : Type 0} (P : A → Type 0) (xs : List A) (y : A) → Each P xs → P y → Each P (xs ++ y ∷ [])
each_more P [] y each h = (h, tt)
each_more P (x ∷ xs) y each h = (each.0, each_more P xs y each.1 h)

one_fails : SoundHavePriorities → NoFailureWhereCertified → (before actors : List Actor) (actor : Actor) (fault : CertFault) → Each IsCertified before → IsSound actor
    → IsJudged actor (Some fault) → Outcome (before ++ actor ∷ actors) (status_at (length before) fault)
one_fails ordered none before actors actor (Uncertified state a b reason) each sound judged = record {
  before = subst (Each IsCertified) (sym (take_front before (actor ∷ actors))) each;
  actor = actor;
  is_there = seam before actors actor;
  uncertified = not_certified ordered none actor (Uncertified state a b reason) sound judged;
  failure = judged;
}
one_fails ordered none before actors actor Memory each sound judged = judged

pub decided : SoundHavePriorities → NoFailureWhereCertified → (before actors : List Actor) (said : List (Option CertFault)) → Each IsCertified before → Each IsSound actors
    → AreJudged actors said → Outcome (before ++ actors) (status_from (length before) said)
decided ordered none before [] [] each sound h = subst (Each IsCertified) (sym (append-nil before)) each
decided ordered none before [] (x ∷ said) each sound h = absurd h
decided ordered none before (a ∷ actors) [] each sound h = absurd h
decided ordered none before (a ∷ actors) (None ∷ said) each sound h =
    subst (λ n. Outcome (before ++ a ∷ actors) (status_from n said)) (length-append before (a ∷ []))
    (subst (λ xs. Outcome xs (status_from (length (before ++ a ∷ [])) said)) (append_assoc before (a ∷ []) actors)
    (decided ordered none (before ++ a ∷ []) actors said (each_more IsCertified before a each h.0) sound.1 h.1))
decided ordered none before (a ∷ actors) (Some fault ∷ said) each sound h =
    one_fails ordered none before actors a fault each sound.0 h.0
