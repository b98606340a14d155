-- What an image answers of an actor.
-- Trusted: part of what a promise means.
use Rattle.std.specs.Prelude.{◌≡◌, Option, None, Some, Result, Ok, Err}
use Rattle.std.specs.Borrow.{Bor}
use Rattle.determinacy_cert.specs.declared.fault.CertFault.{CertFault}

-- it is certified if nothing is said of it, and else not for what is said
abbrev pub AnswersAs : Result (Unit {0}) (Bor CertFault) → Option (Option CertFault) → Type 0
AnswersAs (Ok u) said = said ≡ Some None
AnswersAs (Err f) said = said ≡ Some (Some f.now)
