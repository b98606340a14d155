-- What calls answer that pass over what isn't constant.
-- Not trusted: no promise is read with it.
use Rattle.std.specs.Prelude.{◌≡◌, ◌⊎◌, Bool, false, ◌==◌, List}
use Rattle.std.specs.declared.result.Result.{Result}
use Rattle.std.specs.declared.result.Result.TheVariants.{Ok, Err}
use Rattle.rvc_base.specs.Rules.{not_constant}
use Rattle.rvc_base.specs.declared.refusal.Front.{Front}
use Rattle.rvc_base.specs.declared.refusal.Front.TheVariants as front
use Rattle.cal_model.specs.Sound.{Each}
use Rattle.cal_check.specs.Actors.{Source, ins_of, outs_of, place_of}
use Rattle.cal_check.specs.Variables.{Found, found_in}
use Rattle.cal_model.specs.Kinding.{Names}
use Rattle.check_variable.specs.declared.header.Header.{Header}
use Rattle.check_actor.specs.Phases.{AreRoutinesOf, IsHeaderOf, header_over, heads_over}
use Rattle.check_actor.specs.declared.routines.Routines.{Routines}
use Rattle.check_member.specs.Parts.{bare_header_broken}
use Rattle.check_given.specs.Causes.{IsCause, SaysRule}

-- something there isn't constant
abbrev pub IsLack : Found → Type 0
IsLack f = f.violation.rule ≡ not_constant

-- nothing is broken but that something isn't constant, or a rule that is said whatever else is broken
abbrev pub Sifts : Result (Unit {0}) Front → List Found → Type 0
Sifts (Ok u) fs = Each IsLack fs
Sifts (Err f) fs = IsCause f fs × SaysRule f

-- of all that is broken this is left to be sifted
pub record IsLeft (left all : List Found) : Type 0 where
  pub only : Each IsLack left → Each IsLack all
  pub cause : (f : Front) → IsCause f left → IsCause f all

abbrev pub SiftsOn : Result (Unit {0}) Front → (left all : List Found) → Type 0
SiftsOn (Ok u) left all = IsLeft left all
SiftsOn (Err f) left all = IsCause f all × SaysRule f

-- a rule that is broken, and that is said whatever else is broken unless all that is broken here isn't constant
abbrev pub IsFault : Front → List Found → Type 0
IsFault f fs = IsCause f fs × (SaysRule f ⊎ Each IsLack fs)

-- ---- what is inside

-- nothing is broken inside but that something isn't constant, or a rule that is said whatever else is broken
abbrev pub SiftsInside : Result (Unit {0}) Front → (fs : List Found) → (Front → Type 0) → Type 0
SiftsInside (Ok u) fs above = Each IsLack fs
SiftsInside (Err f) fs above = (IsCause f fs × SaysRule f) ⊎ above f

-- a rule that is broken or an action above itself, if it is said whatever else is broken or all that is broken isn't constant
abbrev pub IsInsideFault : Front → (fs : List Found) → (Front → Type 0) → Type 0
IsInsideFault f fs above = (IsCause f fs ⊎ above f) × (SaysRule f ⊎ Each IsLack fs)

-- ---- parts

abbrev pub lacks : Front → Bool
lacks (front.Refused r) = r.rule.0 == not_constant.0
lacks front.Memory = false

-- what a header breaks but for the types of its ports
abbrev pub bare_over : Source → List Found
bare_over s = found_in s.file (bare_header_broken (ins_of s.actor) (outs_of s.actor) (place_of s.actor))

-- a header that breaks no rule, or a rule that it breaks
abbrev pub SiftsHeader : Result Header Front → Source → Names → Type 0
SiftsHeader (Ok h) s names = IsHeaderOf h s names
SiftsHeader (Err f) s names = IsFault f (header_over s names)

-- functions and procedures whose heads break no rule, or a rule that a head breaks
abbrev pub SiftsHeads : Result Routines Front → Source → Names → Type 0
SiftsHeads (Ok r) s names = AreRoutinesOf r s names
SiftsHeads (Err f) s names = IsFault f (heads_over s names)
