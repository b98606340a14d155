-- The names of the causes.
-- Trusted: part of what a promise means.
use Rattle.std.specs.Prelude.{ℕ, List, codes}
use Rattle.rvc_words.specs.declared.fault.UsageCause.{UsageCause}
use Rattle.rvc_words.specs.declared.fault.UsageCause.TheVariants.{Words, Verb, Top, Number, Round, Port, Trace}

-- the name that the program prints
abbrev pub cause_name : UsageCause → List ℕ
cause_name Words = codes "words"
cause_name Verb = codes "verb"
cause_name Top = codes "top"
cause_name Number = codes "number"
cause_name Round = codes "round"
cause_name Port = codes "port"
cause_name Trace = codes "trace"
