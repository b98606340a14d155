-- What a read adds to what was done. One that failed, or for which memory ran out, adds nothing.
-- Trusted: part of what a promise means.
use Rattle.std.specs.Prelude.{ℕ, List, ◌∷◌}
use Rattle.rvc_io.specs.Past.{Done, Gave, Lacked, Exceeded}
use Rattle.rvc_io.specs.declared.library.ReadAnswer.{ReadAnswer}
use Rattle.rvc_io.specs.declared.library.ReadAnswer.TheVariants.{Found, Missing, Failed, TooLong, Memory}

abbrev pub read_as : ReadAnswer → (name bytes : List ℕ) → List Done → List Done
read_as Found name bytes past = Gave name bytes ∷ past
read_as Missing name bytes past = Lacked name ∷ past
read_as Failed name bytes past = past
read_as TooLong name bytes past = Exceeded name ∷ past
read_as Memory name bytes past = past
