-- Choices of networks that fit what a library tells.
use Rattle.std.proofs.Common.{◌≡◌, Bool, true, false, refl, sym, ◌∙◌}
use Rattle.rvc_io.specs.Told.{Told, Untold, Lacking, Holding}
use Rattle.cal_files.specs.Loading.{Library, TellsAll}
use Rattle.fnl_source.specs.Files.{Choice, Fits, FitsTold, network_file}

-- what is told decides, and else another choice
abbrev pub by_told : Told → Bool → Bool
by_told Untold other = other
by_told Lacking other = false
by_told (Holding bytes) other = true

abbrev pub choice_by : Library → Choice → Choice
choice_by library other class = by_told (library (network_file class)) (other class)

by_told_fits : (told : Told) (other : Bool) → FitsTold told (by_told told other)
by_told_fits Untold other = tt
by_told_fits Lacking other = refl
by_told_fits (Holding bytes) other = refl

pub choice_fits : (library : Library) (other : Choice) → Fits library (choice_by library other)
choice_fits library other class = by_told_fits (library (network_file class)) (other class)

-- of a file of which something is told, one answer fits
fits_once : (told : Told) (one other : Bool) → (told ≡ Untold → ⊥) → FitsTold told one → FitsTold told other → one ≡ other
fits_once Untold one other known h k = absurd (known refl)
fits_once Lacking one other known h k = h ∙ sym k
fits_once (Holding bytes) one other known h k = h ∙ sym k

-- if a library tells of each name, one choice fits
pub choices_are_one : (library : Library) (one other : Choice) → TellsAll library → Fits library one → Fits library other → one ≡ other
choices_are_one library one other tells h k =
    λ i class. fits_once (library (network_file class)) (one class) (other class) (tells (network_file class)) (h class) (k class) i
