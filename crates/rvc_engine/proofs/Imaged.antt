-- What is answered of an image.
use Rattle.std.proofs.Common.{◌≡◌, ℕ, List, refl, sym, subst}
use Rattle.std.specs.Prelude.{Result, Ok, Err, IfErr, IfOk, IsErr, MatchResult}
use Rattle.rvc_base.specs.declared.refusal.Refusal.{Refusal}
use Rattle.cal_files.specs.Loading.{Counts, Library, TellsAll}
use Rattle.cal_model.specs.Selection.{State}
use Rattle.net_model.specs.Network.{Network}
use Rattle.fnl_files.specs.Views.{files_in}
use Rattle.fnl_source.specs.Files.{Asked, class_asked}
use Rattle.fnl_source.specs.Library.{IsLibraryNetwork, LibraryNetworksAreOne}
use Rattle.rvc_engine.specs.Built.{IsBuilt, IsImageOf}
use Rattle.network_check.specs.Checked.{CountsMisses}
use Rattle.rvc_engine.specs.Images.{MeansNet}
use Rattle.network_check.specs.Laws.{NetworksAreNotRefused}
use Rattle.network_check.specs.Refused.{IsFault, IsOutside, RefusesTop}
use Rattle.network_check.specs.Steps.{IsHeld}
use Rattle.network_check.specs.declared.held.Held.{Held}
use Rattle.rvc_engine.specs.declared.image.Image.{Image}
use Rattle.network_check.specs.declared.fault.BuildFault.{BuildFault}
use Rattle.network_check.specs.declared.fault.BuildFault.TheVariants.{Refused, ReadFault, Memory}

-- ---- of files that were checked

pub built_of : (r : Result Image BuildFault) (library : Library) (top : Asked) (misses : Counts) (names : List (List ℕ)) (held : Held) → IsHeld library top misses names held
    → IfOk r (IsImageOf (files_in held.files) (class_asked top)) → IfOk r (IsBuilt library top names)
built_of (Ok image) library top misses names held h is =
    record { reads = h.reads; are_read = h.are_read; is_image = subst (λ fs. IsImageOf fs (class_asked top) image) h.files_are is }
built_of (Err f) library top misses names held h is = tt

pub built_missed : (r : Result Image BuildFault) (library : Library) (top : Asked) (misses : Counts) (names : List (List ℕ)) (held : Held) → IsHeld library top misses names held
    → IfOk r (λ image. image.flat ≡ held.checked.flat) → IfOk r (λ image. CountsMisses top misses image.flat)
built_missed (Ok image) library top misses names held h same = subst (CountsMisses top misses) (sym same) h.missed
built_missed (Err f) library top misses names held h same = tt

pub no_image : (r : Result Image BuildFault) (library : Library) (top : Asked) (misses faults : Counts) (names : List (List ℕ)) → IfErr r (λ fault. fault ≡ Memory) → IfErr r (IsFault library top misses faults names)
no_image (Ok image) library top misses faults names why = tt
no_image (Err f) library top misses faults names why = subst (IsFault library top misses faults names) (sym why) tt

-- what was checked isn't given, so there is no image
pub none_checked : (library : Library) (top : Asked) (misses faults : Counts) (names : List (List ℕ)) (f : BuildFault) → IsFault library top misses faults names f
    → IsFault library top misses faults names f
none_checked library top misses faults names (Refused r) h = h
none_checked library top misses faults names (ReadFault file) h = h
none_checked library top misses faults names Memory h = tt

-- what was compiled is the library's network
library_image : (library : Library) (top : Asked) (names : List (List ℕ)) (image : Image) (h : IsBuilt library top names image)
    → IsLibraryNetwork library top h.is_image.net
library_image library top names image h = record { reads = h.reads; are_loaded = h.are_read.are_loaded; means = h.is_image.means }

-- ---- what a library that tells of each name decides

pub completes_image : (r : Result Image BuildFault) (library : Library) (top : Asked) (misses faults : Counts) (names : List (List ℕ)) (net : Network State)
    → LibraryNetworksAreOne → NetworksAreNotRefused → TellsAll library → IsLibraryNetwork library top net
    → IfOk r (IsBuilt library top names) → IfErr r (IsFault library top misses faults names) → MatchResult r (λ image. MeansNet image net) IsOutside
completes_image (Ok image) library top misses faults names net one kept tells is h k =
    subst (MeansNet image) (one library top h.is_image.net net tells (library_image library top names image h) is)
    (record { actors = h.is_image.means.actors; has = h.is_image.has })
completes_image (Err (Refused r)) library top misses faults names net one kept tells is h k = absurd (kept library top net misses names r tells is k)
completes_image (Err (ReadFault file)) library top misses faults names net one kept tells is h k = tt
completes_image (Err Memory) library top misses faults names net one kept tells is h k = tt

pub refuses_image : (r : Result Image BuildFault) (library : Library) (top : Asked) (misses : Counts) (names found : List (List ℕ)) (refusal : Refusal)
    → NetworksAreNotRefused → TellsAll library → RefusesTop library top misses found refusal
    → IfOk r (IsBuilt library top names) → IsErr r
refuses_image (Ok image) library top misses names found refusal kept tells is h =
    absurd (kept library top h.is_image.net misses found refusal tells (library_image library top names image h) is)
refuses_image (Err f) library top misses names found refusal kept tells is h = refl
