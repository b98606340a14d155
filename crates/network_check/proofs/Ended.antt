-- What is answered of a top.
use Rattle.std.proofs.Common.{◌≡◌, ℕ, List, refl, sym, subst}
use Rattle.std.specs.Prelude.{Result, Ok, Err, IfErr, IfOk, IsErr, MatchResult}
use Rattle.rvc_base.specs.declared.refusal.Front.{Front}
use Rattle.rvc_base.specs.declared.refusal.Front.TheVariants as front
use Rattle.rvc_base.specs.declared.refusal.Refusal.{Refusal}
use Rattle.cal_files.specs.Loading.{Counts, Library, TellsAll}
use Rattle.cal_model.specs.Selection.{State}
use Rattle.net_model.specs.Network.{Network}
use Rattle.check_leaves.specs.Leaves.{actors_at_leaves}
use Rattle.fnl_files.specs.Laws.{LeavesAreTried}
use Rattle.fnl_files.specs.Views.{HasFile, HoldsLoaded, files_in}
use Rattle.fnl_source.specs.Files.{Asked, class_asked, files_of}
use Rattle.fnl_source.specs.Library.{IsLibraryNetwork, LibraryNetworksAreOne}
use Rattle.fnl_source.specs.Source.{Files, IsSourceNetwork}
use Rattle.network_check.specs.Checked.{HasNetwork, HasSource, IsChecked}
use Rattle.network_check.specs.Laws.{NetworksAreNotRefused}
use Rattle.network_check.specs.Refused.{Breaks, IsFault, IsOutside, RefusesTop, in_network}
use Rattle.network_check.specs.Steps.{IsHeld, IsWhy, of_front}
use Rattle.network_check.specs.declared.checked.Checked.{Checked}
use Rattle.network_check.specs.declared.held.Held.{Held}
use Rattle.network_check.specs.declared.fault.BuildFault.{BuildFault}
use Rattle.network_check.specs.declared.fault.BuildFault.TheVariants.{Refused, ReadFault, Memory}
use Rattle.network_check.proofs.Counted.{counts}

-- ---- of files that were loaded

pub held_of : LeavesAreTried → (library : Library) (top : Asked) (class : List ℕ) (misses : Counts) (names : List (List ℕ)) (held : Held) → class_asked top ≡ class
    → HasFile top (files_in held.files) → HoldsLoaded library top misses (files_in held.files) names → HasSource (files_in held.files) class held.checked
    → IsHeld library top misses names held
held_of law library top class misses names held same has h source = record {
  reads = h.reads;
  are_read = record { are_loaded = h.are_loaded; names_are = h.holds.names_are };
  files_are = h.holds.files_are;
  source = here;
  missed = counts law h.reads top misses (actors_at_leaves held.checked.actors) held.checked.flat here.net h.are_tried
      (subst (HasFile top) h.holds.files_are has)
      (subst (λ fs. IsSourceNetwork fs (class_asked top) here.net) h.holds.files_are here.means) here.has_net.is_net;
}
  where
    here : HasSource (files_in held.files) (class_asked top) held.checked
    here = subst (λ cl. HasSource (files_in held.files) cl held.checked) (sym same) source

pub held_checked : (library : Library) (top : Asked) (misses : Counts) (names : List (List ℕ)) (held : Held) → IsHeld library top misses names held → IsChecked library top names held.checked
held_checked library top misses names held h = record {
  reads = h.reads;
  are_read = h.are_read;
  source = subst (λ fs. HasSource fs (class_asked top) held.checked) h.files_are h.source;
}

pub broken_fault : (library : Library) (top : Asked) (class : List ℕ) (misses faults : Counts) (files : Files) (names : List (List ℕ)) (f : Front) (said : BuildFault)
    → class_asked top ≡ class → said ≡ of_front f → HoldsLoaded library top misses files names → IsWhy files class f → IsFault library top misses faults names said
broken_fault library top class misses faults files names (front.Refused r) said same is h why =
    subst (IsFault library top misses faults names) (sym is) (in_network (record {
      reads = h.reads;
      are_loaded = h.are_loaded;
      names_are = h.holds.names_are;
      breaks = subst (λ cl. Breaks (files_of h.reads) cl r) (sym same) (subst (λ fs. Breaks fs class r) h.holds.files_are why);
    }))
broken_fault library top class misses faults files names front.Memory said same is h why =
    subst (IsFault library top misses faults names) (sym is) tt

-- what was checked is the library's network
library_net : (library : Library) (top : Asked) (names : List (List ℕ)) (c : Checked) (h : IsChecked library top names c)
    → IsLibraryNetwork library top h.source.net
library_net library top names c h = record { reads = h.reads; are_loaded = h.are_read.are_loaded; means = h.source.means }

-- ---- what a library that tells of each name decides

pub completes : (r : Result Checked BuildFault) (library : Library) (top : Asked) (misses faults : Counts) (names : List (List ℕ)) (net : Network State)
    → LibraryNetworksAreOne → NetworksAreNotRefused → TellsAll library → IsLibraryNetwork library top net
    → IfOk r (IsChecked library top names) → IfErr r (IsFault library top misses faults names) → MatchResult r (λ c. HasNetwork c net) IsOutside
completes (Ok c) library top misses faults names net one kept tells is h k =
    subst (HasNetwork c) (one library top h.source.net net tells (library_net library top names c h) is) h.source.has_net
completes (Err (Refused r)) library top misses faults names net one kept tells is h k =
    absurd (kept library top net misses names r tells is k)
completes (Err (ReadFault file)) library top misses faults names net one kept tells is h k = tt
completes (Err Memory) library top misses faults names net one kept tells is h k = tt

pub refuses : (r : Result Checked BuildFault) (library : Library) (top : Asked) (misses : Counts) (names found : List (List ℕ)) (refusal : Refusal)
    → NetworksAreNotRefused → TellsAll library → RefusesTop library top misses found refusal
    → IfOk r (IsChecked library top names) → IsErr r
refuses (Ok c) library top misses names found refusal kept tells is h =
    absurd (kept library top h.source.net misses found refusal tells (library_net library top names c h) is)
refuses (Err f) library top misses names found refusal kept tells is h = refl
