-- What holds of files that mean a network.
-- Trusted: part of what a promise means.
use Rattle.std.specs.Prelude.{ℕ, List}
use Rattle.rvc_base.specs.declared.refusal.Refusal.{Refusal}
use Rattle.cal_model.specs.Selection.{State}
use Rattle.net_model.specs.Network.{Network}
use Rattle.cal_files.specs.Loading.{Counts, Library, TellsAll}
use Rattle.fnl_source.specs.Files.{Asked}
use Rattle.fnl_source.specs.Library.{IsLibraryNetwork}
use Rattle.fnl_source.specs.Source.{Files, IsSourceNetwork}
use Rattle.network_check.specs.Refused.{Breaks, RefusesTop}

-- files that mean a network break no rule
abbrev pub NetworksBreakNothing : Type 0
NetworksBreakNothing = (files : Files) (class : List ℕ) (net : Network State) (r : Refusal)
    → IsSourceNetwork files class net → Breaks files class r → ⊥

-- if a library tells of each name, a top that it has a network of isn't refused
abbrev pub NetworksAreNotRefused : Type 0
NetworksAreNotRefused = (library : Library) (top : Asked) (net : Network State) (misses : Counts)
    (names : List (List ℕ)) (r : Refusal) → TellsAll library → IsLibraryNetwork library top net
    → RefusesTop library top misses names r → ⊥
