-- When the files of a library and the words of a job conform: they are about one network.
-- Trusted: part of what a promise means.
use Rattle.std.specs.Prelude.{◌≡◌, ℕ, List, [], ◌++◌, map}
use Rattle.cal_files.specs.Loading.{Library, TellsAll}
use Rattle.cal_model.specs.Selection.{State}
use Rattle.net_model.specs.Network.{Network}
use Rattle.cmd_ports.specs.Matching.{AreMatched}
use Rattle.rvc_words.specs.Words.{PortText}
use Rattle.fnl_source.specs.Files.{Asked}
use Rattle.fnl_source.specs.Library.{IsLibraryNetwork}

-- ---- which ports a verb opens, by their names

abbrev pub Opened : Type 0
Opened = Network State → List (List ℕ)

-- a network's inputs, and its outputs
abbrev pub input_names : Opened
input_names net = map (λ port. port.name) net.ins

abbrev pub output_names : Opened
output_names net = map (λ port. port.name) net.outs

-- its inputs, and then its outputs
abbrev pub names_of_ports : Opened
names_of_ports net = map (λ port. port.name) net.ins ++ map (λ port. port.name) net.outs

-- none, whatever the network
abbrev pub no_ports : Opened
no_ports net = []

-- ---- what conforms

-- All files that the top needs are there and break no rule, and mean this network; and each port word names one of its ports
-- that are opened, no two the same one. Where none is opened, there is no port word.
pub record ConformsWith (opened : Opened) (library : Library) (top : Asked) (words : List PortText)
    (net : Network State) : Type 0 where
  pub means : IsLibraryNetwork library top net
  pub matched : AreMatched (opened net) words

-- .. if all of them are opened
abbrev pub Conforms : Library → (top : Asked) → List PortText → Network State → Type 0
Conforms library top words net = ConformsWith names_of_ports library top words net

-- if a library tells of each name, a job is about one network at most
abbrev pub OneConforms : Type 0
OneConforms = (opened : Opened) (library : Library) (top : Asked) (words : List PortText) (net other : Network State)
    → TellsAll library → ConformsWith opened library top words net
    → ConformsWith opened library top words other → net ≡ other
