-- Networks of a set, without where they lie in memory.
-- Trusted: part of what a promise means.
use Rattle.std.specs.Prelude.{ℕ, List, map, String, string_bytes}
use Rattle.std.specs.declared.alloc.Global.{Global as Heap}
use Rattle.fnl_bind.specs.Library.{Entry}
use Rattle.fnl_read.specs.Net.{Net}
use Rattle.fnl_frames.specs.Views.{net_of}
use Rattle.fnl_bind.specs.declared.entry.NetEntry.{NetEntry}

-- a network under its class, with the number of its file
abbrev pub new_entry : (class : List ℕ) → (file : ℕ) → Net → Entry
new_entry class file net = record { class = class; file = file; net = net }

abbrev pub entry_under : (class : List ℕ) → NetEntry → Entry
entry_under class e = record { class = class; file = e.file; net = net_of e.net }

abbrev pub entry_of : String Heap × NetEntry → Entry
entry_of e = entry_under (string_bytes e.0) e.1

-- networks with their classes
abbrev pub Nets : Type 0
Nets = List (String Heap × NetEntry)

abbrev pub networks : Nets → List Entry
networks nets = map entry_of nets
