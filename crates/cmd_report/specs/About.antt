-- What a report speaks of, and the names for which the numbers in it stand.
-- Trusted: part of what a promise means.
use Rattle.std.specs.Prelude.{ℕ, ◌-◌, ◌==◌, List, [], ◌∷◌, codes, if◌then◌else◌, map, slice_index_or, string_bytes}
use Rattle.net_model.specs.declared.wiring.Link.{Link}
use Rattle.cmd_ports.specs.Matching.{names_of}
use Rattle.cmd_ports.specs.Opening.{Opening, feeds_of}
use Rattle.rvc_words.specs.Words.{PortText, port_text}
use Rattle.cmd_report.specs.declared.status.ReadAt.{ReadAt}
use Rattle.cmd_report.specs.declared.status.ReadAt.TheVariants.{Feed, File}
use Rattle.cmd_report.specs.declared.subject.Subject.{Subject}

-- What a report speaks of, as far as the command came: the names of the files that were read, file k at place k - 1; the
-- file of the trace; the port words; and the network's number of instances, its links, and the names of its ports.
pub record About : Type 0 where
  pub files : List (List ℕ)
  pub trace : List ℕ
  pub words : List PortText
  pub instances : ℕ
  pub links : List Link
  pub ins : List (List ℕ)
  pub outs : List (List ℕ)

abbrev pub about : Subject → About
about s = record {
  files = map string_bytes s.files.now;
  trace = s.trace.now;
  words = map port_text s.words.now;
  instances = s.instances;
  links = s.links.now;
  ins = names_of s.ins.now;
  outs = names_of s.outs.now;
}

-- the name of a file; file 0 is the command line
abbrev pub file_name : About → ℕ → List ℕ
file_name a file = if file == 0 then codes "words" else slice_index_or a.files (file - 1) []

-- the file of the one of these openings that has this number
abbrev pub file_opened : ℕ → List Opening → List ℕ
file_opened number [] = []
file_opened number (o ∷ openings) =
    if o.number == number then o.name else file_opened number openings

-- The file of a feed. Feed 0 is the trace; the others are opened for input links, and have the files of their ports.
abbrev pub feed_name : About → ℕ → List ℕ
feed_name a feed =
    if feed == 0 then a.trace else file_opened feed (feeds_of a.links a.ins a.words)

-- the name of what couldn't be read
abbrev pub unread_name : About → ReadAt → List ℕ
unread_name a (File file) = file_name a file
unread_name a (Feed feed) = feed_name a feed
