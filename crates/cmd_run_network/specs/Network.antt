-- The network that a job runs: that of cells, joined as a flat network says.
-- Trusted: part of what a promise means.
use Rattle.std.specs.Prelude.{◌≡◌, ℕ, ◌+◌, List, [], ◌∷◌, ◌++◌, length, map, codes, string_bytes}
use Rattle.fnl_flatten.specs.declared.flat.Flat.{Flat}
use Rattle.trace_text.specs.declared.line.Line.TheVariants.{Header, Inst}
use Rattle.trace_text.specs.Text.{line_feed, line_text}
use Rattle.net_model.specs.declared.wiring.Wiring.{Wiring}
use Rattle.net_model.specs.Cell.{Cell}
use Rattle.net_model.specs.Network.{Network}
use Rattle.net_model.specs.Ready.{port_of}
use Rattle.network_runner.specs.Asking.{CanRun}
use Rattle.round_runner.specs.declared.outcome.Plan.{Plan}
use Rattle.rvc_words.specs.declared.job.Job.{Job}
use Rattle.rvc_words.specs.Words.{PortText, port_text}
use Rattle.cmd_ports.specs.Matching.{names_of}
use Rattle.cmd_ports.specs.Opening.{has_files}

-- the network whose leaves are these cells' actors, with the paths, classes, links and ports of a flat network
pub record IsNetworkOf {X : Type 0} (net : Network X) (cells : List (Cell X)) (flat : Flat) :
    Type 0 where
  pub actors : map (λ leaf. leaf.behaviour) net.leaves ≡ map (λ cell. cell.actor) cells
  pub paths : map (λ leaf. leaf.path) net.leaves ≡ map string_bytes flat.paths.items
  pub classes : map (λ leaf. leaf.class) net.leaves ≡ map string_bytes flat.classes.items
  pub links : net.links ≡ flat.links.items
  pub ins : net.ins ≡ map port_of flat.ins.items
  pub outs : net.outs ≡ map port_of flat.outs.items

-- the names of its inputs, and those of its outputs
abbrev pub in_names : Flat → List (List ℕ)
in_names flat = names_of flat.ins.items

abbrev pub out_names : Flat → List (List ℕ)
out_names flat = names_of flat.outs.items

-- What stands in a trace before its first event, by the paths and classes of the instances: what `head_text` says of any
-- network that has them.

abbrev pub instance_named : ℕ → List ℕ → List ℕ → List ℕ
instance_named k path class = line_text (Inst k) ++ path ++ codes " " ++ class ++ line_feed

abbrev pub instances_named : ℕ → List (List ℕ) → List (List ℕ) → List ℕ
instances_named k [] classes = []
instances_named k (path ∷ paths) [] = []
instances_named k (path ∷ paths) (class ∷ classes) =
    instance_named k path class ++ instances_named (k + 1) paths classes

abbrev pub head_named : (instances links grow : ℕ) → List (List ℕ) → List (List ℕ) → List ℕ
head_named instances links grow paths classes =
    line_text (Header instances links grow) ++ instances_named 0 paths classes

-- .. of a flat network that has so many instances, if its links may grow so far
abbrev pub head_of : Flat → (instances grow : ℕ) → List ℕ
head_of flat instances grow = head_named instances (length flat.links.items) grow
    (map string_bytes flat.paths.items) (map string_bytes flat.classes.items)

-- the port words of a job
abbrev pub words_of : Job → List PortText
words_of job = map port_text job.ports.items

-- the links and ports of a flat network, and a mark for each port, whatever the marks are
pub record IsWiringOf (flat : Flat) (wiring : Wiring) : Type 0 where
  pub links : wiring.links.items ≡ flat.links.items
  pub ins : map port_of wiring.ins.items ≡ map port_of flat.ins.items
  pub outs : map port_of wiring.outs.items ≡ map port_of flat.outs.items
  pub ins_told : length wiring.open_ins.items ≡ length flat.ins.items
  pub outs_told : length wiring.open_outs.items ≡ length flat.outs.items

-- .. marked are those that have a file
pub record IsWiringBy (flat : Flat) (words : List PortText) (wiring : Wiring) : Type 0 where
  pub is_of : IsWiringOf flat wiring
  pub reads : wiring.open_ins.items ≡ has_files (in_names flat) words
  pub writes : wiring.open_outs.items ≡ has_files (out_names flat) words

-- by what the rounds of a job are made
abbrev pub plan_of : Job → Plan
plan_of job = record { workers = job.workers; burst = job.burst; grow = job.grow }

-- A network of these cells can be run by this plan, whichever of its ports have files. Each cell has a path and a class.
pub record CanRunAll {X : Type 0} (cells : List (Cell X)) (flat : Flat) (plan : Plan) :
    Type 0 where
  pub can_run : (wiring : Wiring) → IsWiringOf flat wiring → CanRun cells wiring plan
  pub paths : length flat.paths.items ≡ length cells
  pub classes : length flat.classes.items ≡ length cells

-- Whether cells can be run doesn't depend on which ports are open.
abbrev pub AnyMayBeOpen : (X : Type 0) → Type 0
AnyMayBeOpen X = (cells : List (Cell X)) (flat : Flat) (wiring other : Wiring) (plan : Plan)
    → IsWiringOf flat wiring → IsWiringOf flat other
    → CanRun cells wiring plan → CanRun cells other plan
