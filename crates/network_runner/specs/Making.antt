-- The parts of a runner, as they are made.
-- Not trusted: no promise is read with it.
use Rattle.std.specs.Prelude.{◌≡◌, ℕ, Bool, true, false, List, [], length, map, replicate, slice_get, Option, None, Some}
use Rattle.port_files.specs.Coming.{Reading}
use Rattle.net_model.specs.declared.wiring.Counts.{Counts}
use Rattle.net_model.specs.declared.wiring.End.{End}
use Rattle.net_model.specs.declared.wiring.End.TheVariants.{Leaf as AtLeaf, Net as AtNet}
use Rattle.net_model.specs.declared.wiring.Link.{Link}
use Rattle.net_model.specs.declared.wiring.Port.{Port}
use Rattle.round_runner.specs.Running.{has_feed}
use Rattle.network_runner.specs.declared.sending.Outlet.{Outlet}
use Rattle.network_runner.specs.Asking.{kinds_of}

-- an outlet for each output, by its type and by whether it has a channel
pub record AreOutletsOf (ports : List Port) (opens : List Bool) (outlets : List Outlet) :
    Type 0 where
  pub kinds : map (λ outlet. outlet.kind) outlets ≡ kinds_of ports
  pub opens_are : map (λ outlet. outlet.is_open) outlets ≡ opens

-- the tokens that are read have the type of the network input at which a link begins
abbrev pub HasKind : Option Port → Reading → Type 0
HasKind None reading = ⊥
HasKind (Some port) reading = reading.kind ≡ port.kind

abbrev pub ReadsAt : List Port → End → Reading → Type 0
ReadsAt ports (AtLeaf inst port) reading = ⊥
ReadsAt ports (AtNet port) reading = HasKind (slice_get ports port) reading

-- a reader from which nothing was read, if the link has a feed
abbrev pub IsReaderOf : List Port → List Bool → Link → Option Reading → Type 0
IsReaderOf ports opens link None = has_feed opens link.from ≡ false
IsReaderOf ports opens link (Some reading) =
    (has_feed opens link.from ≡ true) × ReadsAt ports link.from reading
    × (reading.pulled ≡ []) × (reading.ended ≡ false)

pub record AreReadersOf (ports : List Port) (opens : List Bool) (links : List Link)
    (readers : List (Option Reading)) : Type 0 where
  pub count : length readers ≡ length links
  pub each : (l : ℕ) (link : Link) (reader : Option Reading) → slice_get links l ≡ Some link
      → slice_get readers l ≡ Some reader → IsReaderOf ports opens link reader

-- so many links and outputs, and of each nothing was counted
pub record CountNothing (links outs : ℕ) (counts : Counts) : Type 0 where
  pub firings : counts.firings ≡ 0
  pub rounds : counts.rounds ≡ 0
  pub arrived : counts.arrived.items ≡ replicate links 0
  pub rests : counts.rests.items ≡ replicate links 0
  pub sent : counts.sent.items ≡ replicate outs 0
