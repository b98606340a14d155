-- The cells of an image are those of its source network, and can be run.
use Rattle.std.proofs.Common.{◌≡◌, ℕ, List, [], ◌∷◌, length, map, refl, sym, ap, subst, ◌∙◌, arith}
use Rattle.std.specs.Prelude.{string_bytes}
use Rattle.std.specs.Arc.{arc_value}
use Rattle.std.proofs.lemmas.List.{length-map}
use Rattle.rvc_words.specs.Words.{IsWithin, job_text}
use Rattle.rvc_words.specs.declared.job.Job.{Job}
use Rattle.cal_model.specs.Actor.{Actor}
use Rattle.cal_model.specs.Selection.{State as ActorState}
use Rattle.lowered_actor.specs.Actor as coded
use Rattle.lowered_actor.specs.Meaning as lowered
use Rattle.net_model.specs.declared.wiring.Port.{Port}
use Rattle.net_model.specs.declared.wiring.Wiring.{Wiring}
use Rattle.net_model.specs.Cell.{Cell}
use Rattle.net_model.specs.Network.{Leaf, Network}
use Rattle.net_model.specs.Ready.{given_state, port_of}
use Rattle.net_model.specs.State.{start_of}
use Rattle.net_model.specs.Alike.{StatesAlike}
use Rattle.fnl_source.specs.Actors.{head_of}
use Rattle.fnl_flatten.proofs.Wired.{flat_wired}
use Rattle.lower_actor.specs.Leaves.{AreLeavesOf, StandForActors}
use Rattle.net_cells.specs.Cells.{AreCellsOf}
use Rattle.net_cells.specs.Runnable.{CanRunWith, IsCodedNetwork, IsPlanFor, IsWiringOf}
use Rattle.net_cells.specs.SourceRuns.{LoweredCanBeWired}
use Rattle.net_cells.specs.Sources.{IsActorNetwork, lowered_leaves, lowered_network, may_come_at, stands_at}
use Rattle.net_cells.proofs.Lawlike.{starts_alike}
use Rattle.net_cells.proofs.LikeSources.{lowered_alike, lowered_flat, matched, same_behaviours}
use Rattle.net_cells.proofs.Readied.{at_start, both_maps}
use Rattle.rvc_engine.specs.Built.{HasImage}
use Rattle.rvc_engine.specs.declared.image.Image.{Image}
use Rattle.cmd_run_network.specs.Network as asks
use Rattle.cmd_run_network.specs.Network.{CanRunAll, plan_of}

-- ---- counts

many_codes : (actors : List Actor) (codes : List coded.Actor) → StandForActors actors codes → length codes ≡ length actors
many_codes [] [] stand = refl
many_codes [] (code ∷ codes) stand = absurd stand
many_codes (actor ∷ actors) [] stand = absurd stand
many_codes (actor ∷ actors) (code ∷ codes) stand = (let e = many_codes actors codes stand.1 in omega (arith, e))

many_actors : (actors : List Actor) (leaves : List (Leaf ActorState)) → AreLeavesOf actors leaves → length leaves ≡ length actors
many_actors [] [] are = refl
many_actors [] (x ∷ xs) are = absurd are
many_actors (a ∷ actors) [] are = absurd are
many_actors (a ∷ actors) (x ∷ xs) are = (let e = many_actors actors xs are.1 in omega (arith, e))

lowered_paths : (codes : List coded.Actor) (leaves : List (Leaf ActorState)) → length codes ≡ length leaves → map (λ leaf. leaf.path) (lowered_leaves codes leaves) ≡ map (λ leaf. leaf.path) leaves
lowered_paths [] [] same = refl
lowered_paths [] (leaf ∷ leaves) same = absurd (omega (arith, same))
lowered_paths (code ∷ codes) [] same = absurd (omega (arith, same))
lowered_paths (code ∷ codes) (leaf ∷ leaves) same = ap (λ ps. leaf.path ∷ ps) (lowered_paths codes leaves (omega (arith, same)))

lowered_classes : (codes : List coded.Actor) (leaves : List (Leaf ActorState)) → length codes ≡ length leaves → map (λ leaf. leaf.class) (lowered_leaves codes leaves) ≡ map (λ leaf. leaf.class) leaves
lowered_classes [] [] same = refl
lowered_classes [] (leaf ∷ leaves) same = absurd (omega (arith, same))
lowered_classes (code ∷ codes) [] same = absurd (omega (arith, same))
lowered_classes (code ∷ codes) (leaf ∷ leaves) same = ap (λ ps. leaf.class ∷ ps) (lowered_classes codes leaves (omega (arith, same)))

module _ (image : Image) (actors : List Actor) (net : Network ActorState) (has : HasImage image actors net) (is : IsActorNetwork actors net) where
  codes : List coded.Actor
  codes = map arc_value image.codes.items

  pub stand : StandForActors actors (map arc_value image.codes.items)
  stand = has.codes

  pub many_leaves : length (map arc_value image.codes.items) ≡ length net.leaves
  many_leaves = many_codes actors (map arc_value image.codes.items) has.codes ∙ sym (many_actors actors net.leaves is.leaves)

  coded_network : IsCodedNetwork (map arc_value image.codes.items) (lowered_network (map arc_value image.codes.items) net)
  coded_network =
      let all = matched actors (map arc_value image.codes.items) net.leaves stand is.leaves in
      record {
        behaviours = same_behaviours all;
        wired = flat_wired is.tree (map head_of actors) (lowered_network (map arc_value image.codes.items) net) (lowered_flat actors (map arc_value image.codes.items) net is.tree (map head_of actors) all is.flat);
      }

  -- a wiring of the flat network is one of the network
  wired_too : (wiring : Wiring) → asks.IsWiringOf image.flat wiring → IsWiringOf net wiring
  wired_too wiring by = record {
    links = (has.is_net).wiring.links ∙ sym by.links;
    ins = (has.is_net).wiring.ins ∙ sym by.ins;
    outs = (has.is_net).wiring.outs ∙ sym by.outs;
    ins_told = by.ins_told ∙ same_many image.flat.ins.items wiring.ins.items by.ins;
    outs_told = by.outs_told ∙ same_many image.flat.outs.items wiring.outs.items by.outs;
  }
    where
      same_many : (one other : List Port) → map port_of other ≡ map port_of one → length one ≡ length other
      same_many one other same = sym (length-map one port_of) ∙ (ap length (sym same) ∙ length-map other port_of)

  module _ (job : Job) (within : IsWithin (job_text job)) (cells : List (Cell lowered.ActorState))
      (are : AreCellsOf (map arc_value image.codes.items) image.flat.links.items job.burst job.grow cells) where
    plan_for : IsPlanFor job.burst job.grow (plan_of job)
    plan_for = record {
      same_burst = refl;
      same_grow = refl;
      few_grown = within.grow_most;
      bursts = (within.burst_least, within.burst_most);
      workers = (within.workers_least, within.workers_most);
    }

    many_cells : length cells ≡ length net.leaves
    many_cells = are.one_each ∙ many_leaves

    many_paths : length image.flat.paths.items ≡ length net.leaves
    many_paths = sym (length-map image.flat.paths.items string_bytes) ∙ (ap length (sym (has.is_net).paths_are) ∙ length-map net.leaves (λ leaf. leaf.path))

    many_classes : length image.flat.classes.items ≡ length net.leaves
    many_classes = sym (length-map image.flat.classes.items string_bytes) ∙ (ap length (sym (has.is_net).classes_are) ∙ length-map net.leaves (λ leaf. leaf.class))

    pub can_run_all : LoweredCanBeWired → CanRunWith (map arc_value image.codes.items) image.flat.links.items job.burst job.grow cells → CanRunAll cells image.flat (plan_of job)
    can_run_all law can = record {
      can_run = λ wiring by. can wiring (plan_of job) by.links (law actors (map arc_value image.codes.items) net wiring is stand (wired_too wiring by)) plan_for;
      paths = many_paths ∙ sym many_cells;
      classes = many_classes ∙ sym many_cells;
    }

    cells_of : AreCellsOf (map arc_value image.codes.items) net.links job.burst job.grow cells
    cells_of = subst (λ links. AreCellsOf (map arc_value image.codes.items) links job.burst job.grow cells) (sym (has.is_net).wiring.links) are

    pub starts : (inputs : List (List ℕ)) → StatesAlike (stands_at actors) (may_come_at actors) (lowered_network (map arc_value image.codes.items) net)
        (given_state (lowered_network (map arc_value image.codes.items) net) cells inputs) (start_of net inputs)
    starts inputs =
        subst (λ s. StatesAlike (stands_at actors) (may_come_at actors) (lowered_network (map arc_value image.codes.items) net) s (start_of net inputs))
        (sym (at_start (map arc_value image.codes.items) (lowered_network (map arc_value image.codes.items) net) job.burst job.grow cells coded_network cells_of inputs))
        (starts_alike (stands_at actors) (may_come_at actors) (lowered_network (map arc_value image.codes.items) net) net (lowered_alike actors (map arc_value image.codes.items) net is stand) inputs)

    pub is_network : asks.IsNetworkOf (lowered_network (map arc_value image.codes.items) net) cells image.flat
    is_network = record {
      actors = coded_network.behaviours ∙ sym (both_maps (λ cell. cell.actor) lowered.behaviour cells (map arc_value image.codes.items) are.one_each (λ k cell code at there. (are.starts k code cell there at).is_of));
      paths = lowered_paths (map arc_value image.codes.items) net.leaves many_leaves ∙ (has.is_net).paths_are;
      classes = lowered_classes (map arc_value image.codes.items) net.leaves many_leaves ∙ (has.is_net).classes_are;
      links = (has.is_net).wiring.links;
      ins = (has.is_net).wiring.ins;
      outs = (has.is_net).wiring.outs;
    }
