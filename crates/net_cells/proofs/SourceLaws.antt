-- The cells of lowered actors are run as the network of the actors for which they stand.
use Rattle.std.proofs.Common.{◌≡◌, ℕ, zero, suc, ◌≤◌, List, [], ◌∷◌, length, map, sym, ap, subst, ◌∙◌, arith}
use Rattle.std.specs.Prelude.{Some, slice_get, All}
use Rattle.std.proofs.lemmas.List.{length-map}
use Rattle.std.proofs.lemmas.Option.{get_or_from_slice_get, slice_get_within}
use Rattle.rvc_base.specs.Lawful.{IsLawful}
use Rattle.trace_text.specs.declared.line.Line.{Line}
use Rattle.cal_model.specs.Actor.{Actor}
use Rattle.cal_model.specs.Laws.{BehaviourIsLawful}
use Rattle.cal_model.specs.Selection.{State}
use Rattle.cal_model.specs.Sound.{Each, IsSound}
use Rattle.lowered_actor.specs.Actor as coded
use Rattle.net_model.specs.declared.wiring.Port.{Port}
use Rattle.net_model.specs.Network.{Leaf, NetPort, Network}
use Rattle.net_model.specs.State.{Flow, start_of}
use Rattle.net_model.specs.Alike.{AreAlike}
use Rattle.net_model.specs.Paced.{Pace}
use Rattle.net_model.specs.Ready.{port_of}
use Rattle.net_state.proofs.Gaining.{some_is}
use Rattle.fnl_tree.specs.Sound.{IsNetSound}
use Rattle.fnl_tree.specs.Tree.{Net}
use Rattle.fnl_flatten.proofs.Wired.{flat_wired}
use Rattle.network_runner.specs.Asking.{HavePortSizes}
use Rattle.network_runner.specs.Sending.{max_outlets}
use Rattle.fnl_source.specs.Actors.{head_of}
use Rattle.lower_actor.specs.Leaves.{AreLeavesOf, StandForActors}
use Rattle.net_cells.specs.Runnable.{IsCodedNetwork}
use Rattle.net_cells.specs.Sources.{HaveTypes, IsActorNetwork, lowered_network, may_come_at, stands_at}
use Rattle.net_cells.specs.SourceRuns.{ActorNetworksAreLawful, BeginAlike, CellsBeginAlike, CellsCanRun, CellsRunAsSources, Compiled, IsCompiled, LoweredAreAlike, LoweredCanBeWired, LoweredLinesAlike, LoweredTextsAlike, PacesTo, SamePacedLines, SourcesAlike, cells_start, lowered_of}
use Rattle.net_cells.proofs.Lawlike.{begun_alike, bytes_alike, counted_alike, keep_alike, paced_alike, paced_back, starts_alike, texts_alike}
use Rattle.net_cells.proofs.LikeSources.{link_sizes, lowered_alike, lowered_flat, matched, same_behaviours}
use Rattle.net_cells.proofs.Readied.{at_map, at_start, is_of, is_ready}
use Rattle.net_cells.proofs.Runnably.{can_run}
use Rattle.net_cells.proofs.RunsToo.{from_start_too}

-- ---- wired

coded_network : (actors : List Actor) (codes : List coded.Actor) (net : Network State) → IsActorNetwork actors net → StandForActors actors codes → IsCodedNetwork codes (lowered_network codes net)
coded_network actors codes net is stand =
    let all = matched actors codes net.leaves stand is.leaves in
    record {
      behaviours = same_behaviours all;
      wired = flat_wired is.tree (map head_of actors) (lowered_network codes net) (lowered_flat actors codes net is.tree (map head_of actors) all is.flat);
    }

port_sizes : (ports : List Port) (own : List NetPort) → own ≡ map port_of ports → HaveTypes own → HavePortSizes ports
port_sizes ports own is types p port at = types p (port_of port) (subst (λ ps. slice_get ps p ≡ Some (port_of port)) (sym is) (at_map port_of ports p port at))

-- a sound network has few outputs
few_at : (nets : List Net) (top : Net) → All IsNetSound nets → slice_get nets 0 ≡ Some top → length top.outs ≤ max_outlets
few_at nets top all at =
    let low = slice_get_within nets 0 top at in
    let there : IsNetSound top = subst IsNetSound (get_or_from_slice_get nets 0 top top at) (all 0 top low) in
    let few = there.few_outs in
    omega (arith, few)

pub can_be_wired : LoweredCanBeWired
can_be_wired actors codes net wiring is stand wired =
    let few : length (is.flat).top.outs ≤ max_outlets = few_at (is.tree).nets (is.flat).top (is.sound_tree).nets (is.flat).is_top in
    let many : length wiring.outs.items ≡ length (is.flat).top.outs =
    sym (length-map wiring.outs.items port_of) ∙ (ap length (sym wired.outs ∙ (is.flat).outs) ∙ length-map (is.flat).top.outs Rattle.fnl_flatten.specs.Flat.port_of) in
    record {
      net = lowered_network codes net;
      is_of = record {
        links = wired.links;
        ins = wired.ins;
        outs = wired.outs;
        ins_told = wired.ins_told;
        outs_told = wired.outs_told;
      };
      coded = coded_network actors codes net is stand;
      sizes = λ l link at. link_sizes actors net is l link (subst (λ ls. slice_get ls l ≡ Some link) (sym wired.links) at);
      in_sizes = port_sizes wiring.ins.items net.ins wired.ins is.in_types;
      out_sizes = port_sizes wiring.outs.items net.outs wired.outs is.out_types;
      few_outs = subst (λ n. n ≤ max_outlets) (sym many) few;
    }

pub are_alike : LoweredAreAlike
are_alike actors codes net is stand = lowered_alike actors codes net is stand

-- ---- lawful

lawful_leaves : BehaviourIsLawful → (actors : List Actor) (leaves : List (Leaf State)) → Each IsSound actors → AreLeavesOf actors leaves
    → (i : ℕ) (leaf : Leaf State) → slice_get leaves i ≡ Some leaf → IsLawful leaf.behaviour
lawful_leaves law [] [] sound are i leaf at = cc
lawful_leaves law [] (first ∷ leaves) sound are i leaf at = absurd are
lawful_leaves law (actor ∷ actors) [] sound are i leaf at = cc
lawful_leaves law (actor ∷ actors) (first ∷ leaves) sound are zero leaf at =
    subst (λ x. IsLawful x.behaviour) (some_is first leaf at) (subst IsLawful (sym (are.0).behaviour) (law actor (are.0).priorities sound.0))
lawful_leaves law (actor ∷ actors) (first ∷ leaves) sound are (suc i) leaf at = lawful_leaves law actors leaves sound.1 are.1 i leaf at

pub are_lawful : BehaviourIsLawful → ActorNetworksAreLawful
are_lawful law actors net is = (flat_wired is.tree (map head_of actors) net is.flat, lawful_leaves law actors net.leaves is.sound is.leaves)

-- ---- begun

module _ (c : Compiled) (is : IsCompiled c) where
  there : IsCodedNetwork c.codes (lowered_of c)
  there = coded_network c.actors c.codes c.net is.actor_network is.stand

  alike : AreAlike (stands_at c.actors) (may_come_at c.actors) (lowered_of c) c.net
  alike = lowered_alike c.actors c.codes c.net is.actor_network is.stand

  begins : (inputs : List (List ℕ)) → cells_start c inputs ≡ start_of (lowered_of c) inputs
  begins inputs = at_start c.codes (lowered_of c) c.burst c.grow c.cells there is.cells_of inputs

  begins_alike : (inputs : List (List ℕ)) → SourcesAlike c (cells_start c inputs) (start_of c.net inputs)
  begins_alike inputs =
      subst (λ s. SourcesAlike c s (start_of c.net inputs)) (sym (begins inputs)) (starts_alike (stands_at c.actors) (may_come_at c.actors) (lowered_of c) c.net alike inputs)

  begin_alike : BeginAlike c
  begin_alike = record {
    is_of = is_of c.codes (lowered_of c) c.burst c.grow c.cells there is.cells_of c.wiring (record {
      links = (is.wiring_of).links;
      ins = (is.wiring_of).ins;
      outs = (is.wiring_of).outs;
      ins_told = (is.wiring_of).ins_told;
      outs_told = (is.wiring_of).outs_told;
    });
    ready = is_ready c.codes (lowered_of c) c.burst c.grow c.cells there is.cells_of is.few_grown;
    at_start = begins;
    starts_alike = begins_alike;
  }

  paced_forth : (inputs : List (List ℕ)) (pace : Pace) (lines : List Line) (flows : List Flow)
      → PacesTo (lowered_of c) pace (cells_start c inputs) lines flows → PacesTo c.net pace (start_of c.net inputs) lines flows
  paced_forth inputs pace lines flows paces =
      let too = paced_alike (stands_at c.actors) (may_come_at c.actors) (lowered_of c) c.net alike pace (cells_start c inputs) paces.last (start_of c.net inputs) lines (begins_alike inputs) paces.paced in
      record { last = too.0; paced = too.1; flows_are = sym (too.2).flows ∙ paces.flows_are }

  paced_back_there : (inputs : List (List ℕ)) (pace : Pace) (lines : List Line) (flows : List Flow)
      → PacesTo c.net pace (start_of c.net inputs) lines flows → PacesTo (lowered_of c) pace (cells_start c inputs) lines flows
  paced_back_there inputs pace lines flows paces =
      let back = paced_back (stands_at c.actors) (may_come_at c.actors) (lowered_of c) c.net alike pace (cells_start c inputs) (start_of c.net inputs) paces.last lines (begins_alike inputs) paces.paced in
      record { last = back.0; paced = back.1; flows_are = (back.2).flows ∙ paces.flows_are }

pub cells_begin_alike : CellsBeginAlike
cells_begin_alike c is = begin_alike c is

pub same_paced_lines : SamePacedLines
same_paced_lines c inputs pace lines flows is = (paced_forth c is inputs pace lines flows, paced_back_there c is inputs pace lines flows)

pub cells_run_as_sources : CellsRunAsSources
cells_run_as_sources c inputs budget how run new feeds old now is leaves =
    from_start_too (stands_at c.actors) (may_come_at c.actors) (lowered_of c) c.net (alike c is) inputs budget (cells_start c inputs) (start_of c.net inputs) (begins_alike c is inputs)
    run new feeds old now how leaves

pub lines_alike : LoweredLinesAlike
lines_alike actors = (
  (λ net other pace s that lines reached alike states begun. begun_alike (stands_at actors) (may_come_at actors) net other alike pace s that lines reached states begun),
  (λ net other pace s t that lines alike states paced. paced_alike (stands_at actors) (may_come_at actors) net other alike pace s t that lines states paced),
  (λ net other s that lines alike states keeps. keep_alike (stands_at actors) (may_come_at actors) net other alike s that lines states keeps),
  (λ net other inputs grow s last that there lines counts alike states ends plays counted.
      counted_alike (stands_at actors) (may_come_at actors) net other alike inputs grow s last that there lines counts states ends plays counted),
)

pub texts_are_alike : LoweredTextsAlike
texts_are_alike actors = (
  (λ net other grow lines alike. texts_alike (stands_at actors) (may_come_at actors) net other alike grow lines),
  (λ net other s that p alike states. bytes_alike (stands_at actors) (may_come_at actors) net other alike s that p states),
)

pub cells_can_run : CellsCanRun
cells_can_run c plan is by =
    can_run c.codes c.net.links c.burst c.grow c.cells is.cells_of c.wiring plan (sym (is.wiring_of).links) (can_be_wired c.actors c.codes c.net c.wiring is.actor_network is.stand is.wiring_of) by
