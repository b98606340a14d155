-- Cells that were made for the links of a network can be run in it, whichever of its ports are open.
use Rattle.std.proofs.Common.{◌≡◌, ℕ, ◌≤◌, List, sym, subst, ◌∙◌}
use Rattle.lowered_actor.specs.Actor.{Actor}
use Rattle.lowered_actor.specs.Meaning.{ActorState}
use Rattle.net_model.specs.declared.wiring.Link.{Link}
use Rattle.net_model.specs.Cell.{Cell}
use Rattle.net_model.specs.Ready.{IsReady}
use Rattle.net_state.specs.Beginning.{NoneUnlinked}
use Rattle.net_cells.specs.Cells.{AreCellsOf}
use Rattle.net_cells.specs.Runnable.{CanRunWith}
use Rattle.net_cells.proofs.Readied.{is_of, is_ready, unlinked}

pub can_run : (codes : List Actor) (links : List Link) (burst grow : ℕ) (cells : List (Cell ActorState)) → AreCellsOf codes links burst grow cells → CanRunWith codes links burst grow cells
can_run codes links burst grow cells made wiring plan same can by =
    let links_are : links ≡ can.net.links = sym (can.is_of.links ∙ same) in
    let there : AreCellsOf codes can.net.links burst grow cells = subst (λ ls. AreCellsOf codes ls burst grow cells) links_are made in
    let ready : IsReady can.net grow burst cells = is_ready codes can.net burst grow cells can.coded there by.few_grown in
    record {
      net = can.net;
      is_of = is_of codes can.net burst grow cells can.coded there wiring can.is_of;
      ready = subst (λ g. IsReady can.net g plan.burst cells) (sym by.same_grow) (subst (λ b. IsReady can.net grow b cells) (sym by.same_burst) ready);
      sizes = can.sizes;
      in_sizes = can.in_sizes;
      out_sizes = can.out_sizes;
      unlinked = subst (NoneUnlinked cells) can.is_of.links (unlinked codes can.net burst grow cells can.coded there);
      few_outs = can.few_outs;
      workers = by.workers;
      bursts = subst (λ b. (1 ≤ b) × (b ≤ 65536)) (sym by.same_burst) by.bursts;
    }
