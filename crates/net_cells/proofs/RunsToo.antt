-- What a run leaves, it leaves in a network that is alike.
use Rattle.std.proofs.Common.{◌≡◌, ℕ, inl, inr, ⊎_elim, List, length, drop, refl, sym, ap, subst, ◌∙◌}
use Rattle.std.specs.Prelude.{slice_get}
use Rattle.rvc_io.specs.Channels.{Channels}
use Rattle.rvc_io.specs.Feeds.{Inputs}
use Rattle.trace_text.specs.declared.line.Line.{Line}
use Rattle.net_model.specs.Network.{Network, kind_at}
use Rattle.net_model.specs.State.{State, sent_to}
use Rattle.net_model.specs.Cell.{Cell}
use Rattle.net_model.specs.Alike.{Allowed, AreAlike, StatesAlike}
use Rattle.net_model.specs.Paced.{Moment}
use Rattle.net_model.specs.Counted.{rest_at}
use Rattle.net_model.specs.PortFile.{all_encoded}
use Rattle.net_model.specs.Trace.{KeepsFrom, PlaysFrom}
use Rattle.net_model.proofs.Rounds.{begun_play, paced_play}
use Rattle.round_runner.specs.declared.outcome.RunEnd.{RunEnd}
use Rattle.round_runner.specs.declared.outcome.RunEnd.TheVariants as end
use Rattle.round_runner.specs.Rounds.{Breaks, EachOut, OutGetsAll, OutGetsFront, out_bytes}
use Rattle.round_runner.specs.Pulling.{NeedsPull, PullIsDue, token_size}
use Rattle.round_runner.specs.Running.{Running, feed_of, pace_of}
use Rattle.network_runner.specs.FromStart.{RunsBroken, RunsFromStart, RunsShort, RunsWhole, WritesWhole}
use Rattle.net_cells.specs.RunAlike.{RunsAlike, without_cells}
use Rattle.net_cells.proofs.Lawlike.{begun_alike, counted_alike, keep_alike, paced_alike}

-- the same pull is due
pub needs_alike : {X Y : Type 0} (related : ℕ → X → Y → Type 0) (allowed : Allowed) (net : Network X) (other : Network Y) → AreAlike related allowed net other
    → (inputs : List (List ℕ)) (last : State X) (there : State Y) (feed : ℕ) (feeds : Inputs) → StatesAlike related allowed net last there → NeedsPull net inputs last feed feeds
    → NeedsPull other inputs there feed feeds
needs_alike related allowed net other alike inputs last there feed feeds ends needs = record {
  l = needs.l;
  link = needs.link;
  flow = needs.flow;
  left = needs.left;
  link_at = ap (λ ls. slice_get ls needs.l) (sym alike.links) ∙ needs.link_at;
  flow_at = ap (λ fs. slice_get fs needs.l) (sym ends.flows) ∙ needs.flow_at;
  from_outside = needs.from_outside;
  feed_is = needs.feed_is ∙ ap (λ ls. feed_of ls needs.l) alike.links;
  left_is = needs.left_is;
  due = subst (λ ports. PullIsDue (token_size ports needs.link.from) (rest_at ports inputs needs.link.from) needs.flow (length needs.left)) alike.ins needs.due;
}

module _ {X Y : Type 0} (related : ℕ → X → Y → Type 0) (allowed : Allowed) (net : Network X) (other : Network Y) (alike : AreAlike related allowed net other)
    (inputs : List (List ℕ)) (budget : ℕ) (s : State X) (that : State Y) (states : StatesAlike related allowed net s that) (run new : Running (Cell X)) (feeds : Inputs) (old now : Channels) where
  abbrev run_there : Running (Cell Y)
  run_there = without_cells run

  abbrev new_there : Running (Cell Y)
  new_there = without_cells new

  -- the same bytes go out
  same_bytes : (last : State X) (there : State Y) → StatesAlike related allowed net last there → (p : ℕ)
      → out_bytes net p s (sent_to p net.links last.flows) ≡ out_bytes other p that (sent_to p other.links there.flows)
  same_bytes last there ends p =
      ap (λ ports. all_encoded (kind_at ports p) (drop (length (sent_to p net.links s.flows)) (sent_to p net.links last.flows))) alike.outs
      ∙ (ap (λ links. all_encoded (kind_at other.outs p) (drop (length (sent_to p links s.flows)) (sent_to p links last.flows))) alike.links
      ∙ (ap (λ flows. all_encoded (kind_at other.outs p) (drop (length (sent_to p other.links flows)) (sent_to p other.links last.flows))) states.flows
      ∙ ap (λ flows. all_encoded (kind_at other.outs p) (drop (length (sent_to p other.links that.flows)) (sent_to p other.links flows))) ends.flows))

  outs_too : (P : ℕ → List ℕ → Type 0) (last : State X) (there : State Y) → StatesAlike related allowed net last there
      → EachOut net run P s (λ p. sent_to p net.links last.flows) → EachOut other run_there P that (λ p. sent_to p other.links there.flows)
  outs_too P last there ends outs p named = subst (P p) (same_bytes last there ends p) (outs p named)

  wrote_too : (last : State X) (there : State Y) (lines : List Line) → StatesAlike related allowed net last there → PlaysFrom net run.grow s lines last
      → WritesWhole net inputs s last lines run new old now → WritesWhole other inputs that there lines run_there new_there old now
  wrote_too last there lines ends plays wrote = record {
    trace = wrote.trace;
    outputs = outs_too (OutGetsAll run old now) last there ends wrote.outputs;
    counted = counted_alike related allowed net other alike inputs run.grow s last that there lines new.counts states ends plays wrote.counted;
  }

  breaks_too : (last : State X) (there : State Y) (lines : List Line) → StatesAlike related allowed net last there
      → Breaks net s last lines run old now → Breaks other that there lines run_there old now
  breaks_too last there lines ends breaks = record {
    trace = breaks.trace;
    outputs = outs_too (OutGetsFront run old now) last there ends breaks.outputs;
  }

  keeps_there : (lines : List Line) → KeepsFrom net s lines → KeepsFrom other that lines
  keeps_there lines keeps = keep_alike related allowed net other alike s that lines states keeps

  whole_too : (how : RunEnd) → RunsWhole net inputs budget s how run new old now → RunsWhole other inputs budget that how run_there new_there old now
  whole_too how whole =
      let paced = paced_alike related allowed net other alike (pace_of run budget) s whole.last that whole.lines states whole.paced in
      record {
        lines = whole.lines;
        last = paced.0;
        paced = paced.1;
        ends_by = whole.ends_by;
        permitted = record {
          plays = paced_play other (pace_of run budget) that whole.lines paced.0 paced.1;
          keeps = keeps_there whole.lines whole.permitted.keeps;
        };
        wrote = wrote_too whole.last paced.0 whole.lines paced.2 whole.permitted.plays whole.wrote;
      }

  short_too : (feed : ℕ) → RunsShort net inputs budget s feed run new feeds old now → RunsShort other inputs budget that feed run_there new_there feeds old now
  short_too feed short =
      let begun = begun_alike related allowed net other alike (pace_of run budget) s that short.lines short.reached states short.begun in
      let reached : Moment Y = record { state = begun.0; round = short.reached.round; idle = short.reached.idle; left = short.reached.left } in
      record {
        lines = short.lines;
        reached = reached;
        begun = begun.1;
        needs = needs_alike related allowed net other alike inputs short.reached.state begun.0 feed feeds begun.2 short.needs;
        permitted = record {
          plays = begun_play other (pace_of run budget) that short.lines reached begun.1;
          keeps = keeps_there short.lines short.permitted.keeps;
        };
        wrote = wrote_too short.reached.state begun.0 short.lines begun.2 short.permitted.plays short.wrote;
      }

  broken_too : RunsBroken net budget s run old now → RunsBroken other budget that run_there old now
  broken_too broken = ⊎_elim
      (λ begun.
      let too = begun_alike related allowed net other alike (pace_of run budget) s that broken.lines begun.0 states begun.1 in
      let reached : Moment Y = record { state = too.0; round = begun.0.round; idle = begun.0.idle; left = begun.0.left } in
      record {
        lines = broken.lines;
        last = too.0;
        begun_or_paced = inl (reached, too.1, refl);
        permitted = record {
          plays = begun_play other (pace_of run budget) that broken.lines reached too.1;
          keeps = keeps_there broken.lines broken.permitted.keeps;
        };
        breaks = breaks_too broken.last too.0 broken.lines (subst (λ u. StatesAlike related allowed net u too.0) begun.2 too.2) broken.breaks;
      })
      (λ paced.
      let too = paced_alike related allowed net other alike (pace_of run budget) s broken.last that broken.lines states paced in
      record {
        lines = broken.lines;
        last = too.0;
        begun_or_paced = inr too.1;
        permitted = record {
          plays = paced_play other (pace_of run budget) that broken.lines too.0 too.1;
          keeps = keeps_there broken.lines broken.permitted.keeps;
        };
        breaks = breaks_too broken.last too.0 broken.lines too.2 broken.breaks;
      })
      broken.begun_or_paced

  pub from_start_too : (how : RunEnd) → RunsFromStart net inputs budget s how run new feeds old now → RunsFromStart other inputs budget that how run_there new_there feeds old now
  from_start_too end.Quiet leaves = whole_too end.Quiet leaves
  from_start_too (end.Trapped inst action trap) leaves = whole_too (end.Trapped inst action trap) leaves
  from_start_too (end.Stalled inst action link) leaves = whole_too (end.Stalled inst action link) leaves
  from_start_too end.Budget leaves = whole_too end.Budget leaves
  from_start_too (end.ReadFault feed) leaves = short_too feed leaves
  from_start_too (end.WriteFault channel) leaves = broken_too leaves

pub runs_alike : {X Y : Type 0} (related : ℕ → X → Y → Type 0) (allowed : Allowed) → RunsAlike related allowed
runs_alike related allowed net other inputs budget s that how run new feeds old now alike states leaves =
    from_start_too related allowed net other alike inputs budget s that states run new feeds old now how leaves
