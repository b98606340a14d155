-- What a run that began so leaves, by its end.
use Rattle.std.proofs.Common.{◌≡◌, ◌≢◌, ◌⊎◌, inl, inr, ℕ, ◌+◌, true, false, List, [], ◌∷◌, ◌++◌, length, map, refl, sym, ap, subst, ◌∙◌, arith, append_assoc}
use Rattle.std.specs.Prelude.{None, Some, slice_index_or, string_bytes}
use Rattle.std.proofs.lemmas.List.{length-replicate}
use Rattle.rvc_io.specs.Feeds.{Inputs}
use Rattle.rvc_io.specs.Channels.{Channels}
use Rattle.channel_writer.specs.Held.{HoldsFront}
use Rattle.rvc_words.specs.Words.{PortText, port_text}
use Rattle.rvc_words.specs.declared.job.Job.{Job}
use Rattle.trace_text.specs.declared.line.Line.{Line}
use Rattle.net_model.specs.declared.wiring.Counts.{Counts}
use Rattle.net_model.specs.declared.wiring.Port.{Port}
use Rattle.net_model.specs.Cell.{Cell}
use Rattle.net_model.specs.Counted.{IsCounted}
use Rattle.net_model.specs.Network.{NetPort, Network}
use Rattle.net_model.specs.PacingLaws.{BegunWithinBudget, CanBegin, PacedWithinBudget}
use Rattle.net_model.specs.Paced.{IsBegun, IsPaced, Moment, Pace, first_moment}
use Rattle.net_model.specs.Ready.{given_state, port_of}
use Rattle.net_model.specs.Stable.{IsPrefix}
use Rattle.net_model.specs.State.{State, sent_to}
use Rattle.net_model.specs.Trace.{bytes_out, head_text, text}
use Rattle.net_model.specs.Wired.{IsWired}
use Rattle.round_runner.specs.declared.outcome.RunEnd.{RunEnd}
use Rattle.round_runner.specs.declared.outcome.RunEnd.TheVariants as end
use Rattle.round_runner.specs.Rounds.{EachOut, OutGetsAll, OutGetsFront, TraceGetsAll, TraceGetsFront, end_line, out_bytes, text_of}
use Rattle.round_runner.specs.Running.{Running, buffer}
use Rattle.round_runner.specs.Running as running
use Rattle.network_runner.specs.FromStart.{PlaysAndKeeps, RunsBroken, RunsFromStart, RunsShort, RunsWhole}
use Rattle.network_runner.specs.Making.{CountNothing}
use Rattle.cmd_ports.specs.Matching.{names_of}
use Rattle.cmd_ports.specs.Opening.{ChannelFails, channels_of, has_files}
use Rattle.cmd_run_network.specs.Files.{IsChannelOf, output_file}
use Rattle.cmd_run_network.specs.Leaving.{AreBegunOrPaced, HasEnded, LeavesRun, Setting, WasBroken, WasCut, Wrote, WrotePrefixes, ending_of, file_out, pace_of, setting_of}
use Rattle.cmd_run_network.specs.Preparing.{BreaksHead, TakesOver, WritesHead}
use Rattle.cmd_run_network.proofs.Numbered.{channel_in, file_mark, opening, some_is, trace_in}
use Rattle.cmd_run_network.proofs.Kept.{writes_before, writes_opened, writes_then, writes_trace}
use Rattle.cmd_run_network.proofs.Left.{opened_empty, out_whole}
use Rattle.cmd_run_network.proofs.Spent.{budget_spent}

-- ---- channels behind the openings

-- an output without a file has no channel of the job
apart_from : (outs : List (List ℕ)) (words : List PortText) (p : ℕ) → output_file outs words p ≡ None → IsChannelOf outs words (2 + p) → ⊥
apart_from outs words p none (inl is) = absurd (omega (arith, is))
apart_from outs words p none (inr is) =
    let n = is.channel_is in
    let same : is.p ≡ p = omega (arith, n) in
    let clash : Some is.file ≡ None = sym is.has_file ∙ ap (output_file outs words) same ∙ none in
    cc

pub record AtHead (outs : List (List ℕ)) (words : List PortText) (head : List ℕ) (mid : Channels) : Type 0 where
  pub trace_open : mid.is_open 1 ≡ true
  pub trace_held : mid.tells ≡ true → mid.held 1 ≡ head
  pub out_open : (p : ℕ) (file : List ℕ) → output_file outs words p ≡ Some file → mid.is_open (2 + p) ≡ true
  pub out_held : (p : ℕ) (file : List ℕ) → output_file outs words p ≡ Some file → mid.tells ≡ true → mid.held (2 + p) ≡ []
  pub unnamed : (p : ℕ) → output_file outs words p ≡ None → mid.is_open (2 + p) ≡ false

module _ (trace : List ℕ) (outs : List (List ℕ)) (words : List PortText) (head : List ℕ) (old : Channels) (closed : (n : ℕ) → n ≢ 0 → old.is_open n ≡ false) where
  not_trace : (p : ℕ) → 2 + p ≢ 1
  not_trace p e = absurd (omega (arith, e))

  not_first : (p : ℕ) → 2 + p ≢ 0
  not_first p e = absurd (omega (arith, e))

  one_not_first : ◌≢◌ {A = ℕ} 1 0
  one_not_first e = absurd (omega (arith, e))

  pub at_head : (mid : Channels) → WritesHead trace outs words head old mid → AtHead outs words head mid
  at_head mid wrote =
      let between = wrote.between in
      let trace_is_open : between.is_open 1 ≡ true = wrote.are_opened.opened (opening 1 trace) (trace_in trace outs words) in
      record {
        trace_open = wrote.only.same_open 1 ∙ trace_is_open;
        trace_held = λ tells.
            let told : between.tells ≡ true = sym wrote.only.same_telling ∙ tells in
            wrote.appends told ∙ ap (λ held. held ++ head) (opened_empty (channels_of trace outs words) old between 1 wrote.are_opened (closed 1 one_not_first) trace_is_open told);
        out_open = λ p file has. wrote.only.same_open (2 + p) ∙ wrote.are_opened.opened (opening (2 + p) file) (channel_in trace outs words p file has);
        out_held = λ p file has tells.
            let told : between.tells ≡ true = sym wrote.only.same_telling ∙ tells in
            wrote.only.same_held told (2 + p) (not_trace p)
            ∙ opened_empty (channels_of trace outs words) old between (2 + p) wrote.are_opened (closed (2 + p) (not_first p)) (wrote.are_opened.opened (opening (2 + p) file) (channel_in trace outs words p file has)) told;
        unnamed = λ p none.
            let kept = writes_then outs words old between mid (writes_opened outs words trace old between wrote.are_opened) (writes_trace outs words between mid wrote.only) in
            kept.same_open (2 + p) (apart_from outs words p none) ∙ closed (2 + p) (not_first p);
      }

-- ---- prefixes

prefix_of : (held now base pending bytes : List ℕ) → held ≡ base → pending ≡ [] → HoldsFront held now (pending ++ bytes) → IsPrefix now (base ++ bytes)
prefix_of held now base pending bytes is none front = (
  front.left,
  ap (λ ps. base ++ (ps ++ bytes)) (sym none) ∙ ap (λ xs. base ++ xs) front.text_is ∙ sym (append_assoc base front.put front.left)
      ∙ ap (λ b. (b ++ front.put) ++ front.left) (sym is) ∙ ap (λ h. h ++ front.left) (sym front.new_is),
)

empty_prefix : (held bytes : List ℕ) → held ≡ [] → IsPrefix held bytes
empty_prefix held bytes none = (bytes, ap (λ h. h ++ bytes) (sym none))

-- ---- the run

map_names : (ports : List Port) → map (λ (port : NetPort). port.name) (map port_of ports) ≡ names_of ports
map_names [] = refl
map_names (port ∷ ports) = ap (λ names. string_bytes port.name ∷ names) (map_names ports)

module _ {X : Type 0} (net : Network X) (cells : List (Cell X)) (inputs : List (List ℕ)) (wired : IsWired net) (job : Job) (ports : List Port) (outs_are : net.outs ≡ map port_of ports) where
  abbrev words : List PortText
  words = map port_text job.ports.items

  abbrev outs : List (List ℕ)
  outs = names_of ports

  abbrev start : State X
  start = given_state net cells inputs

  abbrev setting : Setting X
  setting = setting_of net inputs start job

  named : (p : ℕ) → file_out setting p ≡ output_file outs words p
  named p = ap (λ names. output_file names words p) (ap (map (λ (port : NetPort). port.name)) outs_are ∙ map_names ports)

  module _ (run : Running (Cell X)) (head : List ℕ) (mid now : Channels) (at : AtHead outs words head mid) (head_is : head ≡ head_text net job.grow) (no_trace : run.trace ≡ []) (no_buffers : (p : ℕ) → buffer run p ≡ [])
      (writes_are : run.writes ≡ has_files outs words) (same_telling : now.tells ≡ mid.tells) (same_open : (channel : ℕ) → now.is_open channel ≡ mid.is_open channel) where
    mark_of : (p : ℕ) (file : List ℕ) → file_out setting p ≡ Some file → slice_index_or run.writes p false ≡ true
    mark_of p file has = ap (λ marks. slice_index_or marks p false) writes_are ∙ file_mark outs words p file (sym (named p) ∙ has)

    unnamed_now : (p : ℕ) → file_out setting p ≡ None → now.is_open (2 + p) ≡ false
    unnamed_now p none = same_open (2 + p) ∙ at.unnamed p (sym (named p) ∙ none)

    told_of : now.tells ≡ true → mid.tells ≡ true
    told_of tells = sym same_telling ∙ tells

    wrote_whole : (lines : List Line) (last : State X) → TraceGetsAll run mid now (text_of lines) → EachOut net run (OutGetsAll run mid now) start (λ p. sent_to p net.links last.flows) → Wrote setting lines last now
    wrote_whole lines last trace_gets out_gets = record {
      trace = record {
        opened = same_open 1 ∙ at.trace_open;
        held = λ tells. trace_gets (told_of tells) ∙ ap (λ held. held ++ (run.trace ++ text_of lines)) (at.trace_held (told_of tells) ∙ head_is) ∙ ap (λ pending. head_text net job.grow ++ (pending ++ text_of lines)) no_trace;
      };
      outputs = λ p file has. record {
        opened = same_open (2 + p) ∙ at.out_open p file (sym (named p) ∙ has);
        held = λ tells.
            out_gets p (mark_of p file has) (told_of tells)
            ∙ ap (λ held. held ++ (buffer run p ++ out_bytes net p start (sent_to p net.links last.flows))) (at.out_held p file (sym (named p) ∙ has) (told_of tells))
            ∙ ap (λ pending. pending ++ out_bytes net p start (sent_to p net.links last.flows)) (no_buffers p)
            ∙ out_whole net cells inputs wired p (sent_to p net.links last.flows);
      };
      unnamed = unnamed_now;
    }

    wrote_prefixes : (lines : List Line) (last : State X) → TraceGetsFront run mid now (text_of lines) → EachOut net run (OutGetsFront run mid now) start (λ p. sent_to p net.links last.flows) → WrotePrefixes setting lines last now
    wrote_prefixes lines last trace_gets out_gets = record {
      trace = λ opened tells. prefix_of (mid.held 1) (now.held 1) (head_text net job.grow) run.trace (text_of lines) (at.trace_held (told_of tells) ∙ head_is) no_trace (trace_gets (told_of tells));
      outputs = λ p file has opened tells.
          subst (λ bytes. IsPrefix (now.held (2 + p)) bytes) (out_whole net cells inputs wired p (sent_to p net.links last.flows))
          (prefix_of (mid.held (2 + p)) (now.held (2 + p)) [] (buffer run p) (out_bytes net p start (sent_to p net.links last.flows)) (at.out_held p file (sym (named p) ∙ has) (told_of tells)) (no_buffers p)
          (out_gets p (mark_of p file has) (told_of tells)));
      unnamed = unnamed_now;
    }

    -- by its end

    module _ (budget : ℕ) (new : Running (Cell X)) (pace_is : running.pace_of run budget ≡ pace_of job) (counts places : Counts) (few : CountNothing (length net.links) (length net.outs) places) (taken : TakesOver new.counts places counts)
        (begun_law : BegunWithinBudget X) (paced_law : PacedWithinBudget X) where
      counted_so : (lines : List Line) (last : State X) → IsCounted net inputs start lines last new.counts → IsCounted net inputs start lines last counts
      counted_so lines last is =
          let arrived : counts.arrived.items ≡ new.counts.arrived.items = taken.arrived (is.links ∙ sym (ap length few.arrived ∙ length-replicate (length net.links) 0)) in
          let rests : counts.rests.items ≡ new.counts.rests.items = taken.rests (is.ends ∙ sym (ap length few.rests ∙ length-replicate (length net.links) 0)) in
          let sent : counts.sent.items ≡ new.counts.sent.items = taken.sent (is.outs ∙ sym (ap length few.sent ∙ length-replicate (length net.outs) 0)) in
          record {
            firings = taken.firings ∙ is.firings;
            rounds = taken.rounds ∙ is.rounds;
            links = ap length arrived ∙ is.links;
            arrived = λ l link at. ap (λ ns. slice_index_or ns l 0) arrived ∙ is.arrived l link at;
            ends = ap length rests ∙ is.ends;
            rests = λ l link at. ap (λ ns. slice_index_or ns l 0) rests ∙ is.rests l link at;
            outs = ap length sent ∙ is.outs;
            sent = λ p low. ap (λ ns. slice_index_or ns p 0) sent ∙ is.sent p low;
          }

      grow_is : run.grow ≡ job.grow
      grow_is = ap (λ (pace : Pace). pace.grow) pace_is

      permitted_so : (lines : List Line) (last : State X) → PlaysAndKeeps net run.grow start last lines → PlaysAndKeeps net job.grow start last lines
      permitted_so lines last is = subst (λ grow. PlaysAndKeeps net grow start last lines) grow_is is

      paced_so : (lines : List Line) (last : State X) → IsPaced net (running.pace_of run budget) start lines last → IsPaced net (pace_of job) start lines last
      paced_so lines last is = subst (λ pace. IsPaced net pace start lines last) pace_is is

      begun_so : (lines : List Line) (reached : Moment X) → IsBegun net (running.pace_of run budget) start lines reached → IsBegun net (pace_of job) start lines reached
      begun_so lines reached is = subst (λ pace. IsBegun net pace start lines reached) pace_is is

      ended : (how : RunEnd) (line : Line) → end_line how ≡ Some line → RunsWhole net inputs budget start how run new mid now → HasEnded setting line counts now
      ended how line is whole =
          let same : whole.ends_by.line ≡ line = some_is whole.ends_by.line line (sym whole.ends_by.line_is ∙ is) in
          let lines_are : whole.lines ≡ whole.ends_by.before ++ line ∷ [] = whole.ends_by.lines_are ∙ ap (λ l. whole.ends_by.before ++ l ∷ []) same in
          let paced : IsPaced net (pace_of job) start (whole.ends_by.before ++ line ∷ []) whole.last =
          subst (λ ls. IsPaced net (pace_of job) start ls whole.last) lines_are (paced_so whole.lines whole.last whole.paced) in
          let counted : IsCounted net inputs start (whole.ends_by.before ++ line ∷ []) whole.last counts =
          subst (λ ls. IsCounted net inputs start ls whole.last counts) lines_are (counted_so whole.lines whole.last whole.wrote.counted) in
          record {
            before = whole.ends_by.before;
            last = whole.last;
            paced = paced;
            permitted = subst (λ ls. PlaysAndKeeps net job.grow start whole.last ls) lines_are (permitted_so whole.lines whole.last whole.permitted);
            wrote = subst (λ ls. Wrote setting ls whole.last now) lines_are (wrote_whole whole.lines whole.last whole.wrote.trace whole.wrote.outputs);
            counted = counted;
            spent = λ by_budget. counted.firings ∙ budget_spent net (pace_of job) start begun_law paced_law whole.ends_by.before line whole.last paced by_budget;
          }

      cut : (feed : ℕ) (feeds : Inputs) → RunsShort net inputs budget start feed run new feeds mid now → WasCut setting counts feed feeds now
      cut feed feeds short = record {
        lines = short.lines;
        reached = short.reached;
        begun = begun_so short.lines short.reached short.begun;
        needs = short.needs;
        permitted = permitted_so short.lines short.reached.state short.permitted;
        wrote = wrote_whole short.lines short.reached.state short.wrote.trace short.wrote.outputs;
        counted = counted_so short.lines short.reached.state short.wrote.counted;
      }

      begun_or_paced_so : (lines : List Line) (last : State X) → ((reached : Moment X) × IsBegun net (running.pace_of run budget) start lines reached × (reached.state ≡ last)) ⊎ IsPaced net (running.pace_of run budget) start lines last
          → AreBegunOrPaced setting lines last
      begun_or_paced_so lines last (inl is) = inl (is.0, begun_so lines is.0 is.1, is.2)
      begun_or_paced_so lines last (inr is) = inr (paced_so lines last is)

      broken : RunsBroken net budget start run mid now → WasBroken setting now
      broken breaks = record {
        lines = breaks.lines;
        last = breaks.last;
        begun_or_paced = begun_or_paced_so breaks.lines breaks.last breaks.begun_or_paced;
        permitted = permitted_so breaks.lines breaks.last breaks.permitted;
        wrote = wrote_prefixes breaks.lines breaks.last breaks.breaks.trace breaks.breaks.outputs;
      }

      pub leaves_so : (how : RunEnd) (feeds : Inputs) → RunsFromStart net inputs budget start how run new feeds mid now → LeavesRun setting (ending_of how) counts feeds now
      leaves_so end.Quiet feeds runs = ended end.Quiet _ refl runs
      leaves_so (end.Trapped inst action trap) feeds runs = ended (end.Trapped inst action trap) _ refl runs
      leaves_so (end.Stalled inst action link) feeds runs = ended (end.Stalled inst action link) _ refl runs
      leaves_so end.Budget feeds runs = ended end.Budget _ refl runs
      leaves_so (end.ReadFault feed) feeds runs = cut feed feeds runs
      leaves_so (end.WriteFault channel) feeds runs = broken runs

  -- ---- a channel kept the rounds from going

  module _ (old : Channels) (closed : (n : ℕ) → n ≢ 0 → old.is_open n ≡ false) (trace : List ℕ) (may_begin : CanBegin net start) where
    none_begun : (now : Channels) → WrotePrefixes setting [] start now → WasBroken setting now
    none_begun now wrote = record {
      lines = [];
      last = start;
      begun_or_paced = inl (first_moment (pace_of job) start, record { blocks = []; rounds = refl; lines_are = refl }, refl);
      permitted = record { plays = refl; keeps = may_begin.fits };
      wrote = wrote;
    }

    unopened : (channel : ℕ) (now : Channels) → ChannelFails (channels_of trace outs words) channel old now → WasBroken setting now
    unopened channel now fails = none_begun now (record {
      trace = λ opened tells. empty_prefix (now.held 1) (text net job.grow []) (opened_empty fails.before old now 1 fails.are_opened (closed 1 (one_not_first trace outs words [] old closed)) opened tells);
      outputs = λ p file has opened tells. empty_prefix (now.held (2 + p)) (bytes_out net start p) (opened_empty fails.before old now (2 + p) fails.are_opened (closed (2 + p) (not_first trace outs words [] old closed p)) opened tells);
      unnamed = λ p none. (writes_before outs words trace channel old now fails).same_open (2 + p) (apart_from outs words p (sym (named p) ∙ none)) ∙ closed (2 + p) (not_first trace outs words [] old closed p);
    })

    head_broken : (head : List ℕ) (channel : ℕ) (now : Channels) → head ≡ head_text net job.grow → BreaksHead trace outs words head old now channel → WasBroken setting now
    head_broken head channel now head_is breaks =
        let between = breaks.between in
        none_begun now (record {
          trace = λ opened tells.
              let told : between.tells ≡ true = sym breaks.only.same_telling ∙ tells in
              let none : between.held 1 ≡ [] = opened_empty (channels_of trace outs words) old between 1 breaks.are_opened (closed 1 (one_not_first trace outs words [] old closed)) (sym (breaks.only.same_open 1) ∙ opened) told in
              let front = prefix_of (between.held 1) (now.held 1) [] [] head none refl (breaks.front told) in
              (front.0 ++ [], ap (λ h. h ++ []) (sym head_is ∙ front.1) ∙ append_assoc (now.held 1) front.0 []);
          outputs = λ p file has opened tells.
              let told : between.tells ≡ true = sym breaks.only.same_telling ∙ tells in
              empty_prefix (now.held (2 + p)) (bytes_out net start p)
              (breaks.only.same_held told (2 + p) (not_trace trace outs words [] old closed p)
              ∙ opened_empty (channels_of trace outs words) old between (2 + p) breaks.are_opened (closed (2 + p) (not_first trace outs words [] old closed p)) (sym (breaks.only.same_open (2 + p)) ∙ opened) told);
          unnamed = λ p none.
              let kept = writes_then outs words old between now (writes_opened outs words trace old between breaks.are_opened) (writes_trace outs words between now breaks.only) in
              kept.same_open (2 + p) (apart_from outs words p (sym (named p) ∙ none)) ∙ closed (2 + p) (not_first trace outs words [] old closed p);
        })

    pub broken_before : (head : List ℕ) (channel : ℕ) (now : Channels) → head ≡ head_text net job.grow
        → ChannelFails (channels_of trace outs words) channel old now ⊎ BreaksHead trace outs words head old now channel → WasBroken setting now
    broken_before head channel now head_is (inl fails) = unopened channel now fails
    broken_before head channel now head_is (inr breaks) = head_broken head channel now head_is breaks
