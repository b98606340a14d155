-- What is told of a whole trace.
use Rattle.std.proofs.Common.{◌≡◌, ℕ, ◌+◌, List, length, sym, ap, subst, ◌∙◌, arith}
use Rattle.std.proofs.lemmas.List.{length-map}
use Rattle.std.specs.Prelude.{Result, Ok, Err, IfOk, drop, flat_map, ◌++◌}
use Rattle.std.specs.List.{concat}
use Rattle.rvc_io.specs.Feeds.{Inputs, PullsOnlyAt}
use Rattle.trace_text.specs.declared.line.Line.{Line}
use Rattle.net_model.specs.declared.wiring.Counts.{Counts}
use Rattle.net_model.specs.Laws.{AreLawful}
use Rattle.net_model.specs.Wired.{IsWired}
use Rattle.trace_replay.specs.Between.{Between}
use Rattle.trace_text.specs.Table.{TextTellsLines}
use Rattle.trace_text.specs.Text.{line_text}
use Rattle.std.proofs.Math.Seq.{drop-append_seam}
use Rattle.net_model.specs.Counted.{IsCounted}
use Rattle.net_model.specs.Trace.{head_text}
use Rattle.trace_replay.specs.Events.{BeginsAt, BeginsFirst, IsEnded}
use Rattle.trace_replay.specs.Reading.{IsJudged}
use Rattle.trace_replay.specs.Head.{PassesHead, name_of}
use Rattle.trace_replay.specs.Judging.{IsTrace, Trial}
use Rattle.trace_replay.specs.Laws.{LinesMakeTraces, NoTraceIsNotRun, StartFits}
use Rattle.trace_replay.specs.Replaying.{IsRefused, IsReplayed}
use Rattle.trace_replay.specs.declared.bytes.TheConstants.{TRACE_FEED}
use Rattle.trace_replay.specs.declared.reading.Trace.{Trace}
use Rattle.trace_replay.specs.declared.why.ReplayFault.{ReplayFault}
use Rattle.trace_replay.specs.declared.why.ReplayFault.TheVariants.{NotRun, ReadFault, Memory}
use Rattle.trace_replay.proofs.Led.{at_pulled}

-- the head was read
pub begins_at : {X : Type 0} (t : Trial X) (text : List ℕ) (inputs : List (List ℕ)) (old new : Trace) (now : Between X) (feeds : Inputs) (grow : ℕ) (first : Line) (names : List (List ℕ)) (count : ℕ)
    → count ≡ length names → new.count ≡ old.count + 1 + count → PullsOnlyAt TRACE_FEED now.feeds feeds
    → PassesHead X first names old now.feeds new feeds → BeginsFirst t text inputs old now grow first names
    → BeginsAt t text inputs new (record { held = now.held; taken = now.taken; readings = now.readings; numbers = now.numbers; feeds = feeds }) grow
begins_at t text inputs old new now feeds grow first names count same more pulls passes begins = record {
  grow_is = begins.grow_is;
  wired = begins.wired;
  lawful = begins.lawful;
  fits = begins.fits;
  at = at_pulled t.net inputs now feeds t.start t.start pulls begins.at;
  counted = begins.counted;
  number =
      let leaves : length t.net.leaves ≡ length names = sym (length-map t.net.leaves name_of) ∙ ap length begins.head.names_are in
      omega (arith, more, begins.number, same, leaves);
  reached = passes t text begins.head begins.reached;
}

pub okay_after : {T : Type 0} (result : Result T ReplayFault) (P Q : T → Type 0) → ((x : T) → P x → Q x) → IfOk result P → IfOk result Q
okay_after (Ok x) P Q f h = f x h
okay_after (Err fault) P Q f h = tt

-- a trace that was read whole is replayed
pub replayed_is : {X : Type 0} (t : Trial X) (text : List ℕ) (inputs : List (List ℕ)) (end : Line) (counts : Counts) → LinesMakeTraces X → TextTellsLines → StartFits t → IsEnded t text inputs end counts
    → IsReplayed t text inputs (record { end = end; counts = counts })
replayed_is t text inputs end counts law tells fits ended =
    let made : (lines : List Line) × IsTrace t (concat ended.whole.texts) lines end ended.last = law t ended.whole.texts end ended.last fits ended.whole.lead in
    let both : head_text t.net t.grow ++ flat_map line_text ended.lines ≡ head_text t.net t.grow ++ flat_map line_text made.0 =
    sym ended.text_of.text_is ∙ ended.whole.is_text ∙ made.1.is_text in
    let behind : flat_map line_text ended.lines ≡ flat_map line_text made.0 =
    sym (drop-append_seam (head_text t.net t.grow) (flat_map line_text ended.lines)) ∙ ap (drop (length (head_text t.net t.grow))) both
    ∙ drop-append_seam (head_text t.net t.grow) (flat_map line_text made.0) in
    let same : ended.lines ≡ made.0 = tells ended.lines made.0 ended.text_of.written made.1.of_table.events behind in
    record {
      lines = made.0;
      last = ended.last;
      is_trace = subst (λ all. IsTrace t all made.0 end ended.last) (sym ended.whole.is_text) made.1;
      within = ended.whole.within;
      counted = subst (λ ls. IsCounted t.net inputs t.start ls ended.last counts) same ended.counted;
    }

-- what is judged so is no trace
pub refused_is : {X : Type 0} (t : Trial X) (text : List ℕ) (fault : ReplayFault) → NoTraceIsNotRun X → IsWired t.net → AreLawful t.net → IsJudged t text fault → IsRefused t text fault
refused_is t text (NotRun line why) law wired lawful not_run = (not_run, λ lines end last within trace. law t text lines end last line why wired lawful within trace not_run)
refused_is t text (ReadFault feed) law wired lawful judged = tt
refused_is t text Memory law wired lawful judged = tt
