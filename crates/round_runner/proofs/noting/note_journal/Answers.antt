use Rattle.std.proofs.Common.{◌∙◌, ◌+◌, ◌++◌, ap, sym, take, drop, refl, subst}
use Rattle.std.proofs.lemmas.Option.{slice_get-get_or}
use Rattle.channel_writer.specs.Held.{AppendsFront, WritesOn}
use Rattle.trace_text.specs.Text.{line_text}
use Rattle.trace_text.specs.declared.line.Line.TheVariants.{Fire}
use Rattle.round_runner.specs.Firings.{journal_text}
use Rattle.round_runner.proofs.Written.{IsWritten, line_of, lines_more, more_written, on_err, text_all, text_next, write_breaks}
use Rattle.round_runner.proofs.noting.note_journal.Goals as goal

pub returns-in_err-write-clause-front : goal.returns-in_err-write-clause-front
returns-in_err-write-clause-front g c =
    let here = slice_get-get_or c.args.actions.now c.loop-k.k 0 c.loop-k-test.true in
    let all = text_all (λ i actions. journal_text c.args.inst.0 actions) (line_of c.args.inst.0) (λ i. refl) (lines_more c.args.inst.0) c.args.actions.now c.loop-k.k _ here in
    let is = c.as_slice.ensures.value ∙ c.turn_to.ensures.text in
    on_err _ _ (subst (λ text. AppendsFront 1 (g.D.Drains.channels c.args.drains.now) (g.D.Drains.channels c.write.new.drains) (c.args.trace.now ++ text)) all
    (write_breaks 1 (journal_text c.args.inst.0 (take c.loop-k.k c.args.actions.now)) c.args.trace.now c.loop-k.trace (g.D.Drains.channels c.args.drains.now) (g.D.Drains.channels c.loop-k.drains)
    (g.D.Drains.channels c.write.new.drains) c.loop-k.invariant.written _ (journal_text c.args.inst.0 (drop (c.loop-k.k + 1) c.args.actions.now))
    (subst (λ text. AppendsFront 1 (g.D.Drains.channels c.loop-k.drains) (g.D.Drains.channels c.write.new.drains) (c.loop-k.trace ++ text)) is c.in_err-write.ensures.front)))

pub loop-k-preserved : goal.loop-k-preserved
loop-k-preserved g c =
    let here = slice_get-get_or c.args.actions.now c.loop-k.k 0 c.loop-k-test.true in
    let next = text_next (λ i actions. journal_text c.args.inst.0 actions) (line_of c.args.inst.0) (λ i. refl) (lines_more c.args.inst.0) c.args.actions.now c.loop-k.k _ here in
    let is = c.as_slice.ensures.value ∙ c.turn_to.ensures.text in
    record {
      written = subst (λ text. IsWritten 1 text c.args.trace.now c.write.new.self (g.D.Drains.channels c.args.drains.now) (g.D.Drains.channels c.write.new.drains)) next
          (more_written 1 (journal_text c.args.inst.0 (take c.loop-k.k c.args.actions.now)) c.args.trace.now c.loop-k.trace (g.D.Drains.channels c.args.drains.now) (g.D.Drains.channels c.loop-k.drains)
          (g.D.Drains.channels c.write.new.drains) c.loop-k.invariant.written _ c.write.new.self
          (subst (λ text. WritesOn 1 (g.D.Drains.channels c.loop-k.drains) (g.D.Drains.channels c.write.new.drains) c.loop-k.trace c.write.new.self text) is c.in_ok-write.ensures.written)
          c.in_ok-write.ensures.elsewhere);
      line = c.turn_to.ensures.text ∙ ap (λ a. line_text (Fire c.args.inst.0 a)) (sym c.turn_to.ensures.action);
    }
