use Rattle.std.proofs.Common.{◌≡◌, ◌+◌, ◌++◌, map, take, drop, refl, subst, arith}
use Rattle.std.specs.Prelude.{slice_get, Some}
use Rattle.std.proofs.lemmas.List.{length-map}
use Rattle.channel_writer.specs.Held.{AppendsFront}
use Rattle.round_runner.specs.Firings.{journal_text, journals}
use Rattle.round_runner.proofs.Written.{IsWritten, bursts_more, journal_at, more_written, on_err, text_all, text_from, text_next, write_breaks}
use Rattle.round_runner.proofs.noting.note_firings.Goals as goal

pub returns-in_err-note_journal-clause-front : goal.returns-in_err-note_journal-clause-front
returns-in_err-note_journal-clause-front g c =
    let cells = map g.A.Firing.cell c.args.net.now.cells in
    let here : slice_get (journals cells) c.loop-i.i ≡ Some c.journal.result.now = journal_at cells c.loop-i.i c.journal.result.now (omega (arith, c.loop-i-test.true, c.requires.all, length-map c.args.net.now.cells g.A.Firing.cell)) c.journal.ensures in
    let all = text_all text_from journal_text (λ i. refl) bursts_more (journals cells) c.loop-i.i c.journal.result.now here in
    on_err _ _ (subst (λ text. AppendsFront 1 (g.D.Drains.channels c.args.drains.now) (g.D.Drains.channels c.note_journal.new.drains) (c.args.trace.now ++ text)) all
    (write_breaks 1 (text_from 0 (take c.loop-i.i (journals cells))) c.args.trace.now c.loop-i.trace (g.D.Drains.channels c.args.drains.now) (g.D.Drains.channels c.loop-i.drains)
    (g.D.Drains.channels c.note_journal.new.drains) c.loop-i.invariant (journal_text c.loop-i.i c.journal.result.now) (text_from (c.loop-i.i + 1) (drop (c.loop-i.i + 1) (journals cells))) c.in_err-note_journal.ensures.front))

pub loop-i-preserved : goal.loop-i-preserved
loop-i-preserved g c =
    let cells = map g.A.Firing.cell c.args.net.now.cells in
    let here : slice_get (journals cells) c.loop-i.i ≡ Some c.journal.result.now = journal_at cells c.loop-i.i c.journal.result.now (omega (arith, c.loop-i-test.true, c.requires.all, length-map c.args.net.now.cells g.A.Firing.cell)) c.journal.ensures in
    let next = text_next text_from journal_text (λ i. refl) bursts_more (journals cells) c.loop-i.i c.journal.result.now here in
    subst (λ text. IsWritten 1 text c.args.trace.now c.note_journal.new.trace (g.D.Drains.channels c.args.drains.now) (g.D.Drains.channels c.note_journal.new.drains)) next
    (more_written 1 (text_from 0 (take c.loop-i.i (journals cells))) c.args.trace.now c.loop-i.trace (g.D.Drains.channels c.args.drains.now) (g.D.Drains.channels c.loop-i.drains)
    (g.D.Drains.channels c.note_journal.new.drains) c.loop-i.invariant (journal_text c.loop-i.i c.journal.result.now) c.note_journal.new.trace c.in_ok-note_journal.ensures.written c.in_ok-note_journal.ensures.elsewhere)
