use Rattle.std.proofs.Common.{◌++◌, map, subst}
use Rattle.channel_writer.specs.Held.{AppendsFront, WritesOn}
use Rattle.round_runner.specs.Firings.{firings_text}
use Rattle.network_runner.specs.Noting.{close_text}
use Rattle.network_runner.proofs.Lines.{both_written, broken_longer, err_so, first_text, on_err, on_ok, second_broken, text_is}
use Rattle.network_runner.proofs.noting.note_round.Goals as goal

pub returns-in_err-note-clause-front : goal.returns-in_err-note-clause-front
returns-in_err-note-clause-front g c = λ block answers same.
    let cells = map g.A.Firing.cell c.args.net.now.cells in
    let old = g.D.Drains.channels c.args.drains.now in
    let new = g.D.Drains.channels c.note.new.drains in
    err_so c.from_residual.result _
    (subst (λ text. AppendsFront 1 old new (c.args.trace.now ++ text)) (text_is cells c.args.answer block answers same)
    (broken_longer 1 old new c.args.trace.now first_text (firings_text cells ++ close_text c.args.answer) c.in_err-note.ensures.front))

pub returns-in_err-note_firings-clause-front : goal.returns-in_err-note_firings-clause-front
returns-in_err-note_firings-clause-front g c = λ block answers same.
    let cells = map g.A.Firing.cell c.args.net.now.cells in
    let old = g.D.Drains.channels c.args.drains.now in
    let now = g.D.Drains.channels c.note.new.drains in
    let new = g.D.Drains.channels c.note_firings.new.drains in
    err_so c.from_residual-in_err-note_firings.result _
    (subst (λ text. AppendsFront 1 old new (c.args.trace.now ++ text)) (text_is cells c.args.answer block answers same)
    (second_broken 1 old now new c.args.trace.now c.note.new.trace first_text c.in_ok-note.ensures.written c.in_ok-note.ensures.elsewhere (firings_text cells ++ close_text c.args.answer)
    (broken_longer 1 now new c.note.new.trace (firings_text cells) (close_text c.args.answer) c.in_err-note_firings.ensures.front)))

pub returns-clause-written : goal.returns-clause-written
returns-clause-written g c = λ block answers same.
    let cells = map g.A.Firing.cell c.args.net.now.cells in
    let old = g.D.Drains.channels c.args.drains.now in
    let now = g.D.Drains.channels c.note.new.drains in
    let mid = g.D.Drains.channels c.note_firings.new.drains in
    let new = g.D.Drains.channels c.note_close.new.drains in
    on_ok c.note_close.result _ _ (λ closed.
    subst (WritesOn 1 old new c.args.trace.now c.note_close.new.trace) (text_is cells c.args.answer block answers same)
    (both_written 1 old now new c.args.trace.now c.note.new.trace first_text c.in_ok-note.ensures.written c.in_ok-note.ensures.elsewhere (firings_text cells ++ close_text c.args.answer) c.note_close.new.trace
    (both_written 1 now mid new c.note.new.trace c.note_firings.new.trace (firings_text cells) c.in_ok-note_firings.ensures.written c.in_ok-note_firings.ensures.elsewhere (close_text c.args.answer) c.note_close.new.trace closed)))
    c.note_close.ensures.written

pub returns-clause-front : goal.returns-clause-front
returns-clause-front g c = λ block answers same.
    let cells = map g.A.Firing.cell c.args.net.now.cells in
    let old = g.D.Drains.channels c.args.drains.now in
    let now = g.D.Drains.channels c.note.new.drains in
    let mid = g.D.Drains.channels c.note_firings.new.drains in
    let new = g.D.Drains.channels c.note_close.new.drains in
    on_err c.note_close.result _ _ (λ closed.
    subst (λ text. AppendsFront 1 old new (c.args.trace.now ++ text)) (text_is cells c.args.answer block answers same)
    (second_broken 1 old now new c.args.trace.now c.note.new.trace first_text c.in_ok-note.ensures.written c.in_ok-note.ensures.elsewhere (firings_text cells ++ close_text c.args.answer)
    (second_broken 1 now mid new c.note.new.trace c.note_firings.new.trace (firings_text cells) c.in_ok-note_firings.ensures.written c.in_ok-note_firings.ensures.elsewhere (close_text c.args.answer) closed)))
    c.note_close.ensures.front
