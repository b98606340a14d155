use Rattle.std.proofs.Common.{map, subst, ◌∙◌}
use Rattle.std.specs.Prelude.{Result, Ok, Err, OnOk}
use Rattle.net_state.specs.Held.{seen}
use Rattle.net_state.proofs.Kept.{same_then}
use Rattle.network_runner.proofs.Filling.{marks_then}
use Rattle.trace_replay.specs.Holding.{CountsPut, stacked}
use Rattle.trace_replay.proofs.Behind.{delivers_held, delivers_none, taken_empty}
use Rattle.trace_replay.proofs.holding.deliver_held.Goals as goal

on_ok_then : {T E : Type 0} (r : Result T E) (P Q : Type 0) → (P → Q) → OnOk r P → OnOk r Q
on_ok_then (Ok x) P Q f h = f h
on_ok_then (Err e) P Q f h = tt

pub returns-then-not-taken-clause-delivers : goal.returns-then-not-taken-clause-delivers
returns-then-not-taken-clause-delivers g c =
    on_ok_then c.deliver_all.result _ _
    (delivers_none (seen g.A.Firing.cell c.args.state.now) (seen g.A.Firing.cell c.deliver_all.new.net) (stacked c.args.taken.now) c.args.readers.now c.deliver_all.new.readers
    (g.F.Feeds.feeds c.args.feeds.now) (g.F.Feeds.feeds c.deliver_all.new.feeds) c.deliver_all.new.came (c.requires.taken.none c.if-not-taken.true))
    c.deliver_all.ensures.delivers

pub returns-then-not-taken-clause-still_taken : goal.returns-then-not-taken-clause-still_taken
returns-then-not-taken-clause-still_taken g c =
    taken_empty (seen g.A.Firing.cell c.args.state.now) (seen g.A.Firing.cell c.deliver_all.new.net) c.args.taken.now c.deliver_all.ensures.links c.deliver_all.ensures.capacities
    (c.requires.taken.none c.if-not-taken.true) c.requires.taken

pub returns-in-Err-clause-still_taken : goal.returns-in-Err-clause-still_taken
returns-in-Err-clause-still_taken g c =
    taken_empty (seen g.A.Firing.cell c.put_back.new.state) (seen g.A.Firing.cell c.deliver_all-2.new.net) c.put_back.new.taken c.deliver_all-2.ensures.links c.deliver_all-2.ensures.capacities
    c.put_back.ensures.emptied c.put_back.ensures.still_fit

pub returns-in-Err-clause-same_actors : goal.returns-in-Err-clause-same_actors
returns-in-Err-clause-same_actors g c =
    same_then (map g.A.Firing.cell c.args.state.now.cells) (map g.A.Firing.cell c.put_back.new.state.cells) (map g.A.Firing.cell c.deliver_all-2.new.net.cells)
    c.put_back.ensures.puts.keeps.actors c.deliver_all-2.ensures.same_actors

pub returns-in-Err-clause-same_marks : goal.returns-in-Err-clause-same_marks
returns-in-Err-clause-same_marks g c =
    marks_then (map g.A.Firing.cell c.args.state.now.cells) (map g.A.Firing.cell c.put_back.new.state.cells) (map g.A.Firing.cell c.deliver_all-2.new.net.cells)
    c.put_back.ensures.puts.keeps.actors.count c.put_back.ensures.puts.keeps.marks c.deliver_all-2.ensures.same_marks

pub returns-clause-delivers : goal.returns-clause-delivers
returns-clause-delivers g c =
    delivers_held (seen g.A.Firing.cell c.args.state.now) (seen g.A.Firing.cell c.put_back.new.state) (seen g.A.Firing.cell c.deliver_all-2.new.net) c.args.taken.now.stacks.items c.args.readers.now c.deliver_all-2.new.readers
    (g.F.Feeds.feeds c.args.feeds.now) (g.F.Feeds.feeds c.deliver_all-2.new.feeds) c.deliver_all-2.new.came c.count_put.new.came c.requires.taken.stacks c.requires.few_held c.put_back.ensures.puts c.in-Ok.ensures.delivers
    (subst (λ ns. CountsPut ns c.deliver_all-2.new.came c.count_put.new.came) (c.deref.ensures.value ∙ c.put_back.ensures.put) c.count_put.ensures)

pub returns-clause-still_taken : goal.returns-clause-still_taken
returns-clause-still_taken g c =
    taken_empty (seen g.A.Firing.cell c.put_back.new.state) (seen g.A.Firing.cell c.deliver_all-2.new.net) c.put_back.new.taken c.deliver_all-2.ensures.links c.deliver_all-2.ensures.capacities
    c.put_back.ensures.emptied c.put_back.ensures.still_fit

pub returns-clause-same_actors : goal.returns-clause-same_actors
returns-clause-same_actors g c =
    same_then (map g.A.Firing.cell c.args.state.now.cells) (map g.A.Firing.cell c.put_back.new.state.cells) (map g.A.Firing.cell c.deliver_all-2.new.net.cells)
    c.put_back.ensures.puts.keeps.actors c.deliver_all-2.ensures.same_actors

pub returns-clause-same_marks : goal.returns-clause-same_marks
returns-clause-same_marks g c =
    marks_then (map g.A.Firing.cell c.args.state.now.cells) (map g.A.Firing.cell c.put_back.new.state.cells) (map g.A.Firing.cell c.deliver_all-2.new.net.cells)
    c.put_back.ensures.puts.keeps.actors.count c.put_back.ensures.puts.keeps.marks c.deliver_all-2.ensures.same_marks
