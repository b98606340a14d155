use Rattle.std.proofs.Common.{◌≡◌, ℕ, subst, sym}
use Rattle.std.specs.Prelude.{Result, Ok, Err, IfOk, OnErr, None, Some, slice_get}
use Rattle.rvc_io.specs.Feeds.{Inputs}
use Rattle.port_files.specs.Coming.{Reading, coming_on}
use Rattle.net_model.specs.Cell.{Cell}
use Rattle.net_state.specs.declared.filling.Filled.{Filled}
use Rattle.net_state.specs.Filling.{AreArrivals, Fills, IsFull, IsInputLink, SameRest, inflow}
use Rattle.net_state.specs.Held.{Held, seen}
use Rattle.net_state.specs.Working.{IsAtRest}
use Rattle.network_runner.specs.Filling.{FailsFor, FillsOne}
use Rattle.network_runner.proofs.One.{one_fed, one_unfed}
use Rattle.network_runner.proofs.Unread.{fails_so}
use Rattle.network_runner.proofs.feeding.fill_one.Goals as goal

pub returns-in_default-clause-fills : goal.returns-in_default-clause-fills
returns-in_default-clause-fills g c =
    let held = seen g.A.Firing.cell c.args.net.now in
    let feeds = g.F.Feeds.feeds c.args.feeds.now in
    subst (λ r. FillsOne c.args.link.0 c.args.feed held held r r feeds feeds (record { tokens = 0; rest = None })) (sym c.in_default.is)
    (one_unfed c.args.link.0 c.args.feed held feeds)

-- the same by the answer
answered : {X E : Type 0} (l feed : ℕ) (old new : Held (Cell X)) (before after : Reading) (fo fn : Inputs) (result : Result Filled E)
    → IsInputLink (slice_get old.links l)
    → Fills l (inflow before fo feed) (inflow after fn feed) (λ count. IfOk result (λ filled. filled.tokens ≡ count)) old new
    → IfOk result (λ filled. IsFull l filled.rest new (inflow after fn feed))
    → IfOk result (λ filled. AreArrivals l filled.tokens old (inflow before fo feed))
    → (IsAtRest old → IsAtRest new) → new.links ≡ old.links → new.waited ≡ old.waited
    → after.kind ≡ before.kind → SameRest before.kind (coming_on before.pulled fo feed) (coming_on after.pulled fn feed)
    → IfOk result (λ filled. FillsOne l feed old new (Some before) (Some after) fo fn filled)
answered l feed old new before after fo fn (Ok filled) is_in fills full arrive rests links waited kind_is same_rest =
    one_fed l feed old new before after fo fn filled is_in fills full arrive rests links waited kind_is same_rest
answered l feed old new before after fo fn (Err e) is_in fills full arrive rests links waited kind_is same_rest = tt

pub returns-clause-fills : goal.returns-clause-fills
returns-clause-fills g c =
    let old = seen g.A.Firing.cell c.args.net.now in
    let new = seen g.A.Firing.cell c.fill.new.self in
    let fo = g.F.Feeds.feeds c.args.feeds.now in
    let fn = g.F.Feeds.feeds c.fill.new.feeds in
    let input : IsInputLink (slice_get c.args.net.now.links c.args.link.0) = rw c.in-Some.is at c.requires.input in
    subst (λ r. IfOk c.fill.result (λ filled. FillsOne c.args.link.0 c.args.feed old new r (Some c.fill.new.tokens) fo fn filled)) (sym c.in-Some.is)
    (answered c.args.link.0 c.args.feed old new c.in-Some.tokens c.fill.new.tokens fo fn c.fill.result input
    c.fill.ensures.fills c.fill.ensures.filled c.fill.ensures.arrivals c.fill.ensures.rests c.fill.ensures.links c.fill.ensures.waited c.fill.ensures.kind c.fill.ensures.same_rest)

pub returns-clause-due : goal.returns-clause-due
returns-clause-due g c =
    let old = seen g.A.Firing.cell c.args.net.now in
    let new = seen g.A.Firing.cell c.fill.new.self in
    let fo = g.F.Feeds.feeds c.args.feeds.now in
    let fn = g.F.Feeds.feeds c.fill.new.feeds in
    subst (λ r. OnErr c.fill.result (FailsFor c.args.link.0 c.args.feed old r fo fn)) (sym c.in-Some.is)
    (fails_so c.args.link.0 c.args.feed old new c.in-Some.tokens c.fill.new.tokens fo fn c.fill.result (λ count. IfOk c.fill.result (λ filled. filled.tokens ≡ count))
    c.fill.ensures.fills c.fill.ensures.due c.fill.ensures.links c.fill.ensures.kind c.fill.ensures.same_rest)
