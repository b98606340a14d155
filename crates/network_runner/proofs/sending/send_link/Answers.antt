use Rattle.std.proofs.Common.{◌≡◌, ℕ, zero, suc, ◌+◌, ◌<◌, ◌≤◌, true, false, List, [], ◌∷◌, ◌++◌, length, map, refl, sym, ap, subst, ◌∙◌, arith}
use Rattle.std.specs.Prelude.{Some, slice_get, slice_index_or}
use Rattle.rvc_base.specs.declared.scalar.Scalar.TheVariants.{Bool as Truth}
use Rattle.rvc_io.specs.Channels.{Channels}
use Rattle.channel_writer.specs.Held.{AppendsFront, WritesOn}
use Rattle.net_model.specs.declared.wiring.End.TheVariants.{Net as AtNet}
use Rattle.net_model.specs.declared.wiring.Link.{Link}
use Rattle.net_state.specs.Moving.{carried, carried_on}
use Rattle.net_state.proofs.Gaining.{not_eq, some_is}
use Rattle.round_runner.specs.Sending.{stored_bytes}
use Rattle.network_runner.specs.declared.sending.Outlet.{Outlet}
use Rattle.network_runner.specs.Sending.{HasOutlet, OutletsFit, buffered}
use Rattle.network_runner.proofs.Filling.{at_place}
use Rattle.network_runner.proofs.Sent.{at_net, none_to_leaf, one_broken, one_sent, only_there}
use Rattle.network_runner.proofs.sending.send_link.Goals as goal

index_any : (xs : List (List ℕ)) (k : ℕ) (d : List ℕ) → k < length xs → slice_index_or xs k d ≡ buffered xs k
index_any [] k d low = absurd (omega (arith, low))
index_any (x ∷ xs) zero d low = refl
index_any (x ∷ xs) (suc k) d low = index_any xs k d (omega (arith, low))

has_outlet : (links : List Link) (outlets : List Outlet) (channels : Channels) (l : ℕ) (link : Link) (port : ℕ) → OutletsFit links outlets channels → slice_get links l ≡ Some link
    → link.to ≡ AtNet port → suc port ≤ length outlets
has_outlet links outlets channels l link port fit at to = (subst (HasOutlet outlets link) to (fit.led_to l link at)).0

pub returns-then-not-outlets-p-clause-sends : goal.returns-then-not-outlets-p-clause-sends
returns-then-not-outlets-p-clause-sends g c =
    let outlets = c.args.outlets.now in
    let port = c.in-Net.port in
    let d : Outlet = record { kind = Truth; is_open = false } in
    let low : suc port ≤ length outlets = has_outlet c.args.net.now.links outlets (g.D.Drains.channels c.args.drains.now) c.args.l.0 c.args.link.now port c.requires.outlets c.requires.there c.in-Net.is in
    let here : slice_get outlets port ≡ Some (slice_index_or outlets port d) = at_place outlets port d (slice_index_or outlets port d) (omega (arith, low)) refl in
    none_to_leaf outlets (map g.A.Firing.cell c.args.net.now.cells) c.args.link.now (g.D.Drains.channels c.args.drains.now) c.args.writers.now (λ p outlet there is_open.
    at_net p port c.args.link.now c.in-Net.is ∙ not_eq p port (λ same.
    let is : slice_index_or outlets port d ≡ outlet = some_is (slice_index_or outlets port d) outlet (sym here ∙ (ap (slice_get outlets) (sym same) ∙ there)) in
    let no : true ≡ false = sym is_open ∙ (ap (λ o. o.is_open) (sym is) ∙ c.if-not-outlets-p.true) in cc))

pub send_along-requires-clause-size : goal.send_along-requires-clause-size
send_along-requires-clause-size g c =
    let outlets = c.args.outlets.now in
    let port = c.in-Net.port in
    let d : Outlet = record { kind = Truth; is_open = false } in
    let low : suc port ≤ length outlets = has_outlet c.args.net.now.links outlets (g.D.Drains.channels c.args.drains.now) c.args.l.0 c.args.link.now port c.requires.outlets c.requires.there c.in-Net.is in
    c.requires.outlets.sizes port (slice_index_or outlets port d) (at_place outlets port d (slice_index_or outlets port d) (omega (arith, low)) refl)

pub send_along-requires-clause-open : goal.send_along-requires-clause-open
send_along-requires-clause-open g c =
    let outlets = c.args.outlets.now in
    let port = c.in-Net.port in
    let d : Outlet = record { kind = Truth; is_open = false } in
    let low : suc port ≤ length outlets = has_outlet c.args.net.now.links outlets (g.D.Drains.channels c.args.drains.now) c.args.l.0 c.args.link.now port c.requires.outlets c.requires.there c.in-Net.is in
    c.requires.outlets.open_channels port (slice_index_or outlets port d) (at_place outlets port d (slice_index_or outlets port d) (omega (arith, low)) refl) c.if-not-outlets-p.false

pub returns-in-Ok-clause-sends : goal.returns-in-Ok-clause-sends
returns-in-Ok-clause-sends g c =
    let outlets = c.args.outlets.now in
    let port = c.in-Net.port in
    let d : Outlet = record { kind = Truth; is_open = false } in
    let outlet : Outlet = slice_index_or outlets port d in
    let cells = map g.A.Firing.cell c.args.net.now.cells in
    let old = g.D.Drains.channels c.args.drains.now in
    let new = g.D.Drains.channels c.send_along.new.drains in
    let low : suc port ≤ length outlets = has_outlet c.args.net.now.links outlets old c.args.l.0 c.args.link.now port c.requires.outlets c.requires.there c.in-Net.is in
    let low_writer : port < length c.args.writers.now = omega (arith, low, c.requires.as_many) in
    let before : c.index-writers-p.result ≡ buffered c.args.writers.now port =
    c.index-writers-p.is ∙ index_any c.args.writers.now port c.index-writers-p.result low_writer in
    let sent : WritesOn (2 + port) old new (buffered c.args.writers.now port) c.send_along.new.writer (stored_bytes outlet.kind (carried cells c.args.link.now)) =
    subst (λ w. WritesOn (2 + port) old new w c.send_along.new.writer (stored_bytes outlet.kind (carried cells c.args.link.now))) before
    (subst (λ o. WritesOn (2 + port) old new c.index-writers-p.result c.send_along.new.writer (stored_bytes outlet.kind (carried_on cells o))) c.requires.there
    (subst (λ w. WritesOn (2 + port) old new w c.send_along.new.writer (stored_bytes outlet.kind (carried_on cells (slice_get c.args.net.now.links c.args.l.0)))) (sym c.index-writers-p.is) c.in-Ok.ensures.sent)) in
    one_sent outlets cells c.args.link.now port c.in-Net.is outlet (at_place outlets port d outlet (omega (arith, low)) refl) old new c.args.writers.now low_writer c.in-Ok.ensures.elsewhere c.send_along.new.writer sent

pub returns-in-Err-clause-fronts : goal.returns-in-Err-clause-fronts
returns-in-Err-clause-fronts g c =
    let outlets = c.args.outlets.now in
    let port = c.in-Net.port in
    let d : Outlet = record { kind = Truth; is_open = false } in
    let outlet : Outlet = slice_index_or outlets port d in
    let cells = map g.A.Firing.cell c.args.net.now.cells in
    let old = g.D.Drains.channels c.args.drains.now in
    let new = g.D.Drains.channels c.send_along.new.drains in
    let low : suc port ≤ length outlets = has_outlet c.args.net.now.links outlets old c.args.l.0 c.args.link.now port c.requires.outlets c.requires.there c.in-Net.is in
    let low_writer : port < length c.args.writers.now = omega (arith, low, c.requires.as_many) in
    let before : c.index-writers-p.result ≡ buffered c.args.writers.now port =
    c.index-writers-p.is ∙ index_any c.args.writers.now port c.index-writers-p.result low_writer in
    let front : AppendsFront (2 + port) old new (buffered c.args.writers.now port ++ stored_bytes outlet.kind (carried cells c.args.link.now)) =
    subst (λ w. AppendsFront (2 + port) old new (w ++ stored_bytes outlet.kind (carried cells c.args.link.now))) before
    (subst (λ o. AppendsFront (2 + port) old new (c.index-writers-p.result ++ stored_bytes outlet.kind (carried_on cells o))) c.requires.there
    (subst (λ w. AppendsFront (2 + port) old new (w ++ stored_bytes outlet.kind (carried_on cells (slice_get c.args.net.now.links c.args.l.0)))) (sym c.index-writers-p.is) c.in-Err.ensures.front)) in
    one_broken outlets cells c.args.link.now port c.in-Net.is outlet (at_place outlets port d outlet (omega (arith, low)) refl) old new c.args.writers.now low_writer c.in-Err.ensures.elsewhere front

pub returns-in-Ok-clause-only : goal.returns-in-Ok-clause-only
returns-in-Ok-clause-only g c =
    let outlets = c.args.outlets.now in
    let port = c.in-Net.port in
    let d : Outlet = record { kind = Truth; is_open = false } in
    let outlet : Outlet = slice_index_or outlets port d in
    let old = g.D.Drains.channels c.args.drains.now in
    let low : suc port ≤ length outlets = has_outlet c.args.net.now.links outlets old c.args.l.0 c.args.link.now port c.requires.outlets c.requires.there c.in-Net.is in
    only_there outlets (map g.A.Firing.cell c.args.net.now.cells) c.args.link.now port c.in-Net.is outlet (at_place outlets port d outlet (omega (arith, low)) refl) old (g.D.Drains.channels c.send_along.new.drains) c.args.writers.now
    (omega (arith, low, c.requires.as_many)) c.in-Ok.ensures.elsewhere c.if-not-outlets-p.false

pub returns-in-Err-clause-only : goal.returns-in-Err-clause-only
returns-in-Err-clause-only g c =
    let outlets = c.args.outlets.now in
    let port = c.in-Net.port in
    let d : Outlet = record { kind = Truth; is_open = false } in
    let outlet : Outlet = slice_index_or outlets port d in
    let old = g.D.Drains.channels c.args.drains.now in
    let low : suc port ≤ length outlets = has_outlet c.args.net.now.links outlets old c.args.l.0 c.args.link.now port c.requires.outlets c.requires.there c.in-Net.is in
    only_there outlets (map g.A.Firing.cell c.args.net.now.cells) c.args.link.now port c.in-Net.is outlet (at_place outlets port d outlet (omega (arith, low)) refl) old (g.D.Drains.channels c.send_along.new.drains) c.args.writers.now
    (omega (arith, low, c.requires.as_many)) c.in-Err.ensures.elsewhere c.if-not-outlets-p.false

pub returns-in-Err-clause-channel : goal.returns-in-Err-clause-channel
returns-in-Err-clause-channel g c =
    let outlets = c.args.outlets.now in
    let port = c.in-Net.port in
    let d : Outlet = record { kind = Truth; is_open = false } in
    let outlet : Outlet = slice_index_or outlets port d in
    let old = g.D.Drains.channels c.args.drains.now in
    let low : suc port ≤ length outlets = has_outlet c.args.net.now.links outlets old c.args.l.0 c.args.link.now port c.requires.outlets c.requires.there c.in-Net.is in
    (port, outlet, at_place outlets port d outlet (omega (arith, low)) refl, c.if-not-outlets-p.false, omega arith)
