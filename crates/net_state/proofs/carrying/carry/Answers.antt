use Rattle.std.proofs.Common.{FitsSigned, rules, map, take, sym, ap, subst, arith, ◌∙◌, ◌≡◌, ◌<◌, ◌∷◌, [], length}
use Rattle.std.specs.Prelude.{slice_get}
use Rattle.std.proofs.lemmas.Int.{to_z-of_z}
use Rattle.rvc_base.specs.Width.{num_width}
use Rattle.rvc_base.specs.Storing.{conv}
use Rattle.net_state.specs.Moving.{EachGains, only_to, sent_of}
use Rattle.net_state.proofs.Gaining.{each_gains_nothing, only_none}
use Rattle.net_state.proofs.Coming.{output_stays, sent_stays, room_left, carried_more, carried_all, length_stored}
use Rattle.net_state.proofs.carrying.carry.Goals as goal

pub loop-k-init : goal.loop-k-init
loop-k-init g c = each_gains_nothing (only_to c.args.to.0 c.args.port []) (map g.A.Firing.cell c.args.cells.now) (λ i p. only_none c.args.to.0 c.args.port i p)

pub sent_token-token-requires-clause-output : goal.sent_token-token-requires-clause-output
sent_token-token-requires-clause-output g c = output_stays _ _ _ c.loop-k.invariant c.args.from.0 c.args.out c.requires.from_output

pub sent_token-token-requires-clause-among : goal.sent_token-token-requires-clause-among
sent_token-token-requires-clause-among g c =
    let same : length (sent_of (slice_get (map g.A.Firing.cell c.loop-k.cells) c.args.from.0) c.args.out) ≡ length (sent_of (slice_get (map g.A.Firing.cell c.args.cells.now) c.args.from.0) c.args.out) =
    ap (λ ts. length ts) (sent_stays _ _ _ c.loop-k.invariant c.args.from.0 c.args.out c.requires.from_output) in
    omega (arith, same, c.sent_on-count.ensures, c.loop-k-test.true)

pub store_at-requires-clause-room : goal.store_at-requires-clause-room
store_at-requires-clause-room g c =
    let sent = sent_of (slice_get (map g.A.Firing.cell c.args.cells.now) c.args.from.0) c.args.out in
    let few : c.loop-k.k < length sent = omega (arith, c.sent_on-count.ensures, c.loop-k-test.true) in
    let count : length (map (conv c.args.kind) (take c.loop-k.k sent)) ≡ c.loop-k.k = length_stored c.args.kind c.loop-k.k sent (omega arith) in
    room_left c.args.to.0 c.args.port (length sent) (map (conv c.args.kind) (take c.loop-k.k sent)) _ _ c.loop-k.invariant c.requires.room (omega (arith, count, few))

pub loop-k-preserved : goal.loop-k-preserved
loop-k-preserved g c =
    let sent = sent_of (slice_get (map g.A.Firing.cell c.args.cells.now) c.args.from.0) c.args.out in
    let same = sent_stays _ _ _ c.loop-k.invariant c.args.from.0 c.args.out c.requires.from_output in
    let fits : FitsSigned num_width c.sent_token-token.result = search rules in
    carried_more c.args.kind c.args.to.0 c.args.port c.loop-k.k sent c.sent_token-token.result
    (map g.A.Firing.cell c.args.cells.now) (map g.A.Firing.cell c.loop-k.cells) (map g.A.Firing.cell c.store_at.new.cells) c.loop-k.invariant
    (sym (ap (λ ts. slice_get ts c.loop-k.k) same) ∙ c.sent_token-token.ensures)
    (subst (λ v. EachGains (only_to c.args.to.0 c.args.port (conv c.args.kind v ∷ [])) (map g.A.Firing.cell c.loop-k.cells) (map g.A.Firing.cell c.store_at.new.cells))
    (to_z-of_z num_width c.sent_token-token.result fits) c.store_at.ensures)

pub returns : goal.returns
returns g c = record {
  gains = carried_all c.args.kind c.args.to.0 c.args.port c.loop-k.k (sent_of (slice_get (map g.A.Firing.cell c.args.cells.now) c.args.from.0) c.args.out)
      (map g.A.Firing.cell c.args.cells.now) (map g.A.Firing.cell c.loop-k.cells) c.loop-k.invariant
      (omega (arith, c.sent_on-count.ensures, c.loop-k-test.false));
}
