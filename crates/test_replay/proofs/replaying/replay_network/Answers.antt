use Rattle.std.proofs.Common.{◌≡◌, length, map, ◌∙◌, sym, arith}
use Rattle.std.specs.Prelude.{string_bytes}
use Rattle.std.proofs.lemmas.List.{length-map}
use Rattle.actor_cell.specs.Core.{seen}
use Rattle.test_replay.proofs.Ready.{can_replay}
use Rattle.test_replay.proofs.replaying.replay_network.Goals as goal

pub replay-requires : goal.replay-requires
replay-requires g c =
    let many : length c.args.names.now ≡ length c.args.ready.cells.items = omega (arith, c.if-names-len.false, c.len.ensures) in
    record {
      can = can_replay (map seen c.args.ready.cells.items) c.args.ready.wiring c.args.ready.plan (map string_bytes c.args.names.now) (g.F.Feeds.feeds c.args.feeds.now) c.requires.can_run
          (length-map c.args.names.now string_bytes ∙ (many ∙ sym (length-map c.args.ready.cells.items seen))) c.requires.feeds;
    }
