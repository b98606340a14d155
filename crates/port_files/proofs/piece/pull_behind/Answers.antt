use Rattle.std.proofs.Common.{◌-◌, length, take, drop, arith}
use Rattle.port_files.proofs.Pulled.{coming_pulled}
use Rattle.port_files.proofs.piece.pull_behind.Goals as goal

pub returns-clause-coming : goal.returns-clause-coming
returns-clause-coming g c =
    let bytes = c.args.bytes.now in
    let kept = c.args.kept in
    let behind = drop kept bytes in
    let room = length bytes - kept in
    coming_pulled c.pull.result kept bytes (take room behind) c.pull.new.buf (drop room behind) ((g.F.Feeds.feeds c.args.feeds.now).left c.args.feed) ((g.F.Feeds.feeds c.pull.new.self).left c.args.feed) (omega arith) c.pull.ensures.bytes
