use Rattle.std.proofs.Common.{rules, arith}
use Rattle.rvc_io.specs.Told.{IsTold}
use Rattle.cmd_fmt.specs.Formatting.{IsUnread, lacks, passes}
use Rattle.cmd_fmt.proofs.Printed.{denied, found-too_long}
use Rattle.cmd_fmt.proofs.reading.read_top.Goals as goal

pub returns-then-len-gt-MAX_FILE_BYTES-clause-refused : goal.returns-then-len-gt-MAX_FILE_BYTES-clause-refused
returns-then-len-gt-MAX_FILE_BYTES-clause-refused g c = λ refusal answered.
    denied (IsUnread (g.L.Library.file c.args.library.now c.args.top.now) (g.L.Library.misses c.args.library.now) (g.L.Library.misses c.read.new.self))
    c.refused_source.result _ refusal c.refused_source.ensures answered (passes (let told : IsTold (g.L.Library.file c.args.library.now c.args.top.now) c.read.new.out.items = search rules in found-too_long _ c.read.new.out.items told (omega arith)))

pub returns-in-Missing-clause-refused : goal.returns-in-Missing-clause-refused
returns-in-Missing-clause-refused g c = λ refusal answered.
    denied (IsUnread (g.L.Library.file c.args.library.now c.args.top.now) (g.L.Library.misses c.args.library.now) (g.L.Library.misses c.read.new.self))
    c.refused_words.result _ refusal c.refused_words.ensures answered (lacks (search rules) (search rules))

pub returns-in-TooLong-clause-refused : goal.returns-in-TooLong-clause-refused
returns-in-TooLong-clause-refused g c = λ refusal answered.
    denied (IsUnread (g.L.Library.file c.args.library.now c.args.top.now) (g.L.Library.misses c.args.library.now) (g.L.Library.misses c.read.new.self))
    c.refused_source-in-TooLong.result _ refusal c.refused_source-in-TooLong.ensures answered (passes (search rules))
