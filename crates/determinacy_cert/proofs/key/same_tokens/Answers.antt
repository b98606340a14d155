use Rattle.std.proofs.Common.{length}
use Rattle.determinacy_cert.proofs.Keys.{counts_apart}
use Rattle.determinacy_cert.proofs.key.same_tokens.Goals as goal

pub returns-else-count-other : goal.returns-else-count-other
returns-else-count-other c =
    counts_apart c.args.one.pattern.now.port c.args.two.pattern.now.port c.in-Some.count c.in-Some-repeat-2.other c.args.one.place c.args.two.place
    (length c.args.one.pattern.now.names.items) (length c.args.two.pattern.now.names.items)
    c.args.one.pattern.now.repeat c.args.two.pattern.now.repeat c.in-Some.is c.in-Some-repeat-2.is c.if-count-other.false
