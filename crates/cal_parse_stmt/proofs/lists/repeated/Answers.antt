use Rattle.std.proofs.Common.{◌≡◌, Err, rules, sym, ◌∙◌}
use Rattle.cal_parse_stmt.proofs.Loops.{again_more, again_none, again_fail, read_shorter}
use Rattle.cal_parse_stmt.proofs.lists.repeated.Goals as goal

pub returns-in_err-next : goal.returns-in_err-next
returns-in_err-next g c =
    let same : c.from_residual.result ≡ Err c.in_err-next.field-0.0 = search rules in
    rw same (again_fail c.args.room g.T.Read.part g.T.Read.tree c.args.tokens.now.now c.parts.tokens.now c.parts.found.items c.parts.invariant (sym c.starts.ensures ∙ c.parts-test.true) c.read.new.tokens.now c.in_err-next.field-0.0 c.in_err-next.ensures)

pub returns : goal.returns
returns g c = again_none c.args.room g.T.Read.part g.T.Read.tree c.args.tokens.now.now c.parts.tokens.now c.parts.found.items c.parts.invariant (sym c.starts.ensures ∙ c.parts-test.false)

pub parts-preserved : goal.parts-preserved
parts-preserved g c = again_more c.args.room g.T.Read.part g.T.Read.tree c.args.tokens.now.now c.parts.tokens.now c.parts.found.items c.parts.invariant (sym c.starts.ensures ∙ c.parts-test.true) c.in_ok-next.next c.read.new.tokens.now c.in_ok-next.ensures c.push.new.self.items c.in_ok-push.ensures.items

pub parts-smaller : goal.parts-smaller
parts-smaller g c = read_shorter c.args.room g.T.Read.part (g.T.Read.tree c.in_ok-next.next) c.parts.tokens.now c.read.new.tokens.now (sym c.starts.ensures ∙ c.parts-test.true) c.in_ok-next.ensures
