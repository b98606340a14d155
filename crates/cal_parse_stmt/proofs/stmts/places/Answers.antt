use Rattle.std.proofs.Common.{◌≡◌, Err, rules, sym, ◌∙◌}
use Rattle.cal_ast.specs.View.{expr_tree}
use Rattle.cal_grammar.specs.Spells.{a_place}
use Rattle.cal_parse_stmt.proofs.Loops.{again_more, again_none, again_fail, read_shorter}
use Rattle.cal_parse_stmt.proofs.stmts.places.Goals as goal

pub returns-in_err-next : goal.returns-in_err-next
returns-in_err-next c =
    let same : c.from_residual.result ≡ Err c.in_err-next.field-0.0 = search rules in
    rw same (again_fail c.args.room a_place expr_tree c.args.tokens.now.now c.places.tokens.now c.places.found.items c.places.invariant (sym c.is_word.ensures ∙ c.places-test.true) c.place.new.tokens.now c.in_err-next.field-0.0 c.in_err-next.ensures)

pub returns : goal.returns
returns c = again_none c.args.room a_place expr_tree c.args.tokens.now.now c.places.tokens.now c.places.found.items c.places.invariant (sym c.is_word.ensures ∙ c.places-test.false)

pub places-preserved : goal.places-preserved
places-preserved c = again_more c.args.room a_place expr_tree c.args.tokens.now.now c.places.tokens.now c.places.found.items c.places.invariant (sym c.is_word.ensures ∙ c.places-test.true) c.in_ok-next.next c.place.new.tokens.now c.in_ok-next.ensures c.push.new.self.items c.in_ok-push.ensures.items

pub places-smaller : goal.places-smaller
places-smaller c = read_shorter c.args.room a_place (expr_tree c.in_ok-next.next) c.places.tokens.now c.place.new.tokens.now (sym c.is_word.ensures ∙ c.places-test.true) c.in_ok-next.ensures
