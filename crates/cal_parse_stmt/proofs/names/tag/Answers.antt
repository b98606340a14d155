use Rattle.std.proofs.Common.{◌≡◌, map, Err, rules, ap, ◌∙◌}
use Rattle.cal_ast.specs.Places.{begins}
use Rattle.cal_ast.specs.Tree.{listed}
use Rattle.cal_ast.specs.View.{ident_tree}
use Rattle.cal_parse_stmt.proofs.Tags.{tag_read, tag_fails}
use Rattle.cal_parse_stmt.proofs.names.tag.Goals as goal

pub returns-in_err-parts : goal.returns-in_err-parts
returns-in_err-parts c =
    let same : c.from_residual.result ≡ Err c.in_err-parts.field-0.0 = search rules in
    rw same (tag_fails c.args.tokens.now.now c.names.new.tokens.now c.in_err-parts.field-0.0 c.in_err-parts.ensures)

pub returns : goal.returns
returns c =
    tag_read c.args.tokens.now.now c.names.new.tokens.now (record { parts = c.in_ok-parts.parts; at = c.first_offset-at.result }) c.in_ok-parts.ensures (c.first_offset-at.ensures ∙ ap (λ l. begins (listed (map ident_tree l))) c.deref.ensures.value)
