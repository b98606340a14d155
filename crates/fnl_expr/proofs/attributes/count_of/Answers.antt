use Rattle.std.proofs.Common.{◌≡◌, ap, sym, ◌∙◌, arith}
use Rattle.std.specs.Str.{bytes_eq}
use Rattle.fnl_expr.proofs.Named.{count_same, count_more, count_all}
use Rattle.fnl_expr.proofs.attributes.count_of.Goals as goal
use Rattle.fnl_expr.proofs.attributes.count_of.Goals.{then-is, else-is}

pub loop-attribute-preserved : goal.loop-attribute-preserved
loop-attribute-preserved c =
    let tested : c.is.result ≡ bytes_eq c.attribute-item.result.name.items c.args.key.now = c.is.ensures ∙ ap (λ b. bytes_eq b c.args.key.now) c.deref.ensures.value in
    elim c.if-is.branch [
      | then-is w ↦ (
        w.count-is ∙ count_more c.args.key.now c.args.attributes.now c.attribute-item.result c.loop-attribute.attribute-index c.loop-attribute.count c.loop-attribute-test.true c.attribute-item.is (sym w.if-is.true ∙ tested) c.loop-attribute.invariant.0,
        omega (arith, w.count-is, c.loop-attribute.invariant.1),
      )
      | else-is w ↦ (
        w.count-is ∙ count_same c.args.key.now c.args.attributes.now c.attribute-item.result c.loop-attribute.attribute-index c.loop-attribute.count c.loop-attribute-test.true c.attribute-item.is (sym w.if-is.false ∙ tested) c.loop-attribute.invariant.0,
        omega (arith, w.count-is, c.loop-attribute.invariant.1),
      )
    ]

pub returns : goal.returns
returns c = count_all c.args.key.now c.args.attributes.now c.loop-attribute.attribute-index c.loop-attribute.count c.loop-attribute-test.false c.loop-attribute.invariant.0
