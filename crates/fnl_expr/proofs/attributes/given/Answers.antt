use Rattle.std.proofs.Common.{◌≡◌, length, map, ap, sym, ◌∙◌, arith}
use Rattle.std.specs.Str.{bytes_eq}
use Rattle.fnl_markup.specs.Tags.{plain_attribute}
use Rattle.fnl_expr.specs.Given.{named}
use Rattle.fnl_expr.proofs.Named.{found, none_yet}
use Rattle.fnl_expr.proofs.attributes.given.Goals as goal

pub returns-then-is : goal.returns-then-is
returns-then-is c =
    let tested : c.is.result ≡ bytes_eq c.attribute-item.result.name.items c.args.key.now = c.is.ensures ∙ ap (λ b. bytes_eq b c.args.key.now) c.deref.ensures.value in
    let one : length (named c.args.key.now (map plain_attribute c.args.attributes.now)) ≡ 1 = omega (arith, c.if-count_of-ne1.false, c.count_of.ensures) in
    found c.args.key.now c.args.attributes.now c.attribute-item.result c.loop-attribute.attribute-index c.loop-attribute-test.true c.attribute-item.is (sym c.if-is.true ∙ tested) c.loop-attribute.invariant one

pub loop-attribute-preserved : goal.loop-attribute-preserved
loop-attribute-preserved c =
    let tested : c.is.result ≡ bytes_eq c.attribute-item.result.name.items c.args.key.now = c.is.ensures ∙ ap (λ b. bytes_eq b c.args.key.now) c.deref.ensures.value in
    none_yet c.args.key.now c.args.attributes.now c.attribute-item.result c.loop-attribute.attribute-index c.loop-attribute-test.true c.attribute-item.is (sym c.if-is.false ∙ tested) c.loop-attribute.invariant
