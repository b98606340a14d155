use Rattle.std.proofs.Common.{◌≡◌, ◌≤◌, length, map, take}
use Rattle.fnl_markup.specs.Tags.{plain_attribute}
use Rattle.fnl_expr.specs.Given.{named}
use Rattle.fnl_expr.proofs.attributes.count_of.Given as goal

abbrev pub invariant-loop-attribute : goal.invariant-loop-attribute
invariant-loop-attribute l = (l.count ≡ length (named l.key (map plain_attribute (take l.attribute-index l.attributes)))) × (l.count ≤ l.attribute-index)
