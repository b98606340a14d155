use Rattle.std.proofs.Common.{◌≡◌, length}
use Rattle.lower_base.specs.Callees.{function_named, functions_view}
use Rattle.lower_base.proofs.callees.function_named.Given as goal

abbrev pub invariant-callees : goal.invariant-callees
invariant-callees l = function_named l.text (functions_view l.rest) ≡ function_named l.text (functions_view l.initial.rest)

abbrev pub decreases-callees : goal.decreases-callees
decreases-callees l = length l.rest
