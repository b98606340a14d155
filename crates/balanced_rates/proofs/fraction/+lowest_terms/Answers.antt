use Rattle.std.proofs.Common.{◌*◌, ◌+◌, ◌≤◌, ◌/◌, ◌%◌, arith}
use Rattle.balanced_rates.specs.Fraction.{IsLowest}
use Rattle.balanced_rates.proofs.Fractions.{lowest_of_whole, lowest_of_rest, lowest_is_within}
use Rattle.balanced_rates.proofs.fraction.+lowest_terms.Goals as goal

pub returns-then-rest-eq0 : goal.returns-then-rest-eq0
returns-then-rest-eq0 t c =
    lowest_of_whole c.args.over c.args.under (c.args.over / c.args.under) c.requires.over c.requires.under (omega arith)

pub overflow_mul-result : goal.overflow_mul-result
overflow_mul-result t c =
    let inner = c.lowest_terms-inner.result in
    let lowest : IsLowest c.args.over c.args.under (c.args.over / c.args.under * inner.over + inner.under) inner.over =
    lowest_of_rest c.args.over c.args.under (c.args.over / c.args.under) (c.args.over % c.args.under) inner.over inner.under c.requires.under (omega arith) c.lowest_terms-inner.ensures in
    let within : c.args.over / c.args.under * inner.over + inner.under ≤ c.args.over =
    (lowest_is_within c.args.over c.args.under (c.args.over / c.args.under * inner.over + inner.under) inner.over c.requires.over lowest).0 in
    omega (arith, within, c.ranges.over.fits)

pub overflow_add-result : goal.overflow_add-result
overflow_add-result t c =
    let inner = c.lowest_terms-inner.result in
    let lowest : IsLowest c.args.over c.args.under (c.args.over / c.args.under * inner.over + inner.under) inner.over =
    lowest_of_rest c.args.over c.args.under (c.args.over / c.args.under) (c.args.over % c.args.under) inner.over inner.under c.requires.under (omega arith) c.lowest_terms-inner.ensures in
    let within : c.args.over / c.args.under * inner.over + inner.under ≤ c.args.over =
    (lowest_is_within c.args.over c.args.under (c.args.over / c.args.under * inner.over + inner.under) inner.over c.requires.over lowest).0 in
    omega (arith, within, c.ranges.over.fits)

pub returns : goal.returns
returns t c =
    let inner = c.lowest_terms-inner.result in
    lowest_of_rest c.args.over c.args.under (c.args.over / c.args.under) (c.args.over % c.args.under) inner.over inner.under c.requires.under (omega arith) c.lowest_terms-inner.ensures
