use Rattle.std.proofs.Common.{◌≤◌, arith}
use Rattle.balanced_rates.proofs.laws.one_repetition_vector.Goals as goal

pub returns : goal.returns
returns c n links firings others least least' leaf inside =
    let one : firings leaf ≤ others leaf = least.least others least'.balances leaf inside in
    let other : others leaf ≤ firings leaf = least'.least firings least.balances leaf inside in
    omega arith
