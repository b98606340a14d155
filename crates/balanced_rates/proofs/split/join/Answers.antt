use Rattle.std.proofs.Common.{◌*◌, ◌≤◌, length, subst₂, arith}
use Rattle.balanced_rates.specs.Balance.{total}
use Rattle.balanced_rates.specs.Fraction.{IsLowest}
use Rattle.balanced_rates.specs.Split.{at}
use Rattle.balanced_rates.proofs.Outcomes.{joined_is_long, joined_is_split}
use Rattle.balanced_rates.proofs.split.join.Goals as goal

pub returns-then-not-grow : goal.returns-then-not-grow
returns-then-not-grow c links split =
    let firings = c.args.firings.now in
    let ratio = c.lowest_terms-ratio.result in
    let lowest : IsLowest (c.args.link.now.give * at firings c.args.link.now.writer) (c.args.link.now.need * at firings c.args.link.now.reader) ratio.over ratio.under =
    subst₂ (λ x y. IsLowest x y ratio.over ratio.under) c.requires.over c.requires.under c.lowest_terms-ratio.ensures in
    joined_is_long (length firings) c.args.longest links c.args.link.now (at c.args.parts.now) (at firings) ratio.over ratio.under c.requires.among c.requires.apart lowest (c.grow.ensures.beyond c.if-not-grow.true) split

pub returns : goal.returns
returns c links split =
    let firings = c.args.firings.now in
    let ratio = c.lowest_terms-ratio.result in
    let lowest : IsLowest (c.args.link.now.give * at firings c.args.link.now.writer) (c.args.link.now.need * at firings c.args.link.now.reader) ratio.over ratio.under =
    subst₂ (λ x y. IsLowest x y ratio.over ratio.under) c.requires.over c.requires.under c.lowest_terms-ratio.ensures in
    let within : total (at c.grow.new.firings) (length firings) ≤ c.args.longest = c.grow.ensures.within c.if-not-grow.false in
    joined_is_split (length firings) c.args.longest links c.args.link.now (at c.args.parts.now) (at firings) (at c.unite.new.parts) (at c.grow.new.firings) ratio.over ratio.under
    (record {
      among = c.requires.among;
      apart = c.requires.apart;
      lowest = lowest;
      grown = c.grow.ensures.grown c.if-not-grow.false;
      united = λ k inside. c.unite.ensures k (let same = c.requires.size in omega (arith, inside, same));
    })
    within split
