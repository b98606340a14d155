use Rattle.std.proofs.Common.{◌≡◌, ◌<◌, ◌≤◌, length, arith}
use Rattle.balanced_rates.specs.Split.{at}
use Rattle.period_order.specs.Board.{link_at, lacks, lacking}
use Rattle.period_order.proofs.Sums.{term_within_sum, sum_within}
use Rattle.period_order.proofs.Taking.{lacks_at_most}
use Rattle.period_order.proofs.Moving.{moving_none, moving_more, moved_all, peaked_all, moved_on_by}
use Rattle.period_order.proofs.turn.fire.Goals as goal

pub loop-l-init : goal.loop-l-init
loop-l-init c = moving_none (length c.args.unmet.now) c.args.links.now c.args.leaf c.args.row.now (at c.args.unmet.now) (at c.args.tokens.now) (at c.args.peaks.now) c.requires.unmet

pub loop-l-preserved : goal.loop-l-preserved
loop-l-preserved c =
    let row = c.args.row.now in
    let links = c.args.links.now in
    let p = c.loop-l.l-index in
    let l = at row p in
    let l_in : l < length links = c.requires.touching.within p 0 c.loop-l-test.true in
    moving_more (length c.args.unmet.now) links c.args.leaf row p (at c.args.tokens.now) (at c.args.peaks.now) (at c.loop-l.unmet) (at c.loop-l.tokens) (at c.loop-l.peaks) (at c.move_on.new.unmet) (at c.move_on.new.tokens) (at c.move_on.new.peaks) c.loop-l-test.true l_in c.requires.touching.distinct c.loop-l.invariant
    (moved_on_by (link_at links l) l c.args.leaf c.loop-l.unmet c.loop-l.tokens c.loop-l.peaks c.move_on.new.unmet c.move_on.new.tokens c.move_on.new.peaks (omega (arith, l_in)) (omega (arith, l_in)) c.move_on.ensures.tokens c.move_on.ensures.peaks c.move_on.ensures.count c.move_on.ensures.others)

pub returns : goal.returns
returns c =
    let n = length c.args.unmet.now in
    let links = c.args.links.now in
    let row = c.args.row.now in
    let p = c.loop-l.l-index in
    let end : p ≡ length row = omega arith in
    record {
      unmet = c.loop-l.invariant.unmet_is;
      tokens = moved_all n links c.args.leaf row p (at c.args.tokens.now) (at c.args.peaks.now) (at c.loop-l.unmet) (at c.loop-l.tokens) (at c.loop-l.peaks) end c.requires.touching c.loop-l.invariant;
      peaks = peaked_all n links c.args.leaf row p (at c.args.tokens.now) (at c.args.peaks.now) (at c.loop-l.unmet) (at c.loop-l.tokens) (at c.loop-l.peaks) end c.requires.touching c.loop-l.invariant c.requires.peaks;
    }

pub move_on-requires-clause-counted : goal.move_on-requires-clause-counted
move_on-requires-clause-counted c =
    let links = c.args.links.now in
    let l = at c.args.row.now c.loop-l.l-index in
    let link = link_at links l in
    let l_in : l < length links = c.requires.touching.within c.loop-l.l-index 0 c.loop-l-test.true in
    let reader_in : link.reader < length c.args.unmet.now = (c.requires.among l (record { writer = 0; reader = 0; give = 0; need = 0 }) l_in).1 in
    let exact : at c.loop-l.unmet link.reader ≡ lacking links (at c.loop-l.tokens) link.reader = c.loop-l.invariant.unmet_is link.reader reader_in in
    let within : lacks link (at c.loop-l.tokens l) link.reader ≤ lacking links (at c.loop-l.tokens) link.reader = term_within_sum (λ j. lacks (link_at links j) (at c.loop-l.tokens j) link.reader) (length links) l l_in in
    omega arith

pub move_on-requires-clause-fits : goal.move_on-requires-clause-fits
move_on-requires-clause-fits c =
    let links = c.args.links.now in
    let l = at c.args.row.now c.loop-l.l-index in
    let link = link_at links l in
    let l_in : l < length links = c.requires.touching.within c.loop-l.l-index 0 c.loop-l-test.true in
    let reader_in : link.reader < length c.args.unmet.now = (c.requires.among l (record { writer = 0; reader = 0; give = 0; need = 0 }) l_in).1 in
    let exact : at c.loop-l.unmet link.reader ≡ lacking links (at c.loop-l.tokens) link.reader = c.loop-l.invariant.unmet_is link.reader reader_in in
    let within : lacking links (at c.loop-l.tokens) link.reader ≤ length links = sum_within (λ j. lacks (link_at links j) (at c.loop-l.tokens j) link.reader) (length links) (λ j. lacks_at_most (link_at links j) (at c.loop-l.tokens j) link.reader) in
    omega (arith, c.requires.sizes)
