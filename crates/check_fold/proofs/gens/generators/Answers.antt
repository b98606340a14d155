use Rattle.std.proofs.Common.{◌≡◌, map, take, get_or, rules, arith}
use Rattle.cal_ast.specs.Tree.{listed}
use Rattle.cal_ast.specs.View.{gen_tree}
use Rattle.const_env.specs.Counting.{names_view}
use Rattle.cal_check.specs.Written.{gens_written}
use Rattle.check_fold.specs.Seeing.{seen_among}
use Rattle.check_fold.specs.Writing.{gen_written}
use Rattle.check_fold.proofs.GenSteps.{gens_done, gens_next}
use Rattle.check_fold.proofs.gens.generators.Goals as goal

pub loop-place-preserved : goal.loop-place-preserved
loop-place-preserved c =
    let gs = c.args.gens.now in
    let same : gen_tree c.in_ok-g.g ≡ gen_written (gen_tree (get_or gs c.loop-place.place c.index-gens-place.result)) (seen_among (take c.loop-place.place gs) c.args.names.now) = search rules in
    gens_next gs c.loop-place.found.items c.push.new.self.items c.loop-place.place c.index-gens-place.result c.in_ok-g.g c.args.names.now (gens_written (listed (map gen_tree gs)) (names_view c.args.names.now))
    (omega arith) c.in_ok-push.ensures.items same c.loop-place.invariant

pub returns : goal.returns
returns c = gens_done c.args.gens.now c.loop-place.found.items c.loop-place.place c.args.names.now (gens_written (listed (map gen_tree c.args.gens.now)) (names_view c.args.names.now)) c.loop-place-test.false c.loop-place.invariant
