use Rattle.std.proofs.Common.{◌≡◌, [], Err, get_or, sym, ap, subst, arith, rules}
use Rattle.cal_ast.specs.View.{gen_tree}
use Rattle.fnl_bind.specs.Scopes.{unknown_in, unknown_in_gens}
use Rattle.fnl_scopes.specs.Tested.{IsCause, Tests}
use Rattle.fnl_scopes.specs.View.{gens_tree, names_seen}
use Rattle.fnl_scopes.proofs.Gens.{broken_here, broken_type, gen_size, none_left, one_behind, unknown_at}
use Rattle.fnl_scopes.proofs.Sizes.{size}
use Rattle.fnl_scopes.proofs.known.+expr.Goals as goal

pub generator-returns-in_err-type_expr : goal.generator-returns-in_err-type_expr
generator-returns-in_err-type_expr t c =
    let same : c.from_residual.result ≡ Err c.in_err-type_expr.field-0.0 = search rules in
    subst (λ r. Tests r (unknown_in (gen_tree c.args.g.now) (names_seen c.args.names.now))) (sym same)
    (broken_type c.args.g.now (names_seen c.args.names.now) c.in_err-type_expr.field-0.0 c.in_err-type_expr.ensures)

pub generators-generator_inside-requires : goal.generators-generator_inside-requires
generators-generator_inside-requires t c = (let l = gen_size c.args.gens.now c.loop-place.place c.index-gens-place.result (omega arith) in let i : size (gen_tree c.index-gens-place.result) ≡ size (gen_tree (get_or c.args.gens.now c.loop-place.place c.index-gens-place.result)) = ap (λ g. size (gen_tree g)) c.index-gens-place.is in omega arith, tt)

pub generators-returns-in_err-generator_inside : goal.generators-returns-in_err-generator_inside
generators-returns-in_err-generator_inside t c =
    let same : c.from_residual.result ≡ Err c.in_err-generator_inside.field-0.0 = search rules in
    let here : IsCause (unknown_at c.loop-place.place c.index-gens-place.result c.args.gens.now (names_seen c.args.names.now)) c.in_err-generator_inside.field-0.0 = search rules in
    subst (λ r. Tests r (unknown_in_gens (gens_tree c.args.gens.now) (names_seen c.args.names.now))) (sym same)
    (broken_here c.args.gens.now c.loop-place.place c.index-gens-place.result (names_seen c.args.names.now) (unknown_in_gens (gens_tree c.args.gens.now) (names_seen c.args.names.now)) c.in_err-generator_inside.field-0.0 (omega arith)
    (subst (λ g. IsCause (unknown_at c.loop-place.place g c.args.gens.now (names_seen c.args.names.now)) c.in_err-generator_inside.field-0.0) c.index-gens-place.is here) c.loop-place.invariant)

pub generators-loop-place-preserved : goal.generators-loop-place-preserved
generators-loop-place-preserved t c =
    let fine : unknown_at c.loop-place.place (get_or c.args.gens.now c.loop-place.place c.index-gens-place.result) c.args.gens.now (names_seen c.args.names.now) ≡ [] = search rules in
    one_behind c.args.gens.now c.loop-place.place c.index-gens-place.result (names_seen c.args.names.now) (unknown_in_gens (gens_tree c.args.gens.now) (names_seen c.args.names.now)) (omega arith) fine c.loop-place.invariant

pub generators-returns : goal.generators-returns
generators-returns t c =
    none_left c.args.gens.now c.loop-place.place (names_seen c.args.names.now) (unknown_in_gens (gens_tree c.args.gens.now) (names_seen c.args.names.now)) c.loop-place-test.false c.loop-place.invariant
