use Rattle.std.proofs.Common.{◌≡◌, [], true, false, sym, ap, ◌∙◌, rules}
use Rattle.std.specs.Prelude.{if◌then◌else◌}
use Rattle.std.specs.Str.{bytes_eq}
use Rattle.cal_ast.specs.View.{gen_tree}
use Rattle.fnl_bind.specs.Library.{is_among}
use Rattle.fnl_bind.specs.Scopes.{gen_name}
use Rattle.fnl_scopes.specs.View.{counters}
use Rattle.fnl_scopes.proofs.Gens.{last_counter, no_gens}
use Rattle.fnl_scopes.proofs.frames.is_counter.Goals as goal

pub returns-then-eq : goal.returns-then-eq
returns-then-eq c =
    let found : bytes_eq (gen_name (gen_tree c.in-Some.last.now)) c.args.name.now ≡ true = search rules in
    sym (last_counter c.args.name.now c.backwards.rest.now c.in-Some.others.now c.in-Some.last.now c.in-Some.ensures.cases.0
    ∙ ap (λ b. if b then true else is_among c.args.name.now (counters c.in-Some.others.now)) found) ∙ c.backwards.invariant

pub backwards-preserved : goal.backwards-preserved
backwards-preserved c =
    let other : bytes_eq (gen_name (gen_tree c.in-Some.last.now)) c.args.name.now ≡ false = search rules in
    sym (last_counter c.args.name.now c.backwards.rest.now c.in-Some.others.now c.in-Some.last.now c.in-Some.ensures.cases.0
    ∙ ap (λ b. if b then true else is_among c.args.name.now (counters c.in-Some.others.now)) other) ∙ c.backwards.invariant

pub returns : goal.returns
returns c =
    let none : c.backwards.rest.now ≡ [] = no_gens c.backwards.rest.now (search rules) in
    sym (ap (λ gs. is_among c.args.name.now (counters gs)) none) ∙ c.backwards.invariant
