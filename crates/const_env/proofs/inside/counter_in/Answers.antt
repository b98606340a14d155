use Rattle.std.proofs.Common.{◌≡◌, [], map, true, false, ap, sym, ◌∙◌, rules}
use Rattle.std.specs.Prelude.{option_map}
use Rattle.std.specs.Str.{bytes_eq}
use Rattle.cal_model.specs.Kinding.{known_as}
use Rattle.const_env.specs.Counting.{counter_variable, named_by, known_variable, use_of}
use Rattle.const_env.proofs.Backwards.{last_known, is_before, is_it, none_known}
use Rattle.cal_ast.specs.declared.expr.ExprForm as forms
use Rattle.const_env.specs.Meant.{name_of}
use Rattle.const_env.proofs.inside.counter_in.Goals as goal

pub returns-then-eq : goal.returns-then-eq
returns-then-eq c =
    let found : bytes_eq (name_of c.in-Some.last.now) c.args.name.now ≡ true = search (rules, forms.the_lemmas) in
    ap (option_map use_of) (is_it (bytes_eq (name_of c.in-Some.last.now) c.args.name.now) (known_variable (counter_variable (name_of c.in-Some.last.now))) (known_as c.args.name.now (map known_variable (named_by c.backwards.rest.now []))) (known_as c.args.name.now (map known_variable (named_by c.in-Some.others.now []))) (known_as c.args.name.now (map known_variable (named_by c.args.gens.now [])))
    (last_known (λ g. counter_variable (name_of g)) known_variable c.args.name.now c.backwards.rest.now c.in-Some.others.now c.in-Some.last.now c.in-Some.ensures.cases.0) found c.backwards.invariant)

pub backwards-preserved : goal.backwards-preserved
backwards-preserved c =
    let other : bytes_eq (name_of c.in-Some.last.now) c.args.name.now ≡ false = search (rules, forms.the_lemmas) in
    is_before (bytes_eq (name_of c.in-Some.last.now) c.args.name.now) (known_variable (counter_variable (name_of c.in-Some.last.now))) (known_as c.args.name.now (map known_variable (named_by c.backwards.rest.now []))) (known_as c.args.name.now (map known_variable (named_by c.in-Some.others.now []))) (known_as c.args.name.now (map known_variable (named_by c.args.gens.now [])))
    (last_known (λ g. counter_variable (name_of g)) known_variable c.args.name.now c.backwards.rest.now c.in-Some.others.now c.in-Some.last.now c.in-Some.ensures.cases.0) other c.backwards.invariant

pub returns : goal.returns
returns c = ap (option_map use_of) (sym (none_known (λ g. counter_variable (name_of g)) known_variable c.args.name.now c.backwards.rest.now (search rules)) ∙ c.backwards.invariant)
