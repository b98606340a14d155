use Rattle.std.proofs.Common.{◌≡◌, map, true, None, Some, sym, ap, subst, ◌∙◌, rules}
use Rattle.std.specs.Prelude.{option_map}
use Rattle.std.specs.Slice.{IsItemAt}
use Rattle.cal_model.specs.Call.{fun_named}
use Rattle.cal_model.specs.View.{fun_view}
use Rattle.const_env.specs.Held.{held}
use Rattle.const_env.specs.Sizes.{are_sized_funs}
use Rattle.const_env.specs.Standing.{LeadsTo, fun_place}
use Rattle.const_env.proofs.FunPlaces.{leads_there, lent_there}
use Rattle.const_env.proofs.Tested.{lent_sized}
use Rattle.const_env.proofs.env.Env.fun.Goals as goal

pub returns-in_err-place-clause-is : goal.returns-in_err-place-clause-is
returns-in_err-place-clause-is c =
    let fs = c.args.self.now.funs in
    let name = c.args.name.now in
    let none : fun_place name (map fun_view fs) ≡ None = search rules in
    let same : c.from_residual.result ≡ None = search rules in
    ap (option_map (λ f. fun_view f.now)) same ∙ sym (subst (λ o. LeadsTo fun_view fs o (fun_named name (map fun_view fs))) none (leads_there fun_view name fs))

pub returns-clause-is : goal.returns-clause-is
returns-clause-is c =
    let fs = c.self.inside.funs.items in
    let name = c.args.name.now in
    let items : c.deref.result.now ≡ fs = search rules in
    let there : fun_place name (map fun_view fs) ≡ Some c.in_ok-place.place = search rules in
    let found : IsItemAt fs c.in_ok-place.place c.get-2.result = subst (λ gs. IsItemAt gs c.in_ok-place.place c.get-2.result) items c.get-2.ensures.lookup in
    lent_there fun_view fs c.in_ok-place.place c.get-2.result (fun_named name (map fun_view fs))
    (subst (λ o. LeadsTo fun_view fs o (fun_named name (map fun_view fs))) there (leads_there fun_view name fs)) found
    ∙ ap (λ env. fun_named name (held env).funs) c.self.view_is

pub returns-clause-sized : goal.returns-clause-sized
returns-clause-sized c =
    let items : c.deref.result.now ≡ c.self.inside.funs.items = search rules in
    let sized : are_sized_funs (map fun_view c.deref.result.now) ≡ true = ap (λ fs. are_sized_funs (map fun_view fs)) items ∙ c.self.invariant.0 in
    lent_sized c.deref.result.now c.in_ok-place.place c.get-2.result sized c.get-2.ensures.lookup
