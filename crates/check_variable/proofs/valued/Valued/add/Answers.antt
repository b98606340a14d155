use Rattle.std.proofs.Common.{◌≡◌, [], ◌∷◌, ◌++◌, true, map, refl, ap, ◌∙◌, rules}
use Rattle.std.specs.Prelude.{◌||◌, Some, option_map, string_bytes}
use Rattle.cal_check.specs.Variables.{held_if, is_none, value_or}
use Rattle.cal_model.specs.View.{kind_view, shape_view, value_view, var_view}
use Rattle.check_functions.specs.Known.{all_known, known_view}
use Rattle.check_functions.specs.declared.known.KnownName.{KnownName}
use Rattle.check_variable.specs.Valuing.{IsNoted}
use Rattle.check_variable.specs.Views.{var_decl}
use Rattle.check_variable.specs.declared.valued.Valued.{Valued as Kept}
use Rattle.check_variable.proofs.Adding.{last_behind, valued_added}
use Rattle.check_variable.proofs.valued.Valued.add.Goals as goal

pub returns-clause-valued : goal.returns-clause-valued
returns-clause-valued c = λ xs vs breaks h n.
    let t = shape_view c.args.t in
    let v = option_map value_view c.args.settled.value in
    let k : KnownName = record { name = c.in_ok-name.name; kind = c.args.k; value = c.in_ok-value.value; changes = c.args.x.changes } in
    let pushed : c.push.new.self.items ≡ c.args.self.now.known.items ++ k ∷ [] = search rules in
    let name : string_bytes c.in_ok-name.name ≡ c.args.x.name.now = search rules in
    let value : value_view c.in_ok-value.value ≡ value_or v (kind_view c.args.k) = search rules in
    let before : Kept = record c.args.self.now { known = c.push.new.self } in
    let noted : IsNoted c.args.settled.constancy v (var_decl c.args.x) before c.note.new.self = search rules in
    let held : map var_view c.add_held.new.held.items ≡ held_if v (var_decl c.args.x) t (map var_view c.note.new.self.held.items) = search rules in
    let useless : c.either-self.result ≡ (c.note.new.self.useless || is_none v) = search rules in
    let new : Kept = record c.note.new.self { held = c.add_held.new.held; useless = c.either-self.result; whole = true } in
    valued_added c.args.self.now new xs (var_decl c.args.x) t v c.args.settled.constancy vs breaks
    (ap all_known (noted.known ∙ pushed) ∙ last_behind known_view c.args.self.now.known.items k []
    ∙ ap (λ n. record { name = n; kind = kind_view c.args.k; value = Some (value_view c.in_ok-value.value); changes = c.args.x.changes } ∷ all_known c.args.self.now.known.items) name
    ∙ ap (λ w. record { name = c.args.x.name.now; kind = kind_view c.args.k; value = Some w; changes = c.args.x.changes } ∷ all_known c.args.self.now.known.items) value
    ∙ ap (λ j. record { name = c.args.x.name.now; kind = j; value = Some (value_or v j); changes = c.args.x.changes } ∷ all_known c.args.self.now.known.items) c.requires)
    (held ∙ ap (λ hs. held_if v (var_decl c.args.x) t (map var_view hs)) noted.held)
    noted.broken noted.lacking (useless ∙ ap (λ u. u || is_none v) noted.useless) refl h n

pub returns-clause-grows : goal.returns-clause-grows
returns-clause-grows c =
    let k : KnownName = record { name = c.in_ok-name.name; kind = c.args.k; value = c.in_ok-value.value; changes = c.args.x.changes } in
    let pushed : c.push.new.self.items ≡ c.args.self.now.known.items ++ k ∷ [] = search rules in
    let before : Kept = record c.args.self.now { known = c.push.new.self } in
    let noted : IsNoted c.args.settled.constancy (option_map value_view c.args.settled.value) (var_decl c.args.x) before c.note.new.self = search rules in
    (k, noted.known ∙ pushed)
