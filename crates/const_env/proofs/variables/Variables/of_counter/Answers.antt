use Rattle.std.proofs.Common.{◌≡◌, ℕ, List, [], ◌∷◌, false, ap, ◌∙◌, rules}
use Rattle.std.specs.Prelude.{string_bytes}
use Rattle.cal_model.specs.Value.{Kind, NumKind}
use Rattle.cal_model.specs.View.{kind_view}
use Rattle.cal_model.specs.declared.kind.Kind as kinds
use Rattle.const_env.specs.Counting.{Variable, declared_by}
use Rattle.const_env.specs.declared.inside.Variable.{Variable as Declared}
use Rattle.const_env.proofs.variables.Variables.of_counter.Goals as goal

abbrev seen : List ℕ → Kind → Variable
seen name kind = record { name = name; kind = kind; changes = false }

pub returns : goal.returns
returns c =
    let x : Declared = record { name = c.in_ok-name.name; kind = kinds.Num; changes = false } in
    let items : c.add.new.self ≡ x ∷ [] = search rules in
    let name : string_bytes c.in_ok-name.name ≡ c.args.name.now = search rules in
    let number : kind_view kinds.Num ≡ NumKind = search (rules, kinds.the_lemmas) in
    λ outer. ap (λ xs. declared_by xs outer) items ∙ ap (λ n. seen n (kind_view kinds.Num) ∷ outer) name ∙ ap (λ k. seen c.args.name.now k ∷ outer) number
