use Rattle.std.proofs.Common.{◌≡◌, true, false, ap, ◌∙◌, rules}
use Rattle.fnl_bind.specs.Library.{is_among}
use Rattle.fnl_scopes.specs.Behind.{twice_behind}
use Rattle.fnl_scopes.proofs.Repeats.{is_once, is_twice}
use Rattle.fnl_scopes.proofs.once.add_once.Goals as goal

pub returns-then-has-clause-twice : goal.returns-then-has-clause-twice
returns-then-has-clause-twice c =
    let met : is_among c.args.name.now c.args.names.now ≡ true = search rules in
    λ others. is_twice c.args.name.now c.args.at c.args.names.now others met

pub returns-clause-once : goal.returns-clause-once
returns-clause-once c =
    let new : is_among c.args.name.now c.args.names.now ≡ false = search rules in
    λ others. ap (λ met. twice_behind met others) c.in_ok-add.ensures ∙ is_once c.args.name.now c.args.at c.args.names.now others new
