use Rattle.std.proofs.Common.{◌≡◌, [], ◌∷◌, ◌++◌, rules}
use Rattle.std.specs.Prelude.{length, string_bytes}
use Rattle.const_env.specs.Standing.{seen_variable, with_place}
use Rattle.const_env.proofs.Leading.{entry_pushed}
use Rattle.const_env.proofs.variables.Variables.add.Goals as goal

pub invariant_of-self-2 : goal.invariant_of-self-2
invariant_of-self-2 c =
    let items : c.push.new.self.items ≡ c.self.inside.variables.items ++ c.args.variable ∷ [] = search rules in
    let name : string_bytes c.args.variable.name ≡ c.as_str.result.now = search rules in
    let places : c.put_next.new.self ≡ with_place c.as_str.result.now (length c.self.inside.variables.items) c.self.inside.places = search rules in
    entry_pushed seen_variable c.self.inside.variables.items c.push.new.self.items c.args.variable c.as_str.result.now c.self.inside.places c.put_next.new.self c.self.invariant items name places
