use Rattle.std.proofs.Common.{◌≡◌, ◌∷◌, map, sym, subst, rules}
use Rattle.std.specs.Prelude.{string_bytes}
use Rattle.check_functions.specs.Said.{AddsPlace, Says}
use Rattle.check_functions.proofs.Telling.{says_more}
use Rattle.check_functions.proofs.needs.Needs.say.Goals as goal

pub names-preserved : goal.names-preserved
names-preserved c = λ last h.
    let first = string_bytes c.in-Some.first.now in
    let others = map string_bytes c.in-Some.others.now in
    let opened : map string_bytes c.names.rest.now ≡ string_bytes c.in-Some.first.now ∷ map string_bytes c.in-Some.others.now = search rules in
    let text : c.as_str.result.now ≡ string_bytes c.in-Some.first.now = search rules in
    let adds : AddsPlace first c.args.place c.names.said c.add.new.self = subst (λ n. AddsPlace n c.args.place c.names.said c.add.new.self) text c.in_ok-add.ensures in
    c.names.invariant last
    (subst (λ ns. Says ns c.args.place c.names.said last) (sym opened) (says_more first others c.args.place c.names.said c.add.new.self last adds h))
