use Rattle.std.proofs.Common.{◌≡◌, Err, ◌∷◌, map, sym, ap, subst, ◌∙◌, rules}
use Rattle.std.specs.Prelude.{string_bytes}
use Rattle.fnl_bind.specs.Scopes.{keyed_ports, named_twice}
use Rattle.fnl_frames.specs.Views.{port_of}
use Rattle.fnl_scopes.specs.Behind.{keyed, twice_behind}
use Rattle.fnl_scopes.specs.Tested.{IsCause, Tests}
use Rattle.fnl_scopes.proofs.once.ports_once.Goals as goal

pub returns-in_err-add_once : goal.returns-in_err-add_once
returns-in_err-add_once c =
    let same : c.from_residual.result ≡ Err c.in_err-add_once.field-0.0 = search rules in
    let parts : c.ports.rest.now ≡ c.in-Some.first.now ∷ c.in-Some.others.now = search rules in
    let name : c.as_str.result.now ≡ string_bytes c.in-Some.first.now.name = search rules in
    subst (λ r. Tests r (named_twice (keyed_ports (map port_of c.args.ports.now)))) (sym same)
    (subst (λ vs. IsCause vs c.in_err-add_once.field-0.0)
    (ap (λ ps. twice_behind c.ports.names (keyed_ports (map port_of ps))) (sym parts) ∙ c.ports.invariant)
    (subst (λ n. IsCause (twice_behind c.ports.names (keyed n c.in-Some.first.now.at ∷ keyed_ports (map port_of c.in-Some.others.now))) c.in_err-add_once.field-0.0) name
    (c.in_err-add_once.ensures.twice (keyed_ports (map port_of c.in-Some.others.now)))))
