use Rattle.std.proofs.Common.{◌≡◌, ◌∷◌, ◌++◌, map, ap, sym, ◌∙◌, rules}
use Rattle.std.specs.Prelude.{string_bytes}
use Rattle.net_model.specs.Ready as ready
use Rattle.fnl_tree.specs.View.{own_of}
use Rattle.fnl_flatten.specs.Flat.{port_of}
use Rattle.fnl_flatten.proofs.Copies.{more_copies}
use Rattle.fnl_flatten.proofs.flat.ports.Goals as goal

pub ends-preserved : goal.ends-preserved
ends-preserved c =
    let opened : map own_of c.ends.rest.now ≡ own_of c.in-Some.end.now ∷ map own_of c.in-Some.others.now = search rules in
    let same : string_bytes c.in_ok-name.name ≡ string_bytes c.in-Some.end.now.name = search rules in
    more_copies ready.port_of c.ends.ports.items c.push.new.self.items (record { name = c.in_ok-name.name; kind = c.in-Some.end.now.kind })
    (port_of (own_of c.in-Some.end.now))
    (map port_of (map own_of c.in-Some.others.now)) (map port_of (map own_of c.args.ends.now))
    c.in_ok-push.ensures.items (ap (λ n. record { name = n; kind = c.in-Some.end.now.kind }) same)
    (sym (ap (λ es. map ready.port_of c.ends.ports.items ++ map port_of es) opened) ∙ c.ends.invariant)
