use Rattle.std.proofs.Common.{◌≡◌, ◌∷◌, ◌++◌, map, ap, sym, ◌∙◌, rules}
use Rattle.std.specs.Prelude.{string_bytes}
use Rattle.net_model.specs.Ready.{port_of}
use Rattle.cmd_run_network.proofs.Copied.{more_copied}
use Rattle.cmd_run_network.proofs.wiring.copy_ports.Goals as goal

pub ports-preserved : goal.ports-preserved
ports-preserved c =
    let opened : map port_of c.ports.rest.now ≡ port_of c.in-Some.port.now ∷ map port_of c.in-Some.others.now = search rules in
    let same : string_bytes c.in_ok-name.name ≡ string_bytes c.in-Some.port.now.name = search rules in
    more_copied port_of c.ports.copy.items c.push.new.self.items (record { name = c.in_ok-name.name; kind = c.in-Some.port.now.kind })
    (port_of c.in-Some.port.now) (map port_of c.in-Some.others.now) (map port_of c.args.ports.now)
    c.in_ok-push.ensures.items (ap (λ n. record { name = n; kind = c.in-Some.port.now.kind }) same)
    (sym (ap (λ ps. map port_of c.ports.copy.items ++ ps) opened) ∙ c.ports.invariant)
