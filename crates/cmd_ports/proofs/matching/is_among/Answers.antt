use Rattle.std.proofs.Common.{rules, tests, ◌∙◌, List, ℕ}
use Rattle.std.specs.Prelude.{string_bytes}
use Rattle.std.specs.Str.{bytes_eq}
use Rattle.std.proofs.lemmas.Iterator.{YieldsList-from_slice}
use Rattle.std.proofs.lemmas.Iterator.Search.{any_from_yields_List}
use Rattle.net_model.specs.declared.wiring.Port.{Port}
use Rattle.cmd_ports.proofs.Fitting.{any-map}
use Rattle.cmd_ports.proofs.matching.is_among.Goals as goal

pub returns : goal.returns
returns c =
    any_from_yields_List (λ (p : Port). bytes_eq (string_bytes p.name) c.args.name.now) _ _ c.any.result c.any.ensures.ran (YieldsList-from_slice c.args.ports.now cc) (λ x b q k. search (rules, tests))
    ∙ any-map (λ (n : List ℕ). bytes_eq n c.args.name.now) (λ (p : Port). string_bytes p.name) c.args.ports.now
