use Rattle.std.proofs.Common.{rules, tests, ◌∙◌}
use Rattle.std.specs.Prelude.{string_bytes}
use Rattle.std.specs.Str.{bytes_eq}
use Rattle.std.proofs.lemmas.Iterator.{YieldsList-from_slice}
use Rattle.std.proofs.lemmas.Iterator.Search.{any_from_yields_List}
use Rattle.rvc_words.specs.declared.job.PortWord.{PortWord}
use Rattle.rvc_words.specs.Words.{PortText, port_text}
use Rattle.cmd_ports.proofs.Fitting.{any-map}
use Rattle.cmd_ports.proofs.matching.is_named.Goals as goal

pub returns : goal.returns
returns c =
    any_from_yields_List (λ (w : PortWord). bytes_eq (string_bytes w.name) c.args.name.now) _ _ c.any.result c.any.ensures.ran (YieldsList-from_slice c.args.words.now cc) (λ x b q k. search (rules, tests))
    ∙ any-map (λ (w : PortText). bytes_eq w.name c.args.name.now) port_text c.args.words.now
