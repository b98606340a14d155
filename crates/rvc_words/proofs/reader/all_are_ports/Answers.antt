use Rattle.std.proofs.Common.{Bor, rules, tests, sym, ◌∙◌}
use Rattle.std.proofs.lemmas.Iterator.{YieldsList-from_slice}
use Rattle.std.proofs.lemmas.Iterator.Search.{all_from_yields_List}
use Rattle.std.proofs.lemmas.List.Folds.{list_all-map}
use Rattle.clap.specs.Walk.{Text}
use Rattle.rvc_words.specs.Forms.{is_port}
use Rattle.rvc_words.proofs.reader.all_are_ports.Goals as goal

pub returns : goal.returns
returns c =
    all_from_yields_List (λ (s : Bor Text). is_port s.now) _ _ _ c.all.ensures.ran (YieldsList-from_slice c.args.words.now cc) (λ x b q k. search (rules, tests))
    ∙ sym (list_all-map is_port _ c.args.words.now)
