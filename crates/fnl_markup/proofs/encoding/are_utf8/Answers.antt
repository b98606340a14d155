use Rattle.std.proofs.Common.{rules, tests, sym, ◌∙◌}
use Rattle.std.proofs.lemmas.Iterator.{YieldsList-from_slice}
use Rattle.std.proofs.lemmas.Iterator.Search.{all_from_yields_List}
use Rattle.std.proofs.lemmas.List.Folds.{list_all-map}
use Rattle.fnl_markup.specs.Step.{encodes}
use Rattle.fnl_markup.specs.Tags.{plain_attribute}
use Rattle.fnl_markup.proofs.encoding.are_utf8.Goals as goal

pub returns : goal.returns
returns c =
    all_from_yields_List (λ a. encodes (plain_attribute a)) _ _ _ c.all.ensures.ran (YieldsList-from_slice c.args.attributes.now cc) (λ x b q k. search (rules, tests))
    ∙ sym (list_all-map encodes plain_attribute c.args.attributes.now)
