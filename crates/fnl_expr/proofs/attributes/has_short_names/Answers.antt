use Rattle.std.proofs.Common.{lit<, rules, tests, length}
use Rattle.std.specs.Prelude.{nat_le}
use Rattle.std.proofs.lemmas.Iterator.Search.{all_from_yields_List}
use Rattle.std.proofs.lemmas.Iterator.Splits.{YieldsList-from_str_split}
use Rattle.cal_lexer.specs.Lexis.{max_name}
use Rattle.fnl_expr.specs.Given.{has_short_names}
use Rattle.fnl_expr.proofs.attributes.has_short_names.Goals as goal

pub returns : goal.returns
unfolding has_short_names
returns c =
    all_from_yields_List (λ name. nat_le (length name) max_name) _ _ _ c.all.ensures.ran
    (YieldsList-from_str_split 46 c.args.text.now (lit< tt) c.split.ensures.text c.split.ensures.has_more c.split.ensures.pattern)
    (λ x b q k. search (rules, tests))
