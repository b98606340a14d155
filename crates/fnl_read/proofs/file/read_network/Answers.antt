use Rattle.std.proofs.Common.{◌≡◌, ◌∙◌, Err, IfErr, IfOk, length, ap, sym, subst}
use Rattle.fnl_markup.specs.Markup.{broken_of, tags_of}
use Rattle.fnl_markup.specs.Tags.{plain_tags}
use Rattle.fnl_read.specs.Elements.{run}
use Rattle.fnl_read.specs.Network.{IsRightly, Network, first_of}
use Rattle.fnl_frames.specs.Views.{net_of}
use Rattle.fnl_read.specs.States.{Fault, Going, fresh}
use Rattle.fnl_read.specs.Stepped.{Brings}
use Rattle.fnl_read.proofs.file.read_network.Goals as goal

pub returns-in-Err-Broken-clause-refused : goal.returns-in-Err-Broken-clause-refused
returns-in-Err-Broken-clause-refused c =
    let text = c.args.text.now in
    let tags = ap plain_tags c.deref.ensures.value ∙ c.in-Ok.ensures.tags in
    let ran : run (Going fresh) (plain_tags c.deref.result.now) ≡ Fault c.in-Err-Broken.rule c.in-Err-Broken.at =
    subst (λ stop. Brings (run (Going fresh) (plain_tags c.deref.result.now)) (Err stop)) c.in-Err-Broken.field-0-is c.in-Err-Broken.ensures in
    let spelt : run (Going fresh) (tags_of text) ≡ Fault c.in-Err-Broken.rule c.in-Err-Broken.at = ap (run (Going fresh)) (sym tags) ∙ ran in
    subst (λ next. IsRightly c.args.file (first_of next (broken_of text) (length text)) c.first_of.result) (sym spelt)
    (c.first_of.ensures (broken_of text) (length text) c.in-Ok.ensures.broken)

pub returns-clause-read : goal.returns-clause-read
returns-clause-read c =
    let text = c.args.text.now in
    let went = c.in-Ok-net_of_tags.ensures in
    let tags = ap plain_tags c.deref.ensures.value ∙ c.in-Ok.ensures.tags in
    let spelt : run (Going fresh) (tags_of text) ≡ Going went.0 = ap (run (Going fresh)) (sym tags) ∙ went.1 in
    subst (λ next. IfOk c.finish.result (λ net. first_of next (broken_of text) (length text) ≡ Network (net_of net))) (sym spelt)
    (c.finish.ensures.read (broken_of text) went.0 c.in-Ok.ensures.broken went.2)

pub returns-clause-refused : goal.returns-clause-refused
returns-clause-refused c =
    let text = c.args.text.now in
    let went = c.in-Ok-net_of_tags.ensures in
    let tags = ap plain_tags c.deref.ensures.value ∙ c.in-Ok.ensures.tags in
    let spelt : run (Going fresh) (tags_of text) ≡ Going went.0 = ap (run (Going fresh)) (sym tags) ∙ went.1 in
    subst (λ next. IfErr c.finish.result (IsRightly c.args.file (first_of next (broken_of text) (length text)))) (sym spelt)
    (c.finish.ensures.refused (broken_of text) went.0 c.in-Ok.ensures.broken went.2)
