use Rattle.std.proofs.Common.{◌∙◌, sym}
use Rattle.cal_model.proofs.Needs.{need-is, needs-few, repeated-in}
use Rattle.cal_model.proofs.rates.need.Goals as goal

pub taken_on-requires-clause-repeated : goal.taken_on-requires-clause-repeated
taken_on-requires-clause-repeated c =
    repeated-in c.args.b.now c.args.a c.from.result c.index.result.now c.from.ensures c.requires.action c.index.ensures c.deref.result.now c.requires.sound c.deref.ensures.value

pub taken_on-requires-clause-few : goal.taken_on-requires-clause-few
taken_on-requires-clause-few c =
    needs-few c.args.b.now c.args.a c.from.result c.index.result.now c.from.ensures c.requires.action c.index.ensures c.args.port c.deref.result.now c.requires.sound c.deref.ensures.value

pub returns : goal.returns
returns c =
    c.taken_on.ensures ∙ sym (need-is c.args.b.now c.args.a c.from.result c.index.result.now c.from.ensures c.requires.action c.index.ensures c.args.port c.deref.result.now c.deref.ensures.value)
