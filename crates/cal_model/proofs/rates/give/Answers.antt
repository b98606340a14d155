use Rattle.std.proofs.Common.{◌∙◌, sym}
use Rattle.cal_model.proofs.Needs.{give-is, gives-few, repeated-out}
use Rattle.cal_model.proofs.rates.give.Goals as goal

pub given_on-requires-clause-repeated : goal.given_on-requires-clause-repeated
given_on-requires-clause-repeated c =
    repeated-out c.args.b.now c.args.a c.from.result c.index.result.now c.from.ensures c.requires.action c.index.ensures c.deref.result.now c.requires.sound c.deref.ensures.value

pub given_on-requires-clause-few : goal.given_on-requires-clause-few
given_on-requires-clause-few c =
    gives-few c.args.b.now c.args.a c.from.result c.index.result.now c.from.ensures c.requires.action c.index.ensures c.args.port c.deref.result.now c.requires.sound c.deref.ensures.value

pub returns : goal.returns
returns c =
    c.given_on.ensures ∙ sym (give-is c.args.b.now c.args.a c.from.result c.index.result.now c.from.ensures c.requires.action c.index.ensures c.args.port c.deref.result.now c.deref.ensures.value)
