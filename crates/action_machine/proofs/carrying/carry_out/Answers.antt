use Rattle.std.proofs.Common.{rules, SFits, ◌∷◌, ap, sym, ◌∙◌}
use Rattle.std.proofs.lemmas.Int.{to_z-of_z}
use Rattle.rvc_base.specs.Width.{num_width}
use Rattle.code_ir.specs.Effect.{Leaves}
use Rattle.action_machine.specs.Stacks.{operands}
use Rattle.action_machine.proofs.Arms.{moved}
use Rattle.action_machine.proofs.carrying.carry_out.Goals as goal

pub returns-in-Const-clause-effect : goal.returns-in-Const-clause-effect
returns-in-Const-clause-effect g c =
    let fits : SFits num_width c.in-Const.v = search rules in
    moved (g.T.Tokens.tokens c.args.tokens.now) _ _ _ c.in-Const.is (λ tokens.
    ap (λ v. Leaves (v ∷ operands c.args.top.now c.args.stack.now) c.args.cells.now) (sym (to_z-of_z num_width c.in-Const.v fits))
    ∙ c.constant.ensures c.args.cells.now tokens)

pub returns-in-Load-clause-effect : goal.returns-in-Load-clause-effect
returns-in-Load-clause-effect g c = moved (g.T.Tokens.tokens c.args.tokens.now) _ _ _ c.in-Load.is (c.load.ensures)

pub returns-in-Store-clause-effect : goal.returns-in-Store-clause-effect
returns-in-Store-clause-effect g c = moved (g.T.Tokens.tokens c.args.tokens.now) _ _ _ c.in-Store.is (c.store.ensures.effect)

pub returns-in-Index-clause-effect : goal.returns-in-Index-clause-effect
returns-in-Index-clause-effect g c = moved (g.T.Tokens.tokens c.args.tokens.now) _ _ _ c.in-Index.is (c.index.ensures c.args.cells.now)

pub returns-in-LoadAt-clause-effect : goal.returns-in-LoadAt-clause-effect
returns-in-LoadAt-clause-effect g c = moved (g.T.Tokens.tokens c.args.tokens.now) _ _ _ c.in-LoadAt.is (c.load_at.ensures)

pub returns-in-StoreAt-clause-effect : goal.returns-in-StoreAt-clause-effect
returns-in-StoreAt-clause-effect g c = moved (g.T.Tokens.tokens c.args.tokens.now) _ _ _ c.in-StoreAt.is (c.store_at.ensures.effect)

pub returns-in-Copy-clause-effect : goal.returns-in-Copy-clause-effect
returns-in-Copy-clause-effect g c = moved (g.T.Tokens.tokens c.args.tokens.now) _ _ _ c.in-Copy.is (c.copy.ensures.effect (operands c.args.top.now c.args.stack.now))

pub returns-in-CopyTo-clause-effect : goal.returns-in-CopyTo-clause-effect
returns-in-CopyTo-clause-effect g c = moved (g.T.Tokens.tokens c.args.tokens.now) _ _ _ c.in-CopyTo.is (c.copy_to.ensures.effect)

pub returns-in-CopyFrom-clause-effect : goal.returns-in-CopyFrom-clause-effect
returns-in-CopyFrom-clause-effect g c = moved (g.T.Tokens.tokens c.args.tokens.now) _ _ _ c.in-CopyFrom.is (c.copy_from.ensures.effect)

pub returns-in-Zero-clause-effect : goal.returns-in-Zero-clause-effect
returns-in-Zero-clause-effect g c = moved (g.T.Tokens.tokens c.args.tokens.now) _ _ _ c.in-Zero.is (c.zero.ensures.effect (operands c.args.top.now c.args.stack.now))

pub returns-in-Neg-clause-effect : goal.returns-in-Neg-clause-effect
returns-in-Neg-clause-effect g c = moved (g.T.Tokens.tokens c.args.tokens.now) _ _ _ c.in-Neg.is (c.neg.ensures c.args.cells.now)

pub returns-in-BitNot-clause-effect : goal.returns-in-BitNot-clause-effect
returns-in-BitNot-clause-effect g c = moved (g.T.Tokens.tokens c.args.tokens.now) _ _ _ c.in-BitNot.is (c.bit_not.ensures c.args.cells.now)

pub returns-in-Not-clause-effect : goal.returns-in-Not-clause-effect
returns-in-Not-clause-effect g c = moved (g.T.Tokens.tokens c.args.tokens.now) _ _ _ c.in-Not.is (c.not.ensures c.args.cells.now)

pub returns-in-Add-clause-effect : goal.returns-in-Add-clause-effect
returns-in-Add-clause-effect g c = moved (g.T.Tokens.tokens c.args.tokens.now) _ _ _ c.in-Add.is (c.add.ensures c.args.cells.now)

pub returns-in-Sub-clause-effect : goal.returns-in-Sub-clause-effect
returns-in-Sub-clause-effect g c = moved (g.T.Tokens.tokens c.args.tokens.now) _ _ _ c.in-Sub.is (c.sub.ensures c.args.cells.now)

pub returns-in-Mul-clause-effect : goal.returns-in-Mul-clause-effect
returns-in-Mul-clause-effect g c = moved (g.T.Tokens.tokens c.args.tokens.now) _ _ _ c.in-Mul.is (c.mul.ensures c.args.cells.now)

pub returns-in-Div-clause-effect : goal.returns-in-Div-clause-effect
returns-in-Div-clause-effect g c = moved (g.T.Tokens.tokens c.args.tokens.now) _ _ _ c.in-Div.is (c.div.ensures c.args.cells.now)

pub returns-in-Mod-clause-effect : goal.returns-in-Mod-clause-effect
returns-in-Mod-clause-effect g c = moved (g.T.Tokens.tokens c.args.tokens.now) _ _ _ c.in-Mod.is (c.rem.ensures c.args.cells.now)

pub returns-in-Shl-clause-effect : goal.returns-in-Shl-clause-effect
returns-in-Shl-clause-effect g c = moved (g.T.Tokens.tokens c.args.tokens.now) _ _ _ c.in-Shl.is (c.shl.ensures c.args.cells.now)

pub returns-in-Shr-clause-effect : goal.returns-in-Shr-clause-effect
returns-in-Shr-clause-effect g c = moved (g.T.Tokens.tokens c.args.tokens.now) _ _ _ c.in-Shr.is (c.shr.ensures c.args.cells.now)

pub returns-in-And-clause-effect : goal.returns-in-And-clause-effect
returns-in-And-clause-effect g c = moved (g.T.Tokens.tokens c.args.tokens.now) _ _ _ c.in-And.is (c.bit_and.ensures c.args.cells.now)

pub returns-in-Or-clause-effect : goal.returns-in-Or-clause-effect
returns-in-Or-clause-effect g c = moved (g.T.Tokens.tokens c.args.tokens.now) _ _ _ c.in-Or.is (c.bit_or.ensures c.args.cells.now)

pub returns-in-Xor-clause-effect : goal.returns-in-Xor-clause-effect
returns-in-Xor-clause-effect g c = moved (g.T.Tokens.tokens c.args.tokens.now) _ _ _ c.in-Xor.is (c.bit_xor.ensures c.args.cells.now)

pub returns-in-Eq-clause-effect : goal.returns-in-Eq-clause-effect
returns-in-Eq-clause-effect g c = moved (g.T.Tokens.tokens c.args.tokens.now) _ _ _ c.in-Eq.is (c.eq.ensures c.args.cells.now)

pub returns-in-Ne-clause-effect : goal.returns-in-Ne-clause-effect
returns-in-Ne-clause-effect g c = moved (g.T.Tokens.tokens c.args.tokens.now) _ _ _ c.in-Ne.is (c.ne.ensures c.args.cells.now)

pub returns-in-Lt-clause-effect : goal.returns-in-Lt-clause-effect
returns-in-Lt-clause-effect g c = moved (g.T.Tokens.tokens c.args.tokens.now) _ _ _ c.in-Lt.is (c.lt.ensures c.args.cells.now)

pub returns-in-Le-clause-effect : goal.returns-in-Le-clause-effect
returns-in-Le-clause-effect g c = moved (g.T.Tokens.tokens c.args.tokens.now) _ _ _ c.in-Le.is (c.le.ensures c.args.cells.now)

pub returns-in-Gt-clause-effect : goal.returns-in-Gt-clause-effect
returns-in-Gt-clause-effect g c = moved (g.T.Tokens.tokens c.args.tokens.now) _ _ _ c.in-Gt.is (c.gt.ensures c.args.cells.now)

pub returns-in-Ge-clause-effect : goal.returns-in-Ge-clause-effect
returns-in-Ge-clause-effect g c = moved (g.T.Tokens.tokens c.args.tokens.now) _ _ _ c.in-Ge.is (c.ge.ensures c.args.cells.now)

pub returns-in-Drop-clause-effect : goal.returns-in-Drop-clause-effect
returns-in-Drop-clause-effect g c = moved (g.T.Tokens.tokens c.args.tokens.now) _ _ _ c.in-Drop.is (c.drop_top.ensures c.args.cells.now)
