use Rattle.std.proofs.Common.{◌≡◌, ◌∷◌, [], subst, rules, SFits, to_z, of_z}
use Rattle.std.proofs.lemmas.Int.{to_z-of_z}
use Rattle.rvc_base.specs.Width.{num_width}
use Rattle.code_ir.specs.declared.instr.Instr.TheVariants as op
use Rattle.lower_base.specs.Lowered.{IsPut}
use Rattle.expr_lower.specs.CounterView.{counter_view, gens_of}
use Rattle.expr_lower.proofs.Putting.{next_put}
use Rattle.expr_lower.proofs.counting.put_next.Goals as goal

pub returns-clause-added : goal.returns-clause-added
returns-clause-added c =
    let fits : SFits num_width c.args.x.high = search rules in
    let same : to_z num_width (of_z num_width c.args.x.high) ≡ c.args.x.high = to_z-of_z num_width c.args.x.high fits in
    next_put c.args.k (counter_view c.args.x) (gens_of c.args.rest.now) c.args.turn c.len-skip.result c.in_ok-out.out c.args.draft.now c.put_all.new.draft c.put_all-2.new.draft c.put_number.new.draft c.put_first.new.draft c.put.new.draft c.close.new.draft
    (subst (λ z. IsPut (op.Load c.args.k ∷ op.Const z ∷ op.Lt ∷ []) c.args.draft.now c.put_all.new.draft) same c.in_ok-put_all.ensures.added) c.in_ok-put_all-2.ensures.added c.in_ok-put_number.ensures.added c.in_ok-put_first.ensures.added c.in_ok-put.ensures.added
    (search rules) c.in_ok-out.ensures.place c.close.ensures.closed c.close.ensures.routines c.close.ensures.cells
