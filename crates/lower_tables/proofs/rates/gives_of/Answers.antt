use Rattle.std.proofs.Common.{◌++◌, [], ◌∷◌, map, ap, sym, ◌∙◌, arith}
use Rattle.std.specs.List.{range_with_len}
use Rattle.std.proofs.lemmas.List.FromFn.{map-range_with_len_more}
use Rattle.cal_model.specs.Rates.{give}
use Rattle.cal_model.specs.View.{actor_of}
use Rattle.lower_tables.proofs.rates.gives_of.Goals as goal

pub loop-port-preserved : goal.loop-port-preserved
loop-port-preserved c =
    c.in_ok-push.ensures.items ∙ ap (λ xs. xs ++ c.give.result ∷ []) c.loop-port.invariant
    ∙ ap (λ n. map (give (actor_of c.args.b.now) c.args.action) (range_with_len 0 c.loop-port.port) ++ n ∷ []) c.give.ensures
    ∙ sym (map-range_with_len_more (give (actor_of c.args.b.now) c.args.action) 0 c.loop-port.port c.loop-port.port (omega arith))
