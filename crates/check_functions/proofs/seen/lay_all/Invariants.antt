use Rattle.std.proofs.Common.{◌≡◌, map, length}
use Rattle.std.specs.Prelude.{string_bytes}
use Rattle.const_env.specs.Held.{names_in}
use Rattle.check_functions.specs.Known.{fun_decls}
use Rattle.check_functions.specs.Order.{laid}
use Rattle.check_functions.proofs.seen.lay_all.Given as goal

abbrev pub invariant-names : goal.invariant-names
invariant-names l = laid (map string_bytes l.rest) l.order (fun_decls l.funs) (names_in l.env) ≡ laid (l.order).names l.order (fun_decls l.funs) (names_in l.initial.env)

abbrev pub decreases-names : goal.decreases-names
decreases-names l = length l.rest
