use Rattle.std.proofs.Common.{sym, ◌∙◌}
use Rattle.const_env.specs.Counting.{names_view}
use Rattle.check_functions.specs.Known.{fun_decl}
use Rattle.check_actor.proofs.Owned.{own_breaks, own_lacks, own_none}
use Rattle.check_actor.proofs.own.check_own.Goals as goal

pub returns-in-Ok : goal.returns-in-Ok
returns-in-Ok c = own_none (fun_decl c.args.f) (names_view c.args.names.now) c.in-Ok.ensures

pub returns-then-lacks_name : goal.returns-then-lacks_name
returns-then-lacks_name c =
    own_lacks c.in-Err.fault (fun_decl c.args.f) (names_view c.args.names.now) (sym c.lacks_name.ensures ∙ c.if-lacks_name.true) c.in-Err.ensures.0

pub returns-else-lacks_name : goal.returns-else-lacks_name
returns-else-lacks_name c =
    own_breaks c.in-Err.fault (fun_decl c.args.f) (names_view c.args.names.now) (sym c.lacks_name.ensures ∙ c.if-lacks_name.false) c.in-Err.ensures
