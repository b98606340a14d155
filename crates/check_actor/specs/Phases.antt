-- What the parts of the check of a whole actor answer, beside the lists of what is broken.
-- Not trusted: no promise is read with it.
use Rattle.std.specs.Prelude.{◌≡◌, ◌≤◌, ℕ, suc, List, [], ◌++◌, length, map, nat_le, Some, if◌then◌else◌}
use Rattle.std.specs.declared.result.Result.{Result}
use Rattle.std.specs.declared.result.Result.TheVariants.{Ok, Err}
use Rattle.rvc_base.specs.Rules.{too_many_variables}
use Rattle.rvc_base.specs.declared.refusal.Front.{Front}
use Rattle.cal_model.specs.Actor.{Held, Proc}
use Rattle.cal_model.specs.Kinding.{Names}
use Rattle.cal_model.specs.Sound.{max_ports, max_variable_scalars}
use Rattle.cal_model.specs.View.{fun_view, port_view, proc_view}
use Rattle.cal_model.specs.declared.bound.BoundProc.{BoundProc}
use Rattle.cal_check.specs.Actors.{Source, all_funs, formals_broken, funs_broken, funs_of, heads_broken, ins_of, members_of, outs_of, place_of, procs_broken, procs_in, procs_of, scalars_of}
use Rattle.cal_check.specs.Ports.{each_port, header_broken}
use Rattle.cal_check.specs.Variables.{Found, found_in}
use Rattle.cal_check.specs.Violations.{all_fine, unless}
use Rattle.check_given.specs.Causes.{IsCause}
use Rattle.check_variable.specs.declared.header.Header.{Header}
use Rattle.check_actor.specs.declared.routines.Routines.{Routines}

-- ---- the header

-- what a header breaks over these names
abbrev pub header_over : Source → Names → List Found
header_over s names =
    found_in s.file (header_broken (ins_of s.actor) (outs_of s.actor) (place_of s.actor) names)

-- the ports of a header that breaks no rule
pub record IsHeaderOf (h : Header) (s : Source) (names : Names) : Type 0 where
  pub fine : header_over s names ≡ []
  pub ins : all_fine (each_port (ins_of s.actor) names) ≡ Some (map port_view h.ins.items)
  pub outs : all_fine (each_port (outs_of s.actor) names) ≡ Some (map port_view h.outs.items)
  pub few_ins : length h.ins.items ≤ max_ports
  pub few_outs : length h.outs.items ≤ max_ports

abbrev pub FindsHeader : Result Header Front → Source → Names → Type 0
FindsHeader (Ok h) s names = IsHeaderOf h s names
FindsHeader (Err f) s names = IsCause f (header_over s names)

-- ---- functions and procedures

abbrev pub procedures_of : Source → Names → List Proc → Type 0
procedures_of s names procs = all_fine (procs_of (procs_in (members_of s.actor)) names) ≡ Some procs

-- what the formals of procedures break
abbrev pub formals_found : Source → Names → List Found
formals_found s names = found_in s.file (formals_broken (procs_in (members_of s.actor)) names)

-- procedures whose formals break no rule
abbrev pub FindsProcs : Result (List BoundProc) Front → Source → Names → Type 0
FindsProcs (Ok procs) s names =
    (formals_found s names ≡ []) × procedures_of s names (map proc_view procs)
FindsProcs (Err f) s names = IsCause f (formals_found s names)

-- what the heads of functions and procedures break
abbrev pub heads_over : Source → Names → List Found
heads_over s names = heads_broken (all_funs s) names ++ formals_found s names

-- functions and procedures whose heads break no rule
pub record AreRoutinesOf (r : Routines) (s : Source) (names : Names) : Type 0 where
  pub fine : heads_over s names ≡ []
  pub funs : all_fine (funs_of (all_funs s) names) ≡ Some (map fun_view r.funs.items)
  pub procs : procedures_of s names (map proc_view r.procs)

abbrev pub FindsHeads : Result Routines Front → Source → Names → Type 0
FindsHeads (Ok r) s names = AreRoutinesOf r s names
FindsHeads (Err f) s names = IsCause f (heads_over s names)

-- what is inside procedures, and inside functions too

abbrev pub procs_found : Source → List Proc → Names → List Found
procs_found s procs names =
    found_in s.file (procs_broken (procs_in (members_of s.actor)) procs names)

abbrev pub routines_found : Source → List Proc → Names → List Found
routines_found s procs names = funs_broken (all_funs s) names ++ procs_found s procs names

-- ---- scalars

-- a count, or one more than the limit if it is more
abbrev pub capped : ℕ → ℕ
capped n = if nat_le n max_variable_scalars then n else suc max_variable_scalars

abbrev pub scalars_found : Source → List Held → List Found
scalars_found s vars = found_in s.file
    (unless (nat_le (scalars_of vars) max_variable_scalars) too_many_variables (place_of s.actor))
