use Rattle.std.proofs.Common.{◌≡◌, List, [], map, length}
use Rattle.cal_model.specs.Actor.{Held}
use Rattle.cal_check.specs.Variables.{none_yet, valued}
use Rattle.const_env.specs.Held.{globals_of}
use Rattle.fnl_bind.specs.Library.{var_decls}
use Rattle.fnl_frames.specs.Views.{decl_of}
use Rattle.check_given.specs.Given.{all_given, spot_of}
use Rattle.fnl_values.specs.Judging.{fine_so_far}
use Rattle.fnl_values.specs.Steady.{IsSteady}
use Rattle.fnl_values.proofs.declared.declared.Given as goal

abbrev pub invariant-decls : goal.invariant-decls
invariant-decls l = record {
  steady : IsSteady l.env;
  same : (after : List Held)
      × (valued (var_decls l.told.file (map decl_of l.rest)) (all_given l.told.given.now) (spot_of l.told.owner) [] (fine_so_far (globals_of l.env) after)
      ≡ valued (var_decls l.told.file (map decl_of l.initial.rest)) (all_given l.told.given.now) (spot_of l.told.owner) [] none_yet);
}

abbrev pub decreases-decls : goal.decreases-decls
decreases-decls l = length l.rest
