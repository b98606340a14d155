use Rattle.std.proofs.Common.{◌≡◌, ◌++◌, map, length}
use Rattle.fnl_bind.specs.Library.{decl_names}
use Rattle.fnl_bind.specs.Scopes.{keyed_decls, named_twice}
use Rattle.fnl_frames.specs.Views.{decl_of}
use Rattle.fnl_scopes.specs.Behind.{twice_behind}
use Rattle.fnl_scopes.proofs.once.decls_once.Given as goal

abbrev pub invariant-decls : goal.invariant-decls
invariant-decls l = record {
  same : twice_behind l.names (keyed_decls (map decl_of l.rest)) ≡ named_twice (keyed_decls (map decl_of l.initial.rest));
  met : l.names ++ decl_names (map decl_of l.rest) ≡ decl_names (map decl_of l.initial.rest);
}

abbrev pub decreases-decls : goal.decreases-decls
decreases-decls l = length l.rest
