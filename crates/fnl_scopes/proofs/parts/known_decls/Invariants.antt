use Rattle.std.proofs.Common.{◌≡◌, map, length}
use Rattle.fnl_bind.specs.Scopes.{unknown_in_decls}
use Rattle.fnl_frames.specs.Views.{decl_of}
use Rattle.fnl_scopes.proofs.parts.known_decls.Given as goal

abbrev pub invariant-decls : goal.invariant-decls
invariant-decls l = unknown_in_decls (map decl_of l.rest) l.names ≡ unknown_in_decls (map decl_of l.initial.rest) l.names

abbrev pub decreases-decls : goal.decreases-decls
decreases-decls l = length l.rest
