use Rattle.std.proofs.Common.{◌≡◌, ◌++◌, List}
use Rattle.lower_base.specs.Names.{Name, named}
use Rattle.lower_base.specs.Seen.{locals_of}
use Rattle.lower_base.proofs.scope.local_named.Given as goal

abbrev pub invariant-outwards : goal.invariant-outwards
invariant-outwards l = (outer : List Name) → named l.text (locals_of l.at ++ outer) ≡ named l.text (locals_of l.initial.at ++ outer)
