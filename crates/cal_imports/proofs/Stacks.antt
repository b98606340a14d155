-- Open nodes, the innermost last in memory.
use Rattle.std.proofs.Common.{◌≡◌, List, [], ◌∷◌, ◌++◌, map, reverse, ap, ◌∙◌}
use Rattle.std.proofs.lemmas.List.{map-append, reverse-append}
use Rattle.cal_imports.specs.WalkView.{open_of}
use Rattle.cal_imports.specs.declared.walk.Open.{Open}

pub innermost : (os : List Open) (o : Open) → reverse (map open_of (os ++ o ∷ [])) ≡ open_of o ∷ reverse (map open_of os)
innermost os o = ap reverse (map-append open_of os (o ∷ [])) ∙ reverse-append (map open_of os) (open_of o ∷ [])
