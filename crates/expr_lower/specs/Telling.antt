-- The words of the contracts of calls that tell what expressions give.
-- Not trusted: no promise is read with it.
use Rattle.std.specs.Prelude.{ℕ, List, ◌∷◌, Bool, ◌&&◌}
use Rattle.cal_ast.specs.Tree.{Tree}
use Rattle.lower_base.specs.declared.sorts.Sort.{Sort}
use Rattle.lower_base.specs.declared.sorts.Sort.TheVariants as sort
use Rattle.lower_base.specs.Callees.{Function}
use Rattle.lower_base.specs.Generators.{Counted}
use Rattle.lower_base.specs.Names.{Name, local}
use Rattle.lower_base.specs.Truths.{gives_at, under_gens}

-- two expressions give single values
abbrev pub both_single : List Function → List Name → Tree → Tree → Bool
both_single fs names left right = gives_at sort.Any 0 fs names left && gives_at sort.Any 0 fs names right

-- an element sees the variables of generators
abbrev pub of_elements : Sort → ℕ → List Function → List Name → Tree → Tree → Bool
of_elements s d fs names gens item = under_gens names gens (λ inner. gives_at s d fs inner item)

-- .. and first that of a generator that counts so
abbrev pub behind_counter : Sort → ℕ → List Function → List Name → Counted → Tree → Tree → Bool
behind_counter s d fs names x gens item = of_elements s d fs (local x.text x.kind 0 ∷ names) gens item
