-- Two lists are equal behind the end of one if the other ends there too.
use Rattle.std.proofs.Common.{◌≡◌, ℕ, suc, false, List, [], ◌∷◌, map, length, refl, arith}
use Rattle.std.specs.Prelude.{◌==◌}
use Rattle.std.proofs.lemmas.Bool.Decides.{nat_tests}
use Rattle.cal_model.specs.View.{in_order, value_view}
use Rattle.cal_model.specs.declared.value.Value.{Value}
use Rattle.check_leaves.specs.Equal.{are_equal}

some_left : (n : ℕ) → (suc n == 0) ≡ false
some_left n = grind (arith, nat_tests)

pub ended : (vs ws : List Value) → length vs ≡ 0
    → (length ws == 0) ≡ are_equal (in_order (map value_view vs)) (in_order (map value_view ws))
ended [] [] h = refl
ended [] (w ∷ ws) h = some_left (length ws)
ended (v ∷ vs) ws h = absurd (omega (arith, h))
