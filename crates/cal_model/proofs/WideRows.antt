-- Worked examples of wide numbers: an actor that squares tokens of 64 bits, by the firing rule and the certification rule.
use Rattle.std.proofs.Common.{◌≡◌, ℕ, refl, pos, negsuc, List, [], ◌∷◌, codes, arith, inl}
use Rattle.std.specs.Prelude.{Option, Some, None}
use Rattle.rvc_base.specs.declared.scalar.Scalar.TheVariants as scalar
use Rattle.rvc_base.specs.declared.trap.Trap.TheVariants.{Overflow}
use Rattle.rvc_base.specs.Behaviour.{Picks, Fires, TrapsInBody}
use Rattle.cal_ast.specs.Tree.{Tree}
use Rattle.cal_ast.specs.declared.expr.BinOp.TheVariants.{Gt, Mul, Shr, BitAnd}
use Rattle.cal_model.specs.Value.{Single}
use Rattle.cal_model.specs.Actor.{Port, Action, Actor}
use Rattle.cal_model.specs.Selection.{start_of, Priorities, choice}
use Rattle.cal_model.specs.Firing.{effect}
use Rattle.cal_model.specs.Certified.{Interval, Ranged, between, all_numbers, range, HasTameGuards, IsCertified}
use Rattle.cal_model.proofs.Rows.{n_, two, name_}
use Rattle.cal_model.proofs.ActorRows.{takes_, acts_, actor_}
use Rattle.cal_model.proofs.PriorityRows.{unranked}

abbrev a_ : Tree
a_ = name_ (codes "a")

abbrev wide_port : List ℕ → Port
wide_port name = record { name = name; kind = scalar.Uint 64 }

abbrev squares_if : List Tree → Action
squares_if guards = acts_ [] (takes_ 0 (codes "a" ∷ []) ∷ []) guards [] (two Mul a_ a_)

abbrev mul_if : List Tree → Actor
mul_if guards = record (actor_ (wide_port (codes "In") ∷ []) [] (squares_if guards ∷ []) [] [] []) { outs = wide_port (codes "Out") ∷ [] }

-- actor Mul() uint(size=64) In ==> uint(size=64) Out : action In:[a] ==> Out:[a * a] end end
abbrev mul : Actor
mul = mul_if []

abbrev order : Priorities mul
order = unranked mul refl

picks : choice mul order (start_of mul) ((pos 2147483648 ∷ []) ∷ []) ≡ Picks 0
picks = refl

-- 2 ^ 31 gives 2 ^ 62, and 2 ^ 33 gives 2 ^ 66, of which 64 bits are 0
squares : effect mul order (start_of mul) ((pos 2147483648 ∷ []) ∷ []) 0 ≡ Some (Fires (start_of mul) ((pos 4611686018427387904 ∷ []) ∷ []))
squares = refl

squares_wrapped : effect mul order (start_of mul) ((pos 8589934592 ∷ []) ∷ []) 0 ≡ Some (Fires (start_of mul) ((pos 0 ∷ []) ∷ []))
squares_wrapped = refl

-- the greatest token, whose square is no number of the language
overflows : effect mul order (start_of mul) ((pos 18446744073709551615 ∷ []) ∷ []) 0 ≡ Some (TrapsInBody Overflow)
overflows = refl

-- ---- ranges

abbrev wide_names : List Ranged
wide_names = record { name = codes "a"; shape = Single (scalar.Uint 64); value = None } ∷ record { name = codes "b"; shape = Single (scalar.Int 64); value = None } ∷ []

abbrev b_ : Tree
b_ = name_ (codes "b")

of_a_signed_square : range (two Mul b_ b_) wide_names ≡ Some (between (negsuc 85070591730234615856620279821087277055) (pos 85070591730234615865843651857942052864))
of_a_signed_square = refl

of_a_square : range (two Mul a_ a_) wide_names ≡ None
of_a_square = refl

of_a_shift : range (two Shr a_ (n_ 127)) wide_names ≡ Some (between (pos 0) (pos 18446744073709551615))
of_a_shift = refl

of_too_great_a_shift : range (two Shr a_ (n_ 128)) wide_names ≡ None
of_too_great_a_shift = refl

of_bits : range (two BitAnd a_ b_) wide_names ≡ Some all_numbers
of_bits = refl

-- with the guard `a * a > 0` it isn't certified, since the guard might trap
abbrev guarded : Actor
guarded = mul_if (two Gt (two Mul a_ a_) (n_ 0) ∷ [])

guard_is_not_tame : ¬ HasTameGuards guarded (squares_if (two Gt (two Mul a_ a_) (n_ 0) ∷ []))
guard_is_not_tame h = let found : ◌≡◌ {A = Option Interval} None (Some h.0.1.0) = h.0.1.1 in grind arith

guarded_is_not_certified : ¬ IsCertified guarded
guarded_is_not_certified h = guard_is_not_tame (h.guards 0 0 (squares_if (two Gt (two Mul a_ a_) (n_ 0) ∷ [])) (inl (omega arith)) refl refl)
