-- Worked examples of storing, computed by the definition: numbers at both ends of their types, and one past each.
use Rattle.std.proofs.Common.{◌≡◌, refl, ℤ, pos, negsuc, true, false}
use Rattle.rvc_base.specs.declared.scalar.Scalar.{Scalar}
use Rattle.rvc_base.specs.declared.scalar.Scalar.TheVariants as scalar
use Rattle.cal_model.specs.Value.{Single, Many, Value, Num, Truth, Items, Nil, Cons, stored, zero_of}

-- a number stored in a type
abbrev kept_in : Scalar → ℤ → Value
kept_in t z = stored (Single t) (Num z)

-- ---- int ( size = 8 )

least_of_int_8 : kept_in (scalar.Int 8) (negsuc 127) ≡ Num (negsuc 127)
least_of_int_8 = refl

greatest_of_int_8 : kept_in (scalar.Int 8) (pos 127) ≡ Num (pos 127)
greatest_of_int_8 = refl

below_int_8 : kept_in (scalar.Int 8) (negsuc 128) ≡ Num (pos 127)
below_int_8 = refl

above_int_8 : kept_in (scalar.Int 8) (pos 128) ≡ Num (negsuc 127)
above_int_8 = refl

far_above_int_8 : kept_in (scalar.Int 8) (pos 200) ≡ Num (negsuc 55)
far_above_int_8 = refl

round_int_8 : kept_in (scalar.Int 8) (pos 256) ≡ Num (pos 0)
round_int_8 = refl

-- ---- uint ( size = 8 )

least_of_uint_8 : kept_in (scalar.Uint 8) (pos 0) ≡ Num (pos 0)
least_of_uint_8 = refl

greatest_of_uint_8 : kept_in (scalar.Uint 8) (pos 255) ≡ Num (pos 255)
greatest_of_uint_8 = refl

below_uint_8 : kept_in (scalar.Uint 8) (negsuc 0) ≡ Num (pos 255)
below_uint_8 = refl

above_uint_8 : kept_in (scalar.Uint 8) (pos 256) ≡ Num (pos 0)
above_uint_8 = refl

-- -56 and -257
far_below_uint_8 : kept_in (scalar.Uint 8) (negsuc 55) ≡ Num (pos 200)
far_below_uint_8 = refl

round_uint_8 : kept_in (scalar.Uint 8) (negsuc 256) ≡ Num (pos 255)
round_uint_8 = refl

-- ---- int ( size = 1 ), which holds -1 and 0

least_of_int_1 : kept_in (scalar.Int 1) (negsuc 0) ≡ Num (negsuc 0)
least_of_int_1 = refl

greatest_of_int_1 : kept_in (scalar.Int 1) (pos 0) ≡ Num (pos 0)
greatest_of_int_1 = refl

below_int_1 : kept_in (scalar.Int 1) (negsuc 1) ≡ Num (pos 0)
below_int_1 = refl

above_int_1 : kept_in (scalar.Int 1) (pos 1) ≡ Num (negsuc 0)
above_int_1 = refl

-- ---- uint ( size = 1 )

least_of_uint_1 : kept_in (scalar.Uint 1) (pos 0) ≡ Num (pos 0)
least_of_uint_1 = refl

greatest_of_uint_1 : kept_in (scalar.Uint 1) (pos 1) ≡ Num (pos 1)
greatest_of_uint_1 = refl

below_uint_1 : kept_in (scalar.Uint 1) (negsuc 0) ≡ Num (pos 1)
below_uint_1 = refl

above_uint_1 : kept_in (scalar.Uint 1) (pos 2) ≡ Num (pos 0)
above_uint_1 = refl

-- ---- int ( size = 32 )

least_of_int_32 : kept_in (scalar.Int 32) (negsuc 2147483647) ≡ Num (negsuc 2147483647)
least_of_int_32 = refl

greatest_of_int_32 : kept_in (scalar.Int 32) (pos 2147483647) ≡ Num (pos 2147483647)
greatest_of_int_32 = refl

below_int_32 : kept_in (scalar.Int 32) (negsuc 2147483648) ≡ Num (pos 2147483647)
below_int_32 = refl

above_int_32 : kept_in (scalar.Int 32) (pos 2147483648) ≡ Num (negsuc 2147483647)
above_int_32 = refl

-- ---- uint ( size = 32 )

least_of_uint_32 : kept_in (scalar.Uint 32) (pos 0) ≡ Num (pos 0)
least_of_uint_32 = refl

greatest_of_uint_32 : kept_in (scalar.Uint 32) (pos 4294967295) ≡ Num (pos 4294967295)
greatest_of_uint_32 = refl

below_uint_32 : kept_in (scalar.Uint 32) (negsuc 0) ≡ Num (pos 4294967295)
below_uint_32 = refl

above_uint_32 : kept_in (scalar.Uint 32) (pos 4294967296) ≡ Num (pos 0)
above_uint_32 = refl

-- ---- int ( size = 33 ) and uint ( size = 33 )

least_of_int_33 : kept_in (scalar.Int 33) (negsuc 4294967295) ≡ Num (negsuc 4294967295)
least_of_int_33 = refl

above_int_33 : kept_in (scalar.Int 33) (pos 4294967296) ≡ Num (negsuc 4294967295)
above_int_33 = refl

above_uint_33 : kept_in (scalar.Uint 33) (pos 8589934592) ≡ Num (pos 0)
above_uint_33 = refl

-- ---- int ( size = 63 ) and uint ( size = 63 )

greatest_of_int_63 : kept_in (scalar.Int 63) (pos 4611686018427387903) ≡ Num (pos 4611686018427387903)
greatest_of_int_63 = refl

above_int_63 : kept_in (scalar.Int 63) (pos 4611686018427387904) ≡ Num (negsuc 4611686018427387903)
above_int_63 = refl

below_uint_63 : kept_in (scalar.Uint 63) (negsuc 0) ≡ Num (pos 9223372036854775807)
below_uint_63 = refl

-- ---- int ( size = 64 ) and uint ( size = 64 )

least_of_int_64 : kept_in (scalar.Int 64) (negsuc 9223372036854775807) ≡ Num (negsuc 9223372036854775807)
least_of_int_64 = refl

below_int_64 : kept_in (scalar.Int 64) (negsuc 9223372036854775808) ≡ Num (pos 9223372036854775807)
below_int_64 = refl

above_int_64 : kept_in (scalar.Int 64) (pos 9223372036854775808) ≡ Num (negsuc 9223372036854775807)
above_int_64 = refl

greatest_of_uint_64 : kept_in (scalar.Uint 64) (pos 18446744073709551615) ≡ Num (pos 18446744073709551615)
greatest_of_uint_64 = refl

below_uint_64 : kept_in (scalar.Uint 64) (negsuc 0) ≡ Num (pos 18446744073709551615)
below_uint_64 = refl

above_uint_64 : kept_in (scalar.Uint 64) (pos 18446744073709551616) ≡ Num (pos 0)
above_uint_64 = refl

-- ---- the ends of all numbers

least_number_in_a_byte : kept_in (scalar.Uint 8) (negsuc 170141183460469231731687303715884105727) ≡ Num (pos 0)
least_number_in_a_byte = refl

greatest_number_in_a_byte : kept_in (scalar.Uint 8) (pos 170141183460469231731687303715884105727) ≡ Num (pos 255)
greatest_number_in_a_byte = refl

greatest_number_in_int_32 : kept_in (scalar.Int 32) (pos 170141183460469231731687303715884105727) ≡ Num (negsuc 0)
greatest_number_in_int_32 = refl

least_number_in_int_64 : kept_in (scalar.Int 64) (negsuc 170141183460469231731687303715884105727) ≡ Num (pos 0)
least_number_in_int_64 = refl

greatest_number_in_uint_64 : kept_in (scalar.Uint 64) (pos 170141183460469231731687303715884105727) ≡ Num (pos 18446744073709551615)
greatest_number_in_uint_64 = refl

-- ---- bool: 0 is false, and each other number is true

none_is_false : kept_in scalar.Bool (pos 0) ≡ Truth false
none_is_false = refl

one_is_true : kept_in scalar.Bool (pos 1) ≡ Truth true
one_is_true = refl

two_is_true : kept_in scalar.Bool (pos 2) ≡ Truth true
two_is_true = refl

minus_one_is_true : kept_in scalar.Bool (negsuc 0) ≡ Truth true
minus_one_is_true = refl

-- truth values are stored as they are
false_is_kept : stored (Single scalar.Bool) (Truth false) ≡ Truth false
false_is_kept = refl

true_is_kept : stored (Single scalar.Bool) (Truth true) ≡ Truth true
true_is_kept = refl

-- ---- lists, item by item

abbrev both_of : Value → Value → Value
both_of v w = Items (Cons v (Cons w Nil))

bytes_of_a_list : stored (Many 2 (Single (scalar.Uint 8))) (both_of (Num (negsuc 0)) (Num (pos 300))) ≡ both_of (Num (pos 255)) (Num (pos 44))
bytes_of_a_list = refl

bytes_of_two_lists : stored (Many 2 (Many 2 (Single (scalar.Uint 8)))) (both_of (both_of (Num (negsuc 0)) (Num (pos 300))) (both_of (Num (pos 256)) (Num (pos 7))))
    ≡ both_of (both_of (Num (pos 255)) (Num (pos 44))) (both_of (Num (pos 0)) (Num (pos 7)))
bytes_of_two_lists = refl

-- ---- what is declared without a value

zero_of_a_number : zero_of (Single (scalar.Int 8)) ≡ Num (pos 0)
zero_of_a_number = refl

zero_of_a_truth_value : zero_of (Single scalar.Bool) ≡ Truth false
zero_of_a_truth_value = refl

zero_of_lists : zero_of (Many 2 (Many 3 (Single (scalar.Uint 8))))
    ≡ both_of (Items (Cons (Num (pos 0)) (Cons (Num (pos 0)) (Cons (Num (pos 0)) Nil)))) (Items (Cons (Num (pos 0)) (Cons (Num (pos 0)) (Cons (Num (pos 0)) Nil))))
zero_of_lists = refl

zero_of_truth_values : zero_of (Many 2 (Single scalar.Bool)) ≡ both_of (Truth false) (Truth false)
zero_of_truth_values = refl
