-- Tokens of each size and their bytes, computed both ways by the definitions.
use Rattle.std.proofs.Common.{◌≡◌, [], ◌∷◌, pos, refl}
use Rattle.std.specs.Prelude.{negsuc}
use Rattle.rvc_base.specs.declared.scalar.Scalar.TheVariants.{Bool as Truth, Int, Uint}
use Rattle.net_model.specs.PortFile.{tokens, rest_of, all_encoded}

-- a truth value takes a byte; every byte but 0 is true, and true is written as 1
truths : tokens Truth (0 ∷ 1 ∷ 7 ∷ []) ≡ pos 0 ∷ pos 1 ∷ pos 1 ∷ []
truths = refl

truth_bytes : all_encoded Truth (pos 0 ∷ pos 1 ∷ []) ≡ 0 ∷ 1 ∷ []
truth_bytes = refl

-- up to 8 bits take a byte
bytes : tokens (Uint 8) (0 ∷ 128 ∷ 255 ∷ []) ≡ pos 0 ∷ pos 128 ∷ pos 255 ∷ []
bytes = refl

signed_bytes : tokens (Int 8) (0 ∷ 127 ∷ 128 ∷ 255 ∷ []) ≡ pos 0 ∷ pos 127 ∷ negsuc 127 ∷ negsuc 0 ∷ []
signed_bytes = refl

of_signed_bytes : all_encoded (Int 8) (pos 0 ∷ pos 127 ∷ negsuc 127 ∷ negsuc 0 ∷ []) ≡ 0 ∷ 127 ∷ 128 ∷ 255 ∷ []
of_signed_bytes = refl

-- a type of fewer bits than its bytes have keeps the low bits, and a number below 0 fills all bytes
three_bits : tokens (Int 3) (3 ∷ 4 ∷ 255 ∷ []) ≡ pos 3 ∷ negsuc 3 ∷ negsuc 0 ∷ []
three_bits = refl

of_three_bits : all_encoded (Int 3) (pos 3 ∷ negsuc 3 ∷ []) ≡ 3 ∷ 252 ∷ []
of_three_bits = refl

-- up to 16 bits take two bytes, the low one first, and a remainder of one byte is no token
pairs : tokens (Uint 9) (1 ∷ 1 ∷ 255 ∷ 255 ∷ 5 ∷ []) ≡ pos 257 ∷ pos 511 ∷ []
pairs = refl

rest_of_pairs : rest_of (Uint 9) (1 ∷ 1 ∷ 255 ∷ 255 ∷ 5 ∷ []) ≡ 1
rest_of_pairs = refl

signed_pairs : tokens (Int 16) (5 ∷ 0 ∷ 128 ∷ 255 ∷ 0 ∷ 128 ∷ []) ≡ pos 5 ∷ negsuc 127 ∷ negsuc 32767 ∷ []
signed_pairs = refl

of_signed_pairs : all_encoded (Int 16) (pos 5 ∷ negsuc 127 ∷ negsuc 32767 ∷ []) ≡ 5 ∷ 0 ∷ 128 ∷ 255 ∷ 0 ∷ 128 ∷ []
of_signed_pairs = refl

-- up to 32 bits take four
fours : tokens (Uint 17) (1 ∷ 2 ∷ 1 ∷ 0 ∷ 9 ∷ 9 ∷ 9 ∷ []) ≡ pos 66049 ∷ []
fours = refl

rest_of_fours : rest_of (Uint 17) (1 ∷ 2 ∷ 1 ∷ 0 ∷ 9 ∷ 9 ∷ 9 ∷ []) ≡ 3
rest_of_fours = refl

signed_fours : tokens (Int 32) (254 ∷ 255 ∷ 255 ∷ 255 ∷ 0 ∷ 0 ∷ 0 ∷ 128 ∷ []) ≡ negsuc 1 ∷ negsuc 2147483647 ∷ []
signed_fours = refl

of_signed_fours : all_encoded (Int 32) (negsuc 1 ∷ negsuc 2147483647 ∷ []) ≡ 254 ∷ 255 ∷ 255 ∷ 255 ∷ 0 ∷ 0 ∷ 0 ∷ 128 ∷ []
of_signed_fours = refl

of_fours : all_encoded (Uint 32) (pos 4294967295 ∷ pos 1 ∷ []) ≡ 255 ∷ 255 ∷ 255 ∷ 255 ∷ 1 ∷ 0 ∷ 0 ∷ 0 ∷ []
of_fours = refl

-- more take eight: the first token is one more than 2 ^ 32, and a remainder of three bytes is no token
eights : tokens (Uint 33) (1 ∷ 0 ∷ 0 ∷ 0 ∷ 1 ∷ 0 ∷ 0 ∷ 0 ∷ 9 ∷ 9 ∷ 9 ∷ []) ≡ pos 4294967297 ∷ []
eights = refl

rest_of_eights : rest_of (Uint 33) (1 ∷ 0 ∷ 0 ∷ 0 ∷ 1 ∷ 0 ∷ 0 ∷ 0 ∷ 9 ∷ 9 ∷ 9 ∷ []) ≡ 3
rest_of_eights = refl

signed_eights : tokens (Int 64) (254 ∷ 255 ∷ 255 ∷ 255 ∷ 255 ∷ 255 ∷ 255 ∷ 255 ∷ []) ≡ negsuc 1 ∷ []
signed_eights = refl

least_of_eights : tokens (Int 64) (0 ∷ 0 ∷ 0 ∷ 0 ∷ 0 ∷ 0 ∷ 0 ∷ 128 ∷ []) ≡ negsuc 9223372036854775807 ∷ []
least_of_eights = refl

of_signed_eights : all_encoded (Int 64) (negsuc 1 ∷ []) ≡ 254 ∷ 255 ∷ 255 ∷ 255 ∷ 255 ∷ 255 ∷ 255 ∷ 255 ∷ []
of_signed_eights = refl

of_eights : all_encoded (Uint 64) (pos 18446744073709551615 ∷ []) ≡ 255 ∷ 255 ∷ 255 ∷ 255 ∷ 255 ∷ 255 ∷ 255 ∷ 255 ∷ []
of_eights = refl

-- a type of fewer bits than its bytes have keeps the low bits
forty_bits : tokens (Uint 40) (1 ∷ 2 ∷ 3 ∷ 4 ∷ 5 ∷ 6 ∷ 7 ∷ 8 ∷ []) ≡ pos 21542142465 ∷ []
forty_bits = refl
