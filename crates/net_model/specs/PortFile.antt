-- Port files: tokens and the bytes that hold them.
-- Trusted: part of what a promise means.
use Rattle.std.specs.Prelude.{ℕ, zero, suc, ◌+◌, ◌*◌, ◌/◌, ◌%◌, List, [], ◌∷◌, map, length, take, drop, ℤ, pos, if◌then◌else◌, nat_le, flat_map}
use Rattle.rvc_base.specs.declared.scalar.Scalar.{Scalar}
use Rattle.rvc_base.specs.declared.scalar.Scalar.TheVariants.{Bool as Truth, Int, Uint}
use Rattle.rvc_base.specs.Width.{max_token_bytes}
use Rattle.rvc_base.specs.Storing.{conv, low_part}

-- how many bits a byte has, and how many bytes there are
abbrev pub byte_bits : ℕ
byte_bits = 8

abbrev pub byte_values : ℕ
byte_values = 256

-- the first of these sizes in bytes that holds so many bits, or the greatest size of a token
abbrev pub first_to_hold : List ℕ → ℕ → ℕ
first_to_hold [] bits = max_token_bytes
first_to_hold (size ∷ sizes) bits = if nat_le bits (byte_bits * size) then size
    else first_to_hold sizes bits

-- how many bytes hold a number of this many bits: the least of 1, 2, 4 and the greatest size
abbrev pub bytes_for : ℕ → ℕ
bytes_for bits = first_to_hold (1 ∷ 2 ∷ 4 ∷ []) bits

-- how many bytes hold a token
abbrev pub token_bytes : Scalar → ℕ
token_bytes Truth = 1
token_bytes (Int n) = bytes_for n
token_bytes (Uint n) = bytes_for n

-- the number that bytes stand for, the lowest first
abbrev pub little_endian : List ℕ → ℕ
little_endian [] = 0
little_endian (b ∷ bs) = b + byte_values * little_endian bs

-- a number in so many bytes, the lowest first
abbrev pub to_little_endian : ℕ → ℕ → List ℕ
to_little_endian zero n = []
to_little_endian (suc count) n = n % byte_values ∷ to_little_endian count (n / byte_values)

-- the first pieces of bytes, each of the same size
abbrev pub pieces : ℕ → ℕ → List ℕ → List (List ℕ)
pieces zero size bytes = []
pieces (suc count) size bytes = take size bytes ∷ pieces count size (drop size bytes)

-- the token in a piece
abbrev pub token_of : Scalar → List ℕ → ℤ
token_of kind piece = conv kind (pos (little_endian piece))

-- the tokens in a file, without a remainder that is shorter than one
abbrev pub tokens : Scalar → List ℕ → List ℤ
tokens kind bytes =
    map (token_of kind) (pieces (length bytes / token_bytes kind) (token_bytes kind) bytes)

-- how many bytes at the end are no token
abbrev pub rest_of : Scalar → List ℕ → ℕ
rest_of kind bytes = length bytes % token_bytes kind

-- the bytes of a token: in two's complement, the lowest first
abbrev pub encoded : Scalar → ℤ → List ℕ
encoded kind v = to_little_endian (token_bytes kind) (low_part (byte_bits * token_bytes kind) v)

-- the bytes of tokens, one after another
abbrev pub all_encoded : Scalar → List ℤ → List ℕ
all_encoded kind vs = flat_map (encoded kind) vs
