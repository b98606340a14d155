-- Which files are open after one of them changed.
use Rattle.std.proofs.Common.{◌≡◌, ℕ, zero, suc, ◌<◌, ◌≢◌, Bool, true, false, List, [], ◌∷◌, ◌++◌, Option, None, is_some, map, length, get_or, set, refl, ap, sym, arith}

-- a further number whose file isn't open changes nothing
pub closed_more : {F : Type 0} (files : List (Option F)) (k : ℕ) → get_or (map is_some (files ++ None ∷ [])) k false ≡ get_or (map is_some files) k false
closed_more [] zero = refl
closed_more [] (suc k) = refl
closed_more (file ∷ files) zero = refl
closed_more (file ∷ files) (suc k) = closed_more files k

-- an open file has a place
pub open_within : (flags : List Bool) (k : ℕ) → get_or flags k false ≡ true → k < length flags
open_within [] k e = cc
open_within (flag ∷ flags) zero e = omega arith
open_within (flag ∷ flags) (suc k) e = let rest : k < length flags = open_within flags k e in omega arith

-- what was set is read back
pub set_here : (flags : List Bool) (k : ℕ) (flag : Bool) → k < length flags → get_or (set flags k flag) k false ≡ flag
set_here [] k flag e = absurd (omega arith)
set_here (f ∷ flags) zero flag e = refl
set_here (f ∷ flags) (suc k) flag e = set_here flags k flag (omega arith)

-- and nothing else changed
pub set_elsewhere : (flags : List Bool) (k other : ℕ) (flag : Bool) → other ≢ k → get_or (set flags k flag) other false ≡ get_or flags other false
set_elsewhere [] k other flag e = refl
set_elsewhere (f ∷ flags) zero zero flag e = absurd (e refl)
set_elsewhere (f ∷ flags) zero (suc other) flag e = refl
set_elsewhere (f ∷ flags) (suc k) zero flag e = refl
set_elsewhere (f ∷ flags) (suc k) (suc other) flag e = set_elsewhere flags k other flag (λ s. e (ap suc s))

-- a file that is put back leaves all as it was
pub put_back : (flags : List Bool) (k other : ℕ) → get_or flags k false ≡ true → get_or (set (set flags k false) k true) other false ≡ get_or flags other false
put_back [] k other e = cc
put_back (f ∷ flags) zero zero e = sym e
put_back (f ∷ flags) zero (suc other) e = refl
put_back (f ∷ flags) (suc k) zero e = refl
put_back (f ∷ flags) (suc k) (suc other) e = put_back flags k other e
