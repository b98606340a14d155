-- Causes of faults among rules that are broken.
use Rattle.std.proofs.Common.{◌≡◌, ℕ, zero, suc, ◌<◌, List, [], ◌∷◌, ◌++◌, length, ap, arith}
use Rattle.std.specs.Prelude.{Contains, slice_index_or}
use Rattle.std.proofs.lemmas.List.Elements.{Contains-append_left, Contains-append_right}
use Rattle.rvc_base.specs.declared.refusal.Front.{Front}
use Rattle.rvc_base.specs.declared.refusal.Front.TheVariants as front
use Rattle.cal_check.specs.Violations.{Violation}
use Rattle.cal_check.specs.Variables.{Found, found_in}
use Rattle.check_given.specs.Causes.{IsCause}

in_file_of : (file : ℕ) (vs : List Violation) (v : Violation) (k : ℕ) → k < length vs → slice_index_or vs k v ≡ v
    → Contains (found_in file vs) (record { violation = v; file = file })
in_file_of file [] v k l e = absurd (omega (arith, l))
in_file_of file (y ∷ ys) v zero l e = (0, omega arith, ap (λ w. record { violation = w; file = file }) e)
in_file_of file (y ∷ ys) v (suc k) l e =
    Contains-append_right (record { violation = y; file = file } ∷ []) (found_in file ys) (record { violation = v; file = file }) (in_file_of file ys v k (omega (arith, l)) e)

pub found_of : (file : ℕ) (vs : List Violation) (v : Violation) → Contains vs v → Contains (found_in file vs) (record { violation = v; file = file })
found_of file vs v h = in_file_of file vs v h.0 h.1 h.2

pub cause_in_first : (f : Front) (xs ys : List Found) → IsCause f xs → IsCause f (xs ++ ys)
cause_in_first (front.Refused r) xs ys h = Contains-append_left xs ys _ h
cause_in_first front.Memory xs ys h = tt

pub cause_in_others : (f : Front) (xs ys : List Found) → IsCause f ys → IsCause f (xs ++ ys)
cause_in_others (front.Refused r) xs ys h = Contains-append_right xs ys _ h
cause_in_others front.Memory xs ys h = tt
