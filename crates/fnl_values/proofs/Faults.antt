-- Faults, and what they are the cause of.
use Rattle.std.proofs.Common.{◌≡◌, ℕ, zero, suc, ◌<◌, List, [], ◌∷◌, ◌++◌, length, refl, sym, ap, subst, arith}
use Rattle.std.specs.Prelude.{Contains, Option, None, Some, slice_index_or}
use Rattle.std.proofs.lemmas.List.Elements.{Contains-append_left, Contains-append_right}
use Rattle.std.proofs.lemmas.List.{append_assoc, append-nil}
use Rattle.rvc_base.specs.declared.refusal.Front.{Front}
use Rattle.rvc_base.specs.declared.refusal.Front.TheVariants as front
use Rattle.cal_model.specs.Kinding.{Judged, Fine, Broken}
use Rattle.const_env.specs.Judging.{Breaks}
use Rattle.const_env.specs.declared.fault.KindFault.{KindFault}
use Rattle.const_env.specs.declared.fault.KindFault.TheVariants as fault
use Rattle.cal_check.specs.Violations.{Violation, broken, all_broken, fine, all_fine, and_all}
use Rattle.cal_check.specs.Variables.{Found, found_in}
use Rattle.fnl_values.specs.Causes.{Refuses}
use Rattle.check_given.specs.Causes.{IsCause}
use Rattle.fnl_values.specs.Judging.{behind}

-- ---- contained

pub here : {A : Type 0} (x : A) (xs : List A) → Contains (x ∷ xs) x
here x xs = (0, omega arith, refl)

pub later : {A : Type 0} (x y : A) (xs : List A) → Contains xs x → Contains (y ∷ xs) x
later x y xs h = Contains-append_right (y ∷ []) xs x h

-- ---- in a file

-- each of these, in the file
in_file_of : (file : ℕ) (vs : List Violation) (v : Violation) (k : ℕ) → k < length vs → slice_index_or vs k v ≡ v
    → Contains (found_in file vs) (record { violation = v; file = file })
in_file_of file [] v k l e = absurd (omega (arith, l))
in_file_of file (y ∷ ys) v zero l e = (0, omega arith, ap (λ w. record { violation = w; file = file }) e)
in_file_of file (y ∷ ys) v (suc k) l e = later (record { violation = v; file = file }) (record { violation = y; file = file }) (found_in file ys) (in_file_of file ys v k (omega (arith, l)) e)

pub found_of : (file : ℕ) (vs : List Violation) (v : Violation) → Contains vs v → Contains (found_in file vs) (record { violation = v; file = file })
found_of file vs v h = in_file_of file vs v h.0 h.1 h.2

-- ---- causes

pub cause_in_first : (f : Front) (xs ys : List Found) → IsCause f xs → IsCause f (xs ++ ys)
cause_in_first (front.Refused r) xs ys h = Contains-append_left xs ys _ h
cause_in_first front.Memory xs ys h = tt

pub cause_in_others : (f : Front) (xs ys : List Found) → IsCause f ys → IsCause f (xs ++ ys)
cause_in_others (front.Refused r) xs ys h = Contains-append_right xs ys _ h
cause_in_others front.Memory xs ys h = tt

pub refuses_in_first : (f : KindFault) (vs ws : List Violation) → Refuses f vs → Refuses f (vs ++ ws)
refuses_in_first (fault.Broken rule at) vs ws h = Contains-append_left vs ws _ h
refuses_in_first fault.Memory vs ws h = tt

pub refuses_in_others : (f : KindFault) (vs ws : List Violation) → Refuses f ws → Refuses f (vs ++ ws)
refuses_in_others (fault.Broken rule at) vs ws h = Contains-append_right vs ws _ h
refuses_in_others fault.Memory vs ws h = tt

-- ---- parts that are judged one by one

pub breaks_first : {A : Type 0} (f : KindFault) (j : Judged A) (js : List (Judged A)) → Breaks f j → Refuses f (all_broken (j ∷ js))
breaks_first (fault.Broken rule at) j js h =
    subst (λ i. Contains (all_broken (i ∷ js)) (record { rule = rule; at = at })) (sym h) (here (record { rule = rule; at = at }) (all_broken js))
breaks_first fault.Memory j js h = tt

pub fine_first : {A : Type 0} (a : A) (j : Judged A) (js : List (Judged A)) → j ≡ Fine a → all_broken (j ∷ js) ≡ all_broken js
fine_first a j js h = ap (λ i. broken i ++ all_broken js) h

pub found_first : {A : Type 0} (a : A) (j : Judged A) (js : List (Judged A)) → j ≡ Fine a → all_fine (j ∷ js) ≡ and_all (Some a) (all_fine js)
found_first a j js h = ap (λ i. and_all (fine i) (all_fine js)) h

-- ---- what was found, and what comes

pub behind_more : {A : Type 0} (xs : List A) (x : A) (o : Option (List A)) → behind (xs ++ x ∷ []) o ≡ behind xs (and_all (Some x) o)
behind_more xs x None = refl
behind_more xs x (Some ys) = ap Some (append_assoc xs (x ∷ []) ys)

pub behind_all : {A : Type 0} (xs : List A) → behind xs (Some []) ≡ Some xs
behind_all xs = ap Some (append-nil xs)
