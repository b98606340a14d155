-- Where a byte leads from a number.
use Rattle.std.proofs.Common.{◌≡◌, ℕ, zero, suc, ◌+◌, ◌*◌, ◌^◌, ◌<◌, ◌≤◌, List, [], ◌∷◌, ◌++◌, Option, None, Some, refl, inl, inr, subst, arith}
use Rattle.std.specs.Prelude.{decimal}
use Rattle.rvc_base.specs.declared.trap.Trap.TheVariants.{Overflow}
use Rattle.rvc_base.specs.Trap.{trap_name}
use Rattle.trace_text.specs.declared.line.Line.{Line}
use Rattle.trace_text.specs.declared.line.Line.TheVariants.{Header, Inst, Fire, Grow, Trap, Stall}
use Rattle.trace_text.specs.declared.place.Place.{Place}
use Rattle.trace_text.specs.declared.place.Place.TheVariants.{Number, AtName, AtTrap, Ended, Lost}
use Rattle.trace_text.specs.declared.place.Field.{Field}
use Rattle.trace_text.specs.declared.place.Field.TheVariants.{Instances, Links, GrowingInstances, GrowingLinks, Limit, Instance, FiringInst, FiringAction, TrappingInst, TrappingAction, StalledInst, StalledAction, StalledLink, GrownLink, GrownCapacity}
use Rattle.trace_text.specs.declared.place.Part.TheVariants.{Path}
use Rattle.trace_text.specs.Waiting.{Then, Numbers, IsDigit, IsLimited, least_of, bound_of, stop_of, follows, NamesTrap, Waits, IsAlive, Leads, StandsBehind, SoFar, IsWithin}
use Rattle.trace_text.proofs.Digits.{Stops, AllStop, no_first, no_end, stopped, unstopped, after_zero, too_great, more_digits, less_digits, one_digit, no_digit, a_digit_or_not}

then_stops : (c : ℕ) (P : List ℕ → Type 0) (tail : List ℕ) → (IsDigit c → ⊥) → Then c P tail → Stops tail
then_stops c P [] plain w = w
then_stops c P (b ∷ tail) plain w = λ digit. plain (subst IsDigit w.0 digit)

plain_stop : (field : Field) → IsDigit (stop_of field) → ⊥
plain_stop (Links instances) digit = omega arith
plain_stop (Limit instances links) digit = omega arith
plain_stop (GrownCapacity link) digit = omega arith
plain_stop (FiringAction inst) digit = omega arith
plain_stop (StalledLink inst action) digit = omega arith
plain_stop field digit = omega arith

pub field_stops : (field : Field) (line : Line) → AllStop (λ n. Then (stop_of field) (follows field line n))
field_stops field line n tail w = then_stops (stop_of field) (follows field line n) tail (plain_stop field) w

pub low_bound : (field : Field) → bound_of field ≤ 2 ^ 32
low_bound (FiringAction inst) = omega arith
low_bound (TrappingAction inst) = omega arith
low_bound (StalledAction inst) = omega arith
low_bound field = omega arith

high_bound : (field : Field) → 10 ≤ bound_of field
high_bound (FiringAction inst) = omega arith
high_bound (TrappingAction inst) = omega arith
high_bound (StalledAction inst) = omega arith
high_bound field = omega arith

least_low : (field : Field) → least_of field ≤ 1
least_low (Limit instances links) = omega arith
least_low field = omega arith

-- what follows a number follows none that is too small
follows_least : (field : Field) (line : Line) (n : ℕ) (tail : List ℕ) → follows field line n tail → least_of field ≤ n
follows_least (Limit instances links) line zero tail w = absurd w
follows_least (Limit instances links) line (suc n) tail w = omega arith
follows_least field line n tail w = omega arith

number_then : (bound n : ℕ) (after : ℕ → List ℕ → Type 0) (tail : List ℕ) → n < bound → after n tail
    → Numbers bound None after (decimal n ++ tail)
number_then bound n after tail low there = record { fits = tt; number = n; tail = tail; is_bounded = low; text = refl; follows = there }

zero_then : (bound : ℕ) (after : ℕ → List ℕ → Type 0) (tail : List ℕ) → 0 < bound → after 0 tail
    → Numbers bound None after (decimal 0 ++ tail)
zero_then bound after tail some there = record { fits = tt; number = 0; tail = tail; is_bounded = some; text = refl; follows = there }

pub overflow_end : (i n : ℕ) → NamesTrap i n (Trap i n Overflow) (trap_name Overflow ++ (10 ∷ []))
overflow_end i n = (Overflow, (refl, (refl, (refl, (refl, (refl, (refl, (refl, (refl, (refl, (refl, refl)))))))))))

-- some bytes follow each number of a field
abbrev pub HasMore : Field → ℕ → Type 0
HasMore field n = (line : Line) × (bytes : List ℕ) × follows field line n bytes

one_ends : (n l : ℕ) → IsLimited n l (Header n l 1) 1 []
one_ends n l = (refl, refl)

pub has_more : (field : Field) (n : ℕ) → least_of field ≤ n → HasMore field n
has_more (Limit m l) zero some = absurd (omega arith)
has_more (Limit m l) (suc n) some = (Header m l (suc n), [], (refl, refl))
has_more (GrowingLinks m) n some =
    (Header m n 1, decimal 1 ++ (10 ∷ []), number_then _ 1 _ (10 ∷ []) (omega arith) (refl, one_ends m n))
has_more GrowingInstances n some = (
  Header n 0 1,
  decimal 0 ++ (32 ∷ (decimal 1 ++ (10 ∷ []))),
  zero_then _ _ (32 ∷ (decimal 1 ++ (10 ∷ []))) (omega arith)
      (refl, number_then _ 1 _ (10 ∷ []) (omega arith) (refl, one_ends n 0)),
)
has_more (GrownCapacity l) n some = (Grow l n, [], (refl, refl))
has_more GrownLink n some = (Grow n 0, decimal 0 ++ (10 ∷ []), zero_then _ _ (10 ∷ []) (omega arith) (refl, (refl, refl)))
has_more (Links m) n some = (Header m n 0, [], (refl, refl))
has_more Instances n some = (Header n 0 0, decimal 0 ++ (10 ∷ []), zero_then _ _ (10 ∷ []) (omega arith) (refl, (refl, refl)))
has_more Instance n some = (Inst n, 97 ∷ 32 ∷ 97 ∷ 10 ∷ [], (refl, (refl, (refl, (refl, (refl, refl))))))
has_more (FiringAction i) n some = (Fire i n, [], (refl, refl))
has_more FiringInst n some = (Fire n 0, decimal 0 ++ (10 ∷ []), zero_then _ _ (10 ∷ []) (omega arith) (refl, (refl, refl)))
has_more (TrappingAction i) n some = (Trap i n Overflow, trap_name Overflow ++ (10 ∷ []), overflow_end i n)
has_more TrappingInst n some = (
  Trap n 0 Overflow,
  decimal 0 ++ (32 ∷ (trap_name Overflow ++ (10 ∷ []))),
  zero_then _ _ (32 ∷ (trap_name Overflow ++ (10 ∷ []))) (omega arith) (refl, overflow_end n 0),
)
has_more (StalledLink i a) n some = (Stall i a n, [], (refl, refl))
has_more (StalledAction i) n some = (Stall i n 0, decimal 0 ++ (10 ∷ []), zero_then _ _ (10 ∷ []) (omega arith) (refl, (refl, refl)))
has_more StalledInst n some = (
  Stall n 0 0,
  decimal 0 ++ (32 ∷ (decimal 0 ++ (10 ∷ []))),
  zero_then _ _ (32 ∷ (decimal 0 ++ (10 ∷ []))) (omega arith)
      (refl, zero_then _ _ (10 ∷ []) (omega arith) (refl, (refl, refl))),
)

pub alive_number : (field : Field) (n : ℕ) → least_of field ≤ n → n < bound_of field → IsAlive (Number field (Some n))
alive_number field n some low =
    let more = has_more field n some in
    (more.0, stop_of field ∷ more.1, unstopped (bound_of field) n _ (stop_of field ∷ more.1) (low_bound field) low (refl, more.2))

pub alive_none : (field : Field) → IsAlive (Number field None)
alive_none field =
    let more = has_more field (least_of field) (omega arith) in (
      more.0,
      decimal (least_of field) ++ (stop_of field ∷ more.1),
      number_then _ (least_of field) _ (stop_of field ∷ more.1) (omega (arith, high_bound field, least_low field)) (refl, more.2),
    )

pub lost : (place : Place) (byte : ℕ) → ((line : Line) (bytes : List ℕ) → Waits place line (byte ∷ bytes) → ⊥) → Leads place byte Lost
lost place byte none = record { onward = none; back = λ line bytes w. absurd w; alive = tt }

-- a first digit
pub leads_first : (field : Field) (d : ℕ) → least_of field ≤ d → d < 10 → Leads (Number field None) (48 + d) (Number field (Some d))
leads_first field d some digit = record {
  onward = λ line bytes w. one_digit (bound_of field) d _ bytes digit w;
  back = λ line bytes w. no_digit (bound_of field) d _ bytes digit w;
  alive = alive_number field d some (let h = high_bound field in omega arith);
}

-- a number that is too small waits for nothing
none_small : (field : Field) (d : ℕ) (line : Line) (bytes : List ℕ) → d < least_of field
    → Numbers (bound_of field) (Some d) (λ n. Then (stop_of field) (follows field line n)) bytes → ⊥
none_small field d line [] small w = no_end (bound_of field) (Some d) _ (field_stops field line) w
none_small field d line (b ∷ bytes) small w =
    let none : d ≡ 0 = omega (arith, least_low field) in
    a_digit_or_not b
    (λ digit. after_zero (bound_of field) b _ bytes (low_bound field) (field_stops field line) digit
    (subst (λ n. Numbers (bound_of field) (Some n) (λ n. Then (stop_of field) (follows field line n)) (b ∷ bytes)) none w))
    (λ plain.
    let end = stopped (bound_of field) d b _ bytes (low_bound field) (field_stops field line) plain w in
    omega (arith, follows_least field line d bytes end.follows.1))

-- a first digit that is too small
leads_small : (field : Field) (d : ℕ) → d < least_of field → Leads (Number field None) (48 + d) Lost
leads_small field d small = lost (Number field None) (48 + d)
    (λ line bytes w. none_small field d line bytes small
    (one_digit (bound_of field) d _ bytes (omega (arith, least_low field)) w))

-- a digit more
pub leads_more : (field : Field) (v d : ℕ) → 0 < v → d < 10 → v * 10 + d < bound_of field
    → Leads (Number field (Some v)) (48 + d) (Number field (Some (v * 10 + d)))
leads_more field v d some digit low =
    let high = low_bound field in
    record {
      onward = λ line bytes w. more_digits (bound_of field) v d _ bytes some (omega arith) digit w;
      back = λ line bytes w. less_digits (bound_of field) v d _ bytes some (omega arith) digit w;
      alive = alive_number field (v * 10 + d) (omega (arith, least_low field)) low;
    }

leads_great : (field : Field) (v d : ℕ) → 0 < v → d < 10 → bound_of field ≤ v * 10 + d
    → Leads (Number field (Some v)) (48 + d) Lost
leads_great field v d some digit great = lost (Number field (Some v)) (48 + d)
    (λ line bytes w. too_great (bound_of field) v d _ bytes (low_bound field) (field_stops field line) some digit great w)

leads_zero : (field : Field) (byte : ℕ) → IsDigit byte → Leads (Number field (Some 0)) byte Lost
leads_zero field byte digit = lost (Number field (Some 0)) byte
    (λ line bytes w. after_zero (bound_of field) byte _ bytes (low_bound field) (field_stops field line) digit w)

-- no digit where one is wanted
pub leads_none : (field : Field) (byte : ℕ) → (IsDigit byte → ⊥) → Leads (Number field None) byte Lost
leads_none field byte plain = lost (Number field None) byte
    (λ line bytes w. no_first (bound_of field) byte _ bytes (low_bound field) plain w)

-- a digit after some
pub leads_digit : (field : Field) (so_far : Option ℕ) (byte digit most number : ℕ)
    → byte ≡ 48 + digit → digit < 10 → most + 1 ≡ bound_of field
    → SoFar so_far digit most (Some number) → least_of field ≤ number
    → Leads (Number field so_far) byte (Number field (Some number))
leads_digit field None byte digit most number e low bound w some =
    let same : number ≡ digit = cc in
    rw (e, same) (leads_first field digit (subst (λ n. least_of field ≤ n) same some) low)
leads_digit field (Some zero) byte digit most number e low bound w some = absurd (let h : Some number ≡ None = w in cc)
leads_digit field (Some (suc v)) byte digit most number e low bound w some =
    rw (e, w.0) (leads_more field (suc v) digit (omega arith) low (omega arith))

pub leads_small_digit : (field : Field) (so_far : Option ℕ) (byte digit most number : ℕ)
    → byte ≡ 48 + digit → digit < 10 → most + 1 ≡ bound_of field
    → SoFar so_far digit most (Some number) → number < least_of field → Leads (Number field so_far) byte Lost
leads_small_digit field None byte digit most number e low bound w small =
    let same : number ≡ digit = cc in
    rw e (leads_small field digit (subst (λ n. n < least_of field) same small))
leads_small_digit field (Some zero) byte digit most number e low bound w small = absurd (let h : Some number ≡ None = w in cc)
leads_small_digit field (Some (suc v)) byte digit most number e low bound w small =
    absurd (omega (arith, w.0, least_low field))

-- the digits so far, if they aren't too few
pub leads_within : (field : Field) (so_far : Option ℕ) (byte digit most number : ℕ) (next : Place)
    → byte ≡ 48 + digit → digit < 10 → most + 1 ≡ bound_of field
    → SoFar so_far digit most (Some number) → IsWithin field number next → Leads (Number field so_far) byte next
leads_within field so_far byte digit most number next e low bound w within = elim within [
  | inl some ↦ rw some.1 (leads_digit field so_far byte digit most number e low bound w some.0)
  | inr small ↦ rw small.1 (leads_small_digit field so_far byte digit most number e low bound w small.0)
]

pub leads_no_digit : (field : Field) (so_far : Option ℕ) (byte digit most : ℕ)
    → byte ≡ 48 + digit → digit < 10 → most + 1 ≡ bound_of field
    → SoFar so_far digit most None → Leads (Number field so_far) byte Lost
leads_no_digit field None byte digit most e low bound w = absurd (let h : None ≡ Some digit = w in cc)
leads_no_digit field (Some zero) byte digit most e low bound w = leads_zero field byte (omega arith, omega arith)
leads_no_digit field (Some (suc v)) byte digit most e low bound w =
    rw e (leads_great field (suc v) digit (omega arith) low (omega arith))

-- the byte that stops a number
pub leads_stop : (field : Field) (v byte : ℕ) (next : Place) → (IsDigit byte → ⊥) → v < bound_of field → byte ≡ stop_of field
    → StandsBehind field v next → Leads (Number field (Some v)) byte next
leads_stop field v byte next plain low e there = record {
  onward = λ line bytes w. there.onward line bytes
      (stopped (bound_of field) v byte _ bytes (low_bound field) (field_stops field line) plain w).follows.1;
  back = λ line bytes w. unstopped (bound_of field) v _ (byte ∷ bytes) (low_bound field) low (e, there.back line bytes w);
  alive = there.alive;
}

pub leads_nowhere : (field : Field) (v byte : ℕ) → (IsDigit byte → ⊥)
    → (least_of field ≤ v → v < bound_of field → byte ≡ stop_of field → ⊥)
    → Leads (Number field (Some v)) byte Lost
leads_nowhere field v byte plain not = lost (Number field (Some v)) byte (λ line bytes w.
    let end = stopped (bound_of field) v byte _ bytes (low_bound field) (field_stops field line) plain w in
    not (follows_least field line v bytes end.follows.1) end.is_bounded end.follows.0)

-- behind the number of each field
straight : (field : Field) (n : ℕ) (next : Place) → ((line : Line) (bytes : List ℕ) → follows field line n bytes → Waits next line bytes)
    → ((line : Line) (bytes : List ℕ) → Waits next line bytes → follows field line n bytes) → IsAlive next → StandsBehind field n next
straight field n next on off some = record { onward = on; back = off; alive = some }

pub behind_instances : (n : ℕ) → StandsBehind Instances n (Number (Links n) None)
behind_instances n = straight Instances n (Number (Links n) None) (λ line bytes w. w) (λ line bytes w. w) (alive_none (Links n))

pub behind_instance : (n : ℕ) → StandsBehind Instance n (AtName n Path)
behind_instance n = straight Instance n (AtName n Path) (λ line bytes w. w) (λ line bytes w. w) (has_more Instance n (omega arith))

pub behind_firing : (n : ℕ) → StandsBehind FiringInst n (Number (FiringAction n) None)
behind_firing n = straight FiringInst n (Number (FiringAction n) None) (λ line bytes w. w) (λ line bytes w. w) (alive_none (FiringAction n))

pub behind_trapping : (n : ℕ) → StandsBehind TrappingInst n (Number (TrappingAction n) None)
behind_trapping n =
    straight TrappingInst n (Number (TrappingAction n) None) (λ line bytes w. w) (λ line bytes w. w) (alive_none (TrappingAction n))

pub behind_trap : (i n : ℕ) → StandsBehind (TrappingAction i) n (AtTrap i n)
behind_trap i n = straight (TrappingAction i) n (AtTrap i n) (λ line bytes w. w) (λ line bytes w. w) (has_more (TrappingAction i) n (omega arith))

pub behind_stalled : (n : ℕ) → StandsBehind StalledInst n (Number (StalledAction n) None)
behind_stalled n =
    straight StalledInst n (Number (StalledAction n) None) (λ line bytes w. w) (λ line bytes w. w) (alive_none (StalledAction n))

pub behind_link : (i n : ℕ) → StandsBehind (StalledAction i) n (Number (StalledLink i n) None)
behind_link i n =
    straight (StalledAction i) n (Number (StalledLink i n) None) (λ line bytes w. w) (λ line bytes w. w) (alive_none (StalledLink i n))

pub behind_growing : (n : ℕ) → StandsBehind GrowingInstances n (Number (GrowingLinks n) None)
behind_growing n =
    straight GrowingInstances n (Number (GrowingLinks n) None) (λ line bytes w. w) (λ line bytes w. w) (alive_none (GrowingLinks n))

pub behind_growing_links : (m n : ℕ) → StandsBehind (GrowingLinks m) n (Number (Limit m n) None)
behind_growing_links m n =
    straight (GrowingLinks m) n (Number (Limit m n) None) (λ line bytes w. w) (λ line bytes w. w) (alive_none (Limit m n))

pub behind_limit : (m l n : ℕ) → 1 ≤ n → StandsBehind (Limit m l) n (Ended (Header m l n))
behind_limit m l zero some = absurd (omega arith)
behind_limit m l (suc n) some =
    straight (Limit m l) (suc n) (Ended (Header m l (suc n))) (λ line bytes w. w) (λ line bytes w. w)
    (Header m l (suc n), [], (refl, refl))

pub behind_grown : (n : ℕ) → StandsBehind GrownLink n (Number (GrownCapacity n) None)
behind_grown n =
    straight GrownLink n (Number (GrownCapacity n) None) (λ line bytes w. w) (λ line bytes w. w) (alive_none (GrownCapacity n))
