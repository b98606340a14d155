-- How many tokens an action takes from the port of each of its patterns.
use Rattle.std.proofs.Common.{◌≡◌, ℕ, suc, ◌*◌, ◌≤◌, Bool, true, false, List, [], ◌∷◌, map, length, refl, sym, ap, ◌∙◌, Option, None, Some, arith}
use Rattle.std.specs.Prelude.{◌==◌, if◌then◌else◌, Contains}
use Rattle.std.proofs.Math.Nat.{mul-le-mul_left}
use Rattle.std.proofs.lemmas.Bool.Decides.{nat_tests}
use Rattle.cal_model.specs.Actor.{Actor, Pattern}
use Rattle.cal_model.specs.Rates.{parts_times, taken_on}
use Rattle.cal_model.specs.Sound.{AreDistinct, Each, IsPattern, IsRepeat, max_rate}

-- from the port of a pattern, as many as its names, repeated
abbrev pub TakesItsOwn : List Pattern → Pattern → Type 0
TakesItsOwn all q = taken_on q.port all ≡ parts_times (length q.names) q.repeat

pub same-port : (p : ℕ) → (p == p) ≡ true
same-port p = grind (arith, nat_tests)

pub other-port : (p r : ℕ) (b : Bool) → (p == r) ≡ b → (p ≡ r → ⊥) → b ≡ false
other-port p r true e h = let s : p ≡ r = grind (arith, nat_tests) in absurd (h s)
other-port p r false e h = refl

pub not-first : (p r : ℕ) (ps : List ℕ) → ¬ Contains (p ∷ ps) r → p ≡ r → ⊥
not-first p r ps h e = h (0, omega arith, e)

pub not-later : (p r : ℕ) (ps : List ℕ) → ¬ Contains (p ∷ ps) r → ¬ Contains ps r
not-later p r ps h (k, low, e) = h (suc k, omega arith, e)

behind : (q : Pattern) (all qs : List Pattern) → ¬ Contains (map (λ r. r.port) qs) q.port → Each (TakesItsOwn all) qs → Each (TakesItsOwn (q ∷ all)) qs
behind q all [] h own = tt
behind q all (r ∷ qs) h own =
    let differ : (q.port == r.port) ≡ false = other-port q.port r.port (q.port == r.port) refl (λ e. not-first r.port q.port (map (λ s. s.port) qs) h (sym e)) in
    (ap (λ b. if b then parts_times (length q.names) q.repeat else taken_on r.port all) differ ∙ own.0, behind q all qs (not-later r.port q.port (map (λ s. s.port) qs) h) own.1)

pub take-their-own : (qs : List Pattern) → AreDistinct (map (λ q. q.port) qs) → Each (TakesItsOwn qs) qs
take-their-own [] h = tt
take-their-own (q ∷ qs) h =
    (ap (λ b. if b then parts_times (length q.names) q.repeat else taken_on q.port qs) (same-port q.port), behind q qs qs h.0 (take-their-own qs h.1))

-- there are no more names than tokens
pub names-of-times : (n : ℕ) (repeat : Option ℕ) → IsRepeat repeat → n ≤ parts_times n repeat
names-of-times n None h = let e : n * 1 ≡ n = omega arith in omega (arith, e)
names-of-times n (Some m) h = let e : n * 1 ≤ n * m = mul-le-mul_left n h in let f : n * 1 ≡ n = omega arith in omega (arith, e, f)

pub few-names : (actor : Actor) (all qs : List Pattern) → ((port : ℕ) → taken_on port all ≤ max_rate) → Each (IsPattern actor) qs → Each (TakesItsOwn all) qs → Each (λ q. length q.names ≤ max_rate) qs
few-names actor all [] few is own = tt
few-names actor all (q ∷ qs) few is own =
    let n : length q.names ≤ parts_times (length q.names) q.repeat = names-of-times (length q.names) q.repeat is.0.repeat in
    let m : taken_on q.port all ≤ max_rate = few q.port in
    (omega (arith, n, m, own.0), few-names actor all qs few is.1 own.1)
