-- The body and the routine of a place, and that ways stay inside the code.
use Rattle.std.proofs.Common.{◌≡◌, ℕ, zero, suc, ◌+◌, ◌<◌, ◌≤◌, refl, ap, ◌∙◌, subst, Bool, true, false, ◌||◌, List, [], ◌∷◌, ◌++◌, length, map, arith, add-one}
use Rattle.std.specs.Prelude.{Some, slice_get, ◌==◌}
use Rattle.std.proofs.lemmas.Bool.Decides.{nat_tests, Decides-eqb}
use Rattle.code_ir.specs.declared.instr.Instr.{Instr}
use Rattle.code_ir.specs.declared.instr.Instr.TheVariants as op
use Rattle.code_ir.specs.declared.instr.Routine.{Routine}
use Rattle.code_ir.specs.Code.{Code, begins, is_among, body_of, routine_at, routine_of}
use Rattle.code_ir.proofs.Effects.{chosen}
use Rattle.code_ir.specs.Typing.{AreDistinct, PlacesStand, IsAdmitted, IsTarget, Way, begin, next, jump, JumpsInside, target}

-- ---- bodies

pub body_of-begin : (code : Code) (p : ℕ) → is_among p (begins code) ≡ true → body_of code p ≡ p
body_of-begin code zero e = refl
body_of-begin code (suc p) e = rw e refl

pub body_of-next : (code : Code) (p : ℕ) → is_among (p + 1) (begins code) ≡ false → body_of code (p + 1) ≡ body_of code p
body_of-next code p e = let f : is_among (suc p) (begins code) ≡ false = rw add-one at e in rw (add-one, f) refl

-- ---- places in lists

pub or-left : (a b : Bool) → (a || b) ≡ false → a ≡ false
or-left true b e = e
or-left false b e = refl

pub or-right : (a b : Bool) → (a || b) ≡ false → b ≡ false
or-right true b e = cc
or-right false b e = e

pub or-cases : {P : Type 0} (a b : Bool) → (a || b) ≡ true → (a ≡ true → P) → (b ≡ true → P) → P
or-cases true b e p q = p refl
or-cases false b e p q = q e

pub or-true : (a b : Bool) → b ≡ true → (a || b) ≡ true
or-true true b e = refl
or-true false b e = e

pub eqb-same : (p : ℕ) → (p == p) ≡ true
eqb-same p = (Decides-eqb p p).1 refl

pub eqb-turned : (p q : ℕ) → (p == q) ≡ false → (q == p) ≡ false
eqb-turned p q e = grind (arith, nat_tests)

-- a place that is among distinct places is inside
pub among-inside : (size p : ℕ) (places : List ℕ) → AreDistinct size places → is_among p places ≡ true → p < size
among-inside size p [] d e = cc
among-inside size p (q ∷ places) d e =
    or-cases (q == p) (is_among p places) e (λ f. let g : q ≡ p = (Decides-eqb q p).0 f in let i : q < size = d.0 in omega arith) (λ f. among-inside size p places d.2 f)

-- ---- routines

pub routine_at-bound : (routines : List Routine) (p : ℕ) → routine_at routines p ≤ length routines
routine_at-bound [] p = omega arith
routine_at-bound (r ∷ routines) p =
    let rest : routine_at routines p ≤ length routines = routine_at-bound routines p in
    chosen (λ n. n ≤ suc (length routines)) (r.start == p) 0 (suc (routine_at routines p)) (λ _. omega arith) (λ _. omega arith)

-- if a place is among none, no routine starts there
no_start : (p r : ℕ) (x : Routine) (routines : List Routine) (entries : List ℕ) → is_among p (map (λ r. r.start) routines ++ entries) ≡ false → slice_get routines r ≡ Some x → (x.start == p) ≡ false
no_start p r x [] entries e g = cc
no_start p zero x (y ∷ routines) entries e g =
    let same : y ≡ x = cc in subst (λ z. (z.start == p) ≡ false) same (or-left (y.start == p) _ e)
no_start p (suc r) x (y ∷ routines) entries e g = no_start p r x routines entries (or-right (y.start == p) _ e) g

-- the routine whose body begins where a routine starts is that one
pub routine_at-start : (size r : ℕ) (x : Routine) (routines : List Routine) (entries : List ℕ) → AreDistinct size (map (λ r. r.start) routines ++ entries) → slice_get routines r ≡ Some x → routine_at routines x.start ≡ r
routine_at-start size r x [] entries d g = cc
routine_at-start size zero x (y ∷ routines) entries d g =
    let same : y ≡ x = cc in subst (λ z. routine_at (y ∷ routines) z.start ≡ 0) same (rw eqb-same refl)
routine_at-start size (suc r) x (y ∷ routines) entries d g =
    let other : (y.start == x.start) ≡ false = eqb-turned x.start y.start (no_start y.start r x routines entries d.1 g) in
    rw other (ap suc (routine_at-start size r x routines entries d.2 g))

pub start-among : (r : ℕ) (x : Routine) (routines : List Routine) (entries : List ℕ) → slice_get routines r ≡ Some x → is_among x.start (map (λ r. r.start) routines ++ entries) ≡ true
start-among r x [] entries g = cc
start-among zero x (y ∷ routines) entries g =
    let same : y ≡ x = cc in subst (λ z. is_among z.start (map (λ r. r.start) (y ∷ routines) ++ entries) ≡ true) same (rw eqb-same refl)
start-among (suc r) x (y ∷ routines) entries g = or-true (y.start == x.start) _ (start-among r x routines entries g)

-- the start of a routine is a place of its body
pub routine_of-start : (code : Code) (r : ℕ) (x : Routine) → PlacesStand code → slice_get code.routines r ≡ Some x → routine_of code x.start ≡ r
routine_of-start code r x places g =
    ap (routine_at code.routines) (body_of-begin code x.start (start-among r x code.routines code.entries g)) ∙ routine_at-start _ r x code.routines code.entries places.distinct g

-- ---- ways

pub target-of : (code : Code) (p t : ℕ) (i : Instr) → JumpsInside code p i → target i ≡ Some t → IsTarget code p t
target-of code p t (op.Jump u) inside e = let same : u ≡ t = cc in subst (IsTarget code p) same inside
target-of code p t (op.JumpIfNot u) inside e = let same : u ≡ t = cc in subst (IsTarget code p) same inside
target-of code p t i inside e = cc

pub way-inside : (code : Code) {p h : ℕ} → IsAdmitted code → Way code p h → p < length code.instrs
way-inside code {p} admitted (begin e) = among-inside (length code.instrs) p (begins code) admitted.places.distinct e
way-inside code admitted (next w g on enough) = (admitted.typed _ _ g).alone.after.inside on
way-inside code admitted (jump w g t enough) = (target-of code _ _ _ (admitted.typed _ _ g).alone.jumps t).inside

pub found : {X : Type 0} (xs : List X) (p : ℕ) → p < length xs → (x : X) × (slice_get xs p ≡ Some x)
found [] p h = absurd (omega arith)
found (x ∷ xs) zero h = (x, refl)
found (x ∷ xs) (suc p) h = found xs p (omega arith)

pub routine-next : (code : Code) (p : ℕ) → is_among (p + 1) (begins code) ≡ false → routine_of code (p + 1) ≡ routine_of code p
routine-next code p e = ap (routine_at code.routines) (body_of-next code p e)

other_place : (p e : ℕ) (more entries : List ℕ) → is_among p (more ++ entries) ≡ false → is_among e entries ≡ true → (p == e) ≡ false
other_place p e [] [] a b = cc
other_place p e [] (q ∷ entries) a b =
    or-cases (q == e) (is_among e entries) b (λ f. let same : q ≡ e = (Decides-eqb q e).0 f in subst (λ z. (p == z) ≡ false) same (eqb-turned q p (or-left (q == p) _ a))) (λ f. other_place p e [] entries (or-right (q == p) _ a) f)
other_place p e (m ∷ more) entries a b = other_place p e more entries (or-right (m == p) _ a) b

-- an entry is a place of no routine
pub routine_at-entry : (size e : ℕ) (routines : List Routine) (entries : List ℕ) → AreDistinct size (map (λ r. r.start) routines ++ entries) → is_among e entries ≡ true → routine_at routines e ≡ length routines
routine_at-entry size e [] entries d g = refl
routine_at-entry size e (y ∷ routines) entries d g =
    let other : (y.start == e) ≡ false = other_place y.start e (map (λ r. r.start) routines) entries d.1 g in
    rw other (ap suc (routine_at-entry size e routines entries d.2 g))

pub among-later : (e : ℕ) (more entries : List ℕ) → is_among e entries ≡ true → is_among e (more ++ entries) ≡ true
among-later e [] entries g = g
among-later e (m ∷ more) entries g = or-true (m == e) _ (among-later e more entries g)

pub entry-among : (code : Code) (e : ℕ) → is_among e code.entries ≡ true → is_among e (begins code) ≡ true
entry-among code e g = among-later e (map (λ r. r.start) code.routines) code.entries g

pub routine_of-entry : (code : Code) (e : ℕ) → PlacesStand code → is_among e code.entries ≡ true → routine_of code e ≡ length code.routines
routine_of-entry code e places g =
    ap (routine_at code.routines) (body_of-begin code e (entry-among code e g)) ∙ routine_at-entry _ e code.routines code.entries places.distinct g
