-- Runs put together, and instructions that stand side by side.
use Rattle.std.proofs.Common.{◌≡◌, ℕ, suc, ◌+◌, ℤ, List, [], ◌∷◌, ◌++◌, length, ap, subst, Option, None, Some, arith}
use Rattle.std.specs.Prelude.{slice_get}
use Rattle.rvc_base.specs.declared.trap.Trap.{Trap}
use Rattle.cal_model.specs.Outcome.{Out, Gives, Traps, Lacks, Clashes, and_then}
use Rattle.code_ir.specs.declared.instr.Instr.{Instr}
use Rattle.code_ir.specs.declared.outcome.Outcome.{Outcome}
use Rattle.code_ir.specs.Code.{Code}
use Rattle.code_ir.specs.Running.{State, Stuck, step, obey, Ends, stop, go, Reaches, here, after}
use Rattle.lower_base.specs.Following.{Follows}
use Rattle.lower_base.specs.Placed.{StandsAt}

-- ---- runs

pub reaches_join : {code : Code} {tokens : ℕ → List ℤ} {s t u : State} → Reaches code tokens s t → Reaches code tokens t u → Reaches code tokens s u
reaches_join here r = r
reaches_join (after e q) r = after e (reaches_join q r)

pub ends_join : {code : Code} {tokens : ℕ → List ℤ} {s t : State} {o : Outcome} {cells : List ℤ} → Reaches code tokens s t → Ends code tokens t o cells → Ends code tokens s o cells
ends_join here r = r
ends_join (after e q) r = go e (ends_join q r)

-- a run that comes by a state ends as it does from there
pub ends_back : {code : Code} {tokens : ℕ → List ℤ} {s t : State} (o : Outcome) (cells : List ℤ) → Reaches code tokens s t → Ends code tokens s o cells → Ends code tokens t o cells
ends_back o cells here r = r
ends_back o cells (after e q) (stop f) = cc
ends_back {code = code} {tokens = tokens} o cells (after {t = a} e q) (go {t = b} f r) =
    let same : b ≡ a = cc in ends_back o cells q (subst (λ v. Ends code tokens v o cells) same r)

-- the instruction at a place is obeyed there
pub obeys : (code : Code) (tokens : ℕ → List ℤ) (s : State) (i : Instr) → slice_get code.instrs s.place ≡ Some i → step code tokens s ≡ obey code tokens s i
obeys code tokens s i e = ap (λ (o : Option Instr). elim o [ None ↦ Stuck | Some instr ↦ obey code tokens s instr ]) e

-- ---- outcomes

pub follows_then : {A B : Type 0} (o : Out A) (f : A → ℕ → Out B) (G : A → ℕ → Type 0) (T : Trap → Type 0) (H : B → ℕ → Type 0) (U : Trap → Type 0) → Follows o G T → ((v : A) (m : ℕ) → G v m → Follows (f v m) H U) → ((c : Trap) → T c → U c) → Follows (and_then o f) H U
follows_then (Gives v left) f G T H U r g t = g v left r
follows_then (Traps c) f G T H U r g t = t c r
follows_then Lacks f G T H U r g t = tt
follows_then Clashes f G T H U r g t = tt

pub follows_more : {A : Type 0} (o : Out A) (G : A → ℕ → Type 0) (T : Trap → Type 0) (H : A → ℕ → Type 0) (U : Trap → Type 0) → Follows o G T → ((v : A) (m : ℕ) → G v m → H v m) → ((c : Trap) → T c → U c) → Follows o H U
follows_more (Gives v left) G T H U r g t = g v left r
follows_more (Traps c) G T H U r g t = t c r
follows_more Lacks G T H U r g t = tt
follows_more Clashes G T H U r g t = tt

pub follows_both : {A : Type 0} (o : Out A) (G : A → ℕ → Type 0) (T : Trap → Type 0) (H : A → ℕ → Type 0) (U : Trap → Type 0) → Follows o G T → Follows o H U → Follows o (λ v m. G v m × H v m) (λ c. T c × U c)
follows_both (Gives v left) G T H U r q = (r, q)
follows_both (Traps c) G T H U r q = (r, q)
follows_both Lacks G T H U r q = tt
follows_both Clashes G T H U r q = tt

-- ---- instructions side by side

pub stands_left : (all : List Instr) (place : ℕ) (a b : List Instr) → StandsAt all place (a ++ b) → StandsAt all place a
stands_left all place [] b h = tt
stands_left all place (i ∷ a) b h = (h.0, stands_left all (place + 1) a b h.1)

pub stands_right : (all : List Instr) (place : ℕ) (a b : List Instr) → StandsAt all place (a ++ b) → StandsAt all (place + length a) b
stands_right all place [] b h = let e : place ≡ place + 0 = omega arith in subst (λ p. StandsAt all p b) e h
stands_right all place (i ∷ a) b h =
    let e : place + 1 + length a ≡ place + suc (length a) = omega arith in
    subst (λ p. StandsAt all p b) e (stands_right all (place + 1) a b h.1)
