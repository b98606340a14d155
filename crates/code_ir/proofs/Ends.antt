-- A run of admitted code never gets stuck, and has exactly one end.
use Rattle.std.proofs.Common.{◌≡◌, ◌≢◌, ℕ, zero, suc, ◌<◌, refl, subst, ℤ, true, List, length, arith}
use Rattle.code_ir.specs.declared.outcome.Outcome.{Outcome}
use Rattle.code_ir.specs.Code.{Code, is_among, routine_of}
use Rattle.code_ir.specs.Running.{State, Next, Goes, Over, Lacks, Stuck, step, Ends, stop, go, Reaches, here, after, start, runs, HasItsTokens}
use Rattle.code_ir.specs.Typing.{IsAdmitted, begin}
use Rattle.code_ir.specs.Standing.{IsFine, Stands, entry, most_steps}
use Rattle.code_ir.proofs.Bodies.{entry-among, routine_of-entry}
use Rattle.code_ir.proofs.Safety.{fine}

pub start-stands : (code : Code) (e : ℕ) (cells : List ℤ) → IsAdmitted code → is_among e code.entries ≡ true → length cells ≡ code.cells → Stands code (start e cells)
start-stands code e cells admitted g n =
    let all : routine_of code e ≡ length code.routines = routine_of-entry code e admitted.places g in
    record {
      height = 0;
      below = 0;
      way = begin (entry-among code e g);
      operands = refl;
      framed = entry (omega arith);
      cells = n;
    }

fine-goes : (code : Code) (s t : State) (n : Next) → n ≡ Goes t → IsFine code s n → Stands code t
fine-goes code s t (Goes u) e f = let same : u ≡ t = cc in subst (Stands code) same f.0
fine-goes code s t (Over o cells) e f = cc
fine-goes code s t Lacks e f = cc
fine-goes code s t Stuck e f = cc

pub stands-later : (code : Code) (tokens : ℕ → List ℤ) {s t : State} → IsAdmitted code → Stands code s → Reaches code tokens s t → Stands code t
stands-later code tokens admitted stands here = stands
stands-later code tokens admitted stands (after {s = a} {t = b} e r) =
    stands-later code tokens admitted (fine-goes code a b (step code tokens a) e (fine code tokens a admitted stands)) r

not-stuck : (code : Code) (s : State) (n : Next) → IsFine code s n → n ≢ Stuck
not-stuck code s (Goes t) f e = cc
not-stuck code s (Over o cells) f e = cc
not-stuck code s Lacks f e = cc
not-stuck code s Stuck f e = f

pub never-stuck : (code : Code) (e : ℕ) (cells : List ℤ) (tokens : ℕ → List ℤ) (s : State) → IsAdmitted code → is_among e code.entries ≡ true → length cells ≡ code.cells → Reaches code tokens (start e cells) s → step code tokens s ≢ Stuck
never-stuck code e cells tokens s admitted g n r =
    not-stuck code s (step code tokens s) (fine code tokens s admitted (stands-later code tokens admitted (start-stands code e cells admitted g n) r))

-- ---- one end

pub one-end : (code : Code) (tokens : ℕ → List ℤ) {s : State} {o : Outcome} {c : List ℤ} (p : Outcome) (d : List ℤ) → Ends code tokens s o c → Ends code tokens s p d → (o ≡ p) × (c ≡ d)
one-end code tokens p d (stop e) (stop f) = (cc, cc)
one-end code tokens p d (stop e) (go f r) = cc
one-end code tokens p d (go e q) (stop f) = cc
one-end code tokens p d (go {t = t} e q) (go {t = u} f r) =
    let same : u ≡ t = cc in one-end code tokens p d q (subst (λ v. Ends code tokens v p d) same r)

-- if no state that a run comes by lacks a token, it ends
abbrev pub SomeEnd : Code → (ℕ → List ℤ) → State → Type 0
SomeEnd code tokens s = (o : Outcome) × (c : List ℤ) × Ends code tokens s o c

end-after : (code : Code) (tokens : ℕ → List ℤ) (s : State) (n : Next) → step code tokens s ≡ n → IsFine code s n → n ≢ Lacks → ((t : State) → step code tokens s ≡ Goes t → Stands code t → most_steps code t < most_steps code s → SomeEnd code tokens t) → SomeEnd code tokens s
end-after code tokens s (Goes t) e f token more = let end = more t e f.0 f.1 in (end.0, end.1, go e end.2)
end-after code tokens s (Over o cells) e f token more = (o, cells, stop e)
end-after code tokens s Lacks e f token more = absurd (token refl)
end-after code tokens s Stuck e f token more = absurd f

end-within : (n : ℕ) (code : Code) (tokens : ℕ → List ℤ) (s : State) → most_steps code s < n → IsAdmitted code → Stands code s → ((t : State) → Reaches code tokens s t → step code tokens t ≢ Lacks) → SomeEnd code tokens s
end-within zero code tokens s less admitted stands token = absurd (omega (arith, less))
end-within (suc n) code tokens s less admitted stands token =
    end-after code tokens s (step code tokens s) refl (fine code tokens s admitted stands) (token s here)
    (λ t e there fewer. end-within n code tokens t (omega (arith, less, fewer)) admitted there (λ u r. token u (after e r)))

pub some-end : (code : Code) (e : ℕ) (cells : List ℤ) (tokens : ℕ → List ℤ) → IsAdmitted code → is_among e code.entries ≡ true → length cells ≡ code.cells → HasItsTokens code e cells tokens → (o : Outcome) × (c : List ℤ) × runs code e cells tokens o c
some-end code e cells tokens admitted g n token =
    end-within (suc (most_steps code (start e cells))) code tokens (start e cells) (omega arith) admitted (start-stands code e cells admitted g n) token
