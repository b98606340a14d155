-- Runs that begin with an instruction which clears cells.
use Rattle.std.proofs.Common.{◌≡◌, ℕ, zero, suc, ◌+◌, ◌≤◌, ℤ, pos, List, [], ◌∷◌, length, take, refl, sym, ap, subst, ◌∙◌, None, Some, arith}
use Rattle.std.specs.Prelude.{if◌then◌else◌, slice_get, slice_set}
use Rattle.std.proofs.lemmas.Bool.{le-leb}
use Rattle.std.proofs.lemmas.List.{length-set}
use Rattle.code_ir.specs.declared.instr.Instr.TheVariants as op
use Rattle.code_ir.specs.declared.outcome.Outcome.{Outcome}
use Rattle.code_ir.specs.Code.{Code}
use Rattle.code_ir.specs.Effect.{Breaks, Leaves, zeroed}
use Rattle.code_ir.specs.Running.{Ends, Goes, Over, State, Stuck, go, go_on, obey, runs, start, step, stop}

-- ---- cells that are cleared

pub zeroed-size : (n c : ℕ) (cells : List ℤ) → length (zeroed c n cells) ≡ length cells
zeroed-size zero c cells = refl
zeroed-size (suc n) c cells = zeroed-size n (c + 1) (slice_set cells c (pos 0)) ∙ length-set cells c (pos 0)

take-set : (k c : ℕ) (cells : List ℤ) (v : ℤ) → k ≤ c → take k (slice_set cells c v) ≡ take k cells
take-set zero c cells v le = refl
take-set (suc k) c [] v le = refl
take-set (suc k) zero (x ∷ cells) v le = absurd (omega (arith, le))
take-set (suc k) (suc c) (x ∷ cells) v le = ap (λ xs. x ∷ xs) (take-set k c cells v (omega (arith, le)))

pub take-zeroed : (n k c : ℕ) (cells : List ℤ) → k ≤ c → take k (zeroed c n cells) ≡ take k cells
take-zeroed zero k c cells le = refl
take-zeroed (suc n) k c cells le = take-zeroed n k (c + 1) (slice_set cells c (pos 0)) (omega (arith, le)) ∙ take-set k c cells (pos 0) le

-- ---- runs

module _ (code : Code) (tokens : ℕ → List ℤ) (entry c n : ℕ) (cells : List ℤ) (there : slice_get code.instrs entry ≡ Some (op.Zero c n)) (room : c + n ≤ length cells) where
  -- the first step clears the cells
  first-step : step code tokens (start entry cells) ≡ Goes (start (entry + 1) (zeroed c n cells))
  first-step =
      let obeyed : step code tokens (start entry cells) ≡ obey code tokens (start entry cells) (op.Zero c n) =
      ap (λ o. elim o [ None ↦ Stuck | Some i ↦ obey code tokens (start entry cells) i ]) there in
      obeyed
      ∙ ap (λ b. go_on (start entry cells) (if b then Leaves [] (zeroed c n cells) else Breaks)) (le-leb (c + n) (length cells) room)

  pub runs-on : (o : Outcome) (left : List ℤ) → runs code (entry + 1) (zeroed c n cells) tokens o left → runs code entry cells tokens o left
  runs-on o left run = go first-step run

  pub runs-so : {s : State} (o : Outcome) (left : List ℤ) → s ≡ start entry cells → Ends code tokens s o left → runs code (entry + 1) (zeroed c n cells) tokens o left
  runs-so {s} o left is (stop e) = absurd (by (sym first-step ∙ (sym (ap (step code tokens) is) ∙ e)))
    where
      by : Goes (start (entry + 1) (zeroed c n cells)) ≡ Over o left → ⊥
      by e = cc
  runs-so {s} o left is (go {t = t} e rest) =
      let same : Goes t ≡ Goes (start (entry + 1) (zeroed c n cells)) = sym e ∙ (ap (step code tokens) is ∙ first-step) in
      let there : t ≡ start (entry + 1) (zeroed c n cells) = cc in
      subst (λ z. Ends code tokens z o left) there rest
