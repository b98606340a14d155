-- What functions give is of the kinds of their types, since their routines leave it so.
use Rattle.std.proofs.Common.{◌≡◌, ℕ, suc, ◌+◌, ◌<◌, ◌≤◌, inl, inr, ⊎_elim, ℤ, pos, List, [], ◌∷◌, length, refl, ◌∙◌, subst, Some, arith}
use Rattle.std.specs.Prelude.{slice_get, slice_index_or, slice_set}
use Rattle.std.proofs.lemmas.Option.{slice_get-get_or}
use Rattle.rvc_base.specs.Arithmetic.{truth}
use Rattle.rvc_base.specs.Storing.{conv}
use Rattle.cal_model.specs.Value.{Value, Num, Truth, Items, Values, Nil, Cons, HasKind, count, kind_of_scalar}
use Rattle.cal_model.specs.Env.{Var}
use Rattle.code_ir.specs.Running.{State}
use Rattle.lower_base.specs.declared.callees.Formal.{Formal}
use Rattle.lower_base.specs.Callees.{Function}
use Rattle.lower_base.specs.Calling.{Answers, AreInRow, AreOfSizes, HasRoom, HoldArguments, HoldsArgument, Returns, Serves, outside}
use Rattle.lower_base.specs.Flat.{flat}
use Rattle.lower_base.specs.Following.{CutsOff}
use Rattle.lower_base.specs.Held.{AllApart, AreBelow, Holds, Keeps}
use Rattle.lower_base.specs.Names.{Name}
use Rattle.lower_base.specs.Placed.{World, state}
use Rattle.lower_base.proofs.Finding.{some_there}
use Rattle.lower_base.proofs.Keeping.{holds_still}
use Rattle.lower_base.proofs.Runs.{follows_more}
use Rattle.lower_base.proofs.Written.{Written}
use Rattle.lower_base.proofs.Singles.{AreSingles, IsSingleValue, KindsIn}
use Rattle.lower_base.proofs.Storing.{set_there, set_written, single_stored}

-- ---- cells of routines

pub keeps_anywhere : {low high : ℕ} {before now : List ℤ} (n m : ℕ) → Keeps 0 0 low high before now → Keeps n m low high before now
keeps_anywhere n m keeps = record { size = keeps.size; cell = λ c free apart. keeps.cell c (inr (omega arith)) apart }

-- what is written among the cells of routines
pub routine_keeps : (c size n m low high : ℕ) (before now : List ℤ) → low ≤ c → c + size ≤ high → Written c size before now → Keeps n m low high before now
routine_keeps c size n m low high before now le ge w = record {
  size = w.length_same;
  cell = λ d free apart. w.cell d (⊎_elim (λ (a : d + 1 ≤ low). inl (omega (arith, a, le))) (λ (a : high ≤ d). inr (omega (arith, a, ge))) apart);
}

-- ---- arguments in the cells of the formals

pub argument_unwritten : (x : Formal) (c : ℕ) (before now : List ℤ) (v : Value) → c + 1 ≤ x.cell → Written c 1 before now → HoldsArgument x before v → HoldsArgument x now v
argument_unwritten x c before now v le w h = record { kind = h.kind; number = h.number; is = h.is; there = w.cell x.cell (inr le) ∙ h.there }

pub unwritten : (xs : List Formal) (c d : ℕ) (before now : List ℤ) (vs : Values) → AreInRow d xs → c + 1 ≤ d → Written c 1 before now → HoldArguments xs before vs → HoldArguments xs now vs
unwritten [] c d before now Nil row le w h = tt
unwritten [] c d before now (Cons v vs) row le w h = absurd h
unwritten (x ∷ xs) c d before now Nil row le w h = absurd h
unwritten (x ∷ xs) c d before now (Cons v vs) row le w h =
    let at = row.0 in
    (argument_unwritten x c before now v (omega (arith, at, le)) w h.0, unwritten xs c (d + 1) before now vs row.1 (omega (arith, le)) w h.1)

pub written_more : (c size : ℕ) (a b d : List ℤ) → Written (c + 1) size a b → Written c 1 b d → Written c (suc size) a d
written_more c size a b d first second = record {
  length_same = second.length_same ∙ first.length_same;
  cell = λ k away. second.cell k (⊎_elim (λ (x : k < c). inl x) (λ (x : c + suc size ≤ k). inr (omega (arith, x))) away)
      ∙ first.cell k (⊎_elim (λ (x : k < c). inl (omega (arith, x))) (λ (x : c + suc size ≤ k). inr (omega (arith, x))) away);
}

-- the number of a single value
abbrev number_in : Value → ℤ
number_in (Num z) = z
number_in (Truth b) = truth b
number_in (Items vs) = pos 0

one_number : (v : Value) → IsSingleValue v → flat v ≡ number_in v ∷ []
one_number (Num z) s = refl
one_number (Truth b) s = refl
one_number (Items vs) s = absurd s

-- the cells with the arguments put into those of the formals
abbrev with_arguments : List Formal → Values → List ℤ → List ℤ
with_arguments (x ∷ xs) (Cons v vs) cells = slice_set (with_arguments xs vs cells) x.cell (conv x.kind (number_in v))
with_arguments xs vs cells = cells

record ArePutIn (xs : List Formal) (c : ℕ) (vs : Values) (cells : List ℤ) : Type 0 where
  written : Written c (length xs) cells (with_arguments xs vs cells)
  holds : HoldArguments xs (with_arguments xs vs cells) vs

put_in : (xs : List Formal) (c : ℕ) (vs : Values) (cells : List ℤ) → AreInRow c xs → AreOfSizes xs → count vs ≡ length xs → AreSingles vs → c + length xs ≤ length cells → ArePutIn xs c vs cells
put_in [] c Nil cells row sizes many singles room = record { written = record { length_same = refl; cell = λ d away. refl }; holds = tt }
put_in [] c (Cons v vs) cells row sizes many singles room = absurd (omega (arith, many))
put_in (x ∷ xs) c Nil cells row sizes many singles room = absurd (omega (arith, many))
put_in (x ∷ xs) c (Cons v vs) cells (at, row) (size, sizes) many (single, singles) room =
    let later : ArePutIn xs (c + 1) vs cells = put_in xs (c + 1) vs cells row sizes (omega (arith, many)) singles (omega (arith, room)) in
    let now : List ℤ = with_arguments xs vs cells in
    let z : ℤ = conv x.kind (number_in v) in
    let same = later.written.length_same in
    let old : slice_get now x.cell ≡ Some (slice_index_or now x.cell (pos 0)) = slice_get-get_or now x.cell (pos 0) (omega (arith, same, room, at)) in
    let one : Written x.cell 1 now (slice_set now x.cell z) = let e : x.cell + 0 ≡ x.cell = omega arith in subst (λ d. Written x.cell 1 now (slice_set now d z)) e (set_written now x.cell 1 0 z (omega arith)) in
    let wrote : Written c 1 now (slice_set now x.cell z) = subst (λ d. Written d 1 now (slice_set now x.cell z)) at one in
    let made = single_stored x.kind v (number_in v) size single (one_number v single) in
    record {
      written = written_more c (length xs) cells now (slice_set now x.cell z) later.written wrote;
      holds = (
        record { kind = made.0; number = z; is = made.1; there = set_there now x.cell (slice_index_or now x.cell (pos 0)) z old },
        unwritten xs c (c + 1) now (slice_set now x.cell z) vs row (omega arith) wrote later.holds,
      );
    }

pub kinds_in : (fs : List Function) (globals : List Name) (w : World) (serves : Serves w globals fs) (vars : List Var) (n : ℕ) (cells : List ℤ) → AreBelow n globals → AllApart w.low w.high globals
    → Holds globals w.tokens cells (outside vars) → HasRoom fs w.high cells → KindsIn w.calls vars fs
kinds_in fs globals w serves vars n cells below apart holds room text f e vs left singles many =
    let a : Answers w globals text f = serves text f e in
    let high = a.formals.high_end in
    let wide : w.high ≤ length cells = room (some_there text fs f e) in
    let p : ArePutIn f.formals a.formals.first vs cells = put_in f.formals a.formals.first vs cells a.formals.row a.formals.sizes many singles (omega (arith, high, wide)) in
    let now : List ℤ = with_arguments f.formals vs cells in
    let keeps : Keeps n n w.low w.high cells now = routine_keeps a.formals.first (length f.formals) n n w.low w.high cells now a.formals.low_end high p.written in
    let s : State = state a.routine.start [] (0 ∷ []) now left in
    let same = keeps.size in
    follows_more (w.calls vars text vs left) (Returns w f.result s 0 []) (CutsOff w 0 0 s) (λ v k. HasKind (kind_of_scalar f.result) v) (λ c. Unit {0})
    (a.goes vars vs [] 0 [] now left (omega (arith, wide, same)) (holds_still globals w.tokens (outside vars) keeps below apart holds) p.holds)
    (λ v k r. r.kind) (λ c r. tt)
