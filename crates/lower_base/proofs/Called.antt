-- A call does what calling the function does.
use Rattle.std.proofs.Common.{◌≡◌, ℕ, zero, suc, ◌+◌, ◌≤◌, ℤ, pos, List, [], ◌∷◌, ◌++◌, length, refl, ap, ◌∙◌, subst, Option, None, Some, arith, length-append}
use Rattle.std.specs.Prelude.{slice_get, slice_index_or, slice_set}
use Rattle.std.proofs.lemmas.Option.{slice_get-get_or}
use Rattle.rvc_base.specs.Storing.{conv}
use Rattle.cal_ast.specs.Tree as tree
use Rattle.cal_ast.specs.Tree.{Tree}
use Rattle.cal_model.specs.Value.{Values, Nil, Cons, count}
use Rattle.cal_model.specs.Outcome.{Gives, and_then, turn}
use Rattle.cal_model.specs.Env.{Env}
use Rattle.cal_model.specs.Expression.{eval, eval_all}
use Rattle.code_ir.specs.declared.instr.Instr.{Instr}
use Rattle.code_ir.specs.declared.instr.Instr.TheVariants as op
use Rattle.code_ir.specs.declared.instr.Routine.{Routine}
use Rattle.code_ir.specs.Effect.{Leaves}
use Rattle.code_ir.specs.Running.{Goes, State, Stuck, step, go_on, stop, Reaches, here, after}
use Rattle.lower_base.specs.declared.callees.Formal.{Formal}
use Rattle.lower_base.specs.Callees.{Function, function_named}
use Rattle.lower_base.specs.Calling.{Answers, AreInRow, AreOfSizes, HoldArguments, Returns, Serves, outside}
use Rattle.lower_base.specs.Coding.{call_code, formal_stores}
use Rattle.lower_base.specs.Flat.{flat}
use Rattle.lower_base.specs.Following.{CutsOff, Follows, Pushes}
use Rattle.lower_base.specs.Held.{Keeps}
use Rattle.lower_base.specs.Names.{Name}
use Rattle.lower_base.specs.Parted.{number_of}
use Rattle.lower_base.specs.Placed.{StandsAt, World, state}
use Rattle.lower_base.proofs.Doing.{Apart, Below, Does, Held, below_on, cut_after, cut_wider, still}
use Rattle.lower_base.proofs.Finding.{some_there}
use Rattle.lower_base.proofs.GivenKinds.{keeps_anywhere, routine_keeps, unwritten, written_more}
use Rattle.lower_base.proofs.Keeping.{holds_still, keeps_all, keeps_join, keeps_wider}
use Rattle.lower_base.proofs.Runs.{ends_join, follows_both, follows_more, follows_then, obeys, reaches_join, stands_left, stands_right}
use Rattle.lower_base.proofs.Written.{Written}
use Rattle.lower_base.proofs.Singles.{IsSingleValue, OnlySingles}
use Rattle.lower_base.proofs.Storing.{set_there, set_written, single_stored, store_leaves}

-- ---- arguments on the stack

-- the numbers of the values are pushed one after the other
abbrev pub ArePiled : Values → List ℤ → List ℤ → Type 0
ArePiled Nil stack top = top ≡ stack
ArePiled (Cons v vs) stack top = (z : ℤ) × (flat v ≡ z ∷ []) × IsSingleValue v × ArePiled vs (z ∷ stack) top

-- the run goes on to a place with the numbers of so many values on the stack
pub record Piles (w : World) (n m many : ℕ) (s : State) (end : ℕ) (vs : Values) (left : ℕ) : Type 0 where
  pub as_many : count vs ≡ many
  pub top : List ℤ
  pub piled : ArePiled vs s.stack top
  pub cells : List ℤ
  pub reaches : Reaches w.code w.tokens s (state end top s.frames cells left)
  pub keeps : Keeps n m w.low w.high s.cells cells

module _ (fs : List Function) (globals names : List Name) (w : World) (env : Env) (frames : List ℕ) (floor ceiling : ℕ) where
  abbrev pub DoesArgs : Tree → ℕ → ℕ → List Instr → ℕ → Type 0
  DoesArgs es base n code m = (stack cells : List ℤ) (left : ℕ) → StandsAt w.code.instrs base code → Below fs globals names w env frames floor ceiling n → Apart fs globals names w env frames floor ceiling → Held fs globals names w env frames floor ceiling cells
      → Follows (eval_all es w.calls env left) (Piles w n m (number_of es) (state base stack frames cells left) (base + length code)) (CutsOff w n m (state base stack frames cells left))

  pub does_no_arg : (base n : ℕ) → DoesArgs tree.nil base n [] n
  does_no_arg base n stack cells left stands below apart holds =
      let e : base ≡ base + 0 = omega arith in
      let s : State = state base stack frames cells left in
      record {
        as_many = refl;
        top = stack;
        piled = refl;
        cells = cells;
        reaches = subst (λ p. Reaches w.code w.tokens s (state p stack frames cells left)) e here;
        keeps = keeps_all n n w.low w.high cells;
      }

  pub does_arg_more : (e es : Tree) (base n k m : ℕ) (a b : List Instr) → n ≤ k → k ≤ m → Does fs globals names w env frames floor ceiling e base n a k
      → ((cells : List ℤ) (left : ℕ) → StandsAt w.code.instrs base a → Below fs globals names w env frames floor ceiling n → Apart fs globals names w env frames floor ceiling → Held fs globals names w env frames floor ceiling cells → OnlySingles (eval e w.calls env left))
      → DoesArgs es (base + length a) k b m → DoesArgs (tree.cons e es) base n (a ++ b) m
  does_arg_more e es base n k m a b le ge first single rest stack cells left stands below apart holds =
      let s : State = state base stack frames cells left in
      let end : base + length a + length b ≡ base + length (a ++ b) = omega (arith, length-append a b) in
      follows_then (eval e w.calls env left) (λ v j. and_then (eval_all es w.calls env j) (λ vs i. Gives (Cons v vs) i))
      (λ v j. Pushes w n k s (base + length a) v j × IsSingleValue v) (λ c. CutsOff w n k s c × Unit {0}) (Piles w n m (suc (number_of es)) s (base + length (a ++ b))) (CutsOff w n m s)
      (follows_both (eval e w.calls env left) (Pushes w n k s (base + length a)) (CutsOff w n k s) (λ v j. IsSingleValue v) (λ c. Unit {0})
      (first stack cells left (stands_left w.code.instrs base a b stands) below apart holds) (single cells left (stands_left w.code.instrs base a b stands) below apart holds))
      (λ v j both.
      let p : Pushes w n k s (base + length a) v j = both.0 in
      let t : State = state (base + length a) (p.number ∷ stack) frames p.cells j in
      follows_then (eval_all es w.calls env j) (λ vs i. Gives (Cons v vs) i) (Piles w k m (number_of es) t (base + length a + length b)) (CutsOff w k m t) (Piles w n m (suc (number_of es)) s (base + length (a ++ b))) (CutsOff w n m s)
      (rest (p.number ∷ stack) p.cells j (stands_right w.code.instrs base a b stands) (below_on fs globals names w env frames floor ceiling n k le below) apart (still fs globals names w env frames floor ceiling p.keeps below apart holds))
      (λ vs i q. record {
        as_many = ap suc q.as_many;
        top = q.top;
        piled = (p.number, p.is, both.1, q.piled);
        cells = q.cells;
        reaches = subst (λ x. Reaches w.code w.tokens s (state x q.top frames q.cells i)) end (reaches_join p.reaches q.reaches);
        keeps = keeps_join (keeps_wider n m (omega arith) ge p.keeps) (keeps_wider n m le (omega arith) q.keeps);
      })
      (λ c q. cut_after w n k m s t c le ge p.reaches p.keeps q))
      (λ c q. cut_wider w n k m s c ge q.0)

-- ---- .. and in the cells of the formals

-- the run goes on to a place, and the arguments stand in the cells of the formals
pub record ArePut (w : World) (xs : List Formal) (c : ℕ) (vs : Values) (s : State) (end : ℕ) (stack : List ℤ) : Type 0 where
  pub cells : List ℤ
  pub reaches : Reaches w.code w.tokens s (state end stack s.frames cells s.left)
  pub written : Written c (length xs) s.cells cells
  pub holds : HoldArguments xs cells vs

pub put_all : (w : World) (frames : List ℕ) (xs : List Formal) (c : ℕ) (vs : Values) (base : ℕ) (stack top cells : List ℤ) (left : ℕ) → AreInRow c xs → AreOfSizes xs → count vs ≡ length xs → ArePiled vs stack top
    → c + length xs ≤ length cells → StandsAt w.code.instrs base (formal_stores xs)
    → ArePut w xs c vs (state base top frames cells left) (base + length (formal_stores xs)) stack
put_all w frames [] c Nil base stack top cells left row sizes many piled room stands =
    let e : base ≡ base + 0 = omega arith in
    let s : State = state base top frames cells left in
    record {
      cells = cells;
      reaches = subst (λ x. Reaches w.code w.tokens s (state (base + 0) x frames cells left)) piled (subst (λ p. Reaches w.code w.tokens s (state p top frames cells left)) e here);
      written = record { length_same = refl; cell = λ d away. refl };
      holds = tt;
    }
put_all w frames [] c (Cons v vs) base stack top cells left row sizes many piled room stands = absurd (omega (arith, many))
put_all w frames (x ∷ xs) c Nil base stack top cells left row sizes many piled room stands = absurd (omega (arith, many))
put_all w frames (x ∷ xs) c (Cons v vs) base stack top cells left (at, row) (size, sizes) many (z, is, single, piled) room stands =
    let i : List Instr = op.Store x.cell (Some x.kind) ∷ [] in
    let s : State = state base top frames cells left in
    let later : ArePut w xs (c + 1) vs s (base + length (formal_stores xs)) (z ∷ stack) =
    put_all w frames xs (c + 1) vs base (z ∷ stack) top cells left row sizes (omega (arith, many)) piled (omega (arith, room)) (stands_left w.code.instrs base (formal_stores xs) i stands) in
    let place : ℕ = base + length (formal_stores xs) in
    let t : State = state place (z ∷ stack) frames later.cells left in
    let same = later.written.length_same in
    let old : slice_get later.cells x.cell ≡ Some (slice_index_or later.cells x.cell (pos 0)) = slice_get-get_or later.cells x.cell (pos 0) (omega (arith, same, room, at)) in
    let new : List ℤ = slice_set later.cells x.cell (conv x.kind z) in
    let there : slice_get w.code.instrs place ≡ Some (op.Store x.cell (Some x.kind)) = (stands_right w.code.instrs base (formal_stores xs) i stands).0 in
    let goes : step w.code w.tokens t ≡ go_on t (Leaves stack new) =
    obeys w.code w.tokens t (op.Store x.cell (Some x.kind)) there ∙ ap (go_on t) (store_leaves x.cell (Some x.kind) w.tokens stack later.cells z (slice_index_or later.cells x.cell (pos 0)) old) in
    let end : place + 1 ≡ base + length (formal_stores xs ++ i) = omega (arith, length-append (formal_stores xs) i) in
    let one : Written x.cell 1 later.cells new = let e : x.cell + 0 ≡ x.cell = omega arith in subst (λ d. Written x.cell 1 later.cells (slice_set later.cells d (conv x.kind z))) e (set_written later.cells x.cell 1 0 (conv x.kind z) (omega arith)) in
    let wrote : Written c 1 later.cells new = subst (λ d. Written d 1 later.cells new) at one in
    let made = single_stored x.kind v z size single is in
    record {
      cells = new;
      reaches = subst (λ p. Reaches w.code w.tokens s (state p stack frames new left)) end (reaches_join later.reaches (after goes here));
      written = written_more c (length xs) cells later.cells new later.written wrote;
      holds = (
        record { kind = made.0; number = conv x.kind z; is = made.1; there = set_there later.cells x.cell (slice_index_or later.cells x.cell (pos 0)) (conv x.kind z) old },
        unwritten xs c (c + 1) later.cells new vs row (omega arith) wrote later.holds,
      );
    }

-- ---- the call

pub does_call : (fs : List Function) (globals names : List Name) (w : World) (serves : Serves w globals fs) (env : Env) (frames : List ℕ) (floor ceiling : ℕ)
    (text : List ℕ) (args : Tree) (at base n m : ℕ) (code : List Instr) (f : Function) → function_named text fs ≡ Some f → number_of args ≡ length f.formals
    → DoesArgs fs globals names w env frames floor ceiling args base n code m
    → n ≤ m → Does fs globals names w env frames floor ceiling (tree.call text args at) base n (code ++ call_code f) m
does_call fs globals names w serves env frames floor ceiling text args at base n m code f e number does grows stack cells left stands below apart holds =
    follows_then (eval_all args w.calls env left) (λ vs j. turn j (λ k. w.calls env.globals text vs k)) (Piles w n m (number_of args) s (base + length code)) (CutsOff w n m s) (Pushes w n m s end) (CutsOff w n m s)
    (does stack cells left (stands_left w.code.instrs base code (call_code f) stands) below apart holds)
    (λ vs j p. turned vs j p) (λ c t. t)
  where
    s : State
    s = state base stack frames cells left

    end : ℕ
    end = base + length (code ++ call_code f)

    puts : List Instr
    puts = formal_stores f.formals

    a : Answers w globals text f
    a = serves text f e

    here_stands : StandsAt w.code.instrs (base + length code) (call_code f)
    here_stands = stands_right w.code.instrs base code (call_code f) stands

    turned : (vs : Values) (j : ℕ) → Piles w n m (number_of args) s (base + length code) vs j → Follows (turn j (λ k. w.calls env.globals text vs k)) (Pushes w n m s end) (CutsOff w n m s)
    turned vs zero p =
        let t : State = state (base + length code) p.top frames p.cells 0 in
        record { cells = p.cells; ends = ends_join p.reaches (stop (obeys w.code w.tokens t op.Turn here_stands.0)); keeps = p.keeps }
    turned vs (suc j) p =
        let t : State = state (base + length code) p.top frames p.cells (suc j) in
        let u : State = state (base + length code + 1) p.top frames p.cells j in
        let size = p.keeps.size in
        let some : w.high ≤ length cells = holds.2 (some_there text fs f e) in
        let high = a.formals.high_end in
        let many : count vs ≡ length f.formals = p.as_many ∙ number in
        let put : ArePut w f.formals a.formals.first vs u (base + length code + 1 + length puts) stack =
        put_all w frames f.formals a.formals.first vs (base + length code + 1) stack p.top p.cells j a.formals.row a.formals.sizes many p.piled (omega (arith, high, some, size))
        (stands_left w.code.instrs (base + length code + 1) puts (op.Call f.routine ∷ []) here_stands.1) in
        let place : ℕ = base + length code + 1 + length puts in
        let called : State = state place stack frames put.cells j in
        let inside : State = state a.routine.start stack ((place + 1) ∷ frames) put.cells j in
        let there : slice_get w.code.instrs place ≡ Some (op.Call f.routine) = (stands_right w.code.instrs (base + length code + 1) puts (op.Call f.routine ∷ []) here_stands.1).0 in
        let goes : step w.code w.tokens called ≡ Goes inside =
        obeys w.code w.tokens called (op.Call f.routine) there
        ∙ ap (λ (o : Option Routine). elim o [ None ↦ Stuck | Some routine ↦ Goes (record called { place = routine.start; frames = (place + 1) ∷ frames }) ]) a.is in
        let reached : Reaches w.code w.tokens s inside =
        reaches_join p.reaches (after (obeys w.code w.tokens t op.Turn here_stands.0) (reaches_join put.reaches (after goes here))) in
        let kept : Keeps n m w.low w.high cells put.cells = keeps_join p.keeps (routine_keeps a.formals.first (length f.formals) n m w.low w.high p.cells put.cells a.formals.low_end high put.written) in
        let finish : place + 1 ≡ end = omega (arith, length-append code (call_code f), length-append puts (op.Call f.routine ∷ [])) in
        let known = kept.size in
        follows_more (w.calls env.globals text vs j) (Returns w f.result inside (place + 1) frames) (CutsOff w 0 0 inside) (Pushes w n m s end) (CutsOff w n m s)
        (a.goes env.globals vs stack (place + 1) frames put.cells j (omega (arith, some, known)) (holds_still globals w.tokens (outside env.globals) kept below.1 apart.1 holds.1) put.holds)
        (λ v k r. record {
          number = r.number;
          is = r.is;
          cells = r.cells;
          reaches = subst (λ x. Reaches w.code w.tokens s (state x (r.number ∷ stack) frames r.cells k)) finish (reaches_join reached r.reaches);
          keeps = keeps_join kept (keeps_anywhere n m r.keeps);
        })
        (λ c r. record { cells = r.cells; ends = ends_join reached r.ends; keeps = keeps_join kept (keeps_anywhere n m r.keeps) })
