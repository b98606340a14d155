-- Admitted code steps to where it stands, and nearer to its end, or is over.
use Rattle.std.proofs.Common.{◌≡◌, ℕ, zero, suc, ◌+◌, ◌-◌, ◌<◌, ◌≤◌, refl, sym, ap, ◌∙◌, subst, ℤ, Bool, true, false, leb, List, [], ◌∷◌, length, arith}
use Rattle.std.specs.Prelude.{None, Some, slice_get}
use Rattle.rvc_base.specs.Arithmetic.{is_true}
use Rattle.code_ir.specs.declared.instr.Instr.{Instr}
use Rattle.code_ir.specs.declared.instr.Instr.TheVariants as op
use Rattle.code_ir.specs.declared.instr.Routine.{Routine}
use Rattle.code_ir.specs.Code.{Code, body_of, routine_at, routine_of, results_of}
use Rattle.code_ir.specs.Effect.{Effect, Leaves, Fails, LacksToken, Breaks, effect}
use Rattle.code_ir.specs.Running.{State, Goes, Stuck, step, obey, go_on, jump_if_not, turn, call, return, answer}
use Rattle.code_ir.specs.Typing.{IsAdmitted, IsTyped, IsTarget, Way, begin, next, jump, pops, pushes, goes_on, target, NamesCells}
use Rattle.code_ir.specs.Standing.{IsFine, Stands, Framed, entry, called, body_left, jumps_left, most_steps}
use Rattle.code_ir.proofs.Effects.{IsGood, effect-good, is_straight, chosen, test-le, test-lt}
use Rattle.code_ir.proofs.Bodies.{way-inside, found, routine-next, routine_of-start, start-among, routine_at-bound}
use Rattle.code_ir.proofs.Fuel.{fewer-on, fewer-back, jumps-few, forward, left-bound, called-less, body-positive}

module _ (code : Code) (s : State) (i : Instr) (admitted : IsAdmitted code) (stands : Stands code s) (at : slice_get code.instrs s.place ≡ Some i) where
  typed : IsTyped code s.place i
  typed = admitted.typed s.place i at

  inside : s.place < length code.instrs
  inside = way-inside code admitted stands.way

  enough : pops i ≤ stands.height
  enough = typed.height.enough stands.height stands.way

  -- on to the next place of the body, with these operands and cells
  go_on-stands : (stack cells : List ℤ) (left : ℕ) → goes_on i ≡ true → length stack ≡ length s.stack - pops i + pushes code i → length cells ≡ length s.cells → Stands code (record { place = s.place + 1; stack = stack; frames = s.frames; cells = cells; left = left })
  go_on-stands stack cells left on h n = record {
    height = stands.height - pops i + pushes code i;
    below = stands.below;
    way = next stands.way at on enough;
    operands = let e : pops i ≤ stands.height = enough in let f : length s.stack ≡ stands.height + stands.below = stands.operands in omega (arith, h);
    framed = subst (λ r. Framed code r s.frames stands.below) (sym (routine-next code s.place (typed.alone.after.same_body on))) stands.framed;
    cells = n ∙ stands.cells;
  }

  forward-fewer : (t : State) → t.left ≡ s.left → t.frames ≡ s.frames → routine_of code t.place ≡ routine_of code s.place → s.place < t.place → jumps_left (Some i) ≡ 1 → most_steps code t < most_steps code s
  forward-fewer t left frames same less one =
      let few : jumps_left (slice_get code.instrs t.place) ≤ 1 = jumps-few (slice_get code.instrs t.place) in
      let now : jumps_left (slice_get code.instrs s.place) ≡ 1 = ap jumps_left at ∙ one in
      let part : body_left code t.place < body_left code s.place = forward code s.place t.place less inside same in
      rw (left, frames) (fewer-on _ _ _ _ _ (omega (arith, few, now)) (omega (arith, part)))

  go_on-fine : (e : Effect) → goes_on i ≡ true → jumps_left (Some i) ≡ 1 → IsGood (length s.stack - pops i + pushes code i) (length s.cells) e → IsFine code s (go_on s e)
  go_on-fine (Leaves stack cells) on one good =
      (go_on-stands stack cells s.left on good.0 good.1, forward-fewer (record { place = s.place + 1; stack = stack; frames = s.frames; cells = cells; left = s.left }) refl refl (routine-next code s.place (typed.alone.after.same_body on)) (omega arith) one)
  go_on-fine (Fails trap) on one good = tt
  go_on-fine LacksToken on one good = tt
  go_on-fine Breaks on one good = good

  -- to the target of a jump, with these operands
  jump-stands : (t : ℕ) (stack : List ℤ) → target i ≡ Some t → IsTarget code s.place t → length stack ≡ length s.stack - pops i + pushes code i → Stands code (record { place = t; stack = stack; frames = s.frames; cells = s.cells; left = s.left })
  jump-stands t stack to target_is h = record {
    height = stands.height - pops i + pushes code i;
    below = stands.below;
    way = jump stands.way at to enough;
    operands = let e : pops i ≤ stands.height = enough in let f : length s.stack ≡ stands.height + stands.below = stands.operands in omega (arith, h);
    framed = subst (λ r. Framed code r s.frames stands.below) (sym (ap (routine_at code.routines) target_is.same_body)) stands.framed;
    cells = stands.cells;
  }

  jump-fewer : (t : ℕ) (stack : List ℤ) → IsTarget code s.place t → jumps_left (Some i) ≡ 1 → Stands code (record { place = t; stack = stack; frames = s.frames; cells = s.cells; left = s.left }) → most_steps code (record { place = t; stack = stack; frames = s.frames; cells = s.cells; left = s.left }) < most_steps code s
  jump-fewer t stack target_is one there = jump-either (leb t s.place) refl
    where
      jump-either : (b : Bool) → leb t s.place ≡ b → most_steps code (record { place = t; stack = stack; frames = s.frames; cells = s.cells; left = s.left }) < most_steps code s
      jump-either true e =
          let turns : slice_get code.instrs t ≡ Some op.Turn = target_is.turns (test-le t s.place e) in
          let none : jumps_left (slice_get code.instrs t) ≡ 0 = ap jumps_left turns in
          let now : jumps_left (slice_get code.instrs s.place) ≡ 1 = ap jumps_left at ∙ one in
          fewer-back _ _ _ _ _ (omega (arith, none, now)) (left-bound code t s.frames there.below admitted there.framed)
      jump-either false e = forward-fewer (record { place = t; stack = stack; frames = s.frames; cells = s.cells; left = s.left }) refl refl (ap (routine_at code.routines) target_is.same_body) (test-lt t s.place e) one

  -- a turn is made
  turn-fewer : (left : ℕ) → s.left ≡ suc left → jumps_left (Some i) ≡ 0 → goes_on i ≡ true → most_steps code (record { place = s.place + 1; stack = s.stack; frames = s.frames; cells = s.cells; left = left }) < most_steps code s
  turn-fewer left e none on =
      let few : jumps_left (slice_get code.instrs (s.place + 1)) ≤ 1 = jumps-few (slice_get code.instrs (s.place + 1)) in
      let part : body_left code (s.place + 1) < body_left code s.place = forward code s.place (s.place + 1) (omega arith) inside (routine-next code s.place (typed.alone.after.same_body on)) in
      fewer-on _ _ _ _ _ (omega (arith, few, e)) (omega (arith, part))

  turn-fine : (left : ℕ) → s.left ≡ left → jumps_left (Some i) ≡ 0 → goes_on i ≡ true → pops i ≡ 0 → pushes code i ≡ 0 → IsFine code s (turn s left)
  turn-fine zero e none on a b = tt
  turn-fine (suc left) e none on a b =
      (go_on-stands s.stack s.cells left on (omega (arith, a, b)) refl, turn-fewer left e none on)

  -- a call goes to the start of its routine
  call-stands : (r : ℕ) (x : Routine) → slice_get code.routines r ≡ Some x → r < routine_of code s.place → goes_on i ≡ true → pops i ≡ 0 → pushes code i ≡ results_of code r → Stands code (record { place = x.start; stack = s.stack; frames = (s.place + 1) ∷ s.frames; cells = s.cells; left = s.left })
  call-stands r x g less on none results =
      let here : routine_of code x.start ≡ r = routine_of-start code r x admitted.places g in
      let after : routine_of code (s.place + 1) ≡ routine_of code s.place = routine-next code s.place (typed.alone.after.same_body on) in
      let back : Way code (s.place + 1) (stands.height - pops i + pushes code i) = next stands.way at on enough in
      let height : stands.height - pops i + pushes code i ≡ stands.height + results_of code r = omega (arith, none, results) in
      record {
        height = 0;
        below = stands.height + stands.below;
        way = begin (start-among r x code.routines code.entries g);
        operands = let f : length s.stack ≡ stands.height + stands.below = stands.operands in omega arith;
        framed = subst (λ q. Framed code q ((s.place + 1) ∷ s.frames) (stands.height + stands.below)) (sym here)
            (called stands.height stands.below (subst (λ q. r < q) (sym after) less) (subst (λ h. Way code (s.place + 1) h) height back) (subst (λ q. Framed code q s.frames stands.below) (sym after) stands.framed));
        cells = stands.cells;
      }

  call-fewer : (r : ℕ) (x : Routine) → slice_get code.routines r ≡ Some x → r < routine_of code s.place → goes_on i ≡ true → jumps_left (Some i) ≡ 1 → most_steps code (record { place = x.start; stack = s.stack; frames = (s.place + 1) ∷ s.frames; cells = s.cells; left = s.left }) < most_steps code s
  call-fewer r x g less on one =
      let here : routine_of code x.start ≡ r = routine_of-start code r x admitted.places g in
      let after : routine_of code (s.place + 1) ≡ routine_of code s.place = routine-next code s.place (typed.alone.after.same_body on) in
      let few : jumps_left (slice_get code.instrs x.start) ≤ 1 = jumps-few (slice_get code.instrs x.start) in
      let now : jumps_left (slice_get code.instrs s.place) ≡ 1 = ap jumps_left at ∙ one in
      let part : body_left code x.start + body_left code (s.place + 1) < body_left code s.place = called-less code s.place x.start r inside less here after in
      fewer-on _ _ _ _ _ (omega (arith, few, now)) (omega (arith, part))

  call-fine : (r : ℕ) → r < routine_of code s.place → goes_on i ≡ true → jumps_left (Some i) ≡ 1 → pops i ≡ 0 → pushes code i ≡ results_of code r → IsFine code s (call code r s)
  call-fine r less on one none results =
      let bound : routine_of code s.place ≤ length code.routines = routine_at-bound code.routines (body_of code s.place) in
      let there : (x : Routine) × (slice_get code.routines r ≡ Some x) = found code.routines r (omega arith) in
      subst (λ o. IsFine code s (elim o [ None ↦ Stuck | Some routine ↦ Goes (record s { place = routine.start; frames = (s.place + 1) ∷ s.frames }) ])) (sym there.1)
      (call-stands r there.0 there.1 less on none results, call-fewer r there.0 there.1 less on one)

  -- a routine goes back to where it was called
  return-fine : (frames : List ℕ) (below : ℕ) → s.frames ≡ frames → stands.below ≡ below → Framed code (routine_of code s.place) frames below → routine_of code s.place < length code.routines → stands.height ≡ results_of code (routine_of code s.place) → jumps_left (Some i) ≡ 1 → IsFine code s (return s frames)
  return-fine frames below e b (entry all) less height one = absurd (omega (arith, all, less))
  return-fine frames below e b (called {f = f} {frames = more} h n smaller back rest) less height one = (
    record {
      height = h + results_of code (routine_of code s.place);
      below = n;
      way = back;
      operands = let g : length s.stack ≡ stands.height + stands.below = stands.operands in omega (arith, b, height);
      framed = rest;
      cells = stands.cells;
    },
    let few : jumps_left (slice_get code.instrs f) ≤ 1 = jumps-few (slice_get code.instrs f) in
        let now : jumps_left (slice_get code.instrs s.place) ≡ 1 = ap jumps_left at ∙ one in
        let part : 0 < body_left code s.place = body-positive code s.place inside in
        rw e (fewer-on _ _ _ _ _ (omega (arith, few, now)) (omega (arith, part))),
  )

jump_if_not-fine : (code : Code) (s : State) (t : ℕ) (stack : List ℤ) → IsAdmitted code → (stands : Stands code s) → slice_get code.instrs s.place ≡ Some (op.JumpIfNot t) → s.stack ≡ stack → IsFine code s (jump_if_not t s stack)
jump_if_not-fine code s t [] admitted stands at e =
    let enough : 1 ≤ stands.height = enough code s (op.JumpIfNot t) admitted stands at in
    let empty : length s.stack ≡ 0 = ap length e in
    let f : length s.stack ≡ stands.height + stands.below = stands.operands in
    absurd (omega arith)
jump_if_not-fine code s t (a ∷ stack) admitted stands at e =
    let i : Instr = op.JumpIfNot t in
    let h : length stack ≡ length s.stack - 1 + 0 = let g : length s.stack ≡ suc (length stack) = ap length e in omega arith in
    let to : IsTarget code s.place t = (typed code s i admitted stands at).alone.jumps in
    let after = (typed code s i admitted stands at).alone.after in
    let there = jump-stands code s i admitted stands at t stack refl to h in
    chosen (λ p. IsFine code s (Goes (record { place = p; stack = stack; frames = s.frames; cells = s.cells; left = s.left }))) (is_true a) (s.place + 1) t
    (λ _. (go_on-stands code s i admitted stands at stack s.cells s.left refl h refl, forward-fewer code s i admitted stands at (record { place = s.place + 1; stack = stack; frames = s.frames; cells = s.cells; left = s.left }) refl refl (routine-next code s.place (after.same_body refl)) (omega arith) refl))
    (λ _. (there, jump-fewer code s i admitted stands at t stack to refl there))

answer-fine : (code : Code) (s : State) (stack : List ℤ) → IsAdmitted code → (stands : Stands code s) → slice_get code.instrs s.place ≡ Some op.Answer → s.stack ≡ stack → IsFine code s (answer s stack)
answer-fine code s [] admitted stands at e =
    let enough : 1 ≤ stands.height = enough code s op.Answer admitted stands at in
    let empty : length s.stack ≡ 0 = ap length e in
    let f : length s.stack ≡ stands.height + stands.below = stands.operands in
    absurd (omega arith)
answer-fine code s (a ∷ stack) admitted stands at e = tt

straight-fine : (code : Code) (tokens : ℕ → List ℤ) (s : State) (i : Instr) → IsAdmitted code → Stands code s → slice_get code.instrs s.place ≡ Some i → is_straight i ≡ true → goes_on i ≡ true → jumps_left (Some i) ≡ 1 → IsFine code s (go_on s (effect tokens i s.stack s.cells))
straight-fine code tokens s i admitted stands at straight on one =
    let f : length s.stack ≡ stands.height + stands.below = stands.operands in
    let g : pops i ≤ stands.height = enough code s i admitted stands at in
    let cells = subst (λ n. NamesCells n i) (sym stands.cells) (typed code s i admitted stands at).alone.cells in
    go_on-fine code s i admitted stands at (effect tokens i s.stack s.cells) on one (effect-good code tokens i s.stack s.cells straight (omega arith) cells)

obey-fine : (code : Code) (tokens : ℕ → List ℤ) (s : State) (i : Instr) → IsAdmitted code → Stands code s → slice_get code.instrs s.place ≡ Some i → IsFine code s (obey code tokens s i)
obey-fine code tokens s (op.Jump t) admitted stands at =
    let i : Instr = op.Jump t in
    let to : IsTarget code s.place t = (typed code s i admitted stands at).alone.jumps in
    let there = jump-stands code s i admitted stands at t s.stack refl to (omega arith) in
    (there, jump-fewer code s i admitted stands at t s.stack to refl there)
obey-fine code tokens s (op.JumpIfNot t) admitted stands at = jump_if_not-fine code s t s.stack admitted stands at refl
obey-fine code tokens s op.Turn admitted stands at = turn-fine code s op.Turn admitted stands at s.left refl refl refl refl refl
obey-fine code tokens s (op.Call r) admitted stands at =
    call-fine code s (op.Call r) admitted stands at r (typed code s (op.Call r) admitted stands at).alone.calls refl refl refl refl
obey-fine code tokens s op.Return admitted stands at =
    let t = typed code s op.Return admitted stands at in
    return-fine code s op.Return admitted stands at s.frames stands.below refl refl stands.framed t.alone.body (t.height.results stands.height stands.way) refl
obey-fine code tokens s op.Answer admitted stands at = answer-fine code s s.stack admitted stands at refl
obey-fine code tokens s op.Done admitted stands at = tt
obey-fine code tokens s i admitted stands at = straight-fine code tokens s i admitted stands at refl refl refl

pub fine : (code : Code) (tokens : ℕ → List ℤ) (s : State) → IsAdmitted code → Stands code s → IsFine code s (step code tokens s)
fine code tokens s admitted stands =
    let there : (i : Instr) × (slice_get code.instrs s.place ≡ Some i) = found code.instrs s.place (way-inside code admitted stands.way) in
    subst (λ o. IsFine code s (elim o [ None ↦ Stuck | Some instr ↦ obey code tokens s instr ])) (sym there.1) (obey-fine code tokens s there.0 admitted stands there.1)
