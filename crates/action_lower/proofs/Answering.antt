-- Code of guards answers as the guards do.
use Rattle.std.proofs.Common.{◌≡◌, ℕ, zero, suc, ◌+◌, ◌<◌, ◌≤◌, inl, inr, Bool, true, ℤ, List, [], ◌∷◌, ◌++◌, length, take, refl, sym, ap, subst, ◌∙◌, Option, Some, arith, append_assoc, length-append}
use Rattle.std.specs.Prelude.{if◌then◌else◌, slice_get}
use Rattle.rvc_base.specs.Arithmetic.{is_true, truth}
use Rattle.rvc_base.specs.Turns.{max_turns}
use Rattle.cal_ast.specs.Tree.{Tree}
use Rattle.cal_model.specs.Actor.{Action, Actor}
use Rattle.cal_model.specs.ActorState.{AreTokensOf, IsActorState}
use Rattle.cal_model.specs.Call.{calls_of}
use Rattle.cal_model.specs.Env.{Env}
use Rattle.cal_model.specs.Expression.{eval}
use Rattle.cal_model.specs.Keeping.{GivesOrTraps}
use Rattle.cal_model.specs.Outcome.{Out, Gives, Traps, Lacks, Clashes}
use Rattle.cal_model.specs.Selection.{State as ActorState, has_its_tokens, seen_by}
use Rattle.cal_model.specs.Sound.{IsSound}
use Rattle.cal_model.specs.Value.{BoolKind, HasKind, Items, Num, Truth, Value}
use Rattle.cal_model.specs.Laws.{GuardsAreTruths}
use Rattle.code_ir.specs.declared.instr.Instr.{Instr}
use Rattle.code_ir.specs.declared.instr.Instr.TheVariants as op
use Rattle.code_ir.specs.declared.outcome.Outcome.TheVariants as outcome
use Rattle.code_ir.specs.Code.{Code}
use Rattle.code_ir.specs.Effect.{zeroed}
use Rattle.code_ir.specs.Running.{Ends, Over, step, stop}
use Rattle.code_ir.proofs.Ends.{one-end}
use Rattle.lower_base.specs.declared.draft.Draft.{Draft}
use Rattle.lower_base.specs.Following.{CutsOff, Follows, MayUse, Pushes}
use Rattle.lower_base.specs.Callees.{Function}
use Rattle.lower_base.specs.Calling.{IsLoweredWith, Prepared}
use Rattle.lower_base.specs.Held.{Keeps}
use Rattle.lower_base.specs.Lowered.{Adds}
use Rattle.lower_base.specs.Names.{Name}
use Rattle.lower_base.specs.Placed.{StandsAt, World, state}
use Rattle.lower_base.proofs.Effects.{same_number, true_again}
use Rattle.lower_base.proofs.Runs.{ends_join, obeys, stands_left, stands_right}
use Rattle.action_lower.specs.FiringCode.{globals_of, round}
use Rattle.action_lower.specs.GuardWords.{ClearsBehind}
use Rattle.action_lower.specs.Guarding.{AnswerAs, AnswersAs, AreGuards, AreGuardsOf, HasFunctionsOf, IsGuardOf, IsHead, clearing, guard_more, no_guard, no_head}
use Rattle.action_lower.specs.Seats.{HoldVars, seen_seats, state_cells, taken}
use Rattle.action_lower.proofs.ClearedCells.{runs-on, runs-so, take-zeroed, zeroed-size}
use Rattle.action_lower.proofs.BelowState.{each-below, seen-below, vars-below}
use Rattle.action_lower.proofs.Holding.{get-after, seen-is-held, state-held}
use Rattle.action_lower.proofs.StateSeats.{below-apart, globals-held, globals-laid}

-- ---- lists

pub same-take : (n : ℕ) (xs ys : List ℤ) → ((c : ℕ) → c < n → slice_get xs c ≡ slice_get ys c) → take n xs ≡ take n ys
same-take zero xs ys h = refl
same-take (suc n) [] [] h = refl
same-take (suc n) [] (y ∷ ys) h = let no = h 0 (omega arith) in cc
same-take (suc n) (x ∷ xs) [] h = let no = h 0 (omega arith) in cc
same-take (suc n) (x ∷ xs) (y ∷ ys) h =
    let first = h 0 (omega arith) in
    let same : x ≡ y = cc in
    ap (λ z. z ∷ take n xs) same ∙ ap (λ zs. y ∷ zs) (same-take n xs ys (λ c low. h (suc c) (omega arith)))

-- instructions stand where they are written
pub stands-in : (before code after : List Instr) → StandsAt (before ++ (code ++ after)) (length before) code
stands-in before [] after = tt
stands-in before (i ∷ code) after =
    let at : length before + 0 ≡ length before = omega arith in
    let whole : (before ++ i ∷ []) ++ (code ++ after) ≡ before ++ (i ∷ (code ++ after)) = append_assoc before (i ∷ []) (code ++ after) in (
      ap (slice_get (before ++ (i ∷ (code ++ after)))) (sym at) ∙ get-after before (i ∷ (code ++ after)) 0,
      subst (λ all. StandsAt all (length before + 1) code) whole
          (subst (λ p. StandsAt ((before ++ i ∷ []) ++ (code ++ after)) p code) (length-append before (i ∷ [])) (stands-in (before ++ i ∷ []) code after)),
    )

-- ---- one guard

answer-is : (b : Bool) (number : ℤ) → truth b ∷ [] ≡ number ∷ [] → is_true number ≡ b
answer-is b number e = let same : truth b ≡ number = same_number (truth b) number e in ap is_true (sym same) ∙ true_again b

module _ (w : World) (kept n m base : ℕ) (body : List Instr) (cells : List ℤ) (le : kept ≤ n) (behind : kept ≤ w.low)
    (stands : StandsAt w.code.instrs base (body ++ op.Answer ∷ [])) where
  kept-same : (after : List ℤ) → Keeps n m w.low w.high cells after → take kept after ≡ take kept cells
  kept-same after keeps = same-take kept after cells (λ c small. keeps.cell c (inl (omega (arith, le, small))) (inl (omega (arith, behind, small))))

  answer-step : (b : Bool) (number : ℤ) (after : List ℤ) (left : ℕ) → truth b ∷ [] ≡ number ∷ []
      → step w.code w.tokens (state (base + length body) (number ∷ []) [] after left) ≡ Over (if b then outcome.True else outcome.False) after
  answer-step b number after left e =
      let at = stands_right w.code.instrs base body (op.Answer ∷ []) stands in
      obeys w.code w.tokens (state (base + length body) (number ∷ []) [] after left) op.Answer at.0
      ∙ ap (λ c. Over (if c then outcome.True else outcome.False) after) (answer-is b number e)

  answers : (says : Out Value) → GivesOrTraps (HasKind BoolKind) says
      → Follows says (Pushes w n m (state base [] [] cells max_turns) (base + length body)) (CutsOff w n m (state base [] [] cells max_turns))
      → AnswersAs w.code base kept cells w.tokens says
  answers (Gives (Truth b) left) good p = record {
    outcome = if b then outcome.True else outcome.False;
    said = refl;
    left = p.cells;
    ends = ends;
    size = p.keeps.size;
    keeps = kept-same p.cells p.keeps;
    only = λ o last r. let same = one-end w.code w.tokens o last ends r in (sym same.0, sym same.1);
  }
    where
      ends : Ends w.code w.tokens (state base [] [] cells max_turns) (if b then outcome.True else outcome.False) p.cells
      ends = ends_join p.reaches (stop (answer-step b p.number p.cells left p.is))
  answers (Gives (Num z) left) good p = absurd good
  answers (Gives (Items vs) left) good p = absurd good
  answers (Traps cause) good p = record {
    outcome = outcome.Trap cause;
    said = refl;
    left = p.cells;
    ends = p.ends;
    size = p.keeps.size;
    keeps = kept-same p.cells p.keeps;
    only = λ o last r. let same = one-end w.code w.tokens o last p.ends r in (sym same.0, sym same.1);
  }
  answers Lacks good p = absurd good
  answers Clashes good p = absurd good

-- ---- the guards of an action

pub guards-grow : {clears : Option ℕ} {fs : List Function} {names : List Name} {gs : List Tree} {es : List ℕ} {base n m : ℕ} {code : List Instr} → AreGuards clears fs names gs es base n code m → n ≤ m
guards-grow (no_guard base n) = omega arith
guards-grow (guard_more g gs es base n k m a b first rest) = let le = first.lowered.cells in let ge = guards-grow rest in omega (arith, le, ge)

module _ (fs : List Function) (actor : Actor) (a : ℕ) (act : Action) (code : Code) (sound : IsSound actor) (is_act : slice_get actor.actions a ≡ Some act)
    (x : ActorState) (u : List (List ℤ)) (cells : List ℤ) (first last : ℕ) (functions : HasFunctionsOf actor a fs code first last u cells) (in_state : IsActorState actor x) (of_ports : AreTokensOf actor u)
    (has : has_its_tokens actor u a ≡ true) (hold : HoldVars actor x cells) where
  abbrev w : World
  w = round actor a u code functions.low functions.high

  abbrev env : Env
  env = seen_by actor x u act

  abbrev IsTruth : Tree → Type 0
  IsTruth g = GivesOrTraps (HasKind BoolKind) (eval g (calls_of actor.funs) env max_turns)

  prepared : (n : ℕ) → state_cells actor ≤ n → Prepared w (globals_of actor) (seen_seats actor act) fs n cells env
  prepared n le =
      let laid = globals-laid actor.vars functions.low functions.high functions.low sound.vars functions.behind (omega arith) in
      record {
        apart = below-apart functions.low functions.high (seen_seats actor act) (seen-below functions.low actor act functions.behind);
        globals_apart = laid.3;
        globals_below = each-below n (globals_of actor) (vars-below n 0 actor.vars (omega (arith, le)));
        holds = seen-is-held actor x u a act cells sound is_act in_state of_ports has hold;
        holds_globals = (globals-held (taken actor u a) cells actor.vars x.vars in_state.vars (state-held actor x u a act cells sound is_act in_state of_ports has hold)).0;
        room = functions.room;
      }

  usable : (n m : ℕ) → first ≤ n → m ≤ last → MayUse w n m cells
  usable n m from to more =
      let before = functions.before in
      let own = functions.own in
      (inr (omega (arith, before, from)), omega (arith, own, to))

  -- code of a guard that begins at once
  pub guard-answers : (g : Tree) (base n m : ℕ) (part : List Instr) → IsLoweredWith fs (seen_seats actor act) g base n part m → StandsAt code.instrs base (part ++ op.Answer ∷ []) → state_cells actor ≤ n → first ≤ n → m ≤ last
      → IsTruth g → IsGuardOf actor a act code x u cells g base
  guard-answers g base n m part is there le from to good =
      answers w (state_cells actor) n m base part cells le functions.behind there (eval g (calls_of actor.funs) env max_turns) good
      (is.evaluates.goes w (globals_of actor) env [] [] cells max_turns (stands_left code.instrs base part (op.Answer ∷ []) there) functions.serve (prepared n le) (usable n m from to))

-- ---- cells that are cleared first

module _ (fs : List Function) (actor : Actor) (a : ℕ) (act : Action) (code : Code) (sound : IsSound actor) (is_act : slice_get actor.actions a ≡ Some act)
    (x : ActorState) (u : List (List ℤ)) (cells : List ℤ) (first last : ℕ) (functions : HasFunctionsOf actor a fs code first last u cells) (in_state : IsActorState actor x) (of_ports : AreTokensOf actor u)
    (has : has_its_tokens actor u a ≡ true) (hold : HoldVars actor x cells) where
  -- what is asked of cells holds of them once those behind the state cells are cleared
  functions-cleared : (k n : ℕ) → HasFunctionsOf actor a fs code first last u (zeroed k n cells)
  functions-cleared k n =
      let size = zeroed-size n k cells in
      record {
        low = functions.low;
        high = functions.high;
        serve = functions.serve;
        behind = functions.behind;
        before = functions.before;
        room = λ some. let le = functions.room some in omega (arith, le, size);
        own = let le = functions.own in omega (arith, le, size);
      }

  hold-cleared : (n : ℕ) → HoldVars actor x (zeroed (state_cells actor) n cells)
  hold-cleared n = take-zeroed n (state_cells actor) (state_cells actor) cells (omega arith) ∙ hold

  abbrev is-truth : Tree → Type 0
  is-truth g = GivesOrTraps (HasKind BoolKind) (eval g (calls_of actor.funs) (seen_by actor x u act) max_turns)

  -- a guard answers behind an instruction that clears the cells
  answers-behind : (g : Tree) (base n : ℕ) → slice_get code.instrs base ≡ Some (op.Zero (state_cells actor) n) → state_cells actor + n ≤ length cells
      → IsGuardOf actor a act code x u (zeroed (state_cells actor) n cells) g (base + 1) → IsGuardOf actor a act code x u cells g base
  answers-behind g base n there room after = record {
    outcome = after.outcome;
    said = after.said;
    left = after.left;
    ends = runs-on code (taken actor u a) base (state_cells actor) n cells there room after.outcome after.left after.ends;
    size = after.size ∙ zeroed-size n (state_cells actor) cells;
    keeps = after.keeps ∙ take-zeroed n (state_cells actor) (state_cells actor) cells (omega arith);
    only = λ o last r. after.only o last (runs-so code (taken actor u a) base (state_cells actor) n cells there room o last refl r);
  }

  -- code of a guard, whatever it begins with
  headed : {clears : Option ℕ} {head : List Instr} (g : Tree) (base n m : ℕ) (body : List Instr) → ClearsBehind actor clears → IsHead clears m head → IsLoweredWith fs (seen_seats actor act) g (base + length head) n body m
      → StandsAt code.instrs base (head ++ (body ++ op.Answer ∷ [])) → state_cells actor ≤ n → first ≤ n → m ≤ last → is-truth g → IsGuardOf actor a act code x u cells g base
  headed g base n _ body behind (no_head m) lowered stands le from to good =
      let here : base + 0 ≡ base = omega arith in
      guard-answers fs actor a act code sound is_act x u cells first last functions in_state of_ports has hold g base n m body (subst (λ p. IsLoweredWith fs (seen_seats actor act) g p n body m) here lowered) stands le from to good
  headed g base n _ body behind (clearing kept count m is) lowered stands le from to good =
      let same : kept ≡ state_cells actor = behind kept refl in
      let low = state_cells actor in
      let there : slice_get code.instrs base ≡ Some (op.Zero low count) = subst (λ k. slice_get code.instrs base ≡ Some (op.Zero k count)) same stands.0 in
      let room : low + count ≤ length cells = let own = functions.own in omega (arith, is, same, to, own) in
      answers-behind g base count there room
      (guard-answers fs actor a act code sound is_act x u (zeroed low count cells) first last (functions-cleared low count) in_state of_ports has (hold-cleared count) g (base + 1) n m body lowered stands.1 le from to good)

  guards-answer : {clears : Option ℕ} {gs : List Tree} {es : List ℕ} {base n m : ℕ} {part : List Instr} → ClearsBehind actor clears → AreGuards clears fs (seen_seats actor act) gs es base n part m → StandsAt code.instrs base part → state_cells actor ≤ n → first ≤ n → m ≤ last
      → ((k : ℕ) (g : Tree) → slice_get gs k ≡ Some g → is-truth g) → AreGuardsOf actor a act code x u cells gs es
  guards-answer behind (no_guard base n) stands le from to good = tt
  guards-answer behind (guard_more g gs es base n k m one more head rest) stands le from to good =
      let up = head.lowered.cells in
      let grown = guards-grow rest in (
        headed g base n k head.body behind head.begins head.lowered (subst (StandsAt code.instrs base) head.is (stands_left code.instrs base one more stands)) le from (omega (arith, grown, to)) (good 0 g refl),
        guards-answer behind rest (stands_right code.instrs base one more stands) (omega (arith, le, up)) (omega (arith, from, up)) to (λ j h e. good (suc j) h e),
      )

pub answer-as-guards : GuardsAreTruths → (fs : List Function) (actor : Actor) (a : ℕ) (act : Action) (code : Code) (es : List ℕ) (more : List Instr) (old new : Draft) → IsSound actor → slice_get actor.actions a ≡ Some act
    → state_cells actor ≤ old.cells → (clears : Option ℕ) → ClearsBehind actor clears → Adds (AreGuards clears fs (seen_seats actor act) act.guards es) old new → code.instrs ≡ new.instrs.items ++ more → AnswerAs actor a act fs code old.cells new.cells es
answer-as-guards law fs actor a act code es more old new sound is_act le clears behind added whole x u cells functions in_state of_ports has hold =
    let all : code.instrs ≡ old.instrs.items ++ (added.code ++ more) = whole ∙ ap (λ is. is ++ more) added.is ∙ append_assoc old.instrs.items added.code more in
    guards-answer fs actor a act code sound is_act x u cells old.cells new.cells functions in_state of_ports has hold behind added.has
    (subst (λ all. StandsAt all (length old.instrs.items) added.code) (sym all) (stands-in old.instrs.items added.code more)) le (omega arith) (omega arith)
    (λ k g e. law actor x u a k max_turns act g sound in_state of_ports is_act e)
