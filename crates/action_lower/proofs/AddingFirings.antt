-- Code of firings that was added to a draft, part by part.
use Rattle.std.proofs.Common.{◌≡◌, ℕ, ◌+◌, ◌≤◌, ⊎_elim, true, false, List, [], ◌∷◌, ◌++◌, length, map, sym, ap, ◌∙◌, refl, subst, Option, None, Some, arith, append_assoc, length-append}
use Rattle.std.specs.Str.{bytes_eq}
use Rattle.cal_ast.specs.View.{expr_tree}
use Rattle.cal_ast.specs.declared.expr.Expr.{Expr}
use Rattle.cal_ast.specs.Tree.{Tree, listed}
use Rattle.cal_model.specs.declared.bound.BoundAction.{BoundAction}
use Rattle.cal_model.specs.declared.bound.BoundOutput.{BoundOutput}
use Rattle.cal_model.specs.Actor.{Action, Local, Port}
use Rattle.cal_model.specs.Value.{Shape, Single, IsType, scalars_of_type}
use Rattle.cal_model.specs.View.{local_view}
use Rattle.code_ir.specs.declared.instr.Instr.{Instr}
use Rattle.code_ir.specs.declared.instr.Instr.TheVariants as op
use Rattle.lower_base.specs.declared.draft.Draft.{Draft}
use Rattle.lower_base.specs.declared.fault.LowerFault.{LowerFault}
use Rattle.lower_base.specs.declared.fault.LowerFault.TheVariants.{Memory, NotLowered, TooLong, TooManyCells}
use Rattle.lower_base.specs.Callees.{Function}
use Rattle.lower_base.specs.Growing.{IsFault, left_out_in, ◌or_else◌}
use Rattle.lower_base.specs.Held.{AreBelow, SeatIsBelow}
use Rattle.lower_base.specs.Lowered.{Adds, IsPut}
use Rattle.lower_base.specs.Names.{Name, local, named}
use Rattle.lower_base.specs.Routining.{LocalsSized}
use Rattle.lower_base.proofs.Erased.{erase, out_erased}
use Rattle.lower_base.proofs.Keeping.{below_more}
use Rattle.lower_stmt.specs.Bodies.{IsExecutedCalling}
use Rattle.lower_stmt.specs.Changing.{AreTyped}
use Rattle.lower_stmt.specs.Procedures.{Routines}
use Rattle.lower_stmt.specs.StmtGrowing.{left_out_all}
use Rattle.lower_stmt.specs.StmtWords.{body_of}
use Rattle.lower_stmt.proofs.ErasedStmts.{all_erased}
use Rattle.expr_lower.proofs.Erased.{fills_erased}
use Rattle.lower_stmt.specs.ListStarting.{local_of}
use Rattle.lower_stmt.proofs.Executed.{grows_start}
use Rattle.lower_stmt.proofs.ListStarting.{grows_list_start}
use Rattle.lower_stmt.proofs.Scoping.{choose_name}
use Rattle.action_lower.specs.FiringCode.{IsFiringCode}
use Rattle.action_lower.specs.FiringWords.{IsBehindCode, behind_locals, left_out_behind, left_out_firing}
use Rattle.action_lower.specs.LocalCode.{AreStarted, left_out_locals, list_more, none_started, start_more}
use Rattle.action_lower.specs.SendWords.{IsSendFault, left_out_output, left_out_outputs, left_out_repeated, left_out_values}
use Rattle.action_lower.specs.Sending.{AreOutputs, items_of_any}

-- ---- code

pub behind_adds : (rs : Routines) (names : List Name) (ports : List Port) (act : Action) (firsts : List ℕ) (old d1 d2 new : Draft) → Adds (IsExecutedCalling rs names act.body) old d1
    → Adds (AreOutputs rs.functions names ports act.outputs firsts) d1 d2 → IsPut (op.Done ∷ []) d2 new → Adds (IsBehindCode rs names ports act firsts) old new
behind_adds rs names ports act firsts old d1 d2 new f g p =
    let base : ℕ = length old.instrs.items in
    let s1 : length d1.instrs.items ≡ base + length f.code = ap length f.is ∙ length-append old.instrs.items f.code in
    record {
      code = f.code ++ (g.code ++ op.Done ∷ []);
      is = p.is ∙ ap (λ is. is ++ op.Done ∷ []) (g.is ∙ ap (λ is. is ++ g.code) f.is)
          ∙ append_assoc (old.instrs.items ++ f.code) g.code (op.Done ∷ []) ∙ append_assoc old.instrs.items f.code (g.code ++ op.Done ∷ []);
      routines = p.routines ∙ g.routines ∙ f.routines;
      has = record {
        b = f.code;
        c = g.code;
        j = d1.cells;
        is = refl;
        body = f.has;
        outputs = subst (λ m. AreOutputs rs.functions names ports act.outputs firsts (base + length f.code) d1.cells g.code m) (sym p.cells)
            (subst (λ q. AreOutputs rs.functions names ports act.outputs firsts q d1.cells g.code d2.cells) s1 g.has);
      };
    }

pub firing_adds : (rs : Routines) (names behind : List Name) (ports : List Port) (act : Action) (firsts : List ℕ) (old d1 new : Draft) → Adds (AreStarted rs.functions names act.locals behind) old d1
    → Adds (IsBehindCode rs behind ports act firsts) d1 new → Adds (IsFiringCode rs names ports act firsts) old new
firing_adds rs names behind ports act firsts old d1 new f g =
    let base : ℕ = length old.instrs.items in
    let s1 : length d1.instrs.items ≡ base + length f.code = ap length f.is ∙ length-append old.instrs.items f.code in
    let h : IsBehindCode rs behind ports act firsts (base + length f.code) d1.cells g.code new.cells = subst (λ q. IsBehindCode rs behind ports act firsts q d1.cells g.code new.cells) s1 g.has in
    record {
      code = f.code ++ g.code;
      is = g.is ∙ ap (λ is. is ++ g.code) f.is ∙ append_assoc old.instrs.items f.code g.code;
      routines = g.routines ∙ f.routines;
      has = record {
        behind = behind;
        a = f.code;
        b = h.b;
        c = h.c;
        k = d1.cells;
        j = h.j;
        is = ap (λ is. f.code ++ is) h.is;
        locals = f.has;
        body = h.body;
        outputs = h.outputs;
      };
    }

-- ---- names behind locals

any_below : (n k : ℕ) (names : List Name) (text : List ℕ) (t : Shape) → n + scalars_of_type t ≤ k → AreBelow n names → AreBelow k (local_of text t n ∷ names)
any_below n k names text t le below other y e =
    ⊎_elim (λ (f : (bytes_eq text other ≡ true) × (local_of text t n ≡ y)). subst (λ (z : Name). SeatIsBelow k (scalars_of_type z.shape) z.seat) f.1 (omega (arith, le)))
    (λ (f : (bytes_eq text other ≡ false) × (named other names ≡ Some y)). below_more n k names (omega (arith, le)) below other y f.1)
    (choose_name (bytes_eq text other) (local_of text t n) (named other names) y e)

any_typed : (c : ℕ) (names : List Name) (text : List ℕ) (t : Shape) → IsType t → AreTyped names → AreTyped (local_of text t c ∷ names)
any_typed c names text t one typed other y e =
    ⊎_elim (λ (f : (bytes_eq text other ≡ true) × (local_of text t c ≡ y)). subst (λ (z : Name). IsType z.shape) f.1 one)
    (λ (f : (bytes_eq text other ≡ false) × (named other names ≡ Some y)). typed other y f.1)
    (choose_name (bytes_eq text other) (local_of text t c) (named other names) y e)

pub started_below : {fs : List Function} {names behind : List Name} {xs : List Local} {base n m : ℕ} {code : List Instr} → AreStarted fs names xs behind base n code m → AreBelow n names → AreBelow m behind
started_below (none_started names base n) below = below
started_below (start_more names behind x others t base n k m a b shape first rest) below = started_below rest (any_below n k names x.name (Single t) (grows_start first) below)
started_below (list_more names behind x others base n k m a b typed first rest) below = started_below rest (any_below n k names x.name x.shape (grows_list_start first) below)

pub started_typed : {fs : List Function} {names behind : List Name} {xs : List Local} {base n m : ℕ} {code : List Instr} → AreStarted fs names xs behind base n code m → LocalsSized xs → AreTyped names → AreTyped behind
started_typed (none_started names base n) sizes typed = typed
started_typed (start_more names behind x others t base n k m a b shape first rest) sizes typed = started_typed rest sizes.1 (any_typed n names x.name (Single t) (sizes.0 t shape) typed)
started_typed (list_more names behind x others base n k m a b one first rest) sizes typed = started_typed rest sizes.1 (any_typed n names x.name x.shape one typed)

-- ---- which cells names have doesn't matter

values_erased : (fs : List Function) (names : List Name) (es : List Tree) → left_out_values fs (map erase names) es ≡ left_out_values fs names es
values_erased fs names [] = refl
values_erased fs names (e ∷ es) = ap (λ o. o or_else left_out_values fs (map erase names) es) (out_erased fs names e) ∙ ap (λ o. left_out_in fs names e or_else o) (values_erased fs names es)

repeated_erased : (fs : List Function) (names : List Name) (times : ℕ) (es : List Expr) → left_out_repeated fs (map erase names) times es ≡ left_out_repeated fs names times es
repeated_erased fs names times es = fills_erased fs names (items_of_any times) (listed (map expr_tree es))

output_erased : (fs : List Function) (names : List Name) (o : BoundOutput) → left_out_output fs (map erase names) o ≡ left_out_output fs names o
output_erased fs names o = go o.repeat
  where
    go : (r : Option ℕ)
        → ◌≡◌ {A = Option ℕ} (elim r [ None ↦ left_out_values fs (map erase names) (map expr_tree o.values.items) | Some times ↦ left_out_repeated fs (map erase names) times o.values.items ])
        (elim r [ None ↦ left_out_values fs names (map expr_tree o.values.items) | Some times ↦ left_out_repeated fs names times o.values.items ])
    go None = values_erased fs names (map expr_tree o.values.items)
    go (Some times) = repeated_erased fs names times o.values.items

outputs_erased : (fs : List Function) (names : List Name) (os : List BoundOutput) → left_out_outputs fs (map erase names) os ≡ left_out_outputs fs names os
outputs_erased fs names [] = refl
outputs_erased fs names (o ∷ os) = ap (λ p. p or_else left_out_outputs fs (map erase names) os) (output_erased fs names o) ∙ ap (λ p. left_out_output fs names o or_else p) (outputs_erased fs names os)

behind_erased : (rs : Routines) (names : List Name) (act : BoundAction) → left_out_behind rs (map erase names) act ≡ left_out_behind rs names act
behind_erased rs names act =
    ap (λ o. o or_else left_out_outputs rs.functions (map erase names) act.outputs.items) (all_erased rs names (body_of act.body.items))
    ∙ ap (λ o. left_out_all rs names (body_of act.body.items) or_else o) (outputs_erased rs.functions names act.outputs.items)

same_behind : {fs : List Function} {names behind : List Name} {xs : List Local} {base n m : ℕ} {code : List Instr} (others : List Name) → AreStarted fs names xs behind base n code m → map erase names ≡ map erase others
    → map erase behind ≡ map erase (behind_locals others xs)
same_behind others (none_started names base n) e = e
same_behind others (start_more names behind x xs t base n k m a b shape first rest) e =
    same_behind (local_of x.name x.shape 0 ∷ others) rest (ap (λ ns. local x.name t 0 ∷ ns) e ∙ ap (λ (s : Shape). local_of x.name s 0 ∷ map erase others) (sym shape))
same_behind others (list_more names behind x xs base n k m a b typed first rest) e =
    same_behind (local_of x.name x.shape 0 ∷ others) rest (ap (λ ns. local_of x.name x.shape 0 ∷ ns) e)

-- a firing whose locals leave out nothing leaves out what is left out behind them
pub firing_open : (rs : Routines) (names behind : List Name) (act : BoundAction) {base n m : ℕ} {code : List Instr} → AreStarted rs.functions names (map local_view act.locals.items) behind base n code m
    → left_out_locals rs.functions names (map local_view act.locals.items) ≡ None → left_out_firing rs names act ≡ left_out_behind rs behind act
firing_open rs names behind act started none =
    ap (λ o. o or_else left_out_behind rs (behind_locals names (map local_view act.locals.items)) act) none
    ∙ sym (behind_erased rs (behind_locals names (map local_view act.locals.items)) act)
    ∙ ap (λ ns. left_out_behind rs ns act) (sym (same_behind names started refl)) ∙ behind_erased rs behind act

-- ---- faults

-- a fault of the first part is one of both
pub first_fault : (one other : Option ℕ) (draft : Draft) (fault : LowerFault) → IsFault one draft fault → IsSendFault (one or_else other) draft fault
first_fault one other draft Memory h = tt
first_fault one other draft TooLong h = h
first_fault one other draft TooManyCells h = omega (arith, h)
first_fault one other draft (NotLowered at) h = ap (λ o. o or_else other) h

-- .. and so is one of the other if nothing is left out of the first
pub other_fault : (one other : Option ℕ) (draft : Draft) (fault : LowerFault) → one ≡ None → IsSendFault other draft fault → IsSendFault (one or_else other) draft fault
other_fault one other draft fault none h = subst (λ o. IsSendFault (o or_else other) draft fault) (sym none) h
