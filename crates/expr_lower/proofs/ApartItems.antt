-- The code of an item of a list that is filled apart is code of an expression.
use Rattle.std.proofs.Common.{◌≡◌, ℕ, zero, suc, ◌+◌, ◌*◌, ◌<◌, ◌≤◌, List, [], ◌∷◌, ◌++◌, length, pos, true, false, refl, sym, ap, ◌∙◌, subst, Some, arith, append_assoc}
use Rattle.std.specs.Prelude.{◌^◌, if◌then◌else◌, nat_eq, nat_lt}
use Rattle.std.proofs.lemmas.Bool.Decides.{nat_tests}
use Rattle.rvc_base.specs.declared.scalar.Scalar.{Scalar}
use Rattle.cal_ast.specs.Tree as tree
use Rattle.cal_ast.specs.Tree.{Tree}
use Rattle.cal_model.specs.Value.{Shape, Single, Many, scalars_of_type}
use Rattle.cal_model.specs.Env.{Env}
use Rattle.cal_model.specs.Expression.{eval}
use Rattle.code_ir.specs.declared.instr.Instr.{Instr}
use Rattle.code_ir.specs.declared.instr.Instr.TheVariants as op
use Rattle.code_ir.specs.Running.{State}
use Rattle.lower_base.specs.declared.draft.Draft.{Draft}
use Rattle.lower_base.specs.Callees.{Function}
use Rattle.lower_base.specs.Calling.{Prepared, Serves}
use Rattle.lower_base.specs.Coding.{IsCode, IsOtherCode, in_another_way}
use Rattle.lower_base.specs.Following.{CutsOff, Follows, MayUse, Pushes}
use Rattle.lower_base.specs.Held.{AreBelow}
use Rattle.lower_base.specs.Lowered.{Adds, IsPut}
use Rattle.lower_base.specs.Names.{Name}
use Rattle.lower_base.specs.Parted.{sized}
use Rattle.lower_base.specs.Placed.{StandsAt, World, state}
use Rattle.lower_base.proofs.Adding.{length_join}
use Rattle.lower_base.proofs.Aimed.{join_unaimed, unaimed}
use Rattle.lower_base.proofs.AllowedCode.{allowed_then, allows_more, code_allowed, own_all}
use Rattle.lower_base.proofs.Coded.{ends_as, grows}
use Rattle.lower_base.proofs.Fitted.{fits_in, fits_one, plain_then}
use Rattle.lower_base.proofs.Keeping.{below_more}
use Rattle.lower_base.proofs.PartValues.{sized_is, sized_list}
use Rattle.lower_base.proofs.Runs.{follows_more, stands_left, stands_right}
use Rattle.lower_base.proofs.Singles.{IsSingleValue}
use Rattle.expr_lower.specs.Filling.{IsFill, apart_list}
use Rattle.expr_lower.specs.Reserving.{HasMore, one_at_least}
use Rattle.expr_lower.proofs.ApartForms.{does_apart}
use Rattle.expr_lower.proofs.AllowedFills.{fill_allowed}
use Rattle.expr_lower.proofs.Filled.{fills_in, grows_fill}
use Rattle.expr_lower.proofs.Fitted.{fits_fill}
use Rattle.expr_lower.proofs.Forms.{Ready}
use Rattle.expr_lower.proofs.Unaimed.{fill_unaimed}

module _ (fs : List Function) (names : List Name) (e place : Tree) (t : Scalar) (many room at base n k m : ℕ) (a b : List Instr) (enough : many ≤ room) (some : 0 < room) (filled : IsFill fs names e (Many many (Single t)) n base (n + room) a k) (coded : IsCode fs names place (base + length a) k b m) where
  abbrev code : List Instr
  code = a ++ (b ++ op.LoadAt n many ∷ [])

  wider : n + room ≤ k
  wider = grows_fill filled

  wide : n + many ≤ k
  wide = omega (arith, wider, enough)

  ge : k ≤ m
  ge = grows coded

  module _ (below : AreBelow n names) (w : World) (globals : List Name) (env : Env) (cells : List _) (left : ℕ) (stands : StandsAt w.code.instrs base code) (serves : Serves w globals fs) (p : Prepared w globals names fs n cells env) (usable : MayUse w n m cells) where
    less : n < m
    less = omega (arith, wider, ge, some)

    ready : (frames : List ℕ) → Ready fs globals w serves frames names env n m cells
    ready frames = record {
      below = (below, p.globals_below);
      apart = (p.apart, p.globals_apart);
      free = (usable less).0;
      room = (usable less).1;
      held = (p.holds, p.holds_globals, p.room);
    }

    item_goes : (stack : List _) (frames : List ℕ)
        → Follows (eval (tree.index e place at) w.calls env left) (λ v j. Pushes w n m (state base stack frames cells left) (base + length code) v j × IsSingleValue v) (λ d. CutsOff w n m (state base stack frames cells left) d × Unit {0})
    item_goes stack frames =
        does_apart fs globals w serves frames names e place t many at base n k m a b wide ge (fills_in fs globals w serves frames filled (omega (arith, enough))) coded env stack cells left stands (ready frames)

    item_pushes : (stack : List _) (frames : List ℕ) → Follows (eval (tree.index e place at) w.calls env left) (Pushes w n m (state base stack frames cells left) (base + length code)) (CutsOff w n m (state base stack frames cells left))
    item_pushes stack frames =
        let s : State = state base stack frames cells left in
        follows_more (eval (tree.index e place at) w.calls env left) (λ v j. Pushes w n m s (base + length code) v j × IsSingleValue v) (λ d. CutsOff w n m s d × Unit {0}) (Pushes w n m s (base + length code)) (CutsOff w n m s)
        (item_goes stack frames) (λ v j q. q.0) (λ d q. q.0)

  pub item_code : IsOtherCode fs names (tree.index e place at) base n code m
  item_code = record {
    cells = omega (arith, wide, ge);
    evaluates = λ below. record {
      goes = λ w globals env stack frames cells left stands serves p usable. item_pushes below w globals env cells left stands serves p usable stack frames;
      only = λ w globals env stack frames cells left stands serves p usable o last r.
          ends_as w n m (state base stack frames cells left) (base + length code) (eval (tree.index e place at) w.calls env left) o last (item_pushes below w globals env cells left stands serves p usable stack frames) r;
    };
    singles = λ below w globals env cells left stands serves p usable.
        let s : State = state base [] [] cells left in
        follows_more (eval (tree.index e place at) w.calls env left) (λ v j. Pushes w n m s (base + length code) v j × IsSingleValue v) (λ d. CutsOff w n m s d × Unit {0}) (λ v j. IsSingleValue v) (λ d. Unit {0})
        (item_goes below w globals env cells left stands serves p usable [] []) (λ v j q. q.1) (λ d q. tt);
    fits = λ whole callable limit h has below le stands.
        let i : Instr = op.LoadAt n many in
        let rest = stands_right whole.instrs base a (b ++ i ∷ []) stands in
        plain_then whole callable limit base h h (h + 1) a (b ++ i ∷ []) (fits_fill whole callable limit fs has h below (omega (arith, enough)) (omega (arith, ge, le)) (stands_left whole.instrs base a (b ++ i ∷ []) stands) filled)
        (plain_then whole callable limit (base + length a) h (h + 1) (h + 1) b (i ∷ []) (fits_in whole callable limit fs has names h (below_more n k names (omega (arith, wide)) below) le (stands_left whole.instrs (base + length a) b (i ∷ []) rest) coded)
        (fits_one whole callable limit (base + length a + length b) (h + 1) (h + 1) i (omega arith) (omega arith) refl (omega (arith, wide, ge, le)) tt tt tt));
    aims = λ out. join_unaimed out a (b ++ op.LoadAt n many ∷ []) (fill_unaimed out filled) (join_unaimed out b (op.LoadAt n many ∷ []) (unaimed out coded) refl);
    allowed = λ bounds r.
        allowed_then bounds a (b ++ op.LoadAt n many ∷ []) (fill_allowed bounds fs (allows_more (n + room) (omega arith) r) (own_all n (scalars_of_type (Many many (Single t))) (omega arith) r) filled)
        (allowed_then bounds b (op.LoadAt n many ∷ []) (code_allowed bounds fs names (allows_more k (omega (arith, wide)) r) coded) (tt, tt));
  }

least_some : (n : ℕ) → 0 < one_at_least n
least_some zero = omega arith
least_some (suc k) =
    let differ : nat_eq (suc k) 0 ≡ false = grind (arith, nat_tests) in
    let same : suc k ≡ one_at_least (suc k) = sym (ap (λ b. if b then 1 else suc k) differ) in
    omega (arith, same)

least_more : (n : ℕ) → n ≤ one_at_least n
least_more zero = omega arith
least_more (suc k) =
    let differ : nat_eq (suc k) 0 ≡ false = grind (arith, nat_tests) in
    let same : suc k ≡ one_at_least (suc k) = sym (ap (λ b. if b then 1 else suc k) differ) in
    omega (arith, same)

-- .. that was added to a draft
pub item_adds : (fs : List Function) (names : List Name) (e place : Tree) (t : Scalar) (many size first at : ℕ) (old d0 d1 d2 new : Draft) → sized (Many many (Single t)) ≡ Some size → HasMore (one_at_least size) old d0 first
    → Adds (IsFill fs names e (Many many (Single t)) first) d0 d1 → Adds (IsCode fs names place) d1 d2 → IsPut (op.LoadAt first size ∷ []) d2 new → Adds (IsCode fs names (tree.index e place at)) old new
item_adds fs names e place t many size first at old d0 d1 d2 new is more f g p =
    let room : ℕ = one_at_least size in
    let some : 0 < room = least_some size in
    let least : size ≤ room = least_more size in
    let wide : many * 1 ≡ size = sized_is (Many many (Single t)) size is in
    let same : many ≡ size = omega (arith, wide) in
    let base : ℕ = length old.instrs.items in
    let n : ℕ = old.cells in
    let start : length d0.instrs.items ≡ base = ap length more.instrs in
    let l1 = length_join d0.instrs.items d1.instrs.items f.code f.is in
    let place_is : length d1.instrs.items ≡ base + length f.code = omega (arith, l1, start) in
    let up : d0.cells ≡ n + room = omega (arith, more.cells) in
    let filled : IsFill fs names e (Many many (Single t)) n base (n + room) f.code d1.cells =
    subst (λ c. IsFill fs names e (Many many (Single t)) c base (n + room) f.code d1.cells) more.is
    (subst (λ q. IsFill fs names e (Many many (Single t)) first q (n + room) f.code d1.cells) start
    (subst (λ c. IsFill fs names e (Many many (Single t)) first (length d0.instrs.items) c f.code d1.cells) up f.has)) in
    let coded : IsCode fs names place (base + length f.code) d1.cells g.code d2.cells = subst (λ q. IsCode fs names place q d1.cells g.code d2.cells) place_is g.has in
    let code : List Instr = f.code ++ (g.code ++ op.LoadAt n many ∷ []) in
    let made : IsCode fs names (tree.index e place at) base n code d2.cells = in_another_way (tree.index e place at) base n d2.cells code (item_code fs names e place t many room at base n d1.cells d2.cells f.code g.code (omega (arith, least, same)) some filled coded) in
    record {
      code = f.code ++ (g.code ++ op.LoadAt first size ∷ []);
      is = p.is ∙ ap (λ xs. xs ++ op.LoadAt first size ∷ []) (g.is ∙ ap (λ xs. xs ++ g.code) (f.is ∙ ap (λ xs. xs ++ f.code) more.instrs)) ∙ simp append_assoc;
      routines = p.routines ∙ g.routines ∙ f.routines ∙ more.routines;
      has = subst (λ m. IsCode fs names (tree.index e place at) base n (f.code ++ (g.code ++ op.LoadAt first size ∷ [])) m) (sym p.cells)
          (subst (λ c. IsCode fs names (tree.index e place at) base n (f.code ++ (g.code ++ op.LoadAt c size ∷ [])) d2.cells) (sym more.is)
          (subst (λ q. IsCode fs names (tree.index e place at) base n (f.code ++ (g.code ++ op.LoadAt n q ∷ [])) d2.cells) same made));
    }

-- .. and of an item that is a list
pub apart_adds : (fs : List Function) (names : List Name) (e place : Tree) (t : Shape) (many size each first at c : ℕ) (old d0 d1 d2 d3 new : Draft) → sized (Many many t) ≡ Some size → sized t ≡ Some each → HasMore size old d0 first
    → Adds (IsFill fs names e (Many many t) first) d0 d1 → IsPut (op.Const (pos 0) ∷ []) d1 d2 → Adds (IsCode fs names place) d2 d3 → IsPut (op.Index many each ∷ op.CopyFrom c first size each ∷ []) d3 new
    → Adds (IsFill fs names (tree.index e place at) t c) old new
apart_adds fs names e place t many size each first at c old d0 d1 d2 d3 new is each_is more f z g p =
    let one : scalars_of_type t ≡ each = sized_is t each each_is in
    let all : many * scalars_of_type t ≡ size = sized_is (Many many t) size is in
    let low = (sized_list many t size is).less in
    let small : nat_lt (many * scalars_of_type t) (2 ^ 32) ≡ true = grind (arith, nat_tests, low, all) in
    let base : ℕ = length old.instrs.items in
    let n : ℕ = old.cells in
    let start : length d0.instrs.items ≡ base = ap length more.instrs in
    let l1 = length_join d0.instrs.items d1.instrs.items f.code f.is in
    let l2 = length_join d1.instrs.items d2.instrs.items (op.Const (pos 0) ∷ []) z.is in
    let place_is : length d2.instrs.items ≡ base + length f.code + 1 = omega (arith, l1, l2, start) in
    let up : d0.cells ≡ n + many * scalars_of_type t = omega (arith, more.cells, all) in
    let filled : IsFill fs names e (Many many t) n base (n + many * scalars_of_type t) f.code d1.cells =
    subst (λ x. IsFill fs names e (Many many t) x base (n + many * scalars_of_type t) f.code d1.cells) more.is
    (subst (λ q. IsFill fs names e (Many many t) first q (n + many * scalars_of_type t) f.code d1.cells) start
    (subst (λ x. IsFill fs names e (Many many t) first (length d0.instrs.items) x f.code d1.cells) up f.has)) in
    let coded : IsCode fs names place (base + length f.code + 1) d1.cells g.code d3.cells =
    subst (λ x. IsCode fs names place (base + length f.code + 1) x g.code d3.cells) z.cells (subst (λ q. IsCode fs names place q d2.cells g.code d3.cells) place_is g.has) in
    let made : IsFill fs names (tree.index e place at) t c base n (f.code ++ op.Const (pos 0) ∷ (g.code ++ op.Index many (scalars_of_type t) ∷ op.CopyFrom c n (many * scalars_of_type t) (scalars_of_type t) ∷ [])) d3.cells =
    apart_list names e place t many at c base n d1.cells d3.cells f.code g.code small filled coded in
    let last : List Instr = op.Index many each ∷ op.CopyFrom c first size each ∷ [] in
    record {
      code = f.code ++ op.Const (pos 0) ∷ (g.code ++ last);
      is = p.is ∙ ap (λ xs. xs ++ last) (g.is ∙ ap (λ xs. xs ++ g.code) (z.is ∙ ap (λ xs. xs ++ op.Const (pos 0) ∷ []) (f.is ∙ ap (λ xs. xs ++ f.code) more.instrs))) ∙ simp append_assoc;
      routines = p.routines ∙ g.routines ∙ z.routines ∙ f.routines ∙ more.routines;
      has = subst (λ m. IsFill fs names (tree.index e place at) t c base n (f.code ++ op.Const (pos 0) ∷ (g.code ++ last)) m) (sym p.cells)
          (subst (λ x. IsFill fs names (tree.index e place at) t c base n (f.code ++ op.Const (pos 0) ∷ (g.code ++ op.Index many each ∷ op.CopyFrom c x size each ∷ [])) d3.cells) (sym more.is)
          (subst (λ x. IsFill fs names (tree.index e place at) t c base n (f.code ++ op.Const (pos 0) ∷ (g.code ++ op.Index many each ∷ op.CopyFrom c n x each ∷ [])) d3.cells) all
          (subst (λ x. IsFill fs names (tree.index e place at) t c base n (f.code ++ op.Const (pos 0) ∷ (g.code ++ op.Index many x ∷ op.CopyFrom c n (many * scalars_of_type t) x ∷ [])) d3.cells) one made)));
    }
