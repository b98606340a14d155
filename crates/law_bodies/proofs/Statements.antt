-- Nothing is left out of statements.
use Rattle.std.proofs.Common.{◌≡◌, ℕ, List, ◌∷◌, length, Bool, true, refl, sym, ap, ◌∙◌, subst, Option, None, Some, arith}
use Rattle.std.specs.Prelude.{nat_eq, if◌then◌else◌}
use Rattle.std.proofs.lemmas.Bool.Decides.{nat_tests}
use Rattle.rvc_base.specs.declared.scalar.Scalar.{Scalar}
use Rattle.rvc_base.specs.declared.scalar.Scalar.TheVariants as scalar
use Rattle.cal_ast.specs.Places.{begins}
use Rattle.cal_ast.specs.Tree as tree
use Rattle.cal_ast.specs.Tree.{Tree}
use Rattle.cal_model.specs.Value.{Kind, NumKind, BoolKind, Shape, Single, Many, kind_of_type}
use Rattle.cal_model.specs.Actor.{Fun, Proc}
use Rattle.cal_model.specs.Kinding.{Judged, Fine, Known, Names, arguments_fit, counter, kind, kinds, type_judged, with_known}
use Rattle.cal_model.specs.Sound.{AreStatements, AreVars, IsPlain, IsStatement, IsVarStart, MayBeAssigned, kind_inside, kind_of_judged, with_vars_known}
use Rattle.lower_base.specs.declared.names.Seat.{Seat}
use Rattle.lower_base.specs.declared.names.Seat.TheVariants.{Cell}
use Rattle.lower_base.specs.Callees.{Function}
use Rattle.lower_base.specs.Growing.{left_out_args, left_out_in, ◌or_else◌}
use Rattle.lower_base.specs.Meant.{single_meant}
use Rattle.lower_base.specs.Names.{Name, local, local_of, named}
use Rattle.lower_base.specs.Parted.{number_of}
use Rattle.lower_base.specs.Starting.{left_out_list_start, left_out_start}
use Rattle.expr_lower.specs.ShapeMeant.{shape_meant}
use Rattle.lower_stmt.specs.Procedures.{Procedure, Routines, procedure_for, procedure_named}
use Rattle.lower_stmt.specs.StmtGrowing.{left_out_all, left_out_set, left_out_stmt, left_out_vars}
use Rattle.law_forms.specs.Lowerable.{CallsRoutines, HasRoutine, IsSeen}
use Rattle.law_bodies.specs.Standing.{AreReady, CallsAll, HasProcRoutine, IsRoutineOfProc}
use Rattle.law_bodies.proofs.Assigned.{IsPartOf, NoneOf, all_numbers, part_of, set_none}
use Rattle.law_bodies.proofs.Calls.{calls_as}
use Rattle.law_bodies.proofs.Values.{IsCount, count_of, none_of, none_of_arguments, none_of_one, none_of_places}
use Rattle.law_bodies.proofs.Names.{ready_local}
use Rattle.law_forms.proofs.Like.{like_own}
use Rattle.law_forms.proofs.SeenTypes.{many_seen, scalar_seen, type_seen}
use Rattle.law_bodies.proofs.Types.{none_both}

-- a procedure for so many arguments
found_proc : (ps : List Procedure) (text : List ℕ) (n : ℕ) (r : Procedure) → procedure_named text ps ≡ Some r → length r.formals ≡ n → procedure_for text n ps ≡ Some r
found_proc ps text n r is size =
    let same : nat_eq (length r.formals) n ≡ true = grind (arith, nat_tests, size) in
    ap (λ (o : Option Procedure). elim o [ None ↦ None | Some p ↦ if nat_eq (length p.formals) n then Some p else None ]) is ∙ ap (λ b. if b then Some r else None) same

-- ---- starts

module _ (funs : List Fun) (fs : List Function) where
  pub one_start : (known : Names) (names : List Name) (s : Scalar) (start : Tree) → AreReady funs known names → CallsRoutines funs fs start → IsPlain start → IsVarStart (kind_of_type (Single s)) start known → left_out_start fs names start ≡ None
  one_start known names s tree.absent r calls plain is = refl
  one_start known names s (tree.present e) r calls plain is = none_of_one funs fs known names e s r calls plain is
  one_start known names s other r calls plain is = absurd is

  pub list_start : (known : Names) (names : List Name) (t : Shape) (start : Tree) → AreReady funs known names → CallsRoutines funs fs start → IsPlain start → IsVarStart (kind_of_type t) start known → left_out_list_start fs names t start ≡ None
  list_start known names t tree.absent r calls plain is = refl
  list_start known names t (tree.present e) r calls plain is = none_of funs fs known names e (kind_of_type t) r calls plain is t (like_own t)
  list_start known names t other r calls plain is = absurd is

module _ (funs : List Fun) (procs : List Proc) (rs : Routines) where
  -- the functions that are called
  called : (e : Tree) → CallsAll funs procs rs e → CallsRoutines funs rs.functions e
  called e h = calls_as {P = HasRoutine funs rs.functions} {Q = HasProcRoutine procs rs.procedures} {R = HasRoutine funs rs.functions} {S = λ text. Unit {0}} (λ text g. g) (λ text g. tt) e h

  -- ---- variables of a block

  -- what is behind variables sees them
  abbrev Behind : Tree → Names → (List Name → Option ℕ) → Type 0
  Behind vars known inside = (inner : List Name) → AreReady funs (with_vars_known vars known) inner → inside inner ≡ None

  abbrev known_var : List ℕ → Shape → Bool → Known
  known_var text t changes = record { name = text; kind = kind_of_type t; value = None; changes = changes }

  behind_one : (shape vars : Tree) (text : List ℕ) (t : Shape) (changes : Bool) (known : Names) (inside : List Name → Option ℕ) → type_judged shape known ≡ Fine t
      → ((inner : List Name) → AreReady funs (with_vars_known vars (with_known (record { name = text; kind = kind_of_judged (type_judged shape known); value = None; changes = changes }) known)) inner → inside inner ≡ None)
      → Behind vars (with_known (known_var text t changes) known) inside
  behind_one shape vars text t changes known inside judged h inner r =
      h inner (subst (λ (o : Judged Shape). AreReady funs (with_vars_known vars (with_known (record { name = text; kind = kind_of_judged o; value = None; changes = changes }) known)) inner) (sym judged) r)

  var_none : (shape start vars : Tree) (text : List ℕ) (at : ℕ) (t : Shape) (known : Names) (names : List Name) (inside : List Name → Option ℕ) → AreReady funs known names → CallsAll funs procs rs start → IsPlain shape → IsPlain start
      → type_judged shape known ≡ Fine t → IsVarStart (kind_of_type t) start known → left_out_vars rs (local_of text t 0 ∷ names) vars inside ≡ None
      → ◌≡◌ {A = Option ℕ} (elim (single_meant shape) [
        | None ↦ elim (shape_meant shape) [
          | None ↦ Some at
          | Some u ↦ left_out_list_start rs.functions names u start or_else left_out_vars rs (local_of text u 0 ∷ names) vars inside
        ]
        | Some u ↦ left_out_start rs.functions names start or_else left_out_vars rs (local text u 0 ∷ names) vars inside
      ]) None
  var_none shape start vars text at (Single s) known names inside r calls plain plain_start judged is rest =
      ap (λ (o : Option Scalar). elim o [
        | None ↦ elim (shape_meant shape) [
          | None ↦ Some at
          | Some u ↦ left_out_list_start rs.functions names u start or_else left_out_vars rs (local_of text u 0 ∷ names) vars inside
        ]
        | Some u ↦ left_out_start rs.functions names start or_else left_out_vars rs (local text u 0 ∷ names) vars inside
      ]) (scalar_seen shape known s plain judged).0
      ∙ none_both (left_out_start rs.functions names start) (left_out_vars rs (local text s 0 ∷ names) vars inside) (one_start funs rs.functions known names s start r (called start calls) plain_start is) rest
  var_none shape start vars text at (Many n items) known names inside r calls plain plain_start judged is rest =
      ap (λ (o : Option Scalar). elim o [
        | None ↦ elim (shape_meant shape) [
          | None ↦ Some at
          | Some u ↦ left_out_list_start rs.functions names u start or_else left_out_vars rs (local_of text u 0 ∷ names) vars inside
        ]
        | Some u ↦ left_out_start rs.functions names start or_else left_out_vars rs (local text u 0 ∷ names) vars inside
      ]) (many_seen shape known n items plain judged)
      ∙ ap (λ (o : Option Shape). elim o [
        | None ↦ Some at
        | Some u ↦ left_out_list_start rs.functions names u start or_else left_out_vars rs (local_of text u 0 ∷ names) vars inside
      ]) (type_seen shape known (Many n items) plain judged).0
      ∙ none_both (left_out_list_start rs.functions names (Many n items) start) (left_out_vars rs (local_of text (Many n items) 0 ∷ names) vars inside) (list_start funs rs.functions known names (Many n items) start r (called start calls) plain_start is) rest

  vars_none : (vars : Tree) (known : Names) (names : List Name) (inside : List Name → Option ℕ) → AreReady funs known names → CallsAll funs procs rs vars → IsPlain vars → AreVars vars known → Behind vars known inside → left_out_vars rs names vars inside ≡ None
  vars_none tree.nil known names inside r calls plain are behind = behind names r
  vars_none (tree.cons (tree.var shape (tree.ident text place) start changes at) vars) known names inside r calls plain are behind =
      var_none shape start vars text at are.0 known names inside r calls.0.1 plain.0.0 plain.0.1 are.1 are.2
      (vars_none vars (with_known (known_var text are.0 changes) known) (local_of text are.0 0 ∷ names) inside (ready_local funs known names (known_var text are.0 changes) are.0 0 (type_seen shape known are.0 plain.0.0 are.1).1 refl r) calls.1 plain.1 are.3
      (behind_one shape vars text are.0 changes known inside are.1 behind))
  vars_none other known names inside r calls plain are behind = absurd are

  -- ---- assignments

  assign_none : (known : Names) (names : List Name) (text : List ℕ) (places value : Tree) (at : ℕ) (ks : List Kind) (k : Kind) → AreReady funs known names → CallsAll funs procs rs places → CallsAll funs procs rs value → IsPlain places → IsPlain value
      → kinds places known ≡ Fine ks → kind value known ≡ Fine k → MayBeAssigned text ks k known → left_out_set rs.functions names text places value at ≡ None
  assign_none known names text places value at ks k r calls calls_value plain plain_value are is may =
      let s : IsSeen names text may.meant = r.seen text may.meant may.is_meant in
      let cell : (c : ℕ) × (s.name.seat ≡ Cell c) = r.cells text may.meant s.name may.is_meant may.changes s.is in
      let stands : named text names ≡ Some (local_of s.name.text s.name.shape cell.0) =
      s.is ∙ ap (λ (seat : Seat). Some (record { text = s.name.text; shape = s.name.shape; seat = seat })) cell.1 in
      let inside : kind_inside (kind_of_type s.name.shape) ks ≡ Some k = subst (λ (l : Kind). kind_inside l ks ≡ Some k) (sym s.kind) may.inside in
      let p : IsPartOf s.name.shape places k = part_of s.name.shape places known ks k are inside in
      set_none rs.functions names text s.name.text cell.0 s.name.shape p.shape places value at stands s.typed p.is
      (none_of_places funs rs.functions known names places ks r (called places calls) plain are (all_numbers (kind_of_type s.name.shape) ks k inside))
      (subst (λ (l : Kind). NoneOf rs.functions names value l) (sym p.kind) (none_of funs rs.functions known names value k r (called value calls_value) plain_value is))

  -- ---- statements

  truth_none : (known : Names) (names : List Name) (e : Tree) → AreReady funs known names → CallsAll funs procs rs e → IsPlain e → kind e known ≡ Fine BoolKind → left_out_in rs.functions names e ≡ None
  truth_none known names e r calls plain is = none_of_one funs rs.functions known names e scalar.Bool r (called e calls) plain is

  number_none : (known : Names) (names : List Name) (e : Tree) → AreReady funs known names → CallsAll funs procs rs e → IsPlain e → kind e known ≡ Fine NumKind → left_out_in rs.functions names e ≡ None
  number_none known names e r calls plain is = none_of_one funs rs.functions known names e (scalar.Int 32) r (called e calls) plain is

  call_none : (known : Names) (names : List Name) (text : List ℕ) (args : Tree) (at : ℕ) (p : Proc) → AreReady funs known names → CallsAll funs procs rs args → IsPlain args → IsRoutineOfProc rs.procedures text p → arguments_fit args p.formals known ≡ Fine true
      → ◌≡◌ {A = Option ℕ} (elim (procedure_for text (number_of args) rs.procedures) [ None ↦ Some at | Some g ↦ left_out_args rs.functions names args ]) None
  call_none known names text args at p r calls plain f fit =
      let found = none_of_arguments funs rs.functions known names args p.formals r (called args calls) plain fit f.formals in
      ap (λ (o : Option Procedure). elim o [ None ↦ Some at | Some g ↦ left_out_args rs.functions names args ]) (found_proc rs.procedures text (number_of args) f.routine f.found (f.as_many ∙ sym found.1))
      ∙ found.0

  mutual
    pub stmt_none : (s : Tree) (known : Names) (names : List Name) → AreReady funs known names → CallsAll funs procs rs s → IsPlain s → IsStatement s procs known → left_out_stmt rs names s ≡ None
    stmt_none (tree.assign (tree.ident text place) places value at) known names r calls plain is =
        assign_none known names text places value at is.0 is.1 r calls.0 calls.1 plain.0 plain.1 is.2 is.3 is.4
    stmt_none (tree.call_stmt (tree.ident text place) args at) known names r calls plain is =
        call_none known names text args at is.0 r calls.1 plain (calls.0 is.0 is.1) is.2
    stmt_none (tree.if_stmt test first other at) known names r calls plain is =
        none_both (left_out_in rs.functions names test) (left_out_all rs names first or_else left_out_all rs names other) (truth_none known names test r calls.0 plain.0 is.0)
        (none_both (left_out_all rs names first) (left_out_all rs names other) (all_none first known names r calls.1 plain.1 is.1) (all_none other known names r calls.2 plain.2 is.2))
    stmt_none (tree.while_stmt test body at) known names r calls plain is =
        none_both (left_out_all rs names body) (left_out_in rs.functions names test) (all_none body known names r calls.1 plain.1 is.1) (truth_none known names test r calls.0 plain.0 is.0)
    stmt_none (tree.foreach_stmt shape (tree.ident text place) from to body at) known names r calls plain is =
        let c : IsCount is.0 = count_of is.0 (begins shape) is.2 in
        let judged : type_judged shape known ≡ Fine (Single c.scalar) = is.1 ∙ ap (λ (t : Shape). Fine t) c.is in
        ap (λ (o : Option Scalar). elim o [
          | None ↦ Some at
          | Some t ↦ left_out_in rs.functions names from or_else (left_out_in rs.functions names to or_else left_out_all rs (local text t 0 ∷ names) body)
        ]) (scalar_seen shape known c.scalar plain.0 judged).0
        ∙ none_both (left_out_in rs.functions names from) (left_out_in rs.functions names to or_else left_out_all rs (local text c.scalar 0 ∷ names) body) (number_none known names from r calls.1 plain.1 is.3)
        (none_both (left_out_in rs.functions names to) (left_out_all rs (local text c.scalar 0 ∷ names) body) (number_none known names to r calls.2 plain.2 is.4)
        (all_none body (with_known (counter text) known) (local text c.scalar 0 ∷ names) (ready_local funs known names (counter text) (Single c.scalar) 0 (scalar_seen shape known c.scalar plain.0 judged).1 c.number r) calls.3 plain.3 is.5))
    stmt_none (tree.block vars body at) known names r calls plain is =
        vars_none vars known names (λ inner. left_out_all rs inner body) r calls.0 plain.0 is.0
        (λ inner ready. all_none body (with_vars_known vars known) inner ready calls.1 plain.1 is.2)
    stmt_none other known names r calls plain is = absurd is

    pub all_none : (ss : Tree) (known : Names) (names : List Name) → AreReady funs known names → CallsAll funs procs rs ss → IsPlain ss → AreStatements ss procs known → left_out_all rs names ss ≡ None
    all_none tree.nil known names r calls plain are = refl
    all_none (tree.cons s rest) known names r calls plain are =
        none_both (left_out_stmt rs names s) (left_out_all rs names rest) (stmt_none s known names r calls.0 plain.0 are.0) (all_none rest known names r calls.1 plain.1 are.1)
    all_none tree.absent known names r calls plain are = refl
    all_none (tree.present body) known names r calls plain are = all_none body known names r calls plain are
    all_none other known names r calls plain are = absurd are
