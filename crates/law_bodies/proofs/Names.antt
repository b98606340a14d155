-- Names that the code sees, and further ones in front of them.
use Rattle.std.proofs.Common.{◌≡◌, ℕ, ◌+◌, List, [], ◌∷◌, map, Bool, true, false, refl, sym, ap, ◌∙◌, subst, None, Some}
use Rattle.std.specs.Prelude.{if◌then◌else◌}
use Rattle.std.specs.Str.{bytes_eq}
use Rattle.rvc_base.specs.declared.scalar.Scalar.{Scalar}
use Rattle.rvc_base.specs.declared.scalar.Scalar.TheVariants as scalar
use Rattle.cal_model.specs.Value.{Shape, Single, IsOf, IsType, kind_of_type, scalars_of_type}
use Rattle.cal_model.specs.Actor.{Fun, Held, Local}
use Rattle.cal_model.specs.Kinding.{Known, Names, known_as, meant_by, with_known}
use Rattle.cal_model.specs.Sound.{AreLocals, Each, IsFormal, known_local, known_of, with_locals}
use Rattle.lower_base.specs.declared.names.Seat.{Seat}
use Rattle.lower_base.specs.declared.names.Seat.TheVariants.{Cell}
use Rattle.lower_base.specs.Listed.{single_of}
use Rattle.lower_base.specs.Names.{Name, local, local_of, named}
use Rattle.lower_base.specs.Routining.{behind_formals, left_out_formals, some_formal}
use Rattle.action_lower.specs.FiringWords.{behind_locals}
use Rattle.action_lower.specs.Seats.{var_seats}
use Rattle.law_forms.specs.Lowerable.{AreSeen, FlatAt, IsSeen}
use Rattle.law_bodies.specs.Standing.{AreInCells, AreReady}

-- ---- one name more

-- what is asked of a name that stands for a known one
pub record StandsFor (x : Known) (t : Shape) (seat : Seat) : Type 0 where
  pub typed : IsType t
  pub kind : kind_of_type t ≡ x.kind
  pub flat : FlatAt seat t
  pub cell : x.changes ≡ true → (c : ℕ) × (seat ≡ Cell c)

abbrev pub name_for : Known → Shape → Seat → Name
name_for x t seat = record { text = x.name; shape = t; seat = seat }

seen_front : (known : Names) (names : List Name) (x : Known) (t : Shape) (seat : Seat) → StandsFor x t seat → AreSeen known names → AreSeen (with_known x known) (name_for x t seat ∷ names)
seen_front known names x t seat f seen text y e = go (bytes_eq x.name text) refl e
  where
    go : (b : Bool) → bytes_eq x.name text ≡ b → (if b then Some x else meant_by text known) ≡ Some y → IsSeen (name_for x t seat ∷ names) text y
    go true is h =
        let same : x ≡ y = cc in
        record {
          name = name_for x t seat;
          is = ap (λ b. if b then Some (name_for x t seat) else named text names) is;
          typed = f.typed;
          kind = f.kind ∙ ap (λ (z : Known). z.kind) same;
          flat = f.flat;
        }
    go false is h =
        let s : IsSeen names text y = seen text y h in
        record {
          name = s.name;
          is = ap (λ b. if b then Some (name_for x t seat) else named text names) is ∙ s.is;
          typed = s.typed;
          kind = s.kind;
          flat = s.flat;
        }

cells_front : (known : Names) (names : List Name) (x : Known) (t : Shape) (seat : Seat) → StandsFor x t seat → AreInCells known names → AreInCells (with_known x known) (name_for x t seat ∷ names)
cells_front known names x t seat f cells text y name e changes n = go (bytes_eq x.name text) e n
  where
    go : (b : Bool) → (if b then Some x else meant_by text known) ≡ Some y → (if b then Some (name_for x t seat) else named text names) ≡ Some name → (c : ℕ) × (name.seat ≡ Cell c)
    go true h i =
        let same : x ≡ y = cc in
        let one : name_for x t seat ≡ name = cc in
        let found : (c : ℕ) × (seat ≡ Cell c) = f.cell (subst (λ (z : Known). z.changes ≡ true) (sym same) changes) in
        (found.0, ap (λ (z : Name). z.seat) (sym one) ∙ found.1)
    go false h i = cells text y name h changes i

pub ready_front : (funs : List Fun) (known : Names) (names : List Name) (x : Known) (t : Shape) (seat : Seat) → StandsFor x t seat → AreReady funs known names → AreReady funs (with_known x known) (name_for x t seat ∷ names)
ready_front funs known names x t seat f r =
    record { calls = r.calls; seen = seen_front known names x t seat f r.seen; cells = cells_front known names x t seat f r.cells }

-- .. in cells
pub ready_local : (funs : List Fun) (known : Names) (names : List Name) (x : Known) (t : Shape) (c : ℕ) → IsType t → kind_of_type t ≡ x.kind → AreReady funs known names → AreReady funs (with_known x known) (local_of x.name t c ∷ names)
ready_local funs known names x t c typed kind r = ready_front funs known names x t (Cell c) (record { typed = typed; kind = kind; flat = tt; cell = λ e. (c, refl) }) r

-- ---- formals and locals

formal_kind : (x : Local) (t : Scalar) → x.shape ≡ Single t → (some_formal x).kind ≡ t
formal_kind x t e = ap (λ s. elim (single_of s) [ None ↦ scalar.Bool | Some u ↦ u ]) e

pub ready_formals : (funs : List Fun) (xs : List Local) (known : Names) (names : List Name) → Each IsFormal xs → AreReady funs known names → AreReady funs (with_locals xs known) (behind_formals xs (map some_formal xs) names)
ready_formals funs [] known names h r = r
ready_formals funs (x ∷ xs) known names h r =
    let kind : (some_formal x).kind ≡ h.0.scalar = formal_kind x h.0.scalar h.0.single in
    ready_formals funs xs (with_known (known_local x) known) (local x.name (some_formal x).kind 0 ∷ names) h.1
    (ready_local funs known names (known_local x) (Single (some_formal x).kind) 0
    (subst (λ (t : Scalar). IsType (Single t)) (sym kind) h.0.size)
    (ap (λ (t : Scalar). kind_of_type (Single t)) kind ∙ ap kind_of_type (sym h.0.single)) r)

pub formals_none : (xs : List Local) → Each IsFormal xs → left_out_formals xs ≡ None
formals_none [] h = refl
formals_none (x ∷ xs) h = ap (λ s. elim (single_of s) [ None ↦ Some 0 | Some t ↦ left_out_formals xs ]) h.0.single ∙ formals_none xs h.1

pub ready_locals : (funs : List Fun) (xs : List Local) (known : Names) (names : List Name) → AreLocals xs known → AreReady funs known names → AreReady funs (with_locals xs known) (behind_locals names xs)
ready_locals funs [] known names h r = r
ready_locals funs (x ∷ xs) known names h r =
    ready_locals funs xs (with_known (known_local x) known) (local_of x.name x.shape 0 ∷ names) h.2 (ready_local funs known names (known_local x) x.shape 0 h.0 refl r)

-- ---- variables of an actor

vars_seen : (vars : List Held) (c : ℕ) (text : List ℕ) (x : Known) → Each (λ v. IsType v.shape × IsOf v.shape v.value) vars → known_as text (map known_of vars) ≡ Some x → IsSeen (var_seats c vars) text x
vars_seen [] c text x h e = cc
vars_seen (v ∷ vars) c text x h e = go (λ f. vars_seen vars (c + scalars_of_type v.shape) text x h.1 f) (bytes_eq v.name text) refl e
  where
    go : (known_as text (map known_of vars) ≡ Some x → IsSeen (var_seats (c + scalars_of_type v.shape) vars) text x) → (b : Bool) → bytes_eq v.name text ≡ b → (if b then Some (known_of v) else known_as text (map known_of vars)) ≡ Some x → IsSeen (var_seats c (v ∷ vars)) text x
    go later true is f =
        let same : known_of v ≡ x = cc in
        record {
          name = local_of v.name v.shape c;
          is = ap (λ b. if b then Some (local_of v.name v.shape c) else named text (var_seats (c + scalars_of_type v.shape) vars)) is;
          typed = h.0.0;
          kind = ap (λ (z : Known). z.kind) same;
          flat = tt;
        }
    go later false is f =
        let s : IsSeen (var_seats (c + scalars_of_type v.shape) vars) text x = later f in
        record {
          name = s.name;
          is = ap (λ b. if b then Some (local_of v.name v.shape c) else named text (var_seats (c + scalars_of_type v.shape) vars)) is ∙ s.is;
          typed = s.typed;
          kind = s.kind;
          flat = s.flat;
        }

vars_cells : (vars : List Held) (c : ℕ) (text : List ℕ) (name : Name) → named text (var_seats c vars) ≡ Some name → (d : ℕ) × (name.seat ≡ Cell d)
vars_cells [] c text name e = cc
vars_cells (v ∷ vars) c text name e = go (λ f. vars_cells vars (c + scalars_of_type v.shape) text name f) (bytes_eq v.name text) e
  where
    go : (named text (var_seats (c + scalars_of_type v.shape) vars) ≡ Some name → (d : ℕ) × (name.seat ≡ Cell d)) → (b : Bool) → (if b then Some (local_of v.name v.shape c) else named text (var_seats (c + scalars_of_type v.shape) vars)) ≡ Some name → (d : ℕ) × (name.seat ≡ Cell d)
    go later true f = let same : local_of v.name v.shape c ≡ name = cc in (c, ap (λ (z : Name). z.seat) (sym same))
    go later false f = later f

pub ready_vars : (funs : List Fun) (vars : List Held) → Each (λ v. IsType v.shape × IsOf v.shape v.value) vars → AreReady funs (record { globals = map known_of vars; locals = []; funs = funs }) (var_seats 0 vars)
ready_vars funs vars h =
    record {
      calls = refl;
      seen = λ text x e. vars_seen vars 0 text x h e;
      cells = λ text x name e changes n. vars_cells vars 0 text name n;
    }
