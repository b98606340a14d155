-- Code of functions that was added to a draft, part by part.
use Rattle.std.proofs.Common.{◌≡◌, ℕ, ◌+◌, List, [], ◌∷◌, ◌++◌, length, map, sym, ap, ◌∙◌, refl, subst, None, Some, arith, append_assoc, append-nil}
use Rattle.rvc_base.specs.declared.scalar.Scalar.{Scalar}
use Rattle.rvc_base.specs.declared.scalar.Scalar.TheVariants as scalar
use Rattle.cal_ast.specs.Tree.{Tree}
use Rattle.cal_model.specs.Value.{Shape, Single, Many}
use Rattle.cal_model.specs.Actor.{Local, Fun}
use Rattle.lower_base.specs.Callees.{Function}
use Rattle.lower_base.specs.Calling.{AreInRow}
use Rattle.lower_base.specs.Coding.{IsCode}
use Rattle.lower_base.specs.declared.callees.Formal.{Formal}
use Rattle.lower_base.specs.declared.draft.Draft.{Draft}
use Rattle.lower_base.specs.Growing.{◌or_else◌}
use Rattle.lower_base.specs.Listed.{single_of}
use Rattle.lower_base.specs.Lowered.{Adds, IsPut}
use Rattle.lower_base.specs.Names.{local, local_of, Name}
use Rattle.lower_base.specs.RoutineWords.{HasFormalCells}
use Rattle.lower_base.specs.Routining.{IsBody, StandForFormals, behind_formals, left_out_body, left_out_formals, left_out_fun, no_more_locals, return_code, some_formal}
use Rattle.lower_base.specs.Starting.{left_out_local}
use Rattle.lower_base.specs.Taking.{HasOneMore}
use Rattle.lower_base.proofs.Erased.{both_same, erase, local_erased, out_erased}

-- a type of single values
pub single_is : (s : Shape) (t : Scalar) → single_of s ≡ Some t → s ≡ Single t
single_is (Single u) t e = let same : u ≡ t = cc in ap Single same
single_is (Many n items) t e = cc

pub return_adds : {fs : List Function} (names : List Name) (t : Scalar) (e : Tree) (c : ℕ) (old d1 d2 new : Draft) → HasOneMore old d1 c → Adds (IsCode fs names e) d1 d2 → IsPut (return_code c t) d2 new → Adds (IsBody fs t e names []) old new
return_adds {fs = fs} names t e c old d1 d2 new taken f p =
    let n : ℕ = old.cells in
    let e2 : d2.instrs.items ≡ old.instrs.items ++ f.code = f.is ∙ ap (λ xs. xs ++ f.code) taken.instrs in
    record {
      code = f.code ++ return_code n t;
      is = p.is ∙ ap (λ xs. xs ++ return_code c t) e2 ∙ append_assoc old.instrs.items f.code (return_code c t) ∙ ap (λ x. old.instrs.items ++ (f.code ++ return_code x t)) taken.is;
      routines = p.routines ∙ f.routines ∙ taken.routines;
      has = subst (λ m. IsBody fs t e names [] (length old.instrs.items) n (f.code ++ return_code n t) m) (sym p.cells)
          (no_more_locals names (length old.instrs.items) n d2.cells f.code
          (subst (λ q. IsCode fs names e q (n + 1) f.code d2.cells) (ap length taken.instrs) (subst (λ x. IsCode fs names e (length d1.instrs.items) x f.code d2.cells) taken.cells f.has)));
    }

-- ---- which cells names have doesn't matter

body_erased : (fs : List Function) (names : List Name) (xs : List Local) (e : Tree) → left_out_body fs (map erase names) xs e ≡ left_out_body fs names xs e
body_erased fs names [] e = out_erased fs names e
body_erased fs names (x ∷ xs) e = both_same (local_erased fs names x) (body_erased fs (local_of x.name x.shape 0 ∷ names) xs e)

-- behind a local, once its start leaves out nothing
pub local_open : (fs : List Function) (names : List Name) (x : Local) (xs : List Local) (e : Tree) (c : ℕ) → left_out_local fs names x ≡ None
    → left_out_body fs names (x ∷ xs) e ≡ left_out_body fs (local_of x.name x.shape c ∷ names) xs e
local_open fs names x xs e c none =
    ap (λ y. y or_else left_out_body fs (local_of x.name x.shape 0 ∷ names) xs e) none
    ∙ sym (body_erased fs (local_of x.name x.shape 0 ∷ names) xs e) ∙ body_erased fs (local_of x.name x.shape c ∷ names) xs e

-- formals in other cells
pub formals_erased : (xs : List Local) (ys : List Formal) (names others : List Name) → StandForFormals xs ys → map erase names ≡ map erase others → map erase (behind_formals xs ys names) ≡ map erase (behind_formals xs (map some_formal xs) others)
formals_erased [] [] names others h e = e
formals_erased [] (y ∷ ys) names others h e = absurd h
formals_erased (x ∷ xs) [] names others h e = absurd h
formals_erased (x ∷ xs) (y ∷ ys) names others h e =
    let kind : (some_formal x).kind ≡ y.kind = ap (λ (s : Shape). elim (single_of s) [ None ↦ scalar.Bool | Some t ↦ t ]) h.0 in
    formals_erased xs ys (local x.name y.kind y.cell ∷ names) (local x.name (some_formal x).kind 0 ∷ others) h.1
    (ap (λ t. local x.name t 0 ∷ map erase names) (sym kind) ∙ ap (λ ns. local x.name (some_formal x).kind 0 ∷ ns) e)

pub body_anywhere : (fs : List Function) (names : List Name) (xs : List Local) (ys : List Formal) (ls : List Local) (e : Tree) → StandForFormals xs ys
    → left_out_body fs (behind_formals xs (map some_formal xs) names) ls e ≡ left_out_body fs (behind_formals xs ys names) ls e
body_anywhere fs names xs ys ls e h =
    sym (body_erased fs (behind_formals xs (map some_formal xs) names) ls e) ∙ ap (λ ns. left_out_body fs ns ls e) (sym (formals_erased xs ys names names h refl)) ∙ body_erased fs (behind_formals xs ys names) ls e

-- ---- cells of formals

pub formals_none : (before : List Formal) (draft : Draft) → HasFormalCells [] before before draft draft
formals_none before draft =
    record { formals = []; is = sym (append-nil before); stand = tt; row = tt; instrs = refl; routines = refl; cells = omega arith }

pub formals_more : (x : Local) (xs : List Local) (kind : Scalar) (c : ℕ) (before mid now : List Formal) (old d1 new : Draft) → single_of x.shape ≡ Some kind → HasOneMore old d1 c → mid ≡ before ++ record { cell = c; kind = kind } ∷ []
    → HasFormalCells xs mid now d1 new → HasFormalCells (x ∷ xs) before now old new
formals_more x xs kind c before mid now old d1 new shape taken pushed rest =
    let at = taken.is in
    let more = taken.cells in
    let size = rest.cells in
    record {
      formals = record { cell = c; kind = kind } ∷ rest.formals;
      is = rest.is ∙ ap (λ ys. ys ++ rest.formals) pushed ∙ append_assoc before (record { cell = c; kind = kind } ∷ []) rest.formals;
      stand = (single_is x.shape kind shape, rest.stand);
      row = (at, subst (λ k. AreInRow k rest.formals) more rest.row);
      instrs = rest.instrs ∙ taken.instrs;
      routines = rest.routines ∙ taken.routines;
      cells = omega (arith, size, more);
    }

-- a function whose formals are single values leaves out what its locals and its body do
pub fun_open : (fs : List Function) (names : List Name) (f : Fun) (ys : List Formal) → left_out_formals f.formals ≡ None → StandForFormals f.formals ys
    → left_out_fun fs names f ≡ left_out_body fs (behind_formals f.formals ys names) f.locals f.body
fun_open fs names f ys none h =
    ap (λ o. o or_else left_out_body fs (behind_formals f.formals (map some_formal f.formals) names) f.locals f.body) none ∙ body_anywhere fs names f.formals ys f.locals f.body h
