-- Statements of which none breaks a rule.
use Rattle.std.proofs.Common.{◌≡◌, ℕ, Bool, true, false, List, [], ◌∷◌, ◌++◌, refl, sym, ap, subst, ◌∙◌, Option, None, Some}
use Rattle.rvc_base.specs.Rules.{unknown_name, wrong_kind, wrong_number_of_arguments, constant_assigned}
use Rattle.rvc_base.specs.declared.scalar.Scalar.TheVariants as scalar
use Rattle.cal_ast.specs.Places.{begins}
use Rattle.cal_ast.specs.Tree as tree
use Rattle.cal_ast.specs.Tree.{Tree}
use Rattle.cal_model.specs.Value.{Kind, NumKind, BoolKind, ListKind, Shape, Single, Many}
use Rattle.cal_model.specs.Actor.{Proc}
use Rattle.cal_model.specs.Statement.{proc_named}
use Rattle.cal_model.specs.Kinding.{Judged, Fine, Broken, Known, Names, and_so, kind, kinds, arguments_fit, meant_by, type_judged, counts, with_known, counter}
use Rattle.cal_model.specs.Sound.{AreDistinct, AreStatements, IsPlain, IsStatement, MayBeAssigned, kind_inside, names_of_vars}
use Rattle.cal_model.proofs.KindValues.{not-fine, fine-is, split}
use Rattle.cal_check.specs.Violations.{broken, if_fine, unless}
use Rattle.cal_check.specs.Constants.{stored_kind}
use Rattle.cal_check.specs.Written.{written, statement_written, behind_vars}
use Rattle.cal_check.specs.Statements.{as_many, assigned_kind, assignment_judged, call_judged, counter_judged, kind_at_places, may_be_assigned, names_behind, starts_broken, statement_broken, test_judged}
use Rattle.cal_check.specs.Formed.{AreFormed, IsFormed}
use Rattle.cal_check.specs.Laws.{ConstantsFit}
use Rattle.cal_check.proofs.Fine.{broken-none, if-none, none-of, stored-is, unless-true}
use Rattle.cal_check.proofs.PlainTrees.{plain, all-plain, arguments-plain, type-plain}
use Rattle.cal_check.proofs.KeptKinds.{kept, all-kept, arguments-kept, type-kept, begins-written, fit-more}
use Rattle.cal_check.proofs.SoundLocals.{AreSound, are-sound}

-- what is written has the kind that is asked for, and is plain
pub record IsWrittenOf (k : Kind) (e : Tree) (names : Names) : Type 0 where
  pub same : kind (written e names) names ≡ Fine k
  pub bare : IsPlain (written e names)

pub of-kind : (k : Kind) (e : Tree) (names : Names) → ConstantsFit names → broken (stored_kind k e names) ≡ [] → IsWrittenOf k e names
of-kind k e names fit h =
    let l = broken-none (stored_kind k e names) h in
    let fine : kind e names ≡ Fine k = stored-is k l.0 e names l.1 in
    record { same = kept e names k fit fine; bare = plain e names k fine }

-- ---- assignments

some-is : {A : Type 0} (a b : A) → Fine a ≡ Fine b → Some a ≡ Some b
some-is a b h = ap Some (fine-is a b h)

inside-is : (k : Kind) (ks : List Kind) (at : ℕ) (l : Kind) → kind_at_places k ks at ≡ Fine l → kind_inside k ks ≡ Some l
inside-is k [] at l h = some-is k l h
inside-is (ListKind n k) (NumKind ∷ ks) at l h = inside-is k ks at l h
inside-is (ListKind n k) (BoolKind ∷ ks) at l h = absurd (not-fine wrong_kind at l h)
inside-is (ListKind n k) (ListKind m j ∷ ks) at l h = absurd (not-fine wrong_kind at l h)
inside-is NumKind (j ∷ ks) at l h = absurd (not-fine wrong_kind at l h)
inside-is BoolKind (j ∷ ks) at l h = absurd (not-fine wrong_kind at l h)

pub assigned-is : (o : Option Known) (ks : List Kind) (at : ℕ) (l : Kind) → assigned_kind o ks at ≡ Fine l → (x : Known) × (o ≡ Some x) × (kind_inside x.kind ks ≡ Some l)
assigned-is None ks at l h = absurd (not-fine unknown_name at l h)
assigned-is (Some x) ks at l h = (x, refl, inside-is x.kind ks at l h)

may-be-assigned : (name : List ℕ) (ks : List Kind) (place at : ℕ) (l : Kind) (names : Names) → assigned_kind (meant_by name names) ks place ≡ Fine l
    → may_be_assigned (meant_by name names) at ≡ [] → MayBeAssigned name ks l names
may-be-assigned name ks place at l names h i =
    let x = assigned-is (meant_by name names) ks place l h in
    let changes : unless x.0.changes constant_assigned at ≡ [] = ap (λ o. may_be_assigned o at) (sym x.1) ∙ i in
    record { meant = x.0; is_meant = x.1; changes = unless-true x.0.changes constant_assigned at changes; inside = x.2 }

-- ---- calls

as-many-is : (j : Judged Bool) (at : ℕ) (b : Bool) → as_many j at ≡ Fine b → j ≡ Fine true
as-many-is (Fine true) at b h = refl
as-many-is (Fine false) at b h = absurd (not-fine wrong_number_of_arguments at b h)
as-many-is (Broken rule p) at b h = absurd (not-fine rule p b h)

pub called-is : (o : Option Proc) (args : Tree) (at : ℕ) (names : Names) (b : Bool) → call_judged o args at names ≡ Fine b
    → (p : Proc) × (o ≡ Some p) × (arguments_fit args p.formals names ≡ Fine true)
called-is None args at names b h = absurd (not-fine unknown_name at b h)
called-is (Some p) args at names b h = (p, refl, as-many-is (arguments_fit args p.formals names) at b h)

-- ---- loops

counts-is : (t s : Shape) (at : ℕ) → counts t at ≡ Fine s → counts t at ≡ Fine t
counts-is (Single scalar.Bool) s at h = absurd (not-fine wrong_kind at s h)
counts-is (Single (scalar.Int n)) s at h = refl
counts-is (Single (scalar.Uint n)) s at h = refl
counts-is (Many n t) s at h = absurd (not-fine wrong_kind at s h)

-- ---- statements

-- statements that are sound once they are written out
pub record AreRight (ss : Tree) (procs : List Proc) (names : Names) : Type 0 where
  pub are : AreStatements (statement_written ss names) procs names
  pub bare : IsPlain (statement_written ss names)

pub record IsRight (s : Tree) (procs : List Proc) (names : Names) : Type 0 where
  pub is : IsStatement (statement_written s names) procs names
  pub bare : IsPlain (statement_written s names)

block-right : (vars body : Tree) (at : ℕ) (procs : List Proc) (names inner : Names) → AreDistinct (names_of_vars vars) → AreSound vars names inner → AreRight body procs inner
    → IsRight (tree.block vars body at) procs names
block-right vars body at procs names inner d s r = record {
  is = (
    s.are_vars,
    subst (λ ns. AreDistinct ns) (sym s.is_named) d,
    subst (λ n. AreStatements (statement_written body (behind_vars vars names)) procs n) (sym s.is_known)
        (subst (λ n. AreStatements (statement_written body n) procs inner) (sym s.is_behind) r.are),
  );
  bare = (s.bare, subst (λ n. IsPlain (statement_written body n)) (sym s.is_behind) r.bare);
}

mutual
  pub is-right : (s : Tree) (procs : List Proc) (names : Names) → IsFormed s → ConstantsFit names → statement_broken s procs names ≡ [] → IsRight s procs names
  is-right (tree.assign (tree.ident name place) places value at) procs names f fit h =
      let parts = none-of (broken (assignment_judged name place places value names)) (may_be_assigned (meant_by name names) at) h in
      let j = broken-none (assignment_judged name place places value names) parts.0 in
      let ks = split (kinds places names) (λ ks. and_so (assigned_kind (meant_by name names) ks place) (λ k. stored_kind k value names)) j.0 j.1 in
      let k = split (assigned_kind (meant_by name names) ks.0 place) (λ k. stored_kind k value names) j.0 ks.2 in
      let fine : kind value names ≡ Fine k.0 = stored-is k.0 j.0 value names k.2 in
      record {
        is = (ks.0, k.0, all-kept places names ks.0 fit ks.1, kept value names k.0 fit fine, may-be-assigned name ks.0 place at k.0 names k.1 parts.1);
        bare = (all-plain places names ks.0 ks.1, plain value names k.0 fine);
      }
  is-right (tree.call_stmt (tree.ident name place) args at) procs names f fit h =
      let b = broken-none (call_judged (proc_named name procs) args at names) h in
      let p = called-is (proc_named name procs) args at names b.0 b.1 in
      record {
        is = (p.0, p.1, arguments-kept args p.0.formals names true fit p.2);
        bare = arguments-plain args p.0.formals names true p.2;
      }
  is-right (tree.if_stmt test first other at) procs names f fit h =
      let parts = none-of (broken (test_judged test names)) (statement_broken first procs names ++ statement_broken other procs names) h in
      let two = none-of (statement_broken first procs names) (statement_broken other procs names) parts.1 in
      let t = of-kind BoolKind test names fit parts.0 in
      let one = are-right first procs names f.0 fit two.0 in
      let rest = are-right other procs names f.1 fit two.1 in
      record { is = (t.same, one.are, rest.are); bare = (t.bare, one.bare, rest.bare) }
  is-right (tree.while_stmt test body at) procs names f fit h =
      let parts = none-of (broken (test_judged test names)) (statement_broken body procs names) h in
      let t = of-kind BoolKind test names fit parts.0 in
      let r = are-right body procs names f fit parts.1 in
      record { is = (t.same, r.are); bare = (t.bare, r.bare) }
  is-right (tree.foreach_stmt shape (tree.ident name place) from to body at) procs names f fit h =
      let p = none-of (broken (counter_judged shape names)) _ h in
      let q = none-of (broken (stored_kind NumKind from names)) _ p.1 in
      let r = none-of (broken (stored_kind NumKind to names)) _ q.1 in
      let c = broken-none (counter_judged shape names) p.0 in
      let t = split (type_judged shape names) (λ t. counts t (begins shape)) c.0 c.1 in
      let a = of-kind NumKind from names fit q.0 in
      let b = of-kind NumKind to names fit r.0 in
      let body_right = are-right body procs (with_known (counter name) names) f (fit-more (counter name) names refl fit) r.1 in
      record {
        is = (
          t.0,
          type-kept shape names t.0 fit t.1,
          subst (λ at. counts t.0 at ≡ Fine t.0) (sym (begins-written shape names)) (counts-is t.0 c.0 (begins shape) t.2),
          a.same,
          b.same,
          body_right.are,
        );
        bare = (type-plain shape names t.0 t.1, a.bare, b.bare, body_right.bare);
      }
  is-right (tree.block vars body at) procs names f fit h =
      let p = none-of (starts_broken vars names) (if_fine (names_behind vars names) (λ inner. statement_broken body procs inner)) h in
      let i = if-none (names_behind vars names) (λ inner. statement_broken body procs inner) p.1 in
      let s = are-sound vars names i.0 f.0 fit i.1 p.0 in
      block-right vars body at procs names i.0 f.1 s (are-right body procs i.0 f.2 s.fit i.2)
  is-right other procs names f fit h = absurd f

  pub are-right : (ss : Tree) (procs : List Proc) (names : Names) → AreFormed ss → ConstantsFit names → statement_broken ss procs names ≡ [] → AreRight ss procs names
  are-right tree.nil procs names f fit h = record { are = tt; bare = tt }
  are-right (tree.cons s rest) procs names f fit h =
      let p = none-of (statement_broken s procs names) (statement_broken rest procs names) h in
      let one = is-right s procs names f.0 fit p.0 in
      let more = are-right rest procs names f.1 fit p.1 in
      record { are = (one.is, more.are); bare = (one.bare, more.bare) }
  are-right tree.absent procs names f fit h = record { are = tt; bare = tt }
  are-right (tree.present body) procs names f fit h =
      let r = are-right body procs names f fit h in
      record { are = r.are; bare = r.bare }
  are-right other procs names f fit h = absurd f
