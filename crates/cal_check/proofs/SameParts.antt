-- Plain parts that are sound over some names are sound over all names of the same kinds.
use Rattle.std.proofs.Common.{◌≡◌, ℕ, Bool, false, List, [], ◌∷◌, refl, sym, ap, subst, ◌∙◌, Option, None, Some}
use Rattle.cal_ast.specs.Tree as tree
use Rattle.cal_ast.specs.Tree.{Tree}
use Rattle.cal_model.specs.Value.{Kind, Shape, kind_of_type}
use Rattle.cal_model.specs.Actor.{Actor, Local, Output, Pattern, Proc}
use Rattle.cal_model.specs.Selection.{kind_of_port}
use Rattle.cal_model.specs.Kinding.{Judged, Known, Names, counter, meant_by, type_judged, with_known}
use Rattle.cal_model.specs.Sound.{AreLocals, AreStatements, AreVars, Each, IsOutput, IsPlain, IsStatement, IsVarStart, MayBeAssigned, StartHasKind, kind_inside, kind_of_judged, kind_of_tokens, known_local, with_locals, with_pattern, with_patterns, with_vars_known}
use Rattle.cal_check.specs.Laws.{AreAlike, IsGuard, IsKnownLike}
use Rattle.cal_check.specs.Uses.{OnlyUses}
use Rattle.cal_check.proofs.WrittenUses.{EachStart, OfStart}
use Rattle.cal_check.proofs.SameNames.{all-same, arguments-same, more-alike, same, type-same}

-- what holds of each of a list, from two facts of each
pub each-both : {A : Type 0} (P Q R : A → Type 0) → ((a : A) → P a → Q a → R a) → (xs : List A) → Each P xs → Each Q xs → Each R xs
each-both P Q R f [] p q = tt
each-both P Q R f (x ∷ xs) p q = (f x p.0 q.0, each-both P Q R f xs p.1 q.1)

module _ (P : List ℕ → Type 0) where
  -- ---- guards and outputs

  pub guard-same : (n m : Names) → AreAlike P n m → (g : Tree) → OnlyUses P g → IsGuard n g → IsGuard m g
  guard-same n m h g u p = (sym (same P g n m h p.1 u) ∙ p.0, p.1)

  pub output-same : (actor : Actor) (n m : Names) → AreAlike P n m → (o : Output) → OnlyUses P o.values → IsOutput actor n o → IsOutput actor m o
  output-same actor n m h o u p = record {
    port = p.port;
    repeat = p.repeat;
    found = p.found;
    kinds = sym (all-same P o.values n m h p.plain u) ∙ p.kinds;
    each = p.each;
    plain = p.plain;
  }

  -- ---- locals

  pub with-locals-alike : (xs : List Local) (n m : Names) → AreAlike P n m → AreAlike P (with_locals xs n) (with_locals xs m)
  with-locals-alike [] n m h = h
  with-locals-alike (x ∷ xs) n m h = with-locals-alike xs (with_known (known_local x) n) (with_known (known_local x) m) (more-alike P (known_local x) n m h)

  start-same : (k : Kind) (start : Option Tree) (n m : Names) → AreAlike P n m → OfStart (OnlyUses P) start → StartHasKind k start n → StartHasKind k start m
  start-same k None n m h u p = tt
  start-same k (Some e) n m h u p = (sym (same P e n m h p.1 u) ∙ p.0, p.1)

  pub locals-same : (xs : List Local) (n m : Names) → AreAlike P n m → EachStart (OnlyUses P) xs → AreLocals xs n → AreLocals xs m
  locals-same [] n m h u p = tt
  locals-same (x ∷ xs) n m h u p =
      (p.0, start-same (kind_of_type x.shape) x.start n m h u.0 p.1, locals-same xs (with_known (known_local x) n) (with_known (known_local x) m) (more-alike P (known_local x) n m h) u.1 p.2)

  -- ---- patterns

  pub with-pattern-alike : (k : Kind) (names : List (List ℕ)) (n m : Names) → AreAlike P n m → AreAlike P (with_pattern k names n) (with_pattern k names m)
  with-pattern-alike k [] n m h = h
  with-pattern-alike k (name ∷ more) n m h =
      let x : Known = record { name = name; kind = k; value = None; changes = false } in
      with-pattern-alike k more (with_known x n) (with_known x m) (more-alike P x n m h)

  pub with-patterns-alike : (actor : Actor) (qs : List Pattern) (n m : Names) → AreAlike P n m → AreAlike P (with_patterns actor qs n) (with_patterns actor qs m)
  with-patterns-alike actor [] n m h = h
  with-patterns-alike actor (q ∷ qs) n m h =
      let k : Kind = kind_of_tokens (kind_of_port actor.ins q.port) q.repeat in
      with-patterns-alike actor qs (with_pattern k q.names n) (with_pattern k q.names m) (with-pattern-alike k q.names n m h)

  -- ---- variables of blocks

  var-start-same : (k : Kind) (start : Tree) (n m : Names) → AreAlike P n m → IsPlain start → OnlyUses P start → IsVarStart k start n → IsVarStart k start m
  var-start-same k tree.absent n m h p u s = tt
  var-start-same k (tree.present e) n m h p u s = sym (same P e n m h p u) ∙ s
  var-start-same k other n m h p u s = absurd s

  vars-same : (vars : Tree) (n m : Names) → AreAlike P n m → IsPlain vars → OnlyUses P vars → AreVars vars n → AreVars vars m
  vars-same tree.nil n m h p u s = tt
  vars-same (tree.cons (tree.var shape (tree.ident name place) start changes at) vars) n m h p u s =
      let t : Shape = s.0 in
      let x : Known = record { name = name; kind = kind_of_type t; value = None; changes = changes } in (
        t,
        sym (type-same P shape n m h p.0.0 u.0.0) ∙ s.1,
        var-start-same (kind_of_type t) start n m h p.0.1 u.0.1 s.2,
        vars-same vars (with_known x n) (with_known x m) (more-alike P x n m h) p.1 u.1 s.3,
      )
  vars-same other n m h p u s = absurd s

  abbrev known_by : List ℕ → Bool → Judged Shape → Known
  known_by name changes j = record { name = name; kind = kind_of_judged j; value = None; changes = changes }

  vars-alike : (vars : Tree) (n m : Names) → AreAlike P n m → IsPlain vars → OnlyUses P vars → AreAlike P (with_vars_known vars n) (with_vars_known vars m)
  vars-alike (tree.cons (tree.var shape (tree.ident name place) start changes at) vars) n m h p u =
      let x : Known = known_by name changes (type_judged shape n) in
      let y : Known = known_by name changes (type_judged shape m) in
      let e : x ≡ y = ap (λ j. known_by name changes j) (type-same P shape n m h p.0.0 u.0.0) in
      vars-alike vars (with_known x n) (with_known y m) (subst (λ z. AreAlike P (with_known x n) (with_known z m)) e (more-alike P x n m h)) p.1 u.1
  vars-alike other n m h p u = h

  -- ---- statements

  -- what a name means over the other names
  other-known : (o p : Option Known) (x : Known) → IsKnownLike o p → o ≡ Some x → (y : Known) × (p ≡ Some y) × (x.kind ≡ y.kind) × (x.changes ≡ y.changes)
  other-known None p x h e = absurd (cc)
  other-known (Some z) None x h e = absurd h
  other-known (Some z) (Some y) x h e =
      let is : z ≡ x = cc in
      (y, refl, ap (λ w. w.kind) (sym is) ∙ h.0, ap (λ w. w.changes) (sym is) ∙ h.1)

  assigned-same : (name : List ℕ) (ks : List Kind) (k : Kind) (n m : Names) → AreAlike P n m → P name → MayBeAssigned name ks k n → MayBeAssigned name ks k m
  assigned-same name ks k n m h u a =
      let y = other-known (meant_by name n) (meant_by name m) a.meant (h.known name u) a.is_meant in
      record {
        meant = y.0;
        is_meant = y.1;
        changes = sym y.3 ∙ a.changes;
        inside = ap (λ l. kind_inside l ks) (sym y.2) ∙ a.inside;
      }

  mutual
    pub statement-same : (s : Tree) (procs : List Proc) (n m : Names) → AreAlike P n m → IsPlain s → OnlyUses P s → IsStatement s procs n → IsStatement s procs m
    statement-same (tree.assign (tree.ident name place) places value at) procs n m h p u s =
        (s.0, s.1, sym (all-same P places n m h p.0 u.1) ∙ s.2, sym (same P value n m h p.1 u.2) ∙ s.3, assigned-same name s.0 s.1 n m h u.0 s.4)
    statement-same (tree.call_stmt (tree.ident name place) args at) procs n m h p u s =
        let q : Proc = s.0 in
        (q, s.1, sym (arguments-same P args q.formals n m h p u) ∙ s.2)
    statement-same (tree.if_stmt test first other at) procs n m h p u s =
        (sym (same P test n m h p.0 u.0) ∙ s.0, statements-same first procs n m h p.1 u.1 s.1, statements-same other procs n m h p.2 u.2 s.2)
    statement-same (tree.while_stmt test body at) procs n m h p u s =
        (sym (same P test n m h p.0 u.0) ∙ s.0, statements-same body procs n m h p.1 u.1 s.1)
    statement-same (tree.foreach_stmt shape (tree.ident name place) from to body at) procs n m h p u s = (
      s.0,
      sym (type-same P shape n m h p.0 u.0) ∙ s.1,
      s.2,
      sym (same P from n m h p.1 u.1) ∙ s.3,
      sym (same P to n m h p.2 u.2) ∙ s.4,
      statements-same body procs (with_known (counter name) n) (with_known (counter name) m) (more-alike P (counter name) n m h) p.3 u.3 s.5,
    )
    statement-same (tree.block vars body at) procs n m h p u s =
        (vars-same vars n m h p.0 u.0 s.0, s.1, statements-same body procs (with_vars_known vars n) (with_vars_known vars m) (vars-alike vars n m h p.0 u.0) p.1 u.1 s.2)
    statement-same other procs n m h p u s = absurd s

    pub statements-same : (ss : Tree) (procs : List Proc) (n m : Names) → AreAlike P n m → IsPlain ss → OnlyUses P ss → AreStatements ss procs n → AreStatements ss procs m
    statements-same tree.nil procs n m h p u s = tt
    statements-same (tree.cons s rest) procs n m h p u q = (statement-same s procs n m h p.0 u.0 q.0, statements-same rest procs n m h p.1 u.1 q.1)
    statements-same tree.absent procs n m h p u s = tt
    statements-same (tree.present body) procs n m h p u s = statements-same body procs n m h p u s
    statements-same other procs n m h p u s = absurd s
