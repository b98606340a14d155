-- Functions that are judged anew, one after the other.
use Rattle.std.proofs.Common.{◌≡◌, ℕ, Bool, true, false, List, [], ◌∷◌, length, refl, sym, ap, subst, ◌∙◌, arith}
use Rattle.std.specs.Prelude.{◌||◌, ◌==◌, Option, None, Some, slice_get, if◌then◌else◌}
use Rattle.std.specs.Str.{bytes_eq}
use Rattle.std.proofs.lemmas.Bool.Decides.{Decides-eqb}
use Rattle.std.proofs.lemmas.Slice.Eq.{bytes_eq-Decides}
use Rattle.cal_model.specs.Actor.{Fun}
use Rattle.cal_model.specs.Call.{fun_named}
use Rattle.cal_model.specs.Kinding.{Judged, Fine, Broken, Known, Names}
use Rattle.cal_model.specs.Tags.{is_seen}
use Rattle.cal_model.proofs.KindNames.{same-text}
use Rattle.cal_check.specs.Routines.{FunDecl, fun_judged}
use Rattle.cal_check.specs.Variables.{seen}
use Rattle.const_env.specs.Constants.{has_fun, with_set}
use Rattle.const_env.proofs.Setting.{fun_set}
use Rattle.check_functions.specs.Alike.{SeeAlike}
use Rattle.check_functions.specs.Known.{is_named_in, names_alone, names_differ}
use Rattle.check_functions.specs.Left.{AreLeft, Leaves, decl_found, found_of, is_among, renewed, renewed_at, renewed_by}
use Rattle.check_functions.specs.Needs.{needs_of}
use Rattle.check_functions.specs.Order.{IsOrder}
use Rattle.check_functions.specs.Said.{AreSaid, Saying, places_in}
use Rattle.check_functions.proofs.Counted.{count_same, count_set, found_named, has_one, named_at, other_name, over_none, same_place, text_turned}
use Rattle.check_functions.proofs.Numbered.{number_most, within_seen}
use Rattle.check_functions.proofs.Ordering.{before_last, early_same, found_right, last_round, unsaid_same}
use Rattle.check_functions.proofs.Rounded.{count_after, over}
use Rattle.check_functions.proofs.Sized.{fun_named_so}

-- ---- one function

same_some : {A : Type 0} (a b : A) → Some a ≡ Some b → a ≡ b
same_some a b h = cc

none_some : {A : Type 0} (a : A) → None ≡ Some a → ⊥
none_some a h = cc

not_has : (o : Option Fun) → has_one o ≡ false → o ≡ None
not_has None e = refl
not_has (Some f) e = cc

-- these are names that are known, with functions of which those at these places are to be judged anew
pub record AreWith (order : List (List ℕ)) (places : List ℕ) (fs : List FunDecl) (known : List Known) (names : Names) : Type 0 where
  pub globals : names.globals ≡ known
  pub locals : names.locals ≡ []
  pub left : AreLeft order places fs (seen fs known).funs names.funs

pub is_over : (known : List Known) (names : Names) → names.globals ≡ known → names.locals ≡ [] → over known names.funs ≡ names
is_over known names g l =
    ap (λ ks. record { globals = ks; locals = []; funs = names.funs }) (sym g) ∙ ap (λ ls. record { globals = names.globals; locals = ls; funs = names.funs }) (sym l)

module _ (order : List (List ℕ)) (fs : List FunDecl) (is : IsOrder order fs) (differ : names_differ fs ≡ true) (known : List Known) where
  abbrev All : List Fun
  All = (seen fs known).funs

  skips : (p : ℕ) (ps : List ℕ) (found : List Fun) → slice_get fs p ≡ None → AreLeft order (p ∷ ps) fs All found → AreLeft order ps fs All found
  skips p ps found e h = record {
    right = λ i f there others. h.right i f there (go i f there others (i == p) refl);
    early = h.early;
    none = h.none;
    count = h.count;
  }
    where
      go : (i : ℕ) (f : FunDecl) → slice_get fs i ≡ Some f → is_among i ps ≡ false → (b : Bool) → (i == p) ≡ b → (b || is_among i ps) ≡ false
      go i f there others true s = absurd (none_some f (sym e ∙ ap (slice_get fs) (sym ((Decides-eqb i p).0 s)) ∙ there))
      go i f there others false s = others

  -- the function at the place is that one
  same_at : (p i : ℕ) (f g : FunDecl) → slice_get fs p ≡ Some g → slice_get fs i ≡ Some f → i ≡ p → f ≡ g
  same_at p i f g there at e = same_some f g (sym at ∙ ap (slice_get fs) e ∙ there)

  -- it was found anew
  puts : (p : ℕ) (ps : List ℕ) (names : Names) (g : FunDecl) (k : Fun) → slice_get fs p ≡ Some g → fun_judged g.name g.decl names ≡ Fine k → decl_found g names ≡ fun_named g.name All
      → AreLeft order (p ∷ ps) fs All names.funs → AreLeft order ps fs All (with_set k names.funs)
  puts p ps names g k there judged right h = record {
    right = λ i f at others. set i f at (λ s. h.right i f at (ap (λ b. b || is_among i ps) s ∙ others)) (i == p) refl;
    early = λ i f at seen. set i f at (λ s. h.early i f at seen) (i == p) refl;
    none = λ name e.
        fun_set name k found
        ∙ ap (λ b. if b then Some k else fun_named name found) (ap (λ n. bytes_eq n name) named ∙ text_turned name g.name false (other_name name fs p g e there))
        ∙ h.none name e;
    count = count_set fs k found differ (ap (λ n. is_named_in n fs) named ∙ named_at fs p g there) h.count;
  }
    where
      found : List Fun
      found = names.funs

      named : k.name ≡ g.name
      named = fun_named_so g.name g.decl names k judged

      set : (i : ℕ) (f : FunDecl) → slice_get fs i ≡ Some f → ((i == p) ≡ false → fun_named f.name found ≡ fun_named f.name All) → (b : Bool) → (i == p) ≡ b
          → fun_named f.name (with_set k found) ≡ fun_named f.name All
      set i f at old true s =
          let it : f ≡ g = same_at p i f g there at ((Decides-eqb i p).0 s) in
          let here : bytes_eq k.name f.name ≡ true = (bytes_eq-Decides k.name f.name).1 (named ∙ ap (λ x. x.name) (sym it)) in
          fun_set f.name k found ∙ ap (λ b. if b then Some k else fun_named f.name found) here ∙ ap found_of (sym judged) ∙ right ∙ ap (λ x. fun_named x.name All) (sym it)
      set i f at old false s =
          fun_set f.name k found ∙ ap (λ b. if b then Some k else fun_named f.name found) (ap (λ n. bytes_eq n f.name) named ∙ differs (bytes_eq g.name f.name) refl) ∙ old s
        where
          differs : (b : Bool) → bytes_eq g.name f.name ≡ b → b ≡ false
          differs true e =
              let same = same_place fs i p f g differ at there (text_turned g.name f.name true e) in
              sym ((Decides-eqb i p).1 same) ∙ s
          differs false e = refl

  -- its head breaks a rule, as before
  lacks : (p : ℕ) (ps : List ℕ) (names : Names) (g : FunDecl) → slice_get fs p ≡ Some g → None ≡ fun_named g.name All → has_fun g.name names.funs ≡ false
      → AreLeft order (p ∷ ps) fs All names.funs → AreLeft order ps fs All names.funs
  lacks p ps names g there right new h = record {
    right = λ i f at others. go i f at others (i == p) refl;
    early = h.early;
    none = h.none;
    count = h.count;
  }
    where
      go : (i : ℕ) (f : FunDecl) → slice_get fs i ≡ Some f → is_among i ps ≡ false → (b : Bool) → (i == p) ≡ b → fun_named f.name names.funs ≡ fun_named f.name All
      go i f at others true s =
          let it : f ≡ g = same_at p i f g there at ((Decides-eqb i p).0 s) in
          ap (λ x. fun_named x.name names.funs) it ∙ not_has (fun_named g.name names.funs) new ∙ right ∙ ap (λ x. fun_named x.name All) (sym it)
      go i f at others false s = h.right i f at (ap (λ b. b || is_among i ps) s ∙ others)

  -- what is found of a function over them is what is seen
  finds : (ps : List ℕ) (names : Names) (p : ℕ) (g : FunDecl) → slice_get fs p ≡ Some g → AreWith order ps fs known names → decl_found g names ≡ fun_named g.name All
  finds ps names p g there h =
      ap (decl_found g) (sym (is_over known names h.globals h.locals))
      ∙ found_right order fs is differ known p g names.funs there (record {
        right = λ i f at l. let most = number_most g.name order in h.left.early i f at (within_seen f.name order (omega (arith, l, most)));
        none = h.left.none;
        count = h.left.count;
      })

  one_renewed : (p : ℕ) (ps : List ℕ) (names next : Names) → renewed_at (slice_get fs p) names ≡ Some next → AreWith order (p ∷ ps) fs known names → AreWith order ps fs known next
  one_renewed p ps names next e h = at_place (slice_get fs p) refl e
    where
      same : AreLeft order ps fs All names.funs → AreWith order ps fs known names
      same left = record { globals = h.globals; locals = h.locals; left = left }

      broken : (g : FunDecl) → slice_get fs p ≡ Some g → None ≡ decl_found g names → (b : Bool) → has_fun g.name names.funs ≡ b → (if b then None else Some names) ≡ Some next → AreWith order ps fs known next
      broken g there judged true has e = absurd (none_some next e)
      broken g there judged false has e =
          subst (AreWith order ps fs known) (same_some names next e) (same (lacks p ps names g there (judged ∙ finds (p ∷ ps) names p g there h) has h.left))

      judged_so : (g : FunDecl) → slice_get fs p ≡ Some g → (j : Judged Fun) → fun_judged g.name g.decl names ≡ j → renewed_by g.name j names ≡ Some next → AreWith order ps fs known next
      judged_so g there (Fine k) is_k e =
          subst (AreWith order ps fs known) (same_some (record names { funs = with_set k names.funs }) next e)
          (record { globals = h.globals; locals = h.locals; left = puts p ps names g k there is_k (finds (p ∷ ps) names p g there h) h.left })
      judged_so g there (Broken rule at) is_b e = broken g there (ap found_of (sym is_b)) (has_fun g.name names.funs) refl e

      at_place : (o : Option FunDecl) → slice_get fs p ≡ o → renewed_at o names ≡ Some next → AreWith order ps fs known next
      at_place None there e = subst (AreWith order ps fs known) (same_some names next e) (same (skips p ps names.funs there h.left))
      at_place (Some g) there e = judged_so g there (fun_judged g.name g.decl names) refl e

  pub all_renewed : (ps : List ℕ) (names last : Names) → renewed ps fs names ≡ Some last → AreWith order ps fs known names → AreWith order [] fs known last
  all_renewed [] names last e h = subst (AreWith order [] fs known) (same_some names last e) h
  all_renewed (p ∷ ps) names last e h =
      go (renewed_at (slice_get fs p) names) refl e (λ next i left. all_renewed ps next last i left)
    where
      go : (o : Option Names) → renewed_at (slice_get fs p) names ≡ o → (elim o [ None ↦ None | Some next ↦ renewed ps fs next ]) ≡ Some last
          → ((next : Names) → renewed ps fs next ≡ Some last → AreWith order ps fs known next → AreWith order [] fs known last) → AreWith order [] fs known last
      go None i e more = absurd (none_some last e)
      go (Some next) i e more = more next e (one_renewed p ps names next i h)

-- ---- none is left

none_seen : (fs : List FunDecl) (known : List Known) (name : List ℕ) → is_named_in name fs ≡ false → fun_named name (seen fs known).funs ≡ None
none_seen fs known name h = ap (fun_named name) (last_round fs known) ∙ over_none name fs (over known (before_last fs known)) h

-- names of whose functions none is left are alike those that are seen
pub left_seen : (order : List (List ℕ)) (fs : List FunDecl) (known : List Known) (found : Names) → names_differ fs ≡ true → AreWith order [] fs known found → SeeAlike found (seen fs known)
left_seen order fs known found d h = record {
  globals = h.globals;
  locals = h.locals;
  funs = funs;
  count = h.left.count ∙ count_same fs found.funs (seen fs known).funs (λ name i. ap has_one (funs name)) ∙ sym (count_after fs (length fs) (names_alone known) d);
}
  where
    funs : (name : List ℕ) → fun_named name found.funs ≡ fun_named name (seen fs known).funs
    funs name = go (is_named_in name fs) refl
      where
        go : (b : Bool) → is_named_in name fs ≡ b → fun_named name found.funs ≡ fun_named name (seen fs known).funs
        go true e =
            let at = found_named name fs e in
            subst (λ n. fun_named n found.funs ≡ fun_named n (seen fs known).funs) at.named (h.left.right at.place at.decl at.there refl)
        go false e = h.left.none name e ∙ sym (none_seen fs known name e)

-- of those that are seen none is left
pub seen_left : (order : List (List ℕ)) (fs : List FunDecl) (known : List Known) → names_differ fs ≡ true → AreLeft order [] fs (seen fs known).funs (seen fs known).funs
seen_left order fs known d = record {
  right = λ i f there others. refl;
  early = λ i f there early. refl;
  none = λ name e. none_seen fs known name e;
  count = count_after fs (length fs) (names_alone known) d;
}

-- ---- one name more

-- a name that is among others isn't one that isn't
pub another : (x name : List ℕ) (names : List (List ℕ)) → is_seen x names ≡ false → is_seen name names ≡ true → bytes_eq x name ≡ false
another x name names h i = go (bytes_eq x name) refl
  where
    go : (b : Bool) → bytes_eq x name ≡ b → b ≡ false
    go true e = absurd (let same = ap (λ y. is_seen y names) (same-text x name e) in cc)
    go false e = refl

-- those that say it are left besides
pub left_more : (order : List (List ℕ)) (x : Known) (fs : List FunDecl) (known : List Known) (said : List Saying) (old new : List ℕ) (found : List Fun) → IsOrder order fs → names_differ fs ≡ true
    → is_seen x.name order ≡ false → AreSaid fs said → Leaves (places_in x.name said) old new → AreLeft order old fs (seen fs known).funs found
    → AreLeft order new fs (seen fs (x ∷ known)).funs found
left_more order x fs known said old new found is d out says leaves h = record {
  right = λ i f there others.
      let before = leaves i others in
      h.right i f there before.0 ∙ unsaid_same order fs is d x known i f out another there (unsaid i f there before.1 (is_seen x.name (needs_of (f ∷ [])).names) refl);
  early = λ i f there early. h.early i f there early ∙ early_same order fs is d x known i f out another there early;
  none = h.none;
  count = h.count;
}
  where
    unsaid : (i : ℕ) (f : FunDecl) → slice_get fs i ≡ Some f → is_among i (places_in x.name said) ≡ false → (b : Bool) → is_seen x.name (needs_of (f ∷ [])).names ≡ b → b ≡ false
    unsaid i f there others true e = sym (says i f there x.name e) ∙ others
    unsaid i f there others false e = refl
