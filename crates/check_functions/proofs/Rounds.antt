-- Functions that are found in rounds.
use Rattle.std.proofs.Common.{◌≡◌, ℕ, suc, ◌+◌, ◌<◌, Bool, true, false, not, List, [], ◌∷◌, ◌++◌, map, refl, sym, ap, subst, ◌∙◌, arith, append_assoc, append-nil, length, drop, get_or, Option, None, Some}
use Rattle.std.specs.Prelude.{◌&&◌, ◌||◌, if◌then◌else◌}
use Rattle.std.specs.Str.{bytes_eq}
use Rattle.std.proofs.Math.Seq.{drop-cons}
use Rattle.cal_ast.specs.Tree.{Tree}
use Rattle.cal_model.specs.Value.{Value}
use Rattle.cal_model.specs.View.{value_view}
use Rattle.cal_model.specs.Actor.{Fun}
use Rattle.cal_model.specs.Call.{fun_named}
use Rattle.cal_model.specs.Kinding.{Judged, Fine, Broken, Known, Names}
use Rattle.const_env.specs.Constants.{has_fun}
use Rattle.const_env.specs.Held.{Kept, globals_of, held, last_first, names_in}
use Rattle.cal_check.specs.Actors.{at_rest}
use Rattle.cal_check.specs.Routines.{FunDecl, fun_judged, funs_after, funs_over, with_fun}
use Rattle.cal_check.specs.Variables.{seen}
use Rattle.check_functions.specs.Known.{AreNew, all_known, is_named_in, known_at, known_view, names_alone, names_differ}
use Rattle.check_functions.specs.declared.known.KnownName.{KnownName}

-- ---- tests

pub and_left : (a b : Bool) → (a && b) ≡ true → a ≡ true
and_left true b h = refl
and_left false b h = h

pub and_right : (a b : Bool) → (a && b) ≡ true → b ≡ true
and_right true b h = h
and_right false b h = cc

pub not_true : (a : Bool) → not a ≡ true → a ≡ false
not_true true h = cc
not_true false h = refl

pub or_left : (a b : Bool) → (a || b) ≡ false → a ≡ false
or_left true b h = h
or_left false b h = refl

pub or_right : (a b : Bool) → (a || b) ≡ false → b ≡ false
or_right true b h = cc
or_right false b h = h

-- ---- names of functions

pub none_found : (fs : List FunDecl) → AreNew fs []
none_found [] = tt
none_found (f ∷ fs) = (refl, none_found fs)

has_behind : (name : List ℕ) (found : List Fun) (g : Fun) → has_fun name found ≡ false → bytes_eq g.name name ≡ false → has_fun name (found ++ g ∷ []) ≡ false
has_behind name [] g h e = ap (λ b. elim (if b then Some g else None) [ None ↦ false | Some f ↦ true ]) e
has_behind name (f ∷ found) g h e = go (bytes_eq f.name name) h (λ i. has_behind name found g i e)
  where
    go : (b : Bool) → elim (if b then Some f else fun_named name found) [ None ↦ false | Some f ↦ true ] ≡ false → (has_fun name found ≡ false → has_fun name (found ++ g ∷ []) ≡ false)
        → elim (if b then Some f else fun_named name (found ++ g ∷ [])) [ None ↦ false | Some f ↦ true ] ≡ false
    go true h more = h
    go false h more = more h

new_behind : (fs : List FunDecl) (found : List Fun) (g : Fun) → AreNew fs found → is_named_in g.name fs ≡ false → AreNew fs (found ++ g ∷ [])
new_behind [] found g h e = tt
new_behind (f ∷ fs) found g h e =
    (has_behind f.name found g h.0 (or_left (bytes_eq g.name f.name) (is_named_in g.name fs) e), new_behind fs found g h.1 (or_right (bytes_eq g.name f.name) (is_named_in g.name fs) e))

new_still : (fs : List FunDecl) (found : List Fun) (name : List ℕ) (j : Judged Fun) → AreNew fs found → is_named_in name fs ≡ false → ((g : Fun) → j ≡ Fine g → g.name ≡ name)
    → AreNew fs (found ++ with_fun j [])
new_still fs found name (Fine g) h e named = new_behind fs found g h (ap (λ n. is_named_in n fs) (named g refl) ∙ e)
new_still fs found name (Broken rule at) h e named = subst (AreNew fs) (sym (append-nil found)) h

with_behind : (found : List Fun) (j : Judged Fun) (more : List Fun) → (found ++ with_fun j []) ++ more ≡ found ++ with_fun j more
with_behind found (Fine g) more = append_assoc found (g ∷ []) more
with_behind found (Broken rule at) more = ap (λ fs. fs ++ more) (append-nil found)

-- ---- one round

-- functions that were found over these names, before those that are left
pub record IsRound (left all : List FunDecl) (known : List Known) (names : Names) (env : Kept) : Type 0 where
  pub globals : globals_of env ≡ known
  pub funs : (held env).funs ++ funs_over left names ≡ funs_over all names
  pub new : AreNew left (held env).funs
  pub differ : names_differ left ≡ true

pub round_none : (all : List FunDecl) (known : List Known) (names : Names) (env : Kept) → globals_of env ≡ known → (held env).funs ≡ [] → names_differ all ≡ true
    → IsRound all all known names env
round_none all known names env globals none differ = record {
  globals = globals;
  funs = ap (λ fs. fs ++ funs_over all names) none;
  new = subst (AreNew all) (sym none) (none_found all);
  differ = differ;
}

pub round_first : (f : FunDecl) (left all : List FunDecl) (known : List Known) (names : Names) (env : Kept) → IsRound (f ∷ left) all known names env
    → has_fun f.name (held env).funs ≡ false
round_first f left all known names env h = h.new.0

pub round_more : ((g : Fun) (full : List ℕ) (decl : Tree) (names : Names) → fun_judged full decl names ≡ Fine g → g.name ≡ full)
    → (f : FunDecl) (left all : List FunDecl) (known : List Known) (names : Names) (old new : Kept) → IsRound (f ∷ left) all known names old
    → (held new).funs ≡ (held old).funs ++ with_fun (fun_judged f.name f.decl names) [] → globals_of new ≡ globals_of old
    → IsRound left all known names new
round_more named f left all known names old new h added same = record {
  globals = same ∙ h.globals;
  funs = ap (λ fs. fs ++ funs_over left names) added ∙ with_behind (held old).funs (fun_judged f.name f.decl names) (funs_over left names) ∙ h.funs;
  new = subst (AreNew left) (sym added)
      (new_still left (held old).funs f.name (fun_judged f.name f.decl names) h.new.1 (not_true (is_named_in f.name left) (and_left (not (is_named_in f.name left)) (names_differ left) h.differ))
      (λ g e. named g f.name f.decl names e));
  differ = and_right (not (is_named_in f.name left)) (names_differ left) h.differ;
}

pub round_all : (all : List FunDecl) (known : List Known) (names : Names) (env : Kept) → IsRound [] all known names env → (held env).funs ≡ funs_over all names
round_all all known names env h = sym (append-nil (held env).funs) ∙ h.funs

-- ---- all rounds

-- so many rounds were made
pub record AreRounds (n : ℕ) (all : List FunDecl) (known : List Known) (env : Kept) : Type 0 where
  pub globals : globals_of env ≡ known
  pub funs : (held env).funs ≡ funs_after n all (names_alone known)

pub names_so : (known : List Known) (fs : List Fun) (env : Kept) → globals_of env ≡ known → (held env).funs ≡ fs
    → names_in env ≡ record { globals = known; locals = []; funs = fs }
names_so known fs env g f =
    ap (λ ks. record { globals = ks; locals = []; funs = (held env).funs }) g ∙ ap (λ hs. record { globals = known; locals = []; funs = hs }) f

pub rounds_more : (n : ℕ) (all : List FunDecl) (known : List Known) (old new : Kept) → AreRounds n all known old → globals_of new ≡ known
    → (held new).funs ≡ funs_over all (names_in old) → AreRounds (suc n) all known new
rounds_more n all known old new h globals funs = record {
  globals = globals;
  funs = funs ∙ ap (funs_over all) (names_so known (funs_after n all (names_alone known)) old h.globals h.funs);
}

pub rounds_all : (n : ℕ) (all : List FunDecl) (known : List Known) (env : Kept) → n ≡ length all → AreRounds n all known env → names_in env ≡ seen all known
rounds_all n all known env e h =
    names_so known (funs_after n all (names_alone known)) env h.globals h.funs
    ∙ ap (λ m. record { globals = known; locals = []; funs = funs_after m all (names_alone known) }) e

-- ---- names

same_at : (x : KnownName) → known_at false x ≡ known_view x
same_at x = refl

pub known_first : (xs : List KnownName) (later : List Known) → last_first (known_at false) xs later ≡ last_first known_view xs later
known_first [] later = refl
known_first (x ∷ xs) later = known_first xs (known_view x ∷ later)

abbrev known_with : KnownName → Bool → Option Value → Known
known_with x changes v = record { name = (known_view x).name; kind = (known_view x).kind; value = v; changes = changes }

none_at_rest : (x : KnownName) (b : Bool) (v : Value) → known_with x b (if true && b then None else Some v) ≡ known_with x b (if b then None else Some v)
none_at_rest x true v = refl
none_at_rest x false v = refl

rest_at : (x : KnownName) → known_at true x ≡ at_rest (known_view x)
rest_at x = none_at_rest x x.changes (value_view x.value)

pub rest_first : (xs : List KnownName) (later : List Known) → last_first (known_at true) xs (map at_rest later) ≡ map at_rest (last_first known_view xs later)
rest_first [] later = refl
rest_first (x ∷ xs) later = ap (λ k. last_first (known_at true) xs (k ∷ map at_rest later)) (rest_at x) ∙ rest_first xs (known_view x ∷ later)

pub rest_seen : (fs : List FunDecl) (ks : List KnownName) (names : Names) → names ≡ seen fs (last_first (known_at true) ks []) → names ≡ seen fs (map at_rest (all_known ks))
rest_seen fs ks names h = h ∙ ap (seen fs) (rest_first ks [])

-- ---- a slice from a place on

pub opened : {A : Type 0} (xs : List A) (x : A) (i : ℕ) → i < length xs → x ≡ get_or xs i x → drop i xs ≡ x ∷ drop (i + 1) xs
opened xs x i l e =
    let more : suc i ≡ i + 1 = omega arith in
    drop-cons xs i x l ∙ ap (λ y. y ∷ drop (suc i) xs) (sym e) ∙ ap (λ k. x ∷ drop k xs) more
