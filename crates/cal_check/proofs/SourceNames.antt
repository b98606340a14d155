-- The names over which the members of an actor that breaks nothing are judged, and those of the actor that it is.
use Rattle.std.proofs.Common.{◌≡◌, ℕ, suc, ◌<◌, Bool, true, false, List, [], ◌∷◌, ◌++◌, map, length, refl, sym, ap, subst, ◌∙◌, Option, None, Some, append_assoc}
use Rattle.std.specs.Prelude.{if◌then◌else◌}
use Rattle.cal_model.specs.Actor.{Actor, Fun, Held, Proc}
use Rattle.cal_model.specs.Call.{fun_named}
use Rattle.cal_model.specs.Kinding.{Known, Names, known_as}
use Rattle.cal_model.specs.Sound.{AreDistinct, Each, known_of, names_of}
use Rattle.cal_check.specs.Actors.{Source, all_funs, all_valued, at_rest, before_members, declared_vars, is_kept, kept_funs, kept_vars, members_of, names_at_rest, outers, params_in, params_of, used, vars_in}
use Rattle.cal_check.specs.Formed.{IsFunFormed}
use Rattle.cal_check.specs.Laws.{AreAlike, ConstantsFit, IsFunLike, IsKnownLike}
use Rattle.cal_check.specs.Routines.{FunDecl, funs_after, funs_over}
use Rattle.cal_check.specs.Sources.{FunDeclsEnd, IsSourceFormed, names_of_source, proc_name, procs_of_source}
use Rattle.cal_check.specs.Variables.{Given, Spot, VarDecl, none_yet, valued}
use Rattle.cal_check.proofs.FittingNames.{KnownsFit, after-fit, names-fit}
use Rattle.cal_check.proofs.JudgedRoutines.{kept-named, kept-part}
use Rattle.cal_check.proofs.RestNames.{map-rest, meant-alike, rest-fits, rest_behind}
use Rattle.cal_check.proofs.SettledFuns.{rounds-same}
use Rattle.cal_check.proofs.SoundHeader.{map-append}
use Rattle.cal_check.proofs.SoundVariables.{AreValued, are-valued, was-fine}
use Rattle.cal_check.proofs.SubLists.{IsPart, part-append, part-both, part-distinct, part-more}
use Rattle.cal_check.proofs.UsedNames.{IsKept}

-- ---- variables

-- all variables of an actor that breaks nothing have values
pub all-are-valued : (s : Source) (gs : List Given) (owner : Spot) → (all_valued s gs owner).useless ≡ false → (all_valued s gs owner).whole ≡ true
    → AreValued (map (λ x. x.name) (declared_vars s)) (all_valued s gs owner)
all-are-valued s gs owner u w =
    let front : List VarDecl = s.vars ++ params_in s.file (params_of s.actor) in
    let back : List VarDecl = vars_in s.file (members_of s.actor) in
    let was = was-fine back gs owner (all_funs s) (before_members s gs owner) (record { useful = u; whole = w }) in
    let none : AreValued [] none_yet = record { useful = refl; whole = refl; known = refl; named = refl; typed = tt } in
    let before = are-valued front gs owner (all_funs s) none_yet [] none was.useful was.whole in
    let all = are-valued back gs owner (all_funs s) (before_members s gs owner) (map (λ x. x.name) front) before u w in
    subst (λ ns. AreValued ns (all_valued s gs owner))
    (sym (map-append (λ x. x.name) front back) ∙ ap (λ xs. map (λ x. x.name) xs) (append_assoc s.vars (params_in s.file (params_of s.actor)) back)) all

-- ---- names that are different

start-of : {A : Type 0} (xs ys : List A) → IsPart xs (xs ++ ys)
start-of [] ys = tt
start-of (x ∷ xs) ys = part-both x xs (xs ++ ys) (start-of xs ys)

kept-vars-part : (s : Source) (xs : List Held) → IsPart (map (λ x. x.name) (kept_vars xs s)) (map (λ x. x.name) xs)
kept-vars-part s [] = tt
kept-vars-part s (x ∷ xs) = go (is_kept x.name (outers s) (used s)) (kept-vars-part s xs)
  where
    go : (b : Bool) → IsPart (map (λ x. x.name) (kept_vars xs s)) (map (λ x. x.name) xs)
        → IsPart (map (λ y. y.name) (if b then x ∷ kept_vars xs s else kept_vars xs s)) (x.name ∷ map (λ x. x.name) xs)
    go true p = part-both x.name (map (λ x. x.name) (kept_vars xs s)) (map (λ x. x.name) xs) p
    go false p = part-more (map (λ x. x.name) (kept_vars xs s)) x.name (map (λ x. x.name) xs) p

pub vars-distinct : (s : Source) (held : List Held) → map (λ x. x.name) held ≡ map (λ x. x.name) (declared_vars s) → AreDistinct (names_of_source s) → AreDistinct (map (λ x. x.name) held)
vars-distinct s held e d =
    let vars : List (List ℕ) = map (λ x. x.name) (declared_vars s) in
    let funs : List (List ℕ) = map (λ f. f.name) (all_funs s) in
    let two = part-distinct (vars ++ funs) ((vars ++ funs) ++ map proc_name (procs_of_source s)) (start-of (vars ++ funs) (map proc_name (procs_of_source s))) d in
    subst AreDistinct (sym e) (part-distinct vars (vars ++ funs) (start-of vars funs) two)

pub all-distinct : (s : Source) (held : List Held) (gs : List Fun) (procs : List Proc) → map (λ x. x.name) held ≡ map (λ x. x.name) (declared_vars s)
    → map (λ g. g.name) gs ≡ map (λ f. f.name) (all_funs s) → map (λ p. p.name) procs ≡ map proc_name (procs_of_source s) → AreDistinct (names_of_source s)
    → AreDistinct (map (λ x. x.name) (kept_vars held s) ++ map (λ g. g.name) (kept_funs gs s) ++ map (λ p. p.name) procs)
all-distinct s held gs procs ev ef ep d =
    let vars : List (List ℕ) = map (λ x. x.name) (declared_vars s) in
    let funs : List (List ℕ) = map (λ f. f.name) (all_funs s) in
    let pv : IsPart (map (λ x. x.name) (kept_vars held s)) vars = subst (λ ns. IsPart (map (λ x. x.name) (kept_vars held s)) ns) ev (kept-vars-part s held) in
    let pf : IsPart (map (λ g. g.name) (kept_funs gs s)) funs = subst (λ ns. IsPart (map (λ g. g.name) (kept_funs gs s)) ns) ef (kept-part s gs) in
    let pp : IsPart (map (λ p. p.name) procs) (map proc_name (procs_of_source s)) = subst (λ ns. IsPart (map (λ p. p.name) procs) ns) ep (start-all (map (λ p. p.name) procs)) in
    part-distinct (map (λ x. x.name) (kept_vars held s) ++ map (λ g. g.name) (kept_funs gs s) ++ map (λ p. p.name) procs) (vars ++ funs ++ map proc_name (procs_of_source s))
    (part-append (map (λ x. x.name) (kept_vars held s) ++ map (λ g. g.name) (kept_funs gs s)) (vars ++ funs) (map (λ p. p.name) procs) (map proc_name (procs_of_source s))
    (part-append (map (λ x. x.name) (kept_vars held s)) vars (map (λ g. g.name) (kept_funs gs s)) funs pv pf) pp) d
  where
    start-all : (xs : List (List ℕ)) → IsPart xs xs
    start-all [] = tt
    start-all (x ∷ xs) = part-both x xs xs (start-all xs)

-- ---- functions

-- what is seen where members are judged, before its functions are known
abbrev pub base_names : List Known → Names
base_names globals = record { globals = globals; locals = []; funs = [] }

-- the function of a name is the same in one more round than there are functions
pub round-same : (n : ℕ) (fs : List FunDecl) (names : Names) (name : List ℕ) (end : FunDeclsEnd fs) → n ≡ length fs → Each (λ f. IsFunFormed f.decl) fs → fun_named name (funs_after n fs names) ≡ fun_named name (funs_after (suc n) fs names)
round-same n fs names name end e formed =
    let in_range = subst (λ k. Each (λ f. end.rank f.name < k) fs) (sym e) end.in_range in
    ap (λ gs. fun_named name gs) (rounds-same end.rank n fs names formed end.calls in_range)

fun-like : (o : Option Fun) → IsFunLike o o
fun-like None = tt
fun-like (Some f) = (refl, refl)

-- ---- the whole

-- the names where members are judged are like those of the actor, as far as these are kept
pub names-alike : (s : Source) (gs : List Given) (owner : Spot) (found : List Fun) → IsSourceFormed s → AreValued (map (λ x. x.name) (declared_vars s)) (all_valued s gs owner)
    → funs_over (all_funs s) (names_at_rest s (all_valued s gs owner)) ≡ found → (actor : Actor) → actor.vars ≡ kept_vars (all_valued s gs owner).held s → actor.funs ≡ kept_funs found s
    → AreAlike (IsKept s) (names_at_rest s (all_valued s gs owner)) (names_of actor)
names-alike s gs owner found formed valued over actor ev ef =
    let held : List Held = (all_valued s gs owner).held in
    let globals : map at_rest (all_valued s gs owner).known ≡ rest_behind held [] = ap (λ ks. map at_rest ks) valued.known ∙ map-rest held [] in
    let distinct : AreDistinct (map (λ x. x.name) held) = vars-distinct s held valued.named formed.distinct in
    record {
      known = λ name k.
          subst (λ xs. IsKnownLike (known_as name xs) (known_as name (map known_of actor.vars))) (sym globals)
          (subst (λ xs. IsKnownLike (known_as name (rest_behind held [])) (known_as name (map known_of xs))) (sym ev) (meant-alike name held s distinct k));
      funs = λ name k.
          let same : fun_named name (names_at_rest s (all_valued s gs owner)).funs ≡ fun_named name actor.funs =
          round-same (length (all_funs s)) (all_funs s) (base_names (map at_rest (all_valued s gs owner).known)) name formed.funs_end refl formed.funs
          ∙ ap (λ fs. fun_named name fs) over ∙ sym (kept-named s name found k) ∙ ap (λ fs. fun_named name fs) (sym ef) in
          subst (λ o. IsFunLike (fun_named name (names_at_rest s (all_valued s gs owner)).funs) o) same (fun-like (fun_named name (names_at_rest s (all_valued s gs owner)).funs));
    }

pub rest-names-fit : (s : Source) (gs : List Given) (owner : Spot) (ns : List (List ℕ)) → AreValued ns (all_valued s gs owner) → ConstantsFit (names_at_rest s (all_valued s gs owner))
rest-names-fit s gs owner ns valued =
    let held : List Held = (all_valued s gs owner).held in
    let globals : map at_rest (all_valued s gs owner).known ≡ rest_behind held [] = ap (λ ks. map at_rest ks) valued.known ∙ map-rest held [] in
    names-fit (names_at_rest s (all_valued s gs owner)) tt (subst KnownsFit (sym globals) (rest-fits held [] valued.typed tt))
    (after-fit (length (all_funs s)) (all_funs s) (base_names (map at_rest (all_valued s gs owner).known)))
