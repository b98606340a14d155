-- Marks that grow.
use Rattle.std.proofs.Common.{◌≡◌, ◌≢◌, ℕ, zero, suc, ◌+◌, ◌-◌, ◌<◌, ◌≤◌, ◌⊎◌, inl, inr, refl, sym, ap, ◌∙◌, subst, Bool, true, false, ◌||◌, List, [], ◌∷◌, ◌++◌, length, get_or, set, take, arith, length-append}
use Rattle.std.specs.Prelude.{Option, None, Some, slice_get, ◌==◌}
use Rattle.std.proofs.lemmas.List.{length-set}
use Rattle.std.proofs.lemmas.Bool.Decides.{Decides-eqb}
use Rattle.code_ir.specs.declared.instr.Instr.{Instr}
use Rattle.code_ir.specs.Code.{Code, begins, is_among}
use Rattle.code_ir.specs.Typing.{Way, begin, next, jump, LeavesResults, pops, pushes, goes_on, target}
use Rattle.code_ir.specs.Heights.{IsMarked, unmarked, Grows, Differs, IsEnough, IsPassedOn, Marking, IsBadHeight, HaveOneHeight}
use Rattle.std.proofs.lemmas.Option.{slice_get_read, slice_get_within}
use Rattle.code_ir.specs.Marked.{MatchPassed}
use Rattle.code_ir.specs.declared.heights.Passed.{Passed}
use Rattle.code_ir.specs.declared.heights.Passed.TheVariants as passed
use Rattle.code_ir.specs.Typing.{AllFitAlone}
use Rattle.code_ir.proofs.Lists.{take-at}
use Rattle.code_ir.proofs.Bodies.{target-of, or-cases, or-true, eqb-same, found}

pub among-last : (p : ℕ) (xs : List ℕ) → is_among p (xs ++ p ∷ []) ≡ true
among-last p [] = rw eqb-same refl
among-last p (x ∷ xs) = or-true (x == p) _ (among-last p xs)

or-first : (a b : Bool) → a ≡ true → (a || b) ≡ true
or-first true b e = refl
or-first false b e = cc

pub among-kept : (q p : ℕ) (xs : List ℕ) → is_among q xs ≡ true → is_among q (xs ++ p ∷ []) ≡ true
among-kept q p [] e = cc
among-kept q p (x ∷ xs) e = or-cases (x == q) (is_among q xs) e (λ f. or-first (x == q) _ f) (λ f. or-true (x == q) _ (among-kept q p xs f))

pub among-split : (q p : ℕ) (xs : List ℕ) → is_among q (xs ++ p ∷ []) ≡ true → (is_among q xs ≡ true) ⊎ (q ≡ p)
among-split q p [] e = or-cases (p == q) false e (λ f. inr (sym ((Decides-eqb p q).0 f))) (λ f. cc)
among-split q p (x ∷ xs) e =
    or-cases (x == q) _ e (λ f. inl (or-first (x == q) _ f)) (λ f. elim (among-split q p xs f) [ inl g ↦ inl (or-true (x == q) _ g) | inr g ↦ inr g ])

-- ---- one mark

pub get-set : {X : Type 0} (xs : List X) (p : ℕ) (v : X) → p < length xs → slice_get (set xs p v) p ≡ Some v
get-set [] p v h = absurd (omega arith)
get-set (x ∷ xs) zero v h = refl
get-set (x ∷ xs) (suc p) v h = get-set xs p v (omega arith)

pub get-other : {X : Type 0} (xs : List X) (p q : ℕ) (v : X) → q ≢ p → slice_get (set xs p v) q ≡ slice_get xs q
get-other [] p q v h = refl
get-other (x ∷ xs) zero zero v h = absurd (h refl)
get-other (x ∷ xs) zero (suc q) v h = refl
get-other (x ∷ xs) (suc p) zero v h = refl
get-other (x ∷ xs) (suc p) (suc q) v h = get-other xs p q v (λ e. h (ap suc e))

unmarked-set : (xs : List (Option ℕ)) (p h : ℕ) → slice_get xs p ≡ Some None → unmarked xs ≡ suc (unmarked (set xs p (Some h)))
unmarked-set [] p h e = cc
unmarked-set (x ∷ xs) zero h e = let same : x ≡ None = cc in subst (λ y. unmarked (y ∷ xs) ≡ suc (unmarked xs)) (sym same) refl
unmarked-set (None ∷ xs) (suc p) h e = ap suc (unmarked-set xs p h e)
unmarked-set (Some k ∷ xs) (suc p) h e = unmarked-set xs p h e

by-same : {P : Type 0} (q p : ℕ) → (q ≡ p → P) → (q ≢ p → P) → P
by-same q p f g = by-test-same (q == p) (Decides-eqb q p) f g
  where
    by-test-same : {P : Type 0} (b : Bool) → (b ≡ true → q ≡ p) × (q ≡ p → b ≡ true) → (q ≡ p → P) → (q ≢ p → P) → P
    by-test-same true d f g = f (d.0 refl)
    by-test-same false d f g = g (λ e. let h : false ≡ true = d.1 e in cc)

pub mark-new : (heights : List (Option ℕ)) (work : List ℕ) (p h : ℕ) → slice_get heights p ≡ Some None → p < length heights → Grows (λ q k. (q ≡ p) × (k ≡ h)) heights (set heights p (Some h)) work (work ++ p ∷ [])
mark-new heights work p h none inside = record {
  keeps = λ q k e. by-same q p (λ same. let f : slice_get heights p ≡ Some (Some k) = subst (λ r. slice_get heights r ≡ Some (Some k)) same e in cc) (λ other. get-other heights p q (Some h) other ∙ e);
  adds = λ q k e. by-same q p
      (λ same. let f : slice_get (set heights p (Some h)) p ≡ Some (Some k) = subst (λ r. slice_get (set heights p (Some h)) r ≡ Some (Some k)) same e in
      let g : slice_get (set heights p (Some h)) p ≡ Some (Some h) = get-set heights p (Some h) inside in
      let i : k ≡ h = cc in inr ((same, i), subst (λ r. is_among r (work ++ p ∷ []) ≡ true) (sym same) (among-last p work)))
      (λ other. inl (sym (get-other heights p q (Some h) other) ∙ e));
  holds = λ q e. among-kept q p work e;
  takes = λ q e. elim (among-split q p work e) [ inl f ↦ inl f | inr same ↦ inr (h, subst (λ r. slice_get (set heights p (Some h)) r ≡ Some (Some h)) (sym same) (get-set heights p (Some h) inside)) ];
  size = length-set heights p (Some h);
  fewer = omega (arith, unmarked-set heights p h none, length-append work (p ∷ []));
}

pub grows-same : (P : ℕ → ℕ → Type 0) (heights : List (Option ℕ)) (work : List ℕ) → Grows P heights heights work work
grows-same P heights work = record {
  keeps = λ q k e. e;
  adds = λ q k e. inl e;
  holds = λ q e. e;
  takes = λ q e. inl e;
  size = refl;
  fewer = omega arith;
}

pub grows-lift : (P Q : ℕ → ℕ → Type 0) (before after : List (Option ℕ)) (work later : List ℕ) → ((q k : ℕ) → P q k → Q q k) → Grows P before after work later → Grows Q before after work later
grows-lift P Q before after work later f g = record {
  keeps = g.keeps;
  adds = λ q k e. elim (g.adds q k e) [ inl h ↦ inl h | inr h ↦ inr (f q k h.0, h.1) ];
  holds = g.holds;
  takes = g.takes;
  size = g.size;
  fewer = g.fewer;
}

pub grows-then : (P : ℕ → ℕ → Type 0) (a b c : List (Option ℕ)) (w x y : List ℕ) → Grows P a b w x → Grows P b c x y → Grows P a c w y
grows-then P a b c w x y g h = record {
  keeps = λ q k e. h.keeps q k (g.keeps q k e);
  adds = λ q k e. elim (h.adds q k e) [ inl f ↦ elim (g.adds q k f) [ inl i ↦ inl i | inr i ↦ inr (i.0, h.holds q i.1) ] | inr f ↦ inr f ];
  holds = λ q e. h.holds q (g.holds q e);
  takes = λ q e. elim (h.takes q e) [ inl f ↦ elim (g.takes q f) [ inl i ↦ inl i | inr i ↦ inr (i.0, h.keeps q i.0 i.1) ] | inr f ↦ inr f ];
  size = h.size ∙ g.size;
  fewer = omega (arith, g.fewer, h.fewer);
}

passed-later : (code : Code) (before after : List (Option ℕ)) (p h : ℕ) → ((q k : ℕ) → IsMarked before q k → IsMarked after q k) → IsPassedOn code before p h → IsPassedOn code after p h
passed-later code before after p h keeps passed = record {
  enough = passed.enough;
  next = λ i e on. keeps _ _ (passed.next i e on);
  jump = λ i t e to. keeps _ _ (passed.jump i t e to);
}

-- a place is taken from the work, and its mark passed on
pub marking-next : (code : Code) (before after : List (Option ℕ)) (work later : List ℕ) (p : ℕ) → Marking code before (work ++ p ∷ []) → Grows (Way code) before after work later → ((h : ℕ) → IsMarked before p h → IsPassedOn code after p h) → Marking code after later
marking-next code before after work later p marking grows passed = record {
  size = grows.size ∙ marking.size;
  sound = λ q k e. elim (grows.adds q k e) [ inl f ↦ marking.sound q k f | inr f ↦ f.0 ];
  begun = λ q e. grows.keeps q 0 (marking.begun q e);
  pending = λ q e. elim (grows.takes q e) [ inl f ↦ let m = marking.pending q (among-kept q p work f) in (m.0, grows.keeps q m.0 m.1) | inr f ↦ f ];
  passed = λ q k e. elim (grows.adds q k e) [ inl f ↦ still q k f | inr f ↦ inl f.1 ];
}
  where
    still : (q k : ℕ) → IsMarked before q k → (is_among q later ≡ true) ⊎ IsPassedOn code after q k
    still q k f = elim (marking.passed q k f) [
      | inl g ↦ elim (among-split q p work g) [
        | inl i ↦ inl (grows.holds q i)
        | inr same ↦ inr (subst (λ r. IsPassedOn code after r k) (sym same) (passed k (subst (λ r. IsMarked before r k) same f)))
      ]
      | inr g ↦ inr (passed-later code before after q k grows.keeps g)
    ]

-- ---- the marks of all ways

marks-way : (code : Code) (heights : List (Option ℕ)) {p h : ℕ} → Marking code heights [] → Way code p h → IsMarked heights p h
marks-way code heights marking (begin e) = marking.begun _ e
marks-way code heights marking (next {p = p} {h = h} {i = i} w g on enough) =
    elim (marking.passed p h (marks-way code heights marking w)) [ inl e ↦ cc | inr passed ↦ passed.next i g on ]
marks-way code heights marking (jump {p = p} {h = h} {t = t} {i = i} w g to enough) =
    elim (marking.passed p h (marks-way code heights marking w)) [ inl e ↦ cc | inr passed ↦ passed.jump i t g to ]

enough-way : (code : Code) (heights : List (Option ℕ)) {p h : ℕ} (i : Instr) → Marking code heights [] → slice_get code.instrs p ≡ Some i → Way code p h → IsEnough code p h i
enough-way code heights {p} {h} i marking g w =
    elim (marking.passed p h (marks-way code heights marking w)) [ inl e ↦ cc | inr passed ↦ passed.enough i g ]

pub one-height : (code : Code) (heights : List (Option ℕ)) → Marking code heights [] → HaveOneHeight code
one-height code heights marking p i g = record {
  same = λ h k v w. let a : slice_get heights p ≡ Some (Some h) = marks-way code heights marking v in let b : slice_get heights p ≡ Some (Some k) = marks-way code heights marking w in cc;
  enough = λ h w. (enough-way code heights i marking g w).enough;
  results = λ h w. (enough-way code heights i marking g w).results;
}

pub way-marked : (code : Code) (heights : List (Option ℕ)) (p h : ℕ) → Marking code heights [] → Way code p h → IsMarked heights p h
way-marked code heights p h marking w = marks-way code heights marking w

-- ---- what breaks the line of heights

pub bad-differs : (code : Code) (heights : List (Option ℕ)) (p h : ℕ) → p < length code.instrs → ((q k : ℕ) → IsMarked heights q k → Way code q k) → Way code p h → Differs heights p h → IsBadHeight code p
bad-differs code heights p h inside sound way differs =
    let there : (i : Instr) × (slice_get code.instrs p ≡ Some i) = found code.instrs p inside in
    (there.0, there.1, λ one. differs.2 (one.same differs.0 h (sound p differs.0 differs.1) way))

pub bad-enough : (code : Code) (p h : ℕ) (i : Instr) → slice_get code.instrs p ≡ Some i → Way code p h → ¬ (pops i ≤ h) → IsBadHeight code p
bad-enough code p h i g way lacks = (i, g, λ one. lacks (one.enough h way))

pub bad-results : (code : Code) (p h : ℕ) (i : Instr) → slice_get code.instrs p ≡ Some i → Way code p h → ¬ LeavesResults code p h i → IsBadHeight code p
bad-results code p h i g way lacks = (i, g, λ one. lacks (one.results h way))

-- the starts of bodies are marked
pub marking-first : (code : Code) (before after : List (Option ℕ)) (work : List ℕ) → length before ≡ length code.instrs → ((q k : ℕ) → ¬ IsMarked before q k) → Grows (λ q k. (k ≡ 0) × (is_among q (begins code) ≡ true)) before after [] work → ((q : ℕ) → is_among q (begins code) ≡ true → IsMarked after q 0) → Marking code after work
marking-first code before after work size none grows begun = record {
  size = grows.size ∙ size;
  sound = λ q k e. elim (grows.adds q k e) [ inl f ↦ absurd (none q k f) | inr f ↦ subst (λ h. Way code q h) (sym f.0.0) (begin f.0.1) ];
  begun = begun;
  pending = λ q e. elim (grows.takes q e) [ inl f ↦ cc | inr f ↦ f ];
  passed = λ q k e. elim (grows.adds q k e) [ inl f ↦ absurd (none q k f) | inr f ↦ inl f.1 ];
}

-- ---- one place, with its instruction and its height

pub read-at : {X : Type 0} (xs : List X) (p : ℕ) (x : X) → p < length xs → x ≡ get_or xs p x → slice_get xs p ≡ Some x
read-at xs p x inside e = slice_get_read xs (length xs) p x refl inside e

pub read-marked : (heights : List (Option ℕ)) (p h : ℕ) (o : Option ℕ) → p < length heights → o ≡ get_or heights p o → o ≡ Some h → IsMarked heights p h
read-marked heights p h o inside e f = read-at heights p o inside e ∙ ap Some f

pub marked-inside : (code : Code) (heights : List (Option ℕ)) (p : ℕ) → length heights ≡ length code.instrs → (h : ℕ) × IsMarked heights p h → (p < length heights) × (p < length code.instrs)
marked-inside code heights p size marked =
    let inside : p < length heights = slice_get_within heights p (Some marked.0) marked.1 in (inside, omega arith)

pub next-inside : (code : Code) (p : ℕ) (i : Instr) → AllFitAlone code → slice_get code.instrs p ≡ Some i → goes_on i ≡ true → p + 1 < length code.instrs
next-inside code p i alone g on = (alone p i g).after.inside on

pub target-inside : (code : Code) (p t : ℕ) (i : Instr) → AllFitAlone code → slice_get code.instrs p ≡ Some i → target i ≡ Some t → t < length code.instrs
target-inside code p t i alone g to = (target-of code p t i (alone p i g).jumps to).inside

module _ (code : Code) (p h a : ℕ) (i : Instr) (before between : List (Option ℕ)) (work more : List ℕ) (is_after : a ≡ h - pops i + pushes code i) (alone : AllFitAlone code) (sound : (q k : ℕ) → IsMarked before q k → Way code q k) (g : slice_get code.instrs p ≡ Some i) (marked : IsMarked before p h) (enough : IsEnough code p h i) (on : Grows (λ q k. (goes_on i ≡ true) × (q ≡ p + 1) × (k ≡ a)) before between work more) where
  way : Way code p h
  way = sound p h marked

  next-way : (q k : ℕ) → (goes_on i ≡ true) × (q ≡ p + 1) × (k ≡ a) → Way code q k
  next-way q k f = subst (λ r. Way code r k) (sym f.1) (subst (λ r. Way code (p + 1) r) (sym (f.2 ∙ is_after)) (next way g f.0 enough.enough))

  jump-way : (q k : ℕ) → (target i ≡ Some q) × (k ≡ a) → Way code q k
  jump-way q k f = subst (λ r. Way code q r) (sym (f.1 ∙ is_after)) (jump way g f.0 enough.enough)

  between-sound : (q k : ℕ) → IsMarked between q k → Way code q k
  between-sound q k e = elim (on.adds q k e) [ inl f ↦ sound q k f | inr f ↦ next-way q k f.0 ]

  pub passed-grows : (after : List (Option ℕ)) (later : List ℕ) (r : Passed) → MatchPassed r (Grows (λ q k. (target i ≡ Some q) × (k ≡ a)) between after more later) (λ _. Unit {0}) → MatchPassed r (Grows (Way code) before after work later) (λ _. Unit {0})
  passed-grows after later passed.Done t =
      grows-then (Way code) before between after work more later (grows-lift _ (Way code) before between work more next-way on) (grows-lift _ (Way code) between after more later jump-way t)
  passed-grows after later (passed.Bad at) t = tt
  passed-grows after later passed.Memory t = tt

  pub passed-all : (after : List (Option ℕ)) (later : List ℕ) (r : Passed) → (goes_on i ≡ true → IsMarked between (p + 1) a) → MatchPassed r (Grows (λ q k. (target i ≡ Some q) × (k ≡ a)) between after more later) (λ _. Unit {0}) → MatchPassed r ((t : ℕ) → target i ≡ Some t → IsMarked after t a) (λ at. (target i ≡ Some at) × Differs between at a) → MatchPassed r ((k : ℕ) → IsMarked before p k → IsPassedOn code after p k) (IsBadHeight code)
  passed-all after later passed.Done m t u = λ k e.
      let same : k ≡ h = cc in
      subst (λ x. IsPassedOn code after p x) (sym same) (record {
        enough = λ j f. let is : i ≡ j = cc in subst (IsEnough code p h) is enough;
        next = λ j f o. let is : i ≡ j = cc in subst (λ x. goes_on x ≡ true → IsMarked after (p + 1) (h - pops x + pushes code x)) is (λ n. subst (λ x. IsMarked after (p + 1) x) is_after (t.keeps _ _ (m n))) o;
        jump = λ j v f o. let is : i ≡ j = cc in subst (λ x. target x ≡ Some v → IsMarked after v (h - pops x + pushes code x)) is (λ n. subst (λ x. IsMarked after v x) is_after (u v n)) o;
      })
  passed-all after later (passed.Bad at) m t u =
      bad-differs code between at a (target-inside code p at i alone g u.0) between-sound (jump-way at a (u.0, refl)) u.1
  passed-all after later passed.Memory m t u = tt

pub bad-next : (code : Code) (p h a at : ℕ) (i : Instr) (before : List (Option ℕ)) → a ≡ h - pops i + pushes code i → AllFitAlone code → ((q k : ℕ) → IsMarked before q k → Way code q k) → slice_get code.instrs p ≡ Some i → IsMarked before p h → pops i ≤ h → (at ≡ p + 1) × (goes_on i ≡ true) × Differs before (p + 1) a → IsBadHeight code at
bad-next code p h a at i before is_after alone sound g marked enough u =
    subst (IsBadHeight code) (sym u.0) (bad-differs code before (p + 1) a (next-inside code p i alone g u.1) sound (subst (λ x. Way code (p + 1) x) (sym is_after) (next (sound p h marked) g u.1 enough)) u.2)

-- ---- loops

pub among-at : (xs : List ℕ) (k : ℕ) → k < length xs → is_among (get_or xs k 0) xs ≡ true
among-at [] k h = absurd (omega arith)
among-at (x ∷ xs) zero h = or-first (x == x) _ (eqb-same x)
among-at (x ∷ xs) (suc k) h = or-true (x == get_or xs k 0) _ (among-at xs k (omega arith))

get-split : {X : Type 0} (ys : List X) (o v : X) (p : ℕ) → slice_get (ys ++ o ∷ []) p ≡ Some v → (slice_get ys p ≡ Some v) ⊎ (o ≡ v)
get-split [] o v zero e = let f : o ≡ v = cc in inr f
get-split [] o v (suc p) e = cc
get-split (y ∷ ys) o v zero e = inl e
get-split (y ∷ ys) o v (suc p) e = get-split ys o v p e

pub greatest-more : (xs : List (Option ℕ)) (k most now : ℕ) → k < length xs → ((p h : ℕ) → IsMarked (take k xs) p h → h ≤ most) → most ≤ now → ((h : ℕ) → get_or xs k None ≡ Some h → h ≤ now) → (p h : ℕ) → IsMarked (take (k + 1) xs) p h → h ≤ now
greatest-more xs k most now inside below le new p h e =
    let f : slice_get (take k xs ++ get_or xs k None ∷ []) p ≡ Some (Some h) = subst (λ ys. slice_get ys p ≡ Some (Some h)) (take-at xs k None inside) e in
    elim (get-split (take k xs) (get_or xs k None) (Some h) p f) [ inl g ↦ (let b : h ≤ most = below p h g in omega arith) | inr g ↦ new h g ]

pub greatest-of : (h k most : ℕ) (o : Option ℕ) → o ≡ Some k → k ≤ most → o ≡ Some h → h ≤ most
greatest-of h k most o e le f = let same : h ≡ k = cc in omega arith

pub begins-more : (places work later : List ℕ) (first before after : List (Option ℕ)) (k : ℕ) → k < length places → Grows (λ q h. (h ≡ 0) × (is_among q places ≡ true)) first before [] work → Grows (λ q h. (q ≡ get_or places k 0) × (h ≡ 0)) before after work later → Grows (λ q h. (h ≡ 0) × (is_among q places ≡ true)) first after [] later
begins-more places work later first before after k inside so_far new =
    grows-then _ first before after [] work later so_far (grows-lift _ _ before after work later (λ q h f. (f.1, subst (λ r. is_among r places ≡ true) (sym f.0) (among-at places k inside))) new)

pub begun-more : (places : List ℕ) (before after : List (Option ℕ)) (k : ℕ) → k < length places → ((q : ℕ) → is_among q (take k places) ≡ true → IsMarked before q 0) → ((q h : ℕ) → IsMarked before q h → IsMarked after q h) → IsMarked after (get_or places k 0) 0 → (q : ℕ) → is_among q (take (k + 1) places) ≡ true → IsMarked after q 0
begun-more places before after k inside so_far keeps new q e =
    elim (among-split q (get_or places k 0) (take k places) (subst (λ ys. is_among q ys ≡ true) (take-at places k 0 inside) e)) [
      | inl f ↦ keeps q 0 (so_far q f)
      | inr same ↦ subst (λ r. IsMarked after r 0) (sym same) new
    ]

pub none-more : (xs : List (Option ℕ)) → ((q k : ℕ) → ¬ IsMarked xs q k) → (q k : ℕ) → ¬ IsMarked (xs ++ None ∷ []) q k
none-more xs none q k e = elim (get-split xs None (Some k) q e) [ inl f ↦ none q k f | inr f ↦ cc ]

pub marked-most : (code : Code) (heights : List (Option ℕ)) (most : ℕ) → Marking code heights [] → ((p h : ℕ) → IsMarked heights p h → h ≤ most) → (p h : ℕ) → Way code p h → h ≤ most
marked-most code heights most marking below p h w = below p h (marks-way code heights marking w)
