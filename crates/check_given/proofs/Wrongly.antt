-- Values that are given: to which parameters, and which of them are given twice.
use Rattle.std.proofs.Common.{◌≡◌, ℕ, Bool, true, false, not, List, [], ◌∷◌, ◌++◌, refl, sym, ap, subst, ◌∙◌, arith, append-nil, append_assoc}
use Rattle.std.specs.Prelude.{Contains, ◌||◌, reverse, if◌then◌else◌}
use Rattle.std.specs.Str.{bytes_eq}
use Rattle.std.proofs.lemmas.Slice.Eq.{bytes_eq-Decides}
use Rattle.std.proofs.lemmas.List.{reverse-append}
use Rattle.std.proofs.lemmas.List.Elements.{Contains-append_right}
use Rattle.cal_model.specs.Tags.{is_seen, with_seen}
use Rattle.check_given.specs.Judging.{AreNamesOf, is_wrong, with_declared}
use Rattle.rvc_base.specs.Rules.{wrong_parameter}
use Rattle.cal_check.specs.Actors.{given_wrongly, is_declared, is_given}
use Rattle.cal_check.specs.Violations.{violation}
use Rattle.cal_check.specs.Variables.{Found, found_in, Given, VarDecl}

-- ---- in either order

or_both : (a b c : Bool) → (a || (b || c)) ≡ ((a || b) || c)
or_both true b c = refl
or_both false b c = refl

or_nothing : (a : Bool) → (a || false) ≡ a
or_nothing true = refl
or_nothing false = refl

or_swapped : (a b : Bool) → (a || b) ≡ (b || a)
or_swapped true true = refl
or_swapped true false = refl
or_swapped false true = refl
or_swapped false false = refl

given_both : (name : List ℕ) (gs hs : List Given) → is_given name (gs ++ hs) ≡ (is_given name gs || is_given name hs)
given_both name [] hs = refl
given_both name (g ∷ gs) hs =
    ap (λ b. bytes_eq g.name name || b) (given_both name gs hs) ∙ or_both (bytes_eq g.name name) (is_given name gs) (is_given name hs)

given_reversed : (name : List ℕ) (gs : List Given) → is_given name (reverse gs) ≡ is_given name gs
given_reversed name [] = refl
given_reversed name (g ∷ gs) =
    ap (is_given name) (reverse-append (g ∷ []) gs)
    ∙ given_both name (reverse gs) (g ∷ [])
    ∙ ap (λ b. b || (bytes_eq g.name name || false)) (given_reversed name gs)
    ∙ ap (λ b. is_given name gs || b) (or_nothing (bytes_eq g.name name))
    ∙ or_swapped (is_given name gs) (bytes_eq g.name name)

-- ---- the last one

-- what one breaks that is given behind others
abbrev pub one_wrongly : Given → List Given → List VarDecl → List Found
one_wrongly g before params =
    if not (is_declared g.name params) || is_given g.name before
    then found_in g.place.file (violation wrong_parameter g.place.at) else []

last_wrongly : (gs : List Given) (g : Given) (before : List Given) (params : List VarDecl)
    → given_wrongly (gs ++ g ∷ []) before params ≡ given_wrongly gs before params ++ one_wrongly g (reverse gs ++ before) params
last_wrongly [] g before params = append-nil (one_wrongly g before params)
last_wrongly (h ∷ gs) g before params =
    ap (λ fs. one_wrongly h before params ++ fs) (last_wrongly gs g (h ∷ before) params)
    ∙ ap (λ bs. one_wrongly h before params ++ (given_wrongly gs (h ∷ before) params ++ one_wrongly g bs params)) (sym (append_assoc (reverse gs) (h ∷ []) before) ∙ ap (λ bs. bs ++ before) (sym (reverse-append (h ∷ []) gs)))
    ∙ sym (append_assoc (one_wrongly h before params) (given_wrongly gs (h ∷ before) params) (one_wrongly g (reverse (h ∷ gs) ++ before) params))

pub wrongly_behind : (gs : List Given) (g : Given) (params : List VarDecl)
    → given_wrongly (gs ++ g ∷ []) [] params ≡ given_wrongly gs [] params ++ one_wrongly g gs params
wrongly_behind gs g params =
    last_wrongly gs g [] params
    ∙ ap (λ b. given_wrongly gs [] params ++ (if not (is_declared g.name params) || b then found_in g.place.file (violation wrong_parameter g.place.at) else []))
    (ap (is_given g.name) (append-nil (reverse gs)) ∙ given_reversed g.name gs)

wrong_here : (b : Bool) (g : Given) → b ≡ true → Contains (if b then found_in g.place.file (violation wrong_parameter g.place.at) else []) (record { violation = record { rule = wrong_parameter; at = g.place.at }; file = g.place.file })
wrong_here true g h = (0, omega arith, refl)
wrong_here false g h = absurd (cc)

-- the last one is given wrongly
pub wrongly_here : (gs : List Given) (g : Given) (params : List VarDecl) (all : List Given) → all ≡ gs ++ g ∷ [] → is_wrong g gs params ≡ true
    → Contains (given_wrongly all [] params) (record { violation = record { rule = wrong_parameter; at = g.place.at }; file = g.place.file })
wrongly_here gs g params all e h =
    subst (λ fs. Contains fs (record { violation = record { rule = wrong_parameter; at = g.place.at }; file = g.place.file }))
    (sym (ap (λ xs. given_wrongly xs [] params) e ∙ wrongly_behind gs g params))
    (Contains-append_right (given_wrongly gs [] params) (one_wrongly g gs params) _ (wrong_here (is_wrong g gs params) g h))

-- .. or isn't
pub wrongly_passed : (gs : List Given) (g : Given) (params : List VarDecl) (all : List Given) → all ≡ gs ++ g ∷ [] → is_wrong g gs params ≡ false
    → given_wrongly gs [] params ≡ given_wrongly all [] params
wrongly_passed gs g params all e h =
    sym (append-nil (given_wrongly gs [] params))
    ∙ ap (λ b. given_wrongly gs [] params ++ (if b then found_in g.place.file (violation wrong_parameter g.place.at) else [])) (sym h)
    ∙ sym (wrongly_behind gs g params)
    ∙ ap (λ xs. given_wrongly xs [] params) (sym e)

-- ---- names that are declared

seen_behind : (x name : List ℕ) (names : List (List ℕ)) → is_seen x (names ++ name ∷ []) ≡ (is_seen x names || bytes_eq name x)
seen_behind x name [] = or_nothing (bytes_eq name x)
seen_behind x name (y ∷ names) = ap (λ b. bytes_eq y x || b) (seen_behind x name names) ∙ or_both (bytes_eq y x) (is_seen x names) (bytes_eq name x)

seen_added : (x name : List ℕ) (names : List (List ℕ)) → is_seen x (with_seen names name) ≡ (is_seen x names || bytes_eq name x)
seen_added x name names = go (is_seen name names) refl
  where
    there : (b : Bool) → bytes_eq name x ≡ b → is_seen name names ≡ true → is_seen x names ≡ (is_seen x names || b)
    there false e h = sym (or_nothing (is_seen x names))
    there true e h =
        let seen : is_seen x names ≡ true = subst (λ y. is_seen y names ≡ true) ((bytes_eq-Decides name x).0 e) h in
        seen ∙ sym (ap (λ b. b || true) seen)

    go : (b : Bool) → is_seen name names ≡ b → is_seen x (if b then names else names ++ name ∷ []) ≡ (is_seen x names || bytes_eq name x)
    go true h = there (bytes_eq name x) refl h
    go false h = seen_behind x name names

declared_seen : (name : List ℕ) (names : List (List ℕ)) (params : List VarDecl) → is_seen name (with_declared names params) ≡ (is_seen name names || is_declared name params)
declared_seen name names [] = sym (or_nothing (is_seen name names))
declared_seen name names (x ∷ xs) =
    declared_seen name (with_seen names x.name) xs
    ∙ ap (λ b. b || is_declared name xs) (seen_added name x.name names)
    ∙ sym (or_both (is_seen name names) (bytes_eq x.name name) (is_declared name xs))

-- ---- as it is told by names and places

pub told_wrong : (g : Given) (before : List Given) (params : List VarDecl) (names : List (List ℕ)) (is_before : Bool) → AreNamesOf names params → is_before ≡ is_given g.name before
    → (not (is_seen g.name names) || is_before) ≡ is_wrong g before params
told_wrong g before params names is_before named e =
    ap (λ b. not b || is_before) (ap (is_seen g.name) named ∙ declared_seen g.name [] params) ∙ ap (λ b. not (is_declared g.name params) || b) e
