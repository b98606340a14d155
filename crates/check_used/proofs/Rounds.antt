-- After as many rounds as there are declarations one round more finds nothing, so what is used is kept.
use Rattle.std.proofs.Common.{◌≡◌, ℕ, zero, suc, ◌<◌, ◌≤◌, ◌⊎◌, inl, inr, ⊎_elim, Bool, true, false, ◌||◌, List, [], ◌∷◌, ◌++◌, length, refl, sym, ap, subst, ◌∙◌, arith, Contains}
use Rattle.std.specs.Prelude.{if◌then◌else◌}
use Rattle.std.specs.Str.{bytes_eq}
use Rattle.cal_model.proofs.KindNames.{same-text, text-same}
use Rattle.cal_check.specs.Actors.{Outer, Source, among, is_kept, outers, used, used_after, used_by, used_now, uses}
use Rattle.cal_check.proofs.Lists.{head-or-rest, in-none}

-- ---- tests

pub or-left : (a b : Bool) → a ≡ true → (a || b) ≡ true
or-left true b h = refl
or-left false b h = absurd (cc)

pub or-right : (a b : Bool) → b ≡ true → (a || b) ≡ true
or-right true b h = refl
or-right false b h = h

pub or-cases : (a b : Bool) → (a || b) ≡ true → (a ≡ true) ⊎ (b ≡ true)
or-cases true b h = inl refl
or-cases false b h = inr h

pub never : false ≡ true → ⊥
never h = cc

-- ---- rounds

abbrev Within : List (List ℕ) → List (List ℕ) → Type 0
Within u v = (x : List ℕ) → among x u ≡ true → among x v ≡ true

-- one of those that are used uses it, or the actor does
abbrev pub wanted : Source → List (List ℕ) → List ℕ → Bool
wanted s u name = uses name s.actor || used_by name (outers s) u

more-used : (name : List ℕ) (ds : List Outer) (u v : List (List ℕ)) → Within u v → used_by name ds u ≡ true → used_by name ds v ≡ true
more-used name [] u v w h = absurd (never h)
more-used name (d ∷ ds) u v w h =
    ⊎_elim (λ a. or-left (if among d.name v then uses name d.decl else false) (used_by name ds v) (first (among d.name u) (among d.name v) (w d.name) a))
    (λ b. or-right (if among d.name v then uses name d.decl else false) (used_by name ds v) (more-used name ds u v w b))
    (or-cases (if among d.name u then uses name d.decl else false) (used_by name ds u) h)
  where
    first : (a b : Bool) → (a ≡ true → b ≡ true) → (if a then uses name d.decl else false) ≡ true → (if b then uses name d.decl else false) ≡ true
    first true true f g = g
    first true false f g = absurd (never (f refl))
    first false b f g = absurd (never g)

more-wanted : (s : Source) (u v : List (List ℕ)) (name : List ℕ) → Within u v → wanted s u name ≡ true → wanted s v name ≡ true
more-wanted s u v name w h =
    ⊎_elim (λ a. or-left (uses name s.actor) (used_by name (outers s) v) a)
    (λ b. or-right (uses name s.actor) (used_by name (outers s) v) (more-used name (outers s) u v w b))
    (or-cases (uses name s.actor) (used_by name (outers s) u) h)

-- what is in one round more is in the next
more-now : (s : Source) (ds : List Outer) (u v : List (List ℕ)) → Within u v → Within (used_now s ds u) (used_now s ds v)
more-now s [] u v w x h = h
more-now s (d ∷ ds) u v w x h = go (wanted s u d.name) (wanted s v d.name) (more-wanted s u v d.name w) h (more-now s ds u v w x)
  where
    go : (a b : Bool) → (a ≡ true → b ≡ true) → among x ((if a then d.name ∷ [] else []) ++ used_now s ds u) ≡ true
        → (among x (used_now s ds u) ≡ true → among x (used_now s ds v) ≡ true) → among x ((if b then d.name ∷ [] else []) ++ used_now s ds v) ≡ true
    go true true f g rest =
        ⊎_elim (λ p. or-left (bytes_eq x d.name) (among x (used_now s ds v)) p) (λ q. or-right (bytes_eq x d.name) (among x (used_now s ds v)) (rest q))
        (or-cases (bytes_eq x d.name) (among x (used_now s ds u)) (as_or (bytes_eq x d.name) (among x (used_now s ds u)) g))
      where
        as_or : (p q : Bool) → (p || q) ≡ true → (p || q) ≡ true
        as_or p q e = e
    go true false f g rest = absurd (never (f refl))
    go false true f g rest = or-right (bytes_eq x d.name) (among x (used_now s ds v)) (rest g)
    go false false f g rest = rest g

-- a round that finds no more finds the same
record Grows (xs ys : List (List ℕ)) : Type 0 where
  more : length xs ≤ length ys
  same : length xs ≡ length ys → xs ≡ ys

now-grows : (s : Source) (ds : List Outer) (u v : List (List ℕ)) → Within u v → Grows (used_now s ds u) (used_now s ds v)
now-grows s [] u v w = record { more = omega arith; same = λ e. refl }
now-grows s (d ∷ ds) u v w = go (wanted s u d.name) (wanted s v d.name) (more-wanted s u v d.name w) (now-grows s ds u v w)
  where
    go : (a b : Bool) → (a ≡ true → b ≡ true) → Grows (used_now s ds u) (used_now s ds v)
        → Grows ((if a then d.name ∷ [] else []) ++ used_now s ds u) ((if b then d.name ∷ [] else []) ++ used_now s ds v)
    go true true f g =
        let m = g.more in
        record {
          more = omega arith;
          same = λ e. ap (λ xs. d.name ∷ xs) (g.same (omega arith));
        }
    go true false f g = absurd (never (f refl))
    go false true f g =
        let m = g.more in
        record { more = omega arith; same = λ e. absurd (omega arith) }
    go false false f g = g

now-few : (s : Source) (ds : List Outer) (u : List (List ℕ)) → length (used_now s ds u) ≤ length ds
now-few s [] u = omega arith
now-few s (d ∷ ds) u = go (wanted s u d.name) (now-few s ds u)
  where
    go : (a : Bool) → length (used_now s ds u) ≤ length ds → length ((if a then d.name ∷ [] else []) ++ used_now s ds u) ≤ suc (length ds)
    go true h = omega arith
    go false h = omega arith

within-next : (n : ℕ) (s : Source) → Within (used_after n s) (used_after (suc n) s)
within-next zero s x h = absurd (never h)
within-next (suc n) s x h = more-now s (outers s) (used_after n s) (used_after (suc n) s) (within-next n s) x h

more-or-same : (a b : ℕ) → a ≤ b → (a < b) ⊎ (a ≡ b)
more-or-same zero zero h = inr refl
more-or-same zero (suc b) h = inl (omega arith)
more-or-same (suc a) zero h = absurd (omega arith)
more-or-same (suc a) (suc b) h = ⊎_elim (λ (l : a < b). inl (omega arith)) (λ (e : a ≡ b). inr (ap suc e)) (more-or-same a b (omega arith))

rounds : (n : ℕ) (s : Source) → (used_after (suc n) s ≡ used_after n s) ⊎ (n < length (used_after (suc n) s))
rounds zero s = go (used_after 1 s) refl
  where
    go : (us : List (List ℕ)) → used_after 1 s ≡ us → (used_after 1 s ≡ []) ⊎ (0 < length (used_after 1 s))
    go [] e = inl e
    go (x ∷ us) e = inr (let l : length (used_after 1 s) ≡ suc (length us) = ap length e in omega arith)
rounds (suc n) s = ⊎_elim (λ e. inl (ap (λ u. used_now s (outers s) u) e)) (λ l. go (now-grows s (outers s) (used_after n s) (used_after (suc n) s) (within-next n s)) l) (rounds n s)
  where
    go : Grows (used_after (suc n) s) (used_after (suc (suc n)) s) → n < length (used_after (suc n) s)
        → (used_after (suc (suc n)) s ≡ used_after (suc n) s) ⊎ (suc n < length (used_after (suc (suc n)) s))
    go g l =
        ⊎_elim (λ (less : length (used_after (suc n) s) < length (used_after (suc (suc n)) s)). inr (let i = less in omega arith))
        (λ (e : length (used_after (suc n) s) ≡ length (used_after (suc (suc n)) s)). inl (sym (g.same e)))
        (more-or-same (length (used_after (suc n) s)) (length (used_after (suc (suc n)) s)) g.more)

-- one round more finds nothing
pub used-settled : (s : Source) → used_now s (outers s) (used s) ≡ used s
used-settled s =
    ⊎_elim (λ e. ap (λ u. used_now s (outers s) u) e)
    (λ (l : length (outers s) < length (used s)). absurd (let few = now-few s (outers s) (used_after (length (outers s)) s) in omega arith))
    (rounds (length (outers s)) s)

-- ---- what is used is kept

kept-within : (s : Source) (ds : List Outer) (u v : List (List ℕ)) (name : List ℕ) → Within (used_now s ds u) v → wanted s u name ≡ true → is_kept name ds v ≡ true
kept-within s [] u v name w h = refl
kept-within s (d ∷ ds) u v name w h = go (bytes_eq d.name name) refl (kept-within s ds u v name (λ x i. w x (later (wanted s u d.name) x i)) h)
  where
    later : (a : Bool) (x : List ℕ) → among x (used_now s ds u) ≡ true → among x ((if a then d.name ∷ [] else []) ++ used_now s ds u) ≡ true
    later true x i = or-right (bytes_eq x d.name) (among x (used_now s ds u)) i
    later false x i = i

    here : (a : Bool) → a ≡ true → among d.name ((if a then d.name ∷ [] else []) ++ used_now s ds u) ≡ true
    here true e = or-left (bytes_eq d.name d.name) (among d.name (used_now s ds u)) (text-same d.name)
    here false e = absurd (never e)

    go : (b : Bool) → bytes_eq d.name name ≡ b → is_kept name ds v ≡ true → (if b then among name v else is_kept name ds v) ≡ true
    go true e rest =
        let same : d.name ≡ name = same-text d.name name e in
        subst (λ n. among n v ≡ true) same (w d.name (here (wanted s u d.name) (subst (λ n. wanted s u n ≡ true) (sym same) h)))
    go false e rest = rest

pub kept-if-wanted : (s : Source) (name : List ℕ) → wanted s (used s) name ≡ true → is_kept name (outers s) (used s) ≡ true
kept-if-wanted s name h = kept-within s (outers s) (used s) (used s) name (λ x i. subst (λ u. among x u ≡ true) (used-settled s) i) h

pub among-kept : (ds : List Outer) (d : Outer) (v : List (List ℕ)) → Contains ds d → is_kept d.name ds v ≡ true → among d.name v ≡ true
among-kept [] d v c h = absurd (in-none d c)
among-kept (e ∷ ds) d v c h = go (bytes_eq e.name d.name) refl h (λ c i. among-kept ds d v c i)
  where
    go : (b : Bool) → bytes_eq e.name d.name ≡ b → (if b then among d.name v else is_kept d.name ds v) ≡ true
        → (Contains ds d → is_kept d.name ds v ≡ true → among d.name v ≡ true) → among d.name v ≡ true
    go true t i rest = i
    go false t i rest =
        ⊎_elim (λ (same : e ≡ d). absurd (never (sym t ∙ ap (λ x. bytes_eq x.name d.name) same ∙ text-same d.name))) (λ c. rest c i) (head-or-rest d e ds c)

pub used-in : (ds : List Outer) (d : Outer) (v : List (List ℕ)) (name : List ℕ) → Contains ds d → among d.name v ≡ true → uses name d.decl ≡ true → used_by name ds v ≡ true
used-in [] d v name c a h = absurd (in-none d c)
used-in (e ∷ ds) d v name c a h =
    ⊎_elim (λ (same : e ≡ d). or-left (if among e.name v then uses name e.decl else false) (used_by name ds v) (here same))
    (λ c. or-right (if among e.name v then uses name e.decl else false) (used_by name ds v) (used-in ds d v name c a h)) (head-or-rest d e ds c)
  where
    here : e ≡ d → (if among e.name v then uses name e.decl else false) ≡ true
    here same = subst (λ x. (if among x.name v then uses name x.decl else false) ≡ true) (sym same) (ap (λ b. if b then uses name d.decl else false) a ∙ h)
