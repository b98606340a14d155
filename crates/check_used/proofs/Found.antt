-- What rounds over declarations find is what an actor uses.
use Rattle.std.proofs.Common.{◌≡◌, ℕ, zero, suc, ◌≤◌, ◌⊎◌, inl, inr, ⊎_elim, Bool, true, false, ◌||◌, not, List, [], ◌∷◌, ◌++◌, length, map, refl, sym, ap, subst, ◌∙◌, arith, Contains, reverse}
use Rattle.std.specs.Prelude.{cond, filter, if◌then◌else◌}
use Rattle.std.specs.Str.{bytes_eq}
use Rattle.std.proofs.lemmas.List.{append-nil, append_assoc, length-reverse, map-append, reverse-append, reverse-reverse}
use Rattle.cal_ast.specs.Tree.{Tree}
use Rattle.cal_model.proofs.KindNames.{same-text}
use Rattle.cal_model.specs.Actor.{Fun, Held}
use Rattle.cal_model.specs.Tags.{is_seen, with_seen}
use Rattle.cal_check.specs.Actors.{Outer, Source, among, is_kept, kept_funs, kept_vars, outers, used, used_after, used_by, used_now, uses}
use Rattle.cal_check.proofs.Lists.{at-head, head-or-rest, in-none, in-rest}
use Rattle.check_used.proofs.Collected.{collected, or_assoc, or_none, seen_added}
use Rattle.check_used.proofs.Keys.{eq_turned}
use Rattle.check_used.proofs.Rounds.{among-kept, kept-if-wanted, never, or-cases, or-left, or-right, used-in, wanted}
use Rattle.check_used.specs.Naming.{with_names}
use Rattle.check_used.specs.Using.{IsFound, IsSettled, IsSourceOf, is_outer, round_left, round_names, visited_left, visited_names, with_outers}

-- ---- lists

in_either : {A : Type 0} (xs ys : List A) (x : A) → Contains (xs ++ ys) x → Contains xs x ⊎ Contains ys x
in_either [] ys x h = inr h
in_either (y ∷ xs) ys x h =
    ⊎_elim (λ e. inl (at-head x y xs e)) (λ r. ⊎_elim (λ l. inl (in-rest x y xs l)) (λ k. inr k) (in_either xs ys x r)) (head-or-rest x y (xs ++ ys) h)

in_left : {A : Type 0} (xs ys : List A) (x : A) → Contains xs x → Contains (xs ++ ys) x
in_left [] ys x h = absurd (in-none x h)
in_left (y ∷ xs) ys x h = ⊎_elim (λ e. at-head x y (xs ++ ys) e) (λ r. in-rest x y (xs ++ ys) (in_left xs ys x r)) (head-or-rest x y xs h)

in_right : {A : Type 0} (xs ys : List A) (x : A) → Contains ys x → Contains (xs ++ ys) x
in_right [] ys x h = h
in_right (y ∷ xs) ys x h = in-rest x y (xs ++ ys) (in_right xs ys x h)

-- ---- one declaration

stays : (x : List ℕ) (t : Tree) (names : List (List ℕ)) → is_seen x names ≡ true → is_seen x (with_names t names) ≡ true
stays x t names h = collected x t names ∙ or-left (is_seen x names) (uses x t) h

brings : (x : List ℕ) (t : Tree) (names : List (List ℕ)) → uses x t ≡ true → is_seen x (with_names t names) ≡ true
brings x t names h = collected x t names ∙ or-right (is_seen x names) (uses x t) h

-- what is used is used by something that is used
used_among : (s : Source) (d : Outer) → Contains (outers s) d → wanted s (used s) d.name ≡ true → among d.name (used s) ≡ true
used_among s d c h = among-kept (outers s) d (used s) c (kept-if-wanted s d.name h)

visit_found : (s : Source) (names : List (List ℕ)) (before behind : List Outer) (d : Outer) → is_seen d.name names ≡ true → IsFound s names (before ++ d ∷ behind)
    → IsFound s (with_names d.decl names) (before ++ behind)
visit_found s names before behind d seen found =
    let here : Contains (outers s) d = found.inside d (in_right before (d ∷ behind) d (at-head d d behind refl)) in
    record {
      actor = λ name h. stays name d.decl names (found.actor name h);
      wanted = λ name h. ⊎_elim (λ a. found.wanted name a)
          (λ b. or-right (uses name s.actor) (used_by name (outers s) (used s)) (used-in (outers s) d (used s) name here (used_among s d here (found.wanted d.name seen)) b))
          (or-cases (is_seen name names) (uses name d.decl) (sym (collected name d.decl names) ∙ h));
      inside = λ e c. found.inside e (⊎_elim (λ l. in_left before (d ∷ behind) e l) (λ r. in_right before (d ∷ behind) e (in-rest e d behind r)) (in_either before behind e c));
      visited = λ e c. ⊎_elim (λ l. still e l) (λ f. inr (λ name u. stays name d.decl names (f name u))) (found.visited e c);
    }
  where
    still : (e : Outer) → Contains (before ++ d ∷ behind) e → Contains (before ++ behind) e ⊎ ((name : List ℕ) → uses name e.decl ≡ true → is_seen name (with_names d.decl names) ≡ true)
    still e c =
        ⊎_elim (λ l. inl (in_left before behind e l))
        (λ r. ⊎_elim (λ (same : d ≡ e). inr (λ name u. brings name d.decl names (subst (λ x. uses name x.decl ≡ true) (sym same) u))) (λ k. inl (in_right before behind e k)) (head-or-rest e d behind r))
        (in_either before (d ∷ behind) e c)

next_found : (s : Source) (names : List (List ℕ)) (before behind : List Outer) (d : Outer) → IsFound s names (before ++ d ∷ behind)
    → IsFound s (visited_names d names) ((before ++ visited_left d names) ++ behind)
next_found s names before behind d found = go (is_seen d.name names) refl
  where
    go : (b : Bool) → is_seen d.name names ≡ b → IsFound s (if b then with_names d.decl names else names) ((before ++ (if b then [] else d ∷ [])) ++ behind)
    go true e = subst (λ xs. IsFound s (with_names d.decl names) (xs ++ behind)) (sym (append-nil before)) (visit_found s names before behind d e found)
    go false e = subst (IsFound s names) (sym (append_assoc before (d ∷ []) behind)) found

-- ---- rounds

round_behind : (s : Source) (names : List (List ℕ)) (before ds : List Outer) → IsFound s names (before ++ ds) → IsFound s (round_names ds names) (before ++ round_left ds names)
round_behind s names before [] found = found
round_behind s names before (d ∷ ds) found =
    subst (IsFound s (round_names ds (visited_names d names))) (append_assoc before (visited_left d names) (round_left ds (visited_names d names)))
    (round_behind s (visited_names d names) (before ++ visited_left d names) ds (next_found s names before ds d found))

pub round_found : (s : Source) (names : List (List ℕ)) (ds : List Outer) → IsFound s names ds → IsFound s (round_names ds names) (round_left ds names)
round_found s names ds found = round_behind s names [] ds found

pub start_found : (s : Source) (decl : Tree) (decls : List Outer) → IsSourceOf s decl decls → IsFound s (with_names decl []) decls
start_found s decl decls is = record {
  actor = λ name h. brings name decl [] (subst (λ t. uses name t ≡ true) is.actor h);
  wanted = λ name h. or-left (uses name s.actor) (used_by name (outers s) (used s)) (subst (λ t. uses name t ≡ true) (sym is.actor) (sym (collected name decl []) ∙ h));
  inside = λ d c. subst (λ ds. Contains ds d) (sym is.outers) c;
  visited = λ d c. inl (subst (λ ds. Contains ds d) is.outers c);
}

pub round_fewer : (ds : List Outer) (names : List (List ℕ)) → length (round_left ds names) ≤ length ds
round_fewer [] names = omega arith
round_fewer (d ∷ ds) names = go (is_seen d.name names) (λ n. round_fewer ds n)
  where
    go : (b : Bool) → ((n : List (List ℕ)) → length (round_left ds n) ≤ length ds)
        → length ((if b then [] else d ∷ []) ++ round_left ds (if b then with_names d.decl names else names)) ≤ suc (length ds)
    go true few = let h = few (with_names d.decl names) in omega arith
    go false few = let h = few names in omega arith

-- a round after which as many are left has found nothing
record FindsNothing (ds : List Outer) (names : List (List ℕ)) : Type 0 where
  names_stay : round_names ds names ≡ names
  all_left : round_left ds names ≡ ds
  settled : IsSettled names ds

nothing_found : (ds : List Outer) (names : List (List ℕ)) → length (round_left ds names) ≡ length ds → FindsNothing ds names
nothing_found [] names e = record { names_stay = refl; all_left = refl; settled = λ d c. absurd (in-none d c) }
nothing_found (d ∷ ds) names e = go (is_seen d.name names) refl e (λ n h. nothing_found ds n h)
  where
    go : (b : Bool) → is_seen d.name names ≡ b
        → length ((if b then [] else d ∷ []) ++ round_left ds (if b then with_names d.decl names else names)) ≡ suc (length ds)
        → ((n : List (List ℕ)) → length (round_left ds n) ≡ length ds → FindsNothing ds n) → FindsNothing (d ∷ ds) names
    go true seen h next = absurd (let few = round_fewer ds (with_names d.decl names) in omega arith)
    go false seen h next =
        let rest = next names (omega arith) in
        let stay : visited_names d names ≡ names = ap (λ b. if b then with_names d.decl names else names) seen in
        let left : visited_left d names ≡ d ∷ [] = ap (λ b. if b then [] else d ∷ []) seen in
        record {
          names_stay = ap (round_names ds) stay ∙ rest.names_stay;
          all_left = ap (λ xs. xs ++ round_left ds (visited_names d names)) left ∙ ap (λ n. d ∷ round_left ds n) stay ∙ ap (λ xs. d ∷ xs) rest.all_left;
          settled = λ x c. ⊎_elim (λ (same : d ≡ x). subst (λ y. is_seen y.name names ≡ false) same seen) (λ r. rest.settled x r) (head-or-rest x d ds c);
        }

pub round_settles : (ds : List Outer) (names : List (List ℕ)) → length (round_left ds names) ≡ length ds → IsSettled (round_names ds names) (round_left ds names)
round_settles ds names e =
    let nothing = nothing_found ds names e in
    subst (λ xs. IsSettled (round_names ds names) xs) (sym nothing.all_left) (subst (λ n. IsSettled n ds) (sym nothing.names_stay) nothing.settled)

-- ---- the other way round

reverse_more : {A : Type 0} (x : A) (xs : List A) → reverse (x ∷ xs) ≡ reverse xs ++ x ∷ []
reverse_more x xs = reverse-append (x ∷ []) xs

map_reverse : {A B : Type 0} (f : A → B) (xs : List A) → map f (reverse xs) ≡ reverse (map f xs)
map_reverse f [] = refl
map_reverse f (x ∷ xs) =
    ap (map f) (reverse_more x xs) ∙ map-append f (reverse xs) (x ∷ []) ∙ ap (λ ys. ys ++ f x ∷ []) (map_reverse f xs) ∙ sym (reverse_more (f x) (map f xs))

in_reverse : {A : Type 0} (xs : List A) (x : A) → Contains xs x → Contains (reverse xs) x
in_reverse [] x h = absurd (in-none x h)
in_reverse (y ∷ xs) x h =
    subst (λ ys. Contains ys x) (sym (reverse_more y xs))
    (⊎_elim (λ e. in_right (reverse xs) (y ∷ []) x (at-head x y [] e)) (λ r. in_left (reverse xs) (y ∷ []) x (in_reverse xs x r)) (head-or-rest x y xs h))

of_reverse : {A : Type 0} (xs : List A) (x : A) → Contains (reverse xs) x → Contains xs x
of_reverse xs x h = subst (λ ys. Contains ys x) (reverse-reverse xs) (in_reverse (reverse xs) x h)

-- what is left may stand the other way round
reverse_found : (s : Source) (names : List (List ℕ)) (ds : List Outer) → IsFound s names ds → IsFound s names (reverse ds)
reverse_found s names ds found = record {
  actor = found.actor;
  wanted = found.wanted;
  inside = λ d c. found.inside d (of_reverse ds d c);
  visited = λ d c. ⊎_elim (λ l. inl (in_reverse ds d l)) (λ f. inr f) (found.visited d c);
}

pub turned_found : {A : Type 0} (view : A → Outer) (s : Source) (names : List (List ℕ)) (xs ys : List A) → ys ≡ reverse xs → IsFound s names (map view xs) → IsFound s names (map view ys)
turned_found view s names xs ys e found = subst (IsFound s names) (sym (ap (map view) e ∙ map_reverse view xs)) (reverse_found s names (map view xs) found)

pub turned_length : {A : Type 0} (xs ys : List A) → ys ≡ reverse xs → length ys ≡ length xs
turned_length xs ys e = ap length e ∙ length-reverse xs

-- ---- a round as it is told

length_map : {A B : Type 0} (f : A → B) (xs : List A) → length (map f xs) ≡ length xs
length_map f [] = refl
length_map f (x ∷ xs) = ap suc (length_map f xs)

pub round_is : (s : Source) (names new : List (List ℕ)) (ds left : List Outer) → new ≡ round_names ds names → left ≡ round_left ds names → IsFound s names ds → IsFound s new left
round_is s names new ds left n l found = subst (λ xs. IsFound s new xs) (sym l) (subst (λ m. IsFound s m (round_left ds names)) (sym n) (round_found s names ds found))

module _ {A : Type 0} (view : A → Outer) (names : List (List ℕ)) (ds left : List A) (l : map view left ≡ round_left (map view ds) names) where
  pub round_few : length left ≤ length ds
  round_few =
      let few = round_fewer (map view ds) names in
      let a = length_map view left in
      let b = length_map view ds in
      let e : length (map view left) ≡ length (round_left (map view ds) names) = ap length l in
      omega arith

  pub round_done : (new : List (List ℕ)) → new ≡ round_names (map view ds) names → length left ≡ length ds → IsSettled new (map view left)
  round_done new n e =
      let a = length_map view left in
      let b = length_map view ds in
      let c : length (map view left) ≡ length (round_left (map view ds) names) = ap length l in
      subst (λ xs. IsSettled new xs) (sym l) (subst (λ m. IsSettled m (round_left (map view ds) names)) (sym n) (round_settles (map view ds) names (omega arith)))

-- ---- all that is used is found

now_wanted : (s : Source) (ds : List Outer) (u : List (List ℕ)) (x : List ℕ) → among x (used_now s ds u) ≡ true → wanted s u x ≡ true
now_wanted s [] u x h = absurd (never h)
now_wanted s (d ∷ ds) u x h = go (wanted s u d.name) refl h (now_wanted s ds u x)
  where
    go : (b : Bool) → wanted s u d.name ≡ b → among x ((if b then d.name ∷ [] else []) ++ used_now s ds u) ≡ true
        → (among x (used_now s ds u) ≡ true → wanted s u x ≡ true) → wanted s u x ≡ true
    go true w i rest = ⊎_elim (λ e. ap (wanted s u) (same-text x d.name e) ∙ w) (λ r. rest r) (or-cases (bytes_eq x d.name) (among x (used_now s ds u)) i)
    go false w i rest = rest i

record IsUser (x : List ℕ) (ds : List Outer) (u : List (List ℕ)) : Type 0 where
  user : Outer
  there : Contains ds user
  is_used : among user.name u ≡ true
  uses_it : uses x user.decl ≡ true

some_user : (x : List ℕ) (ds : List Outer) (u : List (List ℕ)) → used_by x ds u ≡ true → IsUser x ds u
some_user x [] u h = absurd (never h)
some_user x (d ∷ ds) u h = go (among d.name u) refl h (λ r. some_user x ds u r)
  where
    later : IsUser x ds u → IsUser x (d ∷ ds) u
    later i = record { user = i.user; there = in-rest i.user d ds i.there; is_used = i.is_used; uses_it = i.uses_it }

    go : (b : Bool) → among d.name u ≡ b → ((if b then uses x d.decl else false) || used_by x ds u) ≡ true → (used_by x ds u ≡ true → IsUser x ds u) → IsUser x (d ∷ ds) u
    go true a i rest =
        ⊎_elim (λ e. record { user = d; there = at-head d d ds refl; is_used = a; uses_it = e }) (λ r. later (rest r)) (or-cases (uses x d.decl) (used_by x ds u) i)
    go false a i rest = later (rest i)

all_found : (n : ℕ) (s : Source) (names : List (List ℕ)) (left : List Outer) → IsFound s names left → IsSettled names left → (x : List ℕ) → among x (used_after n s) ≡ true → is_seen x names ≡ true
all_found zero s names left found settled x h = absurd (never h)
all_found (suc n) s names left found settled x h =
    ⊎_elim (λ a. found.actor x a) (λ b. by_user (some_user x (outers s) (used_after n s) b) (λ y i. all_found n s names left found settled y i))
    (or-cases (uses x s.actor) (used_by x (outers s) (used_after n s)) (now_wanted s (outers s) (used_after n s) x h))
  where
    by_user : IsUser x (outers s) (used_after n s) → ((y : List ℕ) → among y (used_after n s) ≡ true → is_seen y names ≡ true) → is_seen x names ≡ true
    by_user i before =
        ⊎_elim (λ l. absurd (never (sym (settled i.user l) ∙ before i.user.name i.is_used))) (λ f. f x i.uses_it) (found.visited i.user i.there)

-- ---- the test

named_behind : (name : List ℕ) (ds : List Outer) (names : List (List ℕ)) → is_seen name (with_outers ds names) ≡ (is_seen name names || is_outer name ds)
named_behind name [] names = sym (or_none (is_seen name names))
named_behind name (d ∷ ds) names =
    named_behind name ds (with_seen names d.name) ∙ ap (λ b. b || is_outer name ds) (seen_added name d.name names)
    ∙ or_assoc (is_seen name names) (bytes_eq name d.name) (is_outer name ds) ∙ ap (λ b. is_seen name names || (b || is_outer name ds)) (eq_turned name d.name)

kept_by : (name : List ℕ) (ds : List Outer) (u : List (List ℕ)) → is_kept name ds u ≡ (not (is_outer name ds) || among name u)
kept_by name [] u = refl
kept_by name (d ∷ ds) u = go (bytes_eq d.name name) (kept_by name ds u)
  where
    go : (b : Bool) → is_kept name ds u ≡ (not (is_outer name ds) || among name u) → (if b then among name u else is_kept name ds u) ≡ (not (b || is_outer name ds) || among name u)
    go true h = refl
    go false h = h

pub kept_test : (s : Source) (decl : Tree) (decls : List Outer) (others names : List (List ℕ)) (left : List Outer) → IsSourceOf s decl decls
    → others ≡ with_outers decls [] → IsFound s names left → IsSettled names left
    → (name : List ℕ) → (not (is_seen name others) || is_seen name names) ≡ is_kept name (outers s) (used s)
kept_test s decl decls others names left is named found settled name =
    ap (λ ns. not (is_seen name ns) || is_seen name names) named ∙ ap (λ b. not b || is_seen name names) (named_behind name decls [])
    ∙ go (is_outer name decls) (is_seen name names) (among name (used s))
    (λ h. all_found (suc (length (outers s))) s names left found settled name h)
    (λ h o. sym (ap (λ b. not b || among name (used s)) o) ∙ sym kept ∙ kept-if-wanted s name (found.wanted name h))
    ∙ sym kept
  where
    kept : is_kept name (outers s) (used s) ≡ (not (is_outer name decls) || among name (used s))
    kept = kept_by name (outers s) (used s) ∙ ap (λ ds. not (is_outer name ds) || among name (used s)) is.outers

    go : (o a b : Bool) → (b ≡ true → a ≡ true) → (a ≡ true → o ≡ true → b ≡ true) → (not o || a) ≡ (not o || b)
    go false a b f g = refl
    go true true b f g = sym (g refl refl)
    go true false true f g = f refl
    go true false false f g = refl

-- ---- what is kept of variables and functions

pub vars_kept : (xs : List Held) (s : Source) (keeping : List ℕ → Bool) → ((name : List ℕ) → keeping name ≡ is_kept name (outers s) (used s)) → filter (λ x. keeping x.name) xs ≡ kept_vars xs s
vars_kept [] s keeping h = refl
vars_kept (x ∷ xs) s keeping h = go (keeping x.name) (is_kept x.name (outers s) (used s)) (h x.name) (vars_kept xs s keeping h)
  where
    go : (b c : Bool) → b ≡ c → filter (λ y. keeping y.name) xs ≡ kept_vars xs s
        → cond b (x ∷ filter (λ y. keeping y.name) xs) (filter (λ y. keeping y.name) xs) ≡ (if c then x ∷ kept_vars xs s else kept_vars xs s)
    go true true e i = ap (λ ys. x ∷ ys) i
    go true false e i = absurd (cc)
    go false true e i = absurd (cc)
    go false false e i = i

pub funs_kept : (xs : List Fun) (s : Source) (keeping : List ℕ → Bool) → ((name : List ℕ) → keeping name ≡ is_kept name (outers s) (used s)) → filter (λ x. keeping x.name) xs ≡ kept_funs xs s
funs_kept [] s keeping h = refl
funs_kept (x ∷ xs) s keeping h = go (keeping x.name) (is_kept x.name (outers s) (used s)) (h x.name) (funs_kept xs s keeping h)
  where
    go : (b c : Bool) → b ≡ c → filter (λ y. keeping y.name) xs ≡ kept_funs xs s
        → cond b (x ∷ filter (λ y. keeping y.name) xs) (filter (λ y. keeping y.name) xs) ≡ (if c then x ∷ kept_funs xs s else kept_funs xs s)
    go true true e i = ap (λ ys. x ∷ ys) i
    go true false e i = absurd (cc)
    go false true e i = absurd (cc)
    go false false e i = i

pub filtered : {A B : Type 0} (view : A → B) (test : B → Bool) (xs : List A) → map view (filter (λ x. test (view x)) xs) ≡ filter test (map view xs)
filtered view test [] = refl
filtered view test (x ∷ xs) = go (test (view x)) (filtered view test xs)
  where
    go : (b : Bool) → map view (filter (λ y. test (view y)) xs) ≡ filter test (map view xs)
        → map view (cond b (x ∷ filter (λ y. test (view y)) xs) (filter (λ y. test (view y)) xs)) ≡ cond b (view x ∷ filter test (map view xs)) (filter test (map view xs))
    go true e = ap (λ ys. view x ∷ ys) e
    go false e = e
