-- Lists of files, and what they ask for.
use Rattle.std.proofs.Common.{◌≡◌, ℕ, suc, ◌+◌, Bool, true, false, ◌&&◌, ◌||◌, List, [], ◌∷◌, ◌++◌, length, map, refl, sym, ap, subst, ◌∙◌, arith}
use Rattle.std.proofs.lemmas.List.{append_assoc, append-nil, length-map, map-append}
use Rattle.std.proofs.lemmas.Slice.Eq.{bytes_eq-Decides}
use Rattle.std.specs.Prelude.{Option, None, Some, is_some, if◌then◌else◌}
use Rattle.std.specs.Str.{bytes_eq}
use Rattle.cal_imports.specs.Sources.{Source, imports_of, source_named}
use Rattle.cal_imports.specs.View.{new_source}
use Rattle.cal_imports.specs.Walk.{Edge}
use Rattle.cal_imports.specs.Whole.{import_edges}
use Rattle.fnl_read.specs.Net.{Instance}
use Rattle.fnl_bind.specs.Library.{Entry, network_of}
use Rattle.fnl_source.specs.Files.{Asked, Choice, Content, network, source, Read, Wanted, asked_by, asked_by_all, asked_by_import, asked_by_instance, bytes_of, first_unread, is_network, is_read, is_same_kind, networks_from, networks_in, next_wanted, sources_from, sources_in, wanted}
use Rattle.fnl_files.specs.Requests.{AreAllRead, Request, import_request, instance_request, names_of, read_name, requests, requests_by, requests_from, top_request}
use Rattle.fnl_files.specs.SoFar.{has}

-- ---- lists of files

plus_zero : (n : ℕ) → n ≡ n + 0
plus_zero n = omega arith

one_more : (n : ℕ) → 1 + n ≡ suc n
one_more n = omega arith

further : (n : ℕ) (x : Read) (xs : List Read) → suc n + length xs ≡ n + length (x ∷ xs)
further n x xs = omega arith

networks_join : (n : ℕ) (xs ys : List Read) → networks_from n (xs ++ ys) ≡ networks_from n xs ++ networks_from (n + length xs) ys
networks_join n [] ys = ap (λ k. networks_from k ys) (plus_zero n)
networks_join n (x ∷ xs) ys =
    ap (λ l. networks_in x.class n x.content ++ l) (networks_join (suc n) xs ys ∙ ap (λ k. networks_from (suc n) xs ++ networks_from k ys) (further n x xs))
    ∙ sym (append_assoc (networks_in x.class n x.content) (networks_from (suc n) xs) (networks_from (n + length (x ∷ xs)) ys))

sources_join : (n : ℕ) (xs ys : List Read) → sources_from n (xs ++ ys) ≡ sources_from n xs ++ sources_from (n + length xs) ys
sources_join n [] ys = ap (λ k. sources_from k ys) (plus_zero n)
sources_join n (x ∷ xs) ys =
    ap (λ l. sources_in x.class n x.content ++ l) (sources_join (suc n) xs ys ∙ ap (λ k. sources_from (suc n) xs ++ sources_from k ys) (further n x xs))
    ∙ sym (append_assoc (sources_in x.class n x.content) (sources_from (suc n) xs) (sources_from (n + length (x ∷ xs)) ys))

requests_join : (n : ℕ) (xs ys : List Read) → requests_from n (xs ++ ys) ≡ requests_from n xs ++ requests_from (n + length xs) ys
requests_join n [] ys = ap (λ k. requests_from k ys) (plus_zero n)
requests_join n (x ∷ xs) ys =
    ap (λ l. requests_by n x.content ++ l) (requests_join (suc n) xs ys ∙ ap (λ k. requests_from (suc n) xs ++ requests_from k ys) (further n x xs))
    ∙ sym (append_assoc (requests_by n x.content) (requests_from (suc n) xs) (requests_from (n + length (x ∷ xs)) ys))

pub networks_more : (done : List Read) (r : Read) → networks_from 1 (done ++ r ∷ []) ≡ networks_from 1 done ++ networks_in r.class (suc (length done)) r.content
networks_more done r =
    networks_join 1 done (r ∷ [])
    ∙ ap (λ xs. networks_from 1 done ++ xs) (append-nil (networks_in r.class (1 + length done) r.content)
    ∙ ap (λ n. networks_in r.class n r.content) (one_more (length done)))

pub sources_more : (done : List Read) (r : Read) → sources_from 1 (done ++ r ∷ []) ≡ sources_from 1 done ++ sources_in r.class (suc (length done)) r.content
sources_more done r =
    sources_join 1 done (r ∷ [])
    ∙ ap (λ xs. sources_from 1 done ++ xs) (append-nil (sources_in r.class (1 + length done) r.content)
    ∙ ap (λ n. sources_in r.class n r.content) (one_more (length done)))

pub requests_more : (top : Asked) (done : List Read) (r : Read) → requests top (done ++ r ∷ []) ≡ requests top done ++ requests_by (suc (length done)) r.content
requests_more top done r =
    ap (λ qs. top_request top ∷ qs) (requests_join 1 done (r ∷ [])
    ∙ ap (λ qs. requests_from 1 done ++ qs) (append-nil (requests_by (1 + length done) r.content)
    ∙ ap (λ n. requests_by n r.content) (one_more (length done))))

pub names_more : (done : List Read) (r : Read) → names_of (done ++ r ∷ []) ≡ names_of done ++ read_name r ∷ []
names_more done r = map-append read_name done (r ∷ [])

pub bytes_more : (done : List Read) (r : Read) → bytes_of (done ++ r ∷ []) ≡ bytes_of done + length r.text
bytes_more [] r = omega arith
bytes_more (x ∷ xs) r = let h = bytes_more xs r in omega arith

pub length_more : (done : List Read) (r : Read) → length (done ++ r ∷ []) ≡ suc (length done)
length_more [] r = refl
length_more (x ∷ xs) r = ap suc (length_more xs r)

pub count_names : (done : List Read) (names : List (List ℕ)) → names ≡ names_of done → length names ≡ length done
count_names done names e = ap length e ∙ length-map done read_name

-- ---- files that were read

pub same_class : (a b : List ℕ) → bytes_eq a b ≡ true → a ≡ b
same_class a b h = (bytes_eq-Decides a b).0 h

is_itself : (a : List ℕ) → bytes_eq a a ≡ true
is_itself a = (bytes_eq-Decides a a).1 refl

either_way : (a b : List ℕ) → bytes_eq a b ≡ bytes_eq b a
either_way a b = go (bytes_eq a b) (bytes_eq b a) (λ h. subst (λ x. bytes_eq b x ≡ true) (sym (same_class a b h)) (is_itself b))
    (λ h. subst (λ x. bytes_eq a x ≡ true) (sym (same_class b a h)) (is_itself a))
  where
    go : (x y : Bool) → (x ≡ true → y ≡ true) → (y ≡ true → x ≡ true) → x ≡ y
    go true y f g = sym (f refl)
    go false true f g = g refl
    go false false f g = refl

network_or_not : (t x : Bool) (o : Option Entry) (e : Entry) → x ≡ is_some o → ((t && true) || x) ≡ is_some (if t then Some e else o)
network_or_not true x o s e = refl
network_or_not false x o s e = e

source_or_not : (t x : Bool) (o : Option Source) (s : Source) → x ≡ is_some o → ((t && true) || x) ≡ is_some (if t then Some s else o)
source_or_not true x o s e = refl
source_or_not false x o s e = e

passed : (t x y : Bool) → x ≡ y → ((t && false) || x) ≡ y
passed true x y e = e
passed false x y e = e

network_is_read : (class : List ℕ) (n : ℕ) (rs : List Read) → is_read (record { class = class; network = true }) rs ≡ is_some (network_of class (networks_from n rs))
network_is_read class n [] = refl
network_is_read class n (r ∷ rs) = go r.content (network_is_read class (suc n) rs)
  where
    go : (content : Content) → is_read (record { class = class; network = true }) rs ≡ is_some (network_of class (networks_from (suc n) rs))
        → ((bytes_eq class r.class && is_same_kind true (is_network content)) || is_read (record { class = class; network = true }) rs)
        ≡ is_some (network_of class (networks_in r.class n content ++ networks_from (suc n) rs))
    go (network net) h =
        ap (λ t. (t && true) || is_read (record { class = class; network = true }) rs) (either_way class r.class)
        ∙ network_or_not (bytes_eq r.class class) (is_read (record { class = class; network = true }) rs) (network_of class (networks_from (suc n) rs))
        (record { class = r.class; file = n; net = net }) h
    go (source tree) h = passed (bytes_eq class r.class) (is_read (record { class = class; network = true }) rs) (is_some (network_of class (networks_from (suc n) rs))) h

source_is_read : (class : List ℕ) (n : ℕ) (rs : List Read) → is_read (record { class = class; network = false }) rs ≡ is_some (source_named class (sources_from n rs))
source_is_read class n [] = refl
source_is_read class n (r ∷ rs) = go r.content (source_is_read class (suc n) rs)
  where
    go : (content : Content) → is_read (record { class = class; network = false }) rs ≡ is_some (source_named class (sources_from (suc n) rs))
        → ((bytes_eq class r.class && is_same_kind false (is_network content)) || is_read (record { class = class; network = false }) rs)
        ≡ is_some (source_named class (sources_in r.class n content ++ sources_from (suc n) rs))
    go (network net) h = passed (bytes_eq class r.class) (is_read (record { class = class; network = false }) rs) (is_some (source_named class (sources_from (suc n) rs))) h
    go (source tree) h =
        source_or_not (bytes_eq class r.class) (is_read (record { class = class; network = false }) rs) (source_named class (sources_from (suc n) rs))
        (new_source r.class n tree) h

-- what the sets hold is read
pub same_has : (w : Wanted) (rs : List Read) → has w (networks_from 1 rs) (sources_from 1 rs) ≡ is_read w rs
same_has w rs = go w.network refl
  where
    go : (b : Bool) → w.network ≡ b → has w (networks_from 1 rs) (sources_from 1 rs) ≡ is_read w rs
    go true e =
        let same : record { class = w.class; network = true } ≡ w = λ i. record { class = w.class; network = sym e i } in
        subst (λ v. has v (networks_from 1 rs) (sources_from 1 rs) ≡ is_read v rs) same (sym (network_is_read w.class 1 rs))
    go false e =
        let same : record { class = w.class; network = false } ≡ w = λ i. record { class = w.class; network = sym e i } in
        subst (λ v. has v (networks_from 1 rs) (sources_from 1 rs) ≡ is_read v rs) same (sym (source_is_read w.class 1 rs))

pub read_stays : (w : Wanted) (done later : List Read) → is_read w done ≡ true → is_read w (done ++ later) ≡ true
read_stays w [] later h = cc
read_stays w (r ∷ done) later h = go (bytes_eq w.class r.class && is_same_kind w.network (is_network r.content)) h (read_stays w done later)
  where
    go : (b : Bool) → (b || is_read w done) ≡ true → (is_read w done ≡ true → is_read w (done ++ later) ≡ true) → (b || is_read w (done ++ later)) ≡ true
    go true k rest = refl
    go false k rest = rest k

pub read_there : (w : Wanted) (done : List Read) (r : Read) → r.class ≡ w.class → is_network r.content ≡ w.network → is_read w (done ++ r ∷ []) ≡ true
read_there w [] r c k = both (bytes_eq w.class r.class) (is_same_kind w.network (is_network r.content)) (subst (λ x. bytes_eq w.class x ≡ true) (sym c) (is_itself w.class))
    (subst (λ x. is_same_kind w.network x ≡ true) (sym k) (kind_itself w.network))
  where
    kind_itself : (b : Bool) → is_same_kind b b ≡ true
    kind_itself true = refl
    kind_itself false = refl

    both : (a b : Bool) → a ≡ true → b ≡ true → ((a && b) || false) ≡ true
    both true true h k = refl
    both true false h k = cc
    both false b h k = cc
read_there w (x ∷ done) r c k = go (bytes_eq w.class x.class && is_same_kind w.network (is_network x.content)) (read_there w done r c k)
  where
    go : (b : Bool) → is_read w (done ++ r ∷ []) ≡ true → (b || is_read w (done ++ r ∷ [])) ≡ true
    go true h = refl
    go false h = h

pub all_read_stays : (choice : Choice) (done later : List Read) (qs : List Request) → AreAllRead choice done qs → AreAllRead choice (done ++ later) qs
all_read_stays choice done later [] h = tt
all_read_stays choice done later (q ∷ qs) h = (read_stays (wanted choice q.asked) done later h.0, all_read_stays choice done later qs h.1)

pub all_read_join : (choice : Choice) (done : List Read) (qs : List Request) (q : Request) → AreAllRead choice done qs
    → is_read (wanted choice q.asked) done ≡ true → AreAllRead choice done (qs ++ q ∷ [])
all_read_join choice done [] q h k = (k, tt)
all_read_join choice done (p ∷ qs) q h k = (h.0, all_read_join choice done qs q h.1 k)

pub all_read_more : (choice : Choice) (done : List Read) (qs : List Request) (q : Request) (r : Read) → AreAllRead choice done qs
    → r.class ≡ (wanted choice q.asked).class → is_network r.content ≡ (wanted choice q.asked).network → AreAllRead choice (done ++ r ∷ []) (qs ++ q ∷ [])
all_read_more choice done qs q r h c k =
    all_read_join choice (done ++ r ∷ []) qs q (all_read_stays choice done (r ∷ []) qs h) (read_there (wanted choice q.asked) done r c k)

-- ---- what is asked for

same_instances : (n : ℕ) (is : List Instance) → map (λ q. q.asked) (map (instance_request n) is) ≡ map asked_by_instance is
same_instances n [] = refl
same_instances n (i ∷ is) = ap (λ zs. asked_by_instance i ∷ zs) (same_instances n is)

same_imports : (n : ℕ) (es : List Edge) → map (λ q. q.asked) (map (import_request n) es) ≡ map asked_by_import es
same_imports n [] = refl
same_imports n (e ∷ es) = ap (λ zs. asked_by_import e ∷ zs) (same_imports n es)

same_asked_by : (n : ℕ) (content : Content) → map (λ q. q.asked) (requests_by n content) ≡ asked_by content
same_asked_by n (network net) = same_instances n net.instances
same_asked_by n (source tree) = same_imports n (import_edges (imports_of tree))

pub same_asked : (n : ℕ) (rs : List Read) → map (λ q. q.asked) (requests_from n rs) ≡ asked_by_all rs
same_asked n [] = refl
same_asked n (r ∷ rs) =
    map-append (λ q. q.asked) (requests_by n r.content) (requests_from (suc n) rs)
    ∙ ap (λ xs. xs ++ map (λ q. q.asked) (requests_from (suc n) rs)) (same_asked_by n r.content)
    ∙ ap (λ xs. asked_by r.content ++ xs) (same_asked (suc n) rs)

pub next_is : (choice : Choice) (top : Asked) (rs : List Read) (qs : List Request) → requests top rs ≡ qs
    → next_wanted choice top rs ≡ first_unread choice rs (map (λ q. q.asked) qs)
next_is choice top rs qs e =
    ap (λ zs. first_unread choice rs (top ∷ zs)) (sym (same_asked 1 rs))
    ∙ ap (λ zs. first_unread choice rs (map (λ q. q.asked) zs)) e

pub first_past : (choice : Choice) (rs : List Read) (before after : List Request) (q : Request) → AreAllRead choice rs before
    → is_read (wanted choice q.asked) rs ≡ false → first_unread choice rs (map (λ p. p.asked) (before ++ q ∷ after)) ≡ Some (wanted choice q.asked)
first_past choice rs [] after q h unread = ap (λ b. if b then first_unread choice rs (map (λ p. p.asked) after) else Some (wanted choice q.asked)) unread
first_past choice rs (p ∷ before) after q h unread =
    ap (λ b. if b then first_unread choice rs (map (λ x. x.asked) (before ++ q ∷ after)) else Some (wanted choice p.asked)) h.0
    ∙ first_past choice rs before after q h.1 unread

pub first_none : (choice : Choice) (rs : List Read) (qs : List Request) → AreAllRead choice rs qs → first_unread choice rs (map (λ q. q.asked) qs) ≡ None
first_none choice rs [] h = refl
first_none choice rs (q ∷ qs) h =
    ap (λ b. if b then first_unread choice rs (map (λ x. x.asked) qs) else Some (wanted choice q.asked)) h.0 ∙ first_none choice rs qs h.1
