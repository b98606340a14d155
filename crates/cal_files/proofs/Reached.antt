-- Files that are loaded are those to which imports lead.
use Rattle.std.proofs.Common.{◌≡◌, ℕ, suc, Bool, true, false, ◌||◌, List, [], ◌∷◌, ◌++◌, map, refl, sym, ap, subst, ◌∙◌}
use Rattle.std.proofs.lemmas.Slice.Eq.{bytes_eq-Decides}
use Rattle.std.specs.Prelude.{Option, None, Some, if◌then◌else◌}
use Rattle.std.specs.Str.{bytes_eq}
use Rattle.cal_imports.specs.Sources.{imports_of}
use Rattle.cal_imports.specs.Walk.{Edge}
use Rattle.cal_imports.specs.Whole.{import_edges}
use Rattle.cal_files.specs.Loading.{AreReadBehind, IsNextRead, Library}
use Rattle.cal_files.specs.Reached.{AreImportedBehind, LoadedAreReached, is_imported, leads_to}
use Rattle.cal_files.specs.Reads.{Read, Request, first_unread, import_request, is_read, requests, requests_from, top_request}
use Rattle.cal_files.proofs.Reading.{read_there}

-- one of these requests asks for the class
abbrev asked : (class : List ℕ) → List Request → Bool
asked class [] = false
asked class (q ∷ qs) = bytes_eq class q.class || asked class qs

same_class : (a b : List ℕ) → bytes_eq a b ≡ true → a ≡ b
same_class a b h = (bytes_eq-Decides a b).0 h

either : (a b : Bool) → (a || b) ≡ true → (P : Type 0) → (a ≡ true → P) → (b ≡ true → P) → P
either true b h P f g = f refl
either false b h P f g = g h

left : (a b : Bool) → a ≡ true → (a || b) ≡ true
left true b h = refl
left false b h = cc

right : (a b : Bool) → b ≡ true → (a || b) ≡ true
right true b h = refl
right false b h = h

asked_left : (class : List ℕ) (xs ys : List Request) → asked class xs ≡ true → asked class (xs ++ ys) ≡ true
asked_left class [] ys h = cc
asked_left class (q ∷ xs) ys h = either (bytes_eq class q.class) (asked class xs) h (asked class (q ∷ (xs ++ ys)) ≡ true)
    (λ e. left (bytes_eq class q.class) (asked class (xs ++ ys)) e)
    (λ k. right (bytes_eq class q.class) (asked class (xs ++ ys)) (asked_left class xs ys k))

asked_right : (class : List ℕ) (xs ys : List Request) → asked class ys ≡ true → asked class (xs ++ ys) ≡ true
asked_right class [] ys h = h
asked_right class (q ∷ xs) ys h = right (bytes_eq class q.class) (asked class (xs ++ ys)) (asked_right class xs ys h)

asked_either : (class : List ℕ) (xs ys : List Request) → asked class (xs ++ ys) ≡ true → (P : Type 0) → (asked class xs ≡ true → P) → (asked class ys ≡ true → P) → P
asked_either class [] ys h P f g = g h
asked_either class (q ∷ xs) ys h P f g = either (bytes_eq class q.class) (asked class (xs ++ ys)) h P
    (λ e. f (left (bytes_eq class q.class) (asked class xs) e))
    (λ k. asked_either class xs ys k P (λ l. f (right (bytes_eq class q.class) (asked class xs) l)) g)

-- requests of imports ask for what these lead to
asked_leads : (class : List ℕ) (file : ℕ) (es : List Edge) → asked class (map (import_request file) es) ≡ leads_to class es
asked_leads class file [] = refl
asked_leads class file (e ∷ es) = ap (λ b. bytes_eq class e.to || b) (asked_leads class file es)

imported_asked : (class : List ℕ) (n : ℕ) (reads : List Read) → is_imported class reads ≡ true → asked class (requests_from n reads) ≡ true
imported_asked class n [] h = cc
imported_asked class n (r ∷ rs) h =
    let es = import_edges (imports_of r.tree) in
    let qs = map (import_request n) es in
    either (leads_to class es) (is_imported class rs) h (asked class (requests_from n (r ∷ rs)) ≡ true)
    (λ e. asked_left class qs (requests_from (suc n) rs) (asked_leads class n es ∙ e))
    (λ k. asked_right class qs (requests_from (suc n) rs) (imported_asked class (suc n) rs k))

asked_imported : (class : List ℕ) (n : ℕ) (reads : List Read) → asked class (requests_from n reads) ≡ true → is_imported class reads ≡ true
asked_imported class n [] h = cc
asked_imported class n (r ∷ rs) h =
    let es = import_edges (imports_of r.tree) in
    asked_either class (map (import_request n) es) (requests_from (suc n) rs) h (is_imported class (r ∷ rs) ≡ true)
    (λ e. left (leads_to class es) (is_imported class rs) (sym (asked_leads class n es) ∙ e))
    (λ k. right (leads_to class es) (is_imported class rs) (asked_imported class (suc n) rs k))

-- ---- what is next

-- nothing unread is asked for
all_read : (reads : List Read) (qs : List Request) (class : List ℕ) → first_unread reads qs ≡ None → asked class qs ≡ true → is_read class reads ≡ true
all_read reads [] class h k = cc
all_read reads (q ∷ qs) class h k = go (is_read q.class reads) refl h (λ n l. all_read reads qs class n l)
  where
    go : (b : Bool) → is_read q.class reads ≡ b → (if b then first_unread reads qs else Some q) ≡ None
        → (first_unread reads qs ≡ None → asked class qs ≡ true → is_read class reads ≡ true) → is_read class reads ≡ true
    go true e rest later = either (bytes_eq class q.class) (asked class qs) k (is_read class reads ≡ true)
        (λ s. subst (λ c. is_read c reads ≡ true) (sym (same_class class q.class s)) e)
        (λ l. later rest l)
    go false e rest later = absurd (let n = rest in cc)

-- what is next isn't read, and is asked for
pub record IsAsked (reads : List Read) (qs : List Request) (q : Request) : Type 0 where
  pub unread : is_read q.class reads ≡ false
  pub is_asked : asked q.class qs ≡ true

some_same : (a b : Request) → ◌≡◌ {A = Option Request} (Some a) (Some b) → a ≡ b
some_same a b x = cc

next_asked : (reads : List Read) (qs : List Request) (q : Request) → first_unread reads qs ≡ Some q → IsAsked reads qs q
next_asked reads [] q h = absurd (let n = h in cc)
next_asked reads (p ∷ qs) q h = go (is_read p.class reads) refl h (λ n. next_asked reads qs q n)
  where
    go : (b : Bool) → is_read p.class reads ≡ b → (if b then first_unread reads qs else Some p) ≡ Some q
        → (first_unread reads qs ≡ Some q → IsAsked reads qs q) → IsAsked reads (p ∷ qs) q
    go true e rest next =
        let later = next rest in
        record { unread = later.unread; is_asked = right (bytes_eq q.class p.class) (asked q.class qs) later.is_asked }
    go false e rest next =
        let same : p ≡ q = some_same p q rest in
        subst (λ r. IsAsked reads (p ∷ qs) r) same
        (record { unread = e; is_asked = left (bytes_eq p.class p.class) (asked p.class qs) ((bytes_eq-Decides p.class p.class).1 refl) })

-- ---- the files

-- behind the top, a file that is read next is imported by one before it
imported_next : (library : Library) (top : List ℕ) (t : Read) (before : List Read) (r : Read) → t.class ≡ top → IsNextRead library top (t ∷ before) r
    → (is_read r.class (t ∷ before) ≡ false) × (is_imported r.class (t ∷ before) ≡ true)
imported_next library top t before r is_top next =
    let q = next_asked (t ∷ before) (requests top (t ∷ before)) next.request next.is_next in
    let unread : is_read r.class (t ∷ before) ≡ false = subst (λ c. is_read c (t ∷ before) ≡ false) (sym next.same_class) q.unread in
    let asked_for : asked r.class (requests top (t ∷ before)) ≡ true = subst (λ c. asked c (requests top (t ∷ before)) ≡ true) (sym next.same_class) q.is_asked in (
      unread,
      either (bytes_eq r.class top) (asked r.class (requests_from 1 (t ∷ before))) asked_for (is_imported r.class (t ∷ before) ≡ true)
          (λ e. absurd (both (is_read r.class (t ∷ before)) (subst (λ c. is_read c (t ∷ before) ≡ true) (is_top ∙ sym (same_class r.class top e)) (read_there [] t before)) unread))
          (λ k. asked_imported r.class 1 (t ∷ before) k),
    )
  where
    both : (b : Bool) → b ≡ true → b ≡ false → ⊥
    both true x y = let e = y in cc
    both false x y = let e = x in cc

imported_behind : (library : Library) (top : List ℕ) (t : Read) (before xs : List Read) → t.class ≡ top → AreReadBehind library top (t ∷ before) xs
    → AreImportedBehind (t ∷ before) xs
imported_behind library top t before [] is_top h = tt
imported_behind library top t before (x ∷ xs) is_top h =
    let here = imported_next library top t before x is_top h.0 in
    (here.0, here.1, imported_behind library top t (before ++ x ∷ []) xs is_top h.1)

some_request : (top : List ℕ) (q : Request) → ◌≡◌ {A = Option Request} (Some (top_request top)) (Some q) → q.class ≡ top
some_request top q h = sym (ap class_or h)
  where
    class_or : Option Request → List ℕ
    class_or None = []
    class_or (Some p) = p.class

pub reached : LoadedAreReached
reached library top [] is = absurd (let e = is.whole in cc)
reached library top (t ∷ rs) is =
    let is_top : t.class ≡ top = is.are_read.0.same_class ∙ some_request top is.are_read.0.request is.are_read.0.is_next in
    record {
      first = t;
      others = rs;
      reads_are = refl;
      is_top = is_top;
      are_imported = imported_behind library top t [] rs is_top is.are_read.1;
      are_all = λ class h. all_read (t ∷ rs) (requests top (t ∷ rs)) class is.whole
          (right (bytes_eq class top) (asked class (requests_from 1 (t ∷ rs))) (imported_asked class 1 (t ∷ rs) h));
    }
