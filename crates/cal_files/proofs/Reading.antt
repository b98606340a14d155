-- A loading goes on: what is asked for next, and what is read then.
use Rattle.std.proofs.Common.{◌≡◌, ℕ, suc, ◌+◌, ◌≤◌, Bool, true, false, List, [], ◌∷◌, ◌++◌, length, refl, sym, ap, subst, ◌∙◌, arith}
use Rattle.std.proofs.lemmas.List.{append_assoc, append-nil, length-map, map-append}
use Rattle.std.proofs.lemmas.Slice.Eq.{bytes_eq-Decides}
use Rattle.std.specs.Prelude.{None, Some, is_some, if◌then◌else◌}
use Rattle.std.specs.Str.{bytes_eq}
use Rattle.cal_imports.specs.Sources.{Source, imports_of, source_named}
use Rattle.cal_imports.specs.View.{new_source}
use Rattle.cal_files.specs.FileNames.{file_of}
use Rattle.cal_files.specs.Loading.{AreReadBehind, IsNextRead, Library, StopsAt, max_bytes, max_files, with_name}
use Rattle.cal_files.specs.Reads.{Read, Request, bytes_of, first_unread, import_requests, is_read, names_of, next_request, requests, requests_from, sources_from, sources_of, top_request}
use Rattle.cal_files.specs.SoFar.{AddsRead, HasRead, IsSoFar, IsWaiting, State, past_read}

-- ---- lists of files

plus_zero : (n : ℕ) → n ≡ n + 0
plus_zero n = omega arith

pub sources_join : (n : ℕ) (xs ys : List Read) → sources_from n (xs ++ ys) ≡ sources_from n xs ++ sources_from (n + length xs) ys
sources_join n [] ys = ap (λ k. sources_from k ys) (plus_zero n)
sources_join n (x ∷ xs) ys =
    let e : suc n + length xs ≡ n + length (x ∷ xs) = omega arith in
    ap (λ l. new_source x.class n x.tree ∷ l) (sources_join (suc n) xs ys ∙ ap (λ k. sources_from (suc n) xs ++ sources_from k ys) e)

pub requests_join : (n : ℕ) (xs ys : List Read) → requests_from n (xs ++ ys) ≡ requests_from n xs ++ requests_from (n + length xs) ys
requests_join n [] ys = ap (λ k. requests_from k ys) (plus_zero n)
requests_join n (x ∷ xs) ys =
    let e : suc n + length xs ≡ n + length (x ∷ xs) = omega arith in
    ap (λ l. import_requests n (imports_of x.tree) ++ l) (requests_join (suc n) xs ys ∙ ap (λ k. requests_from (suc n) xs ++ requests_from k ys) e)
    ∙ sym (append_assoc (import_requests n (imports_of x.tree)) (requests_from (suc n) xs) (requests_from (n + length (x ∷ xs)) ys))

one_more : (n : ℕ) → 1 + n ≡ suc n
one_more n = omega arith

pub sources_more : (done : List Read) (r : Read) → sources_of (done ++ r ∷ []) ≡ sources_of done ++ new_source r.class (suc (length done)) r.tree ∷ []
sources_more done r =
    sources_join 1 done (r ∷ []) ∙ ap (λ n. sources_of done ++ new_source r.class n r.tree ∷ []) (one_more (length done))

pub requests_more : (top : List ℕ) (done : List Read) (r : Read)
    → requests top (done ++ r ∷ []) ≡ requests top done ++ import_requests (suc (length done)) (imports_of r.tree)
requests_more top done r =
    ap (λ qs. top_request top ∷ qs) (requests_join 1 done (r ∷ [])
    ∙ ap (λ qs. requests_from 1 done ++ qs) (append-nil (import_requests (1 + length done) (imports_of r.tree))
    ∙ ap (λ n. import_requests n (imports_of r.tree)) (one_more (length done))))

pub names_more : (done : List Read) (r : Read) → names_of (done ++ r ∷ []) ≡ with_name r.class (names_of done)
names_more done r = map-append (λ x. file_of x.class) done (r ∷ [])

pub bytes_more : (done : List Read) (r : Read) → bytes_of (done ++ r ∷ []) ≡ bytes_of done + length r.text
bytes_more [] r = omega arith
bytes_more (x ∷ xs) r = let h = bytes_more xs r in omega arith

-- ---- classes that were read

pub found_stays : (c : List ℕ) (ss ts : List Source) → is_some (source_named c ss) ≡ true → is_some (source_named c (ss ++ ts)) ≡ true
found_stays c [] ts h = cc
found_stays c (s ∷ ss) ts h = go (bytes_eq c s.name) h (found_stays c ss ts)
  where
    go : (b : Bool) → is_some (if b then Some s else source_named c ss) ≡ true
        → (is_some (source_named c ss) ≡ true → is_some (source_named c (ss ++ ts)) ≡ true)
        → is_some (if b then Some s else source_named c (ss ++ ts)) ≡ true
    go true k rest = refl
    go false k rest = rest k

pub found_there : (s : Source) (ss ts : List Source) → is_some (source_named s.name (ss ++ s ∷ ts)) ≡ true
found_there s [] ts = ap (λ b. is_some (if b then Some s else source_named s.name ts)) ((bytes_eq-Decides s.name s.name).1 refl)
found_there s (x ∷ ss) ts = go (bytes_eq s.name x.name) (found_there s ss ts)
  where
    go : (b : Bool) → is_some (source_named s.name (ss ++ s ∷ ts)) ≡ true
        → is_some (if b then Some x else source_named s.name (ss ++ s ∷ ts)) ≡ true
    go true h = refl
    go false h = h

pub read_stays : (c : List ℕ) (done later : List Read) → is_read c done ≡ true → is_read c (done ++ later) ≡ true
read_stays c done later h =
    ap (λ ss. is_some (source_named c ss)) (sources_join 1 done later)
    ∙ found_stays c (sources_of done) (sources_from (1 + length done) later) h

pub read_there : (done : List Read) (r : Read) (later : List Read) → is_read r.class (done ++ r ∷ later) ≡ true
read_there done r later =
    ap (λ ss. is_some (source_named r.class ss)) (sources_join 1 done (r ∷ later))
    ∙ found_there (new_source r.class (1 + length done) r.tree) (sources_of done) (sources_from (suc (1 + length done)) later)

-- ---- requests that wait

pub past_unread : (done later : List Read) (ws more : List Request)
    → first_unread (done ++ later) (ws ++ more) ≡ first_unread (done ++ later) (past_read (sources_of done) ws ++ more)
past_unread done later [] more = refl
past_unread done later (q ∷ ws) more = go (is_read q.class done) (λ h. read_stays q.class done later h) (past_unread done later ws more)
  where
    go : (b : Bool) → (b ≡ true → is_read q.class (done ++ later) ≡ true)
        → first_unread (done ++ later) (ws ++ more) ≡ first_unread (done ++ later) (past_read (sources_of done) ws ++ more)
        → first_unread (done ++ later) (q ∷ (ws ++ more))
        ≡ first_unread (done ++ later) ((if b then past_read (sources_of done) ws else q ∷ ws) ++ more)
    go true there rest = ap (λ b. if b then first_unread (done ++ later) (ws ++ more) else Some q) (there refl) ∙ rest
    go false there rest = refl

-- those before the next one are passed over
pub waiting_past : (top : List ℕ) (done : List Read) (waiting rest : List Request) → IsWaiting top done waiting
    → past_read (sources_of done) waiting ≡ rest → IsWaiting top done rest
waiting_past top done waiting rest is e = record {
  same_next = λ later more. is.same_next later more ∙ past_unread done later waiting more
      ∙ ap (λ ws. first_unread (done ++ later) (ws ++ more)) e;
}

-- the next one is read, and its imports wait
pub waiting_read : (top : List ℕ) (done : List Read) (r : Read) (q : Request) (rest : List Request) → r.class ≡ q.class
    → IsWaiting top done (q ∷ rest)
    → IsWaiting top (done ++ r ∷ []) (rest ++ import_requests (suc (length done)) (imports_of r.tree))
waiting_read top done r q rest same is = record { same_next = λ later more. next later more }
  where
    asked : List Request
    asked = import_requests (suc (length done)) (imports_of r.tree)

    next : (later : List Read) (more : List Request)
        → first_unread ((done ++ r ∷ []) ++ later) (requests top (done ++ r ∷ []) ++ more)
        ≡ first_unread ((done ++ r ∷ []) ++ later) ((rest ++ asked) ++ more)
    next later more =
        ap (λ ds. first_unread ds (requests top (done ++ r ∷ []) ++ more)) (append_assoc done (r ∷ []) later)
        ∙ ap (λ qs. first_unread (done ++ r ∷ later) (qs ++ more)) (requests_more top done r)
        ∙ ap (λ qs. first_unread (done ++ r ∷ later) qs) (append_assoc (requests top done) asked more)
        ∙ is.same_next (r ∷ later) (asked ++ more)
        ∙ ap (λ b. if b then first_unread (done ++ r ∷ later) (rest ++ (asked ++ more)) else Some q)
        (subst (λ c. is_read c (done ++ r ∷ later) ≡ true) same (read_there done r later))
        ∙ ap (λ qs. first_unread (done ++ r ∷ later) qs) (sym (append_assoc rest asked more))
        ∙ ap (λ ds. first_unread ds ((rest ++ asked) ++ more)) (sym (append_assoc done (r ∷ []) later))

-- ---- what is next

pub next_waits : (top : List ℕ) (done : List Read) (ws : List Request) → IsWaiting top done ws → next_request top done ≡ first_unread done ws
next_waits top done ws is =
    ap (λ ds. first_unread ds (requests top done)) (sym (append-nil done))
    ∙ ap (λ qs. first_unread (done ++ []) qs) (sym (append-nil (requests top done)))
    ∙ is.same_next [] []
    ∙ ap (λ qs. first_unread (done ++ []) qs) (append-nil ws)
    ∙ ap (λ ds. first_unread ds ws) (append-nil done)

pub next_some : (top : List ℕ) (done : List Read) (q : Request) (rest : List Request) → IsWaiting top done (q ∷ rest)
    → source_named q.class (sources_of done) ≡ None → next_request top done ≡ Some q
next_some top done q rest is none =
    next_waits top done (q ∷ rest) is ∙ ap (λ o. if is_some o then first_unread done rest else Some q) none

-- ---- one file more

pub are_read_more : (library : Library) (top : List ℕ) (before xs : List Read) (r : Read) → AreReadBehind library top before xs
    → IsNextRead library top (before ++ xs) r → AreReadBehind library top before (xs ++ r ∷ [])
are_read_more library top before [] r h is = (subst (λ b. IsNextRead library top b r) (append-nil before) is, tt)
are_read_more library top before (x ∷ xs) r h is = (
  h.0,
  are_read_more library top (before ++ x ∷ []) xs r h.1
      (subst (λ b. IsNextRead library top b r) (sym (append_assoc before (x ∷ []) xs)) is),
)

-- how many names there are
pub count_names : (done : List Read) (names : List (List ℕ)) → names ≡ names_of done → length names ≡ length done
count_names done names e = ap length e ∙ length-map done (λ r. file_of r.class)

-- the request that is next, and those behind it
pub next_stops : (library : Library) (top : List ℕ) (done : List Read) (names : List (List ℕ)) (s : State) (q : Request) (rest : List Request)
    → IsSoFar library top done names s → past_read s.sources s.waiting ≡ q ∷ rest → source_named q.class s.sources ≡ None
    → StopsAt library top done q
next_stops library top done names s q rest is past none =
    let past_done : past_read (sources_of done) s.waiting ≡ q ∷ rest = subst (λ ss. past_read ss s.waiting ≡ q ∷ rest) is.sources_are past in
    let none_done : source_named q.class (sources_of done) ≡ None = subst (λ ss. source_named q.class ss ≡ None) is.sources_are none in
    record {
      are_read = is.are_read;
      is_next = next_some top done q rest (waiting_past top done s.waiting (q ∷ rest) is.is_waiting past_done) none_done;
    }

-- nothing is asked for any more
pub next_none : (library : Library) (top : List ℕ) (done : List Read) (names : List (List ℕ)) (s : State)
    → IsSoFar library top done names s → past_read s.sources s.waiting ≡ [] → next_request top done ≡ None
next_none library top done names s is past =
    let past_done : past_read (sources_of done) s.waiting ≡ [] = subst (λ ss. past_read ss s.waiting ≡ []) is.sources_are past in
    next_waits top done [] (waiting_past top done s.waiting [] is.is_waiting past_done)

-- the file of the next request was read
pub so_far_more : (library : Library) (top : List ℕ) (done : List Read) (names : List (List ℕ)) (s t new : State) (q : Request) (rest : List Request)
    → IsSoFar library top done names s → past_read s.sources s.waiting ≡ q ∷ rest → source_named q.class s.sources ≡ None
    → t.sources ≡ s.sources → t.bytes ≡ s.bytes → t.waiting ≡ rest
    → AddsRead (library (file_of q.class)) q.class names t new
    → HasRead library top (with_name q.class names) new
so_far_more library top done names s t new q rest is past none same_sources same_bytes waits a =
    let past_done : past_read (sources_of done) s.waiting ≡ q ∷ rest = subst (λ ss. past_read ss s.waiting ≡ q ∷ rest) is.sources_are past in
    let stops = next_stops library top done names s q rest is past none in
    let count : length names ≡ length done = count_names done names is.names_are in
    let few : suc (length done) ≤ max_files = subst (λ n. suc n ≤ max_files) count a.adds.few in
    let bytes : t.bytes ≡ bytes_of done = same_bytes ∙ is.bytes_are in
    let small : bytes_of done + length a.text ≤ max_bytes = subst (λ n. n + length a.text ≤ max_bytes) bytes a.adds.small in
    let r : Read = record { class = q.class; text = a.text; tree = a.adds.tree } in
    let summed : new.bytes ≡ bytes_of (done ++ r ∷ []) =
    a.adds.adds.bytes_are ∙ ap (λ n. n + length a.text) bytes ∙ sym (bytes_more done r) in
    record {
      done = done ++ r ∷ [];
      is_so_far = record {
        are_read = are_read_more library top [] done r is.are_read (record {
          request = q;
          is_next = stops.is_next;
          same_class = refl;
          is_text = a.is_text;
          is_file = a.adds.is_file;
          few = few;
          small = small;
        });
        sources_are = a.adds.adds.sources_are
            ∙ ap (λ ss. ss ++ new_source q.class (suc (length names)) a.adds.tree ∷ []) (same_sources ∙ is.sources_are)
            ∙ ap (λ n. sources_of done ++ new_source q.class (suc n) a.adds.tree ∷ []) count
            ∙ sym (sources_more done r);
        names_are = ap (with_name q.class) is.names_are ∙ sym (names_more done r);
        bytes_are = summed;
        few = let e : length (done ++ r ∷ []) ≡ suc (length done) = length_more done r in subst (λ n. n ≤ max_files) (sym e) few;
        small = subst (λ n. n ≤ max_bytes) (sym (a.adds.adds.bytes_are ∙ ap (λ n. n + length a.text) bytes)) small;
        is_waiting = subst (λ ws. IsWaiting top (done ++ r ∷ []) ws)
            (sym (a.adds.adds.waiting_are
            ∙ ap (λ ws. ws ++ import_requests (suc (length names)) (imports_of a.adds.tree)) waits
            ∙ ap (λ n. rest ++ import_requests (suc n) (imports_of a.adds.tree)) count))
            (waiting_read top done r q rest refl (waiting_past top done s.waiting (q ∷ rest) is.is_waiting past_done));
      };
    }
  where
    length_more : (xs : List Read) (x : Read) → length (xs ++ x ∷ []) ≡ suc (length xs)
    length_more [] x = refl
    length_more (y ∷ xs) x = ap suc (length_more xs x)

-- where a loading begins
pub begun : (library : Library) (top : List ℕ) (s : State) → s.sources ≡ [] → s.bytes ≡ 0 → s.waiting ≡ top_request top ∷ []
    → HasRead library top [] s
begun library top s no_sources no_bytes waits = record {
  done = [];
  is_so_far = record {
    are_read = tt;
    sources_are = no_sources;
    names_are = refl;
    bytes_are = no_bytes;
    few = omega arith;
    small = subst (λ n. n ≤ max_bytes) (sym no_bytes) (omega arith);
    is_waiting = subst (λ ws. IsWaiting top [] ws) (sym waits) (record { same_next = λ later more. refl });
  };
}
