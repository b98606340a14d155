-- The files of an actor are those that it needs as the top of a network.
use Rattle.std.proofs.Common.{◌≡◌, ℕ, suc, ◌+◌, ◌≤◌, Bool, true, false, ◌&&◌, ◌||◌, List, [], ◌∷◌, ◌++◌, length, map, Option, Some, option_map, is_some, refl, sym, ap, subst, ◌∙◌}
use Rattle.std.specs.Prelude.{if◌then◌else◌}
use Rattle.std.specs.Str.{bytes_eq}
use Rattle.std.proofs.lemmas.List.{map-append, length-map}
use Rattle.cal_imports.specs.Sources.{Source, imports_of, source_named}
use Rattle.cal_imports.specs.View.{new_source}
use Rattle.cal_imports.specs.Walk.{Edge}
use Rattle.cal_imports.specs.Whole.{import_edges}
use Rattle.cal_files.specs.FileNames.{file_of}
use Rattle.cal_files.specs.FileText.{IsText}
use Rattle.cal_files.specs.Loading as loading
use Rattle.cal_files.specs.Loading.{Library, max_bytes, max_files}
use Rattle.cal_files.specs.Reads as reading
use Rattle.cal_files.specs.Reads.{Request, import_request, import_requests, next_request, requests_from, sources_of}
use Rattle.fnl_bind.specs.Library.{Entry}
use Rattle.fnl_source.specs.Source.{Files}
use Rattle.fnl_source.specs.Files.{Asked, an_actor, Choice, Wanted, says_source, is_read, asked_by_import, asked_by_all, first_unread, next_wanted, bytes_of, IsNextRead, AreReadBehind, networks_from, sources_from}
use Rattle.fnl_source.specs.Library.{as_read, ActorFilesAreLoaded, ActorFilesAreSources}
use Rattle.fnl_source.proofs.Choices.{choice_by, choice_fits}

abbrev as_asked : Request → Asked
as_asked q = an_actor q.class

abbrev as_wanted : Request → Wanted
as_wanted q = record { class = q.class; network = false }

-- ---- what is asked for

read_or_not : (t x : Bool) (o : Option Source) (s : Source) → x ≡ is_some o → ((t && true) || x) ≡ is_some (if t then Some s else o)
read_or_not true x o s e = refl
read_or_not false x o s e = e

same_read : (class : List ℕ) (n : ℕ) (rs : List reading.Read) → is_read (record { class = class; network = false }) (map as_read rs) ≡ is_some (source_named class (reading.sources_from n rs))
same_read class n [] = refl
same_read class n (r ∷ rs) =
    read_or_not (bytes_eq class r.class) (is_read (record { class = class; network = false }) (map as_read rs)) (source_named class (reading.sources_from (suc n) rs))
    (new_source r.class n r.tree) (same_read class (suc n) rs)

first_or_not : (t u : Bool) (w : Wanted) (q : Request) (o : Option Wanted) (p : Option Request) → t ≡ u → w ≡ as_wanted q → o ≡ option_map as_wanted p
    → (if t then o else Some w) ≡ option_map as_wanted (if u then p else Some q)
first_or_not true true w q o p same e h = h
first_or_not false false w q o p same e h = ap Some e
first_or_not true false w q o p same e h = absurd cc
first_or_not false true w q o p same e h = absurd cc

same_first : (choice : Choice) (rs : List reading.Read) (qs : List Request) → first_unread choice (map as_read rs) (map as_asked qs) ≡ option_map as_wanted (reading.first_unread rs qs)
same_first choice rs [] = refl
same_first choice rs (q ∷ qs) =
    first_or_not (is_read (as_wanted q) (map as_read rs)) (reading.is_read q.class rs) (as_wanted q) q (first_unread choice (map as_read rs) (map as_asked qs)) (reading.first_unread rs qs)
    (same_read q.class 1 rs) refl (same_first choice rs qs)

same_imports : (n : ℕ) (es : List Edge) → map asked_by_import es ≡ map as_asked (map (import_request n) es)
same_imports n [] = refl
same_imports n (e ∷ es) = ap (λ zs. an_actor e.to ∷ zs) (same_imports n es)

same_asked : (n : ℕ) (rs : List reading.Read) → asked_by_all (map as_read rs) ≡ map as_asked (requests_from n rs)
same_asked n [] = refl
same_asked n (r ∷ rs) =
    ap (λ zs. zs ++ asked_by_all (map as_read rs)) (same_imports n (import_edges (imports_of r.tree)))
    ∙ ap (λ zs. map as_asked (import_requests n (imports_of r.tree)) ++ zs) (same_asked (suc n) rs)
    ∙ sym (map-append as_asked (import_requests n (imports_of r.tree)) (requests_from (suc n) rs))

same_next : (choice : Choice) (top : List ℕ) (rs : List reading.Read) → next_wanted choice (an_actor top) (map as_read rs) ≡ option_map as_wanted (next_request top rs)
same_next choice top rs =
    ap (λ zs. first_unread choice (map as_read rs) (an_actor top ∷ zs)) (same_asked 1 rs)
    ∙ same_first choice rs (reading.requests top rs)

same_bytes : (rs : List reading.Read) → bytes_of (map as_read rs) ≡ reading.bytes_of rs
same_bytes [] = refl
same_bytes (r ∷ rs) = ap (λ n. length r.text + n) (same_bytes rs)

-- ---- what is read

next_is_read : (library : Library) (choice : Choice) (top : List ℕ) (before : List reading.Read) (r : reading.Read) → loading.IsNextRead library top before r
    → IsNextRead library choice (an_actor top) (map as_read before) (as_read r)
next_is_read library choice top before r x = record {
  want = as_wanted x.request;
  is_next = same_next choice top before ∙ ap (option_map as_wanted) x.is_next;
  same_class = x.same_class;
  is_text = subst (λ c. IsText (library (file_of c)) r.text) x.same_class x.is_text;
  says = says_source x.is_file;
  few = subst (λ n. suc n ≤ max_files) (sym (length-map before as_read)) x.few;
  small = subst (λ n. n + length r.text ≤ max_bytes) (sym (same_bytes before)) x.small;
}

behind_are_read : (library : Library) (choice : Choice) (top : List ℕ) (before rs : List reading.Read) → loading.AreReadBehind library top before rs
    → AreReadBehind library choice (an_actor top) (map as_read before) (map as_read rs)
behind_are_read library choice top before [] x = tt
behind_are_read library choice top before (r ∷ rs) x = (
  next_is_read library choice top before r x.0,
  subst (λ b. AreReadBehind library choice (an_actor top) b (map as_read rs)) (map-append as_read before (r ∷ [])) (behind_are_read library choice top (before ++ r ∷ []) rs x.1),
)

-- an actor asks for no class that may be either, so any choice will do that fits
pub files_are_loaded : ActorFilesAreLoaded
files_are_loaded library top rs x = record {
  choice = choice_by library (λ class. false);
  fits = choice_fits library (λ class. false);
  are_read = behind_are_read library (choice_by library (λ class. false)) top [] rs x.are_read;
  whole = same_next (choice_by library (λ class. false)) top rs ∙ ap (option_map as_wanted) x.whole;
}

-- ---- the files by their classes

no_networks : (n : ℕ) (rs : List reading.Read) → networks_from n (map as_read rs) ≡ []
no_networks n [] = refl
no_networks n (r ∷ rs) = no_networks (suc n) rs

same_sources : (n : ℕ) (rs : List reading.Read) → sources_from n (map as_read rs) ≡ reading.sources_from n rs
same_sources n [] = refl
same_sources n (r ∷ rs) = ap (λ ss. new_source r.class n r.tree ∷ ss) (same_sources (suc n) rs)

abbrev with_both : List Entry → List Source → Files
with_both ns ss = record { networks = ns; sources = ss }

files_with : (ns ms : List Entry) (ss ts : List Source) → ns ≡ ms → ss ≡ ts → with_both ns ss ≡ with_both ms ts
files_with ns ms ss ts e f = ap (λ xs. with_both xs ss) e ∙ ap (with_both ms) f

pub files_are_sources : ActorFilesAreSources
files_are_sources rs = files_with (networks_from 1 (map as_read rs)) [] (sources_from 1 (map as_read rs)) (sources_of rs) (no_networks 1 rs) (same_sources 1 rs)
