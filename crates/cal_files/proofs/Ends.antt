-- How a loading goes on and ends, from what its steps say.
use Rattle.std.proofs.Common.{◌≡◌, ℕ, suc, ◌≤◌, inl, inr, List, [], ◌∷◌, length, refl, sym, ap, subst, ◌∙◌, arith}
use Rattle.std.specs.Prelude.{Option, None, Some, IsSome, is_some, if◌then◌else◌, Result, Ok, Err, IfOk, IfErr, IsErr, MatchResult}
use Rattle.rvc_base.specs.declared.refusal.Refusal.{Refusal}
use Rattle.rvc_io.specs.Count.{HasRisen}
use Rattle.rvc_io.specs.Told.{Told}
use Rattle.cal_imports.specs.Sources.{Source, source_named}
use Rattle.cal_files.specs.FileNames.{file_of}
use Rattle.cal_files.specs.Laws.{LoadedIsNotRefused, LoadingsAreOne}
use Rattle.cal_files.specs.Loading.{Counts, IsLoaded, IsRefused, Library, Refuses, TellsAll, breaks_rules, is_missing, is_too_long, is_too_much, with_name}
use Rattle.cal_files.specs.Reads.{Read, Request, bytes_of, first_unread, names_of, next_number, next_request, requests_from, sources_of, top_request}
use Rattle.cal_files.specs.SoFar.{AddsRead, HasRead, IsLoading, IsStopped, State, past_read}
use Rattle.cal_files.specs.Views.{HoldsFiles, HoldsLoaded, IsFault, IsOutside}
use Rattle.cal_files.specs.declared.fault.LoadFault.{LoadFault}
use Rattle.cal_files.specs.declared.fault.LoadFault.TheVariants.{Refused, ReadFault, Memory}
use Rattle.cal_files.proofs.Reading.{begun, count_names, next_none, next_stops, so_far_more}

-- a count that rose later rose since an earlier time
pub rose_since : (first old new : ℕ) → first ≤ old → HasRisen old new → HasRisen first new
rose_since first old new before (inl rose) = inl (omega arith)
rose_since first old new before (inr last) = inr last

refuses_since : (told : Told) (q : Request) (number bytes : ℕ) (first old new : ℕ) (names : List (List ℕ)) (refusal : Refusal) (found : List (List ℕ))
    → first ≤ old → Refuses told q number bytes (record { old = old; new = new }) names refusal found
    → Refuses told q number bytes (record { old = first; new = new }) names refusal found
refuses_since told q number bytes first old new names _ _ before (is_missing risen lacking) = is_missing (rose_since first old new before risen) lacking
refuses_since told q number bytes first old new names _ _ before (is_too_long long) = is_too_long long
refuses_since told q number bytes first old new names _ _ before (breaks_rules text rule at is breaks) = breaks_rules text rule at is breaks
refuses_since told q number bytes first old new names _ _ before (is_too_much text tree is is_file passes) = is_too_much text tree is is_file passes

-- nothing was read yet
pub loading_begun : (library : Library) (f m : ℕ) (top : List ℕ) (names : List (List ℕ)) (s : State) → names ≡ []
    → s.sources ≡ [] → s.bytes ≡ 0 → s.waiting ≡ top_request top ∷ [] → IsLoading library library f f m m top names s
loading_begun library f m top names s none no_sources no_bytes waits = record {
  has_read = subst (λ ns. HasRead library top ns s) (sym none) (begun library top s no_sources no_bytes waits);
  same_files = λ other. refl;
  faults_stay = same f;
  misses_stay = same m;
}
  where
    same : (n : ℕ) → n ≤ n
    same n = omega arith

-- one file more was read
pub loading_more : (old now later : Library) (fo f g mo m n : ℕ) (top : List ℕ) (names found : List (List ℕ)) (s t new : State) (q : Request) (rest : List Request)
    → IsLoading old now fo f mo m top names s → past_read s.sources s.waiting ≡ q ∷ rest → source_named q.class s.sources ≡ None
    → t.sources ≡ s.sources → t.bytes ≡ s.bytes → t.waiting ≡ rest
    → AddsRead (now (file_of q.class)) q.class names t new → found ≡ with_name q.class names
    → ((other : List ℕ) → later other ≡ now other) → f ≤ g → m ≤ n
    → IsLoading old later fo g mo n top found new
loading_more old now later fo f g mo m n top names found s t new q rest is past none same_sources same_bytes waits adds named same fg mn = record {
  has_read = subst (λ ns. HasRead old top ns new) (sym named)
      (so_far_more old top is.has_read.done names s t new q rest is.has_read.is_so_far past none same_sources same_bytes waits
      (subst (λ told. AddsRead told q.class names t new) (is.same_files (file_of q.class)) adds));
  same_files = λ other. same other ∙ is.same_files other;
  faults_stay = chain fo f g is.faults_stay fg;
  misses_stay = chain mo m n is.misses_stay mn;
}
  where
    chain : (a b c : ℕ) → a ≤ b → b ≤ c → a ≤ c
    chain a b c h k = omega arith

-- the next file isn't read
pub loading_stopped : (old now : Library) (fo f g mo m n : ℕ) (top : List ℕ) (names found : List (List ℕ)) (s : State) (q : Request) (rest : List Request)
    (number bytes : ℕ) (fault : LoadFault)
    → IsLoading old now fo f mo m top names s → past_read s.sources s.waiting ≡ q ∷ rest → source_named q.class s.sources ≡ None
    → number ≡ suc (length names) → bytes ≡ s.bytes
    → IsStopped (record { told = now (file_of q.class); request = q; number = number; bytes = bytes; names = names })
    (record { old = m; new = n }) (record { old = f; new = g }) found fault
    → IsFault old top (record { old = mo; new = n }) (record { old = fo; new = g }) found fault
loading_stopped old now fo f g mo m n top names found s q rest number bytes (Refused refusal) is past none numbered counted h =
    let far = is.has_read.is_so_far in
    let done = is.has_read.done in
    let number_is : number ≡ next_number done = numbered ∙ ap suc (count_names done names far.names_are) in
    let bytes_are : bytes ≡ bytes_of done = counted ∙ far.bytes_are in
    let since : Refuses (now (file_of q.class)) q number bytes (record { old = mo; new = n }) names refusal found =
    refuses_since (now (file_of q.class)) q number bytes mo m n names refusal found is.misses_stay h in
    record {
      reads = done;
      request = q;
      stops = next_stops old top done names s q rest far past none;
      refuses = subst (λ told. Refuses told q (next_number done) (bytes_of done) (record { old = mo; new = n }) (names_of done) refusal found) (is.same_files (file_of q.class))
          (subst (λ k. Refuses (now (file_of q.class)) q k (bytes_of done) (record { old = mo; new = n }) (names_of done) refusal found) number_is
          (subst (λ k. Refuses (now (file_of q.class)) q number k (record { old = mo; new = n }) (names_of done) refusal found) bytes_are
          (subst (λ ns. Refuses (now (file_of q.class)) q number bytes (record { old = mo; new = n }) ns refusal found) far.names_are since)));
    }
loading_stopped old now fo f g mo m n top names found s q rest number bytes (ReadFault file) is past none numbered counted h =
    let far = is.has_read.is_so_far in
    let done = is.has_read.done in (
      rose_since fo f g is.faults_stay h.0,
      record {
        reads = done;
        request = q;
        stops = next_stops old top done names s q rest far past none;
        file_is = h.1 ∙ numbered ∙ ap suc (count_names done names far.names_are);
        names_are = h.2 ∙ ap (with_name q.class) far.names_are;
      },
    )
loading_stopped old now fo f g mo m n top names found s q rest number bytes Memory is past none numbered counted h = tt

-- nothing more is asked for
pub loading_ends : (old now : Library) (fo f mo m : ℕ) (top : List ℕ) (names : List (List ℕ)) (s : State)
    → IsLoading old now fo f mo m top names s → past_read s.sources s.waiting ≡ [] → HoldsLoaded old top s.sources names
loading_ends old now fo f mo m top names s is past =
    let far = is.has_read.is_so_far in
    record {
      reads = is.has_read.done;
      is_loaded = record { are_read = far.are_read; whole = next_none old top is.has_read.done names s far past };
      holds = record { sources_are = far.sources_are; names_are = far.names_are };
    }

-- ---- what the public call adds

pub top_there : (top : List ℕ) (reads : List Read) → next_request top reads ≡ None → IsSome (source_named top (sources_of reads))
top_there top reads h = go (source_named top (sources_of reads)) h
  where
    go : (o : Option Source) → (if is_some o then first_unread reads (requests_from 1 reads) else Some (top_request top)) ≡ None → IsSome o
    go None k = absurd (let e = k in cc)
    go (Some s) k = refl

pub top_loaded : {S : Type 0} (view : S → List Source) (r : Result S LoadFault) (library : Library) (top : List ℕ) (names : List (List ℕ))
    → IfOk r (λ set. HoldsLoaded library top (view set) names) → IfOk r (λ set. IsSome (source_named top (view set)))
top_loaded view (Ok set) library top names h =
    subst (λ ss. IsSome (source_named top ss)) (sym h.holds.sources_are) (top_there top h.reads h.is_loaded.whole)
top_loaded view (Err f) library top names h = tt

pub loads_all : {S : Type 0} (view : S → List Source) (r : Result S LoadFault) (library : Library) (top : List ℕ) (misses faults : Counts) (names : List (List ℕ))
    (reads : List Read) → LoadingsAreOne → LoadedIsNotRefused → TellsAll library → IsLoaded library top reads
    → IfOk r (λ set. HoldsLoaded library top (view set) names) → IfErr r (IsFault library top misses faults names)
    → MatchResult r (λ set. HoldsFiles reads (view set) names) IsOutside
loads_all view (Ok set) library top misses faults names reads one outcome tells is h k =
    let same : h.reads ≡ reads = one library top h.reads reads tells h.is_loaded is in
    subst (λ rs. HoldsFiles rs (view set) names) same h.holds
loads_all view (Err (Refused refusal)) library top misses faults names reads one outcome tells is h k =
    absurd (outcome library top reads misses refusal names tells is k)
loads_all view (Err (ReadFault file)) library top misses faults names reads one outcome tells is h k = tt
loads_all view (Err Memory) library top misses faults names reads one outcome tells is h k = tt

pub loads_none : {S : Type 0} (view : S → List Source) (r : Result S LoadFault) (library : Library) (top : List ℕ) (names : List (List ℕ))
    (misses : Counts) (refusal : Refusal) (found : List (List ℕ)) → LoadedIsNotRefused → TellsAll library
    → IsRefused library top misses refusal found → IfOk r (λ set. HoldsLoaded library top (view set) names) → IsErr r
loads_none view (Ok set) library top names misses refusal found outcome tells is h =
    absurd (outcome library top h.reads misses refusal found tells h.is_loaded is)
loads_none view (Err f) library top names misses refusal found outcome tells is h = refl
