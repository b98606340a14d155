-- How a loading goes on and ends, from what its steps say.
use Rattle.std.proofs.Common.{◌≡◌, ℕ, suc, ◌-◌, ◌≤◌, ◌<◌, true, false, List, [], ◌∷◌, ◌++◌, length, refl, sym, ap, subst, ◌∙◌, arith}
use Rattle.std.specs.Prelude.{Result, Ok, Err, IfOk, IfErr, IsErr, MatchResult}
use Rattle.rvc_base.specs.declared.refusal.Refusal.{Refusal}
use Rattle.rvc_io.specs.Count.{HasRisen}
use Rattle.cal_scope.specs.Names.{is_among}
use Rattle.cal_files.specs.Loading.{Counts, Library, TellsAll, max_bytes, max_files}
use Rattle.cal_files.specs.Views.{IsOutside}
use Rattle.cal_files.specs.declared.fault.LoadFault.{LoadFault}
use Rattle.cal_files.specs.declared.fault.LoadFault.TheVariants.{Refused, ReadFault, Memory}
use Rattle.fnl_source.specs.Files.{AreLoaded, Asked, Read, Wanted, files_of}
use Rattle.fnl_source.specs.Library.{FilesAreOne}
use Rattle.fnl_source.specs.Source.{Files}
use Rattle.fnl_files.specs.Laws.{LoadedIsNotRefused}
use Rattle.fnl_files.specs.Loading.{IsRefused}
use Rattle.fnl_files.specs.Requests.{Request}
use Rattle.fnl_files.specs.SoFar.{Denies, Fails, GoesOn, GoesWrong, Halts, HasRead, IsBegun, IsLoading, IsSoFar, Means, Seen, State, Takes, means_actor, means_known, means_missed, means_network, means_other, means_there, seen, trial_of}
use Rattle.fnl_files.specs.Views.{HoldsFiles, HoldsLoaded, IsFault}
use Rattle.fnl_files.proofs.Lists.{count_names}
use Rattle.fnl_files.proofs.Progress.{begun, behind, ends, ends_tried, faulted, none_missed, refused, so_far_more, so_far_passed}
use Rattle.fnl_files.proofs.Taken.{denied_since, failed_since, rose_since, rose_until}

since : (a b c : ℕ) → a ≤ b → b ≤ c → a ≤ c
since a b c h k = omega arith

pub at_least : {a b c : ℕ} → a ≤ b → b ≤ c → a ≤ c
at_least {a = a} {b = b} {c = c} h k = since a b c h k

itself : (n : ℕ) → n ≤ n
itself n = omega arith

pub goes_none : (a : Seen) → GoesOn a a
goes_none a = λ library faults misses top h. h

-- what was missed before, or is now, was counted
tried_known : (library : Library) (misses old new : ℕ) (s known : State) (asked : Asked) (w : Wanted) → misses ≤ old → old ≤ new
    → Means library (record { old = old; new = new }) s asked w known
    → ((class : List ℕ) → is_among class s.missed ≡ true → HasRisen misses old)
    → (class : List ℕ) → is_among class known.missed ≡ true → HasRisen misses new
tried_known library misses old new s _ _ _ before after (means_network class) tried c h = rose_until misses old new after (tried c h)
tried_known library misses old new s _ _ _ before after (means_actor class) tried c h = rose_until misses old new after (tried c h)
tried_known library misses old new s _ _ _ before after (means_missed class m) tried c h = rose_until misses old new after (tried c h)
tried_known library misses old new s _ _ _ before after (means_known class m k) tried c h = rose_until misses old new after (tried c h)
tried_known library misses old new s _ _ _ before after (means_there class m k) tried c h = rose_until misses old new after (tried c h)
tried_known library misses old new s _ _ _ before after (means_other class none risen k) tried c h = rose_since misses old new before risen

abbrev since_then : (b c : Seen) → Counts
since_then b c = record { old = b.misses; new = c.misses }

-- the file of the first request was read before
pub passes : (a b c : Seen) (q : Request) (rest : List Request) → GoesOn a b → b.state.waiting ≡ q ∷ rest
    → Takes b.files q (since_then b c) b.names c.names (behind b.state rest) c.state false
    → ((other : List ℕ) → c.files other ≡ b.files other) → b.faults ≤ c.faults → b.misses ≤ c.misses → GoesOn a c
passes a b c q rest on waits takes same fs ms = λ library faults misses top h.
    let k = on library faults misses top h in
    let files : b.files ≡ library = λ i other. k.same_files other i in
    let means : Means library (since_then b c) (behind b.state rest) q.asked takes.want takes.known =
    subst (λ l. Means l (since_then b c) (behind b.state rest) q.asked takes.want takes.known) files takes.means in
    record {
      has_read = record {
        done = k.has_read.done;
        is_so_far = subst (λ ns. IsSoFar library top k.has_read.done ns c.state) (sym takes.taken.names_are)
            (subst (λ t. IsSoFar library top k.has_read.done b.names t) (sym takes.taken.same)
            (so_far_passed library top k.has_read.done b.names b.state q rest k.has_read.is_so_far waits (since_then b c) takes.want takes.known means takes.taken.there));
      };
      tried = subst (λ t. (class : List ℕ) → is_among class t.missed ≡ true → HasRisen misses c.misses) (sym takes.taken.same)
          (tried_known library misses b.misses c.misses (behind b.state rest) takes.known q.asked takes.want k.misses_stay ms means k.tried);
      same_files = λ other. same other ∙ k.same_files other;
      faults_stay = since faults b.faults c.faults k.faults_stay fs;
      misses_stay = since misses b.misses c.misses k.misses_stay ms;
    }

-- .. is read now
pub reads : (a b c : Seen) (q : Request) (rest : List Request) → GoesOn a b → b.state.waiting ≡ q ∷ rest
    → Takes b.files q (since_then b c) b.names c.names (behind b.state rest) c.state true
    → ((other : List ℕ) → c.files other ≡ b.files other) → b.faults ≤ c.faults → b.misses ≤ c.misses → GoesOn a c
reads a b c q rest on waits takes same fs ms = λ library faults misses top h.
    let k = on library faults misses top h in
    let files : b.files ≡ library = λ i other. k.same_files other i in
    let moved : Takes library q (since_then b c) b.names c.names (behind b.state rest) c.state true =
    subst (λ l. Takes l q (since_then b c) b.names c.names (behind b.state rest) c.state true) files takes in
    record {
      has_read = so_far_more library top k.has_read.done b.names b.state q rest k.has_read.is_so_far waits (since_then b c) moved.want moved.known moved.means
          c.names c.state moved.taken.unread moved.taken.adds;
      tried = subst (λ missed. (class : List ℕ) → is_among class missed ≡ true → HasRisen misses c.misses) (sym moved.taken.adds.adds.adds.missed_are)
          (tried_known library misses b.misses c.misses (behind b.state rest) moved.known q.asked moved.want k.misses_stay ms moved.means k.tried);
      same_files = λ other. same other ∙ k.same_files other;
      faults_stay = since faults b.faults c.faults k.faults_stay fs;
      misses_stay = since misses b.misses c.misses k.misses_stay ms;
    }

-- .. which is one more
pub reads_one : (a b c : Seen) (q : Request) (rest : List Request) → b.names ≡ a.names
    → Takes b.files q (since_then b c) b.names c.names (behind b.state rest) c.state true
    → length c.names ≡ suc (length a.names)
reads_one a b c q rest same takes = ap length takes.taken.adds.names_are ∙ one_more b.names _ ∙ ap (λ ns. suc (length ns)) same
  where
    one_more : {A : Type 0} (xs : List A) (x : A) → length (xs ++ x ∷ []) ≡ suc (length xs)
    one_more [] x = refl
    one_more (y ∷ xs) x = ap suc (one_more xs x)

-- .. can't be read
pub halts : (a b c : Seen) (q : Request) (rest : List Request) (fault : LoadFault) → GoesOn a b → b.state.waiting ≡ q ∷ rest
    → b.misses ≤ c.misses → Halts b.files q (since_then b c) (record { old = b.faults; new = c.faults }) b.names c.names (behind b.state rest) fault
    → GoesWrong a c fault
halts a b c q rest (Refused refusal) on waits ms h = λ library faults misses top start.
    let k = on library faults misses top start in
    let files : b.files ≡ library = λ i other. k.same_files other i in
    let d : Denies library q (since_then b c) b.names c.names (behind b.state rest) refusal =
    subst (λ l. Denies l q (since_then b c) b.names c.names (behind b.state rest) refusal) files h in
    refused library top k.has_read.done b.names b.state q rest k.has_read.is_so_far waits (since_then b c) d.want d.known d.means
    (record { old = misses; new = c.misses }) c.names refusal d.unread
    (denied_since (trial_of library d.want b.names) q.missing b.state.bytes misses b.misses c.misses c.names refusal k.misses_stay d.denied)
halts a b c q rest (ReadFault file) on waits ms h = λ library faults misses top start.
    let k = on library faults misses top start in
    let files : b.files ≡ library = λ i other. k.same_files other i in
    let d : Fails library q (since_then b c) (record { old = b.faults; new = c.faults }) b.names c.names (behind b.state rest) file =
    subst (λ l. Fails l q (since_then b c) (record { old = b.faults; new = c.faults }) b.names c.names (behind b.state rest) file) files h in
    let failed = failed_since (trial_of library d.want b.names) faults b.faults c.faults c.names file k.faults_stay d.failed in (
      failed.risen,
      faulted library top k.has_read.done b.names b.state q rest k.has_read.is_so_far waits (since_then b c) (record { old = b.faults; new = c.faults })
          (record { old = misses; new = c.misses }) c.names file (λ class m. rose_until misses b.misses c.misses ms (k.tried class m))
          (rose_since misses b.misses c.misses k.misses_stay) d,
    )
halts a b c q rest Memory on waits ms h = λ library faults misses top start. tt

-- ---- from the start

pub starts : (library : Library) (faults misses : ℕ) (names : List (List ℕ)) (top : Asked) (s : State) → names ≡ [] → IsBegun top s
    → IsLoading library faults misses top (seen library faults misses names s)
starts library faults misses names top s none h = record {
  has_read = subst (λ ns. HasRead library top ns s) (sym none) (begun library top s h);
  tried = λ class k. absurd (none_missed s.missed h.missed_are class k);
  same_files = λ other. refl;
  faults_stay = itself faults;
  misses_stay = itself misses;
}

-- how many names there are, and how many bytes
pub few_names : (library : Library) (faults misses : ℕ) (top : Asked) (b : Seen) → IsLoading library faults misses top b → length b.names ≤ max_files
few_names library faults misses top b h =
    subst (λ n. n ≤ max_files) (sym (count_names h.has_read.done b.names h.has_read.is_so_far.names_are)) h.has_read.is_so_far.few

pub few_bytes : (library : Library) (faults misses : ℕ) (top : Asked) (b : Seen) → IsLoading library faults misses top b → b.state.bytes ≤ max_bytes
few_bytes library faults misses top b h = h.has_read.is_so_far.small

-- .. so fewer can still be read
pub shrinks : (old new : ℕ) → new ≡ suc old → new ≤ max_files → max_files - new < max_files - old
shrinks old new e h = omega arith

files_with : (networks_of : State) (reads : List Read) (library : Library) (top : Asked) (names : List (List ℕ)) → IsSoFar library top reads names networks_of
    → record { networks = networks_of.networks; sources = networks_of.sources } ≡ files_of reads
files_with s reads library top names h = λ i. record { networks = h.networks_are i; sources = h.sources_are i }

-- nothing more is asked for
pub loads : (library : Library) (faults misses : ℕ) (top : Asked) (b : Seen) → IsLoading library faults misses top b → b.state.waiting ≡ []
    → HoldsLoaded library top (record { old = misses; new = b.misses }) (record { networks = b.state.networks; sources = b.state.sources }) b.names
loads library faults misses top b h none = record {
  reads = h.has_read.done;
  are_loaded = ends library top h.has_read.done b.names b.state h.has_read.is_so_far none;
  are_tried = ends_tried library top h.has_read.done b.names b.state h.has_read.is_so_far none (record { old = misses; new = b.misses }) h.tried;
  holds = record {
    files_are = files_with b.state h.has_read.done library top b.names h.has_read.is_so_far;
    names_are = h.has_read.is_so_far.names_are;
  };
}

-- ---- what the public call adds

pub loads_all : {S : Type 0} (view : S → Files) (r : Result S LoadFault) (library : Library) (top : Asked) (misses faults : Counts) (names : List (List ℕ))
    (reads : List Read) → FilesAreOne → LoadedIsNotRefused → TellsAll library → AreLoaded library top reads
    → IfOk r (λ set. HoldsLoaded library top misses (view set) names) → IfErr r (IsFault library top misses faults names)
    → MatchResult r (λ set. HoldsFiles reads (view set) names) IsOutside
loads_all view (Ok set) library top misses faults names reads one outcome tells is h k =
    subst (λ rs. HoldsFiles rs (view set) names) (one library top h.reads reads tells h.are_loaded is) h.holds
loads_all view (Err (Refused refusal)) library top misses faults names reads one outcome tells is h k =
    absurd (outcome library top reads misses refusal names tells is k)
loads_all view (Err (ReadFault file)) library top misses faults names reads one outcome tells is h k = tt
loads_all view (Err Memory) library top misses faults names reads one outcome tells is h k = tt

pub loads_none : {S : Type 0} (view : S → Files) (r : Result S LoadFault) (library : Library) (top : Asked) (now : Counts) (names : List (List ℕ))
    (misses : Counts) (refusal : Refusal) (found : List (List ℕ)) → LoadedIsNotRefused → TellsAll library
    → IsRefused library top misses refusal found → IfOk r (λ set. HoldsLoaded library top now (view set) names) → IsErr r
loads_none view (Ok set) library top now names misses refusal found outcome tells is h =
    absurd (outcome library top h.reads misses refusal found tells h.are_loaded is)
loads_none view (Err f) library top now names misses refusal found outcome tells is h = refl
