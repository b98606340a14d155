-- A loading so far.
-- Not trusted: no promise is read with it.
use Rattle.std.specs.Prelude.{◌≡◌, ◌≤◌, ◌+◌, ℕ, suc, Bool, true, false, List, [], ◌∷◌, ◌++◌, length, map, string_bytes, Option, None, Some, is_some, if◌then◌else◌}
use Rattle.std.specs.declared.alloc.Global.{Global as Heap}
use Rattle.std.specs.declared.collections.VecDeque.{VecDeque}
use Rattle.std.specs.declared.result.Result.{Result}
use Rattle.std.specs.declared.result.Result.TheVariants.{Ok, Err}
use Rattle.rvc_base.specs.declared.refusal.Refusal.{Refusal}
use Rattle.rvc_io.specs.Count.{HasRisen}
use Rattle.rvc_io.specs.Told.{Told, Untold, Lacking, Holding, IsLacking}
use Rattle.cal_imports.specs.Sources.{Source, source_named}
use Rattle.cal_imports.specs.View.{sources}
use Rattle.cal_scope.specs.Names.{is_among, with_name as with_class}
use Rattle.cal_files.specs.FileText.{IsText}
use Rattle.cal_files.specs.Loading.{Counts, Library, max_bytes, max_files}
use Rattle.cal_files.specs.declared.fault.LoadFault.{LoadFault}
use Rattle.cal_files.specs.declared.fault.LoadFault.TheVariants.{Refused, ReadFault, Memory}
use Rattle.fnl_bind.specs.Library.{Entry, network_of}
use Rattle.fnl_bind.specs.View.{networks}
use Rattle.fnl_source.specs.Files.{AreReadBehind, Asked, Choice, Content, Read, Says, Wanted, a_class, a_network, an_actor, bytes_of, is_read, name_of, network_file, networks_from, networks_in, sources_from, sources_in}
use Rattle.fnl_files.specs.Loading.{RefusesFile, RefusesText}
use Rattle.fnl_files.specs.Requests as plain
use Rattle.fnl_files.specs.Requests.{AreAllRead, names_of, requests, requests_by}
use Rattle.fnl_files.specs.Views.{IsFault, asked_of}
use Rattle.fnl_files.specs.declared.loading.Loading.{Loading}
use Rattle.fnl_files.specs.declared.requests.Request.{Request}

abbrev pub request_of : Request → plain.Request
request_of q = record { asked = asked_of (string_bytes q.class) q.kind; missing = q.missing }

abbrev pub waiting_of : VecDeque Request Heap → List plain.Request
waiting_of waiting = map request_of waiting.items

-- the files, how many bytes they have, the classes of which no network was found, and the requests that weren't looked at
pub record State : Type 0 where
  pub networks : List Entry
  pub sources : List Source
  pub bytes : ℕ
  pub missed : List (List ℕ)
  pub waiting : List plain.Request

abbrev pub state_of : Loading → State
state_of l = record {
  networks = networks l.files.networks;
  sources = sources l.files.sources;
  bytes = l.bytes;
  missed = l.missed;
  waiting = waiting_of l.waiting;
}

-- no network of the class was found
abbrev pub with_missed : (class : List ℕ) → State → State
with_missed class s = record {
  networks = s.networks;
  sources = s.sources;
  bytes = s.bytes;
  missed = with_class class s.missed;
  waiting = s.waiting;
}

-- the file that is wanted is there
abbrev pub has : Wanted → List Entry → List Source → Bool
has w nets files =
    if w.network then is_some (network_of w.class nets) else is_some (source_named w.class files)

-- ---- one text

-- what a text says was added, as the file that is wanted, under this number
pub record AddsFile (w : Wanted) (number : ℕ) (text : List ℕ) (content : Content) (old new : State) : Type 0 where
  pub networks_are : new.networks ≡ old.networks ++ networks_in w.class number content
  pub sources_are : new.sources ≡ old.sources ++ sources_in w.class number content
  pub bytes_are : new.bytes ≡ old.bytes + length text
  pub missed_are : new.missed ≡ old.missed
  pub waiting_are : new.waiting ≡ old.waiting ++ requests_by number content

-- .. which is within the limits
pub record AddsText (w : Wanted) (number : ℕ) (text : List ℕ) (old new : State) : Type 0 where
  pub content : Content
  pub says : Says text w.network content
  pub few : number ≤ max_files
  pub small : old.bytes + length text ≤ max_bytes
  pub adds : AddsFile w number text content old new

-- why a text isn't added
abbrev pub IsBroken : (text : List ℕ) → (network : Bool) → (number bytes : ℕ) → LoadFault → Type 0
IsBroken text network number bytes (Refused refusal) =
    RefusesText text network number bytes refusal
IsBroken text network number bytes (ReadFault file) = ⊥
IsBroken text network number bytes Memory = Unit {0}

-- ---- one file

-- the file that is wanted, what is told of it, and the names of the files before it
pub record Trial : Type 0 where
  pub told : Told
  pub want : Wanted
  pub names : List (List ℕ)

abbrev pub number_of : Trial → ℕ
number_of t = suc (length t.names)

abbrev pub with_name : Trial → List (List ℕ)
with_name t = t.names ++ name_of t.want ∷ []

-- its text was found, or it is missing
abbrev pub IsFound : Trial → (misses : Counts) → (names : List (List ℕ)) → Option (List ℕ) → Type 0
IsFound t misses names (Some text) = IsText t.told text × (names ≡ with_name t)
IsFound t misses names None =
    HasRisen misses.old misses.new × IsLacking t.told × (names ≡ t.names)

-- it was read and added, or it is missing
pub record AddsRead (t : Trial) (names : List (List ℕ)) (old new : State) : Type 0 where
  pub text : List ℕ
  pub is_text : IsText t.told text
  pub names_are : names ≡ with_name t
  pub adds : AddsText t.want (number_of t) text old new

pub record IsMissed (t : Trial) (misses : Counts) (names : List (List ℕ)) (old new : State) : Type 0 where
  pub risen : HasRisen misses.old misses.new
  pub lacking : IsLacking t.told
  pub names_are : names ≡ t.names
  pub same : new ≡ old

abbrev pub IsTried : Trial → (misses : Counts) → (names : List (List ℕ)) → (old new : State) → (found : Bool) → Type 0
IsTried t misses names old new true = AddsRead t names old new
IsTried t misses names old new false = IsMissed t misses names old new

-- its reading failed
pub record IsFailed (t : Trial) (faults : Counts) (names : List (List ℕ)) (file : ℕ) : Type 0 where
  pub risen : HasRisen faults.old faults.new
  pub file_is : file ≡ number_of t
  pub names_are : names ≡ with_name t

-- why it isn't added although it isn't missing
abbrev pub IsStopped : Trial → (bytes : ℕ) → (faults : Counts) → (names : List (List ℕ)) → LoadFault → Type 0
IsStopped t bytes faults names (Refused refusal) =
    RefusesFile t.told t.want.network (number_of t) bytes refusal × (names ≡ with_name t)
IsStopped t bytes faults names (ReadFault file) = IsFailed t faults names file
IsStopped t bytes faults names Memory = Unit {0}

-- ---- one request of one kind

-- its file was added, or it was there
pub record WasThere (t : Trial) (names : List (List ℕ)) (old new : State) : Type 0 where
  pub there : has t.want old.networks old.sources ≡ true
  pub names_are : names ≡ t.names
  pub same : new ≡ old

pub record IsAdded (t : Trial) (names : List (List ℕ)) (old new : State) : Type 0 where
  pub unread : has t.want old.networks old.sources ≡ false
  pub adds : AddsRead t names old new

abbrev pub IsTaken : Trial → (names : List (List ℕ)) → (old new : State) → (found : Bool) → Type 0
IsTaken t names old new true = IsAdded t names old new
IsTaken t names old new false = WasThere t names old new

-- it is missing, or it is refused
pub data IsDenied (t : Trial) (missing : Refusal) (bytes : ℕ) (misses : Counts) : (names : List (List ℕ))
    → Refusal → Type 0 where
  denied_missing : HasRisen misses.old misses.new → IsLacking t.told
      → IsDenied t missing bytes misses t.names missing
  denied_file : (refusal : Refusal)
      → RefusesFile t.told t.want.network (number_of t) bytes refusal
      → IsDenied t missing bytes misses (with_name t) refusal

abbrev pub IsHeld : Trial → (missing : Refusal) → (s : State) → (misses faults : Counts)
    → (names : List (List ℕ)) → LoadFault → Type 0
IsHeld t missing s misses faults names (Refused refusal) =
    (has t.want s.networks s.sources ≡ false) × IsDenied t missing s.bytes misses names refusal
IsHeld t missing s misses faults names (ReadFault file) =
    (has t.want s.networks s.sources ≡ false) × IsFailed t faults names file
IsHeld t missing s misses faults names Memory = Unit {0}

-- ---- one request

-- the file is there, as far as that is told
abbrev pub IsThere : Told → Type 0
IsThere Untold = Unit {0}
IsThere Lacking = ⊥
IsThere (Holding bytes) = Unit {0}

-- Which file is wanted, and how the loading stands once that is known. Of a class that may be either, the file of the
-- network is looked up, unless it was before; what was found once holds from then on.
pub data Means (library : Library) (misses : Counts) (s : State) : Asked → Wanted → State → Type 0 where
  means_network : (class : List ℕ)
      → Means library misses s (a_network class) (record { class = class; network = true }) s
  means_actor : (class : List ℕ)
      → Means library misses s (an_actor class) (record { class = class; network = false }) s
  means_missed : (class : List ℕ) → is_among class s.missed ≡ true
      → Means library misses s (a_class class) (record { class = class; network = false }) s
  means_known : (class : List ℕ) → is_among class s.missed ≡ false
      → is_some (network_of class s.networks) ≡ true
      → Means library misses s (a_class class) (record { class = class; network = true }) s
  means_there : (class : List ℕ) → is_among class s.missed ≡ false
      → IsThere (library (network_file class))
      → Means library misses s (a_class class) (record { class = class; network = true }) s
  means_other : (class : List ℕ) → is_some (network_of class s.networks) ≡ false
      → HasRisen misses.old misses.new → IsLacking (library (network_file class))
      → Means library misses s (a_class class) (record { class = class; network = false })
      (with_missed class s)

abbrev pub trial_of : Library → Wanted → (names : List (List ℕ)) → Trial
trial_of library w names =
    record { told = library (name_of w); want = w; names = names }

-- the file of a request was added, or it was there
pub record Takes (library : Library) (q : plain.Request) (misses : Counts) (names found : List (List ℕ))
    (old new : State) (added : Bool) : Type 0 where
  pub want : Wanted
  pub known : State
  pub means : Means library misses old q.asked want known
  pub taken : IsTaken (trial_of library want names) found known new added

-- a request is refused
pub record Denies (library : Library) (q : plain.Request) (misses : Counts) (names found : List (List ℕ)) (s : State)
    (refusal : Refusal) : Type 0 where
  pub want : Wanted
  pub known : State
  pub means : Means library misses s q.asked want known
  pub unread : has want s.networks s.sources ≡ false
  pub denied : IsDenied (trial_of library want names) q.missing s.bytes misses found refusal

-- the file that is looked up is the one that is wanted, or that of the network of a class that may be either, of which none
-- was missed
pub data Tries (library : Library) (misses : Counts) (s : State) : Asked → Wanted → Type 0 where
  tries_file : {asked : Asked} {w : Wanted} (known : State) → Means library misses s asked w known
      → Tries library misses s asked w
  tries_network : (class : List ℕ) → is_among class s.missed ≡ false
      → Tries library misses s (a_class class) (record { class = class; network = true })

-- the reading of a file failed that wasn't read
pub record Fails (library : Library) (q : plain.Request) (misses faults : Counts) (names found : List (List ℕ))
    (s : State) (file : ℕ) : Type 0 where
  pub want : Wanted
  pub tries : Tries library misses s q.asked want
  pub unread : has want s.networks s.sources ≡ false
  pub failed : IsFailed (trial_of library want names) faults found file

abbrev pub Halts : Library → plain.Request → (misses faults : Counts)
    → (names found : List (List ℕ)) → State → LoadFault → Type 0
Halts library q misses faults names found s (Refused refusal) =
    Denies library q misses names found s refusal
Halts library q misses faults names found s (ReadFault file) =
    Fails library q misses faults names found s file
Halts library q misses faults names found s Memory = Unit {0}

-- ---- how a loading stands

-- a choice is as what was found: a class is no network if it was missed, and one if its network was read before
pub record Agrees (choice : Choice) (missed : List (List ℕ)) (reads : List Read) : Type 0 where
  pub lacks : (class : List ℕ) → is_among class missed ≡ true → choice class ≡ false
  pub known : (class : List ℕ) → is_among class missed ≡ false
      → is_read (record { class = class; network = true }) reads ≡ true → choice class ≡ true

-- requests were looked at, and their files are among those that were read
pub record IsLookedAt (top : Asked) (done : List Read) (missed : List (List ℕ)) (waiting : List plain.Request)
    : Type 0 where
  pub passed : List plain.Request
  pub splits : requests top done ≡ passed ++ waiting
  pub all_read : (choice : Choice) → Agrees choice missed done → AreAllRead choice done passed

-- these files were read
pub record IsSoFar (library : Library) (top : Asked) (done : List Read) (names : List (List ℕ)) (s : State)
    : Type 0 where
  pub are_read : (choice : Choice) → Agrees choice s.missed done
      → AreReadBehind library choice top [] done
  pub are_lacking : (class : List ℕ) → is_among class s.missed ≡ true
      → IsLacking (library (network_file class))
  pub networks_are : s.networks ≡ networks_from 1 done
  pub sources_are : s.sources ≡ sources_from 1 done
  pub names_are : names ≡ names_of done
  pub bytes_are : s.bytes ≡ bytes_of done
  pub few : length done ≤ max_files
  pub small : s.bytes ≤ max_bytes
  pub looked_at : IsLookedAt top done s.missed s.waiting

-- nothing was read, and the top is asked for
pub record IsBegun (top : Asked) (s : State) : Type 0 where
  pub networks_are : s.networks ≡ []
  pub sources_are : s.sources ≡ []
  pub bytes_are : s.bytes ≡ 0
  pub missed_are : s.missed ≡ []
  pub waiting_are : s.waiting ≡ plain.top_request top ∷ []

-- some were
pub record HasRead (library : Library) (top : Asked) (names : List (List ℕ)) (s : State) : Type 0 where
  pub done : List Read
  pub is_so_far : IsSoFar library top done names s

-- what is seen of the library, of the names, and of what was read
pub record Seen : Type 0 where
  pub files : Library
  pub faults : ℕ
  pub misses : ℕ
  pub names : List (List ℕ)
  pub state : State

abbrev pub seen : Library → (faults misses : ℕ) → (names : List (List ℕ)) → State → Seen
seen files faults misses names state = record {
  files = files;
  faults = faults;
  misses = misses;
  names = names;
  state = state;
}

-- files of the library were read, and of it everything else is as it was when so much was counted
pub record IsLoading (library : Library) (faults misses : ℕ) (top : Asked) (now : Seen) : Type 0 where
  pub has_read : HasRead library top now.names now.state
  pub tried : (class : List ℕ) → is_among class now.state.missed ≡ true → HasRisen misses now.misses
  pub same_files : (other : List ℕ) → now.files other ≡ library other
  pub faults_stay : faults ≤ now.faults
  pub misses_stay : misses ≤ now.misses

-- a loading goes on
abbrev pub GoesOn : (before after : Seen) → Type 0
GoesOn before after = (library : Library) (faults misses : ℕ) (top : Asked)
    → IsLoading library faults misses top before → IsLoading library faults misses top after

-- a loading ends with a fault
abbrev pub GoesWrong : (before after : Seen) → LoadFault → Type 0
GoesWrong before after fault = (library : Library) (faults misses : ℕ) (top : Asked)
    → IsLoading library faults misses top before
    → IsFault library top (record { old = misses; new = after.misses })
    (record { old = faults; new = after.faults }) after.names fault

-- a file more was read, or nothing more is asked for, or the loading ends with a fault
abbrev pub IsNext : (before after : Seen) → Result Bool LoadFault → Type 0
IsNext before after (Ok true) =
    GoesOn before after × (length after.names ≡ suc (length before.names))
IsNext before after (Ok false) = GoesOn before after × (after.state.waiting ≡ [])
IsNext before after (Err fault) = GoesWrong before after fault
