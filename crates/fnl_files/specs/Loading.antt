-- What refuses the files that a top needs, by what a library tells of them.
-- Trusted: part of what a promise means.
use Rattle.std.specs.Prelude.{◌≡◌, ◌≢◌, ◌<◌, ◌+◌, ◌⊎◌, ℕ, suc, Bool, true, false, List, [], ◌∷◌, ◌++◌, length}
use Rattle.std.specs.List.{AllByRecursion}
use Rattle.rvc_base.specs.Rules.{file_too_long, too_many_files}
use Rattle.rvc_base.specs.declared.refusal.Refusal.{Refusal}
use Rattle.rvc_base.specs.declared.refusal.Rule.{Rule}
use Rattle.rvc_io.specs.Count.{HasRisen}
use Rattle.rvc_io.specs.Library.{IsTooLong, max_file_bytes}
use Rattle.rvc_io.specs.Told.{Told, IsLacking}
use Rattle.cal_files.specs.FileText as actor
use Rattle.cal_files.specs.FileText.{IsText}
use Rattle.cal_files.specs.Loading.{Counts, Library, max_bytes, max_files}
use Rattle.cal_files.specs.Reads.{refusal_at}
use Rattle.fnl_read.specs.Network as net
use Rattle.fnl_source.specs.Files.{AreReadBehind, Asked, a_class, a_network, an_actor, Choice, Content, Fits, Read, Says, Wanted, bytes_of, is_read, name_of, wanted}
use Rattle.fnl_files.specs.Requests.{AreAllRead, Request, names_of, requests}

-- the rule that a text breaks first, as a network or as a file of the language, and where
pub data BreaksRule (text : List ℕ) : Bool → Rule → ℕ → Type 0 where
  in_network : (rule : Rule) (at : ℕ) → net.network text ≡ net.Broke rule at
      → BreaksRule text true rule at
  in_source : (rule : Rule) (at : ℕ) → actor.BreaksRules text rule at
      → BreaksRule text false rule at

-- what refuses a text that would be the file of this number behind so many bytes: its own rules come first
pub data RefusesText (text : List ℕ) (network : Bool) (number bytes : ℕ) : Refusal → Type 0 where
  breaks_rule : (rule : Rule) (at : ℕ) → BreaksRule text network rule at
      → RefusesText text network number bytes (refusal_at rule number at)
  is_too_much : (content : Content) → Says text network content
      → (max_files < number) ⊎ (max_bytes < bytes + length text)
      → RefusesText text network number bytes (refusal_at too_many_files number 0)

-- what refuses a file that is there: its length comes first
pub data RefusesFile (told : Told) (network : Bool) (number bytes : ℕ) : Refusal → Type 0 where
  is_too_long : IsTooLong told
      → RefusesFile told network number bytes (refusal_at file_too_long number max_file_bytes)
  is_refused : (text : List ℕ) (refusal : Refusal) → IsText told text
      → RefusesText text network number bytes refusal
      → RefusesFile told network number bytes refusal

-- The file that is wanted, which would have this number behind so many bytes, is refused, and these names stand then: a
-- file that is there has its name there, one that is missing hasn't, and what is refused is what its request says.
pub data Refuses (library : Library) (w : Wanted) (missing : Refusal) (number bytes : ℕ) (misses : Counts)
    (names : List (List ℕ)) : Refusal → List (List ℕ) → Type 0 where
  is_missing : HasRisen misses.old misses.new → IsLacking (library (name_of w))
      → Refuses library w missing number bytes misses names missing names
  is_there : (refusal : Refusal)
      → RefusesFile (library (name_of w)) w.network number bytes refusal
      → Refuses library w missing number bytes misses names refusal (names ++ name_of w ∷ [])

-- files were read, and a request is looked at: the files of all those before it are among them
pub record ComesTo (library : Library) (choice : Choice) (top : Asked) (reads : List Read) (q : Request)
    : Type 0 where
  pub are_read : AreReadBehind library choice top [] reads
  pub before : List Request
  pub after : List Request
  pub splits : requests top reads ≡ before ++ q ∷ after
  pub all_read : AreAllRead choice reads before

-- by a choice of networks that fits what the library tells, files are read up to one that is refused
pub record IsRefused (library : Library) (top : Asked) (misses : Counts) (refusal : Refusal) (names : List (List ℕ))
    : Type 0 where
  pub choice : Choice
  pub fits : Fits library choice
  pub reads : List Read
  pub request : Request
  pub comes : ComesTo library choice top reads request
  pub unread : is_read (wanted choice request.asked) reads ≡ false
  pub refuses : Refuses library (wanted choice request.asked) request.missing (suc (length reads))
      (bytes_of reads) misses (names_of reads) refusal names

-- none of these requests asks for the class as one that may be either
abbrev pub NoneAsks : (class : List ℕ) → List Request → Type 0
NoneAsks class list = AllByRecursion (λ q. q.asked ≢ a_class class) list

-- The file that is looked up for what is asked, in its turn behind these requests: that of a network, or of an actor. Of a
-- class that may be either, it is that of its network, if none of them asks for the class so; or that of its actor, if the
-- class is taken as none and a miss was counted.
pub data LooksUp (choice : Choice) (before : List Request) (misses : Counts) : Asked → Wanted
    → Type 0 where
  looks_up_network : (class : List ℕ)
      → LooksUp choice before misses (a_network class) (record { class = class; network = true })
  looks_up_actor : (class : List ℕ)
      → LooksUp choice before misses (an_actor class) (record { class = class; network = false })
  looks_up_either : (class : List ℕ) → NoneAsks class before
      → LooksUp choice before misses (a_class class) (record { class = class; network = true })
  looks_up_other : (class : List ℕ) → choice class ≡ false → HasRisen misses.old misses.new
      → LooksUp choice before misses (a_class class) (record { class = class; network = false })

-- By such a choice, files are read up to one whose reading fails. It is looked up in its turn, after those of all requests
-- before were read, and wasn't read itself: it has the next number, and its name is the last.
pub record IsFaulted (library : Library) (top : Asked) (misses : Counts) (file : ℕ) (names : List (List ℕ))
    : Type 0 where
  pub choice : Choice
  pub fits : Fits library choice
  pub reads : List Read
  pub request : Request
  pub comes : ComesTo library choice top reads request
  pub failing : Wanted
  pub looks_up : LooksUp choice comes.before misses request.asked failing
  pub unread : is_read failing reads ≡ false
  pub file_is : file ≡ suc (length reads)
  pub names_are : names ≡ names_of reads ++ name_of failing ∷ []
