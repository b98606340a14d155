-- What is asked for has a file, if nothing more is wanted.
use Rattle.std.proofs.Common.{◌≡◌, ℕ, Bool, true, false, inl, inr, List, [], ◌∷◌, refl, sym, subst, ◌∙◌}
use Rattle.std.specs.List.{AllByRecursion}
use Rattle.std.specs.Prelude.{None, Some, Result, Ok, Err, IfOk, if◌then◌else◌}
use Rattle.rvc_io.specs.Count.{HasRisen}
use Rattle.cal_files.specs.Loading.{Counts, Library}
use Rattle.cal_files.specs.declared.fault.LoadFault.{LoadFault}
use Rattle.fnl_source.specs.Files.{Asked, a_class, a_network, an_actor, Choice, Read, asked_by_all, files_of, first_unread, is_read, wanted}
use Rattle.fnl_source.specs.Source.{Files}
use Rattle.fnl_files.specs.Laws.{LoadedAreServed}
use Rattle.fnl_files.specs.Requests.{AreTried, IsServed, IsTried}
use Rattle.fnl_files.specs.Views.{HasFile, HoldsLoaded}
use Rattle.fnl_files.proofs.Known.{of_kind}
use Rattle.fnl_files.proofs.Lists.{same_has}

-- what is wanted of a list of which nothing is unread is read
all_wanted : (choice : Choice) (reads : List Read) (P : Asked → Type 0) → ((asked : Asked) → is_read (wanted choice asked) reads ≡ true → P asked)
    → (list : List Asked) → first_unread choice reads list ≡ None → AllByRecursion P list
all_wanted choice reads P so [] h = tt
all_wanted choice reads P so (asked ∷ others) h = go (is_read (wanted choice asked) reads) refl h (all_wanted choice reads P so others)
  where
    go : (b : Bool) → is_read (wanted choice asked) reads ≡ b → (if b then first_unread choice reads others else Some (wanted choice asked)) ≡ None
        → (first_unread choice reads others ≡ None → AllByRecursion P others) → AllByRecursion P (asked ∷ others)
    go true e k rest = (so asked e, rest k)
    go false e k rest = cc

-- ---- its file

served_by : (reads : List Read) (class : List ℕ) (b : Bool) → is_read (of_kind class b) reads ≡ true → IsServed reads (a_class class)
served_by reads class true h = inl h
served_by reads class false h = inr h

served : (choice : Choice) (reads : List Read) (asked : Asked) → is_read (wanted choice asked) reads ≡ true → IsServed reads asked
served choice reads (a_network class) h = h
served choice reads (an_actor class) h = h
served choice reads (a_class class) h = served_by reads class (choice class) h

pub loaded_are_served : LoadedAreServed
loaded_are_served library top reads h =
    all_wanted h.choice reads (IsServed reads) (served h.choice reads) (top ∷ asked_by_all reads) h.whole

-- what is read is there
there : (reads : List Read) (asked : Asked) → IsServed reads asked → HasFile asked (files_of reads)
there reads (a_network class) h = same_has (of_kind class true) reads ∙ h
there reads (an_actor class) h = same_has (of_kind class false) reads ∙ h
there reads (a_class class) (inl h) = inl (same_has (of_kind class true) reads ∙ h)
there reads (a_class class) (inr h) = inr (same_has (of_kind class false) reads ∙ h)

-- the top's own file
pub top_there : {S : Type 0} (view : S → Files) (r : Result S LoadFault) (library : Library) (top : Asked) (misses : Counts) (names : List (List ℕ))
    → IfOk r (λ set. HoldsLoaded library top misses (view set) names) → IfOk r (λ set. HasFile top (view set))
top_there view (Err f) library top misses names h = tt
top_there view (Ok set) library top misses names h =
    subst (λ files. HasFile top files) (sym h.holds.files_are) (there h.reads top (loaded_are_served library top h.reads h.are_loaded).0)

-- ---- what was looked up

tried_by : (reads : List Read) (misses : Counts) (class : List ℕ) (b : Bool) → is_read (of_kind class b) reads ≡ true
    → (b ≡ false → HasRisen misses.old misses.new) → IsTried reads misses (a_class class)
tried_by reads misses class true h risen = λ none. never (is_read (of_kind class true) reads) h none
  where
    never : (b : Bool) → b ≡ true → b ≡ false → HasRisen misses.old misses.new
    never true k l = cc
    never false k l = cc
tried_by reads misses class false h risen = λ none. risen refl

tried : (choice : Choice) (reads : List Read) (misses : Counts) (asked : Asked) → is_read (wanted choice asked) reads ≡ true
    → ((class : List ℕ) → choice class ≡ false → HasRisen misses.old misses.new) → IsTried reads misses asked
tried choice reads misses (a_network class) h risen = tt
tried choice reads misses (an_actor class) h risen = tt
tried choice reads misses (a_class class) h risen = tried_by reads misses class (choice class) h (risen class)

pub all_tried : (choice : Choice) (reads : List Read) (misses : Counts) (list : List Asked) → first_unread choice reads list ≡ None
    → ((class : List ℕ) → choice class ≡ false → HasRisen misses.old misses.new) → AreTried reads misses list
all_tried choice reads misses list h risen =
    all_wanted choice reads (IsTried reads misses) (λ asked read. tried choice reads misses asked read risen) list h
