-- One request, from what the steps of its reading say.
use Rattle.std.proofs.Common.{◌≡◌, ℕ, suc, ◌≤◌, Bool, true, false, inl, inr, List, length, refl, sym, subst, arith}
use Rattle.std.specs.Prelude.{Result, Ok, Err, IfOk, IfErr}
use Rattle.rvc_base.specs.declared.refusal.Refusal.{Refusal}
use Rattle.rvc_io.specs.Count.{HasRisen}
use Rattle.rvc_io.specs.Told.{Told}
use Rattle.cal_scope.specs.Names.{is_among}
use Rattle.cal_files.specs.FileText.{IsText}
use Rattle.cal_files.specs.Loading.{Counts, Library}
use Rattle.cal_files.specs.declared.fault.LoadFault.{LoadFault}
use Rattle.cal_files.specs.declared.fault.LoadFault.TheVariants.{Refused, ReadFault, Memory}
use Rattle.fnl_source.specs.Files.{a_class, Wanted, name_of, network_file}
use Rattle.fnl_files.specs.Loading.{RefusesFile, is_refused, is_too_long}
use Rattle.fnl_files.specs.Requests.{Request}
use Rattle.fnl_files.specs.SoFar.{AddsRead, Halts, IsBroken, IsDenied, IsFailed, IsHeld, IsMissed, IsStopped, IsTaken, Means, State, Takes, Trial, denied_file, denied_missing, has, means_known, means_other, means_there, number_of, tries_file, tries_network, trial_of, with_missed, with_name, IsThere}
use Rattle.fnl_files.proofs.Known.{long_there, of_kind, told_there}

pub rose_since : (first old new : ℕ) → first ≤ old → HasRisen old new → HasRisen first new
rose_since first old new before (inl rose) = inl (omega arith)
rose_since first old new before (inr last) = inr last

pub rose_until : (old new later : ℕ) → new ≤ later → HasRisen old new → HasRisen old later
rose_until old new later after (inl rose) = inl (omega arith)
rose_until old new later after (inr last) = inr (omega arith)

-- a text that isn't added stops the reading of its file
pub broken_stops : (t : Trial) (text : List ℕ) (bytes number : ℕ) (faults : Counts) (names : List (List ℕ)) (fault : LoadFault) → IsText t.told text
    → names ≡ with_name t → number ≡ number_of t → IsBroken text t.want.network number bytes fault → IsStopped t bytes faults names fault
broken_stops t text bytes number faults names (Refused refusal) is named e h =
    (is_refused text refusal is (subst (λ n. IsBroken text t.want.network n bytes (Refused refusal)) e h), named)
broken_stops t text bytes number faults names (ReadFault file) is named e h = absurd h
broken_stops t text bytes number faults names Memory is named e h = tt

-- a file that is there, but is refused
pub stops_held : (t : Trial) (missing : Refusal) (s : State) (misses faults : Counts) (names : List (List ℕ)) (fault : LoadFault)
    → has t.want s.networks s.sources ≡ false → IsStopped t s.bytes faults names fault → IsHeld t missing s misses faults names fault
stops_held t missing s misses faults names (Refused refusal) unread h =
    (unread, subst (λ ns. IsDenied t missing s.bytes misses ns refusal) (sym h.1) (denied_file refusal h.0))
stops_held t missing s misses faults names (ReadFault file) unread h = (unread, h)
stops_held t missing s misses faults names Memory unread h = tt

-- a file that is missing
pub missed_held : (t : Trial) (missing : Refusal) (s new : State) (misses faults : Counts) (names : List (List ℕ))
    → has t.want s.networks s.sources ≡ false → IsMissed t misses names s new → IsHeld t missing s misses faults names (Refused missing)
missed_held t missing s new misses faults names unread h =
    (unread, subst (λ ns. IsDenied t missing s.bytes misses ns missing) (sym h.names_are) (denied_missing h.risen h.lacking))

-- ---- a request of one kind

pub takes_one : (r : Result Bool LoadFault) (library : Library) (q : Request) (misses : Counts) (w : Wanted) (known : State) (names found : List (List ℕ)) (old new : State)
    → Means library misses old q.asked w known → IfOk r (IsTaken (trial_of library w names) found known new) → IfOk r (Takes library q misses names found old new)
takes_one (Ok b) library q misses w known names found old new means h = record { want = w; known = known; means = means; taken = h }
takes_one (Err f) library q misses w known names found old new means h = tt

held_halts : (library : Library) (q : Request) (w : Wanted) (misses faults : Counts) (names found : List (List ℕ)) (s known : State) (fault : LoadFault)
    → Means library misses s q.asked w known → IsHeld (trial_of library w names) q.missing s misses faults found fault → Halts library q misses faults names found s fault
held_halts library q w misses faults names found s known (Refused refusal) means h = record { want = w; known = known; means = means; unread = h.0; denied = h.1 }
held_halts library q w misses faults names found s known (ReadFault file) means h = record { want = w; tries = tries_file known means; unread = h.0; failed = h.1 }
held_halts library q w misses faults names found s known Memory means h = tt

pub halts_one : (r : Result Bool LoadFault) (library : Library) (q : Request) (w : Wanted) (misses faults : Counts) (names found : List (List ℕ)) (s known : State)
    → Means library misses s q.asked w known → IfErr r (IsHeld (trial_of library w names) q.missing s misses faults found) → IfErr r (Halts library q misses faults names found s)
halts_one (Ok b) library q w misses faults names found s known means h = tt
halts_one (Err f) library q w misses faults names found s known means h = held_halts library q w misses faults names found s known f means h

-- ---- a class that may be either

abbrev pub either_of : (class : List ℕ) → Refusal → Request
either_of class missing = record { asked = a_class class; missing = missing }

file_there : (told : Told) (network : Bool) (number bytes : ℕ) (refusal : Refusal) → RefusesFile told network number bytes refusal → IsThere told
file_there told network number bytes _ (is_too_long h) = long_there told h
file_there told network number bytes refusal (is_refused text _ h k) = told_there told text h.is_told

-- the network's file is there, but is refused, or its reading failed
pub new_stops : (library : Library) (class : List ℕ) (missing : Refusal) (misses faults : Counts) (names found : List (List ℕ)) (s : State) (fault : LoadFault)
    → has (of_kind class true) s.networks s.sources ≡ false → is_among class s.missed ≡ false → IsStopped (trial_of library (of_kind class true) names) s.bytes faults found fault
    → Halts library (either_of class missing) misses faults names found s fault
new_stops library class missing misses faults names found s (Refused refusal) unread untried h = record {
  want = of_kind class true;
  known = s;
  means = means_there class untried (file_there (library (network_file class)) true (suc (length names)) s.bytes refusal h.0);
  unread = unread;
  denied = subst (λ ns. IsDenied (trial_of library (of_kind class true) names) missing s.bytes misses ns refusal) (sym h.1) (denied_file refusal h.0);
}
new_stops library class missing misses faults names found s (ReadFault file) unread untried h =
    record { want = of_kind class true; tries = tries_network class untried; unread = unread; failed = h }
new_stops library class missing misses faults names found s Memory unread untried h = tt

-- .. was read before
pub either_known : (library : Library) (class : List ℕ) (missing : Refusal) (misses : Counts) (names : List (List ℕ)) (s : State)
    → is_among class s.missed ≡ false → has (of_kind class true) s.networks s.sources ≡ true → Takes library (either_of class missing) misses names names s s false
either_known library class missing misses names s untried there = record {
  want = of_kind class true;
  known = s;
  means = means_known class untried there;
  taken = record { there = there; names_are = refl; same = refl };
}

-- .. was read now
pub new_added : (library : Library) (class : List ℕ) (missing : Refusal) (misses : Counts) (names found : List (List ℕ)) (s new : State)
    → has (of_kind class true) s.networks s.sources ≡ false → is_among class s.missed ≡ false → AddsRead (trial_of library (of_kind class true) names) found s new
    → Takes library (either_of class missing) misses names found s new true
new_added library class missing misses names found s new unread untried a = record {
  want = of_kind class true;
  known = s;
  means = means_there class untried (told_there (library (network_file class)) a.text a.is_text.is_told);
  taken = record { unread = unread; adds = a };
}

-- .. is missing, and that of the actor is looked for
pub new_other : (r : Result Bool LoadFault) (library mid : Library) (class : List ℕ) (missing : Refusal) (mo m n : ℕ) (names between found : List (List ℕ)) (s t new : State)
    → has (of_kind class true) s.networks s.sources ≡ false → m ≤ n
    → IsMissed (trial_of library (of_kind class true) names) (record { old = mo; new = m }) between s t → ((other : List ℕ) → mid other ≡ library other)
    → IfOk r (IsTaken (trial_of mid (of_kind class false) between) found (with_missed class t) new)
    → IfOk r (Takes library (either_of class missing) (record { old = mo; new = n }) names found s new)
new_other (Err f) library mid class missing mo m n names between found s t new unread after is same h = tt
new_other (Ok b) library mid class missing mo m n names between found s t new unread after is same h = record {
  want = of_kind class false;
  known = with_missed class s;
  means = means_other class unread (rose_until mo m n after is.risen) is.lacking;
  taken = subst (λ ns. IsTaken (trial_of library (of_kind class false) ns) found (with_missed class s) new b) is.names_are
      (subst (λ u. IsTaken (trial_of library (of_kind class false) between) found (with_missed class u) new b) is.same
      (subst (λ told. IsTaken (record { told = told; want = of_kind class false; names = between }) found (with_missed class t) new b) (same (name_of (of_kind class false))) h));
}

pub denied_since : (t : Trial) (missing : Refusal) (bytes first old new : ℕ) (names : List (List ℕ)) (refusal : Refusal) → first ≤ old
    → IsDenied t missing bytes (record { old = old; new = new }) names refusal → IsDenied t missing bytes (record { old = first; new = new }) names refusal
denied_since t missing bytes first old new _ _ before (denied_missing risen lacking) = denied_missing (rose_since first old new before risen) lacking
denied_since t missing bytes first old new _ _ before (denied_file refusal h) = denied_file refusal h

pub failed_since : (t : Trial) (first old new : ℕ) (names : List (List ℕ)) (file : ℕ) → first ≤ old
    → IsFailed t (record { old = old; new = new }) names file → IsFailed t (record { old = first; new = new }) names file
failed_since t first old new names file before h =
    record { risen = rose_since first old new before h.risen; file_is = h.file_is; names_are = h.names_are }

held_since : (t : Trial) (missing : Refusal) (s : State) (mo m n fo f g : ℕ) (names : List (List ℕ)) (fault : LoadFault) → mo ≤ m → fo ≤ f
    → IsHeld t missing s (record { old = m; new = n }) (record { old = f; new = g }) names fault
    → IsHeld t missing s (record { old = mo; new = n }) (record { old = fo; new = g }) names fault
held_since t missing s mo m n fo f g names (Refused refusal) b c h = (h.0, denied_since t missing s.bytes mo m n names refusal b h.1)
held_since t missing s mo m n fo f g names (ReadFault file) b c h = (h.0, failed_since t fo f g names file c h.1)
held_since t missing s mo m n fo f g names Memory b c h = tt

pub new_halts : (r : Result Bool LoadFault) (library mid : Library) (class : List ℕ) (missing : Refusal) (mo m n fo f g : ℕ) (names between found : List (List ℕ)) (s t : State)
    → has (of_kind class true) s.networks s.sources ≡ false → m ≤ n
    → IsMissed (trial_of library (of_kind class true) names) (record { old = mo; new = m }) between s t → ((other : List ℕ) → mid other ≡ library other)
    → mo ≤ m → fo ≤ f
    → IfErr r (IsHeld (trial_of mid (of_kind class false) between) missing (with_missed class t) (record { old = m; new = n }) (record { old = f; new = g }) found)
    → IfErr r (Halts library (either_of class missing) (record { old = mo; new = n }) (record { old = fo; new = g }) names found s)
new_halts (Ok b) library mid class missing mo m n fo f g names between found s t unread after is same b1 b2 h = tt
new_halts (Err fault) library mid class missing mo m n fo f g names between found s t unread after is same b1 b2 h =
    held_halts library (either_of class missing) (of_kind class false) (record { old = mo; new = n }) (record { old = fo; new = g }) names found s (with_missed class s) fault
    (means_other class unread (rose_until mo m n after is.risen) is.lacking)
    (held_as_before fault
    (held_since (trial_of library (of_kind class false) names) missing (with_missed class s) mo m n fo f g found fault b1 b2
    (subst (λ ns. IsHeld (trial_of library (of_kind class false) ns) missing (with_missed class s) (record { old = m; new = n }) (record { old = f; new = g }) found fault) is.names_are
    (subst (λ u. IsHeld (trial_of library (of_kind class false) between) missing (with_missed class u) (record { old = m; new = n }) (record { old = f; new = g }) found fault) is.same
    (subst (λ told. IsHeld (record { told = told; want = of_kind class false; names = between }) missing (with_missed class t) (record { old = m; new = n }) (record { old = f; new = g }) found fault)
    (same (name_of (of_kind class false))) h)))))
  where
    held_as_before : (fault : LoadFault)
        → IsHeld (trial_of library (of_kind class false) names) missing (with_missed class s) (record { old = mo; new = n }) (record { old = fo; new = g }) found fault
        → IsHeld (trial_of library (of_kind class false) names) missing s (record { old = mo; new = n }) (record { old = fo; new = g }) found fault
    held_as_before (Refused refusal) k = k
    held_as_before (ReadFault file) k = k
    held_as_before Memory k = k
