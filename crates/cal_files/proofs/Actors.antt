-- What is answered of an actor, from what its files and its scope say.
use Rattle.std.proofs.Common.{◌≡◌, ℕ, List, refl, sym, subst}
use Rattle.std.specs.Prelude.{Result, Ok, Err, IfErr, IfOk, IsErr, MatchResult}
use Rattle.rvc_base.specs.declared.refusal.Refusal.{Refusal}
use Rattle.cal_imports.specs.Answer as answer
use Rattle.cal_imports.specs.Answer.{Answer}
use Rattle.cal_imports.specs.Resolved.{resolved}
use Rattle.cal_imports.specs.ScopeView.{scope_view}
use Rattle.cal_imports.specs.Sources.{Source}
use Rattle.cal_imports.specs.Whole as whole
use Rattle.cal_imports.specs.declared.scope.Scope.{Scope}
use Rattle.cal_files.specs.Actor.{HasActor, IsActorFault, RefusesActor, in_loading, in_scope}
use Rattle.cal_files.specs.ActorView.{IsJudged}
use Rattle.cal_files.specs.Laws.{LoadedIsNotRefused, LoadingsAreOne}
use Rattle.cal_files.specs.Loading.{Counts, Library, TellsAll}
use Rattle.cal_files.specs.Reads.{Read, sources_of}
use Rattle.cal_files.specs.Views.{HoldsFiles, HoldsLoaded, IsFault, IsOutside}
use Rattle.cal_files.specs.declared.fault.LoadFault.{LoadFault}
use Rattle.cal_files.specs.declared.fault.LoadFault.TheVariants.{Refused, ReadFault, Memory}

-- a scope among the files is the actor's
pub judged_ok : (r : Result Scope LoadFault) (library : Library) (top : List ℕ) (names : List (List ℕ)) (sources : List Source)
    → HoldsLoaded library top sources names → IsJudged r (resolved sources top)
    → IfOk r (λ s. HasActor library top names (scope_view s))
judged_ok (Ok s) library top names sources h j = record {
  reads = h.reads;
  is_loaded = h.is_loaded;
  names_are = h.holds.names_are;
  is_resolved = subst (λ ss. resolved ss top ≡ answer.Gives (scope_view s)) h.holds.sources_are j;
}
judged_ok (Err f) library top names sources h j = tt

-- a rule of scope that is broken there refuses it
pub judged_fault : (r : Result Scope LoadFault) (library : Library) (top : List ℕ) (misses faults : Counts) (names : List (List ℕ)) (sources : List Source)
    → HoldsLoaded library top sources names → IsJudged r (resolved sources top)
    → IfErr r (IsActorFault library top misses faults names)
judged_fault (Ok s) library top misses faults names sources h j = tt
judged_fault (Err (Refused r)) library top misses faults names sources h j = in_scope (record {
  reads = h.reads;
  is_loaded = h.is_loaded;
  names_are = h.holds.names_are;
  is_refused = subst (λ ss. resolved ss top ≡ answer.Refuses r.rule r.place.file r.place.offset) h.holds.sources_are j;
})
judged_fault (Err (ReadFault file)) library top misses faults names sources h j = absurd j
judged_fault (Err Memory) library top misses faults names sources h j = tt

-- what refuses its files refuses it
pub loading_fault : (fault : LoadFault) (library : Library) (top : List ℕ) (misses faults : Counts) (names : List (List ℕ))
    → IsFault library top misses faults names fault → IsActorFault library top misses faults names fault
loading_fault (Refused refusal) library top misses faults names h = in_loading h
loading_fault (ReadFault file) library top misses faults names h = h
loading_fault Memory library top misses faults names h = tt

one_scope : (a : Answer whole.Scope) (s t : whole.Scope) → a ≡ answer.Gives s → a ≡ answer.Gives t → s ≡ t
one_scope (answer.Gives u) s t x y = cc
one_scope (answer.Refuses rule file at) s t x y = cc

given_not_refused : (a : Answer whole.Scope) (s : whole.Scope) (r : Refusal)
    → a ≡ answer.Gives s → a ≡ answer.Refuses r.rule r.place.file r.place.offset → ⊥
given_not_refused (answer.Gives u) s r x y = cc
given_not_refused (answer.Refuses rule file at) s r x y = cc

-- the scope of files that are all read is the one that is given
pub judged_all : (r : Result Scope LoadFault) (top : List ℕ) (names : List (List ℕ)) (sources : List Source) (reads : List Read) (scope : whole.Scope)
    → HoldsFiles reads sources names → resolved (sources_of reads) top ≡ answer.Gives scope → IsJudged r (resolved sources top)
    → MatchResult r (λ s. scope_view s ≡ scope) IsOutside
judged_all (Ok s) top names sources reads scope h is j =
    one_scope (resolved sources top) (scope_view s) scope j
    (subst (λ ss. resolved ss top ≡ answer.Gives scope) (sym h.sources_are) is)
judged_all (Err (Refused r)) top names sources reads scope h is j =
    absurd (given_not_refused (resolved sources top) scope r (subst (λ ss. resolved ss top ≡ answer.Gives scope) (sym h.sources_are) is) j)
judged_all (Err (ReadFault file)) top names sources reads scope h is j = absurd j
judged_all (Err Memory) top names sources reads scope h is j = tt

-- an actor that a rule refuses isn't given
refused_not_given : (library : Library) (top : List ℕ) (misses : Counts) (names found : List (List ℕ)) (refusal : Refusal) (scope : whole.Scope)
    → LoadingsAreOne → LoadedIsNotRefused → TellsAll library
    → HasActor library top names scope → RefusesActor library top misses found refusal → ⊥
refused_not_given library top misses names found refusal scope one outcome tells h (in_loading r) =
    outcome library top h.reads misses refusal found tells h.is_loaded r
refused_not_given library top misses names found refusal scope one outcome tells h (in_scope b) =
    let same : b.reads ≡ h.reads = one library top b.reads h.reads tells b.is_loaded h.is_loaded in
    given_not_refused (resolved (sources_of h.reads) top) scope refusal h.is_resolved
    (subst (λ rs. resolved (sources_of rs) top ≡ answer.Refuses refusal.rule refusal.place.file refusal.place.offset) same b.is_refused)

pub judged_none : (r : Result Scope LoadFault) (library : Library) (top : List ℕ) (misses : Counts) (names found : List (List ℕ)) (refusal : Refusal)
    → LoadingsAreOne → LoadedIsNotRefused → TellsAll library → RefusesActor library top misses found refusal
    → IfOk r (λ s. HasActor library top names (scope_view s)) → IsErr r
judged_none (Ok s) library top misses names found refusal one outcome tells is h =
    absurd (refused_not_given library top misses names found refusal (scope_view s) one outcome tells h is)
judged_none (Err f) library top misses names found refusal one outcome tells is h = refl
