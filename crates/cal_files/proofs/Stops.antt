-- Why a file isn't read, from what the steps of its reading say.
use Rattle.std.proofs.Common.{◌≡◌, ℕ, ◌+◌, ◌<◌, List, length, sym, subst}
use Rattle.std.specs.Prelude.{◌⊎◌, Result, Ok, Err, IfErr}
use Rattle.rvc_base.specs.Rules.{file_too_long, too_many_files}
use Rattle.rvc_base.specs.declared.refusal.Front.{Front}
use Rattle.rvc_base.specs.declared.refusal.Front.TheVariants as front
use Rattle.rvc_io.specs.Library.{IsTooLong, max_file_bytes}
use Rattle.rvc_io.specs.Told.{IsTold}
use Rattle.cal_ast.specs.Tree.{Tree}
use Rattle.cal_files.specs.FileText.{IsFile, IsRightly, IsText}
use Rattle.cal_files.specs.Loading.{Counts, Refuses, breaks_rules, is_too_long, is_too_much, max_bytes, max_files, with_name}
use Rattle.cal_files.specs.Reads.{Request, refusal_at}
use Rattle.cal_files.specs.SoFar.{IsBroken, IsStopped, Place, of_front}
use Rattle.cal_files.specs.declared.fault.LoadFault.{LoadFault}
use Rattle.cal_files.specs.declared.fault.LoadFault.TheVariants.{Refused}
use Rattle.cal_files.proofs.Texts.{found_too_long}

-- its text breaks a rule of its own
pub broken_text : (text : List ℕ) (q : Request) (number bytes : ℕ) (f : Front) → IsRightly number text f
    → IsBroken text q number bytes (of_front f)
broken_text text q number bytes (front.Refused r) h told misses faults names is_text =
    subst (λ file. Refuses told q number bytes misses names (refusal_at r.rule file r.place.offset) (with_name q.class names)) (sym h.0)
    (breaks_rules text r.rule r.place.offset is_text h.1)
broken_text text q number bytes front.Memory h told misses faults names is_text = tt

-- it passes a limit of all files
pub broken_limit : (text : List ℕ) (tree : Tree) (q : Request) (number bytes : ℕ) (fault : LoadFault) → IsFile text tree
    → fault ≡ Refused (refusal_at too_many_files number 0) → (max_files < number) ⊎ (max_bytes < bytes + length text)
    → IsBroken text q number bytes fault
broken_limit text tree q number bytes fault is_file e passes =
    subst (λ f. IsBroken text q number bytes f) (sym e)
    (λ told misses faults names is_text. is_too_much text tree is_text is_file passes)

-- it was found, and is too long
pub stopped_long : {T : Type 0} (r : Result T LoadFault) (p : Place) (text : List ℕ) (misses faults : Counts) (names : List (List ℕ)) → IsTold p.told text
    → names ≡ with_name p.request.class p.names
    → IfErr r (λ _. max_file_bytes < length text)
    → IfErr r (λ fault. fault ≡ Refused (refusal_at file_too_long p.number max_file_bytes))
    → IfErr r (IsStopped p misses faults names)
stopped_long (Ok x) p text misses faults names is named long e = tt
stopped_long (Err f) p text misses faults names is named long e =
    subst (λ fault. IsStopped p misses faults names fault) (sym e)
    (subst (λ ns. Refuses p.told p.request p.number p.bytes misses p.names (refusal_at file_too_long p.number max_file_bytes) ns) (sym named)
    (is_too_long (found_too_long p.told text is long)))

-- it is told to be too long
pub stopped_too_long : (p : Place) (fault : LoadFault) (misses faults : Counts) (names : List (List ℕ)) → names ≡ with_name p.request.class p.names → IsTooLong p.told
    → fault ≡ Refused (refusal_at file_too_long p.number max_file_bytes) → IsStopped p misses faults names fault
stopped_too_long p fault misses faults names named long e =
    subst (λ f. IsStopped p misses faults names f) (sym e)
    (subst (λ ns. Refuses p.told p.request p.number p.bytes misses p.names (refusal_at file_too_long p.number max_file_bytes) ns) (sym named) (is_too_long long))

-- what a text breaks stops the reading of its file
pub stopped_broken : {T : Type 0} (r : Result T LoadFault) (p : Place) (text : List ℕ) (misses faults : Counts) (names : List (List ℕ)) → IsText p.told text
    → names ≡ with_name p.request.class p.names
    → IfErr r (IsBroken text p.request p.number p.bytes) → IfErr r (IsStopped p misses faults names)
stopped_broken (Ok x) p text misses faults names is named broken = tt
stopped_broken (Err f) p text misses faults names is named broken =
    subst (λ ns. IsStopped p misses faults ns f) (sym named) (broken p.told misses faults p.names is)
