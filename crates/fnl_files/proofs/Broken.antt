-- Why a text isn't added, from what its readers say.
use Rattle.std.proofs.Common.{◌≡◌, ℕ, ◌+◌, ◌<◌, Bool, true, false, List, length, sym, subst}
use Rattle.std.specs.Prelude.{◌⊎◌, Result, Ok, Err, IfErr}
use Rattle.rvc_base.specs.Rules.{file_too_long, too_many_files}
use Rattle.rvc_base.specs.declared.refusal.Front.{Front}
use Rattle.rvc_base.specs.declared.refusal.Front.TheVariants as front
use Rattle.rvc_io.specs.Library.{IsTooLong, max_file_bytes}
use Rattle.rvc_io.specs.Told.{Told, Untold, Lacking, Holding, IsTold}
use Rattle.cal_files.specs.FileText.{IsRightly}
use Rattle.cal_files.specs.Loading.{Counts, max_bytes, max_files}
use Rattle.cal_files.specs.Reads.{refusal_at}
use Rattle.cal_files.specs.SoFar.{of_front}
use Rattle.cal_files.specs.declared.fault.LoadFault.{LoadFault}
use Rattle.cal_files.specs.declared.fault.LoadFault.TheVariants.{Refused}
use Rattle.fnl_read.specs.Network as net
use Rattle.fnl_source.specs.Files.{Content, Says}
use Rattle.fnl_files.specs.Loading.{RefusesFile, RefusesText, breaks_rule, in_network, in_source, is_too_long, is_too_much}
use Rattle.fnl_files.specs.SoFar.{IsBroken, IsStopped, Trial, number_of, with_name}

pub broken_network : (text : List ℕ) (number bytes : ℕ) (f : Front) → net.IsRightly number (net.network text) f → IsBroken text true number bytes (of_front f)
broken_network text number bytes (front.Refused r) h =
    subst (λ file. RefusesText text true number bytes (refusal_at r.rule file r.place.offset)) (sym h.0)
    (breaks_rule r.rule r.place.offset (in_network r.rule r.place.offset h.1))
broken_network text number bytes front.Memory h = tt

pub broken_source : (text : List ℕ) (number bytes : ℕ) (f : Front) → IsRightly number text f → IsBroken text false number bytes (of_front f)
broken_source text number bytes (front.Refused r) h =
    subst (λ file. RefusesText text false number bytes (refusal_at r.rule file r.place.offset)) (sym h.0)
    (breaks_rule r.rule r.place.offset (in_source r.rule r.place.offset h.1))
broken_source text number bytes front.Memory h = tt

-- it passes a limit of all files
pub broken_limit : (text : List ℕ) (network : Bool) (content : Content) (number bytes : ℕ) (fault : LoadFault) → Says text network content
    → fault ≡ Refused (refusal_at too_many_files number 0) → (max_files < number) ⊎ (max_bytes < bytes + length text)
    → IsBroken text network number bytes fault
broken_limit text network content number bytes fault says e passes =
    subst (λ f. IsBroken text network number bytes f) (sym e) (is_too_much content says passes)

-- ---- a file that is too long

found_too_long : (told : Told) (text : List ℕ) → IsTold told text → max_file_bytes < length text → IsTooLong told
found_too_long Untold text is long = tt
found_too_long Lacking text is long = is
found_too_long (Holding t) text is long = subst (λ xs. max_file_bytes < length xs) is long

-- it was found
pub long_stops : {T : Type 0} (r : Result T LoadFault) (t : Trial) (text : List ℕ) (number bytes : ℕ) (faults : Counts) (names : List (List ℕ)) → IsTold t.told text
    → names ≡ with_name t → number ≡ number_of t → IfErr r (λ _. max_file_bytes < length text)
    → IfErr r (λ fault. fault ≡ Refused (refusal_at file_too_long number max_file_bytes)) → IfErr r (IsStopped t bytes faults names)
long_stops (Ok x) t text number bytes faults names is named numbered long e = tt
long_stops (Err f) t text number bytes faults names is named numbered long e =
    subst (λ fault. IsStopped t bytes faults names fault) (sym e) (
      subst (λ n. RefusesFile t.told t.want.network (number_of t) bytes (refusal_at file_too_long n max_file_bytes)) (sym numbered)
          (is_too_long (found_too_long t.told text is long)),
      named,
    )

-- it is told to be
pub told_stops : (t : Trial) (fault : LoadFault) (number bytes : ℕ) (faults : Counts) (names : List (List ℕ)) → IsTooLong t.told
    → names ≡ with_name t → number ≡ number_of t → fault ≡ Refused (refusal_at file_too_long number max_file_bytes) → IsStopped t bytes faults names fault
told_stops t fault number bytes faults names long named numbered e =
    subst (λ f. IsStopped t bytes faults names f) (sym e) (
      subst (λ n. RefusesFile t.told t.want.network (number_of t) bytes (refusal_at file_too_long n max_file_bytes)) (sym numbered) (is_too_long long),
      named,
    )
