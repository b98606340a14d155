-- The top of a job of the verb is a number.
use Rattle.std.proofs.Common.{◌≡◌, ℕ, Bool, true, false, List, map, Option, None, Some, Result, Ok, Err, refl, sym, ap, ◌∙◌, rules}
use Rattle.std.specs.Prelude.{IsSome, is_some, if◌then◌else◌, not, ok_or}
use Rattle.std.specs.List.{list_all}
use Rattle.rvc_base.specs.declared.round_kind.RoundKind.TheVariants.{All}
use Rattle.rvc_words.specs.Command.{Parts, matches, parts_of, refuses}
use Rattle.rvc_words.specs.Forms.{given_or, is_port, is_top, lacks_trace, number, round_of, verb_of}
use Rattle.rvc_words.specs.Limits.{default_budget, default_burst, default_workers, max_budget, max_burst, max_grow, max_workers}
use Rattle.rvc_words.specs.Words.{JobText, and_then, asked, job, kept, port}
use Rattle.rvc_words.specs.declared.fault.UsageCause.{UsageCause}
use Rattle.rvc_words.specs.declared.fault.UsageCause.TheVariants.{Verb as VerbCause, Top, Number, Round, Port, Trace}
use Rattle.rvc_words.specs.declared.job.Verb.{Verb}
use Rattle.cmd_gen.specs.Jobs.{TopsAreNumbers, instances_of}

through : {A B C : Type 0} (r : Result A UsageCause) (next : A → Result B UsageCause) (b : B) → and_then r next ≡ Ok b → ((a : A) → r ≡ Ok a → next a ≡ Ok b → C) → C
through (Ok a) next b e go = go a refl e
through (Err cause) next b e go = cc

kept_so : {A : Type 0} (holds : Bool) (value : A) (cause : UsageCause) (a : A) → kept holds value cause ≡ Ok a → (holds ≡ true) × (value ≡ a)
kept_so true value cause a e = (refl, (let same : Ok value ≡ Ok a = e in cc))
kept_so false value cause a e = cc

-- ---- a job's top is of the form of its verb

top_so : (verb : Verb) (top given : List ℕ) (j : JobText) → is_top verb given ≡ true → given ≡ top → j.verb ≡ verb → j.top ≡ top → is_top j.verb j.top ≡ true
top_so verb top given j is same verb_is top_is = ap (λ t. is_top j.verb t) (top_is ∙ sym same) ∙ ap (λ v. is_top v given) verb_is ∙ is

same_job : (one j : JobText) → ◌≡◌ {A = Result JobText UsageCause} (Ok one) (Ok j) → one ≡ j
same_job one j e = cc

form : (p : Parts) (j : JobText) → asked p ≡ Ok j → is_top j.verb j.top ≡ true
unfolding asked
form p j e =
    through (ok_or (verb_of p.verb) VerbCause) _ j e (λ verb v rest.
    through (kept (is_top verb p.top) p.top Top) _ j rest (λ top t rest.
    through (ok_or (given_or default_workers (number 1 max_workers) p.workers) Number) _ j rest (λ workers w rest.
    through (ok_or (given_or default_burst (number 1 max_burst) p.burst) Number) _ j rest (λ burst b rest.
    through (ok_or (given_or default_budget (number 1 max_budget) p.budget) Number) _ j rest (λ budget u rest.
    through (ok_or (given_or 0 (number 1 max_grow) p.grow) Number) _ j rest (λ grow g rest.
    through (ok_or (given_or All round_of p.round) Round) _ j rest (λ round r rest.
    through (kept (list_all is_port p.ports) (map port p.ports) Port) _ j rest (λ ports o rest.
    through (kept (not (lacks_trace verb p.trace)) p.trace Trace) _ j rest (λ trace a rest.
    let is = same_job _ j rest in
    let holds = kept_so (is_top verb p.top) p.top Top top t in
    top_so verb top p.top j holds.0 holds.1 (sym (ap (λ (k : JobText). k.verb) is)) (sym (ap (λ (k : JobText). k.top) is))
    )))))))))

number_so : (top : List ℕ) → is_some (instances_of top) ≡ true → IsSome (instances_of top)
number_so top e = some_so (instances_of top) e
  where
    some_so : (o : Option ℕ) → is_some o ≡ true → IsSome o
    some_so (Some n) e = search rules
    some_so None e = cc

chosen : (refused : Bool) (r : Result JobText UsageCause) (cause : UsageCause) (j : JobText) → (if refused then Err cause else r) ≡ Ok j → r ≡ Ok j
chosen true r cause j e = cc
chosen false r cause j e = e

pub tops_are_numbers : TopsAreNumbers
unfolding job
tops_are_numbers words j is gen =
    number_so j.top (ap (λ v. is_top v j.top) (sym gen) ∙ form (parts_of (matches words)) j (chosen (refuses words) _ _ j is))
