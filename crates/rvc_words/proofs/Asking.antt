-- What the parts ask for, by the facts that the code finds one after another.
use Rattle.std.proofs.Common.{◌≡◌, ◌∙◌, ℕ, List, true, false, map, Option, None, Some, Result, Ok, Err, refl, ap, sym, subst}
use Rattle.std.specs.Prelude.{IsErr, IsErrAnd, ok_or, unwrap_or}
use Rattle.std.specs.Result.{result_err, result_ok}
use Rattle.std.specs.List.{list_all}
use Rattle.rvc_base.specs.declared.round_kind.RoundKind.{RoundKind}
use Rattle.rvc_base.specs.declared.round_kind.RoundKind.TheVariants.{All}
use Rattle.rvc_words.specs.declared.fault.UsageCause.{UsageCause}
use Rattle.rvc_words.specs.declared.fault.WordFault.{WordFault}
use Rattle.rvc_words.specs.declared.fault.WordFault.TheVariants.{Usage, Memory}
use Rattle.rvc_words.specs.declared.job.Job.{Job}
use Rattle.rvc_words.specs.declared.fault.UsageCause.TheVariants.{Verb as VerbCause, Top, Number, Round, Port, Trace}
use Rattle.rvc_words.specs.declared.job.Verb.{Verb}
use Rattle.rvc_words.specs.Command.{Parts}
use Rattle.rvc_words.specs.Forms.{given_or, is_port, is_top, lacks_trace, number, round_of, verb_of}
use Rattle.rvc_words.specs.Limits.{default_budget, default_burst, default_workers, max_budget, max_burst, max_grow, max_workers}
use Rattle.rvc_words.specs.Words.{JobText, PortText, asked, port}

-- what a value or a cause in place of an option says of it
pub value_of : {A : Type 0} (o : Option A) (x : A) (named : UsageCause) → Ok x ≡ ok_or o named → o ≡ Some x
value_of None x named e = sym (ap result_ok e)
value_of (Some y) x named e = sym (ap result_ok e)

pub none_of : {A : Type 0} (o : Option A) (cause named : UsageCause) → Err cause ≡ ok_or o named → o ≡ None
none_of None cause named e = refl
none_of (Some y) cause named e = sym (ap result_ok e)

pub named_of : {A : Type 0} (o : Option A) (cause named : UsageCause) → Err cause ≡ ok_or o named → cause ≡ named
named_of None cause named e = ap (λ r. unwrap_or (result_err r) named) e
named_of (Some y) cause named e = ap (λ r. unwrap_or (result_err r) named) e

abbrev cause_in : UsageCause → WordFault → UsageCause
cause_in default (Usage cause) = cause
cause_in default Memory = default

same_cause : (a b : UsageCause) → Usage a ≡ Usage b → a ≡ b
same_cause a b e = ap (cause_in a) e

-- a cause that is named is the one that is answered
pub handed_on : (p : Parts) (r : Result Job WordFault) (cause given named : UsageCause) → IsErr r × IsErrAnd r (λ fault. fault ≡ Usage given) → r ≡ Err (Usage cause) → given ≡ named → asked p ≡ Err named → asked p ≡ Err cause
handed_on p r cause given named h answered same is =
    let fault : Usage cause ≡ Usage given = subst (λ (x : Result Job WordFault). IsErrAnd x (λ fault. fault ≡ Usage given)) answered h.1 in
    is ∙ ap Err (sym (same_cause cause given fault ∙ same))

abbrev fault_in : Result Job WordFault → WordFault
fault_in (Ok job) = Memory
fault_in (Err fault) = fault

pub answered_by : (p : Parts) (cause named : UsageCause) → ◌≡◌ {A = Result Job WordFault} (Err (Usage named)) (Err (Usage cause)) → asked p ≡ Err named → asked p ≡ Err cause
answered_by p cause named e is = is ∙ ap Err (same_cause named cause (ap fault_in e))

-- the texts of a job are those of the parts
pub with_texts : (p : Parts) (verb : Verb) (workers burst budget grow : ℕ) (round : RoundKind) (top trace : List ℕ) (ports : List PortText)
    → top ≡ p.top → ports ≡ map port p.ports → trace ≡ p.trace
    → asked p ≡ Ok (record { verb = verb; top = p.top; ports = map port p.ports; trace = p.trace; workers = workers; round = round; burst = burst; budget = budget; grow = grow })
    → asked p ≡ Ok (record { verb = verb; top = top; ports = ports; trace = trace; workers = workers; round = round; burst = burst; budget = budget; grow = grow })
with_texts p verb workers burst budget grow round top trace ports et ep er is =
    let job : List ℕ → List PortText → List ℕ → JobText = λ t ps r. record { verb = verb; top = t; ports = ps; trace = r; workers = workers; round = round; burst = burst; budget = budget; grow = grow } in
    is ∙ ap (λ t. Ok (job t (map port p.ports) p.trace)) (sym et) ∙ ap (λ ps. Ok (job top ps p.trace)) (sym ep) ∙ ap (λ r. Ok (job top ports r)) (sym er)

module _ (p : Parts) where
  pub no_verb : verb_of p.verb ≡ None → asked p ≡ Err VerbCause
  unfolding asked
  no_verb e = rw e refl

  module _ (verb : Verb) (v : verb_of p.verb ≡ Some verb) where
    pub no_top : is_top verb p.top ≡ false → asked p ≡ Err Top
    unfolding asked
    no_top e = rw (v, e) refl

    module _ (t : is_top verb p.top ≡ true) where
      pub no_workers : given_or default_workers (number 1 max_workers) p.workers ≡ None → asked p ≡ Err Number
      unfolding asked
      no_workers e = rw (v, t, e) refl

      module _ (workers : ℕ) (w : given_or default_workers (number 1 max_workers) p.workers ≡ Some workers) where
        pub no_burst : given_or default_burst (number 1 max_burst) p.burst ≡ None → asked p ≡ Err Number
        unfolding asked
        no_burst e = rw (v, t, w, e) refl

        module _ (burst : ℕ) (b : given_or default_burst (number 1 max_burst) p.burst ≡ Some burst) where
          pub no_budget : given_or default_budget (number 1 max_budget) p.budget ≡ None → asked p ≡ Err Number
          unfolding asked
          no_budget e = rw (v, t, w, b, e) refl

          module _ (budget : ℕ) (g : given_or default_budget (number 1 max_budget) p.budget ≡ Some budget) where
            pub no_grow : given_or 0 (number 1 max_grow) p.grow ≡ None → asked p ≡ Err Number
            unfolding asked
            no_grow e = rw (v, t, w, b, g, e) refl

            module _ (grow : ℕ) (l : given_or 0 (number 1 max_grow) p.grow ≡ Some grow) where
              pub no_round : given_or All round_of p.round ≡ None → asked p ≡ Err Round
              unfolding asked
              no_round e = rw (v, t, w, b, g, l, e) refl

              module _ (round : RoundKind) (r : given_or All round_of p.round ≡ Some round) where
                pub no_port : list_all is_port p.ports ≡ false → asked p ≡ Err Port
                unfolding asked
                no_port e = rw (v, t, w, b, g, l, r, e) refl

                module _ (k : list_all is_port p.ports ≡ true) where
                  pub no_trace : lacks_trace verb p.trace ≡ true → asked p ≡ Err Trace
                  unfolding asked
                  no_trace e = rw (v, t, w, b, g, l, r, k, e) refl

                  pub whole_job : lacks_trace verb p.trace ≡ false
                      → asked p ≡ Ok (record { verb = verb; top = p.top; ports = map port p.ports; trace = p.trace; workers = workers; round = round; burst = burst; budget = budget; grow = grow })
                  unfolding asked
                  whole_job e = rw (v, t, w, b, g, l, r, k, e) refl
