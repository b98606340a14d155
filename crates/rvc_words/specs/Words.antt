-- What the words of the command line ask for.
-- Trusted: part of what a promise means.
use Rattle.std.specs.Prelude.{ℕ, ◌≤◌, Bool, true, false, not, if◌then◌else◌, List, map, string_bytes, Result, Ok, Err, ok_or}
use Rattle.std.specs.List.{list_all}
use Rattle.rvc_base.specs.declared.round_kind.RoundKind.{RoundKind}
use Rattle.rvc_base.specs.declared.round_kind.RoundKind.TheVariants.{All}
use Rattle.rvc_words.specs.declared.fault.UsageCause.{UsageCause}
use Rattle.rvc_words.specs.declared.fault.UsageCause.TheVariants.{Words, Verb as VerbCause, Top, Number, Round, Port, Trace}
use Rattle.rvc_words.specs.declared.job.Job.{Job}
use Rattle.rvc_words.specs.declared.job.PortWord.{PortWord}
use Rattle.rvc_words.specs.declared.job.Verb.{Verb}
pub use Rattle.rvc_words.specs.Texts.{texts}
use Rattle.rvc_words.specs.Command.{Parts, matches, parts_of, refuses}
use Rattle.rvc_words.specs.Forms.{front_of, given_or, is_port, is_top, lacks_trace, number, rest_of, round_of, verb_of}
use Rattle.rvc_words.specs.Limits.{default_budget, default_burst, default_workers, max_budget, max_burst, max_grow, max_workers}

-- a port and the file that it is read from or written to
pub record PortText : Type 0 where
  pub name : List ℕ
  pub file : List ℕ

-- what is to be done
pub record JobText : Type 0 where
  pub verb : Verb
  pub top : List ℕ
  pub ports : List PortText
  pub trace : List ℕ
  pub workers : ℕ
  pub round : RoundKind
  pub burst : ℕ
  pub budget : ℕ
  pub grow : ℕ

abbrev pub port : List ℕ → PortText
port word = record { name = front_of 61 word; file = rest_of 61 word }

-- what holds, or the cause that is named if it doesn't
abbrev pub kept : {A : Type 0} → Bool → A → UsageCause → Result A UsageCause
kept true value cause = Ok value
kept false value cause = Err cause

abbrev pub and_then : {A B : Type 0} → Result A UsageCause → (A → Result B UsageCause)
    → Result B UsageCause
and_then (Ok value) next = next value
and_then (Err cause) next = Err cause

infixl 10 ◌>>=◌
abbrev pub ◌>>=◌ : {A B : Type 0} → Result A UsageCause → (A → Result B UsageCause)
    → Result B UsageCause
r >>= next = and_then r next

-- what the parts of a command ask for, or the first of them that isn't of its form
unfoldable pub asked : Parts → Result JobText UsageCause
asked p = do
  verb ← ok_or (verb_of p.verb) VerbCause
  top ← kept (is_top verb p.top) p.top Top
  workers ← ok_or (given_or default_workers (number 1 max_workers) p.workers) Number
  burst ← ok_or (given_or default_burst (number 1 max_burst) p.burst) Number
  budget ← ok_or (given_or default_budget (number 1 max_budget) p.budget) Number
  grow ← ok_or (given_or 0 (number 1 max_grow) p.grow) Number
  round ← ok_or (given_or All round_of p.round) Round
  ports ← kept (list_all is_port p.ports) (map port p.ports) Port
  trace ← kept (not (lacks_trace verb p.trace)) p.trace Trace
  Ok (record {
    verb = verb;
    top = top;
    ports = ports;
    trace = trace;
    workers = workers;
    round = round;
    burst = burst;
    budget = budget;
    grow = grow;
  })

-- what the words ask for, the program's name first, or why they are no job
unfoldable pub job : List (List ℕ) → Result JobText UsageCause
job words = if refuses words then Err Words else asked (parts_of (matches words))

abbrev pub port_text : PortWord → PortText
port_text p = record { name = string_bytes p.name; file = string_bytes p.file }

-- what a job says
abbrev pub job_text : Job → JobText
job_text j = record {
  verb = j.verb;
  top = string_bytes j.top;
  ports = map port_text j.ports.items;
  trace = string_bytes j.trace;
  workers = j.workers;
  round = j.round;
  burst = j.burst;
  budget = j.budget;
  grow = j.grow;
}

-- the numbers of a job lie within their limits
pub record IsWithin (j : JobText) : Type 0 where
  pub workers_least : 1 ≤ j.workers
  pub workers_most : j.workers ≤ max_workers
  pub burst_least : 1 ≤ j.burst
  pub burst_most : j.burst ≤ max_burst
  pub budget_least : 1 ≤ j.budget
  pub budget_most : j.budget ≤ max_budget
  pub grow_most : j.grow ≤ max_grow
