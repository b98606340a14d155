-- What a run that came to its end tells of every quiet run over the same inputs, if each actor is certified.
-- Trusted: part of what a promise means.
use Rattle.std.specs.Prelude.{◌≡◌, ◌≢◌, ◌↔◌, ℕ, ◌+◌, ◌<◌, true, List, length, Option, None, Some}
use Rattle.rvc_base.specs.declared.trap.Trap.{Trap}
use Rattle.rvc_io.specs.Channels.{Channels}
use Rattle.trace_text.specs.declared.line.Line.{Line}
use Rattle.trace_text.specs.declared.line.Line.TheVariants.{Quiet as QuietLine, Trap as TrapLine, Stall as StallLine, Budget as BudgetLine}
use Rattle.cal_model.specs.Actor.{Actor}
use Rattle.cal_model.specs.Certified.{IsCertified}
use Rattle.cal_model.specs.Selection.{State as ActorState}
use Rattle.cal_model.specs.Sound.{Each}
use Rattle.net_model.specs.declared.wiring.Counts.{Counts}
use Rattle.net_model.specs.Network.{Network}
use Rattle.net_model.specs.State.{State}
use Rattle.net_model.specs.Event.{Event}
use Rattle.net_model.specs.Laws.{firings_in}
use Rattle.net_model.specs.Stable.{IsPrefix}
use Rattle.net_model.specs.Trace.{bytes_out}
use Rattle.determinacy_cert.specs.Determinacy.{IsQuietRun}
use Rattle.cmd_run_network.specs.Leaving.{HasEnded, Setting, file_out}
use Rattle.cmd_report.specs.About.{About}
use Rattle.cmd_report.specs.declared.status.Status.{Status}
use Rattle.cmd_report.specs.declared.status.Status.TheVariants as status
use Rattle.cmd_network.specs.Commands.{AreGiven, Command, run_over}
use Rattle.cmd_run.specs.Ends.{Comes, Ran}

-- ---- a run and a quiet one

-- A run came to its end by this line, in this state, and left these channels; events over the same inputs lead to a quiet
-- state. Each output has there what the run sent to it, or more behind that, and no more if the run was quiet itself; what
-- the run wrote to the file of an output begins or is that, too. If the run trapped, there are no such events. If it ended
-- by its budget, these have more firings than the budget permits.
pub record GoesOn {X : Type 0} (run : Setting X) (end : Line) (last : State X) (channels : Channels)
    (events : List Event) (quiet : State X) : Type 0 where
  pub continues : (p : ℕ) → IsPrefix (bytes_out run.net last p) (bytes_out run.net quiet p)
  pub equals : end ≡ QuietLine → (p : ℕ) → bytes_out run.net quiet p ≡ bytes_out run.net last p
  pub file_continues : channels.tells ≡ true → (p : ℕ) (file : List ℕ) → file_out run p ≡ Some file
      → IsPrefix (channels.held (2 + p)) (bytes_out run.net quiet p)
  pub file_equals : end ≡ QuietLine → channels.tells ≡ true → (p : ℕ) (file : List ℕ)
      → file_out run p ≡ Some file → channels.held (2 + p) ≡ bytes_out run.net quiet p
  pub untrapped : (i a : ℕ) (trap : Trap) → end ≢ TrapLine i a trap
  pub beyond_budget : end ≡ BudgetLine → run.pace.budget < length (firings_in events)

-- every quiet run over the same inputs goes on so, whatever its deliveries and however much its links hold
abbrev pub AllGoOn : {X : Type 0} (run : Setting X) (end : Line) (counts : Counts)
    (channels : Channels) → HasEnded run end counts channels → Type 0
AllGoOn {X} run end counts channels ended = (events : List Event) (quiet : State X)
    → IsQuietRun run.net run.inputs events quiet → GoesOn run end ended.last channels events quiet

-- ---- a command

-- the actors at the leaves of the network that a command ran
abbrev pub actors_of : {cmd : Command} {net : Network ActorState} {end : Line} {counts : Counts}
    {lines : List ℕ} {about : About}
    → Ran cmd net end counts lines about → List Actor
actors_of ran = ran.is_to_run.files.means.actors

-- A command ran until this line. Each of its actors is certified exactly if its report counts as many that are as there are
-- instances. If they are, then whatever bytes its inputs have, every quiet run over these goes on from where it ended.
pub record TellsQuietRuns {cmd : Command} {net : Network ActorState} {end : Line} {counts : Counts}
    {lines : List ℕ} {about : About} (ran : Ran cmd net end counts lines about) : Type 0 where
  pub shown : (ran.certified ≡ about.instances) ↔ Each IsCertified (actors_of ran)
  pub go_on : Each IsCertified (actors_of ran) → (inputs : List (List ℕ))
      → (given : AreGiven cmd net inputs) → AllGoOn (run_over cmd net inputs) end counts
      cmd.channels_after (ran.leaves inputs given)

-- the line by which a run ended that has this status
abbrev pub line_of : Status → Option Line
line_of status.Quiet = Some QuietLine
line_of (status.Trapped inst action trap) = Some (TrapLine inst.0 action.0 trap)
line_of (status.Stalled inst action link) = Some (StallLine inst.0 action.0 link.0)
line_of (status.Budget firings) = Some BudgetLine
line_of status.Done = None
line_of (status.Usage cause) = None
line_of (status.ReadFault at) = None
line_of (status.WriteFault channel) = None
line_of (status.Refused r) = None
line_of status.OutOfMemory = None
line_of (status.NotRun number why) = None
line_of (status.Uncertified inst state first second reason) = None

-- A command that came to this status, with these lines in its report and speaking of this, tells what every quiet run gives.
abbrev pub QuietRunsGoOn : Command → Status → (lines : List ℕ) → About → Type 0
QuietRunsGoOn cmd said lines about = (net : Network ActorState) (end : Line)
    → line_of said ≡ Some end → (counts : Counts) (ran : Ran cmd net end counts lines about)
    → TellsQuietRuns ran

-- .. whatever it is
abbrev pub RunsTellQuietRuns : Type 0
RunsTellQuietRuns = (cmd : Command) (said : Status) (lines : List ℕ) (about : About)
    → QuietRunsGoOn cmd said lines about

-- A command came to this status, and tells what every quiet run gives.
abbrev pub ComesDeterminate : Command → Status → (lines : List ℕ) → About → Type 0
ComesDeterminate cmd said lines about = Comes cmd said lines about × QuietRunsGoOn cmd said lines about
