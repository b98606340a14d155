-- The report: the lines of a verb, and the last line.
-- Trusted: part of what a promise means.
use Rattle.std.specs.Prelude.{ℕ, ◌+◌, List, [], ◌∷◌, ◌++◌, Option, None, Some, codes, decimal, if◌then◌else◌, length, slice_index_or}
use Rattle.rvc_base.specs.Refusal.{rule_text}
use Rattle.rvc_base.specs.declared.refusal.Refusal.{Refusal}
use Rattle.rvc_base.specs.Trap.{trap_name}
use Rattle.rvc_base.specs.declared.trap.Trap.{Trap}
use Rattle.rvc_words.specs.Causes.{cause_name}
use Rattle.rvc_words.specs.declared.fault.UsageCause.{UsageCause}
use Rattle.net_model.specs.declared.wiring.Counts.{Counts}
use Rattle.net_model.specs.declared.wiring.End.{End}
use Rattle.net_model.specs.declared.wiring.End.TheVariants.{Leaf as AtLeaf, Net as AtNet}
use Rattle.net_model.specs.declared.wiring.Link.{Link}
use Rattle.trace_replay.specs.declared.why.Why.{Why}
use Rattle.trace_replay.specs.declared.why.Why.TheVariants as why
use Rattle.determinacy_cert.specs.declared.fault.Reason.{Reason}
use Rattle.determinacy_cert.specs.declared.fault.Reason.TheVariants as reason
use Rattle.cmd_report.specs.About.{About, file_name, unread_name}
use Rattle.cmd_report.specs.Line.{line}
use Rattle.cmd_report.specs.Status.{came_to_its_end}
use Rattle.cmd_report.specs.declared.status.Status.{Status}
use Rattle.cmd_report.specs.declared.status.Status.TheVariants as status

-- ---- the lines of verbs

-- how many instances and links there are
abbrev pub size_lines : About → List ℕ
size_lines a =
    line (codes "instances") (decimal a.instances ∷ [])
    ++ line (codes "links") (decimal (length a.links) ∷ [])

-- how many instances are certified
abbrev pub certified_line : ℕ → List ℕ
certified_line certified = line (codes "certified") (decimal certified ∷ [])

-- the same, if it is known
abbrev pub certified_lines : Option ℕ → List ℕ
certified_lines None = []
certified_lines (Some certified) = certified_line certified

-- how many firings were made, and how many deliveries
abbrev pub count_lines : Counts → List ℕ
count_lines c =
    line (codes "firings") (decimal c.firings ∷ []) ++ line (codes "rounds") (decimal c.rounds ∷ [])

-- the line of an input link: its port, its number, the tokens that arrived, and the bytes that were no token
abbrev pub in_line : (name : List ℕ) → (link arrived rest : ℕ) → List ℕ
in_line name link arrived rest = line (codes "in")
    (name ∷ decimal link ∷ codes "tokens" ∷ decimal arrived ∷ codes "rest" ∷ decimal rest ∷ [])

-- the line of a link of this number that begins here, if that is an input of the network
abbrev pub in_lines_at : (from : End) → (link : ℕ) → (ins : List (List ℕ)) → Counts → List ℕ
in_lines_at (AtLeaf inst port) link ins c = []
in_lines_at (AtNet port) link ins c = in_line (slice_index_or ins port [])
    link (slice_index_or c.arrived.items link 0) (slice_index_or c.rests.items link 0)

-- those of links in their order, the first of which has this number
abbrev pub in_lines : (number : ℕ) → List Link → (ins : List (List ℕ)) → Counts → List ℕ
in_lines number [] ins c = []
in_lines number (link ∷ links) ins c =
    in_lines_at link.from number ins c ++ in_lines (number + 1) links ins c

-- the line of an output: its name, and the tokens that were sent
abbrev pub out_line : (name : List ℕ) → (sent : ℕ) → List ℕ
out_line name sent = line (codes "out") (name ∷ codes "tokens" ∷ decimal sent ∷ [])

-- those of outputs in their order, the first of which has this number
abbrev pub out_lines : (number : ℕ) → (outs : List (List ℕ)) → Counts → List ℕ
out_lines number [] c = []
out_lines number (name ∷ outs) c =
    out_line name (slice_index_or c.sent.items number 0) ++ out_lines (number + 1) outs c

-- the lines of a verb that makes or replays a run: the numbers of the network and of the run, and then its ports
abbrev pub run_lines : About → (certified : Option ℕ) → Counts → List ℕ
run_lines a certified c =
    (size_lines a ++ certified_lines certified ++ count_lines c)
    ++ (in_lines 0 a.links a.ins c ++ out_lines 0 a.outs c)

-- ---- the last line

-- why a line is in no run
abbrev pub why_name : Why → List ℕ
why_name why.Form = codes "Form"
why_name why.Header = codes "Header"
why_name why.NotExposed = codes "NotExposed"
why_name why.NoRoom = codes "NoRoom"
why_name why.Trap = codes "Trap"
why_name why.End = codes "End"
why_name why.After = codes "After"
why_name why.Cut = codes "Cut"
why_name why.TooLong = codes "TooLong"

-- what an actor lacks that isn't certified
abbrev pub reason_name : Reason → List ℕ
reason_name reason.C1 = codes "C1"
reason_name reason.C2 = codes "C2"
reason_name reason.C3 = codes "C3"
reason_name reason.C4 = codes "C4"

-- how the program is used
unfoldable pub usage : List ℕ
usage = codes "rvc VERB TOP [PORT=FILE ..] [--trace FILE] [--workers N] [--round P] [--burst N] [--budget N] [--grow N]"

-- the cause why words aren't a job, and how the program is used
abbrev pub usage_lines : UsageCause → List ℕ
usage_lines cause = line (codes "usage") (cause_name cause ∷ []) ++ line usage []

-- the rule that is broken, the file, and the place in it
abbrev pub refusal_line : About → Refusal → List ℕ
refusal_line a r = line (codes "refused")
    (rule_text r.rule ∷ file_name a r.place.file ∷ decimal r.place.offset ∷ [])

-- the instance and its action, and what the firing trapped by
abbrev pub trap_line : (inst action : ℕ) → Trap → List ℕ
trap_line inst action trap =
    line (codes "trapped") (decimal inst ∷ decimal action ∷ trap_name trap ∷ [])

-- the instance and its action, and the link that lacks room
abbrev pub stall_line : (inst action link : ℕ) → List ℕ
stall_line inst action link =
    line (codes "stalled") (decimal inst ∷ decimal action ∷ decimal link ∷ [])

-- the line of the trace that no run has, and why
abbrev pub no_run_line : ℕ → Why → List ℕ
no_run_line number why = line (codes "not a run") (decimal number ∷ why_name why ∷ [])

-- the instance, the state of its schedule, and two actions, for which the rule of certification fails
abbrev pub uncertified_line : (inst state a b : ℕ) → Reason → List ℕ
uncertified_line inst state a b reason = line (codes "uncertified")
    (decimal inst ∷ decimal state ∷ decimal a ∷ decimal b ∷ reason_name reason ∷ [])

-- The last line. Behind a cause why words aren't a job comes another line, how the program is used.
abbrev pub last_line : About → Status → List ℕ
last_line a status.Quiet = line (codes "quiet") []
last_line a status.Done = line (codes "done") []
last_line a (status.Usage cause) = usage_lines cause
last_line a (status.ReadFault at) = line (codes "read fault") (unread_name a at ∷ [])
last_line a (status.WriteFault channel) = line (codes "write fault") (decimal channel ∷ [])
last_line a (status.Refused refusal) = refusal_line a refusal
last_line a (status.Trapped inst action trap) = trap_line inst.0 action.0 trap
last_line a (status.Stalled inst action link) = stall_line inst.0 action.0 link.0
last_line a (status.Budget firings) = line (codes "budget") (decimal firings ∷ [])
last_line a status.OutOfMemory = line (codes "out of memory") []
last_line a (status.NotRun number why) = no_run_line number why
last_line a (status.Uncertified inst state first second reason) =
    uncertified_line inst.0 state first.0 second.0 reason

-- ---- the whole

-- A report: the lines of the verb, if the command came to its end, and the last line.
abbrev pub report : (lines : List ℕ) → About → Status → List ℕ
report lines a status = (if came_to_its_end status then lines else []) ++ last_line a status
