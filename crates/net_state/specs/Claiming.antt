-- The cells of a round as tasks that workers claim, and back.
-- Not trusted: no promise is read with it.
use Rattle.std.specs.Prelude.{◌≡◌, ℕ, suc, ◌<◌, Bool, true, false, List, [], ◌∷◌, ◌++◌, length, Option, None, Some}
use Rattle.net_model.specs.Cell.{Cell}
use Rattle.net_model.specs.declared.firing.BurstEnd.{BurstEnd}
use Rattle.claimed_bursts.specs.Tasks.{Task}
use Rattle.net_state.specs.declared.made.Bursts.{Bursts as Made}
use Rattle.net_state.specs.declared.sharing.Part.{Part}
use Rattle.net_state.specs.declared.sharing.Shares.{Shares}
use Rattle.net_state.specs.Made.{joined, made_by, none_made}

-- all cells of a round
abbrev pub whole : Shares → Part
whole shares = record { cell = 0; before = 0; picks = shares.picks }

-- a list from its end
abbrev pub back : {A : Type 0} → List A → List A
back [] = []
back (x ∷ xs) = back xs ++ x ∷ []

-- the tasks of the marked cells, of which the first cell has number i; k lower ones are marked
abbrev pub tasks_of : {C : Type 0} → (ℕ → ℕ) → ℕ → ℕ → List Bool → List (List ℕ) → List C → List (Task C)
tasks_of limit i k [] rows cells = []
tasks_of limit i k (mark ∷ marks) [] cells = []
tasks_of limit i k (mark ∷ marks) (row ∷ rows) [] = []
tasks_of limit i k (true ∷ marks) (row ∷ rows) (cell ∷ cells) =
    record { cell = cell; inst = record { 0 = i }; limit = limit k; rooms = row; end = None }
    ∷ tasks_of limit (suc i) (suc k) marks rows cells
tasks_of limit i k (false ∷ marks) (row ∷ rows) (cell ∷ cells) =
    tasks_of limit (suc i) k marks rows cells

-- the cells that aren't marked
abbrev pub rest_of : {C : Type 0} → List Bool → List C → List C
rest_of [] cells = []
rest_of (mark ∷ marks) [] = []
rest_of (true ∷ marks) (cell ∷ cells) = rest_of marks cells
rest_of (false ∷ marks) (cell ∷ cells) = cell ∷ rest_of marks cells

-- the cells of tasks and other ones, each in its place
abbrev pub merged : {C : Type 0} → List Bool → List (Task C) → List C → List C
merged [] tasks rest = []
merged (true ∷ marks) [] rest = []
merged (true ∷ marks) (task ∷ tasks) rest = task.cell ∷ merged marks tasks rest
merged (false ∷ marks) tasks [] = []
merged (false ∷ marks) tasks (cell ∷ rest) = cell ∷ merged marks tasks rest

-- a task is left, or another cell
abbrev pub Nexts : {C : Type 0} → Bool → List (Task C) → List C → Type 0
Nexts true tasks rest = 0 < length tasks
Nexts false tasks rest = 0 < length rest

-- the cell is that of the last task, or the last one of the others
abbrev pub IsTaken : {C : Type 0} → Bool → List (Task C) → List C → C → List (Task C) → List C → Type 0
IsTaken {C} true tasks rest cell tasks_left rest_left =
    ((task : Task C) × (tasks ≡ tasks_left ++ task ∷ []) × (cell ≡ task.cell)) × (rest_left ≡ rest)
IsTaken false tasks rest cell tasks_left rest_left =
    (rest ≡ rest_left ++ cell ∷ []) × (tasks_left ≡ tasks)

-- what came of the burst of a task, if it was made, and of those of higher cells
abbrev pub with_end : Option BurstEnd → (BurstEnd → Made) → Made → Made
with_end None one made = made
with_end (Some end) one made = joined (one end) made

module _ {C X : Type 0} (view : C → Cell X) where
  abbrev pub made_with : Task C → Made → Made
  made_with task made =
      with_end task.end (λ end. made_by task.inst (length (view task.cell).journal) end) made

  -- what came of the bursts of tasks, of which the first is that of the lowest cell
  abbrev pub made_all : List (Task C) → Made
  made_all [] = none_made
  made_all (task ∷ tasks) = made_with task (made_all tasks)
