-- A folder of files that are read whole.
-- Trusted: part of what a promise means.
use Rattle.std.specs.Prelude.{ℕ, List, [], ◌∷◌, Bool, true, false, ◌||◌, ◌==◌, slice_index_or}
use Rattle.std.specs.List.{slice_split, list_any}
use Rattle.std.specs.Str.{bytes_eq}
use Rattle.rvc_io.specs.Past.{Done}
use Rattle.rvc_io.specs.Told.{Told, Untold}
use Rattle.rvc_io.specs.declared.library.ReadAnswer.{ReadAnswer}
use Rattle.rvc_io.specs.declared.library.ReadAnswer.TheVariants.{Found, Missing, Failed, TooLong, Memory}

-- how many reads failed, how many names were missing, and what was done
pub record FolderState : Type 0 where
  pub faults : ℕ
  pub misses : ℕ
  pub past : List Done

-- what is known of a file, which is nothing
abbrev pub file_told : FolderState → List ℕ → Told
file_told l name = Untold

-- the parts of a path, which slashes divide
abbrev pub parts : List ℕ → List (List ℕ)
parts path = slice_split (λ b. b == 47) path

-- a part is two dots
abbrev pub is_up : List ℕ → Bool
is_up part = bytes_eq part (46 ∷ 46 ∷ [])

-- a path leads out of the folder: it begins with a slash, or one of its parts is two dots
abbrev pub leads_out : List ℕ → Bool
leads_out path = (slice_index_or path 0 0 == 47) || list_any is_up (parts path)

abbrev pub is_failed : ReadAnswer → Bool
is_failed Failed = true
is_failed Found = false
is_failed Missing = false
is_failed TooLong = false
is_failed Memory = false

abbrev pub is_missing : ReadAnswer → Bool
is_missing Missing = true
is_missing Found = false
is_missing Failed = false
is_missing TooLong = false
is_missing Memory = false
