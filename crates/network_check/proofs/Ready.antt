-- Files that were loaded can be checked.
use Rattle.std.proofs.Common.{◌≡◌, ◌⊎◌, inl, inr, ℕ, true, List, refl, sym, subst}
use Rattle.std.specs.Prelude.{is_some}
use Rattle.cal_imports.specs.Sources.{source_named}
use Rattle.cal_files.specs.Loading.{Counts, Library}
use Rattle.law_sources.specs.Names.{AreSpelled, NetworkFilesAreSpelled}
use Rattle.fnl_bind.specs.Library.{network_of}
use Rattle.fnl_files.specs.Views.{HasFile, HoldsLoaded, asked_of}
use Rattle.fnl_files.specs.declared.kind.FileKind.{FileKind}
use Rattle.fnl_files.specs.declared.kind.FileKind.TheVariants as kinds
use Rattle.fnl_source.specs.Files.{class_asked}
use Rattle.fnl_source.specs.Source.{Files}
use Rattle.network_check.specs.Steps.{AreReady}

-- ---- the class that is asked for

pub class_is : (class : List ℕ) (kind : FileKind) → class_asked (asked_of class kind) ≡ class
class_is class kinds.Network = refl
class_is class kinds.Actor = refl
class_is class kinds.Either = refl

has_class : (class : List ℕ) (kind : FileKind) (files : Files) → HasFile (asked_of class kind) files
    → (is_some (network_of class files.networks) ≡ true) ⊎ (is_some (source_named class files.sources) ≡ true)
has_class class kinds.Network files h = inl h
has_class class kinds.Actor files h = inr h
has_class class kinds.Either files h = h

-- ---- the whole

pub ready : (library : Library) (class : List ℕ) (kind : FileKind) (misses : Counts) (files : Files) (names : List (List ℕ)) → NetworkFilesAreSpelled
    → HasFile (asked_of class kind) files → HoldsLoaded library (asked_of class kind) misses files names → AreReady files class
ready library class kind misses files told spelled has h = record {
  has_top = has_class class kind files has;
  spelled = sources_spelled;
}
  where
    sources_spelled : AreSpelled files.sources
    sources_spelled = subst (λ fs. AreSpelled fs.sources) (sym h.holds.files_are) (spelled library (asked_of class kind) h.reads h.are_loaded)
