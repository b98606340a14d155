-- What clap's clauses say of the command.
use Rattle.std.proofs.Common.{inl, inr, ◌≡◌, ◌∙◌, ap, sym, refl, true, false, List, [], ◌∷◌, codes}
use Rattle.clap.specs.Walk.{Row, Text}
use Rattle.clap.specs.Simple.{App, app_of_fields, is_simple, matches_of, new_app, with_rule}
use Rattle.clap.specs.Faults.{fault_of, is_simple_and_free}
use Rattle.clap.specs.Kinds.{HasKind, Kinds}
use Rattle.clap.specs.Values.{kind_of}
use Rattle.clap.specs.declared.error.Error.{Error}
use Rattle.clap.specs.declared.error.kind.ErrorKind.TheVariants.{OutOfMemory}
use Rattle.clap.specs.declared.builder.command.Command.{Command}
use Rattle.clap.specs.declared.builder.command.Command.TheOpen.{Command-F}
use Rattle.rvc_words.specs.Command.{is_some_fault, last_place, matches, option, place, refuses, rvc, without_flags}

simple : is_simple rvc ≡ true
unfolding rvc
simple = refl

simple_and_free : is_simple_and_free rvc ≡ true
unfolding rvc
simple_and_free = refl

-- the flags are left out
pub bare : (f : Command-F Command) → app_of_fields f ≡ new_app (codes "rvc")
    → app_of_fields (record f { disable_help_flag = true; disable_version_flag = true }) ≡ without_flags (new_app (codes "rvc"))
bare f e = ap without_flags e

-- the command is put together
pub whole : (a b c d e f g h i last : App) → a ≡ without_flags (new_app (codes "rvc"))
    → b ≡ with_rule a (place (codes "VERB")) → c ≡ with_rule b (place (codes "TOP")) → d ≡ with_rule c (last_place (codes "PORTS"))
    → e ≡ with_rule d (option (codes "trace")) → f ≡ with_rule e (option (codes "workers")) → g ≡ with_rule f (option (codes "round"))
    → h ≡ with_rule g (option (codes "burst")) → i ≡ with_rule h (option (codes "budget")) → last ≡ with_rule i (option (codes "grow")) → last ≡ rvc
unfolding rvc
whole a b c d e f g h i last ea eb ec ed ee ef eg eh ei el =
    el ∙ ap (λ x. with_rule x (option (codes "grow"))) (ei ∙ ap (λ x. with_rule x (option (codes "budget"))) (eh ∙ ap (λ x. with_rule x (option (codes "burst"))) (eg
    ∙ ap (λ x. with_rule x (option (codes "round"))) (ef ∙ ap (λ x. with_rule x (option (codes "workers"))) (ee
    ∙ ap (λ x. with_rule x (option (codes "trace"))) (ed ∙ ap (λ x. with_rule x (last_place (codes "PORTS"))) (ec
    ∙ ap (λ x. with_rule x (place (codes "TOP"))) (eb ∙ ap (λ x. with_rule x (place (codes "VERB"))) ea))))))))

pub accepted : (a : App) (words : List Text) → a ≡ rvc → (is_simple_and_free a ≡ true → fault_of a words ≡ []) → refuses words ≡ false
unfolding refuses
accepted a words e h = ap is_some_fault (ap (λ b. fault_of b words) (sym e) ∙ h (ap is_simple_and_free e ∙ simple_and_free))

pub matched : (a : App) (words : List Text) (rows : List Row) (X : Type 0) → a ≡ rvc → (is_simple a ≡ true → (rows ≡ matches_of a words) × X) → rows ≡ matches words
unfolding matches
matched a words rows X e h = (h (ap is_simple e ∙ simple)).0 ∙ ap (λ b. matches_of b words) e

has_fault : (kinds : Kinds) (error : Error) → HasKind kinds error → (kind_of error ≡ OutOfMemory → ⊥) → is_some_fault kinds ≡ true
has_fault [] error (inl memory) other = absurd (other memory)
has_fault [] error (inr none) other = absurd none
has_fault (kind ∷ kinds) error h other = refl

pub refused : (a : App) (words : List Text) (error : Error) → a ≡ rvc → (is_simple_and_free a ≡ true → HasKind (fault_of a words) error) → (kind_of error ≡ OutOfMemory → ⊥) → refuses words ≡ true
unfolding refuses
refused a words error e h other =
    ap (λ b. is_some_fault (fault_of b words)) (sym e) ∙ has_fault (fault_of a words) error (h (ap is_simple_and_free e ∙ simple_and_free)) other
