-- Words that match aren't wrong.
use Rattle.std.proofs.Common.{◌≡◌, inl, inr, ℕ, Bool, true, false, List, take, Option, Some, sym, ap, ◌∙◌}
use Rattle.std.specs.Prelude.{slice_get}
use Rattle.std.proofs.lemmas.Option.{slice_get_within}
use Rattle.rvc_base.specs.declared.refusal.Refusal.{Refusal}
use Rattle.cmd_ports.specs.Matching.{AreMatched, IsWrongWord, is_named, is_port}
use Rattle.rvc_words.specs.Words.{PortText}

same_word : (o : Option PortText) (v w : PortText) → o ≡ Some v → o ≡ Some w → v ≡ w
same_word o v w a b = cc

pub none_wrong : (ports : List (List ℕ)) (words : List PortText) (r : Refusal) → AreMatched ports words → IsWrongWord ports words r → ⊥
none_wrong ports words r matched wrong =
    let is = wrong.1 in
    let fits = matched r.place.offset (slice_get_within words r.place.offset is.word is.is_there) in
    let same : fits.word ≡ is.word = same_word (slice_get words r.place.offset) fits.word is.word fits.is_there is.is_there in
    elim is.breaks [
      | inl unknown ↦ clash (is_port is.word.name ports) (ap (λ w. is_port w.name ports) (sym same) ∙ fits.known) unknown.1
      | inr twice ↦ clash _ twice.2 (ap (λ w. is_named w.name (take r.place.offset words)) (sym same) ∙ fits.first)
    ]
  where
    clash : (b : Bool) → b ≡ true → b ≡ false → ⊥
    clash b one two = cc
