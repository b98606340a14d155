-- The words of a line, one after another.
use Rattle.std.proofs.Common.{◌≡◌, ℕ, suc, ◌+◌, ◌<◌, List, ◌∷◌, ◌++◌, length, drop, map, ap, ◌∙◌, arith}
use Rattle.std.specs.Prelude.{codes}
use Rattle.std.proofs.Math.ListN.{get_or}
use Rattle.std.proofs.Math.Seq.{drop-cons}
use Rattle.cmd_report.specs.Line.{behind_blanks}
use Rattle.cmd_report.specs.WordText.{word_text}
use Rattle.cmd_report.specs.declared.words.Word.{Word}

-- the words from a place on are the one at the place and those behind it
pub next_word : (words : List Word) (i : ℕ) (d : Word) → i < length words
    → behind_blanks (map word_text (drop i words)) ≡ (codes " " ++ word_text (get_or words i d)) ++ behind_blanks (map word_text (drop (i + 1) words))
next_word words i d less =
    let more : suc i ≡ i + 1 = omega arith in
    ap (λ ws. behind_blanks (map word_text ws)) (drop-cons words i d less ∙ ap (λ k. get_or words i d ∷ drop k words) more)
