-- Ports that are found one after another.
use Rattle.std.proofs.Common.{◌≡◌, ℕ, List, [], ◌∷◌, ◌++◌, refl, sym, ap, ◌∙◌, append_assoc}
use Rattle.std.proofs.lemmas.List.{append-nil}
use Rattle.rvc_base.specs.declared.refusal.Rule.{Rule}
use Rattle.cal_model.specs.Kinding.{Judged, Fine, Broken, and_so}

-- those that were found, and those that are judged behind them
abbrev pub behind : List ℕ → Judged (List ℕ) → Judged (List ℕ)
behind found j = and_so j (λ ps. Fine (found ++ ps))

pushed : (found : List ℕ) (p : ℕ) (j : Judged (List ℕ)) → behind found (and_so j (λ ps. Fine (p ∷ ps))) ≡ behind (found ++ p ∷ []) j
pushed found p (Fine ps) = ap Fine (sym (append_assoc found (p ∷ []) ps))
pushed found p (Broken rule at) = refl

pub behind-next : (found : List ℕ) (p : ℕ) (o : Judged ℕ) (j : Judged (List ℕ)) → o ≡ Fine p
    → behind found (and_so o (λ q. and_so j (λ ps. Fine (q ∷ ps)))) ≡ behind (found ++ p ∷ []) j
behind-next found p o j e = ap (λ x. behind found (and_so x (λ q. and_so j (λ ps. Fine (q ∷ ps))))) e ∙ pushed found p j

pub behind-broken : (found : List ℕ) (o : Judged ℕ) (g : ℕ → Judged (List ℕ)) (rule : Rule) (at : ℕ) → o ≡ Broken rule at → behind found (and_so o g) ≡ Broken rule at
behind-broken found o g rule at e = ap (λ x. behind found (and_so x g)) e

pub behind-all : (found : List ℕ) → behind found (Fine []) ≡ Fine found
behind-all found = ap Fine (append-nil found)

pub behind-none : (j : Judged (List ℕ)) → behind [] j ≡ j
behind-none (Fine ps) = refl
behind-none (Broken rule at) = refl
