use Rattle.std.proofs.Common.{◌≡◌, ◌-◌, ◌++◌, ◌∷◌, [], FitsSigned, List, ℕ, ℤ, rules, to_z, of_z, ap, sym, ◌∙◌, length, take}
use Rattle.std.proofs.lemmas.Int.{to_z-of_z}
use Rattle.rvc_base.specs.Width.{num_width}
use Rattle.token_ring.specs.Queue.{Queue}
use Rattle.token_ring.proofs.Newest.{newest}
use Rattle.token_ring.proofs.ring.Ring.take_back.Goals as goal

abbrev queue-with : ℕ → List ℤ → Queue
queue-with capacity tokens = record { tokens = tokens; capacity = capacity }

pub returns : goal.returns
returns c =
    let fits : FitsSigned num_width c.unwrap.result = search rules in
    let items = c.self.inside.tokens.items in
    let capacity = c.self.inside.tokens.capacity in
    let token : to_z num_width (of_z num_width c.unwrap.result) ≡ c.unwrap.result = to_z-of_z num_width c.unwrap.result fits in
    let whole : items ≡ take (length items - 1) items ++ c.unwrap.result ∷ [] = newest items c.unwrap.result (sym c.pop_back.ensures.value ∙ c.unwrap.ensures) in
    let left : c.pop_back.new.self.items ≡ take (length items - 1) items = ap (λ b. b.items) c.pop_back.ensures.items in
    let room : c.pop_back.new.self.capacity ≡ capacity = ap (λ b. b.capacity) c.pop_back.ensures.items in
    let all : items ≡ c.pop_back.new.self.items ++ to_z num_width (of_z num_width c.unwrap.result) ∷ [] =
    whole ∙ (ap (λ ts. ts ++ c.unwrap.result ∷ []) (sym left) ∙ ap (λ v. c.pop_back.new.self.items ++ v ∷ []) (sym token)) in
    sym c.self.view_is
    ∙ (ap (queue-with capacity) all ∙ ap (λ n. queue-with n (c.pop_back.new.self.items ++ to_z num_width (of_z num_width c.unwrap.result) ∷ [])) (sym room))
