-- Texts written one after another.
use Rattle.std.proofs.Common.{◌≡◌, ℕ, List, [], ◌++◌, sym, ap, ◌∙◌, append_assoc, append-nil}
use Rattle.channel_writer.specs.Held.{HoldsFront, Writes}

pub writes-nothing : (held pending : List ℕ) → Writes held pending held pending []
writes-nothing held pending = record {
  put = [];
  new_is = sym (append-nil held);
  text_is = append-nil pending;
}

module _ (h p h' p' h'' t : List ℕ) (first : Writes h p h' p' t) where
  -- what is buffered and what comes behind it, by what was put first
  regrouped : (u put left : List ℕ) → p' ++ u ≡ put ++ left → p ++ (t ++ u) ≡ (first.put ++ put) ++ left
  regrouped u put left e =
      sym (append_assoc p t u) ∙ ap (λ xs. xs ++ u) first.text_is ∙ append_assoc first.put p' u
      ∙ ap (λ xs. first.put ++ xs) e ∙ sym (append_assoc first.put put left)

  longer : (put : List ℕ) → h'' ≡ h' ++ put → h'' ≡ h ++ (first.put ++ put)
  longer put e = e ∙ ap (λ xs. xs ++ put) first.new_is ∙ append_assoc h first.put put

  pub writes-then : (p'' u : List ℕ) → Writes h' p' h'' p'' u → Writes h p h'' p'' (t ++ u)
  writes-then p'' u second = record {
    put = first.put ++ second.put;
    new_is = longer second.put second.new_is;
    text_is = regrouped u second.put p'' second.text_is;
  }

  pub breaks-then : (u : List ℕ) → HoldsFront h' h'' (p' ++ u) → HoldsFront h h'' (p ++ (t ++ u))
  breaks-then u second = record {
    put = first.put ++ second.put;
    left = second.left;
    new_is = longer second.put second.new_is;
    text_is = regrouped u second.put second.left second.text_is;
  }

-- a prefix of a text is one of a longer text
pub front-longer : (h h' t u : List ℕ) → HoldsFront h h' t → HoldsFront h h' (t ++ u)
front-longer h h' t u front = record {
  put = front.put;
  left = front.left ++ u;
  new_is = front.new_is;
  text_is = ap (λ xs. xs ++ u) front.text_is ∙ append_assoc front.put front.left u;
}

-- what was written is a prefix of it and of all that follows
pub front-of_writes : (h p h' p' t u : List ℕ) → Writes h p h' p' t → HoldsFront h h' (p ++ (t ++ u))
front-of_writes h p h' p' t u first = record {
  put = first.put;
  left = p' ++ u;
  new_is = first.new_is;
  text_is = sym (append_assoc p t u) ∙ ap (λ xs. xs ++ u) first.text_is ∙ append_assoc first.put p' u;
}
