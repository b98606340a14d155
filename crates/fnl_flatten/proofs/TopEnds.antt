-- Which own ports of networks are ends of links: those of the top.
use Rattle.std.proofs.Common.{◌≡◌, ℕ, zero, suc, ◌<◌, ◌≤◌, Bool, true, false, refl, arith}
use Rattle.std.specs.Prelude.{None, Some}
use Rattle.net_model.specs.declared.wiring.End.TheVariants.{Net as AtNet}
use Rattle.fnl_flatten.specs.Joints.{OwnPort}
use Rattle.fnl_flatten.specs.Links.{writing_end, reading_end}

pub none_written : (n : ℕ) (input : Bool) (p : ℕ) → 0 < n → None ≡ writing_end (OwnPort n input p)
none_written zero input p above = absurd (omega (arith, above))
none_written (suc n) input p above = refl

pub top_written : (n p : ℕ) → n ≤ 0 → Some (AtNet p) ≡ writing_end (OwnPort n true p)
top_written zero p few = refl
top_written (suc n) p few = absurd (omega (arith, few))

pub output_unwritten : (n p : ℕ) → n ≤ 0 → None ≡ writing_end (OwnPort n false p)
output_unwritten zero p few = refl
output_unwritten (suc n) p few = absurd (omega (arith, few))

pub none_read : (n : ℕ) (input : Bool) (p : ℕ) → 0 < n → None ≡ reading_end (OwnPort n input p)
none_read zero input p above = absurd (omega (arith, above))
none_read (suc n) input p above = refl

pub top_read : (n p : ℕ) → n ≤ 0 → Some (AtNet p) ≡ reading_end (OwnPort n false p)
top_read zero p few = refl
top_read (suc n) p few = absurd (omega (arith, few))

pub input_unread : (n p : ℕ) → n ≤ 0 → None ≡ reading_end (OwnPort n true p)
input_unread zero p few = refl
input_unread (suc n) p few = absurd (omega (arith, few))
