-- Whether 32 bits count the items of lists, so that a kind can say how long they are.
-- Trusted: part of what a promise means.
use Rattle.std.specs.Prelude.{ℕ, suc, Bool, true, ◌&&◌, nat_le, List, [], ◌∷◌}
use Rattle.cal_model.specs.Value.{Value, Num, Truth, Items, Nil, Cons, count}
use Rattle.const_env.specs.Constants.{Constant}

-- the greatest length of a list that a kind can say
abbrev pub most_items : ℕ
most_items = 4294967295

-- of the list that a value is, and of each first item that is a list
abbrev pub is_counted : Value → Bool
is_counted (Num z) = true
is_counted (Truth b) = true
is_counted (Items Nil) = true
is_counted (Items (Cons v vs)) = nat_le (suc (count vs)) most_items && is_counted v

abbrev pub are_counted : List Constant → Bool
are_counted [] = true
are_counted (x ∷ xs) = is_counted x.value && are_counted xs
