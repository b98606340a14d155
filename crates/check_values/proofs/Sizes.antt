-- How large a value is: the measure of the functions that go through values.
use Rattle.std.proofs.Common.{ℕ, ◌+◌}
use Rattle.cal_model.specs.Value.{Value, Num, Truth, Items, Values, Nil, Cons}

abbrev mutual
  pub value_size : Value → ℕ
  value_size (Num z) = 1
  value_size (Truth b) = 1
  value_size (Items vs) = 2 + values_size vs

  pub values_size : Values → ℕ
  values_size Nil = 1
  values_size (Cons v vs) = 2 + value_size v + values_size vs
