-- The as-run event by its three values, and its sameness.
use Rattle.std.specs.Prelude.{ℕ, Bool, ◌&&◌, ◌==◌}
use Rattle.columns.specs.declared.asrun.AsRun.{AsRun}
use Rattle.columns.specs.Kinds.{letter_of}

-- The second, the kind's letter and the cart of an event.
abbrev pub values_of : AsRun → ℕ × ℕ × ℕ
values_of e = (e.second, letter_of e.kind, e.cart)

-- Two as-run events are the same where kind and cart are equal.
abbrev pub same_as_run : AsRun → AsRun → Bool
same_as_run x y = letter_of x.kind == letter_of y.kind && x.cart == y.cart

-- An event by its second, its kind's letter and its cart.
abbrev pub Values : Type 0
Values = ℕ × ℕ × ℕ

-- The same test on their values.
abbrev pub same_values : Values → Values → Bool
same_values x y = x.1 == y.1 && x.2 == y.2
