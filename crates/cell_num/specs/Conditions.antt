-- The conditions of the branches on ints (JVMS 6.5, if<cond> and if_icmp<cond>).
use Rattle.std.specs.Prelude.{◌≡◌, ◌≢◌, ℕ, ℤ, ◌<ℤ◌, ◌≤ℤ◌, Bool, not, int_lt, int_le}
use Rattle.std.specs.Ordering.{int_eq}
use Rattle.cell_num.specs.declared.conditions.Cond.{Cond}
use Rattle.cell_num.specs.declared.conditions.Cond.TheVariants.{Eq, Ne, Lt, Ge, Gt, Le}

-- the number by which formats and instructions name a condition
abbrev pub condition_code : Cond → ℕ
condition_code Eq = 0
condition_code Ne = 1
condition_code Lt = 2
condition_code Ge = 3
condition_code Gt = 4
condition_code Le = 5

-- the two ints stand to one another as the condition says
abbrev pub Holds : Cond → ℤ → ℤ → Type 0
Holds Eq a b = a ≡ b
Holds Ne a b = a ≢ b
Holds Lt a b = a <ℤ b
Holds Ge a b = b ≤ℤ a
Holds Gt a b = b <ℤ a
Holds Le a b = a ≤ℤ b

-- the same as a test
abbrev pub is_met : Cond → ℤ → ℤ → Bool
is_met Eq a b = int_eq a b
is_met Ne a b = not (int_eq a b)
is_met Lt a b = int_lt a b
is_met Ge a b = int_le b a
is_met Gt a b = int_lt b a
is_met Le a b = int_le a b
