-- Values: kinds, parts, and what is made of values. A reading that meets another kind traps.
use Rattle.std.specs.Prelude.{ℕ, ◌+◌, ◌-◌, ◌*◌, ◌/◌, ◌%◌, ◌^◌, max, Bool, true, false, cond, not, ◌&&◌, List, [], ◌∷◌, sum, Result, Ok, Err, Option, None, Some, nat_eq, nat_lt, nat_le, slice_get, slice_set}
use Rattle.std.specs.List.{list_all}
use Rattle.std.proofs.Math.Bool.{beq}
use Rattle.mm_plain.specs.declared.program.Op.{Op}
use Rattle.mm_plain.specs.declared.program.Op.TheVariants.{Add, Sub, Mul, Div, Rem, Eq, Lt}
use Rattle.mm_machines.specs.declared.trap.Trap.{Trap}
use Rattle.mm_machines.specs.declared.trap.Trap.TheVariants as trap
use Rattle.mm_machines.specs.declared.value.Part.{Part}
use Rattle.mm_machines.specs.declared.value.Part.TheVariants.{Field, Variant}
use Rattle.mm_machines.specs.declared.value.Value.{Value}
use Rattle.mm_machines.specs.declared.value.Value.TheOpen.{Value-F, Num, Truth, Agg, Var, Uninit}
use Rattle.mm_machines.specs.declared.value.Value.TheViews.{out-Value, roll-Value}
use Rattle.mm_machines.specs.declared.value.Value.TheFolds.{fold-Value}

-- goes on with a result, or traps
abbrev pub then_do : {A B : Type 0} → Result A Trap → (A → Result B Trap) → Result B Trap
then_do (Ok a) go = go a
then_do (Err t) go = Err t

-- a result where the test holds, and else the trap
abbrev pub checked : Bool → {A : Type 0} → Trap → Result A Trap → Result A Trap
checked true t r = r
checked false t r = Err t

-- what is there, or the trap
abbrev pub found_or : {A : Type 0} → Trap → Option A → Result A Trap
found_or t None = Err t
found_or t (Some a) = Ok a

-- the greatest of some numbers, and 0 where there is none
abbrev pub greatest : List ℕ → ℕ
greatest [] = 0
greatest (n ∷ ns) = max n (greatest ns)

-- ---- arithmetic

-- a number in the range of `u64`
abbrev pub in_range : ℕ → Result ℕ Trap
in_range n = checked (nat_lt n (2 ^ 64)) trap.Overflow (Ok n)

abbrev pub difference : ℕ → ℕ → Result ℕ Trap
difference x y = checked (nat_le y x) trap.Overflow (Ok (x - y))

abbrev pub quotient : ℕ → ℕ → Result ℕ Trap
quotient x y = checked (not (nat_eq y 0)) trap.DivZero (Ok (x / y))

abbrev pub remainder : ℕ → ℕ → Result ℕ Trap
remainder x y = checked (not (nat_eq y 0)) trap.DivZero (Ok (x % y))

module _ (F V : Type 0) where
  -- ---- values by their outer kind

  abbrev pub num : ℕ → Value F V
  num n = roll-Value F V (Num n)

  abbrev pub truth : Bool → Value F V
  truth b = roll-Value F V (Truth b)

  abbrev pub uninit : Value F V
  uninit = roll-Value F V Uninit

  abbrev pub number_layer : Value-F F V (Value F V) → Result ℕ Trap
  number_layer (Num n) = Ok n
  number_layer _ = Err trap.WrongKind

  -- the number that a value is
  abbrev pub number_of : Value F V → Result ℕ Trap
  number_of v = number_layer (out-Value F V v)

  abbrev pub truth_layer : Value-F F V (Value F V) → Result Bool Trap
  truth_layer (Truth b) = Ok b
  truth_layer _ = Err trap.WrongKind

  -- the truth value that a value is
  abbrev pub truth_of : Value F V → Result Bool Trap
  truth_of v = truth_layer (out-Value F V v)

  abbrev pub choice_layer : Value-F F V (Value F V) → Result ℕ Trap
  choice_layer (Num n) = Ok n
  choice_layer (Truth b) = Ok (cond b 1 0)
  choice_layer _ = Err trap.WrongKind

  -- the number by which a switch chooses: `false` is 0 and `true` is 1
  abbrev pub choice_of : Value F V → Result ℕ Trap
  choice_of v = choice_layer (out-Value F V v)

  -- ---- operations

  -- the other truth value
  abbrev pub negated : Value F V → Result (Value F V) Trap
  negated v = then_do (truth_of v) (λ b. Ok (truth (not b)))

  -- an operation on two numbers
  abbrev pub on_numbers : {A : Type 0} → (A → Value F V) → (ℕ → ℕ → Result A Trap) → Value F V → Value F V → Result (Value F V) Trap
  on_numbers made f x y = then_do (number_of x) (λ a. then_do (number_of y) (λ b. then_do (f a b) (λ c. Ok (made c))))

  abbrev pub equal_layer : Value-F F V (Value F V) → Value F V → Result Bool Trap
  equal_layer (Num a) y = then_do (number_of y) (λ b. Ok (nat_eq a b))
  equal_layer (Truth a) y = then_do (truth_of y) (λ b. Ok (beq a b))
  equal_layer _ y = Err trap.WrongKind

  -- whether two numbers, or two truth values, are equal
  abbrev pub equal : Value F V → Value F V → Result Bool Trap
  equal x y = equal_layer (out-Value F V x) y

  -- what an operation makes of two values
  abbrev pub applied : Op → Value F V → Value F V → Result (Value F V) Trap
  applied Add = on_numbers num (λ a b. in_range (a + b))
  applied Sub = on_numbers num difference
  applied Mul = on_numbers num (λ a b. in_range (a * b))
  applied Div = on_numbers num quotient
  applied Rem = on_numbers num remainder
  applied Eq = λ x y. then_do (equal x y) (λ b. Ok (truth b))
  applied Lt = on_numbers truth (λ a b. Ok (nat_lt a b))

  -- ---- the cells of a value

  abbrev pub whole_layer : Value-F F V Bool → Bool
  whole_layer (Agg parts) = list_all (λ b. b) parts
  whole_layer (Var k parts) = list_all (λ b. b) parts
  whole_layer Uninit = false
  whole_layer _ = true

  -- whether each cell has a value
  abbrev pub is_whole : Value F V → Bool
  is_whole = fold-Value F V Bool whole_layer

  abbrev pub cells_layer : Value-F F V ℕ → ℕ
  cells_layer (Agg counts) = 1 + sum counts
  cells_layer (Var k counts) = 1 + sum counts
  cells_layer _ = 1

  -- how many cells there are
  abbrev pub cells_of : Value F V → ℕ
  cells_of = fold-Value F V ℕ cells_layer

  abbrev pub depth_layer : Value-F F V ℕ → ℕ
  depth_layer (Agg depths) = 1 + greatest depths
  depth_layer (Var k depths) = 1 + greatest depths
  depth_layer _ = 1

  -- how many cells there are on the longest path from the root
  abbrev pub depth_of : Value F V → ℕ
  depth_of = fold-Value F V ℕ depth_layer

  -- whether an allocation can hold it
  abbrev pub fits : Value F V → Bool
  fits v = nat_le (cells_of v) 65536 && nat_le (depth_of v) 512

  -- ---- parts

  abbrev pub part_layer : ℕ → Value-F F V (Value F V) → Result (Value F V) Trap
  part_layer k (Agg parts) = found_or trap.WrongKind (slice_get parts k)
  part_layer k (Var j parts) = found_or trap.WrongKind (slice_get parts k)
  part_layer k Uninit = Err trap.Uninit
  part_layer k _ = Err trap.WrongKind

  abbrev pub variant_layer : ℕ → Value-F F V (Value F V) → Result (Value F V) Trap
  variant_layer k (Var j parts) = checked (nat_eq j k) trap.WrongVariant (Ok (roll-Value F V (Var j parts)))
  variant_layer k Uninit = Err trap.Uninit
  variant_layer k _ = Err trap.WrongKind

  -- one step into a value
  abbrev pub stepped : Part → Value F V → Result (Value F V) Trap
  stepped (Field k) v = part_layer k (out-Value F V v)
  stepped (Variant k) v = variant_layer k (out-Value F V v)

  abbrev pub with_part_layer : ℕ → Value F V → Value-F F V (Value F V) → Value F V
  with_part_layer k w (Agg parts) = roll-Value F V (Agg (slice_set parts k w))
  with_part_layer k w (Var j parts) = roll-Value F V (Var j (slice_set parts k w))
  with_part_layer k w other = roll-Value F V other

  -- the value with another instead of what the step resolves to
  abbrev pub with_part : Part → Value F V → Value F V → Value F V
  with_part (Field k) w v = with_part_layer k w (out-Value F V v)
  with_part (Variant k) w v = w

  -- what a path resolves to
  abbrev pub walk : List Part → Value F V → Result (Value F V) Trap
  walk [] v = Ok v
  walk (part ∷ path) v = then_do (stepped part v) (walk path)

  -- the value with another instead of what the path resolves to
  abbrev pub replaced : Value F V → List Part → Value F V → Result (Value F V) Trap
  replaced w [] v = Ok w
  replaced w (part ∷ path) v = then_do (stepped part v) (λ old. then_do (replaced w path old) (λ new. Ok (with_part part new v)))
