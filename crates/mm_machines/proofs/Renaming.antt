-- Values with other names for functions and tables. No form looks at a name, so what is made of renamed values is renamed.
use Rattle.std.specs.Prelude.{◌≡◌, ℕ, ◌+◌, ◌*◌, Bool, true, false, not, ◌&&◌, List, [], ◌∷◌, map, Result, Ok, Err, Option, None, Some, nat_eq, nat_lt, nat_le, slice_get, slice_set}
use Rattle.std.specs.Option.{option_map}
use Rattle.std.proofs.Math.Bool.{beq}
use Rattle.std.proofs.Common.{◌∙◌, refl, sym, ap, subst}
use Rattle.std.proofs.lemmas.List.{map-set}
use Rattle.std.proofs.lemmas.Option.{slice_get-map}
use Rattle.mm_plain.specs.declared.program.Op.{Op}
use Rattle.mm_plain.specs.declared.program.Op.TheVariants.{Add, Sub, Mul, Div, Rem, Eq, Lt}
use Rattle.mm_machines.specs.declared.trap.Trap.{Trap}
use Rattle.mm_machines.specs.declared.trap.Trap.TheVariants as trap
use Rattle.mm_machines.specs.declared.value.Part.{Part}
use Rattle.mm_machines.specs.declared.value.Part.TheVariants.{Field, Variant}
use Rattle.mm_machines.specs.declared.value.Value.{Value}
use Rattle.mm_machines.specs.declared.value.Value.TheOpen.{Value-F, Num, Truth, Agg, Var, Ptr, Fat, Fun, Uninit}
use Rattle.mm_machines.specs.declared.value.Value.TheViews.{out-Value, roll-Value, out-roll-Value, roll-out-Value}
use Rattle.mm_machines.specs.declared.value.Value.TheFolds.{fold-Value, fold-roll-Value, ind-Value, map-Value}
use Rattle.mm_machines.specs.Values.{then_do, checked, found_or, in_range, difference, quotient, remainder, num, truth, uninit, number_of, number_layer, truth_of, truth_layer, choice_of, choice_layer, negated, on_numbers, equal, equal_layer, applied, is_whole, whole_layer, cells_of, cells_layer, depth_of, depth_layer, fits, part_layer, variant_layer, stepped, with_part, with_part_layer, walk, replaced}

-- other names
pub record Renaming (F V G W : Type 0) : Type 0 where
  pub function : F → G
  pub table : V → W

-- a result with something done to it
abbrev pub carry : {A B : Type 0} → (A → B) → Result A Trap → Result B Trap
carry f (Ok a) = Ok (f a)
carry f (Err t) = Err t

pub bind_law : {A C B D : Type 0} (f : A → C) (g : B → D) (r : Result A Trap) (r' : Result C Trap) (go : A → Result B Trap) (go' : C → Result D Trap) → carry f r ≡ r' → ((a : A) → carry g (go a) ≡ go' (f a)) → carry g (then_do r go) ≡ then_do r' go'
bind_law f g (Ok a) r' go go' e each = each a ∙ ap (λ x. then_do x go') e
bind_law f g (Err t) r' go go' e each = ap (λ x. then_do x go') e

-- the same where the result is not of renamed things
pub bind_plain : {A B D : Type 0} (g : B → D) (r r' : Result A Trap) (go : A → Result B Trap) (go' : A → Result D Trap) → r ≡ r' → ((a : A) → carry g (go a) ≡ go' a) → carry g (then_do r go) ≡ then_do r' go'
bind_plain g (Ok a) r' go go' e each = each a ∙ ap (λ x. then_do x go') e
bind_plain g (Err t) r' go go' e each = ap (λ x. then_do x go') e

pub checked_law : {A C : Type 0} (f : A → C) (b : Bool) (t : Trap) (r : Result A Trap) → carry f (checked b t r) ≡ checked b t (carry f r)
checked_law f true t r = refl
checked_law f false t r = refl

pub found_or_law : {A C : Type 0} (f : A → C) (t : Trap) (o : Option A) → carry f (found_or t o) ≡ found_or t (option_map f o)
found_or_law f t None = refl
found_or_law f t (Some a) = refl

module _ (F V G W : Type 0) (r : Renaming F V G W) where
  -- a layer with other names, over anything
  abbrev pub relabel : {C : Type 0} → Value-F F V C → Value-F G W C
  relabel (Num n) = Num n
  relabel (Truth b) = Truth b
  relabel (Agg parts) = Agg parts
  relabel (Var k parts) = Var k parts
  relabel (Ptr a) = Ptr a
  relabel (Fat a v) = Fat a (r.table v)
  relabel (Fun f) = Fun (r.function f)
  relabel Uninit = Uninit

  -- the value with other names
  abbrev pub renamed : Value F V → Value G W
  renamed = fold-Value F V (Value G W) (λ z. roll-Value G W (relabel z))

  -- its outer layer
  abbrev pub rename_layer : Value-F F V (Value F V) → Value-F G W (Value G W)
  rename_layer (Num n) = Num n
  rename_layer (Truth b) = Truth b
  rename_layer (Agg parts) = Agg (map renamed parts)
  rename_layer (Var k parts) = Var k (map renamed parts)
  rename_layer (Ptr a) = Ptr a
  rename_layer (Fat a v) = Fat a (r.table v)
  rename_layer (Fun f) = Fun (r.function f)
  rename_layer Uninit = Uninit

  pub roll_law : (z : Value-F F V (Value F V)) → renamed (roll-Value F V z) ≡ roll-Value G W (rename_layer z)
  roll_law (Num n) = fold-roll-Value F V (Value G W) (λ z. roll-Value G W (relabel z)) (Num n)
  roll_law (Truth b) = fold-roll-Value F V (Value G W) (λ z. roll-Value G W (relabel z)) (Truth b)
  roll_law (Agg parts) = fold-roll-Value F V (Value G W) (λ z. roll-Value G W (relabel z)) (Agg parts)
  roll_law (Var k parts) = fold-roll-Value F V (Value G W) (λ z. roll-Value G W (relabel z)) (Var k parts)
  roll_law (Ptr a) = fold-roll-Value F V (Value G W) (λ z. roll-Value G W (relabel z)) (Ptr a)
  roll_law (Fat a v) = fold-roll-Value F V (Value G W) (λ z. roll-Value G W (relabel z)) (Fat a v)
  roll_law (Fun f) = fold-roll-Value F V (Value G W) (λ z. roll-Value G W (relabel z)) (Fun f)
  roll_law Uninit = fold-roll-Value F V (Value G W) (λ z. roll-Value G W (relabel z)) Uninit

  pub out_law : (v : Value F V) → out-Value G W (renamed v) ≡ rename_layer (out-Value F V v)
  out_law v =
      ap (λ x. out-Value G W (renamed x)) (sym (roll-out-Value F V v)) ∙ ap (out-Value G W) (roll_law (out-Value F V v))
      ∙ out-roll-Value G W (rename_layer (out-Value F V v))

  pub num_law : (n : ℕ) → renamed (num F V n) ≡ num G W n
  num_law n = roll_law (Num n)

  pub truth_law : (b : Bool) → renamed (truth F V b) ≡ truth G W b
  truth_law b = roll_law (Truth b)

  pub uninit_law : renamed (uninit F V) ≡ uninit G W
  uninit_law = roll_law Uninit

  -- ---- what is counted over a value does not see names

  module _ (C : Type 0) (on_old : Value-F F V C → C) (on_new : Value-F G W C → C) (same : (z : Value-F F V C) → on_new (relabel z) ≡ on_old z) where
    abbrev Same : Value F V → Type 0
    Same v = fold-Value G W C on_new (renamed v) ≡ fold-Value F V C on_old v

    abbrev firsts : Value-F F V ((v : Value F V) × Same v) → Value-F F V (Value F V)
    firsts = map-Value F V ((v : Value F V) × Same v) (Value F V) (λ e. e.0)

    all_same : (qs : List ((v : Value F V) × Same v)) → map (fold-Value G W C on_new) (map renamed (map (λ e. e.0) qs)) ≡ map (fold-Value F V C on_old) (map (λ e. e.0) qs)
    all_same [] = refl
    all_same (q ∷ qs) = λ i. q.1 i ∷ all_same qs i

    around : (z : Value-F F V (Value F V)) → map-Value G W (Value G W) C (fold-Value G W C on_new) (rename_layer z) ≡ relabel (map-Value F V (Value F V) C (fold-Value F V C on_old) z) → Same (roll-Value F V z)
    around z e =
        ap (fold-Value G W C on_new) (roll_law z) ∙ fold-roll-Value G W C on_new (rename_layer z) ∙ ap on_new e
        ∙ same (map-Value F V (Value F V) C (fold-Value F V C on_old) z) ∙ sym (fold-roll-Value F V C on_old z)

    on_layer : (y : Value-F F V ((v : Value F V) × Same v)) → Same (roll-Value F V (firsts y))
    on_layer (Agg parts) = around (Agg (map (λ e. e.0) parts)) (ap (λ cs. Agg cs) (all_same parts))
    on_layer (Var k parts) = around (Var k (map (λ e. e.0) parts)) (ap (λ cs. Var k cs) (all_same parts))
    on_layer (Num n) = around (Num n) refl
    on_layer (Truth b) = around (Truth b) refl
    on_layer (Ptr a) = around (Ptr a) refl
    on_layer (Fat a v) = around (Fat a v) refl
    on_layer (Fun f) = around (Fun f) refl
    on_layer Uninit = around Uninit refl

    pub fold_law : (v : Value F V) → Same v
    fold_law = ind-Value F V Same (λ x y e. subst (λ z. Same (roll-Value F V z)) e (on_layer y))

  same_whole : (z : Value-F F V Bool) → whole_layer G W (relabel z) ≡ whole_layer F V z
  same_whole (Agg parts) = refl
  same_whole (Var k parts) = refl
  same_whole (Num n) = refl
  same_whole (Truth b) = refl
  same_whole (Ptr a) = refl
  same_whole (Fat a v) = refl
  same_whole (Fun f) = refl
  same_whole Uninit = refl

  pub whole_law : (v : Value F V) → is_whole G W (renamed v) ≡ is_whole F V v
  whole_law = fold_law Bool (whole_layer F V) (whole_layer G W) same_whole

  same_cells : (z : Value-F F V ℕ) → cells_layer G W (relabel z) ≡ cells_layer F V z
  same_cells (Agg parts) = refl
  same_cells (Var k parts) = refl
  same_cells (Num n) = refl
  same_cells (Truth b) = refl
  same_cells (Ptr a) = refl
  same_cells (Fat a v) = refl
  same_cells (Fun f) = refl
  same_cells Uninit = refl

  same_depth : (z : Value-F F V ℕ) → depth_layer G W (relabel z) ≡ depth_layer F V z
  same_depth (Agg parts) = refl
  same_depth (Var k parts) = refl
  same_depth (Num n) = refl
  same_depth (Truth b) = refl
  same_depth (Ptr a) = refl
  same_depth (Fat a v) = refl
  same_depth (Fun f) = refl
  same_depth Uninit = refl

  pub fits_law : (v : Value F V) → fits G W (renamed v) ≡ fits F V v
  fits_law v =
      ap (λ n. nat_le n 65536 && nat_le (depth_of G W (renamed v)) 512) (fold_law ℕ (cells_layer F V) (cells_layer G W) same_cells v)
      ∙ ap (λ n. nat_le (cells_of F V v) 65536 && nat_le n 512) (fold_law ℕ (depth_layer F V) (depth_layer G W) same_depth v)

  -- ---- what a value is

  number_layer_law : (z : Value-F F V (Value F V)) → number_layer F V z ≡ number_layer G W (rename_layer z)
  number_layer_law (Num n) = refl
  number_layer_law (Truth b) = refl
  number_layer_law (Agg parts) = refl
  number_layer_law (Var k parts) = refl
  number_layer_law (Ptr a) = refl
  number_layer_law (Fat a v) = refl
  number_layer_law (Fun f) = refl
  number_layer_law Uninit = refl

  pub number_of_law : (v : Value F V) → number_of F V v ≡ number_of G W (renamed v)
  number_of_law v = number_layer_law (out-Value F V v) ∙ ap (number_layer G W) (sym (out_law v))

  truth_layer_law : (z : Value-F F V (Value F V)) → truth_layer F V z ≡ truth_layer G W (rename_layer z)
  truth_layer_law (Num n) = refl
  truth_layer_law (Truth b) = refl
  truth_layer_law (Agg parts) = refl
  truth_layer_law (Var k parts) = refl
  truth_layer_law (Ptr a) = refl
  truth_layer_law (Fat a v) = refl
  truth_layer_law (Fun f) = refl
  truth_layer_law Uninit = refl

  pub truth_of_law : (v : Value F V) → truth_of F V v ≡ truth_of G W (renamed v)
  truth_of_law v = truth_layer_law (out-Value F V v) ∙ ap (truth_layer G W) (sym (out_law v))

  choice_layer_law : (z : Value-F F V (Value F V)) → choice_layer F V z ≡ choice_layer G W (rename_layer z)
  choice_layer_law (Num n) = refl
  choice_layer_law (Truth b) = refl
  choice_layer_law (Agg parts) = refl
  choice_layer_law (Var k parts) = refl
  choice_layer_law (Ptr a) = refl
  choice_layer_law (Fat a v) = refl
  choice_layer_law (Fun f) = refl
  choice_layer_law Uninit = refl

  pub choice_of_law : (v : Value F V) → choice_of F V v ≡ choice_of G W (renamed v)
  choice_of_law v = choice_layer_law (out-Value F V v) ∙ ap (choice_layer G W) (sym (out_law v))

  -- ---- operations

  pub negated_law : (v : Value F V) → carry renamed (negated F V v) ≡ negated G W (renamed v)
  negated_law v = bind_plain renamed _ _ _ _ (truth_of_law v) (λ b. ap (λ w. Ok w) (truth_law (not b)))

  on_numbers_law : {A : Type 0} (made : A → Value F V) (made' : A → Value G W) → ((a : A) → renamed (made a) ≡ made' a) → (f : ℕ → ℕ → Result A Trap) (x y : Value F V) → carry renamed (on_numbers F V made f x y) ≡ on_numbers G W made' f (renamed x) (renamed y)
  on_numbers_law made made' same f x y =
      bind_plain renamed _ _ _ _ (number_of_law x) (λ a. bind_plain renamed _ _ _ _ (number_of_law y) (λ b. bind_plain renamed _ _ _ _ (λ i. f a b) (λ c. ap (λ w. Ok w) (same c))))

  equal_layer_law : (z : Value-F F V (Value F V)) (y : Value F V) → equal_layer F V z y ≡ equal_layer G W (rename_layer z) (renamed y)
  equal_layer_law (Num n) y = ap (λ q. then_do q (λ b. Ok (nat_eq n b))) (number_of_law y)
  equal_layer_law (Truth b) y = ap (λ q. then_do q (λ c. Ok (beq b c))) (truth_of_law y)
  equal_layer_law (Agg parts) y = refl
  equal_layer_law (Var k parts) y = refl
  equal_layer_law (Ptr a) y = refl
  equal_layer_law (Fat a v) y = refl
  equal_layer_law (Fun f) y = refl
  equal_layer_law Uninit y = refl

  equal_law : (x y : Value F V) → equal F V x y ≡ equal G W (renamed x) (renamed y)
  equal_law x y = equal_layer_law (out-Value F V x) y ∙ ap (λ z. equal_layer G W z (renamed y)) (sym (out_law x))

  pub applied_law : (op : Op) (x y : Value F V) → carry renamed (applied F V op x y) ≡ applied G W op (renamed x) (renamed y)
  applied_law Add x y = on_numbers_law (num F V) (num G W) num_law (λ a b. in_range (a + b)) x y
  applied_law Sub x y = on_numbers_law (num F V) (num G W) num_law difference x y
  applied_law Mul x y = on_numbers_law (num F V) (num G W) num_law (λ a b. in_range (a * b)) x y
  applied_law Div x y = on_numbers_law (num F V) (num G W) num_law quotient x y
  applied_law Rem x y = on_numbers_law (num F V) (num G W) num_law remainder x y
  applied_law Eq x y = bind_plain renamed _ _ _ _ (equal_law x y) (λ b. ap (λ w. Ok w) (truth_law b))
  applied_law Lt x y = on_numbers_law (truth F V) (truth G W) truth_law (λ a b. Ok (nat_lt a b)) x y

  -- ---- parts

  part_at_law : (k : ℕ) (parts : List (Value F V)) → carry renamed (found_or trap.WrongKind (slice_get parts k)) ≡ found_or trap.WrongKind (slice_get (map renamed parts) k)
  part_at_law k parts = found_or_law renamed trap.WrongKind (slice_get parts k) ∙ ap (found_or trap.WrongKind) (sym (slice_get-map renamed parts k))

  part_layer_law : (k : ℕ) (z : Value-F F V (Value F V)) → carry renamed (part_layer F V k z) ≡ part_layer G W k (rename_layer z)
  part_layer_law k (Agg parts) = part_at_law k parts
  part_layer_law k (Var j parts) = part_at_law k parts
  part_layer_law k (Num n) = refl
  part_layer_law k (Truth b) = refl
  part_layer_law k (Ptr a) = refl
  part_layer_law k (Fat a v) = refl
  part_layer_law k (Fun f) = refl
  part_layer_law k Uninit = refl

  variant_layer_law : (k : ℕ) (z : Value-F F V (Value F V)) → carry renamed (variant_layer F V k z) ≡ variant_layer G W k (rename_layer z)
  variant_layer_law k (Var j parts) = checked_law renamed (nat_eq j k) trap.WrongVariant (Ok (roll-Value F V (Var j parts))) ∙ ap (λ v. checked (nat_eq j k) trap.WrongVariant (Ok v)) (roll_law (Var j parts))
  variant_layer_law k (Agg parts) = refl
  variant_layer_law k (Num n) = refl
  variant_layer_law k (Truth b) = refl
  variant_layer_law k (Ptr a) = refl
  variant_layer_law k (Fat a v) = refl
  variant_layer_law k (Fun f) = refl
  variant_layer_law k Uninit = refl

  stepped_law : (part : Part) (v : Value F V) → carry renamed (stepped F V part v) ≡ stepped G W part (renamed v)
  stepped_law (Field k) v = part_layer_law k (out-Value F V v) ∙ ap (part_layer G W k) (sym (out_law v))
  stepped_law (Variant k) v = variant_layer_law k (out-Value F V v) ∙ ap (variant_layer G W k) (sym (out_law v))

  with_part_layer_law : (k : ℕ) (w : Value F V) (z : Value-F F V (Value F V)) → renamed (with_part_layer F V k w z) ≡ with_part_layer G W k (renamed w) (rename_layer z)
  with_part_layer_law k w (Agg parts) = roll_law (Agg (slice_set parts k w)) ∙ ap (λ l. roll-Value G W (Agg l)) (map-set renamed parts k w)
  with_part_layer_law k w (Var j parts) = roll_law (Var j (slice_set parts k w)) ∙ ap (λ l. roll-Value G W (Var j l)) (map-set renamed parts k w)
  with_part_layer_law k w (Num n) = roll_law (Num n)
  with_part_layer_law k w (Truth b) = roll_law (Truth b)
  with_part_layer_law k w (Ptr a) = roll_law (Ptr a)
  with_part_layer_law k w (Fat a v) = roll_law (Fat a v)
  with_part_layer_law k w (Fun f) = roll_law (Fun f)
  with_part_layer_law k w Uninit = roll_law Uninit

  with_part_law : (part : Part) (w v : Value F V) → renamed (with_part F V part w v) ≡ with_part G W part (renamed w) (renamed v)
  with_part_law (Field k) w v = with_part_layer_law k w (out-Value F V v) ∙ ap (with_part_layer G W k (renamed w)) (sym (out_law v))
  with_part_law (Variant k) w v = refl

  pub walk_law : (path : List Part) (v : Value F V) → carry renamed (walk F V path v) ≡ walk G W path (renamed v)
  walk_law [] v = refl
  walk_law (part ∷ path) v = bind_law renamed renamed _ _ _ _ (stepped_law part v) (walk_law path)

  pub replaced_law : (w : Value F V) (path : List Part) (v : Value F V) → carry renamed (replaced F V w path v) ≡ replaced G W (renamed w) path (renamed v)
  replaced_law w [] v = refl
  replaced_law w (part ∷ path) v =
      bind_law renamed renamed _ _ _ _ (stepped_law part v) (λ old.
      bind_law renamed renamed _ _ _ _ (replaced_law w path old) (λ new. ap (λ x. Ok x) (with_part_law part new v)))
