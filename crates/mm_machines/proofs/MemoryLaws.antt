-- Memory with other names for functions and tables: what is found, made, read and written is renamed.
use Rattle.std.specs.Prelude.{◌≡◌, ℕ, zero, suc, ◌+◌, Bool, true, false, cond, List, [], ◌∷◌, map, Ok, Option, None, Some, nat_eq}
use Rattle.std.specs.Option.{option_map}
use Rattle.std.proofs.Common.{◌∙◌, refl, sym, ap}
use Rattle.mm_machines.specs.declared.trap.Trap.TheVariants as trap
use Rattle.mm_machines.specs.declared.value.Address.{Address}
use Rattle.mm_machines.specs.declared.allocation.Allocation.{Allocation}
use Rattle.mm_machines.specs.declared.allocation.BlockKind.{BlockKind}
use Rattle.mm_machines.specs.declared.allocation.BlockKind.TheVariants.{Local}
use Rattle.mm_machines.specs.declared.value.Value.{Value}
use Rattle.mm_machines.specs.Values.{checked, fits}
use Rattle.mm_machines.specs.Memory.{Allocations, with_allocation, with_made, with_locals, freed, read, written}
use Rattle.mm_machines.proofs.Renaming.{Renaming, carry, bind_law, checked_law, found_or_law, renamed, walk_law, replaced_law, fits_law}

cond_law : {A B : Type 0} (f : A → B) (b : Bool) (x y : A) → f (cond b x y) ≡ cond b (f x) (f y)
cond_law f true x y = refl
cond_law f false x y = refl

module _ (F V G W : Type 0) (r : Renaming F V G W) where
  abbrev value : Value F V → Value G W
  value = renamed F V G W r

  abbrev pub block_renamed : Allocation F V → Allocation G W
  block_renamed block = record { kind = block.kind; value = value block.value }

  abbrev pub memory_renamed : Allocations F V → Allocations G W
  memory_renamed m = record { found = λ b. option_map block_renamed (m.found b); next = m.next }

  pub with_block_law : (n : ℕ) (o : Option (Allocation F V)) (m : Allocations F V) → memory_renamed (with_allocation F V n o m) ≡ with_allocation G W n (option_map block_renamed o) (memory_renamed m)
  with_block_law n o m = λ i. record { found = λ b. cond_law (option_map block_renamed) (nat_eq b n) o (m.found b) i; next = m.next }

  pub with_made_law : (kind : BlockKind) (v : Value F V) (m : Allocations F V) → memory_renamed (with_made F V kind v m) ≡ with_made G W kind (value v) (memory_renamed m)
  with_made_law kind v m = ap (λ n. record { found = n.found; next = m.next + 1 }) (with_block_law m.next (Some (record { kind = kind; value = v })) m)

  pub with_locals_law : (vs : List (Value F V)) (m : Allocations F V) → memory_renamed (with_locals F V vs m) ≡ with_locals G W (map value vs) (memory_renamed m)
  with_locals_law [] m = refl
  with_locals_law (v ∷ vs) m = with_locals_law vs (with_made F V Local v m) ∙ ap (with_locals G W (map value vs)) (with_made_law Local v m)

  pub freed_law : (first n : ℕ) (m : Allocations F V) → memory_renamed (freed F V first n m) ≡ freed G W first n (memory_renamed m)
  freed_law first zero m = refl
  freed_law first (suc n) m = freed_law (first + 1) n (with_allocation F V first None m) ∙ ap (freed G W (first + 1) n) (with_block_law first None m)

  pub read_law : (a : Address) (m : Allocations F V) → carry value (read F V a m) ≡ read G W a (memory_renamed m)
  read_law a m = bind_law block_renamed value _ _ _ _ (found_or_law block_renamed trap.Dangling (m.found a.block)) (λ block. walk_law F V G W r a.path block.value)

  kept_law : (a : Address) (block : Allocation F V) (w : Value F V) (m : Allocations F V) → carry memory_renamed (checked (fits F V w) trap.TooBig (Ok (with_allocation F V a.block (Some (record block { value = w })) m))) ≡ checked (fits G W (value w)) trap.TooBig (Ok (with_allocation G W a.block (Some (record (block_renamed block) { value = value w })) (memory_renamed m)))
  kept_law a block w m =
      checked_law memory_renamed (fits F V w) trap.TooBig (Ok (with_allocation F V a.block (Some (record block { value = w })) m))
      ∙ ap (λ n. checked (fits F V w) trap.TooBig (Ok n)) (with_block_law a.block (Some (record block { value = w })) m)
      ∙ ap (λ b. checked b trap.TooBig (Ok (with_allocation G W a.block (Some (record (block_renamed block) { value = value w })) (memory_renamed m)))) (sym (fits_law F V G W r w))

  pub written_law : (a : Address) (v : Value F V) (m : Allocations F V) → carry memory_renamed (written F V a v m) ≡ written G W a (value v) (memory_renamed m)
  written_law a v m =
      bind_law block_renamed memory_renamed _ _ _ _ (found_or_law block_renamed trap.Dangling (m.found a.block)) (λ block.
      bind_law value memory_renamed _ _ _ _ (replaced_law F V G W r v a.path block.value) (λ w. kept_law a block w m))
