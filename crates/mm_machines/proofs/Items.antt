-- What stands at a definition of an item: its body and its shape.
use Rattle.std.specs.Prelude.{◌≡◌, ℕ, List, map, Contains, Option, None, Some, slice_get}
use Rattle.std.proofs.Common.{◌∙◌, refl, ap}
use Rattle.mm_terms.specs.declared.item.Item.{Item}
use Rattle.mm_terms.specs.declared.item.Item.TheVariants.{Fn, Glue, Shim, Static}
use Rattle.mm_terms.specs.declared.tree.Tree.{Tree}
use Rattle.mm_plain.specs.declared.program.Function.{Function}
use Rattle.mm_plain.specs.declared.program.Program.{Program}
use Rattle.mm_objects.specs.declared.objects.Linkage.{Linkage}
use Rattle.mm_objects.specs.declared.objects.ObjUnit.{ObjUnit}
use Rattle.mm_objects.specs.Emitted.{IsOf, block_of, def_of, item_symbol}
use Rattle.mm_objects.specs.Emitted as emitted
use Rattle.mm_objects.specs.Resolution.{Placed, placed, def_at, target_of, def_blocks}
use Rattle.mm_plain.specs.Uses.{function_of, type_args}
use Rattle.mm_machines.specs.Demand.{body_of, shape_of}
use Rattle.mm_machines.specs.Image.{def_shape}
use Rattle.mm_objects.proofs.Standing.{stands}

module _ (p : Program) where
  body_code : (symbol : List ℕ) (link : Linkage) (args : List Tree) (o : Option Function) → def_blocks (Some (emitted.code_of p symbol link args o)) ≡ map (block_of p args) (body_of o)
  body_code symbol link args None = refl
  body_code symbol link args (Some f) = refl

  body_shape : (symbol : List ℕ) (link : Linkage) (args : List Tree) (o : Option Function) → def_shape (Some (emitted.code_of p symbol link args o)) ≡ shape_of o
  body_shape symbol link args None = refl
  body_shape symbol link args (Some f) = refl

  def_code : (link : Linkage) (x : Item) → def_blocks (Some (def_of p link x)) ≡ map (block_of p (type_args x)) (body_of (function_of p x))
  def_code link (Fn d args) = body_code (item_symbol p (Fn d args)) link args (slice_get p.functions d.0)
  def_code link (Glue t) = refl
  def_code link (Shim t) = refl
  def_code link (Static d) = refl

  shape_law : (link : Linkage) (x : Item) → def_shape (Some (def_of p link x)) ≡ shape_of (function_of p x)
  shape_law link (Fn d args) = body_shape (item_symbol p (Fn d args)) link args (slice_get p.functions d.0)
  shape_law link (Glue t) = refl
  shape_law link (Shim t) = refl
  shape_law link (Static d) = refl

module _ (p : Program) (items : List Item) (us : List ObjUnit) (one : Placed) (x : Item) where
  pub item_code : Contains (placed us) one → IsOf p items x one.def → def_blocks (def_at us (target_of one)) ≡ map (block_of p (type_args x)) (body_of (function_of p x))
  item_code there of = ap def_blocks (stands us one there) ∙ ap (λ d. def_blocks (Some d)) of.is ∙ def_code p of.link x

  pub item_shape : Contains (placed us) one → IsOf p items x one.def → def_shape (def_at us (target_of one)) ≡ shape_of (function_of p x)
  item_shape there of = ap def_shape (stands us one there) ∙ ap (λ d. def_shape (Some d)) of.is ∙ shape_law p of.link x
