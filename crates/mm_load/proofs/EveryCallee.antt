-- What holds of each callee and of each operand within a callee or an operand, by what holds of the outermost.
use Rattle.std.proofs.Common.{ℕ, List, Bool, refl, subst}
use Rattle.mm_terms.specs.declared.head.Head.{Head}
use Rattle.mm_terms.specs.declared.ids.DefId.{DefId}
use Rattle.mm_terms.specs.declared.tree.Tree.{Tree}
use Rattle.mm_program.specs.declared.operand.Callee.{Callee}
use Rattle.mm_program.specs.declared.operand.Callee.TheFolds.{every-Callee, every-Operand, every_made-Callee, every_made-Operand}
use Rattle.mm_program.specs.declared.operand.Callee.TheOpen as layer
use Rattle.mm_program.specs.declared.operand.Callee.TheVariants as callee
use Rattle.mm_program.specs.declared.operand.Operand.{Operand}
use Rattle.mm_program.specs.declared.operand.Operand.TheVariants as operand
use Rattle.mm_program.specs.declared.place.Place.{Place}

-- P is said of a callee and Q of an operand, but for what is within them
module _ (P : layer.Callee-F Callee Operand → Type 0) (Q : layer.Operand-F Callee Operand → Type 0) where
  pub every_direct : (d : DefId) (args : List Tree) → P (layer.Direct d args) → every-Callee P Q (callee.Direct d args)
  every_direct d args here = subst (every-Callee P Q) (callee.rolls-Direct d args) (every_made-Callee P Q (layer.Direct d args) (layer.Direct d args) refl here)

  pub every_method : (head : Head) (m : ℕ) (own : List Tree) → P (layer.Method head m own) → every-Callee P Q (callee.Method head m own)
  every_method head m own here = subst (every-Callee P Q) (callee.rolls-Method head m own) (every_made-Callee P Q (layer.Method head m own) (layer.Method head m own) refl here)

  pub every_call : (t : Tree) → P (layer.Call t) → every-Callee P Q (callee.Call t)
  every_call t here = subst (every-Callee P Q) (callee.rolls-Call t) (every_made-Callee P Q (layer.Call t) (layer.Call t) refl here)

  pub every_pointer : (only : Operand) → P (layer.Pointer only) → every-Operand P Q only → every-Callee P Q (callee.Pointer only)
  every_pointer only here within = subst (every-Callee P Q) (callee.rolls-Pointer only) (every_made-Callee P Q (layer.Pointer only) (layer.Pointer (only, within)) refl here)

  pub every_copy : (place : Place) → Q (layer.Copy place) → every-Operand P Q (operand.Copy place)
  every_copy place here = subst (every-Operand P Q) (operand.rolls-Copy place) (every_made-Operand P Q (layer.Copy place) (layer.Copy place) refl here)

  pub every_move : (place : Place) → Q (layer.Move place) → every-Operand P Q (operand.Move place)
  every_move place here = subst (every-Operand P Q) (operand.rolls-Move place) (every_made-Operand P Q (layer.Move place) (layer.Move place) refl here)

  pub every_num : (k : ℕ) → Q (layer.Num k) → every-Operand P Q (operand.Num k)
  every_num k here = subst (every-Operand P Q) (operand.rolls-Num k) (every_made-Operand P Q (layer.Num k) (layer.Num k) refl here)

  pub every_truth : (b : Bool) → Q (layer.Truth b) → every-Operand P Q (operand.Truth b)
  every_truth b here = subst (every-Operand P Q) (operand.rolls-Truth b) (every_made-Operand P Q (layer.Truth b) (layer.Truth b) refl here)

  pub every_const : (d : DefId) (args : List Tree) → Q (layer.Const d args) → every-Operand P Q (operand.Const d args)
  every_const d args here = subst (every-Operand P Q) (operand.rolls-Const d args) (every_made-Operand P Q (layer.Const d args) (layer.Const d args) refl here)

  pub every_fn : (only : Callee) → Q (layer.Fn only) → every-Callee P Q only → every-Operand P Q (operand.Fn only)
  every_fn only here within = subst (every-Operand P Q) (operand.rolls-Fn only) (every_made-Operand P Q (layer.Fn only) (layer.Fn (only, within)) refl here)
