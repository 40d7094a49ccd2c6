-- Places, callees and operands name locals that are there, where what they mention breaks no rule.
use Rattle.std.proofs.Common.{◌≡◌, ℕ, ◌+◌, ◌<◌, List, [], nat_lt, not, arith}
use Rattle.std.specs.Prelude.{⊤}
use Rattle.std.proofs.lemmas.Bool.{ltb-false, not-true}
use Rattle.std.proofs.lemmas.List.Elements.{All-head, All-map, All-weaker}
use Rattle.mm_ast.specs.declared.bodies.Callee as callees
use Rattle.mm_ast.specs.declared.bodies.Callee.TheVariants as written
use Rattle.mm_ast.specs.declared.bodies.Called.{Called}
use Rattle.mm_ast.specs.declared.bodies.Called.TheVariants as calls
use Rattle.mm_ast.specs.declared.bodies.Local.{Local}
use Rattle.mm_ast.specs.declared.bodies.Operand as operands
use Rattle.mm_ast.specs.declared.bodies.Operand.TheVariants as values
use Rattle.mm_ast.specs.declared.bodies.Place as places
use Rattle.mm_ast.specs.declared.bodies.Place.TheVariants as bases
use Rattle.mm_definitions.specs.declared.kinds.Kind.TheVariants as kinds
use Rattle.mm_definitions.specs.declared.kinds.Wanted.TheVariants as wants
use Rattle.mm_lower.specs.Callees.{callee_of, operand_of, operands_of, called_of}
use Rattle.mm_lower.specs.Params.{Params}
use Rattle.mm_lower.specs.Paths.{Paths, def_of, place_at}
use Rattle.mm_lower.specs.Places.{place_of}
use Rattle.mm_lower.specs.Types.{type_of, types_of, trait_of}
use Rattle.mm_mentions.specs.BodyMentions.{place_mentions, operand_mentions, operands_mentions, called_mentions}
use Rattle.mm_mentions.specs.declared.frame.Frame.{Frame}
use Rattle.mm_mentions.specs.Frames.{local_mention}
use Rattle.mm_mentions.specs.Scopes as mentions
use Rattle.mm_program.specs.Code.{IsPlaceBelow, IsReadBelow, IsOperandBelow, IsCalleeBelow, AreOperandsBelow}
use Rattle.mm_resolve.specs.Scopes.{Scope}
use Rattle.mm_rules.specs.MentionRules.{broken}
use Rattle.mm_terms.proofs.ListLemmas.{All-from_flat_map}
use Rattle.mm_load.specs.Leads.{Kept}
use Rattle.mm_load.proofs.EveryCallee.{every_direct, every_method, every_call, every_pointer, every_copy, every_move, every_num, every_truth, every_const, every_fn}
use Rattle.mm_load.proofs.MentionsKept.{is_known}

-- a written callee names no local
pub no_locals : (paths : Paths) (params : Params) (n : ℕ) (callee : callees.Callee) → IsCalleeBelow n (callee_of paths params callee)
unfolding callee_of IsCalleeBelow
no_locals paths params n (written.Direct named) =
    every_direct (λ callee. ⊤) (IsReadBelow n) (def_of paths (wants.One kinds.Function) named.path) (types_of paths params named.args) tt
no_locals paths params n (written.Method m) =
    every_method (λ callee. ⊤) (IsReadBelow n) (trait_of paths params m.self_type m.of) (place_at paths kinds.Method m.of.path m.name) (types_of paths params m.args) tt
no_locals paths params n (written.Call c) = every_call (λ callee. ⊤) (IsReadBelow n) (type_of paths params c.self_type) tt

-- the locals of this frame have numbers below n
module _ (paths : Paths) (params : Params) (scope : Scope) (names : mentions.Scope) (frame : Frame) (n : ℕ) (above : frame.params + frame.lets < n) where
  pub local_below : (local : Local) → broken scope (local_mention frame local).what ≡ [] → local.number < n
  local_below local kept =
      let test = nat_lt (frame.params + frame.lets) local.number in
      let within = ltb-false (frame.params + frame.lets) local.number (not-true test (is_known scope (not test) kept)) in
      omega (arith, within, above)

  pub place_below : (place : places.Place) → Kept scope (place_mentions frame place) → IsPlaceBelow n (place_of paths place)
  unfolding place_mentions place_of
  place_below (bases.Local local) kept = local_below local (All-head (λ m. broken scope m.what ≡ []) (local_mention frame local) [] kept)
  place_below (bases.Projection projection) kept = local_below projection.local (All-head (λ m. broken scope m.what ≡ []) (local_mention frame projection.local) [] kept)
  place_below (bases.Static static) kept = tt

  pub operand_below : (o : operands.Operand) → Kept scope (operand_mentions names frame o) → IsOperandBelow n (operand_of paths params o)
  unfolding operand_mentions operand_of IsOperandBelow IsCalleeBelow
  operand_below (values.Copy place) kept = every_copy (λ callee. ⊤) (IsReadBelow n) (place_of paths place) (place_below place kept)
  operand_below (values.Move place) kept = every_move (λ callee. ⊤) (IsReadBelow n) (place_of paths place) (place_below place kept)
  operand_below (values.Number k) kept = every_num (λ callee. ⊤) (IsReadBelow n) k tt
  operand_below (values.Bool b) kept = every_truth (λ callee. ⊤) (IsReadBelow n) b tt
  operand_below (values.Const named) kept =
      every_const (λ callee. ⊤) (IsReadBelow n) (def_of paths (wants.One kinds.Const) named.path) (types_of paths params named.args) tt
  operand_below (values.Fn function) kept = every_fn (λ callee. ⊤) (IsReadBelow n) (callee_of paths params function) tt (no_locals paths params n function)

  pub operands_below : (os : List operands.Operand) → Kept scope (operands_mentions names frame os) → AreOperandsBelow n (operands_of paths params os)
  operands_below os kept =
      All-map (IsOperandBelow n) (operand_of paths params) os
      (All-weaker (λ o. Kept scope (operand_mentions names frame o)) (λ o. IsOperandBelow n (operand_of paths params o)) operand_below os
      (All-from_flat_map (λ m. broken scope m.what ≡ []) (operand_mentions names frame) os kept))

  pub called_below : (called : Called) (count : ℕ) → Kept scope (called_mentions names frame called count) → IsCalleeBelow n (called_of paths params called)
  unfolding called_mentions called_of IsOperandBelow IsCalleeBelow
  called_below (calls.Callee function) count kept = no_locals paths params n function
  called_below (calls.Pointer pointer) count kept = every_pointer (λ callee. ⊤) (IsReadBelow n) (operand_of paths params pointer) tt (operand_below pointer kept)
