-- Callees and operands, by what holds of each alone and of what is within it.
use Rattle.std.proofs.Common.{◌≡◌, ℕ, ◌≤◌, Bool, List, length, refl, sym, subst}
use Rattle.std.specs.Option.{IfSome}
use Rattle.mm_program.specs.declared.kind.DefKind.TheVariants as kind
use Rattle.mm_program.specs.declared.operand.Callee.{Callee}
use Rattle.mm_program.specs.declared.operand.Callee.TheFolds.{every-Callee, every-Operand, every_made-Callee, every_made-Operand}
use Rattle.mm_program.specs.declared.operand.Callee.TheOpen as layer
use Rattle.mm_program.specs.declared.operand.Callee.TheVariants as callee
use Rattle.mm_program.specs.declared.operand.Callee.TheVariants.{rolls-Direct, rolls-Method, rolls-Call, rolls-Pointer}
use Rattle.mm_program.specs.declared.operand.Callee.TheViews.{roll-Callee, out-roll-Callee}
use Rattle.mm_program.specs.declared.operand.Operand.{Operand}
use Rattle.mm_program.specs.declared.operand.Operand.TheVariants as operand
use Rattle.mm_program.specs.declared.operand.Operand.TheVariants.{rolls-Copy, rolls-Move, rolls-Num, rolls-Truth, rolls-Const, rolls-Fn}
use Rattle.mm_program.specs.declared.parts.Parts.{Parts}
use Rattle.mm_program.specs.declared.place.Place.{Place}
use Rattle.mm_program.specs.Bodies.{IsPlaceIn, IsCalleeHere, IsOperandHere, IsMethodIn, IsCalleeIn, IsOperandIn, TakesHere, Takes, method_at}
use Rattle.mm_program.specs.Types.{IsTypeIn, AreArgsFor}
use Rattle.mm_program.specs.Views.{IsOfKind, params_of}
use Rattle.mm_terms.specs.declared.head.Head.{Head}
use Rattle.mm_terms.specs.declared.ids.DefId.{DefId}
use Rattle.mm_terms.specs.declared.tree.Tree.{Tree}

abbrev pub IsCallee : Parts → ℕ → Callee → Type 0
IsCallee p n = every-Callee (IsCalleeHere p n) (IsOperandHere p n)

abbrev pub IsOperand : Parts → ℕ → Operand → Type 0
IsOperand p n = every-Operand (IsCalleeHere p n) (IsOperandHere p n)

pub direct_in : (p : Parts) (n : ℕ) (d : DefId) (args : List Tree) → IsOfKind p d kind.Fn × AreArgsFor p n d args → IsCallee p n (callee.Direct d args)
direct_in p n d args here = subst (IsCallee p n) (rolls-Direct d args) (every_made-Callee (IsCalleeHere p n) (IsOperandHere p n) (layer.Direct d args) (layer.Direct d args) refl here)

pub at_method : (p : Parts) (n : ℕ) (head : Head) (m : ℕ) (own : List Tree) → IsMethodIn p n head m own → IsCallee p n (callee.Method head m own)
at_method p n head m own here = subst (IsCallee p n) (rolls-Method head m own) (every_made-Callee (IsCalleeHere p n) (IsOperandHere p n) (layer.Method head m own) (layer.Method head m own) refl here)

pub at_call : (p : Parts) (n : ℕ) (t : Tree) → IsTypeIn p n t → IsCallee p n (callee.Call t)
at_call p n t here = subst (IsCallee p n) (rolls-Call t) (every_made-Callee (IsCalleeHere p n) (IsOperandHere p n) (layer.Call t) (layer.Call t) refl here)

behind : (p : Parts) (n : ℕ) (o : Operand) → IsOperand p n o → IsCallee p n (callee.Pointer o)
behind p n o here = subst (IsCallee p n) (rolls-Pointer o) (every_made-Callee (IsCalleeHere p n) (IsOperandHere p n) (layer.Pointer o) (layer.Pointer (o, here)) refl tt)

pub copy_of : (p : Parts) (n : ℕ) (place : Place) → IsPlaceIn p place → IsOperand p n (operand.Copy place)
copy_of p n place here = subst (IsOperand p n) (rolls-Copy place) (every_made-Operand (IsCalleeHere p n) (IsOperandHere p n) (layer.Copy place) (layer.Copy place) refl here)

pub move_of : (p : Parts) (n : ℕ) (place : Place) → IsPlaceIn p place → IsOperand p n (operand.Move place)
move_of p n place here = subst (IsOperand p n) (rolls-Move place) (every_made-Operand (IsCalleeHere p n) (IsOperandHere p n) (layer.Move place) (layer.Move place) refl here)

pub number_in : (p : Parts) (n k : ℕ) → IsOperand p n (operand.Num k)
number_in p n k = subst (IsOperand p n) (rolls-Num k) (every_made-Operand (IsCalleeHere p n) (IsOperandHere p n) (layer.Num k) (layer.Num k) refl tt)

pub truth_in : (p : Parts) (n : ℕ) (b : Bool) → IsOperand p n (operand.Truth b)
truth_in p n b = subst (IsOperand p n) (rolls-Truth b) (every_made-Operand (IsCalleeHere p n) (IsOperandHere p n) (layer.Truth b) (layer.Truth b) refl tt)

pub at_const : (p : Parts) (n : ℕ) (d : DefId) (args : List Tree) → IsOfKind p d kind.Const × AreArgsFor p n d args → IsOperand p n (operand.Const d args)
at_const p n d args here = subst (IsOperand p n) (rolls-Const d args) (every_made-Operand (IsCalleeHere p n) (IsOperandHere p n) (layer.Const d args) (layer.Const d args) refl here)

pub function_value : (p : Parts) (n : ℕ) (c : Callee) → IsCallee p n c → IsOperand p n (operand.Fn c)
function_value p n c here = subst (IsOperand p n) (rolls-Fn c) (every_made-Operand (IsCalleeHere p n) (IsOperandHere p n) (layer.Fn c) (layer.Fn (c, here)) refl tt)

pub every_callee : (p : Parts) (n : ℕ) (c : Callee) → IsCalleeIn p n c → IsCallee p n c
unfolding IsCalleeIn
every_callee p n c is = is

pub pointer_in : (p : Parts) (n : ℕ) (o : Operand) → IsOperandIn p n o → IsCalleeIn p n (callee.Pointer o)
unfolding IsCalleeIn IsOperandIn
pointer_in p n o is = behind p n o is

-- ---- with how many operands each is called

takes_above : (p : Parts) (l : layer.Callee-F Callee Operand) (c : Callee) (k : ℕ) → roll-Callee l ≡ c → TakesHere p l k → Takes p c k
takes_above p l c k rolls here = subst (λ d. Takes p d k) rolls (subst (λ m. TakesHere p m k) (sym (out-roll-Callee l)) here)

pub direct_takes : (p : Parts) (d : DefId) (args : List Tree) (k : ℕ) → k ≡ length (params_of p d) → Takes p (callee.Direct d args) k
direct_takes p d args k here = takes_above p (layer.Direct d args) (callee.Direct d args) k (rolls-Direct d args) here

pub at_method_takes : (p : Parts) (head : Head) (m : ℕ) (own : List Tree) (k : ℕ) → IfSome (method_at p head.tr m) (λ method. k ≡ length (params_of p method)) → Takes p (callee.Method head m own) k
at_method_takes p head m own k here = takes_above p (layer.Method head m own) (callee.Method head m own) k (rolls-Method head m own) here

pub at_call_takes : (p : Parts) (t : Tree) (k : ℕ) → 1 ≤ k → Takes p (callee.Call t) k
at_call_takes p t k here = takes_above p (layer.Call t) (callee.Call t) k (rolls-Call t) here

pub pointer_takes : (p : Parts) (o : Operand) (k : ℕ) → Takes p (callee.Pointer o) k
pointer_takes p o k = takes_above p (layer.Pointer o) (callee.Pointer o) k (rolls-Pointer o) tt
